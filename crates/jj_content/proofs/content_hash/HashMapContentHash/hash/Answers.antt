use Rattle.std.proofs.Common.{subst}
use Rattle.std.specs.Ordering.{on}
use Rattle.std.proofs.lemmas.Result.{on_ok_weaker}
use Rattle.jj_content.specs.Content.{AreValues}
use Rattle.jj_content.specs.HashTableProofs.{values_from_sorted}
use Rattle.jj_content.proofs.content_hash.HashMapContentHash.hash.Goals as goal

pub returns-clause-value : goal.returns-clause-value
returns-clause-value g c =
    let is_value : g.row.K.Denot × g.row.V.Denot → Type 0 = λ e. g.K.ContentHash.is_value e.0 × g.V.ContentHash.is_value e.1 in
    on_ok_weaker c.hash_pairs.result
    (λ values. (c.in_ok-pairs.ensures.unique, values_from_sorted (on (λ e. e.0) g.K.Ord.cmp) is_value c.args.self.now.entries (subst (AreValues is_value) c.in_ok-pairs.ensures.pairs values)))
    c.hash_pairs.ensures.value
