use Rattle.std.proofs.Common.{subst}
use Rattle.std.proofs.lemmas.Result.{on_ok_weaker}
use Rattle.jj_content.specs.Content.{AreValues}
use Rattle.jj_content.specs.HashTableProofs.{values_from_sorted}
use Rattle.jj_content.proofs.content_hash.HashSetContentHash.hash.Goals as goal

pub returns-clause-value : goal.returns-clause-value
returns-clause-value g c =
    on_ok_weaker c.hash_members.result
    (λ values. (
      c.in_ok-members.ensures.unique,
      values_from_sorted g.K.Ord.cmp g.K.ContentHash.is_value c.args.self.now.keys
          (subst (AreValues g.K.ContentHash.is_value) c.in_ok-members.ensures.members values),
    ))
    c.hash_members.ensures.value
