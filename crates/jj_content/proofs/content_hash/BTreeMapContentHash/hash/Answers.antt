use Rattle.std.proofs.Common.{◌≡◌, ◌++◌, ◌∷◌, [], length, map, sym, ap, ◌∙◌, subst, Bor}
use Rattle.std.specs.Prelude.{All}
use Rattle.std.specs.List.{flat_map}
use Rattle.std.specs.Map.Iter.{deref_pair}
use Rattle.std.proofs.lemmas.List.{map-append, append_assoc}
use Rattle.std.proofs.lemmas.List.Elements.{All-push}
use Rattle.std.proofs.lemmas.Map.Iter.{rest_more}
use Rattle.jj_content.specs.Content.{Absorbs, u64_content, list_content, entry_content}
use Rattle.jj_content.proofs.AbsorbedPrefixes.{absorbs_more, prefix_more, on_err_from}
use Rattle.jj_content.proofs.content_hash.BTreeMapContentHash.hash.Goals as goal

pub returns-in_err-hash_both-clause-err : goal.returns-in_err-hash_both-clause-err
unfolding list_content
returns-in_err-hash_both-clause-err g c =
    let left = rest_more deref_pair c.loop-key.key-iterator c.next.new.self c.next.result (c.in-Some.key, c.in-Some.value) c.in-Some.is c.next.ensures.steps in
    on_err_from c.from_residual.result
    (prefix_more g.D.DigestUpdate.absorbed (entry_content g.K.ContentHash.content g.V.ContentHash.content) c.args.state.now c.loop-key.state c.hash_both.new.state
    (u64_content (length c.args.self.now.entries)) (map deref_pair c.loop-key.yielded) (c.in-Some.key.now, c.in-Some.value.now) c.next.new.self c.args.self.now.entries
    (ap (λ z. map deref_pair c.loop-key.yielded ++ z) (sym left) ∙ c.loop-key.invariant.left) c.loop-key.invariant.taken c.in_err-hash_both.ensures.err)

pub loop-key-preserved : goal.loop-key-preserved
loop-key-preserved g c =
    let x : Bor g.row.K.Denot × Bor g.row.V.Denot = (c.in-Some.key, c.in-Some.value) in
    let left = rest_more deref_pair c.loop-key.key-iterator c.next.new.self c.next.result x c.in-Some.is c.next.ensures.steps in
    let done = map deref_pair c.loop-key.yielded in
    let more : map deref_pair (c.loop-key.yielded ++ x ∷ []) ≡ done ++ deref_pair x ∷ [] = map-append deref_pair c.loop-key.yielded (x ∷ []) in
    let is_value : g.row.K.Denot × g.row.V.Denot → Type 0 = λ e. g.K.ContentHash.is_value e.0 × g.V.ContentHash.is_value e.1 in
    let content = entry_content g.K.ContentHash.content g.V.ContentHash.content in
    let taken = absorbs_more g.D.DigestUpdate.absorbed content c.args.state.now c.loop-key.state c.hash_both.new.state
    (u64_content (length c.args.self.now.entries)) done (deref_pair x) c.loop-key.invariant.taken c.in_ok-hash_both.ensures.ok in
    record {
      can = tt;
      ends = tt;
      left = ap (λ z. z ++ c.next.new.self) more ∙ append_assoc done (deref_pair x ∷ []) c.next.new.self ∙ ap (λ z. done ++ z) (sym left) ∙ c.loop-key.invariant.left;
      taken = subst (λ z. Absorbs g.D.DigestUpdate.absorbed c.args.state.now c.hash_both.new.state (u64_content (length c.args.self.now.entries) ++ flat_map content z)) (sym more) taken;
      values = subst (All is_value) (sym more) (All-push is_value done (deref_pair x) c.loop-key.invariant.values c.in_ok-hash_both.ensures.value);
    }
