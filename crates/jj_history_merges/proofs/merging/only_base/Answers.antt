use Rattle.std.proofs.Common.{◌≡◌, ◌∙◌, ◌<◌, ◌≤◌, ◌∷◌, [], ℕ, List, ap, arith, get_or, length, refl, subst, sym}
use Rattle.jj_store_walks.specs.Histories.{AreMergeBases}
use Rattle.jj_store_walks.specs.declared.read_commit.ReadCommit.{ReadCommit}
use Rattle.jj_history_merges.proofs.Yielded.{pushed_first, single}
use Rattle.jj_history_merges.proofs.merging.only_base.Goals as goal

pub returns-in-len1 : goal.returns-in-len1
returns-in-len1 g c =
    let store = g.B.Backend.objects c.args.store.now in
    let first = c.args.first.now ∷ [] in
    let base = c.base-item.result in
    let others : c.deref.result.now ≡ c.args.second.now ∷ [] =
    c.deref.ensures.value ∙ pushed_first c.new-others.result.items c.push.new.self.items c.in_ok-clone.field-0 c.new-others.ensures.items c.in_ok-push.ensures.items
    ∙ ap (λ (id : List ℕ). id ∷ []) c.in_ok-clone.ensures.cases in
    let found : c.in_ok-found.found.items ≡ base ∷ [] =
    sym c.as_slice.ensures.value ∙ single c.as_slice.result.now base c.in-len1.len_at_least c.in-len1.len_below c.base-item.is in (
      base,
      sym c.in_ok-clone-in-len1.ensures.cases,
      subst (λ (ids : List (List ℕ)). AreMergeBases store first ids (base ∷ [])) others
          (subst (λ (l : List ReadCommit). AreMergeBases store first c.deref.result.now l) found c.in_ok-found.ensures.bases),
    )
