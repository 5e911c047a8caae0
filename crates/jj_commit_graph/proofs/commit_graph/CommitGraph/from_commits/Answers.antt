use Rattle.std.proofs.Common.{◌≡◌, ◌∙◌, ◌+◌, ◌++◌, ◌∷◌, All, ap, drop, subst, sym, take}
use Rattle.std.specs.List.{Contains}
use Rattle.std.proofs.lemmas.List.{drop_more, take-append-drop}
use Rattle.jj_commit_graph.proofs.commit_graph.CommitGraph.from_commits.Goals as goal

pub add_commit-requires-clause-parents : goal.add_commit-requires-clause-parents
add_commit-requires-clause-parents c =
    let commits = c.args.commits.now in
    let i = c.loop-commit.commit-index in
    let commit = c.commit-item.result in
    let split : commits ≡ take i commits ++ commit ∷ drop (i + 1) commits =
    sym (take-append-drop i commits) ∙ ap (λ l. take i commits ++ l) (drop_more commits i commit c.loop-commit-test.true) ∙ ap (λ x. take i commits ++ x ∷ drop (i + 1) commits) (sym c.commit-item.is) in
    let known = (c.requires (take i commits) (drop (i + 1) commits) commit split).0 in
    subst (All (Contains c.loop-commit.numbering.ids.items)) (sym (c.deref.ensures.value ∙ ap (λ x. x.commit.parents) c.commit.view_is))
    (subst (λ l. All (Contains l) commit.commit.parents) (sym c.loop-commit.invariant.ids) known)

pub add_commit-requires-clause-new : goal.add_commit-requires-clause-new
add_commit-requires-clause-new c =
    let commits = c.args.commits.now in
    let i = c.loop-commit.commit-index in
    let commit = c.commit-item.result in
    let split : commits ≡ take i commits ++ commit ∷ drop (i + 1) commits =
    sym (take-append-drop i commits) ∙ ap (λ l. take i commits ++ l) (drop_more commits i commit c.loop-commit-test.true) ∙ ap (λ x. take i commits ++ x ∷ drop (i + 1) commits) (sym c.commit-item.is) in
    let fresh = (c.requires (take i commits) (drop (i + 1) commits) commit split).1 in
    λ among. fresh (subst (λ l. Contains l commit.id) c.loop-commit.invariant.ids (subst (Contains c.loop-commit.numbering.ids.items) (ap (λ x. x.id) c.commit.view_is) among))
