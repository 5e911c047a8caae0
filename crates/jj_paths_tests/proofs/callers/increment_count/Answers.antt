use Rattle.std.proofs.Common.{◌≡◌, ◌+◌, min, Result, Ok, Err, IfOk, IsOk, refl, ◌∙◌, ap, subst}
use Rattle.std.specs.Prelude.{unwrap_or}
use Rattle.jj_paths.specs.Names.{path_of}
use Rattle.jj_paths.specs.Tree.{WritesAt}
use Rattle.jj_paths_tests.proofs.SetValues.{borrowed_before, borrowed_after, borrowed_others}
use Rattle.jj_paths_tests.proofs.callers.increment_count.Goals as goal

-- a property of the result of a call that succeeded
of_ok : {B E : Type 0} (answer : Result B E) (lent : B) (P : B → Type 0) → answer ≡ Ok lent → (IsOk answer → IfOk answer P) → P lent
of_ok (Ok other) lent P is holds = let same : other ≡ lent = cc in subst P same (holds refl)
of_ok (Err e) lent P is holds = cc

pub returns-clause-counted : goal.returns-clause-counted
returns-clause-counted c =
    let edited = of_ok c.add.result c.in_ok-node.node (λ node. WritesAt (λ v. v ≡ 0) c.args.counts.now (path_of c.args.path) node.now c.set_value.new.self (c.add.follows.lender c.set_value.new.self)) c.in_ok-node.was (c.add.follows.holds c.set_value.new.self) in
    let set = subst (λ t. WritesAt (λ v. v ≡ 0) c.args.counts.now (path_of c.args.path) c.in_ok-node.node.now t (c.add.follows.lender c.set_value.new.self)) c.set_value.ensures edited in
    borrowed_after (λ v. v ≡ 0) (λ o. unwrap_or o 0) (λ v e. e) _ _ _ _ _ set ∙ c.saturating_add.ensures
    ∙ ap (λ n. min (n + 1) 18446744073709551615) (c.value-count.ensures ∙ borrowed_before (λ v. v ≡ 0) (λ o. unwrap_or o 0) (λ v e. e) _ _ _ _ _ set)

pub returns-clause-others : goal.returns-clause-others
returns-clause-others c =
    let edited = of_ok c.add.result c.in_ok-node.node (λ node. WritesAt (λ v. v ≡ 0) c.args.counts.now (path_of c.args.path) node.now c.set_value.new.self (c.add.follows.lender c.set_value.new.self)) c.in_ok-node.was (c.add.follows.holds c.set_value.new.self) in
    let set = subst (λ t. WritesAt (λ v. v ≡ 0) c.args.counts.now (path_of c.args.path) c.in_ok-node.node.now t (c.add.follows.lender c.set_value.new.self)) c.set_value.ensures edited in
    borrowed_others (λ v. v ≡ 0) (λ o. unwrap_or o 0) (λ v e. e) _ _ _ _ _ set
