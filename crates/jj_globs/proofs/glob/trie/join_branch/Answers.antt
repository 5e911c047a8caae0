use Rattle.std.proofs.Common.{rules, arith, ◌≡◌, ◌∙◌, ◌-◌, ◌++◌, ◌∷◌, ap, sym, subst, reverse, length, [], List}
use Rattle.std.proofs.lemmas.List.{reverse-append, length-reverse}
use Rattle.jj_globs.specs.declared.glob.step.Step.{Step}
use Rattle.jj_globs.specs.declared.glob.step.Step.TheVariants.{Fork}
use Rattle.jj_globs.specs.declared.glob.trie.Branch.{Branch}
use Rattle.jj_globs.specs.GlobTrie.{JoinsBranch}
use Rattle.jj_globs.proofs.Tries.{joined}
use Rattle.jj_globs.proofs.glob.trie.join_branch.Goals as goal

pub returns-in_ok-push : goal.returns-in_ok-push
returns-in_ok-push c =
    let branch = c.in-Some.branch.now in
    let old = c.args.steps.now.items in
    let left = c.pop.new.self.items in
    let split : c.args.branches.now.items ≡ left ++ branch ∷ [] = search rules in
    let turned : reverse c.args.branches.now.items ≡ branch ∷ reverse left =
    ap reverse split ∙ reverse-append left (branch ∷ []) in
    let far : c.saturating_sub.result ≡ length (reverse old) - branch.state =
    omega (arith, c.saturating_sub.ensures, c.len.ensures, length-reverse old) in
    let pushed : c.push.new.self.items ≡ old ++ Fork (length (reverse old) - branch.state) ∷ [] =
    c.in_ok-push.ensures.items ∙ ap (λ n. old ++ Fork n ∷ []) far in
    let grown : reverse c.push.new.self.items ≡ Fork (length (reverse old) - branch.state) ∷ reverse old =
    ap reverse pushed ∙ reverse-append old (Fork (length (reverse old) - branch.state) ∷ []) in
    subst (λ (bs : List Branch). JoinsBranch c.args.depth (reverse old) bs (reverse c.push.new.self.items) (reverse left)) (sym turned)
    (subst (λ (ss : List Step). JoinsBranch c.args.depth (reverse old) (branch ∷ reverse left) ss (reverse left)) (sym grown)
    (joined c.args.depth (reverse old) branch (reverse left) c.if-branch-depth.true))
