use Rattle.std.proofs.Common.{arith, ◌≡◌, ◌∷◌, [], true, false, List, ℕ, subst}
use Rattle.jj_log.specs.Numbers.{is_elided}
use Rattle.jj_log.specs.Targets.{AddsNew, targets_at}
use Rattle.jj_log.proofs.Adding.{adds_put}
use Rattle.jj_log.proofs.NearTargets.{adds_via, via_elided, via_itself}
use Rattle.jj_log.proofs.targets.insert_via.Goals as goal

pub returns-then-not-is_elided_at : goal.returns-then-not-is_elided_at
returns-then-not-is_elided_at c =
    let kept : is_elided c.args.commits.now c.args.parent ≡ false = grind (arith) in
    adds_via c.args.commits.now c.args.parent (c.args.parent ∷ []) c.args.targets.now c.insert.new.self (via_itself c.args.commits.now c.args.parent kept)
    (adds_put c.args.targets.now c.insert.new.self c.args.parent c.in_ok-insert.field-0 c.in_ok-insert.ensures.added c.in_ok-insert.ensures.keys)

pub returns : goal.returns
returns c =
    let elided : is_elided c.args.commits.now c.args.parent ≡ true = grind (arith) in
    let all = via_elided c.args.commits.now c.args.parent (targets_at c.args.known.now c.args.parent) elided (c.requires elided) in
    adds_via c.args.commits.now c.args.parent (targets_at c.args.known.now c.args.parent) c.args.targets.now c.insert_all.new.set all
    (subst (λ (l : List ℕ). AddsNew l c.args.targets.now c.insert_all.new.set) c.list_at.ensures c.in_ok-insert_all.ensures)
