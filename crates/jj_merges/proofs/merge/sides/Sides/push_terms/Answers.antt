use Rattle.std.proofs.Common.{◌∙◌, ◌++◌, ◌∷◌, ap, append-nil, arith, length, refl, sym}
use Rattle.jj_merges.specs.Merge.{adds, removes}
use Rattle.jj_merges.proofs.CallLaws.{item-moved}
use Rattle.jj_merges.proofs.merge.sides.Sides.push_terms.Goals as goal

pub loop-add-init : goal.loop-add-init
loop-add-init g c = (refl, refl)

pub loop-add-smaller : goal.loop-add-smaller
loop-add-smaller g c = omega (arith, ap length c.in-Some.ensures.steps, ap length c.in-Some-next.ensures.steps)

pub loop-add-preserved : goal.loop-add-preserved
loop-add-preserved g c =
    let now = c.loop-add.invariant in
    let add = c.in-Some.add in
    let rest = c.next-in-Some.new.self in
    let taken = c.in-Some.ensures.steps ∙ ap (λ xs. add ∷ xs) c.in-Some-next.ensures.steps in (
      item-moved c.in-Some-next.remove c.loop-add.self.removes.items c.push-in-Some-next.new.self.items (removes rest) _ c.in_ok-push-in-Some-next.ensures.items
          (sym (ap (λ xs. c.loop-add.self.removes.items ++ removes xs) taken) ∙ now.0),
      item-moved add c.loop-add.self.adds.items c.push.new.self.items (adds rest) _ c.in_ok-push.ensures.items
          (sym (ap (λ xs. c.loop-add.self.adds.items ++ adds xs) taken) ∙ now.1),
    )

pub returns-clause-removes : goal.returns-clause-removes
returns-clause-removes g c =
    let all = ap (λ xs. c.loop-add.self.removes.items ++ removes xs) (sym c.in_default.ensures.steps.0) in
    sym (append-nil c.loop-add.self.removes.items) ∙ (all ∙ c.loop-add.invariant.0)

pub returns-clause-adds : goal.returns-clause-adds
returns-clause-adds g c =
    let all = ap (λ xs. c.loop-add.self.adds.items ++ adds xs) (sym c.in_default.ensures.steps.0) in
    sym (append-nil c.loop-add.self.adds.items) ∙ (all ∙ c.loop-add.invariant.1)
