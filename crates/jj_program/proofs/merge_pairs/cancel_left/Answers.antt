use Rattle.std.proofs.Common.{◌≡◌, ◌∙◌, ℕ, List, false, [], ◌++◌, ap, arith, drop, get_or, length, length-append, length-drop, subst, sym, take}
use Rattle.std.specs.Prelude.{IfSome}
use Rattle.std.proofs.lemmas.List.{get_or_default, length-take}
use Rattle.jj_program.specs.Lines.{Text}
use Rattle.jj_program.specs.PairedTerms.{IsLeftOpposite}
use Rattle.jj_program.proofs.PairedTerms.{pair_gone}
use Rattle.jj_program.proofs.merge_pairs.cancel_left.Goals as goal
use Rattle.jj_program.proofs.merge_pairs.cancel_left.Goals.{then-index+in-Some, then-index+in_default, else-index}

-- the default value out of range
abbrev no_text : Text
no_text = record { ref_ptr = (0, 0); now = [] }

-- the length of a list that is written back
written_back : (n : ℕ) (new old : List ℕ) → n ≡ length old → length new ≡ length old → length (take n (new ++ drop (length new) old)) ≡ length old
written_back n new old whole size =
    omega (arith, length-take n (new ++ drop (length new) old), length-append new (drop (length new) old), length-drop (length new) old, whole, size)

pub loop-index-preserved : goal.loop-index-preserved
loop-index-preserved c =
    let xs = c.args.terms.now in
    let i = c.loop-index.index in
    let flags = c.loop-index.left.items in
    let flag : get_or flags i false ≡ c.index.result.now =
    get_or_default flags i false c.index.result.now (omega (arith, c.loop-index.invariant.left.size)) ∙ sym c.index.ensures in
    elim c.if-index.branch [
      | then-index+in-Some w ↦
          let hints = written_back c.loop-index.hints.len w.find_opposite.new.hints c.loop-index.hints.items (omega (arith, c.loop-index.hints.ok.0))
          (omega (arith, w.find_opposite.ensures.hints, ap length w.deref_mut.ensures.value)) in
          let found = subst (λ flags. IfSome w.find_opposite.result (IsLeftOpposite xs flags i)) w.deref.ensures.value w.find_opposite.ensures.opposite in
          let pair = subst (λ found. IfSome found (IsLeftOpposite xs flags i)) w.in-Some.is found in
          rw (w.left-is, w.hints-is) (record {
            left = pair_gone xs flags w.in-Some.other i no_text c.loop-index.invariant.left (omega arith) (flag ∙ w.if-index.true) pair;
            some = omega (arith, hints, c.loop-index.invariant.some);
            few = omega (arith, hints, c.loop-index.invariant.few);
            within = omega arith;
          })
      | then-index+in_default w ↦
          let hints = written_back c.loop-index.hints.len w.find_opposite.new.hints c.loop-index.hints.items (omega (arith, c.loop-index.hints.ok.0))
          (omega (arith, w.find_opposite.ensures.hints, ap length w.deref_mut.ensures.value)) in
          rw (w.left-is, w.hints-is) (record {
            left = c.loop-index.invariant.left;
            some = omega (arith, hints, c.loop-index.invariant.some);
            few = omega (arith, hints, c.loop-index.invariant.few);
            within = omega arith;
          })
      | else-index w ↦
          rw (w.left-is, w.hints-is) (record {
            left = c.loop-index.invariant.left;
            some = c.loop-index.invariant.some;
            few = c.loop-index.invariant.few;
            within = omega arith;
          })
    ]
