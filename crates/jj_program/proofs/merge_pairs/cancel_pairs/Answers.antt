use Rattle.std.proofs.Common.{◌≡◌, ◌∙◌, Bool, List, ◌++◌, ◌∷◌, true, false, [], ap, arith, cond, get_or, sym, take}
use Rattle.std.specs.Prelude.{count_by}
use Rattle.std.proofs.lemmas.List.{get_or_default, take_all}
use Rattle.jj_program.specs.Lines.{Text}
use Rattle.jj_program.specs.MergeViews.{text_eq}
use Rattle.jj_program.specs.PairedTerms.{left_adds, left_removes}
use Rattle.jj_program.proofs.PairedTerms.{more_even, more_odd, sides_kept}
use Rattle.jj_program.proofs.merge_pairs.cancel_pairs.Goals as goal
use Rattle.jj_program.proofs.merge_pairs.cancel_pairs.Goals.{then-index+then-index-eq0+in_ok-push, then-index+else-index-eq0+in_ok-push-2, else-index}

-- the default value out of range
abbrev no_text : Text
no_text = record { ref_ptr = (0, 0); now = [] }

by_flag : (b c : Bool) (ys : List Text) (x : Text) → b ≡ c → let zs : List Text = cond b (ys ++ x ∷ []) ys in zs ≡ cond c (ys ++ x ∷ []) ys
by_flag b c ys x h = ap (λ (b : Bool). let zs : List Text = cond b (ys ++ x ∷ []) ys in zs) h

pub loop-index-preserved : goal.loop-index-preserved
loop-index-preserved c =
    let xs = c.args.terms.now in
    let flags = c.in_ok-left.left.items in
    let i = c.loop-index.index in
    let x = get_or xs i no_text in
    let size = c.in_ok-left.ensures.size in
    let adds = left_adds (take i flags) (take i xs) in
    let removes = left_removes (take i flags) (take i xs) in
    let flag : get_or flags i false ≡ c.index.result.now = get_or_default flags i false c.index.result.now (omega (arith, size)) ∙ sym c.index.ensures in
    let even = more_even xs flags i no_text c.loop-index-test.true size in
    let odd = more_odd xs flags i no_text c.loop-index-test.true size in
    elim c.if-index.branch [
      | then-index+then-index-eq0+in_ok-push w ↦
          let more = even (omega arith) in
          rw (w.adds-is, w.removes-is) (record {
            adds = w.in_ok-push.ensures.items ∙ ap (λ ys. ys ++ x ∷ []) c.loop-index.invariant.adds
                ∙ sym (more.0 ∙ by_flag _ true adds x (flag ∙ w.if-index.true));
            removes = c.loop-index.invariant.removes ∙ sym more.1;
            within = omega arith;
          })
      | then-index+else-index-eq0+in_ok-push-2 w ↦
          let more = odd (omega arith) in
          rw (w.adds-is, w.removes-is) (record {
            adds = c.loop-index.invariant.adds ∙ sym more.0;
            removes = w.in_ok-push-2.ensures.items ∙ ap (λ ys. ys ++ x ∷ []) c.loop-index.invariant.removes
                ∙ sym (more.1 ∙ by_flag _ true removes x (flag ∙ w.if-index.true));
            within = omega arith;
          })
      | else-index w ↦
          let sides = sides_kept xs flags i no_text c.loop-index-test.true size (flag ∙ w.if-index.false) in
          rw (w.adds-is, w.removes-is) (record {
            adds = c.loop-index.invariant.adds ∙ sym sides.0;
            removes = c.loop-index.invariant.removes ∙ sym sides.1;
            within = omega arith;
          })
    ]

pub returns-clause-counts : goal.returns-clause-counts
returns-clause-counts c = λ v.
    let xs = c.args.terms.now in
    let flags = c.in_ok-left.left.items in
    let all = c.in_ok-left.ensures in
    let i = c.loop-index.index in
    let whole = λ (side : List Bool → List Text → List Text).
    ap (λ flags. side flags (take i xs)) (take_all i flags (omega (arith, all.size))) ∙ ap (side flags) (take_all i xs (omega arith)) in
    let added = ap (count_by (text_eq v)) (c.loop-index.invariant.adds ∙ whole left_adds) in
    let removed = ap (count_by (text_eq v)) (c.loop-index.invariant.removes ∙ whole left_removes) in
    omega (arith, added, removed, all.counts v)
