use Rattle.std.proofs.Common.{◌≡◌, ◌+◌, ◌-◌, ◌∙◌, List, ℕ, Some, length, take, drop, ap, arith, refl, length-drop}
use Rattle.std.proofs.lemmas.List.{take_all}
use Rattle.jj_fast_import.proofs.Splits.{prepended-nil, split_found, split_next, split_nowhere}
use Rattle.jj_fast_import.proofs.words.split_once.Goals as goal

pub loop-len-init : goal.loop-len-init
loop-len-init c = record { within = omega arith; so = prepended-nil _ _ refl }

pub loop-len-preserved : goal.loop-len-preserved
loop-len-preserved c = record {
  within = omega arith;
  so = split_next c.args.byte c.loop-len.len c.args.bytes.now c.loop-len.invariant.so c.loop-len-test.true c.if-bytes-len.false;
}

pub returns-then-bytes-len : goal.returns-then-bytes-len
returns-then-bytes-len c =
    let xs = c.args.bytes.now in
    let i = c.loop-len.len in
    let whole : take (length xs - (i + 1)) (drop (i + 1) xs) ≡ drop (i + 1) xs = take_all _ _ (omega (arith, length-drop (i + 1) xs)) in
    ap (λ (rest : List ℕ). Some (take i xs, rest)) whole ∙
    split_found c.args.byte c.loop-len.len c.args.bytes.now c.loop-len.invariant.so c.loop-len-test.true c.if-bytes-len.true

pub returns : goal.returns
returns c = split_nowhere c.args.byte c.loop-len.len c.args.bytes.now c.loop-len.invariant.so c.loop-len-test.false
