use Rattle.std.proofs.Common.{◌≡◌, ◌-◌, ◌∙◌, map, length, sym, subst, arith}
use Rattle.std.specs.List.Sorted.{IsPermutation}
use Rattle.std.proofs.lemmas.List.{length-map}
use Rattle.std.proofs.lemmas.List.Sorted.{IsPermutation-map, IsPermutation-trans, length_permutation}
use borrow.Rule.Slice.PartMut.{put_mid}
use Rattle.jj_matchers.specs.KeyedMarks.{keyed_path}
use Rattle.jj_matchers.proofs.SortedMarks.{put_permuted}
use Rattle.jj_matchers.proofs.matchers.marks.+sort_by_keys.Goals as goal

pub returns-then-depth-ge-MAX_KEYS : goal.returns-then-depth-ge-MAX_KEYS
returns-then-depth-ge-MAX_KEYS t c = IsPermutation-map keyed_path c.args.marks.now c.sort_unstable_by_key.new.self c.sort_unstable_by_key.ensures.permutation

pub returns-then-marks-le-SMALL_LIST : goal.returns-then-marks-le-SMALL_LIST
returns-then-marks-le-SMALL_LIST t c =
    subst (λ l. IsPermutation l (map keyed_path c.sort_unstable_by.new.self)) c.set_keys.ensures (IsPermutation-map keyed_path c.set_keys.new.marks c.sort_unstable_by.new.self c.sort_unstable_by.ensures.permutation)

pub loop-start-preserved : goal.loop-start-preserved
loop-start-preserved t c =
    let start = c.loop-start.start in
    let count = c.run_end-end.result - start in
    let now = c.loop-start.marks in
    let part = c.sort_by_keys.new.marks in
    let moved : IsPermutation (map keyed_path now) (map keyed_path (put_mid start count now part)) = put_permuted keyed_path start count now part c.sort_by_keys.ensures in
    let long : length (put_mid start count now part) ≡ length now = sym (length-map (put_mid start count now part) keyed_path) ∙ length_permutation _ _ moved ∙ length-map now keyed_path in
    record {
      moved = IsPermutation-trans _ _ _ c.loop-start.invariant.moved moved;
      in_range = omega (arith, long, c.run_end-end.ensures.in_range);
    }

pub returns : goal.returns
returns t c =
    let sorted = c.sort_unstable_by_key-2.new.self in
    IsPermutation-trans _ _ _
    (subst (λ l. IsPermutation l (map keyed_path sorted)) c.set_keys.ensures (IsPermutation-map keyed_path c.set_keys.new.marks sorted c.sort_unstable_by_key-2.ensures.permutation))
    c.loop-start.invariant.moved
