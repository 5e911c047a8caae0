use Rattle.std.proofs.Common.{◌≡◌, ℕ, ◌+◌, ◌-◌, ◌<◌, List, length, map, reverse, drop, get_or, ap, ◌∙◌, subst, arith}
use Rattle.jj_diff.specs.declared.diff.hunks.DiffHunk.{DiffHunk}
use Rattle.jj_diff.specs.Inputs.{bytes_of}
use Rattle.jj_diff.specs.Refined.{AreHunksOf, joined, view_of}
use Rattle.jj_diff.proofs.Joining.{AreStartsAt, starts_less, start_at, joined_more}
use Rattle.jj_diff.proofs.diff.refine.join_hunks.Goals as goal

pub loop-count-preserved : goal.loop-count-preserved
loop-count-preserved c =
    let hs : List DiffHunk = c.args.hunks.now in
    let inputs : List (List ℕ) = bytes_of c.args.inputs.now in
    let h : DiffHunk = c.index-hunks-hunks.result in
    let k : ℕ = length hs - (c.loop-count.count + 1) in
    let lt : k < length hs = omega (arith, c.loop-count-test.true) in
    let next : length hs - c.loop-count.count ≡ k + 1 = omega (arith, c.loop-count-test.true) in
    let index : length hs - 1 - c.loop-count.count ≡ k = omega arith in
    let e : h ≡ get_or hs k h = subst (λ n. h ≡ get_or hs n h) index c.index-hunks-hunks.is in
    let starts : AreHunksOf inputs hs → AreStartsAt inputs hs k c.in_ok-starts-2.starts.items =
    λ of. starts_less inputs hs of k h c.loop-count.starts.items c.in_ok-starts-2.starts.items lt e
    (subst (λ n. AreStartsAt inputs hs n c.loop-count.starts.items) next (c.loop-count.invariant.starts of))
    (c.in_ok-starts-2.ensures.len ∙ ap length c.deref.ensures.value)
    (rw (c.deref.ensures.value, c.deref-in-loop-count.ensures.value) at c.in_ok-starts-2.ensures.starts) in
    let same : AreHunksOf inputs hs → map view_of (reverse c.loop-count.reversed.items) ≡ joined (map view_of (drop (k + 1) hs)) =
    λ of. c.loop-count.invariant.joined of ∙ ap (λ n. joined (map view_of (drop n hs))) next in
    record {
      starts = starts;
      joined = λ of. joined_more inputs hs of k h (map view_of (reverse c.loop-count.reversed.items)) (map view_of (reverse c.push_joined.new.reversed.items)) lt e (same of)
          ((rw c.deref-in-loop-count-2.ensures.value at c.in_ok-push_joined.ensures)
          (start_at inputs hs of k h c.in_ok-starts-2.starts.items (map view_of (reverse c.loop-count.reversed.items)) lt e (starts of) (same of)));
    }
