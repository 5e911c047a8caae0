use Rattle.std.proofs.Common.{◌≡◌, ◌≤◌, ◌<◌, ◌-◌, drop, length, get_or, true, false}
use Rattle.std.specs.Char.{is_ascii_whitespace}
use Rattle.jj_diff.specs.Whitespace.{form_of}
use Rattle.jj_diff.proofs.diff.whitespace.is_same_form.Given as goal

abbrev pub invariant-loop-at : goal.invariant-loop-at
invariant-loop-at l = record {
  within : l.at ≤ length l.left;
  other_within : l.other ≤ length l.right;
  word : l.all ≡ true → l.at < length l.left → is_ascii_whitespace (get_or l.left l.at 0) ≡ false;
  other_word : l.all ≡ true → l.other < length l.right → is_ascii_whitespace (get_or l.right l.other 0) ≡ false;
  on : form_of l.all (drop l.at l.left) ≡ form_of l.all (drop l.other l.right) → form_of l.all l.left ≡ form_of l.all l.right;
  back : form_of l.all l.left ≡ form_of l.all l.right → form_of l.all (drop l.at l.left) ≡ form_of l.all (drop l.other l.right);
}

abbrev pub decreases-loop-at : goal.decreases-loop-at
decreases-loop-at l = length l.left - l.at
