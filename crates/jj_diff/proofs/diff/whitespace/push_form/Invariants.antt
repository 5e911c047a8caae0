use Rattle.std.proofs.Common.{◌≡◌, ◌≤◌, ◌<◌, ◌-◌, ◌++◌, drop, length, get_or, true, false}
use Rattle.std.specs.Char.{is_ascii_whitespace}
use Rattle.jj_diff.specs.Whitespace.{form_of}
use Rattle.jj_diff.proofs.diff.whitespace.push_form.Given as goal

abbrev pub invariant-loop-at : goal.invariant-loop-at
invariant-loop-at l = record {
  within : l.at ≤ length l.text;
  word : l.all ≡ true → l.at < length l.text → is_ascii_whitespace (get_or l.text l.at 0) ≡ false;
  done : l.initial.form.items ++ form_of l.all l.text ≡ l.form.items ++ form_of l.all (drop l.at l.text);
}

abbrev pub decreases-loop-at : goal.decreases-loop-at
decreases-loop-at l = length l.text - l.at
