use Rattle.std.proofs.Common.{◌≡◌, ◌-◌, ◌≤◌, length, take}
use Rattle.std.specs.Prelude.{count_by}
use Rattle.std.specs.Str.{bytes_eq}
use Rattle.jj_merges.specs.Merge as merge
use Rattle.jj_program.specs.Lines.{Text}
use Rattle.jj_program.proofs.merge_outcome.count_of.Given as goal

abbrev pub invariant-loop-index : goal.invariant-loop-index
invariant-loop-index l = record {
  adds : l.adds ≡ count_by (λ (x : Text). bytes_eq l.value x.now) (merge.adds (take l.index l.terms));
  removes : l.removes ≡ count_by (λ (x : Text). bytes_eq l.value x.now) (merge.removes (take l.index l.terms));
  few_adds : l.adds ≤ l.index;
  few_removes : l.removes ≤ l.index;
  within : l.index ≤ length l.terms;
}

abbrev pub decreases-loop-index : goal.decreases-loop-index
decreases-loop-index l = length l.terms - l.index
