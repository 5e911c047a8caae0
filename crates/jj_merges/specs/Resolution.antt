-- Trivial resolution: a merge has one outcome if its signed counts leave a single candidate.
-- Cited by contracts of public items: ResolvesTo.
use Rattle.std.specs.Prelude.{◌≡◌, ◌≢◌, Bool, true, List, pos, ◌<ℤ◌}
use Rattle.jj_merges.specs.Merge.{signed_count}
use Rattle.jj_merges.specs.declared.merge.SameChange.{SameChange}
use Rattle.jj_merges.specs.declared.merge.SameChange.TheVariants.{Keep, Accept}

module _ {T : Type 0} (eq : T → T → Bool) where
  -- The merge m resolves to v. `Keep`: v has signed count 1, and all other values have 0.
  -- `Accept`: v is the only value with a positive count, and at most one value has a negative one.
  abbrev pub ResolvesTo : SameChange → List T → T → Type 0
  ResolvesTo Keep m v = (signed_count eq m v ≡ pos 1)
      × ((w : T) → signed_count eq m w ≢ pos 0 → eq v w ≡ true)
  ResolvesTo Accept m v = (pos 0 <ℤ signed_count eq m v)
      × ((w : T) → pos 0 <ℤ signed_count eq m w → eq v w ≡ true)
      × ((w x : T) → signed_count eq m w <ℤ pos 0 → signed_count eq m x <ℤ pos 0 → eq w x ≡ true)
