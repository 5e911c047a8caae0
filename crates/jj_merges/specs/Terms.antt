-- Storage of a merge's terms: inline if there is one, else in a heap allocation.
-- Cited by contracts of public items: items.
use Rattle.std.specs.Prelude.{◌≡◌, List, length}
use Rattle.std.specs.Vec as vec
use Rattle.arrayvec.specs.ArrayVec as inline
use Rattle.jj_merges.specs.Merge.{IsOdd}
use Rattle.jj_merges.specs.declared.merge.storage.Terms.{Terms}
use Rattle.jj_merges.specs.declared.merge.storage.Terms.TheVariants.{Inline, Heap}

module _ {T : Type 0} where
  -- the stored terms, in order
  abbrev pub items : Terms T → List T
  items (Inline v) = v.items
  items (Heap v) = v.items

  -- the invariant of a merge: an odd number of terms, and exactly one if they are inline
  abbrev pub IsMergeStorage : Terms T → Type 0
  IsMergeStorage (Inline v) = length v.items ≡ 1
  IsMergeStorage (Heap v) = IsOdd (length v.items)

  -- the invariant of a builder, whose number of terms may be even: inline storage contains exactly
  -- one
  abbrev pub InlineHasOne : Terms T → Type 0
  InlineHasOne (Inline v) = length v.items ≡ 1
  InlineHasOne (Heap v) = Unit {0}

  abbrev pub IsOnHeap : Terms T → Type 0
  IsOnHeap (Inline v) = ⊥
  IsOnHeap (Heap v) = Unit {0}

  -- the storage after its terms were overwritten through a slice
  abbrev pub terms_with_items : Terms T → List T → Terms T
  terms_with_items (Inline v) xs = Inline (inline.with_items v xs)
  terms_with_items (Heap v) xs = Heap (vec.with_items v xs)
