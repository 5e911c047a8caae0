-- Iterators that a merge is built from.
-- Cited by contracts of public items: IsFiniteSource, YieldsAll, diff_terms.
use Rattle.std.specs.Prelude.{List, [], ◌∷◌, Option}
use Rattle.std.specs.Iterator.{Count, Drains, IsFinite, IsFiniteIterable}
use Rattle.std.specs.declared.iter.IntoIterator as into
use Rattle.std.specs.declared.iter.Iterator as iter
use Rattle.jj_merges.specs.declared.merge.diffs.Diff.{Diff}

-- the iterator of this source is finite
abbrev pub IsFiniteSource : {U S A : Type 0} → into.Ghosts U A S → iter.Ghosts S A → U → Type 0
IsFiniteSource value items source = IsFiniteIterable value.into_iter_gives items.can_next
    items.remaining source

-- the source's iterator, run to its end, yields exactly these items
abbrev pub YieldsAll : {U S A : Type 0} → (U → S → Type 0) → (S → Option A → S → Type 0) → U
    → List A → Type 0
YieldsAll {U} {S} {A} becomes steps source items = (it : S) × becomes source it
    × Drains steps it items

-- an iterator in this state may be advanced, and is finite
abbrev pub IsFiniteFrom : {S : Type 0} → (S → Type 0) → (S → Count) → S → Type 0
IsFiniteFrom can_next remaining state = can_next state × IsFinite (remaining state)

-- the terms of the diffs in order: of each the value before, then the value after
abbrev pub diff_terms : {T : Type 0} → List (Diff T) → List T
diff_terms [] = []
diff_terms (d ∷ ds) = d.before ∷ d.after ∷ diff_terms ds
