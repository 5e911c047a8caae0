-- Lines of a byte string, and iteration over matching items of a list.
-- Cited by contracts of public items: YieldsNext, YieldsNextLine.
use Rattle.std.specs.Prelude.{◌≡◌, ℕ, suc, ◌==◌, if◌then◌else◌, List, [], ◌∷◌, ◌++◌, All, Option, Some, None, Result, Ok, Err}
use Rattle.std.specs.Borrow.{Bor}
use Rattle.std.specs.declared.alloc.AllocError.{AllocError}

-- prepends a byte to the first line
abbrev pub with_byte : ℕ → List (List ℕ) → List (List ℕ)
with_byte b [] = (b ∷ []) ∷ []
with_byte b (l ∷ ls) = (b ∷ l) ∷ ls

-- the lines, each with its line feed
abbrev pub lines : List ℕ → List (List ℕ)
lines [] = []
lines (b ∷ bs) = if b == 10 then (b ∷ []) ∷ lines bs else with_byte b (lines bs)

-- a line without its line feed
abbrev pub without_line_feed : List ℕ → List ℕ
without_line_feed [] = []
without_line_feed (b ∷ []) = if b == 10 then [] else b ∷ []
without_line_feed (b ∷ c ∷ bs) = b ∷ without_line_feed (c ∷ bs)

-- the length of the first line with its line feed
abbrev pub first_len : List ℕ → ℕ
first_len [] = 0
first_len (b ∷ bs) = if b == 10 then 1 else suc (first_len bs)

-- One step of an iterator over the items of a list that satisfy P, where `view` is the value of a
-- yielded item: it skips items until the first that satisfies P, and yields this one. At the end,
-- and after an error, no item is left. An error occurs only if CanFail.
abbrev pub YieldsNext : {R X : Type 0} → (R → X) → (X → Type 0) → Type 0 → List X
    → Option (Result R AllocError) → List X → Type 0
YieldsNext view P CanFail old None left = All (λ x. P x → ⊥) old × (left ≡ [])
YieldsNext {X = X} view P CanFail old (Some (Ok item)) left =
    (passed : List X) × All (λ x. P x → ⊥) passed × P (view item)
    × (old ≡ passed ++ view item ∷ left)
YieldsNext view P CanFail old (Some (Err e)) left = CanFail × (left ≡ [])

-- one step of an iterator over the lines that are in the set without their line feeds
abbrev pub YieldsNextLine : (List ℕ → Type 0) → Type 0 → List ℕ
    → Option (Result (Bor (List ℕ)) AllocError) → List ℕ → Type 0
YieldsNextLine InSet CanFail old r left =
    YieldsNext (λ (line : Bor (List ℕ)). line.now) (λ line. InSet (without_line_feed line)) CanFail
    (lines old) r (lines left)
