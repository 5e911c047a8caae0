-- Contents found at an offset in a byte string, and errors about them.
-- Cited by contracts of public items: AreBoth, AreItems, DecodesTo, FitsLength, IsContentAt,
-- IsCounted, IsErrorAt, IsMalformedAt, IsString, both_content, counted_content.
use Rattle.std.specs.Prelude.{◌≡◌, ℕ, ◌<◌, ◌≤◌, ◌^◌, List, ◌++◌, length, drop, All, Bool, true, Result, Ok, Err, ⊤}
use Rattle.std.specs.List.{AllByRecursion}
use Rattle.std.specs.List.Sorted.{IsStrictlySortedBy}
use Rattle.std.specs.Map.{keys_of}
use Rattle.std.specs.Str.{IsUtf8}
use Rattle.std.specs.declared.cmp.Ordering.{Ordering}
use Rattle.std.specs.declared.cmp.Ordering.TheVariants.{Less}
use Rattle.jj_content.specs.Content.{u64_content}
use Rattle.jj_decode.specs.declared.error.DecodeError.{DecodeError}
use Rattle.jj_decode.specs.declared.error.DecodeError.TheVariants.{Memory, Malformed}

-- the bytes from `start` to `end` are the content of the value x
pub record IsContentAt {X : Type 0} (is_value : X → Type 0) (content : X → List ℕ) (bytes : List ℕ)
    (start : ℕ) (x : X) (end : ℕ) : Type 0 where
  pub valid : is_value x
  pub split : drop start bytes ≡ content x ++ drop end bytes
  pub within : end ≤ length bytes

-- the content of no value begins at `start`, for a reason found at `offset`
pub record NoContentAt {X : Type 0} (is_value : X → Type 0) (content : X → List ℕ)
    (bytes : List ℕ) (start offset : ℕ) : Type 0 where
  pub none : (x : X) (rest : List ℕ) → is_value x → drop start bytes ≡ content x ++ rest → ⊥
  pub from : start ≤ offset
  pub within : offset ≤ length bytes

-- an error other than out of memory implies that the content of no value begins at `start`
abbrev pub IsErrorAt : {X : Type 0} → (X → Type 0) → (X → List ℕ) → List ℕ → ℕ → DecodeError
    → Type 0
IsErrorAt is_value content bytes start Memory = ⊤
IsErrorAt is_value content bytes start (Malformed reason offset) =
    NoContentAt is_value content bytes start offset

-- an error other than out of memory implies that no member of a set of contents begins at `start`
abbrev pub IsMalformedAt : (List ℕ → Type 0) → List ℕ → ℕ → DecodeError → Type 0
IsMalformedAt is_content = IsErrorAt is_content (λ b. b)

abbrev pub IsMemory : DecodeError → Type 0
IsMemory Memory = ⊤
IsMemory (Malformed reason offset) = ⊥

-- ---- pairs

-- each part of the pair has its property
abbrev pub AreBoth : {X Y : Type 0} → (X → Type 0) → (Y → Type 0) → X × Y → Type 0
AreBoth first second p = first p.0 × second p.1

-- the first value's content, then the second's
abbrev pub both_content : {X Y : Type 0} → (X → List ℕ) → (Y → List ℕ) → X × Y → List ℕ
both_content first second p = first p.0 ++ second p.1

-- ---- lists: the number of items, then the items

-- a list of `count` values
abbrev pub AreItems : {X : Type 0} → ℕ → (X → Type 0) → List X → Type 0
AreItems count is_value xs = (length xs ≡ count) × All is_value xs

-- a list of `count` entries with ascending keys
abbrev pub AreEntries : {K V : Type 0} → ℕ → (K → K → Ordering) → (K → Type 0) → (V → Type 0)
    → List (K × V) → Type 0
AreEntries count cmp is_key is_value es = AreItems count (AreBoth is_key is_value) es
    × IsStrictlySortedBy cmp (keys_of es)

-- a list of `count` members in ascending order
abbrev pub AreMembers : {K : Type 0} → ℕ → (K → K → Ordering) → (K → Type 0) → List K → Type 0
AreMembers count cmp is_value ks = AreItems count is_value ks × IsStrictlySortedBy cmp ks

-- k is greater than each of the keys
abbrev pub IsGreater : {K : Type 0} → (K → K → Ordering) → List K → K → Type 0
IsGreater cmp ks k = AllByRecursion (λ q. cmp q k ≡ Less) ks

-- a count, and at least as many bytes
abbrev pub IsCounted : ℕ × List ℕ → Type 0
IsCounted p = (p.0 < 2 ^ 64) × (p.0 ≤ length p.1)

-- the content of a count, then the bytes
abbrev pub counted_content : ℕ × List ℕ → List ℕ
counted_content p = u64_content p.0 ++ p.1

-- ---- strings: the length in bytes, then the bytes

-- the length of the bytes fits 64 bits
abbrev pub FitsLength : List ℕ → Type 0
FitsLength bytes = length bytes < 2 ^ 64

-- the bytes are UTF-8, and their length fits 64 bits
abbrev pub IsString : List ℕ → Type 0
IsString bytes = IsUtf8 bytes × (length bytes < 2 ^ 64)

-- ---- whole byte strings

-- the result is an equal value, or memory ran out
abbrev pub DecodesTo : {X : Type 0} → (X → Bool) → Result X DecodeError → Type 0
DecodesTo equal (Ok x) = equal x ≡ true
DecodesTo equal (Err Memory) = ⊤
DecodesTo equal (Err (Malformed reason offset)) = ⊥
