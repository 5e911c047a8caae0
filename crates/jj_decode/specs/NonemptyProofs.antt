-- Proofs that no content is empty, by type.
use Rattle.std.proofs.Common.{ℕ, ◌<◌, ◌^◌, List, [], ◌∷◌, ◌++◌, length, true, false, Some, None, arith}
use Rattle.std.specs.Prelude.{FitsSigned, ⊤}
use Rattle.std.specs.Int.{w32, w64}
use Rattle.std.proofs.lemmas.List.{length-append}
use Rattle.jj_content.specs.Content.{AreValues, IsOptionOf, u32_content, u64_content, i32_content, i64_content, bool_content, option_content, list_content, string_content, entry_content}
use Rattle.std.specs.List.Sorted.{IsStrictlySortedBy}
use Rattle.std.specs.Map.{keys_of}
use Rattle.std.specs.declared.cmp.Ordering.{Ordering}

-- the content of each value has at least one byte
abbrev pub AreNonempty : {X : Type 0} → (X → Type 0) → (X → List ℕ) → Type 0
AreNonempty {X} is_value content = (x : X) → is_value x → 0 < length (content x)

pub u8_nonempty : AreNonempty (λ n. n < 2 ^ 8) (λ n. n ∷ [])
u8_nonempty n h = omega arith

pub u32_nonempty : AreNonempty (λ n. n < 2 ^ 32) u32_content
unfolding u32_content
u32_nonempty n h = omega arith

pub u64_nonempty : AreNonempty (λ n. n < 2 ^ 64) u64_content
unfolding u64_content
u64_nonempty n h = omega arith

pub i32_nonempty : AreNonempty (FitsSigned w32) i32_content
unfolding i32_content u32_content
i32_nonempty z h = omega arith

pub i64_nonempty : AreNonempty (FitsSigned w64) i64_content
unfolding i64_content u64_content
i64_nonempty z h = omega arith

pub bool_nonempty : AreNonempty (λ _. ⊤) bool_content
unfolding bool_content
bool_nonempty true h = omega arith
bool_nonempty false h = omega arith

pub option_nonempty : {X : Type 0} (v : X → Type 0) (c : X → List ℕ)
    → AreNonempty (IsOptionOf v) (option_content c)
unfolding option_content u32_content
option_nonempty v c None h = omega arith
option_nonempty v c (Some x) h = omega arith

pub list_nonempty : {X : Type 0} (v : X → Type 0) (c : X → List ℕ)
    → AreNonempty (AreValues v) (list_content c)
unfolding list_content u64_content
list_nonempty v c xs h = omega arith

pub both_nonempty : {X Y : Type 0} (v : X → Type 0) (c : X → List ℕ) (w : Y → Type 0)
    (d : Y → List ℕ) → AreNonempty v c → AreNonempty {X = X × Y} (λ p. v p.0 × w p.1)
    (λ p. c p.0 ++ d p.1)
both_nonempty v c w d long p h = omega (arith, long p.0 h.0, length-append (c p.0) (d p.1))

pub string_nonempty : AreNonempty (λ bytes. length bytes < 2 ^ 64) string_content
unfolding string_content u64_content
string_nonempty bytes h = omega arith

pub map_nonempty : {K V : Type 0} (cmp : K → K → Ordering) (v : K → Type 0) (c : K → List ℕ)
    (w : V → Type 0) (d : V → List ℕ)
    → AreNonempty {X = List (K × V)}
    (λ es. IsStrictlySortedBy cmp (keys_of es) × AreValues (λ e. v e.0 × w e.1) es)
    (list_content (entry_content c d))
unfolding list_content u64_content
map_nonempty cmp v c w d es h = omega arith
