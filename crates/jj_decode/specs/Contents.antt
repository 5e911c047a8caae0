-- The sets of byte strings that are the contents of a type.
-- Cited by contracts of public items: AreContents, BothContents, IsContentOf, ListContents,
-- MapContents, OptionContents, SetContents, VariantContents.
use Rattle.std.specs.Prelude.{◌≡◌, ℕ, ◌<◌, List, ◌++◌, length}
use Rattle.std.specs.List.Sorted.{IsStrictlySortedBy}
use Rattle.std.specs.Map.{keys_of}
use Rattle.std.specs.declared.cmp.Ordering.{Ordering}
use Rattle.jj_content.specs.Content.{AreValues, IsOptionOf, u32_content, option_content, list_content, entry_content}
use Rattle.jj_decode.specs.Decoding.{AreBoth, both_content}

-- the bytes are the content of a value
pub record IsContentOf {X : Type 0} (is_value : X → Type 0) (content : X → List ℕ)
    (bytes : List ℕ) : Type 0 where
  pub value : X
  pub valid : is_value value
  pub bytes_are : bytes ≡ content value

-- The set includes the content of each value. It is prefix-free, whatever bytes follow each member,
-- and has no empty member.
pub record AreContents {X : Type 0} (is_value : X → Type 0) (content : X → List ℕ)
    (is_content : List ℕ → Type 0) : Type 0 where
  pub covers : (x : X) → is_value x → is_content (content x)
  pub prefix_free : (a b s t : List ℕ) → is_content a → is_content b → a ++ s ≡ b ++ t → a ≡ b
  pub nonempty : (a : List ℕ) → is_content a → 0 < length a

-- ---- by type, from the contents of the parts

-- the contents of pairs, from those of both parts
abbrev pub BothContents : (List ℕ → Type 0) → (List ℕ → Type 0) → List ℕ → Type 0
BothContents first second = IsContentOf (AreBoth first second) (both_content (λ b. b) (λ b. b))

-- the contents of options of values with these contents
abbrev pub OptionContents : (List ℕ → Type 0) → List ℕ → Type 0
OptionContents is_content = IsContentOf (IsOptionOf is_content) (option_content (λ b. b))

-- the contents of lists whose items have these contents
abbrev pub ListContents : (List ℕ → Type 0) → List ℕ → Type 0
ListContents is_content = IsContentOf (AreValues is_content) (list_content (λ b. b))

-- the index of a variant, less than the number of variants, and the content of its fields
abbrev pub AreFields : ℕ → (ℕ → List ℕ → Type 0) → ℕ × List ℕ → Type 0
AreFields variants fields p = (p.0 < variants) × fields p.0 p.1

-- an enum: the index of the variant, then its fields
abbrev pub VariantContents : ℕ → (ℕ → List ℕ → Type 0) → List ℕ → Type 0
VariantContents variants fields = IsContentOf (AreFields variants fields)
    (λ p. u32_content p.0 ++ p.1)

-- entries with ascending keys
abbrev pub AreOrderedEntries : {K V : Type 0} → (K → K → Ordering) → (K → Type 0) → (V → Type 0)
    → List (K × V) → Type 0
AreOrderedEntries cmp is_key is_value es = IsStrictlySortedBy cmp (keys_of es)
    × AreValues (AreBoth is_key is_value) es

-- a map: the number of entries, then each key and value in key order
abbrev pub MapContents : {K V : Type 0} → (K → K → Ordering) → (K → Type 0) → (K → List ℕ)
    → (V → Type 0) → (V → List ℕ) → List ℕ → Type 0
MapContents cmp is_key key_content is_value value_content = IsContentOf
    (AreOrderedEntries cmp is_key is_value)
    (list_content (entry_content key_content value_content))

-- members in ascending order
abbrev pub AreOrderedMembers : {K : Type 0} → (K → K → Ordering) → (K → Type 0) → List K → Type 0
AreOrderedMembers cmp is_value ks = IsStrictlySortedBy cmp ks × AreValues is_value ks

-- a set: the number of members, then the members in ascending order
abbrev pub SetContents : {K : Type 0} → (K → K → Ordering) → (K → Type 0) → (K → List ℕ) → List ℕ
    → Type 0
SetContents cmp is_value content = IsContentOf (AreOrderedMembers cmp is_value)
    (list_content content)
