-- The errors of reading a value, by type: relations between the bytes, the offset of the value, and
-- the error, which names the first part that the bytes lack. Memory may run out only for items that
-- the bytes announce and are long enough for.
-- Cited by contracts of public items: BoolErrors, BothErrors, BytesErrors, CountErrors,
-- IntegerErrors, ItemErrors, ListErrors, MapErrors, MergeErrors, NoErrors, OptionErrors, SetErrors,
-- StrErrors, StringErrors, TextErrors, VariantErrors, WholeErrors.
use Rattle.std.specs.Prelude.{◌≡◌, ℕ, zero, suc, ◌+◌, ◌%◌, ◌<◌, ◌≤◌, ◌^◌, ◌⊎◌, List, [], ◌∷◌, length}
use Rattle.std.specs.List.{flat_map}
use Rattle.std.specs.Map.{keys_of}
use Rattle.std.specs.Str.{IsUtf8}
use Rattle.std.specs.declared.cmp.Ordering.{Ordering}
use Rattle.jj_content.specs.Content.{u32_content, u64_content, string_content, entry_content}
use Rattle.jj_decode.specs.declared.error.DecodeError.{DecodeError}
use Rattle.jj_decode.specs.declared.error.DecodeError.TheVariants.{Memory, Malformed}
use Rattle.jj_decode.specs.declared.error.Malformation.TheVariants.{Truncated, UnknownTag, InvalidUtf8, UnorderedKeys, InvalidValue, TrailingBytes}
use Rattle.jj_decode.specs.Decoding.{IsContentAt, AreItems, AreBoth, AreEntries, AreMembers, IsGreater, FitsLength, IsString}

-- ---- values without parts

-- there is no error
abbrev pub NoErrors : List ℕ → ℕ → DecodeError → Type 0
NoErrors bytes start e = ⊥

-- fewer than `size` bytes remain
abbrev pub IntegerErrors : ℕ → List ℕ → ℕ → DecodeError → Type 0
IntegerErrors size bytes start e = (length bytes < start + size) × (e ≡ Malformed Truncated start)

-- the errors of a boolean: its byte is missing, or neither 0 nor 1
abbrev pub BoolErrors : List ℕ → ℕ → DecodeError → Type 0
BoolErrors bytes start e = IntegerErrors 1 bytes start e
    ⊎ ((tag : ℕ) × (end : ℕ) × IsContentAt (λ n. n < 2 ^ 8) (λ n. n ∷ []) bytes start tag end
    × (2 ≤ tag) × (e ≡ Malformed UnknownTag start))

-- a count is at `start` that exceeds the number of bytes after it
pub record HasExcessAt (bytes : List ℕ) (start : ℕ) : Type 0 where
  pub count : ℕ
  pub end : ℕ
  pub is_count : IsContentAt (λ n. n < 2 ^ 64) u64_content bytes start count end
  pub exceeds : length bytes < end + count

-- the errors of reading a count: too few bytes for it, or for so many items
abbrev pub CountErrors : List ℕ → ℕ → DecodeError → Type 0
CountErrors bytes start e = IntegerErrors 8 bytes start e
    ⊎ (HasExcessAt bytes start × (e ≡ Malformed Truncated start))

-- ---- strings: the bytes that a count announces are there, but are not UTF-8, or memory runs out

-- the errors of reading a byte string: those of its count, or memory ran out
abbrev pub BytesErrors : List ℕ → ℕ → DecodeError → Type 0
BytesErrors bytes start e = CountErrors bytes start e
    ⊎ ((text : List ℕ) × (end : ℕ) × IsContentAt FitsLength string_content bytes start text end
    × (e ≡ Memory))

-- the errors of checking a string: those of its count, or the bytes are not UTF-8
abbrev pub StrErrors : List ℕ → ℕ → DecodeError → Type 0
StrErrors bytes start e = CountErrors bytes start e
    ⊎ ((text : List ℕ) × (end : ℕ) × IsContentAt FitsLength string_content bytes start text end
    × (¬ IsUtf8 text) × (e ≡ Malformed InvalidUtf8 start))

-- the errors of an owned string: those of the string, or out of memory for its copy
abbrev pub StringErrors : List ℕ → ℕ → DecodeError → Type 0
StringErrors bytes start e = StrErrors bytes start e
    ⊎ ((text : List ℕ) × (end : ℕ) × IsContentAt IsString string_content bytes start text end
    × (e ≡ Memory))

-- a string that a type rejects
abbrev pub TextErrors : (List ℕ → Type 0) → List ℕ → ℕ → DecodeError → Type 0
TextErrors is_valid bytes start e = StringErrors bytes start e
    ⊎ ((text : List ℕ) × (end : ℕ) × IsContentAt IsString string_content bytes start text end
    × (¬ is_valid text) × (e ≡ Malformed InvalidValue start))

-- ---- two values: an error of the first, or of the second after the first

-- the errors of reading two values: those of the first, or of the second after the first
abbrev pub BothErrors : {X : Type 0} → (X → Type 0) → (X → List ℕ)
    → (List ℕ → ℕ → DecodeError → Type 0) → (List ℕ → ℕ → DecodeError → Type 0)
    → List ℕ → ℕ → DecodeError → Type 0
BothErrors {X} is_value content first second bytes start e = first bytes start e
    ⊎ ((x : X) × (mid : ℕ) × IsContentAt is_value content bytes start x mid × second bytes mid e)

-- ---- enums: a number of a variant, then its fields

-- the errors of a value with a tag: those of the tag, an unknown tag, or those of the fields of its
-- variant
abbrev pub VariantErrors : ℕ → (ℕ → List ℕ → ℕ → DecodeError → Type 0) → List ℕ → ℕ → DecodeError
    → Type 0
VariantErrors variants fields bytes start e = IntegerErrors 4 bytes start e
    ⊎ ((tag : ℕ) × (end : ℕ) × IsContentAt (λ n. n < 2 ^ 32) u32_content bytes start tag end
    × (((variants ≤ tag) × (e ≡ Malformed UnknownTag start))
    ⊎ ((tag < variants) × fields tag bytes end e)))

-- the errors of the fields of an option, by its tag
abbrev pub option_fields : (List ℕ → ℕ → DecodeError → Type 0) → ℕ → List ℕ → ℕ → DecodeError
    → Type 0
option_fields errors zero = NoErrors
option_fields errors (suc n) = errors

-- the errors of an option of a value with these errors
abbrev pub OptionErrors : (List ℕ → ℕ → DecodeError → Type 0) → List ℕ → ℕ → DecodeError → Type 0
OptionErrors errors = VariantErrors 2 (option_fields errors)

-- ---- lists

-- an error of an item, after those before it
abbrev pub ItemErrors : {X : Type 0} → ℕ → (X → Type 0) → (X → List ℕ)
    → (List ℕ → ℕ → DecodeError → Type 0) → List ℕ → ℕ → DecodeError → Type 0
ItemErrors {X} count is_value content errors bytes start e =
    (i : ℕ) × (xs : List X) × (end : ℕ) × (i < count)
    × IsContentAt (AreItems i is_value) (flat_map content) bytes start xs end × errors bytes end e

-- a count is from `start` to `end`, and no greater than the number of the bytes after it
pub record IsCountAt (bytes : List ℕ) (start count end : ℕ) : Type 0 where
  pub is_count : IsContentAt (λ n. n < 2 ^ 64) u64_content bytes start count end
  pub bounded : end + count ≤ length bytes

-- the errors of counted items: those of the count, out of memory, or those of the items
abbrev pub CountedErrors : (ℕ → List ℕ → ℕ → DecodeError → Type 0) → List ℕ → ℕ → DecodeError
    → Type 0
CountedErrors items bytes start e = CountErrors bytes start e
    ⊎ ((count : ℕ) × (end : ℕ) × IsCountAt bytes start count end
    × ((e ≡ Memory) ⊎ items count bytes end e))

-- the errors of reading a list: those of its count, of an item, or memory ran out
abbrev pub ListErrors : {X : Type 0} → (X → Type 0) → (X → List ℕ)
    → (List ℕ → ℕ → DecodeError → Type 0) → List ℕ → ℕ → DecodeError → Type 0
ListErrors is_value content errors =
    CountedErrors (λ count. ItemErrors count is_value content errors)

-- the errors of reading a merge: those of a list, or that the count is even
abbrev pub MergeErrors : {X : Type 0} → (X → Type 0) → (X → List ℕ)
    → (List ℕ → ℕ → DecodeError → Type 0) → List ℕ → ℕ → DecodeError → Type 0
MergeErrors is_value content errors bytes start e = CountErrors bytes start e
    ⊎ ((count : ℕ) × (end : ℕ) × IsCountAt bytes start count end
    × (((count % 2 ≡ 0) × (e ≡ Malformed InvalidValue start))
    ⊎ ((count % 2 ≡ 1) × ((e ≡ Memory) ⊎ ItemErrors count is_value content errors bytes end e))))

-- ---- maps and sets: an error of an entry after those before it, or its key is not greater

-- the errors of a map's entries, after some of them: those of an entry, or that its key is not
-- greater than the one before
abbrev pub EntryErrors : {K V : Type 0} → (K → K → Ordering) → (K → Type 0) → (K → List ℕ)
    → (List ℕ → ℕ → DecodeError → Type 0) → (V → Type 0) → (V → List ℕ)
    → (List ℕ → ℕ → DecodeError → Type 0) → ℕ → List ℕ → ℕ → DecodeError → Type 0
EntryErrors {K} {V} cmp is_key key_content key is_value value_content value count bytes start e =
    (i : ℕ) × (es : List (K × V)) × (end : ℕ) × (i < count)
    × IsContentAt (AreEntries i cmp is_key is_value)
    (flat_map (entry_content key_content value_content)) bytes start es end
    × (BothErrors is_key key_content key value bytes end e
    ⊎ ((next : K × V) × (after : ℕ) × IsContentAt (AreBoth is_key is_value)
    (entry_content key_content value_content) bytes end next after
    × (¬ (IsGreater cmp (keys_of es) next.0)) × (e ≡ Malformed UnorderedKeys end)))

-- the errors of a map: those of the count, out of memory, or those of the entries
abbrev pub MapErrors : {K V : Type 0} → (K → K → Ordering) → (K → Type 0) → (K → List ℕ)
    → (List ℕ → ℕ → DecodeError → Type 0) → (V → Type 0) → (V → List ℕ)
    → (List ℕ → ℕ → DecodeError → Type 0) → List ℕ → ℕ → DecodeError → Type 0
MapErrors cmp is_key key_content key is_value value_content value =
    CountedErrors (EntryErrors cmp is_key key_content key is_value value_content value)

-- the errors of a set's members, after some of them: those of a member, or that it is not greater
-- than the one before
abbrev pub MemberErrors : {K : Type 0} → (K → K → Ordering) → (K → Type 0) → (K → List ℕ)
    → (List ℕ → ℕ → DecodeError → Type 0) → ℕ → List ℕ → ℕ → DecodeError → Type 0
MemberErrors {K} cmp is_value content errors count bytes start e =
    (i : ℕ) × (ks : List K) × (end : ℕ) × (i < count)
    × IsContentAt (AreMembers i cmp is_value) (flat_map content) bytes start ks end
    × (errors bytes end e
    ⊎ ((next : K) × (after : ℕ) × IsContentAt is_value content bytes end next after
    × (¬ (IsGreater cmp ks next)) × (e ≡ Malformed UnorderedKeys end)))

-- the errors of a set: those of the count, out of memory, or those of the members
abbrev pub SetErrors : {K : Type 0} → (K → K → Ordering) → (K → Type 0) → (K → List ℕ)
    → (List ℕ → ℕ → DecodeError → Type 0) → List ℕ → ℕ → DecodeError → Type 0
SetErrors cmp is_value content errors = CountedErrors (MemberErrors cmp is_value content errors)

-- ---- whole byte strings: an error of the value, or bytes after it

-- the errors of decoding all bytes: those of reading the value, or bytes are left after it
abbrev pub WholeErrors : {X : Type 0} → (X → Type 0) → (X → List ℕ)
    → (List ℕ → ℕ → DecodeError → Type 0) → List ℕ → DecodeError → Type 0
WholeErrors {X} is_value content errors bytes e = errors bytes 0 e
    ⊎ ((x : X) × (end : ℕ) × IsContentAt is_value content bytes 0 x end × (end < length bytes)
    × (e ≡ Malformed TrailingBytes end))
