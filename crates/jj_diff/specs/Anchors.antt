-- Tokens that occur once in each part of a row.
-- Cited by contracts of public items: HasFewTokens, IsCommonTokenBy.
use Rattle.std.specs.Prelude.{◌≡◌, ℕ, ◌+◌, ◌<◌, ◌≤◌, List, [], ◌∷◌, length, filter, map, slice_index}
use Rattle.std.specs.List.{range_with_len, slice_index_or, slice_range}
use Rattle.std.specs.Global.{Global}
use Rattle.std.specs.declared.vec.Vec.{Vec}
use Rattle.jj_diff.specs.Tokens.{IsCut, TokenEnds}
use Rattle.jj_diff.specs.Inputs.{AreRanges}

-- the offsets between tokens: 0 and the end of each
abbrev pub token_offsets : TokenEnds → List ℕ → List ℕ
token_offsets is_end text =
    0 ∷ filter (is_end text) (range_with_len 1 (length text))

-- the token from offset k to the next
abbrev pub token_at : List ℕ → List ℕ → ℕ → List ℕ
token_at text offsets k = slice_range text (slice_index offsets k) (slice_index offsets (k + 1))

-- the token between offset k and the next has this canonical form
abbrev pub StandsAtBy : (List ℕ → List ℕ) → List ℕ → List ℕ → List ℕ → ℕ → Type 0
StandsAtBy form text offsets token k =
    (k + 1 < length offsets) × (form (token_at text offsets k) ≡ token)

-- the token is between offset k and the next
abbrev pub StandsAt : List ℕ → List ℕ → List ℕ → ℕ → Type 0
StandsAt = StandsAtBy (λ text. text)

-- between these offsets is one token of this canonical form
abbrev pub StandsOnceAmong : (List ℕ → List ℕ) → List ℕ → List ℕ → List ℕ → Type 0
StandsOnceAmong form text offsets token = (k : ℕ) × StandsAtBy form text offsets token k
    × ((j : ℕ) → StandsAtBy form text offsets token j → j ≡ k)

-- the byte string has one token of this canonical form
abbrev pub StandsOnceBy : (List ℕ → List ℕ) → TokenEnds → List ℕ → List ℕ → Type 0
StandsOnceBy form is_end text = StandsOnceAmong form text (token_offsets is_end text)

-- the byte string has the token once
abbrev pub StandsOnce : TokenEnds → List ℕ → List ℕ → Type 0
StandsOnce = StandsOnceBy (λ text. text)

-- each part has at most 64 tokens
abbrev pub HasFewTokens : TokenEnds → List (List ℕ) → Type 0
HasFewTokens is_end row = (i : ℕ) → i < length row
    → length (token_offsets is_end (slice_index_or row i [])) ≤ 65

-- each part, of which there is one, has one token of this canonical form
pub record IsCommonTokenBy (form : List ℕ → List ℕ) (is_end : TokenEnds) (row : List (List ℕ))
    (token : List ℕ) : Type 0 where
  pub some : 0 < length row
  pub once : (i : ℕ) → i < length row → StandsOnceBy form is_end (slice_index_or row i []) token

-- each part, of which there is one, has the token once
abbrev pub IsCommonToken : TokenEnds → List (List ℕ) → List ℕ → Type 0
IsCommonToken = IsCommonTokenBy (λ text. text)

-- Machinery of private functions.

-- the lists
abbrev pub lists_of : List (Vec ℕ Global) → List (List ℕ)
lists_of = map (λ v. v.items)

-- offsets that increase within the byte string, at least one
pub record AreOffsets (text offsets : List ℕ) : Type 0 where
  pub some : 0 < length offsets
  pub ordered : (k : ℕ) → k + 1 < length offsets
      → slice_index offsets k ≤ slice_index offsets (k + 1)
  pub within : (k : ℕ) → k < length offsets → slice_index offsets k ≤ length text

-- offsets in each part
pub record AreRowOffsets (row offsets : List (List ℕ)) : Type 0 where
  pub len : length offsets ≡ length row
  pub each : (i : ℕ) → i < length row
      → AreOffsets (slice_index_or row i []) (slice_index_or offsets i [])

-- the offsets between the tokens of each part
pub record AreTokenOffsets (is_end : TokenEnds) (row offsets : List (List ℕ)) : Type 0 where
  pub len : length offsets ≡ length row
  pub each : (i : ℕ) → i < length row
      → slice_index_or offsets i [] ≡ token_offsets is_end (slice_index_or row i [])

-- there are at most 65 offsets in each part
abbrev pub AreFew : List (List ℕ) → Type 0
AreFew offsets = (i : ℕ) → i < length offsets → length (slice_index_or offsets i []) ≤ 65

-- each part has one token of this canonical form
abbrev pub StandsOnceInEach : (List ℕ → List ℕ) → List (List ℕ) → List (List ℕ) → List ℕ
    → Type 0
StandsOnceInEach form row offsets token = (i : ℕ) → i < length row
    → StandsOnceAmong form (slice_index_or row i []) (slice_index_or offsets i []) token

-- from `starts` to `ends` part i has a token of this canonical form
abbrev pub IsTokenRange : (List ℕ → List ℕ) → List (List ℕ) → List (List ℕ) → List ℕ → List ℕ
    → List ℕ → ℕ → Type 0
IsTokenRange form row offsets token starts ends i = (k : ℕ)
    × StandsAtBy form (slice_index_or row i []) (slice_index_or offsets i []) token k
    × (slice_index starts i ≡ slice_index (slice_index_or offsets i []) k)
    × (slice_index ends i ≡ slice_index (slice_index_or offsets i []) (k + 1))

-- from `starts` to `ends` each part has a token of this canonical form
pub record AreTokenRanges (form : List ℕ → List ℕ) (row offsets : List (List ℕ))
    (token starts ends : List ℕ) : Type 0 where
  pub starts_len : length starts ≡ length row
  pub ends_len : length ends ≡ length row
  pub tokens : (i : ℕ) → i < length row → IsTokenRange form row offsets token starts ends i

-- from `starts` to `ends` all parts have one token, of one canonical form
pub record IsAnchor (form : List ℕ → List ℕ) (is_end : TokenEnds) (row : List (List ℕ))
    (starts ends : List ℕ) : Type 0 where
  pub ranges : AreRanges row starts ends
  pub nonempty : (i : ℕ) → i < length row → slice_index starts i < slice_index ends i
  pub start_cuts : (i : ℕ) → i < length row
      → IsCut is_end (slice_index_or row i []) (slice_index starts i)
  pub end_cuts : (i : ℕ) → i < length row
      → IsCut is_end (slice_index_or row i []) (slice_index ends i)
  pub equal : (i : ℕ) → i < length row
      → form (slice_range (slice_index_or row i []) (slice_index starts i) (slice_index ends i))
      ≡ form (slice_range (slice_index_or row 0 []) (slice_index starts 0) (slice_index ends 0))
