-- The NFA of a glob: which byte strings each state accepts, and sets of states in bits.
-- Machinery of private functions and fields.
use Rattle.std.specs.Prelude.{◌≡◌, ◌↔◌, ◌⊎◌, ℕ, zero, suc, ◌+◌, ◌*◌, ◌/◌, ◌%◌, ◌≤◌, Bool, true, false, not, ◌==◌, ◌&&◌, ◌||◌, if◌then◌else◌, List, [], ◌∷◌, length, get_or, slice_get, Some, IsTrue}
use Rattle.std.specs.Int.{bit_at}
use Rattle.jj_globs.specs.declared.glob.token.Options.{Options}
use Rattle.jj_globs.specs.declared.glob.byte_set.ByteSet.{ByteSet}
use Rattle.jj_globs.specs.declared.glob.step.Step.{Step}
use Rattle.jj_globs.specs.declared.glob.step.Step.TheVariants.{Byte, AnyByte, OneOf, Star, Everything, Fork, Jump}
use Rattle.jj_globs.specs.GlobMeaning.{same_byte, is_plain}
use Rattle.jj_globs.specs.GlobBacktracking.{Test, one, many, any_byte}

-- 1. Bit sets.

-- the bit of this index is set
abbrev pub HasBit : List ℕ → ℕ → Type 0
HasBit words index = bit_at (get_or words (index / 64) 0) (index % 64) ≡ 1

-- whether the bit at this index is set, of words of 64 bits
abbrev pub has_bit : List ℕ → ℕ → Bool
has_bit words index = bit_at (get_or words (index / 64) 0) (index % 64) == 1

-- a bit of the word is set
abbrev pub WordHasBit : List ℕ → ℕ → Type 0
WordHasBit words word = (index : ℕ) × (index / 64 ≡ word) × HasBit words index

-- the summary has a bit for each word, which is set if a bit of the word is
pub record IsSummary (words summary : List ℕ) : Type 0 where
  pub tells : (word : ℕ) → HasBit summary word ↔ WordHasBit words word
  pub room : length words ≤ 64 * length summary
  pub limit : length summary ≤ 256

-- the byte is in the set
abbrev pub in_set : ByteSet → ℕ → Bool
in_set set b = if set.negated then not (has_bit set.words b) else has_bit set.words b

-- 2. The language of each state.

-- the end accepts the empty string, or with `below` also byte strings that begin with `/`
abbrev pub end_test : Bool → Test
end_test below [] = true
end_test below (b ∷ bs) = below && (b == 47)

-- which byte strings a step accepts if Q tests them at the states after it
abbrev pub step_then : Options → (ℕ → Test) → Step → Test
step_then o Q (Byte c) bs = one (same_byte o c) (Q 0) bs
step_then o Q AnyByte bs = one (is_plain o) (Q 0) bs
step_then o Q (OneOf set) bs = one (in_set set) (Q 0) bs
step_then o Q Star bs = many (is_plain o) (Q 0) bs
step_then o Q Everything bs = many any_byte (Q 0) bs
step_then o Q (Fork further) bs = Q 0 bs || Q further bs
step_then o Q (Jump further) bs = Q further bs

-- which byte strings each state accepts
abbrev pub accepts_from : Options → Bool → List Step → ℕ → Test
accepts_from o below [] k bs = end_test below bs
accepts_from o below (s ∷ ss) zero bs = step_then o (accepts_from o below ss) s bs
accepts_from o below (s ∷ ss) (suc k) bs = accepts_from o below ss k bs

-- which byte strings the step at state k accepts if P tests them at each state of the list
abbrev pub step_at : Options → (ℕ → Test) → Step → ℕ → Test
step_at o P (Byte c) k bs = one (same_byte o c) (P (k + 1)) bs
step_at o P AnyByte k bs = one (is_plain o) (P (k + 1)) bs
step_at o P (OneOf set) k bs = one (in_set set) (P (k + 1)) bs
step_at o P Star k bs = many (is_plain o) (P (k + 1)) bs
step_at o P Everything k bs = many any_byte (P (k + 1)) bs
step_at o P (Fork further) k bs = P (k + 1) bs || P (k + 1 + further) bs
step_at o P (Jump further) k bs = P (k + 1 + further) bs

-- P tests which byte strings each state accepts
pub record Solves (o : Options) (below : Bool) (steps : List Step) (P : ℕ → Test) : Type 0 where
  pub at_end : (bs : List ℕ) → P (length steps) bs ≡ end_test below bs
  pub at_step : (k : ℕ) (s : Step) → slice_get steps k ≡ Some s → (bs : List ℕ)
      → P k bs ≡ step_at o P s k bs

-- a live state accepts the bytes
abbrev pub AnyLive : (ℕ → Test) → List ℕ → List ℕ → Type 0
AnyLive P words bs = (state : ℕ) × HasBit words state × IsTrue (P state bs)

-- a state that is live after the first byte accepts the bytes after it
abbrev pub AnyAfter : (ℕ → Test) → List ℕ → List ℕ → Type 0
AnyAfter P next [] = ⊥
AnyAfter P next (b ∷ bs) = AnyLive P next bs

-- a state of `now` accepts the bytes, or one of `next` those after the first byte
abbrev pub AnyAhead : (ℕ → Test) → List ℕ → List ℕ → List ℕ → Type 0
AnyAhead P now next bs = AnyLive P now bs ⊎ AnyAfter P next bs

-- the new sets accept exactly what the state or the old sets accept
abbrev pub FollowsTransitions : Options → List Step → ℕ → List ℕ → List ℕ → List ℕ → List ℕ
    → List ℕ → Type 0
FollowsTransitions o steps state bs now next now' next' = (below : Bool) (P : ℕ → Test)
    → Solves o below steps P
    → AnyAhead P now' next' bs ↔ (IsTrue (P state bs) ⊎ AnyAhead P now next bs)

-- the step consumes exactly one byte
abbrev pub consumes_byte : Step → Bool
consumes_byte (Byte c) = true
consumes_byte AnyByte = true
consumes_byte (OneOf set) = true
consumes_byte s = false

-- the offset of the last target of a step from the next state
abbrev pub max_offset : Step → ℕ
max_offset (Fork further) = further
max_offset (Jump further) = further
max_offset s = 0

-- no step leads past the end
abbrev pub TargetsInRange : List Step → Type 0
TargetsInRange steps = (k : ℕ) (s : Step) → slice_get steps k ≡ Some s
    → k + 1 + max_offset s ≤ length steps
