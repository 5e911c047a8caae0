-- The NFA of a glob in bit tables: closures under epsilon transitions, and transitions over a byte.
-- Machinery of private functions and fields.
use Rattle.std.specs.Prelude.{◌≡◌, ◌↔◌, ◌⊎◌, ℕ, ◌+◌, ◌<◌, Bool, true, false, if◌then◌else◌, List, [], ◌∷◌, length, get_or, slice_get, Some, IsTrue}
use Rattle.std.specs.Int.{bit_at}
use Rattle.jj_globs.specs.declared.glob.token.Options.{Options}
use Rattle.jj_globs.specs.declared.glob.step.Step.{Step}
use Rattle.jj_globs.specs.declared.glob.step.Step.TheVariants.{Byte, AnyByte, OneOf, Star, Everything, Fork, Jump}
use Rattle.jj_globs.specs.declared.glob.bit_tables.BitTables.{BitTables}
use Rattle.jj_globs.specs.GlobMeaning.{same_byte, is_plain}
use Rattle.jj_globs.specs.GlobNfa.{in_set, consumes_byte, end_test, accepts_from}

-- the step consumes the byte
abbrev pub takes_byte : Options → Step → ℕ → Bool
takes_byte o (Byte c) b = same_byte o c b
takes_byte o AnyByte b = is_plain o b
takes_byte o (OneOf set) b = in_set set b
takes_byte o Star b = is_plain o b
takes_byte o Everything b = true
takes_byte o (Fork further) b = false
takes_byte o (Jump further) b = false

-- the state after a byte that the step at state k consumes
abbrev pub target : Step → ℕ → ℕ
target (Byte c) k = k + 1
target AnyByte k = k + 1
target (OneOf set) k = k + 1
target Star k = k
target Everything k = k
target (Fork further) k = k + 1
target (Jump further) k = k + 1

-- the steps after the leading ones that consume exactly one byte
abbrev pub after_bytes : List Step → List Step
after_bytes [] = []
after_bytes (s ∷ ss) = if consumes_byte s then after_bytes ss else s ∷ ss

-- the state consumes the byte
abbrev pub Takes : Options → List Step → ℕ → ℕ → Type 0
Takes o steps b k = (s : Step) × (slice_get steps k ≡ Some s) × IsTrue (takes_byte o s b)

-- the state is the end and accepts the bytes, or it consumes the first one and its target accepts
-- the rest
abbrev pub AcceptsAtOnce : Options → Bool → List Step → ℕ → List ℕ → Type 0
AcceptsAtOnce o below steps k [] = k ≡ length steps
AcceptsAtOnce o below steps k (b ∷ bs) = ((k ≡ length steps) × IsTrue (end_test below (b ∷ bs)))
    ⊎ ((s : Step) × (slice_get steps k ≡ Some s) × IsTrue (takes_byte o s b)
    × IsTrue (accepts_from o below steps (target s k) bs))

-- a state of the set accepts the bytes at once
abbrev pub AnyAtOnce : Options → Bool → List Step → ℕ → List ℕ → Type 0
AnyAtOnce o below steps states bs =
    (k : ℕ) × (bit_at states k ≡ 1) × AcceptsAtOnce o below steps k bs

-- state k accepts what the states of the set accept at once
abbrev pub HasClosure : List Step → ℕ → ℕ → Type 0
HasClosure steps k states = (o : Options) (below : Bool) (bs : List ℕ)
    → IsTrue (accepts_from o below steps k bs) ↔ AnyAtOnce o below steps states bs

-- a set of one of the states has this element
abbrev pub InUnion : List ℕ → ℕ → ℕ → Type 0
InUnion sets states j = (k : ℕ) × (bit_at states k ≡ 1) × (bit_at (get_or sets k 0) j ≡ 1)

-- the tables have a set for each byte, and for each state that consumes one
pub record AreInRange (t : BitTables) : Type 0 where
  pub bytes : length t.takes.items ≡ 256
  pub states : length t.follow.items < 64
  pub within : (b k : ℕ) → b < 256 → k < 64 → bit_at (get_or t.takes.items b 0) k ≡ 1
      → k < length t.follow.items

-- the tables are those of the steps
pub record AreTablesOf (o : Options) (steps : List Step) (t : BitTables) : Type 0 where
  pub ranges : AreInRange t
  pub states : length t.follow.items ≡ length steps
  pub takes : (b k : ℕ) → b < 256 → k < 64
      → (bit_at (get_or t.takes.items b 0) k ≡ 1) ↔ Takes o steps b k
  pub follow : (k : ℕ) (s : Step) → slice_get steps k ≡ Some s
      → HasClosure steps (target s k) (get_or t.follow.items k 0)
  pub start : HasClosure steps 0 t.start
