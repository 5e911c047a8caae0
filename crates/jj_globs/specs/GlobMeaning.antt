-- Which byte strings a glob matches.
-- Cited by contracts of public items: GlobSpec, IsMatch, IsPrefixMatch.
use Rattle.std.specs.Prelude.{◌≡◌, ℕ, ◌+◌, ◌-◌, Bool, not, IsTrue, ◌==◌, ◌&&◌, ◌||◌, nat_le, if◌then◌else◌, ◌⊎◌, List, [], ◌∷◌, ◌++◌, Ok, All}
use Rattle.std.specs.List.{list_any}
use Rattle.jj_globs.specs.declared.glob.token.ByteRange.{ByteRange}
use Rattle.jj_globs.specs.declared.glob.token.Part.{Part}
use Rattle.jj_globs.specs.declared.glob.token.Part.TheVariants.{Byte, AnyByte, Star, LeadingDirs, InnerDirs, Below, Everything, OneOf}
use Rattle.jj_globs.specs.declared.glob.token.Token.{Token}
use Rattle.jj_globs.specs.declared.glob.token.Token.TheVariants.{Part as part, Open, Or, Close}
use Rattle.jj_globs.specs.declared.glob.token.Options.{Options}
use Rattle.jj_globs.specs.GlobSyntax.{tokens_of}

-- 1. Single bytes.

-- the byte in ASCII lower case
abbrev pub lower : ℕ → ℕ
lower b = if nat_le 65 b && nat_le b 90 then b + 32 else b

-- the byte in ASCII upper case
abbrev pub upper : ℕ → ℕ
upper b = if nat_le 97 b && nat_le b 122 then b - 32 else b

-- equality of bytes, with `icase` up to ASCII case
abbrev pub same_byte : Options → ℕ → ℕ → Bool
same_byte o a b = if o.icase then lower a == lower b else a == b

-- `?` and `*` match the byte
abbrev pub is_plain : Options → ℕ → Bool
is_plain o b = not (o.separator && (b == 47))

-- whether the byte is in the range
abbrev pub in_range : ℕ → ByteRange → Bool
in_range b r = nat_le r.first b && nat_le b r.last

-- whether the byte is in one of the ranges
abbrev pub any_range : ℕ → List ByteRange → Bool
any_range b rs = list_any (in_range b) rs

-- whether one of the ranges has the byte, or, if case is ignored, the letter in either case
abbrev pub in_ranges : Options → List ByteRange → ℕ → Bool
in_ranges o rs b =
    any_range b rs || (o.icase && (any_range (lower b) rs || any_range (upper b) rs))

-- the class matches the byte
abbrev pub in_class : Options → Bool × List ByteRange → ℕ → Bool
in_class o (negated, rs) b = if negated then not (in_ranges o rs b) else in_ranges o rs b

-- 2. Parts.

-- a single byte, which passes the test
abbrev pub IsSingle : (ℕ → Bool) → List ℕ → Type 0
IsSingle p bytes = (b : ℕ) × (bytes ≡ b ∷ []) × IsTrue (p b)

-- the part matches the bytes
abbrev pub MatchesPart : Options → Part → List ℕ → Type 0
MatchesPart o (Byte c) bytes = IsSingle (same_byte o c) bytes
MatchesPart o AnyByte bytes = IsSingle (is_plain o) bytes
MatchesPart o (OneOf c) bytes = IsSingle (in_class o c) bytes
MatchesPart o Star bytes = All (λ b. IsTrue (is_plain o b)) bytes
MatchesPart o LeadingDirs bytes = (bytes ≡ []) ⊎ ((dirs : List ℕ) × (bytes ≡ dirs ++ 47 ∷ []))
MatchesPart o InnerDirs bytes = (bytes ≡ 47 ∷ [])
    ⊎ ((dirs : List ℕ) × (bytes ≡ 47 ∷ (dirs ++ 47 ∷ [])))
MatchesPart o Below bytes = (rest : List ℕ) × (bytes ≡ 47 ∷ rest)
MatchesPart o Everything bytes = Unit {0}

-- 3. The syntax tree of a token list.

mutual
  -- a concatenation of parts and groups
  pub data Sequence : Type 0 where
    done : Sequence
    next : Part → Sequence → Sequence
    group : Alternatives → Sequence → Sequence

  -- the alternatives of a group
  pub data Alternatives : Type 0 where
    no_more : Alternatives
    either : Sequence → Alternatives → Alternatives

-- state of the parser, which reads the tokens from the last to the first: the sequence so far, up
-- to the end of its group; and for each open group, from the inside, its alternatives so far and
-- the sequence after it
pub record Reading : Type 0 where
  pub here : Sequence
  pub outer : List (Alternatives × Sequence)

-- a `,`: the sequence so far is an alternative of the innermost group
abbrev pub before_or : Sequence → List (Alternatives × Sequence) → Reading
before_or s [] = record { here = s; outer = [] }
before_or s (g ∷ gs) = record { here = done; outer = (either s g.0, g.1) ∷ gs }

-- a `{`: the innermost group is complete
abbrev pub before_open : Sequence → List (Alternatives × Sequence) → Reading
before_open s [] = record { here = s; outer = [] }
before_open s (g ∷ gs) = record { here = group (either s g.0) g.1; outer = gs }

-- the state before this token, from the one after it
abbrev pub before : Token → Reading → Reading
before (part p) r = record { here = next p r.here; outer = r.outer }
before Close r = record { here = done; outer = (no_more, r.here) ∷ r.outer }
before Or r = before_or r.here r.outer
before Open r = before_open r.here r.outer

-- the syntax tree of the tokens, as the state before the first
abbrev pub reading_of : List Token → Reading
reading_of [] = record { here = done; outer = [] }
reading_of (t ∷ ts) = before t (reading_of ts)

-- 4. Globs.

-- concatenation: P of a prefix and Q of the rest
abbrev pub IsConcatenation : (List ℕ → Type 0) → (List ℕ → Type 0) → List ℕ → Type 0
IsConcatenation P Q bytes = (prefix rest : List ℕ) × (bytes ≡ prefix ++ rest) × P prefix × Q rest

abbrev mutual
  -- the sequence matches the bytes
  pub Matches : Options → Sequence → List ℕ → Type 0
  Matches o done bytes = bytes ≡ []
  Matches o (next p s) bytes = IsConcatenation (MatchesPart o p) (Matches o s) bytes
  Matches o (group a s) bytes = IsConcatenation (MatchesAny o a) (Matches o s) bytes

  -- one of the alternatives matches the bytes
  pub MatchesAny : Options → Alternatives → List ℕ → Type 0
  MatchesAny o no_more bytes = ⊥
  MatchesAny o (either s a) bytes = Matches o s bytes ⊎ MatchesAny o a bytes

-- a glob, as contracts see it
pub record GlobSpec : Type 0 where
  pub text : List ℕ
  pub options : Options

-- the pattern parses as tokens whose syntax tree matches the byte string
abbrev pub IsMatch : GlobSpec → List ℕ → Type 0
IsMatch g bytes = (ts : List Token) × (tokens_of g.text ≡ Ok ts)
    × Matches g.options (reading_of ts).here bytes

-- the glob matches the byte string or a prefix of it that `/` follows
abbrev pub IsPrefixMatch : GlobSpec → List ℕ → Type 0
IsPrefixMatch g bytes = IsMatch g bytes ⊎ ((prefix rest : List ℕ) × (bytes ≡ prefix ++ 47 ∷ rest)
    × IsMatch g prefix)
