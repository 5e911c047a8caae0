-- Executable semantics of globs: a backtracking matcher in continuation-passing style, clear but
-- slow.
-- Cited by contracts of public items through jj_matchers.Patterns.
use Rattle.std.specs.Prelude.{ℕ, Bool, true, false, ◌==◌, ◌&&◌, ◌||◌, List, [], ◌∷◌, Result, Ok, Err}
use Rattle.jj_globs.specs.declared.glob.token.Part.{Part}
use Rattle.jj_globs.specs.declared.glob.token.Part.TheVariants.{Byte, AnyByte, Star, LeadingDirs, InnerDirs, Below, Everything, OneOf}
use Rattle.jj_globs.specs.declared.glob.token.Token.{Token}
use Rattle.jj_globs.specs.declared.glob.token.Token.TheVariants.{Part as part, Open, Or, Close}
use Rattle.jj_globs.specs.declared.glob.error.GlobError.{GlobError}
use Rattle.jj_globs.specs.GlobSyntax.{tokens_of}
use Rattle.jj_globs.specs.declared.glob.token.Options.{Options}
use Rattle.jj_globs.specs.GlobMeaning.{same_byte, is_plain, in_class}

-- a test of byte strings: a matcher, or the continuation of one
abbrev pub Test : Type 0
Test = List ℕ → Bool

-- a byte that passes p, then the continuation
abbrev pub one : (ℕ → Bool) → Test → Test
one p next [] = false
one p next (b ∷ bs) = p b && next bs

-- any number of bytes that pass p, then the continuation
abbrev pub many : (ℕ → Bool) → Test → Test
many p next [] = next []
many p next (b ∷ bs) = next (b ∷ bs) || (p b && many p next bs)

-- any bytes up to some `/`, then the continuation
abbrev pub past_slash : Test → Test
past_slash next [] = false
past_slash next (b ∷ bs) = ((b == 47) && next bs) || past_slash next bs

-- whether the byte is `/`
abbrev pub is_slash : ℕ → Bool
is_slash b = b == 47

-- true for any byte
abbrev pub any_byte : ℕ → Bool
any_byte b = true

-- a part, then the continuation
abbrev pub part_then : Options → Part → Test → Test
part_then o (Byte c) next bs = one (same_byte o c) next bs
part_then o AnyByte next bs = one (is_plain o) next bs
part_then o (OneOf c) next bs = one (in_class o c) next bs
part_then o Star next bs = many (is_plain o) next bs
part_then o LeadingDirs next bs = next bs || past_slash next bs
part_then o InnerDirs next bs = one is_slash (λ rest. next rest || past_slash next rest) bs
part_then o Below next bs = one is_slash (many any_byte next) bs
part_then o Everything next bs = many any_byte next bs

-- state of the matcher, as `Reading` is that of the parser: the test of the rest of the sequence
-- with all that follows; and for each open group the test of its alternatives so far, and of the
-- rest after the group
pub record Tests : Type 0 where
  pub here : Test
  pub outer : List (Test × Test)

-- before a `,`: the test so far is an alternative of the innermost group
abbrev pub test_or : Test → List (Test × Test) → Tests
test_or t [] = record { here = t; outer = [] }
test_or t (g ∷ gs) = record { here = g.1; outer = ((λ bs. t bs || g.0 bs), g.1) ∷ gs }

-- before a `{`: the innermost group is complete
abbrev pub test_open : Test → List (Test × Test) → Tests
test_open t [] = record { here = t; outer = [] }
test_open t (g ∷ gs) = record { here = (λ bs. t bs || g.0 bs); outer = gs }

-- the state before this token, from the one after it
abbrev pub test_before : Options → Token → Tests → Tests
test_before o (part p) r = record { here = part_then o p r.here; outer = r.outer }
test_before o Close r = record { here = r.here; outer = ((λ _. false), r.here) ∷ r.outer }
test_before o Or r = test_or r.here r.outer
test_before o Open r = test_open r.here r.outer

-- whether no byte is left
abbrev pub is_empty : Test
is_empty [] = true
is_empty (b ∷ bs) = false

-- the tests of tokens that are followed by `end`
abbrev pub tests_before : Options → Test → List Token → Tests
tests_before o end [] = record { here = end; outer = [] }
tests_before o end (t ∷ ts) = test_before o t (tests_before o end ts)

-- the tests of all tokens, which have to match to the end
abbrev pub tests_of : Options → List Token → Tests
tests_of o ts = tests_before o is_empty ts

-- the glob matches, does not match, or is malformed
pub data Outcome : Type 0 where
  matched : Outcome
  unmatched : Outcome
  malformed : GlobError → Outcome

-- the outcome of a test
abbrev pub outcome_of : Bool → Outcome
outcome_of true = matched
outcome_of false = unmatched

-- the outcome of the parsed pattern, or its error
abbrev pub outcome : Options → List ℕ → Result (List Token) GlobError → Outcome
outcome o bytes (Ok ts) = outcome_of ((tests_of o ts).here bytes)
outcome o bytes (Err e) = malformed e

-- parses the pattern and matches it against the bytes
abbrev pub matches : Options → List ℕ → List ℕ → Outcome
matches o text bytes = outcome o bytes (tokens_of text)
