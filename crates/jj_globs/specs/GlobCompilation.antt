-- Compilation of tokens to an NFA, from the last token to the first: each token prepends its steps.
-- States are named by the number of steps after them.
-- Machinery of private functions and fields.
use Rattle.std.specs.Prelude.{◌≡◌, ℕ, ◌-◌, ◌≤◌, Bool, false, List, [], ◌∷◌, length, Option, Some, None}
use Rattle.jj_globs.specs.declared.glob.token.Options.{Options}
use Rattle.jj_globs.specs.declared.glob.token.Part.{Part}
use Rattle.jj_globs.specs.declared.glob.token.Part.TheVariants.{Byte as byte, AnyByte as any_one, Star as star, LeadingDirs, InnerDirs, Below, Everything as everything, OneOf as one_of}
use Rattle.jj_globs.specs.declared.glob.token.Token.{Token}
use Rattle.jj_globs.specs.declared.glob.token.Token.TheVariants.{Part as part, Open, Or, Close}
use Rattle.jj_globs.specs.declared.glob.byte_set.ByteSet.{ByteSet}
use Rattle.jj_globs.specs.declared.glob.step.Step.{Step}
use Rattle.jj_globs.specs.declared.glob.step.Step.TheVariants.{Byte, AnyByte, OneOf, Star, Everything, Fork, Jump}
use Rattle.jj_globs.specs.declared.glob.compiler.OpenGroup.{OpenGroup}
use Rattle.jj_globs.specs.GlobMeaning.{in_class}
use Rattle.jj_globs.specs.GlobBacktracking.{Test, Tests, tests_before}
use Rattle.jj_globs.specs.GlobNfa.{in_set, accepts_from, end_test, TargetsInRange}

-- prepends the steps of a part
abbrev pub EmitsPart : Options → Part → List Step → List Step → Type 0
EmitsPart o (byte c) ss new = new ≡ Byte c ∷ ss
EmitsPart o any_one ss new = new ≡ AnyByte ∷ ss
EmitsPart o (one_of c) ss new = (set : ByteSet) × (new ≡ OneOf set ∷ ss)
    × ((b : ℕ) → in_set set b ≡ in_class o c b)
EmitsPart o star ss new = new ≡ Star ∷ ss
EmitsPart o everything ss new = new ≡ Everything ∷ ss
EmitsPart o Below ss new = new ≡ Byte 47 ∷ Everything ∷ ss
EmitsPart o LeadingDirs ss new = new ≡ Fork 2 ∷ Everything ∷ Byte 47 ∷ ss
EmitsPart o InnerDirs ss new = new ≡ Byte 47 ∷ Fork 2 ∷ Everything ∷ Byte 47 ∷ ss

-- prepends a fork to the alternatives compiled before, if there are any
abbrev pub with_fork : Option ℕ → List Step → List Step
with_fork None ss = ss
with_fork (Some others) ss = Fork (length ss - others) ∷ ss

-- prepends the steps of a token and updates the stack of open groups, the innermost first
abbrev pub EmitsToken : Options → Token → List Step → List OpenGroup → List Step → List OpenGroup
    → Type 0
EmitsToken o (part p) ss gs new opened = EmitsPart o p ss new × (opened ≡ gs)
EmitsToken o Close ss gs new opened = (new ≡ ss)
    × (opened ≡ record { any = None; after = length ss } ∷ gs)
EmitsToken o Or ss [] new opened = (new ≡ ss) × (opened ≡ [])
EmitsToken o Or ss (g ∷ gs) new opened =
    (new ≡ Jump (length (with_fork g.any ss) - g.after) ∷ with_fork g.any ss)
    × (opened ≡ record { any = Some (length (with_fork g.any ss)); after = g.after } ∷ gs)
EmitsToken o Open ss [] new opened = (new ≡ ss) × (opened ≡ [])
EmitsToken o Open ss (g ∷ gs) new opened = (new ≡ with_fork g.any ss) × (opened ≡ gs)

-- the byte strings that the state with so many steps after it accepts
abbrev pub test_at : Options → Bool → List Step → ℕ → Test
test_at o below ss after bs = accepts_from o below ss (length ss - after) bs

-- the alternatives of an open group that were compiled accept those that pass the test
abbrev pub AlternativesAccept : Options → Bool → List Step → Option ℕ → Test → Type 0
AlternativesAccept o below ss None t = (bs : List ℕ) → t bs ≡ false
AlternativesAccept o below ss (Some others) t = (others ≤ length ss)
    × ((bs : List ℕ) → test_at o below ss others bs ≡ t bs)

-- each open group: its alternatives and the state after it accept those that pass its two tests
abbrev pub GroupsAccept : Options → Bool → List Step → List OpenGroup → List (Test × Test) → Type 0
GroupsAccept o below ss [] [] = Unit {0}
GroupsAccept o below ss (g ∷ gs) (t ∷ ts) =
    AlternativesAccept o below ss g.any t.0 × (g.after ≤ length ss)
    × ((bs : List ℕ) → test_at o below ss g.after bs ≡ t.1 bs) × GroupsAccept o below ss gs ts
GroupsAccept o below ss _ _ = ⊥

-- invariant of the compilation: the first state accepts the byte strings that pass the test here,
-- and the states of the open groups those that pass theirs
pub record IsCompiledSoFar (o : Options) (below : Bool) (ss : List Step) (gs : List OpenGroup)
    (t : Tests) : Type 0 where
  pub here : (bs : List ℕ) → accepts_from o below ss 0 bs ≡ t.here bs
  pub outer : GroupsAccept o below ss gs t.outer

-- the NFA of the tokens: it accepts the byte strings they match, and no step leads past the end
pub record IsNfaOf (o : Options) (ts : List Token) (ss : List Step) : Type 0 where
  pub same : (below : Bool) (bs : List ℕ) → accepts_from o below ss 0 bs
      ≡ (tests_before o (end_test below) ts).here bs
  pub inside : TargetsInRange ss
