-- Patterns of byte strings that are UTF-8, or are not.
use Rattle.std.proofs.Common.{◌≡◌, ◌∙◌, ℕ, Bool, true, false, List, Result, Err, ap, sym, subst, refl}
use Rattle.std.specs.Str.{IsUtf8, is_utf8}
use Rattle.std.proofs.lemmas.Str.{is_utf8-from_IsUtf8, IsUtf8-from_is_utf8}
use Rattle.jj_filesets.specs.declared.fileset.error.FilesetParseError.{FilesetParseError}
use Rattle.jj_filesets.specs.declared.fileset.error.FilesetParseError.TheVariants.{Syntax}
use Rattle.jj_filesets.specs.declared.fileset.error.FilesetParseErrorKind.TheVariants.{NotUtf8}
use Rattle.jj_filesets.specs.declared.fileset.operand.PatternKind.{PatternKind}
use Rattle.jj_filesets.specs.declared.fileset.pattern.FilePattern.{FilePattern}
use Rattle.jj_filesets.specs.Strings.{IsResultOf, Fails}
use Rattle.jj_filesets.specs.Operands.{pattern_of, relative_pattern}

not_true : (b : Bool) → (b ≡ true → ⊥) → b ≡ false
not_true true never = absurd (never refl)
not_true false never = refl

is_text : (kind : PatternKind) (at : ℕ) (string : List ℕ) → is_utf8 string ≡ true → pattern_of kind at string ≡ relative_pattern kind at string
unfolding pattern_of
is_text kind at string h = rw h refl

pub text_gives : (kind : PatternKind) (at : ℕ) (string text : List ℕ) (result : Result FilePattern FilesetParseError) → text ≡ string → IsUtf8 string
    → IsResultOf (λ pattern. pattern) result (relative_pattern kind at text) → IsResultOf (λ pattern. pattern) result (pattern_of kind at string)
text_gives kind at string text result is utf8 g =
    subst (IsResultOf (λ pattern. pattern) result) (ap (relative_pattern kind at) is ∙ sym (is_text kind at string (is_utf8-from_IsUtf8 string utf8))) g

pub no_text : (kind : PatternKind) (at : ℕ) (string : List ℕ) → (¬ IsUtf8 string) → pattern_of kind at string ≡ Err (Syntax at NotUtf8)
unfolding pattern_of
no_text kind at string never =
    let h : is_utf8 string ≡ false = not_true (is_utf8 string) (λ e. never (IsUtf8-from_is_utf8 string e)) in
    rw h refl

pub no_text_fails : (kind : PatternKind) (at : ℕ) (string : List ℕ) (error : FilesetParseError) → (¬ IsUtf8 string) → error ≡ Syntax at NotUtf8 → Fails error (pattern_of kind at string)
no_text_fails kind at string error never is = subst (λ e. Fails e (pattern_of kind at string)) (sym is) (no_text kind at string never)
