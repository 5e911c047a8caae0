-- Fields that parse as globs.
use Rattle.std.proofs.Common.{◌≡◌, ◌≢◌, ℕ, false, List, Result, Ok, Err, cond, refl, ap}
use Rattle.std.specs.Prelude.{is_ok, IsOk}
use Rattle.jj_globs.specs.declared.glob.error.GlobError.{GlobError}
use Rattle.jj_globs.specs.declared.glob.error.GlobError.TheVariants.{Memory, UnclosedClass, InvalidRange, NonAsciiRange, UnopenedAlternates, UnclosedAlternates, DanglingEscape}
use Rattle.jj_globs.specs.declared.glob.token.Token.{Token}
use Rattle.jj_globs.specs.GlobSyntax.{tokens_of}
use Rattle.jj_globs.specs.GlobParsing.{IsGlobParseError}
use Rattle.jj_program.specs.declared.fault.LineFault.TheVariants.{BadGlob}
use Rattle.jj_program.specs.Forms.{value_at}
use Rattle.jj_program.specs.WalkCommand.{glob_kind, is_glob_text}

fails : (r : Result (List Token) GlobError) (error : GlobError) → error ≢ Memory → IsGlobParseError error r → is_ok r ≡ false
fails r Memory other h = absurd (other refl)
fails r UnclosedClass other h = ap is_ok h
fails r InvalidRange other h = ap is_ok h
fails r NonAsciiRange other h = ap is_ok h
fails r UnopenedAlternates other h = ap is_ok h
fails r UnclosedAlternates other h = ap is_ok h
fails r DanglingEscape other h = ap is_ok h

pub glob_at-reads : (text : List ℕ) → IsOk (tokens_of text) → value_at glob_kind text ≡ Ok (glob_kind.value_of text)
unfolding is_glob_text
glob_at-reads text h = ap (λ t. cond t (Ok (glob_kind.value_of text)) (Err BadGlob)) h

pub glob_at-fails : (text : List ℕ) (error : GlobError) → error ≢ Memory → IsGlobParseError error (tokens_of text) → value_at glob_kind text ≡ Err BadGlob
unfolding is_glob_text
glob_at-fails text error other h = ap (λ t. cond t (Ok (glob_kind.value_of text)) (Err BadGlob)) (fails (tokens_of text) error other h)
