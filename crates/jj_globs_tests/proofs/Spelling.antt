-- The tokens of a pattern and the tree that it spells.
use Rattle.std.proofs.Common.{◌≡◌, ◌↔◌, ℕ, List, Bool, IsTrue, Result, Ok, Err, IsOk, refl, ap, sym, subst, ◌∙◌}
use Rattle.std.proofs.lemmas.Bool.{false≢true}
use Rattle.jj_globs.specs.GlobGrammar.{IsSpelled, ParsedGlobsAreSpelled, SpelledGlobsAreParsed, SpellingIsUnique}
use Rattle.jj_globs.specs.GlobMeaning.{GlobSpec, IsMatch, Matches, Sequence, reading_of}
use Rattle.jj_globs.specs.GlobParsing.{IsGlobParseError, ParsesAsGlob}
use Rattle.jj_globs.specs.GlobSyntax.{tokens_of}
use Rattle.jj_globs.specs.declared.glob.error.GlobError.{GlobError}
use Rattle.jj_globs.specs.declared.glob.error.GlobError.TheVariants.{Memory, UnclosedClass, InvalidRange, NonAsciiRange, UnopenedAlternates, UnclosedAlternates, DanglingEscape}
use Rattle.jj_globs.specs.declared.glob.token.Token.{Token}
use Rattle.jj_globs_tests.specs.Spelled.{IsOnlySpelling, IsSpellingError, SpellsNone}

-- a pattern that reads as tokens spells one tree
only_spelling : ParsedGlobsAreSpelled → SpellingIsUnique → (text : List ℕ) → IsOk (tokens_of text) → (tree : Sequence) × IsOnlySpelling text tree
only_spelling spells unique text reads =
    let of : (reading : Result (List Token) GlobError) → tokens_of text ≡ reading → IsOk reading → (tree : Sequence) × IsOnlySpelling text tree = λ reading is.
    elim reading as (λ r. tokens_of text ≡ r → IsOk r → (tree : Sequence) × IsOnlySpelling text tree) [
      | Ok ts ↦ λ e h. (
        (reading_of ts).here,
        record { spelled = spells text ts e; only = λ other o. unique text other _ o (spells text ts e) },
      )
      | Err error ↦ λ e h. absurd (false≢true h)
    ] is in
    of (tokens_of text) refl reads

-- the glob matches what its tree matches
match_of_tree : SpelledGlobsAreParsed → (glob : GlobSpec) (tree : Sequence) (bytes : List ℕ) → IsSpelled glob.text tree → IsMatch glob bytes → Matches glob.options tree bytes
match_of_tree parsed glob tree bytes spelled m =
    let p = parsed glob.text tree spelled in
    let same : m.0 ≡ p.0 = cc (m.1, p.1) in
    subst (λ (s : Sequence). Matches glob.options s bytes) (ap (λ (ts : List Token). (reading_of ts).here) same ∙ ap (λ r. r.here) p.2) m.2

tree_of_match : SpelledGlobsAreParsed → (glob : GlobSpec) (tree : Sequence) (bytes : List ℕ) → IsSpelled glob.text tree → Matches glob.options tree bytes → IsMatch glob bytes
tree_of_match parsed glob tree bytes spelled m =
    let p = parsed glob.text tree spelled in
    (p.0, p.1, subst (λ (s : Sequence). Matches glob.options s bytes) (sym (ap (λ r. r.here) p.2)) m)

none : SpelledGlobsAreParsed → (text : List ℕ) (error : GlobError) → tokens_of text ≡ Err error → SpellsNone text
none parsed text error is tree spelled =
    let p = parsed text tree spelled in
    cc (p.1, is)

-- a syntax error occurs only in a pattern that spells no tree
spelling_error : SpelledGlobsAreParsed → (text : List ℕ) (error : GlobError) → IsGlobParseError error (tokens_of text) → IsSpellingError text error
spelling_error parsed text Memory is = tt
spelling_error parsed text UnclosedClass is = none parsed text UnclosedClass is
spelling_error parsed text InvalidRange is = none parsed text InvalidRange is
spelling_error parsed text NonAsciiRange is = none parsed text NonAsciiRange is
spelling_error parsed text UnopenedAlternates is = none parsed text UnopenedAlternates is
spelling_error parsed text UnclosedAlternates is = none parsed text UnclosedAlternates is
spelling_error parsed text DanglingEscape is = none parsed text DanglingEscape is

module _ {glob : GlobSpec} {text : List ℕ} (result : Result GlobSpec GlobError) (parses : ParsesAsGlob text glob result) where
  -- a pattern was parsed: it spells one tree
  pub spelled_once : ParsedGlobsAreSpelled → SpellingIsUnique → (parsed : GlobSpec) → result ≡ Ok parsed → (tree : Sequence) × IsOnlySpelling text tree
  spelled_once spells unique parsed is = only_spelling spells unique text (subst (λ (r : Result GlobSpec GlobError). ParsesAsGlob text glob r) is parses).reads

  -- a pattern was not parsed
  pub spelling_failed : SpelledGlobsAreParsed → (error : GlobError) → result ≡ Err error → IsSpellingError text error
  spelling_failed spelled error is = spelling_error spelled text error (subst (λ (r : Result GlobSpec GlobError). ParsesAsGlob text glob r) is parses).pattern

  parsed_is : (parsed : GlobSpec) → result ≡ Ok parsed → parsed ≡ glob
  parsed_is parsed is = (subst (λ (r : Result GlobSpec GlobError). ParsesAsGlob text glob r) is parses).pattern

  -- a path matches exactly if the tree matches it
  pub matched_by_tree : SpelledGlobsAreParsed → (parsed : GlobSpec) → result ≡ Ok parsed → (bytes path : List ℕ) → bytes ≡ path → (accepts : Bool) → IsTrue accepts ↔ IsMatch parsed bytes
      → (tree : Sequence) → IsSpelled glob.text tree → IsTrue accepts ↔ Matches glob.options tree path
  matched_by_tree spelled parsed is bytes path same accepts matches tree spells =
      let on_path : IsTrue accepts ↔ IsMatch parsed path = subst (λ (b : List ℕ). IsTrue accepts ↔ IsMatch parsed b) same matches in
      let of_glob : IsTrue accepts ↔ IsMatch glob path = subst (λ (g : GlobSpec). IsTrue accepts ↔ IsMatch g path) (parsed_is parsed is) on_path in
      (λ t. match_of_tree spelled glob tree path spells (of_glob.0 t), λ m. of_glob.1 (tree_of_match spelled glob tree path spells m))
