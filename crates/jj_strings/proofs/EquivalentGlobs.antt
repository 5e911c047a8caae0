-- The glob of an exact pattern or of a substring is equivalent to the pattern.
use Rattle.std.proofs.Common.{◌≡◌, ◌∙◌, sym, ap, refl, subst, ℕ, ◌+◌, false, ◌↔◌, List, [], ◌∷◌, ◌++◌, length, get_or, take, drop, Option, Some, None, Result, Ok, Err, IfOk, IfSome, option_map, arith, length-append}
use Rattle.std.proofs.lemmas.List.{append-nil, take-append-drop, get_or_append_left, get_or-append-add}
use Rattle.std.proofs.lemmas.Option.{none-some, same_Some}
use Rattle.std.specs.Cow.{cow_str_bytes}
use Rattle.std.specs.declared.borrow.CowStr.{CowStr}
use Rattle.std.specs.declared.alloc.Global.{Global}
use Rattle.std.specs.declared.alloc.AllocError.{AllocError}
use Rattle.bstr.specs.Text.{Contains}
use Rattle.jj_globs.specs.declared.glob.token.Part.TheVariants.{Star}
use Rattle.jj_globs.specs.declared.glob.token.Token.{Token}
use Rattle.jj_globs.specs.declared.glob.token.Token.TheVariants.{Part as part}
use Rattle.jj_globs.specs.declared.glob.token.Options.{Options}
use Rattle.jj_globs.specs.GlobMeaning.{IsMatch, Matches, reading_of}
use Rattle.jj_strings.specs.PatternGlobs.{equivalent_glob, glob_icase, substring_glob}
use Rattle.jj_strings.specs.StringGlobs.{StringGlob, as_glob}
use Rattle.jj_strings.specs.StringSets.{Pattern, exact, exact_i, substring, substring_i, glob, glob_i, regex, regex_i, InPattern, string_glob}
use Rattle.jj_strings.proofs.TrivialPatterns.{star_holds, contains_empty, all_plain}
use Rattle.jj_globs.proofs.EscapedTokens.{tokens_for, tokens_of-part}
use Rattle.jj_globs.proofs.EscapedMeaning.{same_tokens, matches_to, matches_from, escaped_alone}
use Rattle.jj_strings.proofs.Occurrences.{occurs_to}

-- the options of a case-sensitive glob without separator
abbrev plain : Options
plain = record { separator = false; icase = false }

-- t occurs between a prefix and the rest
occurs_between : (prefix t rest bytes : List ℕ) → bytes ≡ prefix ++ (t ++ rest) → Contains bytes t
occurs_between prefix t rest bytes e = (
  length prefix,
  record {
    fits = omega (arith, ap length e, length-append prefix (t ++ rest), length-append t rest);
    reads = λ j low.
        ap (λ (l : List ℕ). get_or l (length prefix + j) 0) e ∙ get_or-append-add prefix (t ++ rest) j 0 ∙ get_or_append_left t rest 0 j low;
  },
)

between_occurs : (t bytes : List ℕ) → Contains bytes t → (prefix rest : List ℕ) × (bytes ≡ prefix ++ (t ++ rest))
between_occurs t bytes (k, o) =
    let n : ℕ = length t in
    let behind : List ℕ = drop n (drop k bytes) in (
      take k bytes,
      behind,
      sym (take-append-drop k bytes)
          ∙ ap (λ (l : List ℕ). take k bytes ++ l) (sym (take-append-drop n (drop k bytes)) ∙ ap (λ (l : List ℕ). l ++ behind) (occurs_to bytes t n k refl o)),
    )

part_match_to : (b : ℕ) (t bytes : List ℕ) → IsMatch (as_glob (string_glob (substring_glob (b ∷ t)) false)) bytes → Contains bytes (b ∷ t)
part_match_to b t bytes m =
    let us : List Token = part Star ∷ (tokens_for (b ∷ t) ++ part Star ∷ []) in
    let same : m.0 ≡ us = same_tokens (substring_glob (b ∷ t)) m.0 us m.1 (tokens_of-part b t) in
    let s = subst (λ (ts : List Token). Matches plain (reading_of ts).here bytes) same m.2 in
    let found = matches_to false (b ∷ t) (part Star ∷ []) s.1 s.4 in
    occurs_between s.0 (b ∷ t) found.0 bytes (s.2 ∙ ap (λ (l : List ℕ). s.0 ++ l) found.1)

part_match_from : (b : ℕ) (t bytes : List ℕ) → Contains bytes (b ∷ t) → IsMatch (as_glob (string_glob (substring_glob (b ∷ t)) false)) bytes
part_match_from b t bytes contained =
    let cut = between_occurs (b ∷ t) bytes contained in
    let g : StringGlob = string_glob [] false in (
      part Star ∷ (tokens_for (b ∷ t) ++ part Star ∷ []),
      tokens_of-part b t,
      subst (λ (l : List ℕ). Matches plain (reading_of (part Star ∷ (tokens_for (b ∷ t) ++ part Star ∷ []))).here l) (sym cut.2) (
        cut.0,
        (b ∷ t) ++ cut.1,
        refl,
        all_plain g cut.0,
        matches_from false (b ∷ t) (part Star ∷ []) cut.1 (cut.1, [], sym (append-nil cut.1), all_plain g cut.1, refl),
      ),
    )

-- the glob of a pattern matches exactly the set of the pattern
reads_back : (p : Pattern) (text : List ℕ) → equivalent_glob p ≡ Some text → (bytes : List ℕ)
    → IsMatch (as_glob (string_glob text (glob_icase p))) bytes ↔ InPattern p bytes
reads_back (exact t) text h bytes =
    subst (λ (x : List ℕ). IsMatch (as_glob (string_glob x false)) bytes ↔ (bytes ≡ t)) (same_Some _ _ h) (escaped_alone false t bytes)
reads_back (exact_i t) text h bytes = absurd (none-some _ h)
reads_back (substring []) text h bytes =
    subst (λ (x : List ℕ). IsMatch (as_glob (string_glob x false)) bytes ↔ Contains bytes []) (same_Some _ _ h)
    ((λ m. contains_empty bytes), (λ o. star_holds (string_glob (42 ∷ []) false) refl bytes))
reads_back (substring (b ∷ t)) text h bytes =
    subst (λ (x : List ℕ). IsMatch (as_glob (string_glob x false)) bytes ↔ Contains bytes (b ∷ t)) (same_Some _ _ h)
    (part_match_to b t bytes, part_match_from b t bytes)
reads_back (substring_i t) text h bytes = absurd (none-some _ h)
reads_back (glob g) text h bytes =
    subst (λ (x : List ℕ). IsMatch (as_glob (string_glob x g.icase)) bytes ↔ IsMatch (as_glob g) bytes) (same_Some _ _ h) ((λ m. m), (λ m. m))
reads_back (glob_i g) text h bytes = absurd (none-some _ h)
reads_back (regex r) text h bytes = absurd (none-some _ h)
reads_back (regex_i r) text h bytes = absurd (none-some _ h)

pub reads_back_ok : (p : Pattern) (r : Result (Option (CowStr Global)) AllocError) → IfOk r (λ glob. option_map cow_str_bytes glob ≡ equivalent_glob p)
    → IfOk r (λ glob. IfSome glob (λ text. (bytes : List ℕ) → IsMatch (as_glob (string_glob (cow_str_bytes text) (glob_icase p))) bytes ↔ InPattern p bytes))
reads_back_ok p (Ok None) h = tt
reads_back_ok p (Ok (Some text)) h = reads_back p (cow_str_bytes text) (sym h)
reads_back_ok p (Err e) h = tt
