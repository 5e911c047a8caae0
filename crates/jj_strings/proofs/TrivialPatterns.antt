-- Patterns that trivially match every string do so.
use Rattle.std.proofs.Common.{◌≡◌, ◌∙◌, sym, ap, refl, ℕ, ◌<◌, inl, inr, true, true≢false, IsTrue, List, [], ◌∷◌, Ok, All, arith}
use Rattle.std.proofs.lemmas.List.{append-nil}
use Rattle.std.proofs.lemmas.List.Elements.{All-nil, All-cons}
use Rattle.std.proofs.lemmas.Bool.Decides.{eqb_tells}
use Rattle.bstr.specs.Text.{Contains}
use Rattle.jj_globs.specs.declared.glob.token.Part.TheVariants.{Star}
use Rattle.jj_globs.specs.declared.glob.token.Token.TheVariants.{Part as part}
use Rattle.jj_globs.specs.GlobSyntax.{tokens_of, lexemes, parse}
use Rattle.jj_globs.specs.GlobMeaning.{IsMatch, is_plain}
use Rattle.jj_strings.specs.StringGlobs.{StringGlob, as_glob}
use Rattle.jj_strings.specs.StringMatchers.{IsParsedRegex}
use Rattle.jj_strings.specs.StringSets.{Pattern, exact, exact_i, substring, substring_i, glob, glob_i, regex, regex_i, InPattern, is_all, is_one_star}
use Rattle.jj_strings.proofs.EmptyRegex.{holds_everything}

pub contains_empty : (bytes : List ℕ) → Contains bytes []
contains_empty bytes = (0, record { fits = omega arith; reads = λ j low. absurd (omega arith) })

star_reads : tokens_of (42 ∷ []) ≡ Ok (part Star ∷ [])
unfolding tokens_of lexemes parse
star_reads = refl

pub all_plain : (g : StringGlob) (bytes : List ℕ) → All (λ b. IsTrue (is_plain (as_glob g).options b)) bytes
all_plain g [] = All-nil (λ b. IsTrue (is_plain (as_glob g).options b))
all_plain g (b ∷ bs) = All-cons (λ b. IsTrue (is_plain (as_glob g).options b)) b bs refl (all_plain g bs)

pub star_holds : (g : StringGlob) → g.text ≡ 42 ∷ [] → (bytes : List ℕ) → IsMatch (as_glob g) bytes
star_holds g star bytes =
    (part Star ∷ [], ap tokens_of star ∙ star_reads, (bytes, [], sym (append-nil bytes), all_plain g bytes, refl))

one_star : (text : List ℕ) → is_one_star text ≡ true → text ≡ 42 ∷ []
one_star [] h = absurd (true≢false (sym h))
one_star (b ∷ []) h = elim (eqb_tells b 42) [ inl w ↦ ap (λ x. x ∷ []) w.1 | inr w ↦ absurd (true≢false (sym h ∙ w.0)) ]
one_star (b ∷ c ∷ bs) h = absurd (true≢false (sym h))

pub all_strings : (p : Pattern) → is_all p ≡ true → IsParsedRegex p → (bytes : List ℕ) → All (λ b. b < 256) bytes → InPattern p bytes
all_strings (exact text) h r bytes small = absurd (true≢false (sym h))
all_strings (exact_i text) h r bytes small = absurd (true≢false (sym h))
all_strings (substring []) h r bytes small = contains_empty bytes
all_strings (substring (b ∷ bs)) h r bytes small = absurd (true≢false (sym h))
all_strings (substring_i []) h r bytes small = contains_empty _
all_strings (substring_i (b ∷ bs)) h r bytes small = absurd (true≢false (sym h))
all_strings (glob g) h r bytes small = star_holds g (one_star g.text h) bytes
all_strings (glob_i g) h r bytes small = star_holds g (one_star g.text h) bytes
all_strings (regex x) h r bytes small = holds_everything x h r bytes small
all_strings (regex_i x) h r bytes small = holds_everything x h r bytes small
