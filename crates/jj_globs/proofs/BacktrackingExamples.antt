-- Examples of the executable semantics, by computation.
use Rattle.std.proofs.Common.{◌≡◌, ℕ, List, refl, true, false, [], ◌∷◌, map}
use Rattle.std.specs.Prelude.{codes}
use Rattle.jj_globs.specs.declared.glob.error.GlobError.TheVariants.{UnclosedClass, InvalidRange, NonAsciiRange, UnopenedAlternates, UnclosedAlternates, DanglingEscape}
use Rattle.jj_globs.specs.GlobSyntax.{tokens_of, lexemes, parse}
use Rattle.jj_globs.specs.declared.glob.token.Options.{Options}
use Rattle.jj_globs.specs.GlobBacktracking.{Outcome, matches, matched, unmatched, malformed}

-- a pattern, bytes, and whether the pattern is a glob that matches them
abbrev Row : Type 0
Row = List ℕ × List ℕ × Outcome

abbrev path : Options
path = record { separator = true; icase = false }

abbrev folded : Options
folded = record { separator = false; icase = true }

abbrev path_rows : List Row
path_rows =
    (codes "a/**/b", codes "a/b", matched) ∷
    (codes "a/**/b", codes "a/x/y/b", matched) ∷
    (codes "a/**/b", codes "ab", unmatched) ∷
    (codes "**", codes "x/y", matched) ∷
    (codes "{a,}", [], unmatched) ∷
    (codes "{a,}", codes "a", matched) ∷
    (codes "{}", [], matched) ∷
    (codes "[!a]", codes "/", matched) ∷
    (codes "[z-a]", [], malformed InvalidRange) ∷
    (codes "a\\", [], malformed DanglingEscape) ∷
    (codes "{[a", [], malformed UnclosedClass) ∷
    (codes "[", [], malformed UnclosedClass) ∷
    (codes "[]", [], malformed UnclosedClass) ∷
    (codes "[!]", [], malformed UnclosedClass) ∷
    (codes "[]a]", codes "]", matched) ∷
    (codes "[]a]", codes "a", matched) ∷
    (codes "[a-]", codes "-", matched) ∷
    (codes "[a-c-e]", codes "d", matched) ∷
    (codes "[a-c-e]", codes "-", unmatched) ∷
    (codes "{a", [], malformed UnclosedAlternates) ∷
    (codes "a}", [], malformed UnopenedAlternates) ∷
    (codes "{\\", [], malformed DanglingEscape) ∷
    (codes "{,}", [], matched) ∷
    (codes "{,}", codes "a", unmatched) ∷
    (codes "{{}}", [], matched) ∷
    (codes "{{}}", codes "a", unmatched) ∷
    (codes "{,a}", codes "a", matched) ∷
    (codes "{,a}", [], unmatched) ∷
    (codes "a**b", codes "axb", matched) ∷
    (codes "a**b", codes "a/b", unmatched) ∷
    (codes "a/**", codes "a/x", matched) ∷
    (codes "a/**", codes "a", unmatched) ∷
    (codes "**/a", codes "a", matched) ∷
    (codes "**/a", codes "x/a", matched) ∷
    (codes "**/a", codes "xa", unmatched) ∷
    (codes "**/**", codes "x/y", matched) ∷
    (codes "**/", codes "x/y", matched) ∷
    (codes "**/**/", codes "x", matched) ∷
    (codes "a/**/**/b", codes "a/b", matched) ∷
    (codes "{**,b}", codes "x/y", unmatched) ∷
    (codes "{**,b}", codes "xy", matched) ∷
    (codes "a{b,c{d,e}f}g", codes "acefg", matched) ∷
    (codes "a{b,c{d,e}f}g", codes "abg", matched) ∷
    (codes "a{b,c{d,e}f}g", codes "acdg", unmatched) ∷
    (codes "a,b", codes "a,b", matched) ∷
    (codes "a?b", codes "a/b", unmatched) ∷
    (codes "a?b", codes "axb", matched) ∷
    (codes "\\*", codes "*", matched) ∷
    (codes "a]", codes "a]", matched) ∷
    ((91 ∷ 195 ∷ 169 ∷ 45 ∷ 122 ∷ 93 ∷ []), [], malformed NonAsciiRange) ∷
    -- a dropped group: `**/` after it is still at the start, but a `/` before it does not count
    (codes "{}**/a", codes "x/a", matched) ∷
    (codes "a/{}**", codes "a/x/y", unmatched) ∷
    (codes "a/{}**", codes "a/x", matched) ∷
    (codes "a/**{}", codes "a/x/y", unmatched) ∷
    (codes "{**/**}", codes "x/y", unmatched) ∷
    (codes "{**/**}", codes "x/y/", matched) ∷
    (codes "a\\/**", codes "a/x/y", matched) ∷
    -- everything matches only if the whole pattern is `**` components joined by `/`, with or
    -- without a last `/`
    (codes "**/**", codes "x/y", matched) ∷
    (codes "**/**/", codes "x/y", matched) ∷
    (codes "**/{}", codes "x/y", unmatched) ∷
    (codes "**/{}", codes "x/y/", matched) ∷
    (codes "**/{,}", codes "a", unmatched) ∷
    (codes "**/**/{}", codes "x/y", unmatched) ∷
    (codes "{}**", codes "x/y", unmatched) ∷
    (codes "{}**", codes "x", matched) ∷
    (codes "{,}**", codes "x/y", unmatched) ∷
    (codes "{}**/", codes "a", unmatched) ∷
    (codes "{}**/", codes "a/", matched) ∷
    (codes "{}**/**", codes "a", unmatched) ∷ []

abbrev folded_rows : List Row
folded_rows =
    (codes "[!A]", codes "a", unmatched) ∷
    (codes "aB", codes "Ab", matched) ∷
    (codes "a*b", codes "a/B", matched) ∷ []

path_rows-hold : map (λ row. matches path row.0 row.1) path_rows ≡ map (λ row. row.2) path_rows
unfolding tokens_of lexemes parse
path_rows-hold = refl

folded_rows-hold : map (λ row. matches folded row.0 row.1) folded_rows ≡ map (λ row. row.2) folded_rows
unfolding tokens_of lexemes parse
folded_rows-hold = refl
