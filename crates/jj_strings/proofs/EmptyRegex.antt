-- An empty regular expression has a match in every string.
use Rattle.std.proofs.Common.{◌≡◌, ◌∙◌, sym, ap, refl, subst, ℕ, ◌<◌, ◌≤◌, inl, inr, true, true≢false, List, [], ◌∷◌, length, Option, None, Some, is_some, IsSome, IsSomeAnd, All, arith}
use Rattle.regex_hir.specs.Re.{Re, empty}
use Rattle.regex_hir.specs.Meaning.{meaning}
use Rattle.regex_hir.specs.declared.hir.Hir.{Hir}
use Rattle.regex_hir.proofs.FindLemmas.{find_complete}
use Rattle.regex_syntax.specs.Brackets.{Nested}
use Rattle.regex_syntax.specs.Captures.{SameCaptures}
use Rattle.regex_syntax.specs.Grammar.{Names, group_count}
use Rattle.regex_syntax.specs.Same.{SameTree}
use Rattle.regex_syntax.specs.Verdict.{Reads}
use Rattle.regex_syntax.proofs.CapturesLemmas as seen
use Rattle.regex_syntax.proofs.TreeLaws.{alt-fail}
use Rattle.regex_syntax.proofs.Written.{IsReadAs, grammar, is_some-option_map}
use Rattle.regex.specs.Bytes.{regex_source, regex_config, regex_pattern, IsReadFromSource}
use Rattle.regex.specs.Patterns.{find, Config}
use Rattle.regex.specs.Names.{names_of}
use Rattle.regex.specs.declared.bytes.regex.Regex.{Regex}
use Rattle.jj_strings.specs.PatternKinds.{bytes_config, bytes_config_i}
use Rattle.jj_strings.specs.StringMatchers.{IsParsed}
use Rattle.jj_strings.specs.StringSets.{is_empty_string}

written : IsReadAs bytes_config [] empty
unfolding grammar
written = alt-fail empty

written_i : IsReadAs bytes_config_i [] empty
unfolding grammar
written_i = alt-fail empty

alike_to : (o : Option (Nested Re × Names)) (most : ℕ) (a b : Re) (names : Names)
    → IsSomeAnd o (λ (re, found). (re.depth ≤ most) × SameCaptures a re.value × (names ≡ found) × (group_count a ≤ length names))
    → IsSomeAnd o (λ (found, _). SameTree found.value b) → SameCaptures a b
alike_to None most a b names p q = absurd p
alike_to (Some found) most a b names p q = seen.◌also◌ p.1 (seen.alike_of_same q.matches)

holds_read : (config : Config) (hir : Hir) (names : Names) → Reads config [] hir names → IsReadAs config [] empty
    → (bytes : List ℕ) → All (λ b. b < 256) bytes → IsSome (find (meaning hir) bytes 0)
unfolding Reads
holds_read config hir names is_read as_empty bytes small =
    sym (is_some-option_map seen.spans _)
    ∙ ap is_some (seen.find_alike (meaning hir) empty (alike_to _ config.nest_limit (meaning hir) empty names is_read as_empty) bytes small 0)
    ∙ is_some-option_map seen.spans _ ∙ find_complete empty bytes 0 0 0 (omega arith) (omega arith) refl

empty_text : (text : List ℕ) → is_empty_string text ≡ true → text ≡ []
empty_text [] h = refl
empty_text (b ∷ bs) h = absurd (true≢false (sym h))

-- the regular expression was parsed from the empty string with these options
read_of : (r : Regex) (config : Config) → regex_source r ≡ [] → regex_config r ≡ config → IsReadFromSource r
    → Reads config [] r.pattern.program.hir (names_of r.pattern.names.items)
read_of r config source same is_read =
    subst (λ (k : Config). Reads k [] r.pattern.program.hir (names_of r.pattern.names.items)) same
    (subst (λ (t : List ℕ). Reads r.pattern.config t r.pattern.program.hir (names_of r.pattern.names.items)) source is_read)

pub holds_everything : (r : Regex) → is_empty_string (regex_source r) ≡ true → IsParsed r → (bytes : List ℕ)
    → All (λ b. b < 256) bytes → IsSome (find (regex_pattern r) bytes 0)
holds_everything r h made bytes small =
    let source = empty_text (regex_source r) h in
    elim made.1 [
      | inl config ↦ holds_read bytes_config r.pattern.program.hir (names_of r.pattern.names.items) (read_of r bytes_config source config made.0) written bytes small
      | inr config ↦ holds_read bytes_config_i r.pattern.program.hir (names_of r.pattern.names.items) (read_of r bytes_config_i source config made.0) written_i bytes small
    ]
