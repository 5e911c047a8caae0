-- Escaping: a glob that matches one string only.
-- Cited by contracts of public items: MatchesOnly, is_special, literal_glob.
use Rattle.std.specs.Prelude.{◌≡◌, ◌↔◌, ℕ, Bool, false, ◌==◌, ◌||◌, if◌then◌else◌, List, [], ◌∷◌}
use Rattle.std.specs.List.{flat_map}
use Rattle.jj_globs.specs.GlobMeaning.{IsMatch}
use Rattle.jj_globs.specs.GlobParsing.{glob_spec}

-- one of `? * [ ] { } \`
abbrev pub is_special : ℕ → Bool
is_special b = (b == 63) || (b == 42) || (b == 91) || (b == 93) || (b == 123) || (b == 125)
    || (b == 92)

-- a special byte in brackets, any other byte as it is
abbrev pub escaped_byte : ℕ → List ℕ
escaped_byte b = if is_special b then 91 ∷ b ∷ 93 ∷ [] else b ∷ []

-- the string with each special byte in brackets
unfoldable pub literal_glob : List ℕ → List ℕ
literal_glob text = flat_map escaped_byte text

-- with or without separator, the glob matches this byte string and no other
abbrev pub MatchesOnly : List ℕ → List ℕ → Type 0
MatchesOnly glob text = (separator : Bool) (bytes : List ℕ)
    → IsMatch (glob_spec glob separator false) bytes ↔ (bytes ≡ text)
