-- The content bytes of a component and of a path, which are those of its string, and that they are
-- injective.
-- Cited by contracts of public items: IsShortName, IsShortPath, name_lawful, path_content,
-- path_lawful.
use Rattle.std.specs.Prelude.{◌≡◌, ℕ, ◌<◌, ◌^◌, IsTrue, List, length}
use Rattle.std.specs.Str.{IsUtf8, bytes_eq}
use Rattle.std.specs.Cmp.Lexicographic.{same_text}
use Rattle.std.proofs.Common.{sym, ap, ◌∙◌}
use Rattle.jj_content.specs.Content.{IsLawful, string_content}
use Rattle.jj_content.specs.PrefixFreeProofs.{narrow_lawful, string_lawful}
use Rattle.jj_paths.specs.Paths.{Name, Path, path_string, components, is_name, is_path_string}
use Rattle.jj_paths.specs.Orders.{path_eq, path_eq-Decides}

-- UTF-8, shorter than 2⁶⁴ bytes
abbrev pub IsShortText : List ℕ → Type 0
IsShortText text = IsUtf8 text × (length text < 2 ^ 64)

-- a valid component
abbrev pub IsShortName : Name → Type 0
IsShortName name = IsTrue (is_name name) × IsShortText name

pub name_lawful : IsLawful IsShortName bytes_eq string_content
name_lawful = narrow_lawful (λ _ value. value.1.1) string_lawful

-- the string of a valid path
abbrev pub IsPathText : List ℕ → Type 0
IsPathText text = IsTrue (is_path_string text) × IsShortText text

-- a path whose string is valid and has these components
abbrev pub IsShortPath : Path → Type 0
IsShortPath path = (components (path_string path) ≡ path) × IsPathText (path_string path)

-- the content of a path: that of its string
abbrev pub path_content : Path → List ℕ
path_content path = string_content (path_string path)

pub path_lawful : IsLawful IsShortPath path_eq path_content
path_lawful = record {
  same = λ x y p q h. ap path_content ((path_eq-Decides x y).0 h);
  decides = λ x y s t p q h.
      let texts : path_string x ≡ path_string y =
      same_text (path_string x) (path_string y) (sym
      (string_lawful.decides (path_string x) (path_string y) s t p.1.1.1 q.1.1.1 h)) in
      let same : x ≡ y = sym p.0 ∙ ap components texts ∙ q.0 in
      (path_eq-Decides x y).1 same;
}
