-- A glob that matches a path or an ancestor of it matches a prefix of the path's string, or the root.
use Rattle.std.proofs.Common.{◌≡◌, ◌∙◌, ◌↔◌, ◌⊎◌, inl, inr, ℕ, Bool, true, false, IsTrue, List, [], ◌∷◌, ◌++◌, refl, ap, sym, subst, append-nil, append_assoc}
use mathlib.Core.Bool.{false≢true}
use Rattle.jj_paths.specs.Paths.{Path, Name, components, is_path_string, path_string}
use Rattle.jj_paths.proofs.PathStrings.{path_string-components, cut}
use Rattle.jj_globs.specs.GlobMeaning.{GlobSpec, IsMatch, IsPrefixMatch}
use Rattle.jj_filesets.specs.Patterns.{IsBelowMatch}

-- the string of a path below another one that is not the root
below_string : (x : Name) (base : Path) (name : Name) (rest : Path) → path_string ((x ∷ base) ++ name ∷ rest) ≡ path_string (x ∷ base) ++ 47 ∷ path_string (name ∷ rest)
below_string x [] name rest = refl
below_string x (y ∷ base) name rest = ap (λ l. x ++ 47 ∷ l) (below_string y base name rest) ∙ sym (append_assoc x (47 ∷ path_string (y ∷ base)) (47 ∷ path_string (name ∷ rest)))

of_prefix : (g : GlobSpec) (text : List ℕ) → IsTrue (is_path_string text) → IsPrefixMatch g text → IsBelowMatch g (components text)
of_prefix g text valid (inl whole) = (components text, ([], sym (append-nil (components text))), subst (IsMatch g) (sym (path_string-components text)) whole)
of_prefix g text valid (inr (prefix, rest, is, matched)) =
    (components prefix, (components rest, (cut text prefix rest valid is).is), subst (IsMatch g) (sym (path_string-components prefix)) matched)

of_root : (g : GlobSpec) (path : Path) → IsMatch g [] → IsBelowMatch g path
of_root g path matched = ([], (path, refl), matched)

prefix_of : (g : GlobSpec) (text : List ℕ) → IsBelowMatch g (components text) → IsPrefixMatch g text ⊎ IsMatch g []
prefix_of g text ([], below, matched) = inr matched
prefix_of g text ((x ∷ base), ([], is), matched) =
    inl (inl (subst (IsMatch g) (ap path_string (sym (append-nil (x ∷ base)) ∙ sym is) ∙ path_string-components text) matched))
prefix_of g text ((x ∷ base), ((name ∷ rest), is), matched) =
    inl (inr (path_string (x ∷ base), path_string (name ∷ rest), sym (path_string-components text) ∙ ap path_string is ∙ below_string x base name rest, matched))

-- the prefix is matched
pub below_prefix : (g : GlobSpec) (text : List ℕ) (found : Bool) → IsTrue (is_path_string text) → (IsTrue found ↔ IsPrefixMatch g text) → found ≡ true → IsTrue found ↔ IsBelowMatch g (components text)
below_prefix g text found valid both is = ((λ h. of_prefix g text valid (both.0 h)), (λ h. is))

-- the prefix is not matched
pub below_root : (g : GlobSpec) (text : List ℕ) (found root : Bool) → (IsTrue found ↔ IsPrefixMatch g text) → found ≡ false → (IsTrue root ↔ IsMatch g []) → IsTrue root ↔ IsBelowMatch g (components text)
below_root g text found root both is at_root = (
  (λ h. of_root g (components text) (at_root.0 h)),
  (λ h. elim (prefix_of g text h) [ inl matched ↦ absurd (false≢true (sym is ∙ both.1 matched)) | inr matched ↦ at_root.1 matched ]),
)
