-- Proofs about the longest common prefix of path components.
use Rattle.std.proofs.Common.{◌≡◌, ◌∙◌, List, ℕ, [], ◌∷◌, ◌++◌, Option, Some, None, MatchOption, true, false, sym, ap, refl}
use Rattle.std.specs.Str.{bytes_eq}
use Rattle.std.proofs.lemmas.Slice.Eq.{bytes_eq-Decides}
use Rattle.std.specs.Path.{path_bytes, path_components}
use Rattle.std.specs.declared.path.Path.{Path}
use Rattle.jj_files.specs.PathComponents.{HasCommonPrefix}

-- a nonempty list has a first element
pub one_more : (prefix : List (List ℕ)) (x : List ℕ) → (first : List ℕ) × (rest : List (List ℕ)) × (prefix ++ x ∷ [] ≡ first ∷ rest)
one_more [] x = (x, [], refl)
one_more (first ∷ prefix) x = (first, prefix ++ x ∷ [], refl)

pub differing : (a b : List ℕ) → bytes_eq a b ≡ false → a ≡ b → ⊥
differing a b unlike e = let h : true ≡ false = sym ((bytes_eq-Decides a b).1 e) ∙ unlike in cc h

-- the first components differ, or one list is empty
abbrev pub HasNoCommonHead : (from_left to_left : List (List ℕ)) → Type 0
HasNoCommonHead from_left to_left = (next : List ℕ) (from_rest to_rest : List (List ℕ)) → from_left ≡ next ∷ from_rest → to_left ≡ next ∷ to_rest → ⊥

pub apart_differing : (from_left to_left from_rest to_rest : List (List ℕ)) (ours theirs : List ℕ) → from_left ≡ ours ∷ from_rest → to_left ≡ theirs ∷ to_rest
    → (ours ≡ theirs → ⊥) → HasNoCommonHead from_left to_left
apart_differing from_left to_left from_rest to_rest ours theirs from_is to_is differ next fs ts f t =
    let a : ours ≡ next = cc (from_is, f) in let b : theirs ≡ next = cc (to_is, t) in differ (a ∙ sym b)

pub apart_from_none : (from_left to_left : List (List ℕ)) → from_left ≡ [] → HasNoCommonHead from_left to_left
apart_from_none from_left to_left none next fs ts f t = cc (none, f)

pub apart_to_none : (from_left to_left : List (List ℕ)) → to_left ≡ [] → HasNoCommonHead from_left to_left
apart_to_none from_left to_left none next fs ts f t = cc (none, t)

-- the remaining paths that the loop has stored, after this common prefix
abbrev pub StoresRemainder : (left : Option (Path × Path)) (prefix from_left to_left : List (List ℕ)) → Type 0
StoresRemainder left prefix from_left to_left = MatchOption left (prefix ≡ [])
    (λ left. (first : List ℕ) × (rest : List (List ℕ)) × (prefix ≡ first ∷ rest)
    × (path_components (path_bytes left.0) ≡ from_left) × (path_components (path_bytes left.1) ≡ to_left))

pub has_common_prefix : (from to : List ℕ) (left : Option (Path × Path)) (prefix from_left to_left : List (List ℕ))
    → path_components from ≡ prefix ++ from_left → path_components to ≡ prefix ++ to_left → StoresRemainder left prefix from_left to_left → HasNoCommonHead from_left to_left
    → MatchOption left (HasCommonPrefix from to [] (path_components from) (path_components to))
    (λ left. (first : List ℕ) × (prefix : List (List ℕ))
    × HasCommonPrefix from to (first ∷ prefix) (path_components (path_bytes left.0)) (path_components (path_bytes left.1)))
has_common_prefix from to None prefix from_left to_left from_is to_is none apart =
    let from_all = from_is ∙ ap (λ l. l ++ from_left) none in
    let to_all = to_is ∙ ap (λ l. l ++ to_left) none in
    record { from_parts = refl; to_parts = refl; apart = λ next fs ts f t. apart next fs ts (sym from_all ∙ f) (sym to_all ∙ t) }
has_common_prefix from to (Some left) prefix from_left to_left from_is to_is (first, rest, is, from_noted, to_noted) apart = (
  first,
  rest,
  record {
    from_parts = from_is ∙ ap (λ l. l ++ from_left) is ∙ ap (λ l. (first ∷ rest) ++ l) (sym from_noted);
    to_parts = to_is ∙ ap (λ l. l ++ to_left) is ∙ ap (λ l. (first ∷ rest) ++ l) (sym to_noted);
    apart = λ next fs ts f t. apart next fs ts (sym from_noted ∙ f) (sym to_noted ∙ t);
  },
)
