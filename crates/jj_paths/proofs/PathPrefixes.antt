-- Strings of paths of which one is a prefix or a suffix of the other, by components.
use Rattle.std.proofs.Common.{◌≡◌, ◌≢◌, ℕ, ◌<◌, ◌==◌, Bool, true, false, not, List, [], ◌∷◌, ◌++◌, length, IsTrue, ◌⊎◌, inl, inr, get_or, zero, suc, refl, sym, ap, ◌∙◌, append_assoc, append-nil, arith}
use mathlib.Core.Bool.{false≢true}
use Rattle.std.proofs.lemmas.List.{append_cancel_left, append_cancel_right}
use Rattle.std.proofs.lemmas.Bool.{and_parts}
use Rattle.jj_paths.specs.Paths.{Name, Path, components, path_string, dir_string, is_name, is_path_string}
use Rattle.jj_paths.proofs.PathStrings.{path_string-components, HasNoSlash, is_plain, is_plain-from_places, IsCut, cut}

path_string-below : (base : Path) (name : Name) (rest : Path) → 0 < length base → path_string (base ++ name ∷ rest) ≡ path_string base ++ 47 ∷ path_string (name ∷ rest)
path_string-below [] name rest more = absurd (omega arith)
path_string-below (x ∷ []) name rest more = refl
path_string-below (x ∷ y ∷ base) name rest more =
    ap (λ l. x ++ 47 ∷ l) (path_string-below (y ∷ base) name rest (omega arith)) ∙ sym (append_assoc x (47 ∷ path_string (y ∷ base)) (47 ∷ path_string (name ∷ rest)))

components-more : (text : List ℕ) → 0 < length text → 0 < length (components text)
components-more text more = by_parts (components text) refl
  where
    by_parts : (parts : Path) → components text ≡ parts → 0 < length parts
    by_parts [] is = let empty : [] ≡ text = sym (ap path_string is) ∙ path_string-components text in absurd (omega (arith, more, ap length empty))
    by_parts (name ∷ rest) is = omega arith

-- the string of a path below another starts with the other's, followed by a slash or nothing
pub text_below : (text base : List ℕ) (rest : Path) → 0 < length base → components text ≡ components base ++ rest → (text ≡ base) ⊎ ((tail : List ℕ) × (text ≡ base ++ 47 ∷ tail))
text_below text base [] more is = inl (sym (path_string-components text) ∙ ap path_string (is ∙ append-nil (components base)) ∙ path_string-components base)
text_below text base (name ∷ rest) more is =
    inr (path_string (name ∷ rest), sym (path_string-components text) ∙ ap path_string is ∙ path_string-below (components base) name rest (components-more base more) ∙ ap (λ l. l ++ 47 ∷ path_string (name ∷ rest)) (path_string-components base))

-- a path whose string does not start with the base's is not below it
pub not_below-other : (text base : List ℕ) (rest : Path) → 0 < length base → ((tail : List ℕ) → text ≢ base ++ tail) → components text ≢ components base ++ rest
not_below-other text base rest more other is = elim (text_below text base rest more is) [
  | inl same ↦ other [] (same ∙ sym (append-nil base))
  | inr (tail, e) ↦ other (47 ∷ tail) e
]

-- a path whose string continues the base's other than by a slash is not below it
pub not_below-inside : (text base tail : List ℕ) (rest : Path) → 0 < length base → 0 < length tail → text ≡ base ++ tail → ((more : List ℕ) → tail ≢ 47 ∷ more) → components text ≢ components base ++ rest
not_below-inside text base tail rest more longer is inside below = elim (text_below text base rest more below) [
  | inl same ↦ let none : tail ≡ [] = append_cancel_left base tail [] (sym is ∙ same ∙ sym (append-nil base)) in absurd (omega (arith, longer, ap length none))
  | inr (further, e) ↦ inside further (append_cancel_left base tail (47 ∷ further) (sym is ∙ e))
]

pub cut_after : (text base tail more : List ℕ) → IsTrue (is_path_string text) → text ≡ base ++ tail → tail ≡ 47 ∷ more → IsCut text base more
cut_after text base tail more valid is begins = cut text base more valid (is ∙ ap (λ l. base ++ l) begins)

-- the string of a directory
pub dir_string-components : (text written : List ℕ) → 0 < length text → written ≡ text ++ 47 ∷ [] → written ≡ dir_string (components text)
dir_string-components text written more is = by_parts (components text) refl
  where
    by_parts : (parts : Path) → components text ≡ parts → written ≡ dir_string (components text)
    by_parts [] e = absurd (omega (arith, components-more text more, ap length e))
    by_parts (name ∷ rest) e = is ∙ ap (λ l. l ++ 47 ∷ []) (sym (path_string-components text) ∙ ap path_string e) ∙ ap dir_string (sym e)

-- a nonempty string is a name if and only if it has no slash
is_plain-places : (bs : List ℕ) → is_plain bs ≡ true → HasNoSlash bs
is_plain-places [] plain i lt = absurd (omega arith)
is_plain-places (b ∷ bs) plain zero lt = λ is. false≢true (ap not (sym (eqb-of is)) ∙ (and_parts (not (b == 47)) (is_plain bs) plain).0)
  where
    eqb-of : b ≡ 47 → (b == 47) ≡ true
    eqb-of e = rw e
is_plain-places (b ∷ bs) plain (suc i) lt = is_plain-places bs (and_parts (not (b == 47)) (is_plain bs) plain).1 i (omega arith)

pub no_slash-is_name : (bs : List ℕ) (r : Bool) → 0 < length bs → (r ≡ true → (k : ℕ) × (k < length bs) × (get_or bs k 0 ≡ 47)) × ((k : ℕ) → k < length bs → get_or bs k 0 ≡ 47 → r ≡ true) → not r ≡ is_name bs
no_slash-is_name [] r more told = absurd (omega arith)
no_slash-is_name (b ∷ bs) true more told = let slash = told.0 refl in by_plain (is_plain (b ∷ bs)) refl slash.0 slash.1 slash.2
  where
    by_plain : (t : Bool) → is_plain (b ∷ bs) ≡ t → (k : ℕ) → k < length (b ∷ bs) → get_or (b ∷ bs) k 0 ≡ 47 → false ≡ is_plain (b ∷ bs)
    by_plain true is k lt at = absurd (is_plain-places (b ∷ bs) is k lt at)
    by_plain false is k lt at = sym is
no_slash-is_name (b ∷ bs) false more told = sym (is_plain-from_places (b ∷ bs) (λ i lt at. false≢true (told.1 i lt at)))

-- the string of a path with another as suffix ends with the other's, after a slash or nothing
pub text_before : (text rest : List ℕ) (prefix : Path) → 0 < length rest → components text ≡ prefix ++ components rest → (text ≡ rest) ⊎ ((head : List ℕ) × (text ≡ head ++ 47 ∷ rest))
text_before text rest [] more is = inl (sym (path_string-components text) ∙ ap path_string is ∙ path_string-components rest)
text_before text rest (first ∷ prefix) more is = by_parts (components rest) refl
  where
    by_parts : (parts : Path) → components rest ≡ parts → (text ≡ rest) ⊎ ((head : List ℕ) × (text ≡ head ++ 47 ∷ rest))
    by_parts [] e = absurd (omega (arith, components-more rest more, ap length e))
    by_parts (name ∷ parts) e =
        inr (path_string (first ∷ prefix), sym (path_string-components text) ∙ ap path_string (is ∙ ap (λ p. (first ∷ prefix) ++ p) e) ∙ path_string-below (first ∷ prefix) name parts (omega arith) ∙ ap (λ l. path_string (first ∷ prefix) ++ 47 ∷ l) (ap path_string (sym e) ∙ path_string-components rest))

slash_after : (head rest : List ℕ) → head ++ 47 ∷ rest ≡ (head ++ 47 ∷ []) ++ rest
slash_after head rest = sym (append_assoc head (47 ∷ []) rest)

-- if the rest is a suffix by components, its string is a suffix
pub ends_so : (text rest : List ℕ) (prefix : Path) → 0 < length rest → components text ≡ prefix ++ components rest → ((head : List ℕ) → text ≢ head ++ rest) → ⊥
ends_so text rest prefix more is other = elim (text_before text rest prefix more is) [
  | inl same ↦ other [] same
  | inr (head, e) ↦ other (head ++ 47 ∷ []) (e ∙ slash_after head rest)
]

-- the string before that suffix is empty, or a valid path and a slash
pub nothing_before : (text rest head : List ℕ) (prefix : Path) → 0 < length rest → components text ≡ prefix ++ components rest → text ≡ head ++ rest → ((above : List ℕ) → head ≢ above ++ 47 ∷ []) → components text ≡ components rest
nothing_before text rest head prefix more is cut_so none = elim (text_before text rest prefix more is) [
  | inl same ↦ ap components same
  | inr (above, e) ↦ absurd (none above (append_cancel_right head (above ++ 47 ∷ []) rest (sym cut_so ∙ e ∙ slash_after above rest)))
]

pub cut_before : (text rest head above : List ℕ) → IsTrue (is_path_string text) → text ≡ head ++ rest → head ≡ above ++ 47 ∷ [] → IsCut text above rest
cut_before text rest head above valid is ends = cut text above rest valid (is ∙ ap (λ l. l ++ rest) ends ∙ sym (slash_after above rest))
