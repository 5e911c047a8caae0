-- Strings of paths and lists of components: splitting and joining are inverse, and commute with splits at a slash.
use Rattle.std.proofs.Common.{◌≡◌, ◌≢◌, ℕ, suc, ◌<◌, ◌==◌, Bool, true, false, not, cond, List, [], ◌∷◌, ◌++◌, length, get_or, IsTrue, refl, sym, ap, subst, ◌∙◌, append_assoc, arith, rules, take, drop, lit<}
use mathlib.Core.Bool.{false≢true}
use Rattle.std.specs.List.{list_all, slice_split, onto_first}
use Rattle.std.specs.Str.{NoCharPasses}
use Rattle.std.specs.Str.Pattern.{HasCharAt}
use Rattle.std.proofs.lemmas.List.{take-append-drop}
use Rattle.std.proofs.lemmas.Str.Pattern.{NoCharPasses-char, drop_at_char}
use Rattle.std.proofs.lemmas.Bool.{ne_eqb, and_parts, and_from}
use Rattle.std.proofs.lemmas.List.Splits.{join_with_byte-slice_split}
use Rattle.jj_paths.specs.Paths.{Path, components, path_string, is_name, is_path_string}

pub path_string-components : (text : List ℕ) → path_string (components text) ≡ text
path_string-components [] = refl
path_string-components (b ∷ bs) = join_with_byte-slice_split 47 (b ∷ bs)

-- the predicates of the definitions
abbrev pub is_slash : ℕ → Bool
is_slash c = c == 47

abbrev pub is_plain : List ℕ → Bool
is_plain bs = list_all (λ c. not (c == 47)) bs

abbrev pub HasNoSlash : List ℕ → Type 0
HasNoSlash bs = (i : ℕ) → i < length bs → get_or bs i 0 ≢ 47

pub is_plain-from_places : (bs : List ℕ) → HasNoSlash bs → is_plain bs ≡ true
is_plain-from_places [] h = refl
is_plain-from_places (b ∷ bs) h = and_from _ _ (ap not (ne_eqb b 47 (h 0 (omega arith)))) (is_plain-from_places bs (λ i lt. h (suc i) (omega arith)))

-- the first component ends at the first slash
pub slice_split-at_slash : (name rest : List ℕ) → is_plain name ≡ true → slice_split is_slash (name ++ 47 ∷ rest) ≡ name ∷ slice_split is_slash rest
slice_split-at_slash [] rest plain = refl
slice_split-at_slash (b ∷ bs) rest plain =
    let parts = and_parts (not (b == 47)) (is_plain bs) plain in
    let no : (b == 47) ≡ false = not_true (b == 47) parts.0 in
    rw (no, slice_split-at_slash bs rest parts.1)
  where
    not_true : (x : Bool) → not x ≡ true → x ≡ false
    not_true true e = sym e
    not_true false e = refl

-- a string without slashes is one part
pub slice_split-plain : (name : List ℕ) → is_plain name ≡ true → slice_split is_slash name ≡ name ∷ []
slice_split-plain [] plain = refl
slice_split-plain (b ∷ bs) plain =
    let parts = and_parts (not (b == 47)) (is_plain bs) plain in
    let no : (b == 47) ≡ false = not_true (b == 47) parts.0 in
    rw (no, slice_split-plain bs parts.1)
  where
    not_true : (x : Bool) → not x ≡ true → x ≡ false
    not_true true e = sym e
    not_true false e = refl

is_name-plain : (bs : List ℕ) → 0 < length bs → is_plain bs ≡ true → is_name bs ≡ true
is_name-plain [] more plain = absurd (omega arith)
is_name-plain (b ∷ bs) more plain = plain

pub components-split : (bs : List ℕ) → 0 < length bs → components bs ≡ slice_split is_slash bs
components-split [] more = absurd (omega arith)
components-split (b ∷ bs) more = refl

pub not_empty : (text : List ℕ) → false ≡ (length text == 0) → 0 < length text
not_empty [] e = absurd (false≢true e)
not_empty (b ∷ bs) e = omega arith

-- a nonempty string without slashes is one component
pub record IsOneName (text : List ℕ) : Type 0 where
  pub name : IsTrue (is_name text)
  pub is : components text ≡ text ∷ []

pub one_name : (text : List ℕ) → 0 < length text → HasNoSlash text → IsOneName text
one_name text more h =
    let plain = is_plain-from_places text h in
    record { name = search (rules, is_name-plain text more plain); is = components-split text more ∙ slice_split-plain text plain }

-- the string of a path, split at its first slash
pub record IsFirstCut (text name rest : List ℕ) : Type 0 where
  pub name_ok : IsTrue (is_name name)
  pub rest_ok : IsTrue (is_path_string rest)
  pub is : components text ≡ name ∷ components rest

first_cut_parts : (text name rest : List ℕ) → is_path_string text ≡ true → text ≡ name ++ 47 ∷ rest → is_plain name ≡ true → (list_all is_name (name ∷ slice_split is_slash rest) ≡ true) × (components text ≡ name ∷ slice_split is_slash rest)
first_cut_parts text name rest valid e plain =
    let more : 0 < length text = rw e (nonempty name) in
    let is : components text ≡ name ∷ slice_split is_slash rest = components-split text more ∙ ap (slice_split is_slash) e ∙ slice_split-at_slash name rest plain in
    (sym (ap (list_all is_name) is) ∙ valid, is)
  where
    nonempty : (name : List ℕ) → 0 < length (name ++ 47 ∷ rest)
    nonempty [] = omega arith
    nonempty (b ∷ bs) = omega arith

-- the part after a slash is nonempty, since an empty part is no name
rest_part : (name rest : List ℕ) → list_all is_name (name ∷ slice_split is_slash rest) ≡ true → (is_path_string rest ≡ true) × (components rest ≡ slice_split is_slash rest)
rest_part name [] all = absurd (false≢true (and_parts (is_name name) false all).1)
rest_part name (b ∷ bs) all = ((and_parts (is_name name) _ all).1, refl)

pub first_cut : (text name rest : List ℕ) → IsTrue (is_path_string text) → text ≡ name ++ 47 ∷ rest → HasNoSlash name → IsFirstCut text name rest
first_cut text name rest valid e h =
    let parts = first_cut_parts text name rest valid e (is_plain-from_places name h) in
    let after = rest_part name rest parts.0 in
    record { name_ok = (and_parts (is_name name) _ parts.0).0; rest_ok = after.0; is = parts.1 ∙ ap (λ l. name ∷ l) (sym after.1) }

-- the parts of two strings joined by a slash
onto_first-append : (b : ℕ) (first : List ℕ) (parts more : List (List ℕ)) → onto_first b ((first ∷ parts) ++ more) ≡ onto_first b (first ∷ parts) ++ more
onto_first-append b first parts more = refl

record HasFirst (parts : List (List ℕ)) : Type 0 where
  first : List ℕ
  others : List (List ℕ)
  is : parts ≡ first ∷ others

onto_first-HasFirst : (b : ℕ) (parts : List (List ℕ)) → HasFirst (onto_first b parts)
onto_first-HasFirst b [] = record { first = b ∷ []; others = []; is = refl }
onto_first-HasFirst b (part ∷ parts) = record { first = b ∷ part; others = parts; is = refl }

slice_split-HasFirst : (bs : List ℕ) → HasFirst (slice_split is_slash bs)
slice_split-HasFirst [] = record { first = []; others = []; is = refl }
slice_split-HasFirst (b ∷ bs) =
    elim (b == 47) as (λ t. HasFirst (cond t ([] ∷ slice_split is_slash bs) (onto_first b (slice_split is_slash bs)))) [
      | true ↦ record { first = []; others = slice_split is_slash bs; is = refl }
      | false ↦ onto_first-HasFirst b (slice_split is_slash bs)
    ]

pub slice_split-append_slash : (text more : List ℕ) → slice_split is_slash (text ++ 47 ∷ more) ≡ slice_split is_slash text ++ slice_split is_slash more
slice_split-append_slash [] more = refl
slice_split-append_slash (b ∷ bs) more =
    let parts = slice_split-HasFirst bs in
    let ih : slice_split is_slash (bs ++ 47 ∷ more) ≡ (parts.first ∷ parts.others) ++ slice_split is_slash more = slice_split-append_slash bs more ∙ ap (λ l. l ++ slice_split is_slash more) parts.is in
    rw (ih, parts.is) (split_cases (b == 47) b parts.first parts.others (slice_split is_slash more))
  where
    split_cases : (t : Bool) (b : ℕ) (first : List ℕ) (others more : List (List ℕ)) → cond t ([] ∷ (first ∷ (others ++ more))) ((b ∷ first) ∷ (others ++ more)) ≡ cond t ([] ∷ (first ∷ others)) ((b ∷ first) ∷ others) ++ more
    split_cases true b first others more = refl
    split_cases false b first others more = refl

-- the components of a path with a name appended
pub is_name-parts : (name : List ℕ) → is_name name ≡ true → (0 < length name) × (is_plain name ≡ true)
is_name-parts [] valid = absurd (false≢true valid)
is_name-parts (b ∷ bs) valid = (omega arith, valid)

pub components-name : (name : List ℕ) → IsTrue (is_name name) → components name ≡ name ∷ []
components-name name valid =
    let parts = is_name-parts name valid in
    components-split name parts.0 ∙ slice_split-plain name parts.1

-- a string with a slash is nonempty
longer : (prefix back : List ℕ) → 0 < length (prefix ++ 47 ∷ back)
longer [] back = omega arith
longer (b ∷ bs) back = omega arith

pub components-join : (text name : List ℕ) → 0 < length text → IsTrue (is_name name) → components (text ++ 47 ∷ name) ≡ components text ++ name ∷ []
components-join text name more valid =
    let parts = is_name-parts name valid in
    components-split (text ++ 47 ∷ name) (longer text name)
    ∙ slice_split-append_slash text name
    ∙ ap (λ l. slice_split is_slash text ++ l) (slice_split-plain name parts.1)
    ∙ ap (λ l. l ++ name ∷ []) (sym (components-split text more))

-- the string that `join` returns: a valid path, with these components
pub record IsJoined (text name joined : List ℕ) : Type 0 where
  pub valid : IsTrue (is_path_string joined)
  pub is : components joined ≡ components text ++ name ∷ []

all_names-join : (path : Path) (name : List ℕ) → list_all is_name path ≡ true → is_name name ≡ true → list_all is_name (path ++ name ∷ []) ≡ true
all_names-join [] name all valid = and_from _ _ valid refl
all_names-join (first ∷ path) name all valid =
    let parts = and_parts (is_name first) (list_all is_name path) all in
    and_from _ _ parts.0 (all_names-join path name parts.1 valid)

pub joined_by : (text name joined : List ℕ) → IsTrue (is_path_string text) → IsTrue (is_name name) → components joined ≡ components text ++ name ∷ [] → IsJoined text name joined
joined_by text name joined valid name_ok is = record { valid = ap (list_all is_name) is ∙ all_names-join (components text) name valid name_ok; is = is }

pub joined_after_slash : (text name v0 v1 v joined : List ℕ) → v0 ≡ text → v1 ≡ v0 ++ 47 ∷ [] → v ≡ v1 → joined ≡ v ++ name → 0 < length text → IsTrue (is_path_string text) → IsTrue (is_name name) → IsJoined text name joined
joined_after_slash text name v0 v1 v joined e0 e1 e2 e3 more valid name_ok =
    let is : joined ≡ text ++ 47 ∷ name = e3 ∙ ap (λ l. l ++ name) (e2 ∙ e1 ∙ ap (λ l. l ++ 47 ∷ []) e0) ∙ append_assoc text (47 ∷ []) name in
    joined_by text name joined valid name_ok (ap components is ∙ components-join text name more name_ok)

pub joined_at_root : (text name v0 v joined : List ℕ) → v0 ≡ text → v ≡ v0 → joined ≡ v ++ name → true ≡ (length text == 0) → IsTrue (is_path_string text) → IsTrue (is_name name) → IsJoined text name joined
joined_at_root [] name v0 v joined e0 e1 e2 none valid name_ok =
    joined_by [] name joined valid name_ok (ap components (e2 ∙ ap (λ l. l ++ name) (e1 ∙ e0)) ∙ components-name name name_ok)
joined_at_root (b ∷ bs) name v0 v joined e0 e1 e2 none valid name_ok = absurd (false≢true (sym (none ∙ ne_eqb (length (b ∷ bs)) 0 (omega arith))))

-- no part has a slash, so a part is a name where it is not empty
abbrev pub is_filled : List ℕ → Bool
is_filled part = not (length part == 0)

onto_first-plain : (b : ℕ) (parts : List (List ℕ)) → not (b == 47) ≡ true → list_all is_plain parts ≡ true → list_all is_plain (onto_first b parts) ≡ true
onto_first-plain b [] one all = and_from _ _ (and_from _ _ one refl) refl
onto_first-plain b (part ∷ parts) one all = let h = and_parts (is_plain part) _ all in and_from _ _ (and_from _ _ one h.0) h.1

parts_plain : (bs : List ℕ) → list_all is_plain (slice_split is_slash bs) ≡ true
parts_plain [] = refl
parts_plain (b ∷ bs) =
    elim (b == 47) as (λ t. (b == 47) ≡ t → list_all is_plain (cond t ([] ∷ slice_split is_slash bs) (onto_first b (slice_split is_slash bs))) ≡ true) [
      | true ↦ λ e. parts_plain bs
      | false ↦ λ e. onto_first-plain b (slice_split is_slash bs) (ap not e) (parts_plain bs)
    ] refl

filled-name : (part : List ℕ) → is_plain part ≡ true → is_filled part ≡ is_name part
filled-name [] plain = refl
filled-name (b ∷ bs) plain = ap not (ne_eqb (length (b ∷ bs)) 0 (omega arith)) ∙ sym plain

filled-names : (parts : List (List ℕ)) → list_all is_plain parts ≡ true → list_all is_filled parts ≡ list_all is_name parts
filled-names [] all = refl
filled-names (part ∷ parts) all = let h = and_parts (is_plain part) _ all in rw (filled-name part h.0, filled-names parts h.1)

pub filled-path_string : (bs : List ℕ) → 0 < length bs → list_all is_filled (slice_split is_slash bs) ≡ is_path_string bs
filled-path_string bs more = filled-names (slice_split is_slash bs) (parts_plain bs) ∙ ap (list_all is_name) (sym (components-split bs more))

-- both parts of a valid list of components are valid
all_names-parts : (a b : Path) → list_all is_name (a ++ b) ≡ true → (list_all is_name a ≡ true) × (list_all is_name b ≡ true)
all_names-parts [] b all = (refl, all)
all_names-parts (x ∷ a) b all =
    let h = and_parts (is_name x) (list_all is_name (a ++ b)) all in
    let more = all_names-parts a b h.1 in
    (and_from _ _ h.0 more.0, more.1)

-- a string whose parts are names is a valid path, and nonempty
record IsPart (text : List ℕ) : Type 0 where
  more : 0 < length text
  ok : IsTrue (is_path_string text)
  is : components text ≡ slice_split is_slash text

part : (text : List ℕ) → list_all is_name (slice_split is_slash text) ≡ true → IsPart text
part [] all = absurd (false≢true all)
part (b ∷ bs) all = record { more = omega arith; ok = all; is = refl }

-- the string of a path, split at any slash, is two valid paths
pub record IsCut (text prefix back : List ℕ) : Type 0 where
  pub front_more : 0 < length prefix
  pub back_more : 0 < length back
  pub front_ok : IsTrue (is_path_string prefix)
  pub back_ok : IsTrue (is_path_string back)
  pub is : components text ≡ components prefix ++ components back

pub cut : (text prefix back : List ℕ) → IsTrue (is_path_string text) → text ≡ prefix ++ 47 ∷ back → IsCut text prefix back
cut text prefix back valid e =
    let is : components text ≡ slice_split is_slash prefix ++ slice_split is_slash back = ap components e ∙ components-split (prefix ++ 47 ∷ back) (longer prefix back) ∙ slice_split-append_slash prefix back in
    let all = all_names-parts (slice_split is_slash prefix) (slice_split is_slash back) (sym (ap (list_all is_name) is) ∙ valid) in
    let f = part prefix all.0 in
    let b = part back all.1 in
    record { front_more = f.more; back_more = b.more; front_ok = f.ok; back_ok = b.ok; is = is ∙ ap (λ l. l ++ slice_split is_slash back) (sym f.is) ∙ ap (λ l. components prefix ++ l) (sym b.is) }

-- the string of a path, split at its last slash
pub record IsLastCut (text above name : List ℕ) : Type 0 where
  pub above_ok : IsTrue (is_path_string above)
  pub name_ok : IsTrue (is_name name)
  pub is : components text ≡ components above ++ name ∷ []

pub last_cut : (text above name : List ℕ) → IsTrue (is_path_string text) → text ≡ above ++ 47 ∷ name → HasNoSlash name → IsLastCut text above name
last_cut text above name valid e h =
    let parts = cut text above name valid e in
    let last = one_name name parts.back_more h in
    record { above_ok = parts.front_ok; name_ok = last.name; is = parts.is ∙ ap (λ l. components above ++ l) last.is }

-- the split by `rsplit_once`
pub last_cut_at : (text above name : List ℕ) (i j : ℕ) → NoCharPasses (λ d. d == 47) (drop j text) → HasCharAt 47 text i j → above ≡ take i text → name ≡ drop j text → IsTrue (is_path_string text) → IsLastCut text above name
last_cut_at text above name i j none at e f valid =
    let is : text ≡ above ++ 47 ∷ name = sym (take-append-drop i text) ∙ ap (λ l. take i text ++ l) (drop_at_char 47 text i j at (lit< tt)) ∙ ap (λ l. l ++ 47 ∷ drop j text) (sym e) ∙ ap (λ l. above ++ 47 ∷ l) (sym f) in
    last_cut text above name valid is (λ k lt. NoCharPasses-char 47 name k (subst (NoCharPasses (λ d. d == 47)) (sym f) none) (lit< tt) lt)
