-- A map of numbers of names, before and after a name is inserted.
use Rattle.std.proofs.Common.{◌≡◌, ℕ, ◌+◌, ◌<◌, ◌≤◌, Bool, true, false, cond, List, [], ◌∷◌, ◌++◌, length, length-append, get_or, take, drop, not, Option, Some, None, refl, sym, ◌∙◌, ap, subst, arith, ⊎_elim, true≢false}
use Rattle.std.specs.Prelude.{MatchOption, is_none, string_bytes}
use Rattle.std.specs.BTreeMap.{BTreeMap, Updates, btree_map_len, get, is_at}
use Rattle.std.specs.Cmp.Lexicographic.{nat_list_eq_equiv}
use Rattle.std.specs.List.{AllZip, Contains, IsDistinct, list_any}
use Rattle.std.specs.Map.{lookup}
use Rattle.std.specs.Option.{option_map}
use Rattle.std.specs.Str.{bytes_eq}
use Rattle.std.proofs.Math.Seq.{get_or-append_seam}
use Rattle.std.proofs.lemmas.List.{append-nil, append_assoc, get_or_append_left, length-map, length-take-le, length_push, map-append, take-append-drop, take_more}
use Rattle.std.proofs.lemmas.List.Elements.{Contains-push_cases}
use Rattle.std.proofs.lemmas.Map.Keys.{IsDistinct-push}
use Rattle.std.proofs.lemmas.Map.Text.{is_eq-slice_cmp}
use Rattle.std.proofs.lemmas.Map.Views.{Contains-from_any}
use Rattle.std.proofs.lemmas.Option.{get_or_from_slice_get, slice_get-get_or, slice_get-map, slice_get_within}
use Rattle.std.proofs.lemmas.Slice.Eq.{bytes_eq-Decides}
use denote.Ref.{Bor}
use Rattle.jj_dag.proofs.Expanding.{zip-push}
use Rattle.jj_log.specs.Numbering.{Interns, InternsMore, IsNumbered, IsNumberOf, IsNumberingError, name_cmp, names_of}
use Rattle.jj_log.specs.declared.commits.Commit.{Commit}
use Rattle.jj_log.specs.declared.commits.NumberedCommit.{NumberedCommit}
use Rattle.jj_log.specs.declared.fault.LogError.TheVariants.{RepeatedName}

-- a number stays that of its name when the list is extended
pub number_extended : (names others : List (List ℕ)) (name : List ℕ) (n : ℕ) → IsNumberOf names name n → IsNumberOf (names ++ others) name n
number_extended names others name n is =
    let within : n < length names = slice_get_within names n name is in
    let longer : n < length (names ++ others) = omega (arith, within, length-append names others) in
    slice_get-get_or (names ++ others) n [] longer ∙ ap (λ x. Some x) (get_or_append_left names others [] n within ∙ get_or_from_slice_get names n name [] is)

-- the number of the last name
pub last_number : (names : List (List ℕ)) (name : List ℕ) → IsNumberOf (names ++ name ∷ []) name (length names)
last_number names name =
    let within : length names < length (names ++ name ∷ []) = omega (arith, length_push names name) in
    slice_get-get_or (names ++ name ∷ []) (length names) [] within ∙ ap (λ x. Some x) (get_or-append_seam names name [] [])

-- a name that is not in the list equals none of it
not_any : (names : List (List ℕ)) (name : List ℕ) → (Contains names name → ⊥) → list_any (bytes_eq name) names ≡ false
not_any names name absent = by_test (list_any (bytes_eq name) names) refl
  where
    by_test : (t : Bool) → list_any (bytes_eq name) names ≡ t → list_any (bytes_eq name) names ≡ false
    by_test true is = absurd (absent (Contains-from_any (λ x y. (bytes_eq-Decides x y).0) name names is))
    by_test false is = is

-- an empty map
pub interns_none : (numbers : BTreeMap (Bor (List ℕ)) ℕ) → numbers.entries ≡ [] → Interns [] numbers
unfolding IsDistinct
interns_none numbers none = record {
  len = ap length none;
  once = tt;
  finds = λ name. subst (λ (es : List (Bor (List ℕ) × ℕ)). MatchOption (lookup (is_at (name_cmp name)) es) (Contains [] name.now → ⊥) (IsNumberOf [] name.now)) (sym none)
      (λ (k, less, e). absurd (omega (arith, less)));
}

module _ (names : List (List ℕ)) (old new : BTreeMap (Bor (List ℕ)) ℕ) (name : Bor (List ℕ)) (k : Interns names old) where
  -- a name that the map does not have is not in the list
  pub absent_name : get name_cmp old name ≡ None → Contains names name.now → ⊥
  absent_name none = subst (λ (o : Option ℕ). MatchOption o (Contains names name.now → ⊥) (IsNumberOf names name.now)) none (k.finds name)

  -- the number that the map has
  pub found_number : (n : ℕ) → get name_cmp old name ≡ Some n → IsNumberOf names name.now n
  found_number n some = subst (λ (o : Option ℕ). MatchOption o (Contains names name.now → ⊥) (IsNumberOf names name.now)) some (k.finds name)

  -- a new name is appended
  pub interns_push : get name_cmp old name ≡ None → Updates name_cmp old new name (Some (length names)) → btree_map_len new ≡ btree_map_len old + 1
      → Interns (names ++ name.now ∷ []) new
  interns_push none updates longer = record {
    len = omega (arith, longer, k.len, length_push names name.now);
    once = IsDistinct-push nat_list_eq_equiv names name.now k.once (not_any names name.now (absent_name none));
    finds = λ q. subst (λ (o : Option ℕ). MatchOption o (Contains all q.now → ⊥) (IsNumberOf all q.now))
        (ap (λ t. cond t (Some (length names)) (get name_cmp old q)) (sym (is_eq-slice_cmp name.now q.now)) ∙ sym (updates.0 q))
        (by_test q (bytes_eq name.now q.now) refl);
  }
    where
      all : List (List ℕ)
      all = names ++ name.now ∷ []

      by_old : (q : Bor (List ℕ)) (o : Option ℕ) → bytes_eq name.now q.now ≡ false → MatchOption o (Contains names q.now → ⊥) (IsNumberOf names q.now)
          → MatchOption o (Contains all q.now → ⊥) (IsNumberOf all q.now)
      by_old q None differ absent = λ h. ⊎_elim absent (λ same. true≢false (sym ((bytes_eq-Decides name.now q.now).1 same) ∙ differ)) (Contains-push_cases names name.now q.now h)
      by_old q (Some n) differ is = number_extended names (name.now ∷ []) q.now n is

      by_test : (q : Bor (List ℕ)) (t : Bool) → bytes_eq name.now q.now ≡ t
          → MatchOption (cond t (Some (length names)) (get name_cmp old q)) (Contains all q.now → ⊥) (IsNumberOf all q.now)
      by_test q true same = subst (λ (x : List ℕ). IsNumberOf all x (length names)) ((bytes_eq-Decides name.now q.now).0 same) (last_number names name.now)
      by_test q false differ = by_old q (get name_cmp old q) differ (k.finds q)

-- numbers of a list of names stay theirs
pub numbers_extended : {A : Type 0} (name_of : A → List ℕ) (names others : List (List ℕ)) (xs : List A) (ns : List ℕ) → AllZip (λ x n. IsNumberOf names (name_of x) n) xs ns
    → AllZip (λ x n. IsNumberOf (names ++ others) (name_of x) n) xs ns
numbers_extended name_of names others [] [] k = tt
numbers_extended name_of names others [] (n ∷ ns) k = absurd k
numbers_extended name_of names others (x ∷ xs) [] k = absurd k
numbers_extended name_of names others (x ∷ xs) (n ∷ ns) k = (number_extended names others (name_of x) n k.0, numbers_extended name_of names others xs ns k.1)

-- nothing was inserted
pub interns_same : (m : BTreeMap (Bor (List ℕ)) ℕ) (P : List (List ℕ) → Type 0) → ((names : List (List ℕ)) → Interns names m → P names) → InternsMore m m P
interns_same m P holds names k =
    let both = subst (λ (l : List (List ℕ)). Interns l m × P l) (sym (append-nil names)) (k, holds names k) in ([], both.0, both.1)

-- names inserted by one call after another
pub interns_then : (first second third : BTreeMap (Bor (List ℕ)) ℕ) (P Q R : List (List ℕ) → Type 0) → InternsMore first second P → InternsMore second third Q
    → ((all others : List (List ℕ)) → P all → Q (all ++ others) → R (all ++ others)) → InternsMore first third R
interns_then first second third P Q R one two both names k =
    let a = one names k in
    let b = two (names ++ a.0) a.1 in
    let both_hold = subst (λ (l : List (List ℕ)). Interns l third × R l) (append_assoc names a.0 b.0) (b.1, both (names ++ a.0) b.0 a.2 b.2) in
    (a.0 ++ b.0, both_hold.0, both_hold.1)

-- a new name has the next number
pub interns_new : (old new : BTreeMap (Bor (List ℕ)) ℕ) (name : Bor (List ℕ)) (n : ℕ) → get name_cmp old name ≡ None → Updates name_cmp old new name (Some n)
    → n ≡ btree_map_len old → btree_map_len new ≡ btree_map_len old + 1 → InternsMore old new (λ all. IsNumberOf all name.now n)
interns_new old new name n none updates next longer names k =
    let same : n ≡ length names = next ∙ k.len in
    let pushed = interns_push names old new name k none (subst (λ (m : ℕ). Updates name_cmp old new name (Some m)) same updates) longer in
    (name.now ∷ [], pushed, subst (λ (m : ℕ). IsNumberOf (names ++ name.now ∷ []) name.now m) (sym same) (last_number names name.now))

-- ---- names of commits

-- one more name
pub names_more : (commits : List Commit) (i : ℕ) (c : Commit) → i < length commits → c ≡ get_or commits i c
    → names_of (take (i + 1) commits) ≡ names_of (take i commits) ++ string_bytes c.name ∷ []
names_more commits i c within at =
    ap names_of (take_more commits i c within ∙ ap (λ x. take i commits ++ x ∷ []) (sym at)) ∙ map-append (λ x. string_bytes x.name) (take i commits) (c ∷ [])

-- as many names as commits
names_long : (commits : List Commit) (i : ℕ) → i ≤ length commits → length (names_of (take i commits)) ≡ i
names_long commits i within = length-map (take i commits) (λ c. string_bytes c.name) ∙ length-take-le i commits within

-- the number of the commit at an index
number_at : (commits : List Commit) (i : ℕ) (c : Commit) → i < length commits → c ≡ get_or commits i c → IsNumberOf (names_of commits) (string_bytes c.name) i
number_at commits i c within at =
    slice_get-map (λ x. string_bytes x.name) commits i ∙ ap (option_map (λ x. string_bytes x.name)) (slice_get-get_or commits i c within ∙ ap (λ x. Some x) (sym at))

-- an earlier commit has the name of the one at an index
pub repeated_name : (commits : List Commit) (i : ℕ) (c : Commit) (earlier : ℕ) → i < length commits → c ≡ get_or commits i c
    → IsNumberOf (names_of (take i commits)) (string_bytes c.name) earlier → IsNumberingError commits (RepeatedName earlier)
repeated_name commits i c earlier within at is =
    let before = slice_get_within (names_of (take i commits)) earlier (string_bytes c.name) is in
    let whole : names_of (take i commits) ++ names_of (drop i commits) ≡ names_of commits =
    sym (map-append (λ x. string_bytes x.name) (take i commits) (drop i commits)) ∙ ap names_of (take-append-drop i commits) in (
      i,
      omega (arith, before, names_long commits i (omega (arith, within))),
      string_bytes c.name,
      subst (λ (l : List (List ℕ)). IsNumberOf l (string_bytes c.name) earlier) whole (number_extended (names_of (take i commits)) (names_of (drop i commits)) (string_bytes c.name) earlier is),
      number_at commits i c within at,
    )

-- commits stay numbered when the list of names is extended
pub numbered_extended : (names others : List (List ℕ)) (commits : List Commit) (numbered : List NumberedCommit) → AllZip (IsNumbered names) commits numbered
    → AllZip (IsNumbered (names ++ others)) commits numbered
numbered_extended names others [] [] k = tt
numbered_extended names others [] (n ∷ ns) k = absurd k
numbered_extended names others (c ∷ cs) [] k = absurd k
numbered_extended names others (c ∷ cs) (n ∷ ns) k = (
  record { parents = numbers_extended string_bytes names others c.parents.items n.parents.items k.0.parents; elided = k.0.elided },
  numbered_extended names others cs ns k.1,
)

-- ---- steps of loops

-- the name of one more commit is inserted
pub interns_commit : (commits : List Commit) (i : ℕ) (c : Commit) (old new : BTreeMap (Bor (List ℕ)) ℕ) (name : Bor (List ℕ)) → i < length commits → c ≡ get_or commits i c
    → name.now ≡ string_bytes c.name → Interns (names_of (take i commits)) old → get name_cmp old name ≡ None → Updates name_cmp old new name (Some i)
    → btree_map_len new ≡ btree_map_len old + 1 → Interns (names_of (take (i + 1) commits)) new
interns_commit commits i c old new name within at same k none updates longer =
    let first : List (List ℕ) = names_of (take i commits) in
    let long : length first ≡ i = names_long commits i (omega (arith, within)) in
    subst (λ (l : List (List ℕ)). Interns l new) (ap (λ x. first ++ x ∷ []) same ∙ sym (names_more commits i c within at))
    (interns_push first old new name k none (subst (λ (m : ℕ). Updates name_cmp old new name (Some m)) (sym long) updates) longer)

-- an earlier commit has the name
pub found_repeated : (commits : List Commit) (i : ℕ) (c : Commit) (old : BTreeMap (Bor (List ℕ)) ℕ) (name : Bor (List ℕ)) (earlier : ℕ) → i < length commits → c ≡ get_or commits i c
    → name.now ≡ string_bytes c.name → Interns (names_of (take i commits)) old → get name_cmp old name ≡ Some earlier → IsNumberingError commits (RepeatedName earlier)
found_repeated commits i c old name earlier within at same k some =
    repeated_name commits i c earlier within at
    (subst (λ (l : List ℕ). IsNumberOf (names_of (take i commits)) l earlier) same (found_number (names_of (take i commits)) old old name k earlier some))

-- one more parent has its number
pub parents_more : {A : Type 0} (name_of : A → List ℕ) (first second third : BTreeMap (Bor (List ℕ)) ℕ) (names : List A) (i : ℕ) (x : A) (bytes : List ℕ) (parents new : List ℕ) (n : ℕ)
    → i < length names → x ≡ get_or names i x → bytes ≡ name_of x → new ≡ parents ++ n ∷ []
    → InternsMore first second (λ all. AllZip (λ y m. IsNumberOf all (name_of y) m) (take i names) parents) → InternsMore second third (λ all. IsNumberOf all bytes n)
    → InternsMore first third (λ all. AllZip (λ y m. IsNumberOf all (name_of y) m) (take (i + 1) names) new)
parents_more {A} name_of first second third names i x bytes parents new n within at same pushed one two =
    interns_then first second third (λ all. AllZip (λ y m. IsNumberOf all (name_of y) m) (take i names) parents) (λ all. IsNumberOf all bytes n)
    (λ all. AllZip (λ y m. IsNumberOf all (name_of y) m) (take (i + 1) names) new) one two
    (λ all others p q.
    subst (λ (l : List A). AllZip (λ y m. IsNumberOf (all ++ others) (name_of y) m) l new) (sym (take_more names i x within ∙ ap (λ y. take i names ++ y ∷ []) (sym at)))
    (subst (λ (l : List ℕ). AllZip (λ y m. IsNumberOf (all ++ others) (name_of y) m) (take i names ++ x ∷ []) l) (sym pushed)
    (zip-push (λ y m. IsNumberOf (all ++ others) (name_of y) m) (take i names) parents x n (numbers_extended name_of all others (take i names) parents p)
    (subst (λ (l : List ℕ). IsNumberOf (all ++ others) l n) same q))))

-- a test and its negation
pub negated : (r t : Bool) → t ≡ not r → r ≡ not t
negated true t e = sym (ap not e)
negated false t e = sym (ap not e)

-- one more commit is numbered
pub commits_more : (base : List (List ℕ)) (old new : BTreeMap (Bor (List ℕ)) ℕ) (commits : List Commit) (i : ℕ) (c : Commit) (numbered more : List NumberedCommit) (n : NumberedCommit)
    → i < length commits → c ≡ get_or commits i c
    → (others : List (List ℕ)) × Interns (base ++ others) old × AllZip (IsNumbered (base ++ others)) (take i commits) numbered
    → InternsMore old new (λ all. AllZip (λ parent m. IsNumberOf all (string_bytes parent) m) c.parents.items n.parents.items) → n.is_elided ≡ is_none c.label → more ≡ numbered ++ n ∷ []
    → (others : List (List ℕ)) × Interns (base ++ others) new × AllZip (IsNumbered (base ++ others)) (take (i + 1) commits) more
commits_more base old new commits i c numbered more n within at before parents elided pushed =
    let others = before.0 in
    let found = parents (base ++ others) before.1 in
    let further = found.0 in
    let all : List (List ℕ) = (base ++ others) ++ further in
    let numbers = zip-push (IsNumbered all) (take i commits) numbered c n (numbered_extended (base ++ others) further (take i commits) numbered before.2)
    (record { parents = found.2; elided = elided }) in
    let listed : AllZip (IsNumbered all) (take (i + 1) commits) more =
    subst (λ (l : List Commit). AllZip (IsNumbered all) l more) (sym (take_more commits i c within ∙ ap (λ y. take i commits ++ y ∷ []) (sym at)))
    (subst (λ (l : List NumberedCommit). AllZip (IsNumbered all) (take i commits ++ c ∷ []) l) (sym pushed) numbers) in
    let both = subst (λ (l : List (List ℕ)). Interns l new × AllZip (IsNumbered l) (take (i + 1) commits) more) (append_assoc base others further) (found.1, listed) in
    (others ++ further, both.0, both.1)
