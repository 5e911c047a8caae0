-- Sets of known ids, and lists that grow.
use Rattle.std.proofs.Common.{◌≡◌, ◌⊎◌, ◌<◌, ◌+◌, ℕ, Bool, true, false, not, List, [], ◌∷◌, ◌++◌, ◌∙◌, refl, sym, ap, subst, inl, inr, Contains, arith, get_or, length, take, ⊎_elim}
use Rattle.std.proofs.lemmas.Bool.{cases_lt}
use Rattle.std.proofs.lemmas.List.{append-nil, append_assoc, get_or_append_left, get_or_default, take_more}
use Rattle.std.specs.Prelude.{All}
use Rattle.std.specs.BTreeSet.{insert_key}
use Rattle.std.specs.BTreeMap.{is_at}
use Rattle.std.specs.Cmp.Lexicographic.{slice_cmp}
use Rattle.std.specs.List.{list_any}
use Rattle.std.specs.Ordering.{nat_cmp}
use Rattle.std.proofs.lemmas.Map.Text.{is_eq-slice_cmp}
use Rattle.std.proofs.lemmas.Map.Views.{All-insert_key, Contains-from_any}
use Rattle.std.proofs.lemmas.Slice.Eq.{bytes_eq-Decides}
use Rattle.std.proofs.lemmas.List.Elements.{All-append, All-cons, All-nil, Contains-append_left, Contains-append_right, Contains-push}
use Rattle.jj_backend.specs.declared.backend.tree_value.TreeValue.{TreeValue}
use Rattle.jj_backend.specs.declared.backend.tree_value.TreeValue.TheVariants.{File, Symlink, Tree, GitSubmodule}
use Rattle.jj_backend.specs.Objects.{Objects}
use Rattle.jj_history_commands.specs.FoundObjects.{AreAmong, IsPrefix, IsThere, IsWhole}

cases_lt_or_eq : (k n : ℕ) → k < n + 1 → (k < n) ⊎ (k ≡ n)
cases_lt_or_eq k n h = ⊎_elim inl (λ more. inr (omega arith)) (cases_lt k n)

pub was_true : (b : Bool) → false ≡ not b → b ≡ true
was_true true h = refl
was_true false h = h

module _ {X : Type 0} (P : X → Type 0) where
  pub all_one : (x : X) → P x → All P (x ∷ [])
  all_one x h = All-cons P x [] h (All-nil P)

  -- a fact of the elements so far and of the next one
  pub all_taken : (xs : List X) (i : ℕ) (x : X) → i < length xs → x ≡ get_or xs i x → All P (take i xs) → P x → All P (take (i + 1) xs)
  all_taken xs i x within is h p =
      subst (All P) (sym (take_more xs i x within)) (All-append P (take i xs) (get_or xs i x ∷ []) h (all_one (get_or xs i x) (subst P is p)))

pub prefix_same : (ids : List (List ℕ)) → IsPrefix ids ids
prefix_same ids = ([], sym (append-nil ids))

pub prefix_more : (old between new : List (List ℕ)) → IsPrefix old between → IsPrefix between new → IsPrefix old new
prefix_more old between new (first, is) (then, later) = (first ++ then, later ∙ ap (λ l. l ++ then) is ∙ append_assoc old first then)

-- an id that a query finds is in the list
pub found_there : (id : List ℕ) (keys : List (List ℕ)) → list_any (is_at (slice_cmp nat_cmp id)) keys ≡ true → Contains keys id
found_there id keys h = Contains-from_any (λ x y t. (bytes_eq-Decides x y).0 (sym (is_eq-slice_cmp x y) ∙ t)) id keys h

pub prefix_pushed : (old new : List (List ℕ)) (id : List ℕ) → new ≡ old ++ id ∷ [] → IsPrefix old new
prefix_pushed old new id is = (id ∷ [], is)

pub prefix_contains : (old new : List (List ℕ)) → IsPrefix old new → (id : List ℕ) → Contains old id → Contains new id
prefix_contains old new (more, is) id h = subst (λ l. Contains l id) (sym is) (Contains-append_left old more id h)

pub among_later : (old new keys : List (List ℕ)) → IsPrefix old new → All (Contains old) keys → All (Contains new) keys
among_later old new keys prefix h = λ k d within. prefix_contains old new prefix _ (h k d within)

-- one more known tree, which is appended
pub known_more : (old new : List (List ℕ)) (keys after : List (List ℕ)) (id : List ℕ) → AreAmong keys old → new ≡ old ++ id ∷ [] → after ≡ insert_key (slice_cmp nat_cmp) keys id → AreAmong after new
known_more old new keys after id h is keys_are =
    subst (All (Contains new)) (sym keys_are)
    (All-insert_key (slice_cmp nat_cmp) id (Contains new) keys (among_later old new keys (prefix_pushed old new id is) h) (subst (λ (l : List (List ℕ)). Contains l id) (sym is) (Contains-append_right old (id ∷ []) id (Contains-push [] id))))

module _ (store : Objects) where
  pub there_later : (old new : List (List ℕ)) → IsPrefix old new → (value : TreeValue) → IsThere store old value → IsThere store new value
  there_later old new prefix (File id executable copy_id) h = h
  there_later old new prefix (Symlink id) h = h
  there_later old new prefix (Tree id) h = prefix_contains old new prefix id h
  there_later old new prefix (GitSubmodule id) h = h

  pub whole_later : (old new : List (List ℕ)) → IsPrefix old new → (id : List ℕ) → IsWhole store old id → IsWhole store new id
  whole_later old new prefix id (entries, has, all) = (entries, has, λ k d within. there_later old new prefix _ (all k d within))

  -- the trees up to the next one
  pub whole_step : (old new : List (List ℕ)) (index : ℕ) (id : List ℕ) → IsPrefix old new → index < length old → id ≡ get_or old index id
      → ((k : ℕ) (d : List ℕ) → k < index → k < length old → IsWhole store old (get_or old k d)) → IsWhole store new id
      → (k : ℕ) (d : List ℕ) → k < index + 1 → k < length new → IsWhole store new (get_or new k d)
  whole_step old new index id (more, is) within at before now k d low inside =
      let prefix : IsPrefix old new = (more, is) in
      let there : get_or new k d ≡ get_or old k d = ap (λ (l : List (List ℕ)). get_or l k d) is ∙ get_or_append_left old more d k (omega arith) in
      subst (IsWhole store new) (sym there)
      (⊎_elim
      (λ earlier. whole_later old new prefix (get_or old k d) (before k d earlier (omega arith)))
      (λ here. subst (IsWhole store new) (at ∙ get_or_default old index id d within ∙ ap (λ (n : ℕ). get_or old n d) (sym here)) now)
      (cases_lt_or_eq k index low))
