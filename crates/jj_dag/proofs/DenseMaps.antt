-- Entries of a map of small numbers.
use Rattle.std.proofs.Common.{◌≡◌, ◌≢◌, ℕ, zero, suc, ◌<◌, Bool, true, false, cond, List, [], ◌∷◌, ◌++◌, length, get_or, set, Option, Some, None, IsSome, is_some, ◌||◌, refl, sym, ◌∙◌, ap, subst, arith, eqb, length-set, get_or-set_same, get_or-set_other, ⊎_elim, true≢false}
use Rattle.std.specs.Prelude.{if◌then◌else◌}
use Rattle.std.specs.Map.{keys_of, lookup, set_value}
use Rattle.std.specs.Option.{option_or}
use Rattle.std.specs.Set.{is_member}
use Rattle.std.proofs.lemmas.Bool.{cases_lt}
use Rattle.std.proofs.lemmas.Bool.Decides.{Decides-eqb}
use Rattle.std.proofs.lemmas.Cmp.{nat_eq_equiv}
use Rattle.std.proofs.lemmas.List.{get_or-map, get_or_append_left, get_or_push, length_push, map-append}
use Rattle.std.proofs.lemmas.Map.Entries.{length-keys_of}
use Rattle.std.proofs.lemmas.Map.{keys-set_value, lookup-set_value}
use Rattle.jj_dag.specs.DenseSets.{IsSparseSet}
use Rattle.jj_dag.specs.NodeMaps.{UpdatesEntry}
use Rattle.jj_dag.proofs.DenseSets.{absent_at, differ, one_index}
use Rattle.jj_dag.proofs.Walking.{eqb-flip}

-- an update of a key that is absent changes nothing
pub set_value-missing : {K V : Type 0} (test : K → Bool) (es : List (K × V)) (w : V) → lookup test es ≡ None → set_value test es w ≡ es
set_value-missing test [] w none = refl
set_value-missing test (e ∷ es) w none = by_test (test e.0) none (set_value-missing test es w)
  where
    by_test : (t : Bool) → cond t (Some e.1) (lookup test es) ≡ None → (lookup test es ≡ None → set_value test es w ≡ es) → cond t ((e.0, w) ∷ es) (e ∷ set_value test es w) ≡ e ∷ es
    by_test true h rest = absurd (true≢false (ap is_some h))
    by_test false h rest = ap (λ l. e ∷ l) (rest h)

module _ {V : Type 0} where
  pub key_at : (es : List (ℕ × V)) (k : ℕ) (d : ℕ × V) → k < length es → get_or (keys_of es) k 0 ≡ (get_or es k d).0
  key_at es k d within = get_or-map (λ e. e.0) es k d 0 within

  pub missing : (es : List (ℕ × V)) (q : ℕ) → is_member eqb (keys_of es) q ≡ false → lookup (eqb q) es ≡ None
  missing [] q none = refl
  missing (e ∷ es) q none = by_test (eqb q e.0) none (missing es q)
    where
      by_test : (t : Bool) → (t || is_member eqb (keys_of es) q) ≡ false → (is_member eqb (keys_of es) q ≡ false → lookup (eqb q) es ≡ None) → cond t (Some e.1) (lookup (eqb q) es) ≡ None
      by_test true h rest = absurd (true≢false h)
      by_test false h rest = rest h

  -- no entry before this index has the key
  abbrev NoneBefore : List (ℕ × V) → ℕ → ℕ → Type 0
  NoneBefore es q index = (j : ℕ) → j < index → get_or (keys_of es) j 0 ≢ q

  first_has : (es : List (ℕ × V)) (q index : ℕ) (d : ℕ × V) → index < length es → get_or (keys_of es) index 0 ≡ q → NoneBefore es q index → lookup (eqb q) es ≡ Some (get_or es index d).1
  first_has [] q index d within is none = absurd (omega (arith, within))
  first_has (e ∷ es) q zero d within is none = ap (λ t. cond t (Some e.1) (lookup (eqb q) es)) ((Decides-eqb q e.0).1 (sym is))
  first_has (e ∷ es) q (suc index) d within is none =
      ap (λ t. cond t (Some e.1) (lookup (eqb q) es)) (differ q e.0 (λ same. none 0 (omega arith) (sym same)))
      ∙ first_has es q index d (omega (arith, within)) is (λ j less. none (suc j) (omega (arith, less)))

  first_set : (es : List (ℕ × V)) (q index : ℕ) (v : V) → index < length es → get_or (keys_of es) index 0 ≡ q → NoneBefore es q index → set es index (q, v) ≡ set_value (eqb q) es v
  first_set [] q index v within is none = absurd (omega (arith, within))
  first_set (e ∷ es) q zero v within is none =
      ap (λ k. (k, v) ∷ es) (sym is) ∙ sym (ap (λ t. cond t ((e.0, v) ∷ es) (e ∷ set_value (eqb q) es v)) ((Decides-eqb q e.0).1 (sym is)))
  first_set (e ∷ es) q (suc index) v within is none =
      ap (λ l. e ∷ l) (first_set es q index v (omega (arith, within)) is (λ j less. none (suc j) (omega (arith, less))))
      ∙ sym (ap (λ t. cond t ((e.0, v) ∷ es) (e ∷ set_value (eqb q) es v)) (differ q e.0 (λ same. none 0 (omega arith) (sym same))))

  module _ (es : List (ℕ × V)) (ps : List ℕ) (indexed : IsSparseSet (keys_of es) ps) (q index : ℕ) (within : index < length (keys_of es)) (is : get_or (keys_of es) index 0 ≡ q) where
    none_before : NoneBefore es q index
    none_before j less same = let at = one_index (keys_of es) ps indexed j index (omega (arith, less, within)) within (same ∙ sym is) in omega (arith, less, at)

    pub has : (d : ℕ × V) → index < length es → lookup (eqb q) es ≡ Some (get_or es index d).1
    has d inside = first_has es q index d inside is none_before

    pub sets : (v : V) → index < length es → set es index (q, v) ≡ set_value (eqb q) es v
    sets v inside = first_set es q index v inside is none_before

    pub keys_same : (v : V) → index < length es → keys_of (set es index (q, v)) ≡ keys_of es
    keys_same v inside = ap keys_of (sets v inside) ∙ keys-set_value (eqb q) es v

  pub updates_set : (es : List (ℕ × V)) (k : ℕ) (v : V) → IsSome (lookup (eqb k) es) → UpdatesEntry eqb es (set_value (eqb k) es v) k v
  updates_set es k v some q = lookup-set_value nat_eq_equiv (eqb k) (λ x y same. nat_eq_equiv.congr k x y same) q v es some

  lookup-push : (es : List (ℕ × V)) (q : ℕ) (e : ℕ × V) → lookup (eqb q) (es ++ e ∷ []) ≡ option_or (lookup (eqb q) es) (cond (eqb q e.0) (Some e.1) None)
  lookup-push [] q e = refl
  lookup-push (x ∷ es) q e = by_test (eqb q x.0) (lookup-push es q e)
    where
      by_test : (t : Bool) → lookup (eqb q) (es ++ e ∷ []) ≡ option_or (lookup (eqb q) es) (cond (eqb q e.0) (Some e.1) None)
          → cond t (Some x.1) (lookup (eqb q) (es ++ e ∷ [])) ≡ option_or (cond t (Some x.1) (lookup (eqb q) es)) (cond (eqb q e.0) (Some e.1) None)
      by_test true rest = refl
      by_test false rest = rest

  pub updates_pushed : (es : List (ℕ × V)) (k : ℕ) (v : V) → is_member eqb (keys_of es) k ≡ false → UpdatesEntry eqb es (es ++ (k, v) ∷ []) k v
  updates_pushed es k v new q =
      lookup-push es q (k, v) ∙ ap (λ t. option_or (lookup (eqb q) es) (cond t (Some v) None)) (eqb-flip q k) ∙ by_test (eqb k q) ((Decides-eqb k q).0)
    where
      none_else : (o : Option V) → option_or o None ≡ o
      none_else None = refl
      none_else (Some x) = refl

      by_test : (t : Bool) → (t ≡ true → k ≡ q) → option_or (lookup (eqb q) es) (cond t (Some v) None) ≡ cond t (Some v) (lookup (eqb q) es)
      by_test true same = ap (λ o. option_or o (Some v)) (subst (λ n. lookup (eqb n) es ≡ None) (same refl) (missing es k new))
      by_test false same = none_else (lookup (eqb q) es)

-- ---- indices

-- an index is written for a number that is no key
pub indexed_apart : (xs ps : List ℕ) (k n : ℕ) → IsSparseSet xs ps → is_member eqb xs k ≡ false → IsSparseSet xs (set ps k n)
indexed_apart xs ps k n indexed new i within =
    let (room, at) = indexed i within in
    let other : get_or xs i 0 ≢ k = absent_at xs k new i within in
    (omega (arith, room, length-set ps k n), get_or-set_other ps k (get_or xs i 0) n 0 other ∙ at)

-- and the number is appended
pub indexed_more : (xs ps : List ℕ) (k : ℕ) → IsSparseSet xs ps → is_member eqb xs k ≡ false → k < length ps → IsSparseSet (xs ++ k ∷ []) (set ps k (length xs))
indexed_more xs ps k indexed new room i within =
    let long = length_push xs k in
    ⊎_elim
    (λ inside. let front : get_or (xs ++ k ∷ []) i 0 ≡ get_or xs i 0 = get_or_append_left xs (k ∷ []) 0 i inside in rw front (indexed_apart xs ps k (length xs) indexed new i inside))
    (λ least.
    let at : i ≡ length xs = omega (arith, least, within, long) in
    let last : get_or (xs ++ k ∷ []) i 0 ≡ k = get_or_push xs k 0 i (sym at) in
    rw last (omega (arith, room, length-set ps k (length xs)), get_or-set_same ps k (length xs) 0 room ∙ sym at))
    (cases_lt i (length xs))

-- there is more room
pub indexed_kept : (xs ps ps2 : List ℕ) → IsSparseSet xs ps → ((k : ℕ) → k < length ps → (k < length ps2) × (get_or ps2 k 0 ≡ get_or ps k 0)) → IsSparseSet xs ps2
indexed_kept xs ps ps2 indexed kept i within =
    let (room, at) = indexed i within in
    let (more, same) = kept (get_or xs i 0) room in
    (more, same ∙ at)

pub keys-push : {V : Type 0} (es : List (ℕ × V)) (e : ℕ × V) → keys_of (es ++ e ∷ []) ≡ keys_of es ++ e.0 ∷ []
keys-push es e = map-append (λ e. e.0) es (e ∷ [])

-- an entry was pushed, or memory was missing
pub indexed_pushed : {V : Type 0} (es es2 : List (ℕ × V)) (ps : List ℕ) (k n : ℕ) (v : V) (b : Bool) → es2 ≡ (if b then es ++ (k, v) ∷ [] else es) → IsSparseSet (keys_of es) ps → is_member eqb (keys_of es) k ≡ false
    → k < length ps → n ≡ length es → IsSparseSet (keys_of es2) (set ps k n)
indexed_pushed es es2 ps k n v true is indexed new room count =
    let whole : keys_of es2 ≡ keys_of es ++ k ∷ [] = ap keys_of is ∙ keys-push es (k, v) in
    let size : length (keys_of es) ≡ n = length-keys_of es ∙ sym count in
    subst (λ ks. IsSparseSet ks (set ps k n)) (sym whole) (subst (λ m. IsSparseSet (keys_of es ++ k ∷ []) (set ps k m)) size (indexed_more (keys_of es) ps k indexed new room))
indexed_pushed es es2 ps k n v false is indexed new room count =
    subst (λ l. IsSparseSet (keys_of l) (set ps k n)) (sym is) (indexed_apart (keys_of es) ps k n indexed new)
