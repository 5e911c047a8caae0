-- Numberings and graphs that grow by one commit.
use Rattle.std.proofs.Common.{◌≡◌, ◌∙◌, ◌+◌, ◌<◌, ◌≤◌, ◌++◌, ⊎_elim, ℕ, suc, Bool, true, false, true≢false, cond, List, [], ◌∷◌, Option, Some, None, length, get_or, map, refl, ap, sym, subst, arith}
use Rattle.std.specs.Prelude.{◌↔◌, All, IsTrue, MatchOption, is_some}
use Rattle.std.specs.List.{Contains}
use Rattle.std.specs.Str.{bytes_eq}
use Rattle.std.proofs.lemmas.Bool.{cases_lt}
use Rattle.std.proofs.lemmas.List.{get_or-map, get_or_append_left, get_or_default, get_or_past, get_or_push, length-map, length_push, map_push}
use Rattle.std.proofs.lemmas.List.Elements.{All-contains, All-from_get_or, All-get_or, Contains-get_or, Contains-push_cases}
use Rattle.std.proofs.lemmas.Slice.Eq.{bytes_eq-Decides}
use Rattle.jj_dag.proofs.ReadyOrders.{here, later}
use Rattle.jj_commit_graph.specs.Numberings.{AreFallingEdges, IsIndexOf, id_at, named_lists}

in_none : (x : ℕ) → Contains [] x → ⊥
in_none x (k, below, at) = absurd (omega arith)

-- ---- one id more

module _ (ids : List (List ℕ)) (id : List ℕ) where
  -- an index of the ids, or that of the new one
  at_old : (a : ℕ) → a < length ids → id_at (ids ++ id ∷ []) a ≡ id_at ids a
  at_old a inside = get_or_append_left ids (id ∷ []) [] a inside

  at_new : id_at (ids ++ id ∷ []) (length ids) ≡ id
  at_new = get_or_push ids id [] (length ids) refl

  found_more : (q : List ℕ) (found : Option ℕ) → (id ≡ q → ⊥)
      → MatchOption found (Contains ids q → ⊥) (λ number. (number < length ids) × (id_at ids number ≡ q))
      → MatchOption found (Contains (ids ++ id ∷ []) q → ⊥) (λ number. (number < length (ids ++ id ∷ [])) × (id_at (ids ++ id ∷ []) number ≡ q))
  found_more q None other none = λ among. ⊎_elim none other (Contains-push_cases ids id q among)
  found_more q (Some number) other (inside, at) = (omega (arith, inside, length_push ids id), at_old number inside ∙ at)

  module _ (find new_find : List ℕ → Option ℕ) (k : IsIndexOf ids find) (fresh : Contains ids id → ⊥)
      (updates : (q : List ℕ) → new_find q ≡ cond (bytes_eq id q) (Some (length ids)) (find q)) where
    once_more : (a b : ℕ) → a < length (ids ++ id ∷ []) → b < length (ids ++ id ∷ []) → id_at (ids ++ id ∷ []) a ≡ id_at (ids ++ id ∷ []) b → a ≡ b
    once_more a b inside below same =
        let size = length_push ids id in
        ⊎_elim
        (λ old_a. ⊎_elim (λ old_b. k.once a b old_a old_b (sym (at_old a old_a) ∙ same ∙ at_old b old_b))
        (λ new_b. absurd (taken a old_a (sym (at_old a old_a) ∙ same ∙ ap (id_at (ids ++ id ∷ [])) (last b below new_b) ∙ at_new))) (cases_lt b (length ids)))
        (λ new_a. ⊎_elim (λ old_b. absurd (taken b old_b (sym (at_old b old_b) ∙ sym same ∙ ap (id_at (ids ++ id ∷ [])) (last a inside new_a) ∙ at_new)))
        (λ new_b. last a inside new_a ∙ sym (last b below new_b)) (cases_lt b (length ids))) (cases_lt a (length ids))
      where
        taken : (c : ℕ) → c < length ids → id_at ids c ≡ id → ⊥
        taken c inside at = fresh (c, inside, get_or_default ids c id [] inside ∙ at)

        last : (c : ℕ) → c < length (ids ++ id ∷ []) → length ids ≤ c → c ≡ length ids
        last c inside above = omega (arith, inside, above, length_push ids id)

    pub index_more : IsIndexOf (ids ++ id ∷ []) new_find
    index_more = record {
      once = once_more;
      finds = λ q. subst (Finds q) (sym (updates q)) (by_test q (bytes_eq id q) refl);
    }
      where
        Finds : List ℕ → Option ℕ → Type 0
        Finds q found = MatchOption found (Contains (ids ++ id ∷ []) q → ⊥) (λ number. (number < length (ids ++ id ∷ [])) × (id_at (ids ++ id ∷ []) number ≡ q))

        by_test : (q : List ℕ) (t : Bool) → bytes_eq id q ≡ t → Finds q (cond t (Some (length ids)) (find q))
        by_test q true is = (omega (arith, length_push ids id), at_new ∙ (bytes_eq-Decides id q).0 is)
        by_test q false is = found_more q (find q) (λ same. true≢false (sym ((bytes_eq-Decides id q).1 same) ∙ is)) (k.finds q)

-- ---- one list more

-- numbers below a bound have the same ids where more ids follow
kept : (ids more : List (List ℕ)) (numbers : List ℕ) → ((b : ℕ) → Contains numbers b → b < length ids) → map (id_at (ids ++ more)) numbers ≡ map (id_at ids) numbers
kept ids more [] below = refl
kept ids more (x ∷ xs) below =
    let first : id_at (ids ++ more) x ≡ id_at ids x = get_or_append_left ids more [] x (below x (here x xs)) in
    let rest : map (id_at (ids ++ more)) xs ≡ map (id_at ids) xs = kept ids more xs (λ b h. below b (later x xs b h)) in
    λ i. first i ∷ rest i

all_kept : (ids more lists : List (List ℕ)) → ((a b : ℕ) → Contains (get_or lists a []) b → b < length ids) → named_lists (ids ++ more) lists ≡ named_lists ids lists
all_kept ids more [] below = refl
all_kept ids more (xs ∷ lists) below =
    let first : map (id_at (ids ++ more)) xs ≡ map (id_at ids) xs = kept ids more xs (below 0) in
    let rest : named_lists (ids ++ more) lists ≡ named_lists ids lists = all_kept ids more lists (λ a b h. below (suc a) b h) in
    λ i. first i ∷ rest i

-- both ends of each edge are numbers of ids
pub edges_within : (ids lists : List (List ℕ)) → AreFallingEdges ids lists → (a b : ℕ) → Contains (get_or lists a []) b → (a < length ids) × (b < length ids)
edges_within ids lists k a b edge =
    ⊎_elim (λ inside. (omega (arith, k.size, inside), omega (arith, k.size, inside, k.falls a b edge)))
    (λ outside. absurd (in_none b (subst (λ l. Contains l b) (get_or_past lists a [] outside) edge))) (cases_lt a (length lists))

module _ (ids lists : List (List ℕ)) (k : AreFallingEdges ids lists) (id : List ℕ) (numbers : List ℕ) (inside : All (λ number. number < length ids) numbers) where
  pub edges_more : AreFallingEdges (ids ++ id ∷ []) (lists ++ numbers ∷ [])
  edges_more = record {
    size = length_push lists numbers ∙ ap (λ n. n + 1) k.size ∙ sym (length_push ids id);
    falls = λ a b edge.
        ⊎_elim (λ old. k.falls a b (subst (λ l. Contains l b) (get_or_append_left lists (numbers ∷ []) [] a old) edge))
        (λ above. ⊎_elim
        (λ at.
        let is : length lists ≡ a = omega (arith, above, at, length_push lists numbers) in
        omega (arith, k.size, above, All-contains (λ number. number < length ids) numbers b inside (subst (λ l. Contains l b) (get_or_push lists numbers [] a is) edge)))
        (λ past. absurd (in_none b (subst (λ l. Contains l b) (get_or_past (lists ++ numbers ∷ []) a [] past) edge))) (cases_lt a (length (lists ++ numbers ∷ []))))
        (cases_lt a (length lists));
  }

  pub lists_more : (parents : List (List ℕ)) → map (id_at ids) numbers ≡ parents → named_lists (ids ++ id ∷ []) (lists ++ numbers ∷ []) ≡ named_lists ids lists ++ parents ∷ []
  lists_more parents named =
      map_push (map (id_at (ids ++ id ∷ []))) lists numbers
      ∙ ap (λ l. l ++ map (id_at (ids ++ id ∷ [])) numbers ∷ []) (all_kept ids (id ∷ []) lists (λ a b edge. (edges_within ids lists k a b edge).1))
      ∙ ap (λ l. named_lists ids lists ++ l ∷ []) (kept ids (id ∷ []) numbers (λ b among. All-contains (λ number. number < length ids) numbers b inside among) ∙ named)

-- ---- look-ups

pub is_known : (ids : List (List ℕ)) (id : List ℕ) (found : Option ℕ) → MatchOption found (Contains ids id → ⊥) (λ number. (number < length ids) × (id_at ids number ≡ id)) → IsTrue (is_some found) ↔ Contains ids id
is_known ids id None none = (λ no. absurd cc, λ among. absurd (none among))
is_known ids id (Some number) (inside, at) = (λ yes. subst (Contains ids) at (Contains-get_or ids number [] inside), λ among. refl)

-- ids of numbers are known
pub all_known : (ids given : List (List ℕ)) (numbers : List ℕ) → map (id_at ids) numbers ≡ given → All (λ number. number < length ids) numbers → All (Contains ids) given
all_known ids given numbers named inside = subst (All (Contains ids)) named (All-from_get_or (Contains ids) (map (id_at ids) numbers) [] (λ i below.
    let within : i < length numbers = omega (arith, below, length-map numbers (id_at ids)) in
    subst (Contains ids) (sym (get_or-map (id_at ids) numbers i 0 [] within)) (Contains-get_or ids (get_or numbers i 0) [] (All-get_or (λ number. number < length ids) numbers i 0 within inside))))
