-- The least name of local and remote refs.
use Rattle.std.proofs.Common.{◌≡◌, ◌⊎◌, inl, inr, ◌<◌, ℕ, zero, suc, List, [], ◌∷◌, true, false, Option, Some, None, length, get_or, sym, refl, subst, ⊎_elim, arith}
use Rattle.std.specs.Cmp.Lexicographic.{nat_list_eq_equiv}
use Rattle.std.specs.List.{slice_get, cons_option}
use Rattle.std.specs.Map.{keys_of, lookup}
use Rattle.std.specs.Option.{option_map, IsSome, IfSome}
use Rattle.std.specs.Ordering.{is_gt}
use Rattle.std.specs.Str.{bytes_eq}
use Rattle.std.proofs.lemmas.List.Elements.{All-nil, All-weaker}
use Rattle.jj_stores.specs.ViewJoins.{Named, IsLeast, join_of, join_at, remotes_with, IsFirstName, IsFirstOfRemotes}
use Rattle.jj_stores.proofs.NamesLeft.{cmp, least_lower}

-- ---- the join has a row for each name of a ref

abbrev pub IsMore : {X : Type 0} → List X → Type 0
IsMore {X} xs = (x : X) × (others : List X) × (xs ≡ x ∷ others)

pub cons_more : {X : Type 0} (first : Option X) (others : List X) → IsSome first ⊎ IsMore others
    → IsMore (cons_option first others)
cons_more (Some x) others h = (x, others, refl)
cons_more None others (inl h) = cc
cons_more None others (inr h) = h

is_some_map : {X Y : Type 0} (f : X → Y) (o : Option X) → IsSome o → IsSome (option_map f o)
is_some_map f (Some x) h = refl
is_some_map f None h = cc

module _ {T R : Type 0} where
  pub joined_more : (local : Option T) (refs : Named R) → IsMore refs → IsSome (join_of local refs)
  joined_more (Some t) refs more = refl
  joined_more None [] more = cc (more.2)
  joined_more None (r ∷ rs) more = refl

  pub some_joined : (local : Option T) (refs : Named R) → IsSome (join_of local refs) → IsSome local ⊎ IsMore refs
  some_joined (Some t) refs h = inl refl
  some_joined None [] h = cc
  some_joined None (r ∷ rs) h = inr (r, rs, refl)

  pub joined_local : (local : Option T) (refs : Named R) → IsSome local → IsSome (join_of local refs)
  joined_local (Some t) refs h = refl
  joined_local None refs h = cc

module _ {R : Type 0} where
  pub more_at : (name : List ℕ) (remotes : Named (Named R)) (i : ℕ) (d : List ℕ × Named R)
      → i < length remotes → IsSome (lookup (bytes_eq name) (get_or remotes i d).1)
      → IsMore (remotes_with remotes name)
  more_at name [] i d below h = absurd (omega arith)
  more_at name (remote ∷ others) zero d below h = cons_more _ _ (inl (is_some_map _ _ h))
  more_at name (remote ∷ others) (suc i) d below h =
      cons_more _ _ (inr (more_at name others i d (omega arith) h))

  pub at_first : (name : List ℕ) (refs : Named R) → Some name ≡ slice_get (keys_of refs) 0
      → IsSome (lookup (bytes_eq name) refs)
  at_first name [] h = cc
  at_first name (e ∷ es) h =
      let same : name ≡ e.0 = cc in
      let itself : bytes_eq name e.0 ≡ true = subst (λ n. bytes_eq name n ≡ true) same (nat_list_eq_equiv.refl name) in
      rw itself refl

  pub none_left : (refs : Named R) → None ≡ slice_get (keys_of refs) 0 → refs ≡ []
  none_left [] h = refl
  none_left (e ∷ es) h = cc

-- ---- the least name of all remotes, and the least local one

module _ {T R : Type 0} (locals : Named T) (remotes : Named (Named R)) where
  stands_at_remote : (name : List ℕ) → IsFirstOfRemotes remotes (Some name) → IsSome (join_at locals remotes name)
  stands_at_remote name first = ⊎_elim
      (λ none. let no : IsSome (join_at locals remotes name) = cc in no)
      (λ more. joined_more (lookup (bytes_eq name) locals) _ more) (some_joined {T = Unit {0}} None (remotes_with remotes name) first.0)

  no_names : (name : List ℕ) (refs : Named R) → refs ≡ [] → IsLeast name refs
  no_names name refs e = subst (IsLeast name) (sym e) (All-nil (λ q. is_gt (cmp name q) ≡ false))

  pub no_remote_name : (local : Option (List ℕ)) → local ≡ slice_get (keys_of locals) 0 → IfSome local (λ name. IsLeast name locals)
      → IsFirstOfRemotes remotes None → IsFirstName locals remotes local
  no_remote_name None at least none = (none_left locals at, none.1)
  no_remote_name (Some name) at least none = (
    joined_local _ _ (at_first name locals at),
    least,
    All-weaker (λ r. r.1 ≡ []) (λ r. IsLeast name r.1) (λ r e. no_names name r.1 e) remotes none.1,
  )

  pub lesser_name : (local name min_name : List ℕ) → Some local ≡ slice_get (keys_of locals) 0 → IsLeast local locals
      → IsFirstOfRemotes remotes (Some name) → (min_name ≡ local) ⊎ (min_name ≡ name)
      → is_gt (cmp min_name local) ≡ false → is_gt (cmp min_name name) ≡ false → IsFirstName locals remotes (Some min_name)
  lesser_name local name min_name at least first one below_local below_name =
      let P : List ℕ → Type 0 = λ n. IsSome (join_at locals remotes n) in (
        ⊎_elim (λ e. subst P (sym e) (joined_local _ _ (at_first local locals at)))
            (λ e. subst P (sym e) (stands_at_remote name first)) one,
        least_lower min_name local locals below_local least,
        All-weaker (λ r. IsLeast name r.1) (λ r. IsLeast min_name r.1)
            (λ r k. least_lower min_name name r.1 below_name k) remotes first.2,
      )
