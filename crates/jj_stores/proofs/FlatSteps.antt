-- Steps of the merge of remote refs: the least name's ref at the first remote precedes the rest.
use Rattle.std.proofs.Common.{◌≡◌, inr, ◌<◌, ℕ, List, [], ◌∷◌, ◌++◌, Bool, true, false, cond, Option, Some, None, length, sym, refl, ap, ap₂, subst, ◌∙◌, arith}
use Rattle.std.specs.Cmp.Lexicographic.{nat_list_eq_equiv}
use Rattle.std.specs.List.{All, AllByRecursion, cons_option, sum_by}
use Rattle.std.specs.Map.{keys_of, lookup}
use Rattle.std.specs.Option.{option_map, IsSome}
use Rattle.std.specs.Ordering.{is_gt}
use Rattle.std.specs.Str.{bytes_eq}
use Rattle.std.proofs.lemmas.List.Elements.{All-head, All-tail, filter_map-append, recursion_from_All}
use Rattle.std.proofs.lemmas.List.Sums.{sum_by-append, sum_by-cons}
use Rattle.std.proofs.lemmas.Map.Keys.{sorted_head}
use Rattle.std.proofs.lemmas.Slice.Eq.{bytes_eq-Decides}
use Rattle.jj_stores.specs.ViewJoins.{Named, IsLeast, join_of, remotes_with, IsFirstOfRemotes}
use Rattle.jj_stores.specs.FlatRefs.{AtRemotes, refs_at, IsFlattened, RemovesRef}
use Rattle.jj_stores.proofs.NamesLeft.{cmp, none_above, not_above_itself}
use Rattle.jj_stores.proofs.FirstNames.{IsMore, cons_more}
use Rattle.jj_stores.proofs.JoinSteps.{no_remotes}

least_hit : {R : Type 0} (name other key : List ℕ) (v : R) (b : Bool) (rest : Option R) → bytes_eq other key ≡ b
    → is_gt (cmp name key) ≡ false → (IsSome rest → is_gt (cmp name other) ≡ false)
    → IsSome (cond b (Some v) rest) → is_gt (cmp name other) ≡ false
least_hit name other key v true rest same least later some =
    subst (λ q. is_gt (cmp name q) ≡ false) (sym ((bytes_eq-Decides other key).0 same)) least
least_hit name other key v false rest same least later some = later some

at_name_or : (name other : List ℕ) (b : Bool) {M : Type 0} → bytes_eq other name ≡ b
    → (M → is_gt (cmp name other) ≡ false) → (bytes_eq other name ≡ false → M) → is_gt (cmp name other) ≡ false
at_name_or name other true same least more =
    subst (λ q. is_gt (cmp name q) ≡ false) (sym ((bytes_eq-Decides other name).0 same)) (not_above_itself name)
at_name_or name other false same least more = least (more same)

at_ref : {R : Type 0} (name other : List ℕ) (b : Bool) (found : List ℕ × R) (rest with : Named R) → bytes_eq other name ≡ b
    → (other ≡ name → found ∷ rest ≡ with) → (bytes_eq other name ≡ false → rest ≡ with)
    → cons_option (cond b (Some found) None) rest ≡ with
at_ref name other true found rest with is here there = here ((bytes_eq-Decides other name).0 is)
at_ref name other false found rest with is here there = there is

module _ {R : Type 0} where
  at_same : (name remote : List ℕ) (ref : R) (others : Named R) (rest : Named R)
      → cons_option (option_map (λ v. (remote, v)) (lookup (bytes_eq name) ((name, ref) ∷ others))) rest ≡ (remote, ref) ∷ rest
  at_same name remote ref others rest =
      let P : Bool → Type 0 = λ b. cons_option (option_map (λ v. (remote, v)) (cond b (Some ref) (lookup (bytes_eq name) others))) rest ≡ (remote, ref) ∷ rest in
      subst P (sym (nat_list_eq_equiv.refl name)) refl

  at_other : (name other remote : List ℕ) (ref : R) (others : Named R) (rest : Named R) → bytes_eq other name ≡ false
      → cons_option (option_map (λ v. (remote, v)) (lookup (bytes_eq other) ((name, ref) ∷ others))) rest
      ≡ cons_option (option_map (λ v. (remote, v)) (lookup (bytes_eq other) others)) rest
  at_other name other remote ref others rest apart =
      let P : Bool → Type 0 = λ b. cons_option (option_map (λ v. (remote, v)) (cond b (Some ref) (lookup (bytes_eq other) others))) rest
      ≡ cons_option (option_map (λ v. (remote, v)) (lookup (bytes_eq other) others)) rest in
      subst P (sym apart) refl

  with_append : (before after : Named (Named R)) (name : List ℕ)
      → remotes_with (before ++ after) name ≡ remotes_with before name ++ remotes_with after name
  with_append before after name =
      filter_map-append (λ remote. option_map (λ v. (remote.0, v)) (lookup (bytes_eq name) remote.1)) before after

  module _ (name : List ℕ) (old : Named (Named R)) (found : List ℕ × R) (new : Named (Named R)) (taken : RemovesRef name old found new) where
    -- the remotes that have the name: the removed one is prepended
    pub one_more : remotes_with old name ≡ found ∷ remotes_with new name
    one_more =
        let old_with = ap (λ v. remotes_with v name) taken.old_is
        ∙ with_append taken.before ((found.0, (name, found.1) ∷ taken.others) ∷ taken.after) name
        ∙ ap₂ (λ (a b : Named R). a ++ b) taken.none_before
        (at_same name found.0 found.1 taken.others (remotes_with taken.after name)) in
        let none : None ≡ lookup (bytes_eq name) taken.others = none_above name taken.others
        (sorted_head cmp name (keys_of taken.others) taken.ascending) in
        let drops : Option R → Named R = λ o. cons_option (option_map (λ v. (found.0, v)) o) (remotes_with taken.after name) in
        let new_with = ap (λ v. remotes_with v name) taken.new_is
        ∙ with_append taken.before ((found.0, taken.others) ∷ taken.after) name
        ∙ ap₂ (λ (a b : Named R). a ++ b) taken.none_before (ap drops (sym none)) in
        old_with ∙ ap (λ l. found ∷ l) (sym new_with)

    same_elsewhere : (other : List ℕ) → bytes_eq other name ≡ false → remotes_with new other ≡ remotes_with old other
    same_elsewhere other apart =
        ap (λ v. remotes_with v other) taken.new_is
        ∙ with_append taken.before ((found.0, taken.others) ∷ taken.after) other
        ∙ ap (λ l. remotes_with taken.before other ++ l)
        (sym (at_other name other found.0 found.1 taken.others (remotes_with taken.after other) apart))
        ∙ sym (with_append taken.before ((found.0, (name, found.1) ∷ taken.others) ∷ taken.after) other)
        ∙ sym (ap (λ v. remotes_with v other) taken.old_is)

  -- ---- the least name is at most each name of a remote

  found_least : (name : List ℕ) (refs : Named R) (other : List ℕ) → AllByRecursion (λ q. is_gt (cmp name q) ≡ false) (keys_of refs)
      → IsSome (lookup (bytes_eq other) refs) → is_gt (cmp name other) ≡ false
  found_least name [] other least some = cc
  found_least name (e ∷ es) other least some =
      least_hit name other e.0 e.1 (bytes_eq other e.0) (lookup (bytes_eq other) es) refl least.0 (found_least name es other least.1) some

  least_more : (name other remote : List ℕ) (here : Option R) (rest : Named R) → (IsSome here → is_gt (cmp name other) ≡ false)
      → (IsMore rest → is_gt (cmp name other) ≡ false) → IsMore (cons_option (option_map (λ v. (remote, v)) here) rest)
      → is_gt (cmp name other) ≡ false
  least_more name other remote (Some v) rest this later more = this refl
  least_more name other remote None rest this later more = later more

  pub least_of_all : (name : List ℕ) (remotes : Named (Named R)) → All (λ r. IsLeast name r.1) remotes
      → (other : List ℕ) → IsMore (remotes_with remotes other) → is_gt (cmp name other) ≡ false
  least_of_all name [] least other more = cc (more.2)
  least_of_all name (r ∷ rs) least other more =
      let Q : List ℕ × Named R → Type 0 = λ r. IsLeast name r.1 in
      least_more name other r.0 (lookup (bytes_eq other) r.1) (remotes_with rs other)
      (found_least name r.1 other (recursion_from_All (λ q. is_gt (cmp name q) ≡ false) (keys_of r.1) (All-head Q r rs least)))
      (least_of_all name rs (All-tail Q r rs least) other) more

  -- ---- the list

  more_later : (o : Option (List ℕ × R)) (rest : Named R) → IsMore rest → IsMore (cons_option o rest)
  more_later o rest more = cons_more o rest (inr more)

  own : (name : List ℕ) (found : List ℕ × R) (rest : Named R)
      → IsMore (cons_option (cond (bytes_eq name name) (Some found) None) rest)
  own name found rest =
      let P : Bool → Type 0 = λ b. IsMore (cons_option (cond b (Some found) None) rest) in
      subst P (sym (nat_list_eq_equiv.refl name)) (found, rest, refl)

  names_least : (name : List ℕ) (refs : AtRemotes R)
      → ((other : List ℕ) → IsMore (refs_at refs other) → is_gt (cmp name other) ≡ false)
      → AllByRecursion (λ r. is_gt (cmp name r.0.0) ≡ false) refs
  names_least name [] least = tt
  names_least name (r ∷ rs) least = (
    least r.0.0 (own r.0.0 (r.0.1, r.1) (refs_at rs r.0.0)),
    names_least name rs (λ other more. least other (more_later _ (refs_at rs other) more)),
  )

  pub flat_first : (name : List ℕ) (old : Named (Named R)) (found : List ℕ × R) (new : Named (Named R))
      → All (λ r. IsLeast name r.1) old → RemovesRef name old found new
      → (refs : AtRemotes R) → IsFlattened new refs → IsFlattened old (((name, found.0), found.1) ∷ refs)
  flat_first name old found new least taken refs flat = record {
    by_name = (
      names_least name refs (λ other more. at_name_or name other (bytes_eq other name) refl
          (least_of_all name old least other) (λ apart. subst IsMore (flat.at_each other ∙ same_elsewhere name old found new taken other apart) more)),
      flat.by_name,
    );
    at_each = λ q. at_ref name q (bytes_eq q name) found (refs_at refs q) (remotes_with old q) refl
        (λ same. ap (λ l. found ∷ l) (flat.at_each q ∙ ap (remotes_with new) same) ∙ sym (one_more name old found new taken) ∙ ap (remotes_with old) (sym same))
        (λ apart. flat.at_each q ∙ same_elsewhere name old found new taken q apart);
  }

  pub no_refs : (remotes : Named (Named R)) → IsFirstOfRemotes remotes None → IsFlattened remotes []
  no_refs remotes none = record { by_name = tt; at_each = λ q. sym (no_remotes remotes q none.1) }

  pub some_refs : (remotes : Named (Named R)) (name : List ℕ) → IsFirstOfRemotes remotes (Some name)
      → remotes_with remotes name ≡ [] → ⊥
  some_refs remotes name first none = let h = subst (λ l. IsSome (join_of {T = Unit {0}} None l)) none first.0 in cc

  pub one_fewer : (name : List ℕ) (old : Named (Named R)) (found : List ℕ × R) (new : Named (Named R)) → RemovesRef name old found new
      → sum_by (λ r. length r.1) new < sum_by (λ r. length r.1) old
  one_fewer name old found new taken =
      let count : Named (Named R) → ℕ = λ v. sum_by (λ r. length r.1) v in
      let a = ap count taken.old_is ∙ sum_by-append (λ r. length r.1) taken.before ((found.0, (name, found.1) ∷ taken.others) ∷ taken.after) in
      let b = ap count taken.new_is ∙ sum_by-append (λ r. length r.1) taken.before ((found.0, taken.others) ∷ taken.after) in
      let d = sum_by-cons (λ r. length r.1) (found.0, (name, found.1) ∷ taken.others) taken.after in
      let e = sum_by-cons (λ r. length r.1) (found.0, taken.others) taken.after in
      omega (arith, a, b, d, e)
