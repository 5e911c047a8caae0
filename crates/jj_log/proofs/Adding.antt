-- Adding new elements to a list.
use Rattle.std.proofs.Common.{◌≡◌, inl, inr, ℕ, Bool, true, false, not, true≢false, List, [], ◌∷◌, ◌++◌, eqb, refl, sym, subst, ⊎_elim}
use Rattle.std.specs.List.{Contains}
use Rattle.std.specs.Set.{is_member}
use Rattle.std.proofs.lemmas.List.Elements.{Contains-append_left, Contains-append_right, Contains-append_cases}
use Rattle.std.proofs.lemmas.List.Sorted.{IsPermutation-sym, IsPermutation-trans, IsPermutation-to_front, Contains-permutation}
use Rattle.std.proofs.lemmas.Map.Keys.{IsDistinct-push, IsDistinct-IsPermutation}
use Rattle.std.proofs.lemmas.Cmp.{nat_eq_equiv}
use Rattle.jj_dag.specs.NodeSets.{PutsKey}
use Rattle.jj_dag.proofs.Walking.{Contains-from_has, eqb-flip}
use Rattle.jj_walks.proofs.Expanding.{first_or_rest, in_rest}
use Rattle.jj_log.specs.Targets.{AddsNew}
use Rattle.jj_log.proofs.Lists.{nothing}

pub adds_none : (xs : List ℕ) → AddsNew [] xs xs
adds_none xs = record { all = λ t. (inl, ⊎_elim (λ old. old) nothing); once = λ once. once }

pub adds_old : (xs : List ℕ) (a : ℕ) → Contains xs a → AddsNew (a ∷ []) xs xs
adds_old xs a h = record {
  all = λ t. (inl, ⊎_elim (λ old. old) (λ added. ⊎_elim (λ same. subst (λ z. Contains xs z) same h) nothing (first_or_rest a [] t added)));
  once = λ once. once;
}

-- inserted into a set
pub adds_put : (old new : List ℕ) (a : ℕ) (added : Bool) → added ≡ not (is_member eqb old a) → PutsKey old new a added → AddsNew (a ∷ []) old new
adds_put old new a true is moved = record {
  all = λ t. (
    (λ h. ⊎_elim inr inl (Contains-append_cases (a ∷ []) old t (Contains-permutation new (a ∷ old) t (IsPermutation-sym (a ∷ old) new moved) h))),
    ⊎_elim (λ was. Contains-permutation (a ∷ old) new t moved (in_rest a old t was)) (λ one. Contains-permutation (a ∷ old) new t moved (Contains-append_left (a ∷ []) old t one)),
  );
  once = λ once. IsDistinct-IsPermutation eqb eqb-flip (old ++ a ∷ []) new (IsPermutation-trans (old ++ a ∷ []) (a ∷ old) new (IsPermutation-to_front old a) moved) (IsDistinct-push nat_eq_equiv old a once (absent (is_member eqb old a) is));
}
  where
    absent : (b : Bool) → true ≡ not b → b ≡ false
    absent true h = absurd (true≢false h)
    absent false h = refl
adds_put old new a false is same = subst (AddsNew (a ∷ []) old) (sym same) (adds_old old a (Contains-from_has old a (present (is_member eqb old a) is)))
  where
    present : (b : Bool) → false ≡ not b → b ≡ true
    present true h = refl
    present false h = absurd (true≢false (sym h))

pub adds_more : (xs first_ones old mid new : List ℕ) (a : ℕ) → xs ≡ first_ones ++ a ∷ [] → AddsNew first_ones old mid → AddsNew (a ∷ []) mid new → AddsNew xs old new
adds_more xs first_ones old mid new a same first second = subst (λ (l : List ℕ). AddsNew l old new) (sym same) (record {
  all = λ t. (
    (λ h. ⊎_elim (λ earlier. ⊎_elim inl (λ added. inr (Contains-append_left first_ones (a ∷ []) t added)) ((first.all t).0 earlier)) (λ last. inr (Contains-append_right first_ones (a ∷ []) t last)) ((second.all t).0 h)),
    ⊎_elim (λ here. (second.all t).1 (inl ((first.all t).1 (inl here)))) (λ added. ⊎_elim (λ earlier. (second.all t).1 (inl ((first.all t).1 (inr earlier)))) (λ last. (second.all t).1 (inr last)) (Contains-append_cases first_ones (a ∷ []) t added)),
  );
  once = λ once. second.once (first.once once);
})
