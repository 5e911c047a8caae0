-- A merge of three terms of which one side is the base.
use Rattle.std.proofs.Common.{◌≡◌, ℕ, true, List, [], ◌∷◌, refl, sym, inl, inr}
use Rattle.std.specs.Str.{bytes_eq}
use Rattle.std.proofs.lemmas.Cmp.{nat_list_eq_equiv}
use Rattle.std.proofs.lemmas.Slice.Eq.{bytes_eq-Decides}
use Rattle.jj_merges.specs.declared.merge.SameChange.{SameChange}
use Rattle.jj_merges.specs.declared.merge.SameChange.TheVariants.{Keep, Accept}
use Rattle.jj_merges.specs.Resolution.{ResolvesTo}
use Rattle.jj_merges.proofs.ThreeWay.{keeping, accepting}

equal : (x y : List ℕ) → x ≡ y → bytes_eq x y ≡ true
equal x y e = (bytes_eq-Decides x y).1 e

pub right_changed : (same : SameChange) (left base right : List ℕ) → left ≡ base
    → ResolvesTo bytes_eq same (left ∷ base ∷ right ∷ []) right
right_changed Keep l b r e =
    keeping bytes_eq nat_list_eq_equiv l b r r (inl (equal b l (sym e), equal r r refl))
right_changed Accept l b r e =
    accepting bytes_eq nat_list_eq_equiv l b r r (inl (equal b l (sym e), equal r r refl))

pub left_changed : (same : SameChange) (left base right : List ℕ) → base ≡ right
    → ResolvesTo bytes_eq same (left ∷ base ∷ right ∷ []) left
left_changed Keep l b r e =
    keeping bytes_eq nat_list_eq_equiv l b r l (inr (equal b r e, equal l l refl))
left_changed Accept l b r e =
    accepting bytes_eq nat_list_eq_equiv l b r l (inr (inl (equal b r e, equal l l refl)))
