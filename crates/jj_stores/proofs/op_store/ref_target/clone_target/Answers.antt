use Rattle.std.proofs.Common.{◌≡◌, Option, Some, None, ap, refl, rules}
use Rattle.std.proofs.lemmas.List.Elements.{same_from_all_zip}
use Rattle.std.proofs.lemmas.Result.{IfOk-weaker}
use Rattle.jj_stores.proofs.op_store.ref_target.clone_target.Goals as goal

-- a relation that implies equality, on options
same_option : {A : Type 0} (R : Option A → Option A → Type 0) → ((x y : A) → R (Some x) (Some y) → y ≡ x)
    → ((x : A) → R (Some x) None → ⊥) → ((y : A) → R None (Some y) → ⊥)
    → (x y : Option A) → R x y → y ≡ x
same_option R same lost made (Some x) (Some y) k = ap Some (same x y k)
same_option R same lost made (Some x) None k = absurd (lost x k)
same_option R same lost made None (Some y) k = absurd (made y k)
same_option R same lost made None None k = refl

pub returns : goal.returns
returns c = IfOk-weaker c.clone.result _ _ (λ copy clones. same_from_all_zip _ _ copy clones
    (same_option _ (λ x y k. search rules) (λ x k. search rules) (λ y k. search rules))) c.clone.ensures.terms
