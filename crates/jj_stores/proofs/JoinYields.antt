-- The row that `next` of a join yields, and the remaining refs.
use Rattle.std.proofs.Common.{◌≡◌, ◌<◌, ℕ, List, [], ◌∷◌, Bool, true, false, Option, Some, None, sym, refl, ap, ap₂, subst, ◌∙◌}
use Rattle.std.specs.List.{AllZip}
use Rattle.std.proofs.lemmas.List.Elements.{All-nil}
use Rattle.jj_stores.specs.RefTargets.{Target}
use Rattle.jj_stores.specs.ViewJoins.{Named, IsAscending, RemovesFirst, RemovesAt, remotes_with, IsViewJoin, IsFirstName}
use Rattle.jj_stores.specs.JoinRows.{RemainingJoin, remaining_unless, AreRemainingRows, remaining_count}
use Rattle.jj_stores.specs.declared.op_store.ref_target.RemoteRef.{RemoteRef}
use Rattle.jj_stores.proofs.JoinSteps.{row_first, no_rows, some_row, fewer_left, some_left}

pub none_empty : IsViewJoin {T = Target} {R = RemoteRef} [] [] []
none_empty = no_rows [] [] (refl, All-nil (λ remote. remote.1 ≡ []))

pub ended : (is_ended : Bool) (locals : Named Target) (remotes : Named (Named RemoteRef)) (left : RemainingJoin)
    → is_ended ≡ true → remaining_unless is_ended locals remotes ≡ left → AreRemainingRows left []
ended is_ended locals remotes left over same =
    subst (λ l. AreRemainingRows l []) (ap (λ b. remaining_unless b locals remotes) (sym over) ∙ same) none_empty

module _ (is_ended : Bool) (locals : Named Target) (remotes : Named (Named RemoteRef)) (left : RemainingJoin)
    (going : is_ended ≡ false) (same : remaining_unless is_ended locals remotes ≡ left) where
  whole : remaining_unless false locals remotes ≡ left
  whole = ap (λ b. remaining_unless b locals remotes) (sym going) ∙ same

  pub gives_none : IsFirstName locals remotes None → AreRemainingRows left []
  gives_none first = subst (λ l. AreRemainingRows l []) whole (no_rows locals remotes first)

  module _ (name : List ℕ) (first : IsFirstName locals remotes (Some name)) where
    pub refuses_row : AreRemainingRows left [] → ⊥
    refuses_row none = some_row locals remotes name first (subst (λ l. AreRemainingRows l []) (sym whole) none)

    pub none_is_fewer : 0 < remaining_count left
    none_is_fewer = subst (λ l. 0 < remaining_count l) whole (some_left locals remotes name first.0)

    module _ (locals' : Named Target) (remotes' : Named (Named RemoteRef)) (local : Option Target)
        (up : IsAscending locals) (taken : RemovesFirst name locals local locals')
        (lost : AllZip (RemovesAt name) remotes remotes') where
      pub gives_row : (shown : List ℕ) (refs : Named RemoteRef) → shown ≡ name → refs ≡ remotes_with remotes name
          → (rows : Named (Option Target × Named RemoteRef)) → AreRemainingRows (remaining_unless is_ended locals' remotes') rows
          → AreRemainingRows left ((shown, (local, refs)) ∷ rows)
      gives_row shown refs named at rows join =
          let row : List ℕ → Named RemoteRef → List ℕ × (Option Target × Named RemoteRef) = λ n rs. (n, (local, rs)) in
          let is : (name, (local, remotes_with remotes name)) ≡ (shown, (local, refs)) = sym (ap₂ row named at) in
          subst (λ l. AreRemainingRows l ((shown, (local, refs)) ∷ rows)) whole
          (subst (λ r. IsViewJoin locals remotes (r ∷ rows)) is
          (row_first locals locals' remotes remotes' name local first up taken lost rows
          (subst (λ b. AreRemainingRows (remaining_unless b locals' remotes') rows) going join)))

      pub fewer : remaining_count (remaining_unless is_ended locals' remotes') < remaining_count left
      fewer =
          let less = fewer_left locals locals' remotes remotes' name local first.0 taken lost in
          let P : Bool → Type 0 = λ b. remaining_count (remaining_unless b locals' remotes') < remaining_count left in
          subst P (sym going) (subst (λ l. remaining_count (remaining_unless false locals' remotes') < remaining_count l) whole less)
