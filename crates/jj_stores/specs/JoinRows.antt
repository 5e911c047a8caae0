-- The models of join iterators: their remaining refs and rows.
-- Cited by contracts of public items: RemainingJoin, SelectsRefs, remaining_count,
-- remaining_unless.
use Rattle.std.specs.Prelude.{◌≡◌, ◌+◌, ℕ, List, [], length, Bool, true, false, Option}
use Rattle.std.specs.Borrow.{Bor}
use Rattle.std.specs.List.{sum_by}
use Rattle.jj_ids.specs.Names.{name_bytes}
use Rattle.jj_ids.specs.declared.ref_name.names.Name.{Name}
use Rattle.jj_stores.specs.RefTargets.{Target}
use Rattle.jj_stores.specs.ViewJoins.{Named, IsViewJoin}
use Rattle.jj_stores.specs.declared.op_store.ref_target.RemoteRef.{RemoteRef}
use Rattle.jj_stores.specs.declared.op_store.view.RemoteView.{RemoteView}
use Rattle.std.specs.BTreeMap.{BTreeMap}
use Rattle.std.specs.Fn.{CalledAt}
use denote.Param.Members.{Mut}

-- the bytes of a name, and the remote ref
abbrev pub ref_of : {K : Type 0} → Name K × Bor RemoteRef → List ℕ × RemoteRef
ref_of r = (name_bytes r.0, r.1.now)

-- the remaining local refs and remote refs of a join
pub record RemainingJoin : Type 0 where
  pub locals : Named Target
  pub remotes : Named (Named RemoteRef)

-- the remaining refs of a join; none after an error
abbrev pub remaining_unless : Bool → Named Target → Named (Named RemoteRef) → RemainingJoin
remaining_unless true locals remotes = record { locals = []; remotes = [] }
remaining_unless false locals remotes = record { locals = locals; remotes = remotes }

-- these are the remaining rows of a join
abbrev pub AreRemainingRows : RemainingJoin → Named (Option Target × Named RemoteRef) → Type 0
AreRemainingRows left rows = IsViewJoin left.locals left.remotes rows

-- the number of remaining refs
abbrev pub remaining_count : RemainingJoin → ℕ
remaining_count left = length left.locals + sum_by (λ remote. length remote.1) left.remotes

-- the closure, called with the view of a remote, returns these refs of it
abbrev pub SelectsRefs : {F : Type 0}
    → Mut F (Bor RemoteView × Unit {0}) (Bor (BTreeMap (List ℕ) RemoteRef)) → F
    → List ℕ × RemoteView → List ℕ × Named RemoteRef → F → Type 0
SelectsRefs closure f view remote next = (refs : Bor (BTreeMap (List ℕ) RemoteRef))
    × CalledAt closure f view.1 refs next × (remote ≡ (view.0, refs.now.entries))
