-- One step of a join iterator: the yielded row and the remaining ones.
-- Cited by contracts of public items: YieldsRow.
use Rattle.std.specs.Prelude.{ℕ, List, [], ◌∷◌, map, Option, Some, None, Result, Ok, Err}
use Rattle.std.specs.Option.{option_copied}
use Rattle.jj_ids.specs.Names.{name_bytes}
use Rattle.jj_ids.specs.declared.ref_name.names.Name.{Name}
use Rattle.jj_stores.specs.RefTargets.{Target}
use Rattle.jj_stores.specs.ViewJoins.{Named}
use Rattle.jj_stores.specs.JoinRows.{RemainingJoin, AreRemainingRows, ref_of}
use Rattle.jj_stores.specs.declared.op_store.ref_target.RemoteRef.{RemoteRef}
use Rattle.jj_stores.specs.declared.op_store.view_joins.LocalRemoteRefTarget.{LocalRemoteRefTarget}

module _ {K : Type 0} where
  -- the name, the local target and the remote refs of a row
  abbrev pub row_of : Name K × LocalRemoteRefTarget
      → List ℕ × (Option Target × Named RemoteRef)
  row_of row = (
    name_bytes row.0,
    (option_copied row.1.local_target, map ref_of row.1.remote_refs.items),
  )

  -- the first remaining row is yielded, or none remains; or a row fails, after which none remains
  abbrev pub YieldsRow : {E : Type 0} → RemainingJoin
      → Option (Result (Name K × LocalRemoteRefTarget) E) → RemainingJoin → Type 0
  YieldsRow old None new = AreRemainingRows old [] × AreRemainingRows new []
  YieldsRow old (Some (Ok row)) new = (rows : Named (Option Target × Named RemoteRef))
      → AreRemainingRows new rows → AreRemainingRows old (row_of row ∷ rows)
  YieldsRow old (Some (Err e)) new = (AreRemainingRows old [] → ⊥) × AreRemainingRows new []
