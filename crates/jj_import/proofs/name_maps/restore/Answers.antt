use Rattle.std.proofs.Common.{◌≡◌, ◌∙◌, List, ℕ, Some, None, true, false, ap, subst, sym}
use Rattle.std.specs.Prelude.{if◌then◌else◌, is_some, string_bytes}
use Rattle.std.specs.BTreeMap.{get_by_text}
use Rattle.std.specs.Str.{bytes_eq}
use Rattle.std.proofs.lemmas.Map.Text.{btree_map_updates_text}
use Rattle.jj_import.proofs.States.{ok_from_absent}
use Rattle.jj_import.proofs.name_maps.restore.Goals as goal

pub returns-in-Some : goal.returns-in-Some
returns-in-Some g c = λ other.
    rw c.in-Some.is
    (btree_map_updates_text (string_bytes c.args.name) c.args.refs.now c.insert-replaced.new.self (Some c.in-Some.old)
    (ok_from_absent c.insert-replaced.result _ _ c.insert-replaced.ensures.updates c.insert-replaced.ensures.absent
    (λ none. let both : true ≡ false = sym c.requires ∙ ap is_some none in cc)) other)

pub returns-in-None : goal.returns-in-None
returns-in-None g c = λ other.
    rw c.in-None.is
    (subst (λ (name : List ℕ). get_by_text c.remove-removed.new.self other ≡ (if bytes_eq name other then None else get_by_text c.args.refs.now other)) c.as_str.ensures.value
    (btree_map_updates_text c.as_str.result.now c.args.refs.now c.remove-removed.new.self None c.remove-removed.ensures.updates other))
