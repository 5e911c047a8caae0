use Rattle.std.proofs.Common.{◌≡◌, List, ℕ, None, subst}
use Rattle.std.specs.Prelude.{if◌then◌else◌}
use Rattle.std.specs.BTreeMap.{get_by_text}
use Rattle.std.specs.Str.{bytes_eq}
use Rattle.std.proofs.lemmas.Map.Text.{btree_map_updates_text}
use Rattle.jj_import.proofs.name_maps.remove_id.Goals as goal

pub returns-then-is_new : goal.returns-then-is_new
returns-then-is_new c = λ other.
    rw (c.in-Some.is, c.if-is_new.true)
    (subst (λ (name : List ℕ). get_by_text c.remove-removed.new.self other ≡ (if bytes_eq name other then None else get_by_text c.args.ids.now other)) c.as_str.ensures.value
    (btree_map_updates_text c.as_str.result.now c.args.ids.now c.remove-removed.new.self None c.remove-removed.ensures.updates other))
