use Rattle.std.proofs.Common.{◌≡◌, ◌∙◌, List, ℕ, Some, false, subst, sym}
use Rattle.std.specs.Prelude.{is_some, string_bytes}
use Rattle.std.specs.BTreeMap.{get_by_text}
use Rattle.std.proofs.lemmas.Map.Text.{btree_map_updates_text}
use Rattle.jj_import.proofs.States.{id_added}
use Rattle.jj_import.proofs.name_maps.add_id.Goals as goal

pub returns-clause-added : goal.returns-clause-added
returns-clause-added c = λ other.
    let git_id = string_bytes c.in-Some.git_id in
    let absent : is_some (get_by_text c.args.ids.now git_id) ≡ false =
    subst (λ (name : List ℕ). is_some (get_by_text c.args.ids.now name) ≡ false) c.as_str.ensures.value (sym c.contains_key.ensures ∙ c.if-contains_key.false) in
    rw c.in-Some.is
    (id_added (λ name. get_by_text c.args.ids.now name) (λ name. get_by_text c.insert.new.self name) git_id c.args.id absent
    (btree_map_updates_text git_id c.args.ids.now c.insert.new.self (Some c.args.id) c.in_ok-insert.ensures.updates) other)
