use Rattle.std.proofs.Common.{◌≡◌, ◌∙◌, None, ap, sym}
use Rattle.std.specs.Map.{lookup}
use Rattle.std.specs.Option.{option_copied_mut}
use Rattle.jj_dag.proofs.DenseMaps.{set_value-missing}
use Rattle.jj_dag.proofs.node_map.HashMapNodeMap.update.Goals as goal

pub returns-in_default-clause-entries : goal.returns-in_default-clause-entries
returns-in_default-clause-entries g c =
    let test = g.K.PartialEq.eq c.args.key.now in
    let es = c.args.self.now.entries in
    let none : lookup test es ≡ None = sym (ap option_copied_mut (sym c.in_default.is) ∙ c.get_mut.ensures.value) in
    rw c.get_mut.follows.holds-at-none (sym (set_value-missing test es c.args.value none))
