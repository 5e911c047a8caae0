use Rattle.std.proofs.Common.{Some}
use Rattle.std.specs.Prelude.{string_bytes}
use Rattle.std.proofs.lemmas.Map.Text.{btree_map_updates_text}
use Rattle.jj_import.proofs.name_maps.set_name.Goals as goal

pub returns-clause-set : goal.returns-clause-set
returns-clause-set g c = λ other. btree_map_updates_text (string_bytes c.args.name) c.args.refs.now c.insert.new.self (Some c.args.value) c.in_ok-old.ensures.updates other
