use Rattle.std.specs.Prelude.{string_bytes}
use Rattle.jj_merges.proofs.LabelLaws.{nonempty-remove}
use Rattle.jj_merges.proofs.conflict_labels.ConflictLabels.get_remove.Goals as goal

pub returns : goal.returns
returns c = nonempty-remove string_bytes c.self.inside.labels c.args.self.now c.args.remove_index c.self.invariant c.self.view_is _ _ c.nonempty_label.ensures c.get_remove.ensures
