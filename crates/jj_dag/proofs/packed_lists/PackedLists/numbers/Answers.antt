use Rattle.std.proofs.Common.{subst, sym}
use Rattle.std.specs.List.{Contains}
use Rattle.jj_dag.proofs.PackedLists.{in_list}
use Rattle.jj_dag.proofs.packed_lists.PackedLists.numbers.Goals as goal

pub returns : goal.returns
returns c = λ index number h. subst (λ numbers. Contains numbers number) (sym c.deref.ensures.value) (in_list c.args.self.now.numbers.items c.args.self.now.parts.items index number h)
