use Rattle.std.proofs.Common.{refl}
use Rattle.jj_dag.specs.ListOrError.{IteratesOver}
use Rattle.jj_dag.proofs.list_or_error.as_list_or_error.Goals as goal

pub returns-in-Ok : goal.returns-in-Ok
unfolding IteratesOver
returns-in-Ok g c = rw c.in-Ok.is c.into_iter.ensures.into_iter_gives

pub returns-in-Err : goal.returns-in-Err
unfolding IteratesOver
returns-in-Err g c = rw c.in-Err.is refl
