use Rattle.std.proofs.Common.{arith}
use Rattle.jj_program.proofs.SetCode.{sets_short}
use Rattle.jj_program.proofs.file_set.SetStack.push.Goals as goal

pub overflow_add-self : goal.overflow_add-self
overflow_add-self c =
    let steps = c.args.self.now.ops in
    let short = sets_short steps.items in
    let counted = c.args.self.now.counted in
    let len = steps.ok.0 in
    let fits = steps.ok.1 in
    let small = steps.small in
    omega (arith, short, counted, len, fits, small)
