use Rattle.std.proofs.Common.{inr, refl}
use Rattle.jj_tree_files.proofs.files.too_deep_error.Goals as goal

pub returns-in-Ok : goal.returns-in-Ok
returns-in-Ok c = inr (c.in-Ok.message, refl)
