use Rattle.std.proofs.Common.{rules, Ok, Err}
use Rattle.std.proofs.lemmas.Fn.{always_returns_same}
use Rattle.jj_paths.specs.Paths.{name_cmp}
use Rattle.jj_paths.specs.Names.{name_of}
use Rattle.jj_backend.proofs.BinarySearch.{placed}
use Rattle.jj_backend.proofs.backend.tree.find_index.Goals as goal

pub returns-in-Ok : goal.returns-in-Ok
returns-in-Ok c =
    placed c.args.entries.now (name_of c.args.name) (Ok c.in-Ok.at) c.requires c.in-Ok.ensures.bound
    (c.in-Ok.ensures.position (λ e. name_cmp e.0 (name_of c.args.name)) (always_returns_same _ _ _ (λ a r h called. (search rules, search rules))))

pub returns-in-Err : goal.returns-in-Err
returns-in-Err c =
    placed c.args.entries.now (name_of c.args.name) (Err c.in-Err.field-0) c.requires c.in-Err.ensures.bound
    (c.in-Err.ensures.position (λ e. name_cmp e.0 (name_of c.args.name)) (always_returns_same _ _ _ (λ a r h called. (search rules, search rules))))
