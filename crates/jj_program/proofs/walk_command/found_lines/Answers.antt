use Rattle.std.proofs.Common.{rules, map, subst}
use Rattle.jj_paths.specs.Names.{path_of}
use Rattle.jj_matchers.specs.MarkWalk.{WalksMarks}
use Rattle.jj_program.specs.WalkCommand.{spec_of}
use Rattle.jj_program.proofs.walk_command.found_lines.Goals as goal

pub returns : goal.returns
returns c = λ set only.
    let files = map path_of c.in_ok-found.found.files.items in
    let entered = map path_of c.in_ok-found.found.entered.items in
    (files, entered, subst (λ l. WalksMarks (spec_of set).accepts (spec_of set).visits (map path_of l) files entered) c.deref.ensures.value (c.in_ok-found.ensures set only), search rules)
