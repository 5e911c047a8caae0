use Rattle.std.proofs.Common.{◌∙◌}
use Rattle.jj_fast_import.specs.Values.{command_value}
use Rattle.jj_fast_import.proofs.Steps.{step_found}
use Rattle.jj_fast_import.proofs.reader.step.Goals as goal

pub returns-in-Some-clause-command : goal.returns-in-Some-clause-command
returns-in-Some-clause-command c =
    step_found c.args.at_end c.args.bytes.now c.in-Some.rest.now (command_value c.in-Some.command) c.saturating_sub-used.result (rw c.in-Some.is at c.in_ok-command.ensures.exact) c.saturating_sub-used.ensures
