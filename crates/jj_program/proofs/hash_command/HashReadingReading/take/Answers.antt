use Rattle.std.proofs.Common.{ℕ, List, subst}
use Rattle.jj_program.specs.HashCommand.{hash_step}
use Rattle.jj_program.specs.Lines.{Agrees, texts_of}
use Rattle.jj_program.proofs.Steps.{leads_to}
use Rattle.jj_program.proofs.hash_command.HashReadingReading.take.Goals as goal

pub returns : goal.returns
returns c = λ output is.
    let fields = texts_of c.args.fields.now in
    let new = c.push_line.new.self.output.items in
    leads_to c.push_line.result new (hash_step output fields) (subst (λ (l : List ℕ). Agrees c.push_line.result (λ _. new) (hash_step l fields)) is c.push_line.ensures)
