use Rattle.jj_program.specs.Lines.{texts_of}
use Rattle.jj_program.proofs.FormRows.{sized_input}
use Rattle.jj_program.proofs.hash_command.HashReading.push_line.Goals as goal

pub input_digest-requires : goal.input_digest-requires
input_digest-requires c = sized_input (texts_of c.args.fields.now) c.in_ok-input.input c.in_ok-input._shape (texts_of c.in_ok-input.fields.now) c.in_ok-input.ensures.parsed
