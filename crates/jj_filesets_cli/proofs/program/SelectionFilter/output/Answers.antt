use Rattle.jj_filesets_cli.proofs.program.SelectionFilter.output.Goals as goal

pub returns-in-Err-clause-fails : goal.returns-in-Err-clause-fails
returns-in-Err-clause-fails c = c.list_failure.ensures c.args.self.now.options c.args.input.now c.in-Err.ensures.error
