use Rattle.std.proofs.Common.{Ok, subst}
use Rattle.std.proofs.lemmas.Result.{IfOk-weaker, IfErr-weaker}
use Rattle.jj_program.specs.declared.program.Command.TheVariants.{Walk}
use Rattle.jj_program.specs.Program.{HasResult}
use Rattle.jj_program_tests.specs.Outputs.{CanFailBy, FindsFiles, IsFaultOfWalk}
use Rattle.jj_program_tests.proofs.InMemory.{text_gives, walk_fault}
use Rattle.jj_program_tests.proofs.callers.found_files.Goals as goal

pub returns-clause-found : goal.returns-clause-found
returns-clause-found c =
    IfOk-weaker c.output_of.result (λ output. HasResult Walk c.as_bytes.result.now (Ok output.items)) (λ output. FindsFiles c.args.text.now output.items)
    (λ output given. c.walks_find_their_files.ensures c.args.text.now output.items
    (text_gives Walk c.args.text.now (Ok output.items) c.utf8.text (subst (λ t. HasResult Walk t (Ok output.items)) c.as_bytes.ensures.value given)))
    c.output_of.ensures.done

pub returns-clause-fails : goal.returns-clause-fails
returns-clause-fails c =
    IfErr-weaker c.output_of.result (CanFailBy Walk c.as_bytes.result.now) (IsFaultOfWalk c.args.text.now)
    (λ fault cause. walk_fault c.faults_are_of_first_kinds.ensures c.args.text.now c.utf8.text fault (subst (λ t. CanFailBy Walk t fault) c.as_bytes.ensures.value cause))
    c.output_of.ensures.fails
