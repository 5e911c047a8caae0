use Rattle.jj_paths.specs.Names.{path_of}
use Rattle.jj_filesets.proofs.Evaluated.{unevaluated}
use Rattle.jj_filesets.proofs.fileset.program.FilesetExpression.evaluate.Goals as goal

pub loop-step-init : goal.loop-step-init
loop-step-init c =
    unevaluated (path_of c.args.path) c.args.self.now c.steps-rest.result.now c.clear.new.self.items c.steps-rest.ensures.program c.clear.ensures.items
