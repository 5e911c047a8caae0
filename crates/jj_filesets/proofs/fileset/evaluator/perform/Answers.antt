use Rattle.jj_paths.specs.Names.{path_of}
use Rattle.jj_filesets.proofs.Evaluated.{pushed}
use Rattle.jj_filesets.proofs.fileset.evaluator.perform.Goals as goal

pub returns-in_ok-push-in-Push : goal.returns-in_ok-push-in-Push
returns-in_ok-push-in-Push c =
    pushed (path_of c.args.path) c.args.step.now _ c.matches.result c.args.stack.now.items c.push.new.self.items c.in-Push.is c.matches.ensures c.in_ok-push-in-Push.ensures.items
