use Rattle.jj_import.specs.ImportStates.{state_of}
use Rattle.jj_import.proofs.NamedCommits.{references_step}
use Rattle.jj_import.proofs.importer.Importer.merged.Goals as goal

pub loop-reference-preserved : goal.loop-reference-preserved
loop-reference-preserved c =
    references_step (state_of c.args.self.now) c.args.references.now c.loop-reference.reference-index c.reference-item.result c.loop-reference.ids.items c.push.new.self.items c.in_ok-id.id
    c.loop-reference-test.true c.reference-item.is c.loop-reference.invariant c.in_ok-id.ensures c.in_ok-push.ensures.items
