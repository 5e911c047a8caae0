use Rattle.std.proofs.lemmas.Result.{IfOk-weaker}
use Rattle.jj_stores.specs.RefTargetLaws.{remote_ref_equiv}
use Rattle.jj_stores.proofs.ClonedEntries.{equal_same}
use Rattle.jj_stores.proofs.op_store.ref_target.RemoteRefCloneIn.clone_in.Goals as goal

pub returns : goal.returns
returns c = IfOk-weaker c.clone.result _ _ (equal_same remote_ref_equiv c.args.self.now)
    c.clone.ensures
