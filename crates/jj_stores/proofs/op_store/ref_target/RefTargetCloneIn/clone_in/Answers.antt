use Rattle.std.specs.Cmp.Lexicographic.{nat_list_eq_equiv, lists_equiv, options_equiv}
use Rattle.std.proofs.lemmas.Result.{IfOk-weaker}
use Rattle.jj_stores.proofs.ClonedEntries.{equal_same}
use Rattle.jj_stores.proofs.op_store.ref_target.RefTargetCloneIn.clone_in.Goals as goal

pub returns : goal.returns
returns c = IfOk-weaker c.clone_target.result _ _
    (equal_same (lists_equiv (options_equiv nat_list_eq_equiv)) c.args.self.now)
    c.clone_target.ensures
