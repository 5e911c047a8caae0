use Rattle.std.proofs.Common.{sym}
use Rattle.jj_stores_tests.proofs.IdMaps.{find-mapped, find-unmapped, no_other, another}
use Rattle.jj_stores_tests.proofs.memory_op_store.MemoryOpStoreOpStore.resolve_operation_id_prefix.Goals as goal

pub returns-in-None-clause-ok : goal.returns-in-None-clause-ok
returns-in-None-clause-ok c = λ id match. find-unmapped _ _ id (sym c.in-None.ensures) match.0 match.1

pub returns-in_ok-clone-in-None-other_match-clause-ok : goal.returns-in_ok-clone-in-None-other_match-clause-ok
returns-in_ok-clone-in-None-other_match-clause-ok c =
    rw c.in_ok-clone-in-None-other_match.ensures.cases
    (find-mapped _ _ c.in-Some.id.now (sym c.in-Some.ensures), λ other. no_other _ _ _ other (sym c.in-None-other_match.ensures))

pub returns-in-Some-other_match-clause-ok : goal.returns-in-Some-other_match-clause-ok
returns-in-Some-other_match-clause-ok c =
    let more = another _ _ _ c.in-Some-other_match.field-0.now (sym c.in-Some-other_match.ensures) in
    (c.in-Some.id.now, c.in-Some-other_match.field-0.now, more.0, find-mapped _ _ c.in-Some.id.now (sym c.in-Some.ensures), more.1)
