use Rattle.std.proofs.Common.{◌∙◌, inl, inr, sym}
use Rattle.jj_stores_tests.specs.MemoryStores.{by_id}
use Rattle.jj_stores_tests.proofs.IdMaps.{by_id-get, by_id-insert, put-same}
use Rattle.jj_stores_tests.proofs.memory_op_store.insert_object.Goals as goal

pub returns-then-eq-clause-ok : goal.returns-then-eq-clause-ok
returns-then-eq-clause-ok g c =
    let there = by_id-get c.args.objects.now c.args.id ∙ sym c.in-Some.ensures.value in
    (c.in-Some.other.now, sym c.eq.ensures ∙ c.if-eq.true, inr there, put-same (by_id c.args.objects.now.entries) c.args.id c.in-Some.other.now there)

pub returns-in_ok-insert-in-None-clause-ok : goal.returns-in_ok-insert-in-None-clause-ok
returns-in_ok-insert-in-None-clause-ok g c = (
  c.args.copy,
  c.requires,
  inl (by_id-get c.args.objects.now c.args.id ∙ sym c.in-None.ensures.value),
  rw c.in_ok-key-in-None.ensures.cases at (by_id-insert c.args.objects.now c.insert.new.self c.in_ok-key-in-None.key c.args.copy c.in_ok-insert-in-None.ensures.updates),
)
