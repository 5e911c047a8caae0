use Rattle.std.proofs.Common.{◌∙◌, inl, inr, sym, ap, Some, true≢false}
use Rattle.jj_trees.specs.MemoryObjects.{by_id}
use Rattle.jj_trees.proofs.MemoryObjectLemmas.{by_id-get, by_id-insert, put-same}
use Rattle.jj_trees.proofs.memory_backend.object_maps.insert_object.Goals as goal

pub returns-then-eq-clause-free : goal.returns-then-eq-clause-free
returns-then-eq-clause-free g c =
    let same = (c.requires c.in-Some.other.now c.args.value).0 (sym c.eq.ensures ∙ c.if-eq.true) in
    inr (by_id-get c.args.objects.now c.args.id ∙ sym c.in-Some.ensures.value ∙ ap Some same)

pub returns-then-eq-clause-added : goal.returns-then-eq-clause-added
returns-then-eq-clause-added g c =
    let same = (c.requires c.in-Some.other.now c.args.value).0 (sym c.eq.ensures ∙ c.if-eq.true) in
    put-same (by_id c.args.objects.now.entries) c.args.id c.args.value (by_id-get c.args.objects.now c.args.id ∙ sym c.in-Some.ensures.value ∙ ap Some same)

pub returns-else-eq-clause-error : goal.returns-else-eq-clause-error
returns-else-eq-clause-error g c =
    elim c.other_error.ensures [
      | inl other ↦ inr (
        other,
        (
          c.in-Some.other.now,
          by_id-get c.args.objects.now c.args.id ∙ sym c.in-Some.ensures.value,
          λ e. true≢false (sym ((c.requires c.in-Some.other.now c.args.value).1 e) ∙ sym c.eq.ensures ∙ c.if-eq.false),
        ),
      )
      | inr memory ↦ inl memory
    ]

pub returns-in_ok-insert-in-None-clause-free : goal.returns-in_ok-insert-in-None-clause-free
returns-in_ok-insert-in-None-clause-free g c = inl (by_id-get c.args.objects.now c.args.id ∙ sym c.in-None.ensures.value)

pub returns-in_ok-insert-in-None-clause-added : goal.returns-in_ok-insert-in-None-clause-added
returns-in_ok-insert-in-None-clause-added g c =
    rw c.in_ok-key-in-None.ensures.cases at (by_id-insert c.args.objects.now c.insert.new.self c.in_ok-key-in-None.key c.args.value c.in_ok-insert-in-None.ensures.updates)
