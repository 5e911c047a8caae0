use Rattle.std.proofs.Common.{◌∙◌, sym, ap, Some}
use Rattle.jj_trees.proofs.MemoryObjectLemmas.{by_id-get, absent_read}
use Rattle.jj_trees.proofs.memory_backend.object_maps.clone_object.Goals as goal

pub returns-in_ok-clone-in-Some : goal.returns-in_ok-clone-in-Some
returns-in_ok-clone-in-Some g c = record {
  read = by_id-get c.args.objects.now c.args.id.now ∙ sym c.in-Some.ensures.value ∙ ap Some (sym (c.requires _ _ c.in_ok-clone-in-Some.ensures.cases));
  object = tt;
}

pub returns-in-None : goal.returns-in-None
returns-in-None g c = record {
  read = absent_read _ c.not_found_error.result c.not_found_error.ensures.not_found (by_id-get c.args.objects.now c.args.id.now ∙ sym c.in-None.ensures.value);
  object = c.not_found_error.ensures.object;
}
