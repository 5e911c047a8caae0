use Rattle.std.proofs.Common.{◌≡◌, Bool, true, false, refl, sym, ◌∙◌}
use Rattle.std.specs.Bool.{MatchBool}
use Rattle.jj_stores_tests.proofs.IdMaps.{by_id-get}
use Rattle.jj_stores_tests.proofs.memory_op_store.get_object.Goals as goal

missing : (b : Bool) (P : Type 0) → P → MatchBool b P (b ≡ false)
missing true P h = h
missing false P h = refl

pub returns-in-Some : goal.returns-in-Some
returns-in-Some g c = record {
  found = by_id-get c.args.objects.now c.args.id.now ∙ sym c.in-Some.ensures.value;
  error = tt;
}

pub returns-in-None : goal.returns-in-None
returns-in-None g c = record {
  found = tt;
  error = missing _ _ (by_id-get c.args.objects.now c.args.id.now ∙ sym c.in-None.ensures.value);
}
