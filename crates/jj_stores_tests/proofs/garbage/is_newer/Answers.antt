use Rattle.std.proofs.Common.{◌∙◌, false, ap, ap₂, arith, sym, w64, FitsSigned}
use Rattle.std.proofs.lemmas.Int.{ints, to_z-of_z}
use Rattle.std.specs.Option.{option_map_or}
use Rattle.std.specs.Prelude.{int_lt}
use Rattle.jj_backend.specs.declared.backend.timestamp.MillisSinceEpoch.{MillisSinceEpoch}
use Rattle.jj_stores_tests.proofs.IdMaps.{by_id-get}
use Rattle.jj_stores_tests.proofs.garbage.is_newer.Goals as goal

pub returns-in-Some : goal.returns-in-Some
returns-in-Some g c =
    let time = c.args.time.0 in
    let written = c.in-Some.written.now.0 in
    let time_fits : FitsSigned w64 time = omega (arith, ints) in
    let written_fits : FitsSigned w64 written = omega (arith, ints) in
    ap₂ int_lt (to_z-of_z w64 time time_fits) (to_z-of_z w64 written written_fits)
    ∙ ap (λ o. option_map_or (λ (w : MillisSinceEpoch). int_lt time w.0) o false) (c.in-Some.ensures.value ∙ sym (by_id-get c.args.times.now c.args.id.now))

pub returns-in-None : goal.returns-in-None
returns-in-None g c = ap (λ o. option_map_or (λ (w : MillisSinceEpoch). int_lt c.args.time.0 w.0) o false) (c.in-None.ensures.value ∙ sym (by_id-get c.args.times.now c.args.id.now))
