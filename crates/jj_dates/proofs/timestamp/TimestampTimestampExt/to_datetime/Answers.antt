use Rattle.std.proofs.Common.{◌≡◌, ◌∙◌, ap, arith, w32, FitsSigned, to_z, of_z}
use Rattle.std.proofs.lemmas.Int.{ints, to_z-of_z}
use Rattle.jj_dates.specs.Times.{offset_seconds}
use Rattle.jj_dates.proofs.timestamp.TimestampTimestampExt.to_datetime.Goals as goal

pub returns-in-Ok-from_millisecond-clause-offset : goal.returns-in-Ok-from_millisecond-clause-offset
returns-in-Ok-from_millisecond-clause-offset c =
    let fits : FitsSigned w32 c.clamped_offset_seconds.result = omega (arith, ints) in
    let value : to_z w32 (of_z w32 c.clamped_offset_seconds.result) ≡ c.clamped_offset_seconds.result = to_z-of_z w32 c.clamped_offset_seconds.result fits in
    let minutes_fit : FitsSigned w32 c.args.self.now.tz_offset = omega (arith, ints) in
    (c.in-Ok.offset, c.to_zoned.ensures.zone ∙ c.fixed.ensures, c.in-Ok.ensures.value ∙ value ∙ c.clamped_offset_seconds.ensures.value ∙ ap offset_seconds (to_z-of_z w32 c.args.self.now.tz_offset minutes_fit))
