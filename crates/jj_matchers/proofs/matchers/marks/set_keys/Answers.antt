use Rattle.std.proofs.Common.{get_or, refl, ◌∙◌}
use Rattle.std.proofs.Math.Seq.{map-set_same}
use Rattle.jj_matchers.specs.declared.matchers.marks.KeyedMark.{KeyedMark}
use Rattle.jj_matchers.specs.KeyedMarks.{keyed_path}
use Rattle.jj_matchers.proofs.matchers.marks.set_keys.Goals as goal

pub loop-mark-preserved : goal.loop-mark-preserved
loop-mark-preserved c =
    let marks = c.loop-mark.marks in
    let i = c.loop-mark.mark-index in
    let new : KeyedMark = record { key = c.key_from-mark.result; path = (get_or marks i c.mark-item.result).path } in
    map-set_same keyed_path marks i new c.mark-item.result refl ∙ c.loop-mark.invariant
