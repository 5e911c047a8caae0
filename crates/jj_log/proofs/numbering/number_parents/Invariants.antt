-- The first names have their numbers.
use Rattle.std.proofs.Common.{take}
use Rattle.std.specs.List.{AllZip}
use Rattle.std.specs.Prelude.{string_bytes}
use Rattle.jj_log.specs.Numbering.{InternsMore, IsNumberOf}
use Rattle.jj_log.proofs.numbering.number_parents.Given as goal

abbrev pub invariant-loop-name : goal.invariant-loop-name
invariant-loop-name l = InternsMore l.initial.numbers l.numbers
    (λ all. AllZip (λ parent n. IsNumberOf all (string_bytes parent) n) (take l.name-index l.names) l.parents.items)
