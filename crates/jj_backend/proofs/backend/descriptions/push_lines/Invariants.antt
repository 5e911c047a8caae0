use Rattle.std.proofs.Common.{◌≡◌, ◌++◌, map, string_bytes}
use Rattle.std.specs.Option.{option_map}
use Rattle.jj_backend.specs.MergedTreeValues.{lines}
use Rattle.jj_backend.proofs.backend.descriptions.push_lines.Given as goal

abbrev pub invariant-loop-term : goal.invariant-loop-term
invariant-loop-term g l =
    string_bytes l.text ++ lines l.done (map (option_map g.T.AsTreeValue.value_of) l.term-iterator) (map string_bytes l.labels)
    ≡ string_bytes l.initial.text ++ lines l.done (map (option_map g.T.AsTreeValue.value_of) l.initial.term-iterator) (map string_bytes l.initial.labels)
