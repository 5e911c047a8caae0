use Rattle.std.proofs.Common.{◌≡◌, ◌++◌, map, drop, length}
use Rattle.std.specs.Option.{option_map}
use Rattle.jj_backend.specs.MergedTreeValues.{parts}
use Rattle.jj_backend.proofs.backend.file_parts.parts_of.Given as goal

abbrev pub invariant-loop-term : goal.invariant-loop-term
invariant-loop-term g l = record {
  made : parts g.P.FilePart.part_of (map (option_map g.T.AsTreeValue.value_of) l.values)
      ≡ option_map (λ rest. l.images.items ++ rest) (parts g.P.FilePart.part_of (map (option_map g.T.AsTreeValue.value_of) (drop l.term-index l.values)));
  counted : length l.images.items ≡ l.term-index;
}
