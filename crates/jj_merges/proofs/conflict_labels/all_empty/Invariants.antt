use Rattle.std.proofs.Common.{◌≡◌, length, map, drop, nat_lt}
use Rattle.std.specs.Prelude.{string_bytes}
use Rattle.std.specs.List.{list_all}
use Rattle.jj_merges.proofs.conflict_labels.all_empty.Given as goal

abbrev pub invariant-loop-label : goal.invariant-loop-label
invariant-loop-label l =
    list_all (λ string. nat_lt (length string) 1) (map string_bytes l.labels) ≡ list_all (λ string. nat_lt (length string) 1) (map string_bytes (drop l.label-index l.labels))
