use Rattle.std.proofs.Common.{◌≡◌, ◌++◌, ◌∷◌, take}
use Rattle.std.specs.List.{flat_map}
use Rattle.jj_diff_presentation.specs.Names.{escape_of}
use Rattle.jj_diff_presentation.proofs.unified.names.push_quoted.Given as goal

abbrev pub invariant-loop-byte : goal.invariant-loop-byte
invariant-loop-byte l = l.text.items
    ≡ l.fn.text.items ++ (34 ∷ l.side ++ flat_map escape_of (take l.byte-index l.path))
