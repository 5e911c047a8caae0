-- The value of the digits so far.
use Rattle.std.proofs.Common.{◌≡◌, take}
use Rattle.std.specs.Str.Parse.{AllDigits, digits_value}
use Rattle.jj_program.proofs.graph_command.parse_digits.Given as goal

abbrev pub invariant-loop-byte : goal.invariant-loop-byte
invariant-loop-byte l = record {
  digits : AllDigits 10 (take l.byte-index l.digits);
  value : l.value ≡ digits_value 10 (take l.byte-index l.digits);
}
