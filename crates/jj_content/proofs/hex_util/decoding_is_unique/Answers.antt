use Rattle.jj_content.proofs.HexCoding.{DecodesTo-unique, are_hex_digits, are_reverse_hex_digits}
use Rattle.jj_content.proofs.hex_util.decoding_is_unique.Goals as goal

pub returns-clause-forward : goal.returns-clause-forward
returns-clause-forward c = λ text xs ys x y. DecodesTo-unique _ text xs ys are_hex_digits x y

pub returns-clause-reverse : goal.returns-clause-reverse
returns-clause-reverse c = λ text xs ys x y. DecodesTo-unique _ text xs ys are_reverse_hex_digits x y
