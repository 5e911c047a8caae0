use Rattle.jj_content.proofs.HexCoding.{DecodesTo-encode_with, are_hex_digits, are_reverse_hex_digits}
use Rattle.jj_content.proofs.hex_util.decoding_inverts_encoding.Goals as goal

pub returns-clause-forward : goal.returns-clause-forward
returns-clause-forward c = λ bytes fit. DecodesTo-encode_with _ bytes are_hex_digits fit

pub returns-clause-reverse : goal.returns-clause-reverse
returns-clause-reverse c = λ bytes fit. DecodesTo-encode_with _ bytes are_reverse_hex_digits fit
