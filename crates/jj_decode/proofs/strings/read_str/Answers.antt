use Rattle.jj_decode.proofs.StringBytes.{none_if_invalid_utf8}
use Rattle.jj_decode.proofs.strings.read_str.Goals as goal

pub returns-in-Err-clause-malformed : goal.returns-in-Err-clause-malformed
returns-in-Err-clause-malformed c =
    rw c.invalid_utf8.ensures
    (none_if_invalid_utf8 c.args.bytes.now c.in_ok-slice.slice.now c.args.start c.in_ok-slice.end
    c.requires c.in_ok-slice.ensures.decoded c.in-Err.ensures.cases.0)
