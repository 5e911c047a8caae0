use Rattle.jj_decode_tests.proofs.DecodeErrors.{flag_result}
use Rattle.jj_decode_tests.proofs.callers.load_flag.Goals as goal

pub returns : goal.returns
returns c = λ n tag le are. flag_result n tag c.args.bytes.now le are c.decode_content.result
    c.decode_content.ensures.canonical c.decode_content.ensures.error
