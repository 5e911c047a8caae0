use Rattle.std.proofs.Common.{◌++◌, subst}
use Rattle.jj_content.specs.Blake2bState.{HasAbsorbed}
use Rattle.jj_program.proofs.HexBytes.{found_bytes, found_nothing}
use Rattle.jj_program.proofs.hash_command.hash_hex.Goals as goal

pub returns-in_default-clause-none : goal.returns-in_default-clause-none
returns-in_default-clause-none c = λ invalid.
    let nothing = rw c.in_default.is at c.in_ok-bytes.ensures in
    found_nothing c.args.text.now nothing

pub returns-clause-bytes : goal.returns-clause-bytes
returns-clause-bytes c = λ valid.
    let reads = rw c.in-Some.is at c.in_ok-bytes.ensures in
    (c.in-Some.bytes.items, found_bytes c.args.text.now c.in-Some.bytes.items reads.1, λ message absorbed. subst (λ l. HasAbsorbed c.update.new.self (message ++ l)) c.deref.ensures.value (c.update.ensures message absorbed))
