use Rattle.std.proofs.Common.{arith}
use Rattle.std.proofs.Math.Logic.{∥∥₁_map}
use Rattle.sqlite.specs.Files.{file_state}
use Rattle.sqlite.specs.State.{HasCleanDisk}
use Rattle.sqlite.proofs.Theorems.{opens_again}
use Rattle.jj_sqlite_tests.proofs.crashes.abandon.Goals as goal

pub returns : goal.returns
returns g c = λ entries had clean image left.
    let store = c.into_store.result in
    let before : HasCleanDisk (file_state c.args.conn) = omega (arith, c.into_store.ensures.quiet.clean, clean) in
    ∥∥₁_map (opens_again store (c.into_store.ensures.numbered clean) (c.into_store.ensures.sound clean) image left)
    (λ found. (found.0, found.2, had.crash before found.0 (c.into_store.ensures.quiet.outcomes found.0 found.1)))
