use Rattle.std.proofs.Common.{◌≡◌, ◌∙◌, ◌+◌, length, ap, arith, rules}
use Rattle.std.proofs.IntoIterSteps.{All-taken}
use Rattle.rows_merges.proofs.merges.of_sides.Goals as goal

pub from_removes_adds-requires : goal.from_removes_adds-requires
from_removes_adds-requires c = (
  search rules,
  (
    (λ it made. (tt, tt)),
    (
      (λ it made. (tt, tt)),
      (λ xs ys removes adds.
          omega (arith, ap length (All-taken removes.0 xs removes.2 ∙ removes.1.0), ap length (All-taken adds.0 ys adds.2 ∙ adds.1.0), c.args.removes.ok.0, c.args.adds.ok.0)),
    ),
  ),
)
