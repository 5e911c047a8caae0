use Rattle.std.proofs.Common.{◌≡◌, ◌∙◌, ◌+◌, ◌%◌, ◌++◌, length, ap, arith, rules, length-append}
use Rattle.std.proofs.IntoIterSteps.{All-taken}
use Rattle.rows_merges.proofs.merges.built.Goals as goal

pub build-requires : goal.build-requires
build-requires c =
    let ran = c.in_ok-extend.ensures.ok in (
      search rules,
      (
        search rules,
        omega (arith, ap length ran.2, length-append c.default-builder.result ran.0, ap length c.default-builder.ensures, ap length (All-taken ran.1.0 ran.0 ran.1.2 ∙ ran.1.1.0)),
      ),
    )
