use Rattle.std.proofs.Common.{◌≡◌, ◌∙◌, sym, ℕ, ◌+◌, ◌-◌, ◌≤◌, length, arith}
use Rattle.std.proofs.lemmas.List.{length-map}
use Rattle.jj_strings.specs.CaseFolding.{lowercase}
use Rattle.jj_strings.proofs.Occurrences.{occurs_from, occurs_to, folded-window}
use Rattle.jj_strings.proofs.str_util.caseless_search.occurs_at.Goals as goal

pub returns : goal.returns
returns c =
    let n : ℕ = c.args.at + length c.args.needle.now - c.args.at in
    let n_is : n ≡ length (lowercase c.args.needle.now) = omega (arith, length-map {A = ℕ} {B = ℕ}) in
    let fits : c.args.at + n ≤ length (lowercase c.args.bytes.now) = omega (arith, length-map {A = ℕ} {B = ℕ}) in (
      (λ h. occurs_from (lowercase c.args.bytes.now) (lowercase c.args.needle.now) n c.args.at n_is fits
          (folded-window c.args.bytes.now n c.args.at ∙ c.eq_ignore_ascii_case.ensures.test.0 h)),
      (λ o. c.eq_ignore_ascii_case.ensures.test.1
          (sym (folded-window c.args.bytes.now n c.args.at) ∙ occurs_to (lowercase c.args.bytes.now) (lowercase c.args.needle.now) n c.args.at n_is o)),
    )
