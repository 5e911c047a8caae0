use Rattle.std.proofs.Common.{◌∙◌, ◌<◌, sym, true≢false, arith}
use Rattle.std.proofs.lemmas.List.Elements.{All-from_get_or}
use Rattle.std.proofs.lemmas.Result.{IfOk-weaker}
use Rattle.jj_strings_tests.proofs.callers.is_in_pattern.Goals as goal

pub returns : goal.returns
returns c = λ not_all.
    let small = All-from_get_or (λ byte. byte < 256) c.args.bytes.now 0 (λ i _. omega (arith, c.type_inv.bytes i)) in
    let set = c.in_ok-matcher.ensures.set (λ all. absurd (true≢false (sym all ∙ not_all))) c.args.bytes.now small in
    IfOk-weaker c.is_match_bytes.result _ _
    (λ _ found. ((λ yes. set.0 (found.0 yes)), (λ inside. found.1 (set.1 inside)))) c.is_match_bytes.ensures.matches
