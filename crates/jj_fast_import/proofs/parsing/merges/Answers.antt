use Rattle.std.proofs.Common.{◌≡◌, ◌++◌, ◌∷◌, [], ◌∙◌, map, List, ℕ}
use Rattle.std.proofs.lemmas.Result.{err_from_is_err_and}
use Rattle.std.proofs.lemmas.List.{map_push}
use Rattle.std.specs.Prelude.{codes}
use Rattle.jj_fast_import.specs.declared.fault.Expected.TheVariants.{Merge}
use Rattle.jj_fast_import.specs.Commands.{merges_at, reference_line}
use Rattle.jj_fast_import.specs.Values.{reference_value}
use Rattle.jj_fast_import.proofs.Repeated.{goes_on, stops, fails, is_full}
use Rattle.jj_fast_import.proofs.parsing.merges.Goals as goal

pub returns-in_err-found : goal.returns-in_err-found
returns-in_err-found c =
    let p = err_from_is_err_and c.from_residual.result c.from_residual.ensures.1 in
    rw (p.1, p.2) (fails (λ (rest : List ℕ). reference_line (codes "merge ") Merge c.args.at_end rest) (map reference_value c.loop.merges.items) c.args.limit c.loop.counter c.loop.rest.now (merges_at c.args.at_end c.args.limit c.args.bytes.now) c.loop.invariant c.in_err-found.field-0.0 c.loop-test.true c.in_err-found.ensures)

pub returns-in_default : goal.returns-in_default
returns-in_default c =
    stops (λ (rest : List ℕ). reference_line (codes "merge ") Merge c.args.at_end rest) (map reference_value c.loop.merges.items) c.args.limit c.loop.counter c.loop.rest.now (merges_at c.args.at_end c.args.limit c.args.bytes.now) c.loop.invariant c.loop-test.true (rw c.in_default.is at c.in_ok-found.ensures)

pub loop-preserved : goal.loop-preserved
loop-preserved c =
    let e : map reference_value c.push.new.self.items ≡ map reference_value c.loop.merges.items ++ reference_value c.in-Some.merge ∷ [] = rw c.in_ok-push.ensures.items (map_push _ c.loop.merges.items c.in-Some.merge) in
    goes_on (λ (rest : List ℕ). reference_line (codes "merge ") Merge c.args.at_end rest) (map reference_value c.loop.merges.items) c.args.limit c.loop.counter c.loop.rest.now (merges_at c.args.at_end c.args.limit c.args.bytes.now) c.loop.invariant (reference_value c.in-Some.merge) c.in-Some.after.now (map reference_value c.push.new.self.items) c.loop-test.true (rw c.in-Some.is at c.in_ok-found.ensures) e

pub returns : goal.returns
returns c = is_full (λ (rest : List ℕ). reference_line (codes "merge ") Merge c.args.at_end rest) (map reference_value c.loop.merges.items) c.args.limit c.loop.counter c.loop.rest.now (merges_at c.args.at_end c.args.limit c.args.bytes.now) c.loop.invariant c.loop-test.false
