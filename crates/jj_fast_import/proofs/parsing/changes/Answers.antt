use Rattle.std.proofs.Common.{◌≡◌, ◌++◌, ◌∷◌, [], ◌∙◌, map, List, ℕ}
use Rattle.std.proofs.lemmas.Result.{err_from_is_err_and}
use Rattle.std.proofs.lemmas.List.{map_push}
use Rattle.jj_fast_import.specs.Changes.{change_at}
use Rattle.jj_fast_import.specs.Commands.{changes_at}
use Rattle.jj_fast_import.specs.Values.{change_value}
use Rattle.jj_fast_import.proofs.Repeated.{goes_on, stops, fails, is_full}
use Rattle.jj_fast_import.proofs.parsing.changes.Goals as goal

pub returns-in_err-change : goal.returns-in_err-change
returns-in_err-change c =
    let p = err_from_is_err_and c.from_residual.result c.from_residual.ensures.1 in
    rw (p.1, p.2) (fails (λ (rest : List ℕ). change_at c.args.at_end rest) (map change_value c.loop.changes.items) c.args.limit c.loop.counter c.loop.rest.now (changes_at c.args.at_end c.args.limit c.args.bytes.now) c.loop.invariant c.in_err-change.field-0.0 c.loop-test.true c.in_err-change.ensures)

pub returns-in_default : goal.returns-in_default
returns-in_default c =
    stops (λ (rest : List ℕ). change_at c.args.at_end rest) (map change_value c.loop.changes.items) c.args.limit c.loop.counter c.loop.rest.now (changes_at c.args.at_end c.args.limit c.args.bytes.now) c.loop.invariant c.loop-test.true (rw c.in_default.is at c.in_ok-change.ensures)

pub loop-preserved : goal.loop-preserved
loop-preserved c =
    let e : map change_value c.push.new.self.items ≡ map change_value c.loop.changes.items ++ change_value c.in-Some.change ∷ [] = rw c.in_ok-push.ensures.items (map_push _ c.loop.changes.items c.in-Some.change) in
    goes_on (λ (rest : List ℕ). change_at c.args.at_end rest) (map change_value c.loop.changes.items) c.args.limit c.loop.counter c.loop.rest.now (changes_at c.args.at_end c.args.limit c.args.bytes.now) c.loop.invariant (change_value c.in-Some.change) c.in-Some.after.now (map change_value c.push.new.self.items) c.loop-test.true (rw c.in-Some.is at c.in_ok-change.ensures) e

pub returns : goal.returns
returns c = is_full (λ (rest : List ℕ). change_at c.args.at_end rest) (map change_value c.loop.changes.items) c.args.limit c.loop.counter c.loop.rest.now (changes_at c.args.at_end c.args.limit c.args.bytes.now) c.loop.invariant c.loop-test.false
