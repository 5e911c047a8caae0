use Rattle.std.proofs.Common.{rules, ◌≡◌, ℕ, ◌+◌, ◌<◌, ◌≤◌, ◌++◌, List, [], ◌∷◌, length, take, drop, sym, ◌∙◌, arith}
use Rattle.jj_diff_presentation.specs.Lines.{split_lines}
use Rattle.jj_diff_presentation.specs.Views.{state_view}
use Rattle.jj_diff_presentation.proofs.LineLaws.{split_empty}
use Rattle.jj_diff_presentation.proofs.Applying.{copied_none, dropped_all, next_item, copied_next}
use Rattle.jj_diff_presentation.proofs.unified.patch.copy_lines.Goals as goal

pub returns-then-is_empty-clause-fewer : goal.returns-then-is_empty-clause-fewer
returns-then-is_empty-clause-fewer c =
    let none : length c.loop.state.rest.now ≡ 0 = search rules in
    let short : length (split_lines c.args.state.now.rest.now) ≤ c.loop.counter
    = dropped_all (split_lines c.args.state.now.rest.now) c.loop.counter
    (sym c.loop.invariant.rest ∙ split_empty c.loop.state.rest.now none) in
    λ _. copied_none (state_view c.args.state.now) c.args.count (omega (arith, short))

pub loop-preserved : goal.loop-preserved
loop-preserved c =
    let lines : List (List ℕ) = split_lines c.args.state.now.rest.now in
    let line : List ℕ = c.split_first_line.result.0.now in
    let after : List (List ℕ) = split_lines c.split_first_line.result.1.now in
    let e : drop c.loop.counter lines ≡ line ∷ after
    = sym c.loop.invariant.rest ∙ c.split_first_line.ensures.lines in
    let r : (c.loop.counter < length lines) × (drop (c.loop.counter + 1) lines ≡ after)
    × (take (c.loop.counter + 1) lines ≡ take c.loop.counter lines ++ line ∷ [])
    = next_item lines after c.loop.counter line e in
    record {
      rest = sym r.1;
      within = omega (arith, r.0);
      output = c.in_ok-extend_from_slice.ensures.items
          ∙ copied_next lines after c.loop.counter line c.args.state.now.output.items
          c.loop.state.output.items e c.loop.invariant.output;
      position = omega arith;
      part = c.loop.invariant.part;
      left = c.loop.invariant.left;
      right = c.loop.invariant.right;
      bounded = omega arith;
    }
