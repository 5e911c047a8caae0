use Rattle.std.proofs.Common.{rules, ◌≡◌, ℕ, ◌+◌, ◌<◌, ◌≤◌, ◌++◌, List, [], ◌∷◌, length, take, drop, sym, ◌∙◌, arith}
use Rattle.jj_diff_presentation.specs.Lines.{split_lines}
use Rattle.jj_diff_presentation.proofs.LineLaws.{split_empty}
use Rattle.jj_diff_presentation.proofs.Applying.{next_item}
use Rattle.jj_diff_presentation.proofs.Excerpts.{no_excerpt}
use Rattle.jj_diff_presentation.proofs.unified.application.quote_line.Goals as goal

pub returns-then-is_empty : goal.returns-then-is_empty
returns-then-is_empty c =
    let none : length c.loop.rest.now ≡ 0 = search rules in
    let past : drop c.loop.counter (split_lines c.args.patch.now) ≡ []
    = sym c.loop.invariant ∙ split_empty c.loop.rest.now none in
    sym (no_excerpt (split_lines c.args.patch.now) c.loop.counter c.args.skipped past (omega arith))

pub loop-preserved : goal.loop-preserved
loop-preserved c =
    let lines : List (List ℕ) = split_lines c.args.patch.now in
    let line : List ℕ = c.split_first_line.result.0.now in
    let after : List (List ℕ) = split_lines c.split_first_line.result.1.now in
    let e : drop c.loop.counter lines ≡ line ∷ after
    = sym c.loop.invariant ∙ c.split_first_line.ensures.lines in
    let r : (c.loop.counter < length lines) × (drop (c.loop.counter + 1) lines ≡ after)
    × (take (c.loop.counter + 1) lines ≡ take c.loop.counter lines ++ line ∷ [])
    = next_item lines after c.loop.counter line e in
    sym r.1
