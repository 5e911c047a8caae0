use Rattle.std.proofs.Common.{rules, arith, lit<, [], ◌+◌}
use Rattle.std.proofs.lemmas.Result.{err_from_is_err_and}
use Rattle.jj_log.specs.InputLines.{numbered_lines, parts_of}
use Rattle.jj_log.proofs.ReadLines.{cut_at, uncut, shorter_part, next_lines, last_line, next_parsed, all_parsed, fault_of_line}
use Rattle.jj_log.proofs.input.parse_commits.Goals as goal

pub loop-line-preserved : goal.loop-line-preserved
loop-line-preserved c =
    let rest = c.loop-line.rest.now in
    let number = c.loop-line.number in
    let line = c.in-Some.line.now in
    let later = c.in-Some.later.now in
    let cut = cut_at 10 rest c.split_once.result (c.in-Some.line, c.in-Some.later) (lit< tt) c.split_once.ensures.cases c.in-Some.is in (
      search rules,
      omega (arith, shorter_part 10 rest line later cut, c.loop-line.invariant.1),
      next_parsed c.args.input.now rest number c.loop-line.commits.items c.push_commit.new.commits.items c.loop-line.numbers.items c.push_commit.new.numbers.items line later
          c.loop-line.invariant.2 (next_lines number rest line later cut) c.in_ok-push_commit.ensures.commits c.in_ok-push_commit.ensures.numbers,
    )

pub returns-in_err-push_commit-clause-error : goal.returns-in_err-push_commit-clause-error
returns-in_err-push_commit-clause-error c =
    let rest = c.loop-line.rest.now in
    let number = c.loop-line.number in
    let line = c.in-Some.line.now in
    let later = c.in-Some.later.now in
    let cut = cut_at 10 rest c.split_once.result (c.in-Some.line, c.in-Some.later) (lit< tt) c.split_once.ensures.cases c.in-Some.is in
    let p = err_from_is_err_and c.from_residual.result c.from_residual.ensures.1 in
    rw (p.1, p.2)
    (fault_of_line c.args.input.now rest number c.loop-line.commits.items c.loop-line.numbers.items line (numbered_lines (number + 1) (parts_of 10 later))
    c.loop-line.invariant.2 (next_lines number rest line later cut) c.in_err-push_commit.field-0.0 c.in_err-push_commit.ensures.error)

pub returns-in_err-push_commit-2-clause-error : goal.returns-in_err-push_commit-2-clause-error
returns-in_err-push_commit-2-clause-error c =
    let rest = c.loop-line.rest.now in
    let number = c.loop-line.number in
    let plain = uncut 10 rest c.split_once.result (lit< tt) c.split_once.ensures.cases c.in_default.is in
    let p = err_from_is_err_and c.from_residual-in_err-push_commit-2.result c.from_residual-in_err-push_commit-2.ensures.1 in
    rw (p.1, p.2)
    (fault_of_line c.args.input.now rest number c.loop-line.commits.items c.loop-line.numbers.items rest []
    c.loop-line.invariant.2 (last_line number rest plain) c.in_err-push_commit-2.field-0.0 c.in_err-push_commit-2.ensures.error)

pub returns-clause-commits : goal.returns-clause-commits
returns-clause-commits c =
    let rest = c.loop-line.rest.now in
    let number = c.loop-line.number in
    let plain = uncut 10 rest c.split_once.result (lit< tt) c.split_once.ensures.cases c.in_default.is in
    all_parsed c.args.input.now rest number c.loop-line.commits.items c.push_commit-2.new.commits.items c.reverse.new.self.items c.loop-line.numbers.items c.push_commit-2.new.numbers.items c.reverse-2.new.self.items
    c.loop-line.invariant.2 plain c.in_ok-push_commit-2.ensures.commits c.in_ok-push_commit-2.ensures.numbers c.reverse.ensures.items c.reverse-2.ensures.items
