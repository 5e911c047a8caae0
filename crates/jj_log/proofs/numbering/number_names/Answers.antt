use Rattle.std.proofs.Common.{rules, ◌≡◌, None}
use Rattle.std.specs.BTreeMap.{get}
use Rattle.jj_log.specs.Numbering.{name_cmp}
use Rattle.jj_log.proofs.Interning.{found_repeated, interns_commit, interns_none}
use Rattle.jj_log.proofs.numbering.number_names.Goals as goal

pub loop-index-init : goal.loop-index-init
loop-index-init c = interns_none c.new-numbers.result c.new-numbers.ensures.empty

pub loop-index-preserved : goal.loop-index-preserved
loop-index-preserved c =
    let none : get name_cmp c.loop-index.numbers c.as_str-in-loop-index.result ≡ None = search rules in
    interns_commit c.args.commits.now c.loop-index.index c.index-commits-index.result c.loop-index.numbers c.insert.new.self c.as_str-in-loop-index.result c.loop-index-test.true c.index-commits-index.is
    (search rules) c.loop-index.invariant none (search rules) (search rules)

pub returns-in-Some-clause-error : goal.returns-in-Some-clause-error
returns-in-Some-clause-error c =
    found_repeated c.args.commits.now c.loop-index.index c.index-commits-index.result c.loop-index.numbers c.as_str.result c.in-Some.earlier.now c.loop-index-test.true c.index-commits-index.is
    (search rules) c.loop-index.invariant (search rules)
