use Rattle.std.proofs.Common.{rules, subst}
use Rattle.std.specs.List.{AllZip}
use Rattle.std.specs.Prelude.{string_bytes}
use Rattle.jj_log.specs.Numbering.{InternsMore, IsNumberOf, names_of}
use Rattle.jj_log.proofs.Interning.{commits_more, negated}
use Rattle.jj_log.proofs.numbering.number_commits.Goals as goal

pub loop-commit-preserved : goal.loop-commit-preserved
loop-commit-preserved c =
    commits_more (names_of c.args.commits.now) c.loop-commit.numbers c.number_parents.new.numbers c.args.commits.now c.loop-commit.commit-index c.commit-item.result c.loop-commit.numbered.items
    c.push.new.self.items (record { parents = c.in_ok-parents.parents; is_elided = c.is_none.result }) c.loop-commit-test.true c.commit-item.is c.loop-commit.invariant
    (subst (λ l. InternsMore c.loop-commit.numbers c.number_parents.new.numbers (λ all. AllZip (λ parent m. IsNumberOf all (string_bytes parent) m) l c.in_ok-parents.parents.items)) c.deref.ensures.value c.in_ok-parents.ensures)
    (negated _ _ c.is_none.ensures) (search rules)
