use Rattle.std.proofs.Common.{List, ℕ, sym, subst}
use Rattle.std.specs.Str.{bytes_eq}
use Rattle.jj_merges.specs.Resolution.{ResolvesTo}
use Rattle.jj_content_merges_tests.proofs.callers.merge_versions.Goals as goal

pub returns-clause-right : goal.returns-clause-right
returns-clause-right c = λ e.
    c.in_ok-merged.ensures.whole c.args.right.now
    (subst (λ xs. ResolvesTo bytes_eq c.args.options.now.same_change xs c.args.right.now) (sym c.in_ok-inputs.ensures)
    (c.change_laws.ensures.right c.args.options.now.same_change c.args.left.now c.args.base.now c.args.right.now e))

pub returns-clause-left : goal.returns-clause-left
returns-clause-left c = λ e.
    c.in_ok-merged.ensures.whole c.args.left.now
    (subst (λ xs. ResolvesTo bytes_eq c.args.options.now.same_change xs c.args.left.now) (sym c.in_ok-inputs.ensures)
    (c.change_laws.ensures.left c.args.options.now.same_change c.args.left.now c.args.base.now c.args.right.now e))
