use Rattle.std.proofs.Common.{rules, ap, refl}
use Rattle.jj_diff.specs.Inputs.{bytes_of, IsNonempty}
use Rattle.jj_diff.proofs.Rows.{whole_one}
use Rattle.jj_diff.proofs.HunkEnds.{ends_one}
use Rattle.jj_diff.proofs.diff.hunks.equal_hunks.Goals as goal

pub returns-clause-diff : goal.returns-clause-diff
returns-clause-diff g c =
    let nonempty : IsNonempty (bytes_of c.args.inputs.now) = search rules in
    rw (c.in_ok-push.ensures.items, c.new-hunks.ensures.items)
    (whole_one g.C.CompareBytes.canonical (g.T.Tokenizer.is_end c.args.tokenizer.now) (g.met.T.Tokenizer.tokens c.args.tokenizer.now) (bytes_of c.args.inputs.now) _ (ap bytes_of c.in_ok-row.ensures.items) nonempty (λ k. c.requires))

pub returns-clause-ends : goal.returns-clause-ends
returns-clause-ends g c =
    rw (c.in_ok-push.ensures.items, c.new-hunks.ensures.items)
    (ends_one (g.T.Tokenizer.is_end c.args.tokenizer.now) (bytes_of c.args.inputs.now) _ (ap bytes_of c.in_ok-row.ensures.items) refl)
