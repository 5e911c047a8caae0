use Rattle.std.proofs.Common.{[], ◌∷◌, ◌++◌, sym, subst}
use Rattle.jj_diff.specs.Inputs.{bytes_of, AreParts}
use Rattle.jj_content_merges.specs.Rows.{rows_of, IsPrefixSplit}
use Rattle.jj_content_merges.proofs.Splitting.{split_push}
use Rattle.jj_content_merges.proofs.files.splitting.Splitter.advance.Goals as goal

pub returns-clause-split : goal.returns-clause-split
returns-clause-split g c =
    rw c.in_ok-push.ensures.items (
    subst (λ at. IsPrefixSplit (g.T.Tokenizer.is_end c.args.tokenizer.now) (bytes_of c.args.inputs.now) (rows_of (c.args.self.now.rows.items ++ c.in_ok-row.row ∷ [])) at)
    (sym c.in_ok-next.ensures.items)
    (split_push (g.T.Tokenizer.is_end c.args.tokenizer.now) (bytes_of c.args.inputs.now) c.args.self.now.rows.items c.in_ok-row.row c.args.self.now.at.items c.args.ends.now
    c.requires.split c.requires.ranges c.requires.cuts
    (subst (λ at. AreParts (bytes_of c.args.inputs.now) at c.args.ends.now (bytes_of c.in_ok-row.row.items)) c.deref.ensures.value c.in_ok-row.ensures)))
