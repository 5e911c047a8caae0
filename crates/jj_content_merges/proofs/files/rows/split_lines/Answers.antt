use Rattle.jj_content_merges.specs.Rows.{rows_of}
use Rattle.jj_content_merges.proofs.Resolving.{three_tight}
use Rattle.jj_content_merges.proofs.files.rows.split_lines.Goals as goal

pub returns-in_ok-rows-in-len3-clause-tight : goal.returns-in_ok-rows-in-len3-clause-tight
returns-in_ok-rows-in-len3-clause-tight c = λ same.
    three_tight same c.args.terms.now _ (rows_of c.in_ok-rows-in-len3.rows.items) c.in-len3.len_at_least c.in-len3.len_below
    (c.in_ok-rows-in-len3.ensures.tight same)
