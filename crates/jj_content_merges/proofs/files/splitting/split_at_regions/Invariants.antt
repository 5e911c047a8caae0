use Rattle.jj_diff.specs.Inputs.{bytes_of}
use Rattle.jj_content_merges.specs.Rows.{rows_of, IsPrefixSplit}
use Rattle.jj_content_merges.proofs.files.splitting.split_at_regions.Given as goal

abbrev pub invariant-loop-region : goal.invariant-loop-region
invariant-loop-region g l = IsPrefixSplit (g.T.Tokenizer.is_end l.tokenizer) (bytes_of l.inputs) (rows_of l.splitter.rows.items) l.splitter.at.items
