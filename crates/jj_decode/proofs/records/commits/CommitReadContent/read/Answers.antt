use Rattle.std.specs.Prelude.{string_bytes}
use Rattle.jj_content.specs.Content.{string_content}
use Rattle.jj_backend.specs.Contents.{IsText}
use Rattle.jj_backend.proofs.MergedParts.{list_content-map, is_merge_of-map}
use Rattle.jj_decode.proofs.records.commits.CommitReadContent.read.Goals as goal

pub returns-clause-decoded : goal.returns-clause-decoded
returns-clause-decoded c =
    let s = c.in_ok-origin.ensures.decoded in
    let labels = c.in_ok-origin.message.0 in
    record {
      valid = (s.valid.0, ((is_merge_of-map string_bytes IsText labels s.valid.1.0.0, s.valid.1.0.1), s.valid.1.1));
      split = rw (← list_content-map string_bytes string_content labels) s.split;
      within = s.within;
    }
