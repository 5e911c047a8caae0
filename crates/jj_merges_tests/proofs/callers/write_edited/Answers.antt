use Rattle.std.specs.String.{string_eq_equiv}
use Rattle.jj_merges_tests.specs.Edits.{simplified_strings}
use Rattle.jj_merges_tests.proofs.EditedStrings.{same_bytes, termwise}
use Rattle.jj_merges_tests.proofs.callers.write_edited.Goals as goal

pub returns : goal.returns
returns c =
    let written = c.in_ok-update_from_simplified.ensures in
    record {
      remaining = written.updated;
      cancelled = written.unchanged;
      counts = written.counts;
      unedited = λ same. same_bytes c.args.strings c.in_ok-update_from_simplified.field-0
          (written.round_trip string_eq_equiv (termwise (simplified_strings c.args.strings) c.args.edited same));
    }
