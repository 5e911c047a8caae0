use Rattle.std.proofs.Common.{◌∙◌, ap}
use Rattle.std.specs.Prelude.{string_bytes}
use Rattle.std.specs.Hash as fed
use Rattle.std.specs.List.{fold}
use Rattle.jj_merges.proofs.MappedLists.{slice-map}
use Rattle.jj_merges.proofs.conflict_labels.ConflictLabelsHash.hash.Goals as goal

pub returns : goal.returns
returns g c =
    c.hash.ensures ∙ ap (fold g.H.Hasher.write c.args.state.now) (slice-map string_bytes fed.str c.as_slice.result.now ∙ ap (fed.slice fed.str) c.as_slice.ensures)
