use Rattle.std.proofs.Common.{ap, map}
use Rattle.std.proofs.lemmas.List.{nil_from_length}
use Rattle.jj_paths.specs.Names.{name_of}
use Rattle.jj_matchers.proofs.EmptyVisits.{none_accepted}
use Rattle.jj_matchers.proofs.matchers.sorted_visits.SortedVisit.sets.Goals as goal

pub returns-then-is_empty-2-clause-sound : goal.returns-then-is_empty-2-clause-sound
returns-then-is_empty-2-clause-sound c =
    let dirs = c.args.dirs.keys in
    let files = c.args.files.keys in
    none_accepted (map name_of dirs) (map name_of files) (ap (map name_of) (nil_from_length dirs (c.is_empty.ensures.0 c.if-is_empty.true)))
    (ap (map name_of) (nil_from_length files (c.is_empty-then-is_empty.ensures.0 c.if-is_empty-2.true)))
