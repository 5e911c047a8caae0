use Rattle.jj_conflicts.proofs.HunkLaws.{parsed_rendered}
use Rattle.jj_conflicts.proofs.laws.rendered_hunks_are_parsed.Goals as goal

pub returns : goal.returns
returns c = parsed_rendered
