use Rattle.jj_conflicts.proofs.UnmarkedLaws.{parsable, chosen_positive}
use Rattle.jj_conflicts.proofs.laws.chosen_marker_len_is_parsable.Goals as goal

pub returns-clause-len : goal.returns-clause-len
returns-clause-len c = parsable

pub returns-clause-positive : goal.returns-clause-positive
returns-clause-positive c = chosen_positive
