use Rattle.jj_matchers.proofs.EnteredMarks.{walks_as_marks}
use Rattle.jj_matchers.proofs.FoundMarks.{finds_marks, finds_in_order}
use Rattle.jj_matchers.proofs.laws.walks_find_accepted_marks.Goals as goal

pub returns-clause-files : goal.returns-clause-files
returns-clause-files c = finds_marks

pub returns-clause-ordered : goal.returns-clause-ordered
returns-clause-ordered c = finds_in_order

pub returns-clause-marks : goal.returns-clause-marks
returns-clause-marks c = walks_as_marks
