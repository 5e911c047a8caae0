use Rattle.jj_content_merges.proofs.Changes.{right_changed, left_changed}
use Rattle.jj_content_merges.proofs.laws.change_laws.Goals as goal

pub returns-clause-right : goal.returns-clause-right
returns-clause-right c = right_changed

pub returns-clause-left : goal.returns-clause-left
returns-clause-left c = left_changed
