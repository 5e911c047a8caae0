use Rattle.jj_diff.proofs.diff.anchors.find_anchor.Goals as goal

pub returns-clause-none : goal.returns-clause-none
returns-clause-none g c = λ e few. c.in_ok-found.ensures.none e
