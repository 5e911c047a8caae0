use Rattle.std.proofs.Common.{◌∙◌}
use Rattle.jj_matchers.proofs.SortedNames.{named-at}
use Rattle.jj_matchers.proofs.matchers.sorted_visits.SortedNames.contains.Goals as goal

pub returns-in-Set : goal.returns-in-Set
returns-in-Set c = rw c.in-Set.is (c.contains.ensures ∙ named-at c.args.name c.in-Set.names.keys)
