use Rattle.std.proofs.Common.{[], Some}
use Rattle.jj_tree_builder.proofs.EntryMaps.{files_at-empty}
use Rattle.jj_tree_builder.proofs.tree_builder.root_of.Goals as goal

pub returns-in-None : goal.returns-in-None
returns-in-None g c = rw c.in-None.is (λ trees grown place. files_at-empty trees c.in_ok-id-in-None.id (grown c.in_ok-id-in-None.id [] c.in_ok-id-in-None.ensures) place)
