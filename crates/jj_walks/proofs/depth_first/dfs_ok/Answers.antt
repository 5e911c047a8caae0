use Rattle.std.proofs.Common.{refl, []}
use Rattle.jj_walks.specs.Expansions.ExpansionsLead.{none}
use Rattle.jj_walks.proofs.Expanding.{expansions_start}
use Rattle.jj_walks.proofs.depth_first.dfs_ok.Goals as goal

pub returns : goal.returns
returns g c = record {
  can_walk = c.requires.graph;
  walk = record {
    starts = c.in_ok-work.work.items;
    yielded = c.in_ok-work.ensures;
    whole = record {
      same_ids = refl;
      expansions = [];
      in_turn = none;
      expanded = refl;
      walks = λ m implemented nodes. expansions_start m c.in_ok-work.work.items nodes (λ i. rw c.new.ensures.empty refl);
    };
  };
}
