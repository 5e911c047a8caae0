use Rattle.std.proofs.Common.{[], refl}
use Rattle.jj_dag.proofs.Walking.{walking_starts}
use Rattle.jj_walks.proofs.depth_first.dfs.Goals as goal

pub returns : goal.returns
returns g c = record {
  can_walk = c.requires.graph;
  walk = record {
    starts = c.in_ok-work.work.items;
    yielded = c.in_ok-work.ensures;
    holds = λ walk implemented nodes. record {
      implemented = implemented;
      walking = walking_starts walk c.in_ok-work.work.items c.in_ok-work.work.items [] nodes refl refl (λ i. rw c.new.ensures.empty refl);
    };
  };
}
