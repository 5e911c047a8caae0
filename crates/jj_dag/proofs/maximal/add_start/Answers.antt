use Rattle.std.proofs.Common.{rules, ◌≡◌, true}
use Rattle.jj_dag.proofs.Clones.{Updates-clone}
use Rattle.jj_dag.proofs.Heads.{put_equal}
use Rattle.jj_dag.proofs.maximal.add_start.Goals as goal

pub returns-clause-heads : goal.returns-clause-heads
returns-clause-heads g c =
    let same : g.T.PartialEq.eq c.args.node c.in_ok-clone.field-0 ≡ true = c.requires.clones c.args.node c.in_ok-clone.field-0 c.in_ok-clone.ensures.cases in
    Updates-clone g.met.T.Eq.laws (g.H.NodeSet.keys c.args.heads.now) (g.H.NodeSet.keys c.insert-2.new.self) c.args.node c.in_ok-clone.field-0 same c.in_ok-insert-2.ensures.updates

pub returns-clause-keys : goal.returns-clause-keys
returns-clause-keys g c =
    let same : g.T.PartialEq.eq c.args.node c.in_ok-clone.field-0 ≡ true = c.requires.clones c.args.node c.in_ok-clone.field-0 c.in_ok-clone.ensures.cases in
    put_equal g.T.PartialEq.eq (g.H.NodeSet.keys c.args.heads.now) (g.H.NodeSet.keys c.insert-2.new.self) c.args.node c.in_ok-clone.field-0 c.in_ok-insert-2.field-0 same c.in_ok-insert-2.ensures.keys

pub returns-clause-visited : goal.returns-clause-visited
returns-clause-visited g c = search rules

pub returns-clause-queue : goal.returns-clause-queue
returns-clause-queue g c = search rules
