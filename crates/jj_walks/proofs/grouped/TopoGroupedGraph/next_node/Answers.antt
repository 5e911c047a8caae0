use Rattle.std.proofs.Common.{arith, ◌≡◌, ◌∷◌, ◌++◌, [], refl, ◌∙◌, subst}
use Rattle.jj_walks.specs.Grouped.{History}
use Rattle.std.specs.HashMap.{hash_map_len}
use Rattle.jj_walks.specs.GroupedSteps.{IsEntryOf, read_on}
use Rattle.jj_walks.specs.PendingNodes.{Keeps}
use Rattle.jj_walks.proofs.GroupedRuns.{read_on-push, reads-push}
use Rattle.jj_walks.proofs.grouped.TopoGroupedGraph.next_node.Goals as goal
use Rattle.jj_walks.proofs.grouped.TopoGroupedGraph.next_node.Goals.{in-Unread, in-Nothing}

pub reading-init : goal.reading-init
reading-init g c = record { can_read = c.requires; as_id = refl; left = omega arith; reads = ([], [], record { yielded = refl; entries = tt }, λ h k. k) }

pub returns-in-Node-clause-next : goal.returns-in-Node-clause-next
returns-in-Node-clause-next g c = λ h k.
    let before = c.reading.invariant.reads in
    let taken = (rw c.in-Node.is at c.in_ok-node.ensures.taken) (read_on before.1 h) (before.3 h k) in
    (before.0, before.1, taken.0, before.2, taken.1, taken.2, c.reading.invariant.as_id)

pub reading-preserved : goal.reading-preserved
reading-preserved g c =
    let eq = g.ID.PartialEq.eq in
    let before = c.reading.invariant in
    let reads = before.reads in
    let yes = c.in-Ok-true.field-0-test in
    let more = c.in-Ok-true.ensures.read yes in
    let left = c.in-Ok-true.ensures.left yes in
    let still : (h : History g.row.N.Denot g.row.ID.Denot) → Keeps eq h c.reading.self.pending → Keeps eq h c.pop_ready.new.self = elim c.match-branch-2.branch [
      | in-Unread w ↦ λ h k. ((rw w.in-Unread.is at c.in_ok-node.ensures.taken) h k).0
      | in-Nothing w ↦ λ h k. ((rw w.in-Nothing.is at c.in_ok-node.ensures.taken) h k).0
    ] in
    let len : hash_map_len c.reading.self.pending.nodes ≡ hash_map_len c.pop_ready.new.self.nodes = elim c.match-branch-2.branch [
      | in-Unread w ↦ rw w.in-Unread.is at c.in_ok-node.ensures.len
      | in-Nothing w ↦ rw w.in-Nothing.is at c.in_ok-node.ensures.len
    ] in
    let fewer = left.0 in
    let one = left.1 in
    let most = before.left in
    let entry = subst (λ f. IsEntryOf g.F.Fn eq f more.0 more.1) before.as_id more.3 in
    record {
      can_read = c.in-Ok-true.ensures.can_read yes;
      as_id = c.in-Ok-true.ensures.as_id ∙ before.as_id;
      left = omega (arith, len, fewer, one, most);
      reads = (
        reads.0 ++ more.0 ∷ [],
        reads.1 ++ more.1 ∷ [],
        reads-push g.F.Fn eq g.S.Iterator.next_gives c.args.self.now.as_id c.args.self.now.input c.reading.self.input c.read_next.new.self.input reads.0 reads.1 more.0 more.1 reads.2 more.2 entry,
        λ h k. rw (read_on-push reads.1 more.1 h) (more.4 (read_on reads.1 h) (still (read_on reads.1 h) (reads.3 h k))),
      );
    }
