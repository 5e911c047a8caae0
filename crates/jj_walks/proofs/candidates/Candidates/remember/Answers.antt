use Rattle.std.proofs.Common.{◌≡◌, true, false, true≢false, sym, ◌∙◌}
use Rattle.jj_walks.specs.Grouped.{is_in_graph}
use Rattle.jj_walks.specs.ListsByKey.{items_at}
use Rattle.jj_walks.proofs.CandidateLists.{is_shown-missing, is_shown-other}
use Rattle.jj_walks.proofs.Children.{child-put, child-missing}
use Rattle.jj_walks.proofs.candidates.Candidates.remember.Goals as goal
use Rattle.jj_walks.proofs.candidates.Candidates.remember.Goals.{then-not-is_missing+in_ok-clone+in_ok-clone-2+in_ok-push_at, else-not-is_missing}

pub loop-edge-preserved : goal.loop-edge-preserved
loop-edge-preserved g c =
    let eq = g.ID.PartialEq.eq in
    let edge = c.edge-item.result in
    let before = c.loop-edge.invariant in
    elim c.if-not-is_missing.branch [
      | then-not-is_missing+in_ok-clone+in_ok-clone-2+in_ok-push_at w ↦
          let shown : is_in_graph edge.edge_type ≡ true = is_shown-other edge.edge_type (λ e. absurd (true≢false (sym (c.is_missing.ensures.1 e) ∙ w.if-not-is_missing.true))) in
          rw (w.self-is) (record {
            ids = before.ids;
            heads = before.heads;
            blocked = before.blocked;
            children = child-put g.met.ID.Eq.laws c.args.edges.now c.loop-edge.edge-index edge w.in_ok-clone.field-0 c.args.id.now w.in_ok-clone-2.field-0
                (items_at eq c.args.self.now.children) (items_at eq c.loop-edge.self.children) (items_at eq w.push_at.new.lists) c.loop-edge-test.true c.edge-item.is shown
                (c.requires.clones edge.target w.in_ok-clone.field-0 w.in_ok-clone.ensures.cases)
                (c.requires.clones c.args.id.now w.in_ok-clone-2.field-0 w.in_ok-clone-2.ensures.cases)
                w.in_ok-push_at.ensures before.children;
          })
      | else-not-is_missing w ↦
          let missing : is_in_graph edge.edge_type ≡ false = is_shown-missing edge.edge_type (c.is_missing.ensures.0 w.if-not-is_missing.false) in
          rw (w.self-is) (record {
            ids = before.ids;
            heads = before.heads;
            blocked = before.blocked;
            children = child-missing g.met.ID.Eq.laws c.args.edges.now c.loop-edge.edge-index edge c.args.id.now (items_at eq c.args.self.now.children) (items_at eq c.loop-edge.self.children)
                c.loop-edge-test.true c.edge-item.is missing before.children;
          })
    ]
