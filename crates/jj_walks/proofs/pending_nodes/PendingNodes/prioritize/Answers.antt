use Rattle.std.proofs.Common.{◌≡◌, true, ◌∙◌}
use Rattle.jj_walks.proofs.Branches.{branch-prioritized}
use Rattle.jj_walks.proofs.KeptHistories.{keeps-prioritized}
use Rattle.jj_walks.proofs.pending_nodes.PendingNodes.prioritize.Goals as goal

pub returns-clause-prioritized : goal.returns-clause-prioritized
returns-clause-prioritized g c = λ h k.
    let old = c.args.self.now.candidates in
    let copy = c.in_ok-clone.field-0 in
    let same : g.ID.PartialEq.eq c.args.id copy ≡ true = c.requires.clones c.args.id copy c.in_ok-clone.ensures.cases in
    let e : c.push_head.new.self.ids ≡ old.ids = c.push_head.ensures.ids in
    record {
      history = rw e (keeps-prioritized g.met.ID.Eq.laws h _ _ _ _ _ _ c.args.id copy same c.in_default.ensures.known c.in_default.ensures.counts c.in_ok-push_head.ensures.heads k.history);
      branch = branch-prioritized g.met.ID.Eq.laws h old c.push_head.new.self c.args.id copy (g.met.ID.Eq.laws.symm copy c.args.id ∙ same) e c.push_head.ensures.blocked c.push_head.ensures.children
          c.in_ok-push_head.ensures.heads k.branch;
    }
