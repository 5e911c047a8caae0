use Rattle.std.proofs.Common.{◌≡◌, true, is_some, refl, sym, ◌∙◌, ap}
use Rattle.std.specs.HashMap.{get}
use Rattle.jj_walks.specs.Grouped.{Entry, pending_at}
use Rattle.jj_walks.specs.GroupedSteps.{IsEntryOf}
use Rattle.jj_walks.specs.PendingNodes.{item_of, listed_item}
use Rattle.jj_walks.proofs.KeptHistories.{is_some-mapped}
use Rattle.jj_dag.proofs.Walking.{returned}
use Rattle.jj_walks.proofs.grouped.TopoGroupedGraph.read_next.Goals as goal

pub returns-then-contains-clause-error : goal.returns-then-contains-clause-error
returns-then-contains-clause-error g c = λ h k.
    let item = c.in-Some-Ok.item in
    let e : Entry g.row.N.Denot g.row.ID.Denot = record { id = c.in_ok-id.id; node = item.0; edges = item.1.items } in
    let entry : IsEntryOf g.F.Fn g.ID.PartialEq.eq c.args.self.now.as_id item e =
    record { same = refl; id = (c.as_id.result, returned g.F.Fn c.as_id.ensures, c.requires.clones c.as_id.result.now c.in_ok-id.id c.in_ok-id.ensures.cases) } in
    let has : is_some (get g.ID.PartialEq.eq c.args.self.now.pending.nodes c.in_ok-id.id) ≡ true = sym c.contains.ensures ∙ c.if-contains.true in
    let pending_nodes : is_some (pending_at g.ID.PartialEq.eq h c.in_ok-id.id) ≡ true =
    sym (is_some-mapped item_of (pending_at g.ID.PartialEq.eq h c.in_ok-id.id)) ∙ ap is_some (sym (k.history.nodes c.in_ok-id.id)) ∙ is_some-mapped listed_item (get g.ID.PartialEq.eq c.args.self.now.pending.nodes c.in_ok-id.id) ∙ has in
    let step = rw c.in-Some-Ok.field-0-is at c.in-Some-Ok.ensures.steps in
    (item, e, step, entry, pending_nodes)

pub returns-clause-read : goal.returns-clause-read
returns-clause-read g c = λ yes.
    let item = c.in-Some-Ok.item in
    let e : Entry g.row.N.Denot g.row.ID.Denot = record { id = c.in_ok-id.id; node = item.0; edges = item.1.items } in
    let entry : IsEntryOf g.F.Fn g.ID.PartialEq.eq c.args.self.now.as_id item e =
    record { same = refl; id = (c.as_id.result, returned g.F.Fn c.as_id.ensures, c.requires.clones c.as_id.result.now c.in_ok-id.id c.in_ok-id.ensures.cases) } in
    let step = rw c.in-Some-Ok.field-0-is at c.in-Some-Ok.ensures.steps in
    (item, e, step, entry, c.in_ok-insert.ensures.pending)
