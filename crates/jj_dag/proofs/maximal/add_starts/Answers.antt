use Rattle.std.proofs.Common.{rules, ◌≡◌, ◌++◌, ◌∷◌, [], refl, sym, ◌∙◌, ap, Ok}
use Rattle.std.specs.Set.{is_member}
use Rattle.std.proofs.lemmas.List.Elements.{Contains-append_left, Contains-push}
use Rattle.jj_dag.proofs.FailingOrders.{begins_failed, drained_nodes, ok-push}
use Rattle.jj_dag.proofs.ClosureGraphs.{returns_id}
use Rattle.jj_dag.proofs.Heads.{none_contained, put_for, start_queued, started_again, started_new, started_none}
use Rattle.jj_dag.proofs.Walking.{numbers, numbers-push}
use Rattle.jj_dag.proofs.maximal.add_starts.Goals as goal

pub loop-item-init : goal.loop-item-init
loop-item-init g c =
    let ends = c.requires.start c.into_iter-item-iterator.result c.into_iter-item-iterator.ensures.into_iter_gives in
    let heads : g.H.NodeSet.keys c.args.heads.now ≡ [] = c.requires.no_heads in
    let visited : g.V.NodeSet.keys c.args.visited.now ≡ [] = c.requires.none_visited in
    let queue : c.args.queue.now.items ≡ [] = c.requires.none_queued in
    record {
      can = ends.0;
      finite = ends.1;
      sound = ([], refl, (λ b h. absurd (none_contained c.args.queue.now.items queue b h)), λ walk knows stands nodes. rw queue (started_none walk heads (λ x. rw heads) (λ i. rw visited)));
    }

pub loop-item-preserved-then-contains : goal.loop-item-preserved-then-contains
loop-item-preserved-then-contains g c =
    let before = c.loop-item.invariant.sound in
    let node = c.in-Ok.node in
    let is : c.in-Some.item ≡ Ok node = c.in-Ok.is in
    record {
      can = search rules;
      finite = search rules;
      sound = (
        before.0 ++ node ∷ [],
        ap (λ x. c.loop-item.yielded ++ x ∷ []) is ∙ ok-push c.loop-item.yielded before.0 node before.1,
        (λ b h. Contains-append_left before.0 (node ∷ []) b (before.2 b h)),
        λ walk knows stands nodes.
            let split = numbers-push walk before.0 node in
            rw split (started_again walk node
            (before.3 walk knows stands (λ a h. nodes a (rw split (Contains-append_left (numbers walk before.0) (walk.node node ∷ []) a h))))
            (nodes (walk.node node) (rw split (Contains-push (numbers walk before.0) (walk.node node)))) (sym c.if-contains.ensures)),
      );
    }

pub loop-item-preserved : goal.loop-item-preserved
loop-item-preserved g c =
    let before = c.loop-item.invariant.sound in
    let node = c.in-Ok.node in
    let is : c.in-Some.item ≡ Ok node = c.in-Ok.is in
    let did = c.in_ok-add_start.ensures in
    let more : c.add_start.new.queue.items ≡ c.loop-item.queue.items ++ node ∷ [] = did.queue in
    record {
      can = search rules;
      finite = search rules;
      sound = (
        before.0 ++ node ∷ [],
        ap (λ x. c.loop-item.yielded ++ x ∷ []) is ∙ ok-push c.loop-item.yielded before.0 node before.1,
        start_queued before.0 c.loop-item.queue.items c.add_start.new.queue.items node more before.2,
        λ walk knows stands nodes.
            let split = numbers-push walk before.0 node in
            let here = nodes (walk.node node) (rw split (Contains-push (numbers walk before.0) (walk.node node))) in
            rw (split, more, numbers-push walk c.loop-item.queue.items node) (started_new walk g.T.PartialEq.eq g.ID.PartialEq.eq
            (g.H.NodeSet.keys c.add_start.new.heads) (is_member g.T.PartialEq.eq (g.H.NodeSet.keys c.add_start.new.heads)) (is_member g.ID.PartialEq.eq (g.V.NodeSet.keys c.add_start.new.visited)) node c.in_ok-id.id stands knows.apart
            (before.3 walk knows stands (λ a h. nodes a (rw split (Contains-append_left (numbers walk before.0) (walk.node node ∷ []) a h))))
            here (knows.ids_match node c.in_ok-id.id here (returns_id g.F.Fn c.id_fn.ensures c.in_ok-id.was))
            (put_for walk stands (g.H.NodeSet.keys c.loop-item.heads) (g.H.NodeSet.keys c.add_start.new.heads) node here did.keys) did.heads did.visited),
      );
    }

pub returns-in-Err-clause-failed : goal.returns-in-Err-clause-failed
returns-in-Err-clause-failed g c =
    let sound = c.loop-item.invariant.sound in
    (sound.0, begins_failed g.II.IntoIterator.into_iter_gives g.II.IntoIter.Iterator.next_gives c.args.start sound.0 c.in-Err.error c.into_iter-item-iterator.ensures.into_iter_gives c.loop-item.yielded_by c.in-Some.ensures.steps sound.1 c.in-Err.is)

pub returns-clause-starts : goal.returns-clause-starts
returns-clause-starts g c =
    let sound = c.loop-item.invariant.sound in
    record {
      nodes = sound.0;
      drained = drained_nodes g.II.IntoIterator.into_iter_gives g.II.IntoIter.Iterator.next_gives c.args.start sound.0 c.into_iter-item-iterator.ensures.into_iter_gives c.loop-item.yielded_by c.in-None.ensures.steps sound.1;
      queued = sound.2;
      started = sound.3;
    }

pub next-requires : goal.next-requires
next-requires g c = search rules

pub drop-item-iterator-requires : goal.drop-item-iterator-requires
drop-item-iterator-requires g c κs within = search rules

pub loop-item-smaller-then-contains : goal.loop-item-smaller-then-contains
loop-item-smaller-then-contains g c = search rules

pub id_fn-requires : goal.id_fn-requires
id_fn-requires g c = search rules

pub add_start-requires : goal.add_start-requires
add_start-requires g c = record { clones = c.requires.clones }

pub loop-item-smaller : goal.loop-item-smaller
loop-item-smaller g c = search rules

pub drop-item-iterator-requires-2 : goal.drop-item-iterator-requires-2
drop-item-iterator-requires-2 g c κs within = search rules
