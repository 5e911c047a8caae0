use Rattle.std.proofs.Common.{rules, ◌≡◌, ◌≢◌, ℕ, List, inl, inr, refl, subst, sym}
use Rattle.std.specs.BTreeMap.{btree_map_len, values}
use Rattle.jj_dag.specs.NodeGraph.{IsChildFirstOrder}
use Rattle.jj_store_walks.specs.Histories.{InEachHistory}
use Rattle.jj_history_commands.proofs.revisions.named_commit.Goals as goal

pub returns-then-is_empty : goal.returns-then-is_empty
returns-then-is_empty g c =
    let none : btree_map_len c.args.git_ids.now ≡ 0 = search rules in
    let ordered = subst (λ (ids : List (List ℕ)). InEachHistory (g.B.Backend.objects c.args.store.now) (λ parents. IsChildFirstOrder parents (values c.args.refs.now) ids))
    (sym c.deref.ensures.value) c.in_ok-ids.ensures in
    (c.deref.result.now, inl (none, ordered), c.resolve.ensures.commit, c.resolve.ensures.error)

pub returns : goal.returns
returns g c =
    let some : btree_map_len c.args.git_ids.now ≢ 0 = search rules in
    (values c.args.git_ids.now, inr (some, refl), c.resolve_known.ensures.commit, c.resolve_known.ensures.error)
