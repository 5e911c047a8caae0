use Rattle.std.proofs.Common.{◌≡◌, ℕ, List, subst}
use Rattle.std.specs.BTreeMap.{values}
use Rattle.jj_dag.specs.NodeGraph.{IsChildFirstOrder}
use Rattle.jj_store_walks.specs.Histories.{InEachHistory}
use Rattle.jj_history_commands.proofs.revisions.ancestor_ids.Goals as goal

pub returns : goal.returns
returns g c =
    let same : c.deref.result.now ≡ values c.args.refs.now = cc (c.deref.ensures.value, c.in_ok-starts.ensures) in
    subst (λ (starts : List (List ℕ)). InEachHistory (g.B.Backend.objects c.args.store.now) (λ parents. IsChildFirstOrder parents starts c.in_ok-ids.ids.items)) same c.in_ok-ids.ensures.order
