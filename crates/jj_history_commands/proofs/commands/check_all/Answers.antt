use Rattle.std.proofs.Common.{◌≡◌, ◌++◌, ℕ, List, subst}
use Rattle.std.specs.BTreeMap.{values}
use Rattle.jj_store_walks.specs.Histories.{IsHistoryOrder}
use Rattle.jj_store_walks.specs.declared.read_commit.ReadCommit.{ReadCommit as ReadCommitValue}
use Rattle.jj_history_commands.specs.FoundObjects.{AreWhole, HasTrees}
use Rattle.jj_history_commands.proofs.commands.check_all.Goals as goal

pub returns : goal.returns
returns g c =
    let same : c.deref.result.now ≡ values c.args.refs.now ++ values c.args.git_ids.now =
    cc (c.deref.ensures.value, c.in_ok-append.ensures.items, c.in_ok-starts.ensures, c.in_ok-others.ensures) in
    subst (λ (starts : List (List ℕ)). (commits : List ReadCommitValue) × (trees : List (List ℕ))
    × IsHistoryOrder (g.B.Backend.objects c.args.store.now) starts commits
    × HasTrees trees commits × AreWhole (g.B.Backend.objects c.args.store.now) trees)
    same c.in_ok-counts.ensures.whole
