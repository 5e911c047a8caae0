use Rattle.jj_fast_import.proofs.Appended.{appended_six}
use Rattle.jj_fast_import.proofs.printing.push_commit.Goals as goal

pub returns : goal.returns
returns c =
    appended_six _ _ _ _ _ _ _ _ _ _ _ _ _ c.in_ok-push_commit_head.ensures (rw c.deref.ensures.value at c.in_ok-push_data.ensures) c.in_ok-push_from.ensures
    (rw c.deref-2.ensures.value at c.in_ok-push_merges.ensures) (rw c.deref-3.ensures.value at c.in_ok-push_changes.ensures) c.in_ok-push.ensures.items
