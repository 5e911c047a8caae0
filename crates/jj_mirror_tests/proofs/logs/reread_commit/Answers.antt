use Rattle.std.proofs.Common.{List, sym, subst}
use Rattle.std.specs.Prelude.{Contains}
use Rattle.jj_backend.specs.Objects.{commit_object}
use Rattle.jj_mirror.specs.Entries.{LogEntryValue, entry_of}
use Rattle.jj_mirror_tests.proofs.LoggedFiles.{with_contains}
use Rattle.jj_mirror_tests.proofs.logs.reread_commit.Goals as goal

pub returns : goal.returns
returns c = λ replay.
    let entry = entry_of (commit_object c.args.commit) in
    c.in_ok-read.ensures c.args.commit c.in_ok-id.ensures.value
    (subst (λ (l : List LogEntryValue). Contains l entry) (sym c.log.ensures) (with_contains _ c.args.store.now.log entry (c.in_ok-id.ensures.logged replay)))
    c.in_ok-id.ensures.id
