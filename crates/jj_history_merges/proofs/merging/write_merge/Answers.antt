use Rattle.std.proofs.Common.{◌∙◌, ap}
use Rattle.jj_backend.specs.Objects.{Objects}
use Rattle.jj_backend.specs.Records.{CommitValue}
use Rattle.jj_history_merges.proofs.WrittenCommits.{adds_commit, put_found}
use Rattle.jj_history_merges.proofs.merging.write_merge.Goals as goal

pub returns-clause-commit : goal.returns-clause-commit
returns-clause-commit g c =
    let stored = c.in_ok-id.field-0-1 in
    let id = c.in_ok-id.id in
    let old = g.B.Backend.objects c.args.store.now in
    let signed = c.in_ok-id.ensures.signed in (
      stored,
      ap (λ (o : Objects). o.commits id) c.in_ok-id.ensures.ok.1 ∙ put_found old.commits id stored,
      ap (λ (it : CommitValue). it.parents) signed ∙ c.in_ok-commit.ensures.parents,
      ap (λ (it : CommitValue). it.root_tree) signed ∙ c.in_ok-commit.ensures.tree,
    )

pub returns-clause-objects : goal.returns-clause-objects
returns-clause-objects g c =
    adds_commit (g.B.Backend.objects c.args.store.now) (g.B.Backend.objects c.write_commit.new.self) c.in_ok-id.id c.in_ok-id.field-0-1 c.in_ok-id.ensures.ok.1
