-- Reading a commit from the backend of a replayed log.
use Rattle.std.proofs.Common.{◌≡◌, ◌∙◌, ℕ, List, Some, sym, ap, subst}
use Rattle.std.specs.Prelude.{Contains}
use Rattle.std.proofs.lemmas.List.Elements.{All-contains}
use Rattle.jj_content.specs.Blake2b.{blake2b}
use Rattle.jj_backend.specs.Contents.{IsCommit, commit_content}
use Rattle.jj_backend.specs.Objects.{Object, commit_object}
use Rattle.jj_backend.specs.Records.{CommitValue}
use Rattle.jj_trees.specs.MemoryObjects.{MemoryBackendValue, objects_of}
use Rattle.jj_mirror.specs.Entries.{LogEntryValue, entry_of}
use Rattle.jj_mirror.specs.Objects.{Stores}
use Rattle.jj_mirror.specs.Replays.{IsStored, IsReplay}
use Rattle.jj_mirror.proofs.ReplayedAgain.{same_object}

pub read_back : (entries : List LogEntryValue) (backend : MemoryBackendValue) (id : List ℕ) (read : CommitValue) → IsReplay entries backend → (objects_of backend).commits id ≡ Some read
    → (commit : CommitValue) → IsCommit commit → Contains entries (entry_of (commit_object commit)) → id ≡ blake2b (commit_content commit) → read ≡ commit
read_back entries backend id read replay found commit valid has is =
    let s = All-contains (IsStored (objects_of backend)) entries (entry_of (commit_object commit)) replay.stored has in
    let same = same_object (commit_object commit) s.0 valid s.1 (ap (λ (e : LogEntryValue). e.kind) s.3) (ap (λ (e : LogEntryValue). e.bytes) s.3) in
    let there = subst (λ (o : Object). Stores (objects_of backend) (blake2b (commit_content commit)) o) (sym same) s.4 in
    let e = sym found ∙ ap (objects_of backend).commits is ∙ there in cc
