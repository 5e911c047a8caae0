-- Writing a commit: its id is taken, and the signer after the call.
-- Cited by contracts of public items: IsCommitIdTaken, signer_after.
use Rattle.std.specs.Prelude.{◌⊎◌, Option, Some, None}
use Rattle.std.proofs.Common.{inl, inr}
use Rattle.jj_backend.specs.Contents.{commit_content}
use Rattle.jj_backend.specs.Records.{CommitValue}
use Rattle.jj_trees.specs.MemoryObjects.{MemoryBackendValue, object_id, IsTakenByOther}

-- the id of the stored form of a commit is that of a different commit
abbrev pub IsCommitIdTaken : MemoryBackendValue → (CommitValue → Type 0) → Type 0
IsCommitIdTaken backend IsStored =
    (stored : CommitValue) × IsStored stored
    × IsTakenByOther backend.commits (object_id backend.id_length (commit_content stored)) stored

-- the signer after the call that borrowed it, if there was one; the value of the borrowed option at
-- the return is a sum with one case for each variant
abbrev pub signer_after : {S A B C : Type 0} → (B → S) → A ⊎ (B ⊎ C) → Option S
signer_after signer_of (inl none) = None
signer_after signer_of (inr (inl some)) = Some (signer_of some)
signer_after signer_of (inr (inr other)) = None
