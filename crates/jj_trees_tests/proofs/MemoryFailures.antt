-- Reads and writes of a backend in memory fail only out of memory or with its Other.
use Rattle.std.proofs.Common.{◌≡◌, ◌⊎◌, inl, inr, ap}
use Rattle.jj_files.specs.declared.file_util.errors.SourceKind.{SourceKind}
use Rattle.jj_backend.specs.Errors.{IsOtherOf, is_other}
use Rattle.jj_backend.specs.Objects.{Object, file_object, symlink_object, copy_object, tree_object, commit_object}
use Rattle.jj_backend.specs.declared.backend.errors.BackendError.{BackendError}
use Rattle.jj_backend.specs.declared.backend.errors.BackendError.TheVariants.{Memory}
use Rattle.jj_trees.specs.MemoryObjects.{MayFailToWrite, MemoryBackendValue}
use Rattle.jj_trees_tests.specs.Writes.{IsBackendFailure, IsWriteError}

from_store : (kind : SourceKind) (Taken : Type 0) (e : BackendError) → (e ≡ Memory) ⊎ (IsOtherOf kind e × Taken) → IsWriteError e
from_store kind Taken e (inl memory) = inl memory
from_store kind Taken e (inr other) = inr (ap is_other other.0.1)

from_write : (backend : MemoryBackendValue) (object : Object) (e : BackendError) → MayFailToWrite backend object e → IsWriteError e
from_write backend (file_object contents) e failed = from_store _ _ e failed
from_write backend (symlink_object target) e failed = from_store _ _ e failed
from_write backend (copy_object history) e failed = from_store _ _ e failed
from_write backend (tree_object entries) e failed = from_store _ _ e failed
from_write backend (commit_object commit) e (inl orphan) = inr (ap is_other orphan.0.1)
from_write backend (commit_object commit) e (inr failed) = from_store _ _ e failed

from_either : (backend : MemoryBackendValue) (e : BackendError) → (e ≡ Memory) ⊎ ((object : Object) × MayFailToWrite backend object e) → IsWriteError e
from_either backend e (inl memory) = inl memory
from_either backend e (inr written) = from_write backend written.0 e written.1

pub memory_failure : (e : BackendError) → (e ≡ Memory) ⊎ IsBackendFailure (λ _ error. error ≡ Memory) MayFailToWrite e → IsWriteError e
memory_failure e (inl memory) = inl memory
memory_failure e (inr failed) = from_either failed.0 e failed.1
