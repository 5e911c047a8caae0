-- Imports of commands, one after the other.
use Rattle.std.proofs.Common.{◌≡◌, ◌∙◌, ◌≤◌, ◌+◌, ◌⊎◌, inl, inr, ℕ, Bool, true, false, List, [], ◌∷◌, ◌++◌, refl, subst, sym, arith}
use Rattle.std.specs.Prelude.{Option, Result, Ok, Err, IsErr}
use Rattle.jj_backend.specs.Objects.{Objects}
use Rattle.jj_fast_import.specs.Values.{CommandValue}
use Rattle.jj_fast_import.specs.Streams.{AreReadFrom, HasNoCommand, is_end}
use Rattle.jj_fast_import.proofs.Reading.{ends_in_last}
use Rattle.jj_import.specs.ImportStates.{ImportState}
use Rattle.jj_import.specs.ImportedCommands.{AreCommandsImported, AreCommandsRead, HasEnded, IsCommandImported, IsDoneRead, IsWithinLimit, commits_in, count_of}

module _ (objects : Objects) (root : List ℕ) where
  -- one more command after the others
  pub imported_more : (commands : List CommandValue) (command : CommandValue) (old between new : ImportState) → AreCommandsImported objects root commands old between
      → IsCommandImported objects root command between new → AreCommandsImported objects root (commands ++ command ∷ []) old new
  imported_more [] command old between new h k = (new, subst (λ (s : ImportState). IsCommandImported objects root command s new) h k, refl)
  imported_more (first ∷ commands) command old between new h k = (h.0, h.1, imported_more commands command h.0 between new h.2 k)

  -- nothing after the others
  pub imported_same : (commands : List CommandValue) (old between new : ImportState) → new ≡ between → AreCommandsImported objects root commands old between
      → AreCommandsImported objects root commands old new
  imported_same commands old between new e h = subst (AreCommandsImported objects root commands old) (sym e) h

pub within_failed : {E : Type 0} (limit commits : ℕ) (r : Result Bool E) → IsErr r → commits ≤ limit → IsWithinLimit limit commits r
within_failed limit commits (Ok ended) failed h = let both : false ≡ true = failed in absurd cc
within_failed limit commits (Err error) failed h = h

pub read_failed : {E : Type 0} (was_done is_done : Bool) (before between after : Option (List ℕ)) (commands : List CommandValue) (r : Result Bool E) → IsErr r → AreReadFrom before between commands
    → AreCommandsRead was_done is_done before after r commands
read_failed was_done is_done before between after commands (Ok ended) failed h = let both : false ≡ true = failed in absurd cc
read_failed was_done is_done before between after commands (Err error) failed h = (between, h)

-- whether `done` was read
pub done_more : (was_done is_done : Bool) (commands : List CommandValue) (command : CommandValue) → is_done ≡ is_end command → is_done ≡ true
    → IsDoneRead was_done (commands ++ command ∷ [])
done_more was_done is_done commands command e h = inl (ends_in_last commands command ∙ sym e ∙ h)

pub has_ended : (was_done is_done : Bool) (commands : List CommandValue) (after : Option (List ℕ)) → (is_done ≡ true → IsDoneRead was_done commands)
    → (is_done ≡ true) ⊎ HasNoCommand after → HasEnded was_done commands after
has_ended was_done is_done commands after last (inl e) = inl (last e)
has_ended was_done is_done commands after last (inr none) = inr none

pub commits_in-more : (commands : List CommandValue) (command : CommandValue) → commits_in (commands ++ command ∷ []) ≡ commits_in commands + count_of command
commits_in-more [] command = omega arith
commits_in-more (first ∷ commands) command = omega (arith, commits_in-more commands command)
