-- Replaying one entry more than before.
use Rattle.std.proofs.Common.{◌≡◌, ◌∙◌, ℕ, ◌+◌, ◌<◌, List, [], ◌∷◌, ◌++◌, length, take, slice_get, Some, refl, sym, ap, subst, arith}
use Rattle.std.proofs.Math.ListN.{get_or-append}
use Rattle.std.proofs.Math.Seq.{take-append_seam}
use Rattle.std.proofs.lemmas.List.{length-append, take-append-le}
use Rattle.std.proofs.lemmas.Option.{get_or_from_slice_get, slice_get-get_or, slice_get_within}
use Rattle.jj_decode.specs.declared.error.DecodeError.{DecodeError}
use Rattle.jj_trees.specs.MemoryObjects.{MemoryBackendValue}
use Rattle.jj_mirror.specs.Entries.{LogEntryValue}
use Rattle.jj_mirror.specs.Replays.{IsEntryError, IsReplay, IsReplayCause, IsReplayError, KindErrors}
use Rattle.jj_mirror.specs.Writes.{HasCause}
use Rattle.jj_mirror.specs.declared.error.ReplayError.{ReplayError}
use Rattle.jj_mirror.specs.declared.error.ReplayError.TheVariants.{Memory, Malformed, WrongObject, Backend}
use Rattle.jj_mirror.proofs.ReplayedEntries.{replay_error}

-- ---- an element of a list that is extended

pub get-append : {X : Type 0} (xs ys : List X) (i : ℕ) (x : X) → slice_get xs i ≡ Some x → slice_get (xs ++ ys) i ≡ Some x
get-append xs ys i x at =
    let within : i < length xs = slice_get_within xs i x at in
    slice_get-get_or (xs ++ ys) i x (omega (arith, within, length-append xs ys)) ∙ ap Some (get_or-append xs ys x i within ∙ get_or_from_slice_get xs i x x at)

pub take-append : {X : Type 0} (xs ys : List X) (i : ℕ) (x : X) → slice_get xs i ≡ Some x → take i (xs ++ ys) ≡ take i xs
take-append xs ys i x at =
    let within : i < length xs = slice_get_within xs i x at in
    take-append-le i xs ys (omega (arith, within))

pub get-last : {X : Type 0} (xs : List X) (x : X) → slice_get (xs ++ x ∷ []) (length xs) ≡ Some x
get-last [] x = refl
get-last (y ∷ xs) x = get-last xs x

-- ---- the first error stays the first

module _ (copy tree commit : List ℕ → ℕ → DecodeError → Type 0) (entries : List LogEntryValue) (next : LogEntryValue) where
  abbrev longer : List LogEntryValue
  longer = entries ++ next ∷ []

  at_still : (index : ℕ) (entry : LogEntryValue) → slice_get entries index ≡ Some entry → slice_get longer index ≡ Some entry
  at_still index entry at = get-append entries (next ∷ []) index entry at

  replay_still : (index : ℕ) (entry : LogEntryValue) (backend : MemoryBackendValue) → slice_get entries index ≡ Some entry → IsReplay (take index entries) backend → IsReplay (take index longer) backend
  replay_still index entry backend at replay = subst (λ (l : List LogEntryValue). IsReplay l backend) (sym (take-append entries (next ∷ []) index entry at)) replay

  still_fails : (e : ReplayError) → IsReplayError entries e → IsReplayError longer e
  still_fails Memory fails = tt
  still_fails (Malformed kind id reason offset) fails = (fails.0, fails.1, fails.2, at_still fails.0 fails.1 fails.3, replay_still fails.0 fails.1 fails.2 fails.3 fails.4, fails.5)
  still_fails (WrongObject kind id) fails = (fails.0, fails.1, fails.2, at_still fails.0 fails.1 fails.3, replay_still fails.0 fails.1 fails.2 fails.3 fails.4, fails.5)
  still_fails (Backend cause) fails = (fails.0, fails.1, fails.2, at_still fails.0 fails.1 fails.3, replay_still fails.0 fails.1 fails.2 fails.3 fails.4, fails.5)

  still_caused : (e : ReplayError) → IsReplayCause copy tree commit entries e → IsReplayCause copy tree commit longer e
  still_caused Memory why = tt
  still_caused (Malformed kind id reason offset) why = (why.0, why.1, why.2, at_still why.0 why.1 why.3, replay_still why.0 why.1 why.2 why.3 why.4, why.5, why.6)
  still_caused (WrongObject kind id) why = tt
  still_caused (Backend cause) why = tt

  pub still_failed : (e : ReplayError) → IsReplayError entries e × IsReplayCause copy tree commit entries e → IsReplayError longer e × IsReplayCause copy tree commit longer e
  still_failed e failed = (still_fails e failed.0, still_caused e failed.1)

  -- the last entry is the first that fails
  module _ (backend : MemoryBackendValue) (replay : IsReplay entries backend) where
    before : IsReplay (take (length entries) longer) backend
    before = subst (λ (l : List LogEntryValue). IsReplay l backend) (sym (take-append_seam entries (next ∷ []))) replay

    caused : (e : ReplayError) → IsEntryError backend next e → HasCause (KindErrors copy tree commit next.kind next.bytes) e → IsReplayCause copy tree commit longer e
    caused Memory error cause = tt
    caused (Malformed kind id reason offset) error cause = (length entries, next, backend, get-last entries next, before, error.0, cause)
    caused (WrongObject kind id) error cause = tt
    caused (Backend other) error cause = tt

    pub fails_now : (e : ReplayError) → IsEntryError backend next e → HasCause (KindErrors copy tree commit next.kind next.bytes) e
        → IsReplayError longer e × IsReplayCause copy tree commit longer e
    fails_now e error cause = (replay_error longer (length entries) next backend e (get-last entries next) before error, caused e error cause)
