-- The entries of a log that were written, and those that a disk that is not clean leaves unknown.
use Rattle.std.proofs.Common.{◌≡◌, ◌++◌, ◌⊎◌, inl, inr, ℕ, zero, suc, List, [], ◌∷◌, refl, sym, subst, arith}
use Rattle.std.specs.Prelude.{Contains}
use Rattle.std.proofs.lemmas.List.Elements.{Contains-push}
use Rattle.sqlite.specs.Store.{Ghosts}
use Rattle.sqlite.specs.Held.{Held, state}
use Rattle.sqlite.specs.State.{HasCleanDisk}
use Rattle.jj_mirror.specs.Entries.{LogEntryValue}
use Rattle.jj_mirror.specs.Logs.{WithEntry}
use Rattle.jj_sqlite.specs.Inserts.{StoresEntries}
use Rattle.jj_sqlite_tests.specs.SavedFiles.{HasWith}

pub either_with : (P : List LogEntryValue → Type 0) (entries : List LogEntryValue) (entry : LogEntryValue) → WithEntry P entries entry → HasWith P entries entry
either_with P entries entry (inl has) = inl has
either_with P entries entry (inr lacks) = inr lacks.1

pub HasWith-map : (P Q : List LogEntryValue → Type 0) → ((all : List LogEntryValue) → P all → Q all) → (entries : List LogEntryValue) (entry : LogEntryValue) → HasWith P entries entry → HasWith Q entries entry
HasWith-map P Q more entries entry (inl has) = inl (has.0, more entries has.1)
HasWith-map P Q more entries entry (inr pushed) = inr (more (entries ++ entry ∷ []) pushed)

-- a claim that follows from each list with the entry
pub from_with : (P : List LogEntryValue → Type 0) (Q : Type 0) (entries : List LogEntryValue) (entry : LogEntryValue) → ((all : List LogEntryValue) → P all → Contains all entry → Q) → HasWith P entries entry → Q
from_with P Q entries entry holds (inl has) = holds entries has.1 has.0
from_with P Q entries entry holds (inr pushed) = holds (entries ++ entry ∷ []) pushed (Contains-push entries entry)

zero_or_not : (n : ℕ) → (n ≡ 0) ⊎ ¬ (n ≡ 0)
zero_or_not zero = inl refl
zero_or_not (suc n) = inr (λ is. let e : suc n ≡ 0 = is in omega (arith, e))

-- the disk is clean, or the table may have any entries
pub clean_or_any : {S : Type 0} (g : Ghosts S) (conn : Held S) → HasCleanDisk (state g conn) ⊎ ((entries : List LogEntryValue) → StoresEntries g conn entries)
clean_or_any g conn = elim clean_or_not [
  | inl clean ↦ inl clean
  | inr unclean ↦ inr (λ entries. record { now = λ clean. absurd (unclean clean); crash = λ clean. absurd (unclean clean) })
]
  where
    clean_or_not : HasCleanDisk (state g conn) ⊎ ¬ (HasCleanDisk (state g conn))
    clean_or_not = zero_or_not _
