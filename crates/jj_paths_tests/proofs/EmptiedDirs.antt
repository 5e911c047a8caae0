-- The steps of making a directory that is empty.
use Rattle.std.proofs.Common.{◌≡◌, ◌==◌, ℕ, arith, inl, inr, Bool, true, false, List, [], ◌∷◌, length, Result, Ok, Err, refl, sym, subst}
use Rattle.std.specs.Prelude.{IfOk, MatchBool, MatchResult}
use Rattle.std.specs.declared.io.Error.{Error}
use Rattle.std.proofs.lemmas.Bool.Decides.{nat_tests}
use Rattle.jj_files.specs.Directories.{CreatesOrReuses, EmptiesDir, IsEmptyDir, IsListError, RemovesEach}
use Rattle.jj_files.specs.declared.file_util.errors.PathError.{PathError}
use Rattle.jj_paths_tests.specs.EmptyDirs.{ChangesOnlyIn, none, create, remove, TellsEmpty}

abbrev test : Bool → Result Bool PathError
test empty = Ok empty

module _ {D : Type 0} (is_directory : D → List ℕ → Bool) (may_create may_remove : D → List ℕ → Result (Unit {0}) Error → D → Type 0)
    (may_list : D → List ℕ → Result (List (List ℕ)) PathError → Type 0) (path : List ℕ) where
  pub created : (old new : D) (result : Result (Unit {0}) PathError) → CreatesOrReuses is_directory may_create path old result new → ChangesOnlyIn may_create may_remove path old new
  created old new result made = create none made.1

  each_removed : (first old new : D) (names : List (List ℕ)) → ChangesOnlyIn may_create may_remove path first old → RemovesEach may_remove path names old new
      → ChangesOnlyIn may_create may_remove path first new
  each_removed first old new [] before h = subst (ChangesOnlyIn may_create may_remove path first) (sym h) before
  each_removed first old new (name ∷ names) before h = each_removed first h.0 new names (remove name before h.1) h.2

  pub emptied : (first old new : D) (result : Result (Unit {0}) PathError) → ChangesOnlyIn may_create may_remove path first old → EmptiesDir may_list may_remove path old result new
      → ChangesOnlyIn may_create may_remove path first new
  emptied first old new (Ok done) before h = each_removed first old new h.0 before h.2
  emptied first old new (Err fault) before h = elim h [
    | inl listing ↦ subst (ChangesOnlyIn may_create may_remove path first) (sym listing.2) before
    | inr (inl removal) ↦ remove removal.2 (each_removed first old removal.4 removal.0 before removal.6) removal.7
    | inr (inr memory) ↦ each_removed first old new memory.1.0 before memory.1.3
  ]

  told : (dirs : D) (is_there : Bool) (empty : Bool) → is_directory dirs path ≡ is_there
      → MatchBool is_there ((listed : Result (List (List ℕ)) PathError) × may_list dirs path listed × MatchResult listed (λ names. test empty ≡ Ok (length names == 0)) (λ fault. (test empty ≡ Err fault) × IsListError path fault)) (test empty ≡ Ok false)
      → TellsEmpty is_directory may_list path dirs empty
  told dirs false empty is h =
      let no : empty ≡ false = cc in
      subst (TellsEmpty is_directory may_list path dirs) (sym no) (inl is)
  told dirs true empty is (Err fault, may, h) = let e : test empty ≡ Err fault = h.0 in absurd cc
  told dirs true empty is (Ok [], may, h) =
      let yes : empty ≡ true = cc in
      subst (TellsEmpty is_directory may_list path dirs) (sym yes) (is, may)
  told dirs true empty is (Ok (name ∷ names), may, h) =
      let some : (length (name ∷ names) == 0) ≡ false = grind (arith, nat_tests) in
      let no : empty ≡ false = cc in
      subst (TellsEmpty is_directory may_list path dirs) (sym no) (inr (name, names, may))

  -- the result says whether the directory is empty
  pub tells_ok : (dirs : D) (result : Result Bool PathError) → IsEmptyDir is_directory may_list path dirs result → IfOk result (TellsEmpty is_directory may_list path dirs)
  tells_ok dirs (Ok empty) h = told dirs (is_directory dirs path) empty refl h
  tells_ok dirs (Err fault) h = tt
