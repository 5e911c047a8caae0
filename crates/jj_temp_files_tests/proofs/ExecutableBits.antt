-- A test of the executable bit that says yes has read the flipped bit back.
use Rattle.std.proofs.Common.{◌≡◌, ◌⊎◌, ℕ, Bool, true, false, List, Result, Ok, Err, IsTrue, inl, inr, subst}
use Rattle.std.specs.Prelude.{IfOk, MatchResult, bit_xor}
use Rattle.std.specs.declared.io.Error.{Error}
use Rattle.std.specs.declared.io.ErrorKind.TheVariants.{PermissionDenied}
use Rattle.std.specs.IoError.{error_kind}
use Rattle.std.proofs.lemmas.Bool.Decides.{eqb_tells}
use Rattle.jj_files.specs.PathErrors.{AddsPath}
use Rattle.jj_files.specs.declared.file_util.errors.PathError.{PathError}
use Rattle.jj_temp_files.specs.Checks.{HasPermissions, KeepsExecutableBit, SetModeRelation, StatRelation, TestsExecutableBit, permissions_of}
use Rattle.jj_temp_files.specs.Persisting.{RemoveRelation}
use Rattle.jj_temp_files.specs.declared.access.FileStatus.{FileStatus}
use Rattle.jj_temp_files_tests.specs.Links.{HasFlippedBit}

abbrev kept_bit : Result Bool Error
kept_bit = Ok true

module _ {S F : Type 0} (may_stat : StatRelation S F) (may_set_mode : SetModeRelation S F) where
  read_back : (file : F) (mode : ℕ) (new : S) → HasPermissions may_stat file mode new (Ok true) → (after : FileStatus) × may_stat new file (Ok after) × (permissions_of after ≡ mode)
  read_back file mode new (Ok status, may, is) = elim (eqb_tells (permissions_of status) mode) [
    | inl same ↦ (status, may, same.1)
    | inr apart ↦ absurd (let no : true ≡ false = cc (is, apart.0) in cc)
  ]
  read_back file mode new (Err error, may, is) = absurd (cc)

  set_back : (file : F) (old new : S) (before : FileStatus) → may_stat old file (Ok before) → (changed : Result (Unit {0}) Error)
      → may_set_mode old file (bit_xor (permissions_of before) 0o100) changed new
      → MatchResult changed (λ done. HasPermissions may_stat file (bit_xor (permissions_of before) 0o100) new (Ok true)) (λ error. ((error_kind error ≡ PermissionDenied) × (kept_bit ≡ Ok false)) ⊎ (kept_bit ≡ Err error))
      → HasFlippedBit may_stat may_set_mode new
  set_back file old new before read (Ok done) may h =
      let back = read_back file (bit_xor (permissions_of before) 0o100) new h in
      record { old = old; file = file; before = before; after = back.0; read = read; set = may; read_back = back.1; flipped = back.2 }
  set_back file old new before read (Err error) may (inl denied) = absurd (cc)
  set_back file old new before read (Err error) may (inr failed) = absurd (cc)

  keeps_bit : (file : F) (old new : S) → KeepsExecutableBit may_stat may_set_mode file old (Ok true) new → HasFlippedBit may_stat may_set_mode new
  keeps_bit file old new (Ok status, may, h) = set_back file old new status may h.0 h.1 h.2
  keeps_bit file old new (Err error, may, h) = absurd (cc)

  tested : (file : F) (dir : List ℕ) (gone new : S) (outcome : Result Bool Error) (kept : Bool) → KeepsExecutableBit may_stat may_set_mode file gone outcome new → AddsPath dir outcome (Ok kept) → IsTrue kept
      → HasFlippedBit may_stat may_set_mode new
  tested file dir gone new (Ok value) kept h adds is =
      let same : value ≡ true = cc in
      keeps_bit file gone new (subst (λ (b : Bool). KeepsExecutableBit may_stat may_set_mode file gone (Ok b) new) same h)
  tested file dir gone new (Err error) kept h adds is = absurd adds

  -- the whole test said yes
  pub has_flipped : (may_create : S → List ℕ → Result F Error → S → Type 0) (may_remove : RemoveRelation S) (dir : List ℕ) (first : ℕ) (old new : S) (last : ℕ) (result : Result Bool PathError)
      → TestsExecutableBit may_create may_remove may_stat may_set_mode dir first old result last new → IfOk result (λ kept. IsTrue kept → HasFlippedBit may_stat may_set_mode new)
  has_flipped may_create may_remove dir first old new last (Err fault) h = tt
  has_flipped may_create may_remove dir first old new last (Ok kept) (Err fault, there, created, h) = absurd (let e = h.0 in cc)
  has_flipped may_create may_remove dir first old new last (Ok kept) (Ok temp, there, created, (Err fault, gone, unlinked, h)) = absurd (let e = h.0 in cc)
  has_flipped may_create may_remove dir first old new last (Ok kept) (Ok temp, there, created, (Ok file, gone, unlinked, h)) = tested file dir gone new h.0 kept h.1 h.2
