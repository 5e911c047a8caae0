-- Strings that satisfy a predicate, as path components and paths, and errors about the others.
use Rattle.std.proofs.Common.{◌≡◌, ℕ, ◌<◌, ◌≤◌, ◌^◌, Bool, true, false, List, ◌++◌, length, drop, sym, ap, subst, ◌∙◌, arith}
use Rattle.std.specs.Prelude.{IsTrue}
use Rattle.std.specs.Str.{IsUtf8}
use Rattle.std.specs.String.{string_bytes}
use Rattle.std.specs.declared.string.String.{String}
use Rattle.jj_content.specs.Content.{string_content}
use Rattle.jj_decode.specs.declared.error.DecodeError.{DecodeError}
use Rattle.jj_decode.specs.Contents.{IsContentOf}
use Rattle.jj_decode.specs.Decoding.{IsContentAt, NoContentAt, IsMalformedAt, IsString}
use Rattle.jj_decode.proofs.ContentAt.{error_narrow}
use Rattle.jj_decode.proofs.StringBytes.{same_bytes}
use Rattle.jj_paths.specs.StringErrors.{IsStringError}
use Rattle.jj_paths.specs.declared.repo_path.InvalidNewRepoPathError.{InvalidNewRepoPathError}
use Rattle.jj_paths.specs.declared.repo_path.InvalidNewRepoPathError.TheVariants.{Invalid, Memory}

-- the bytes of a decoded string
pub string_at : {A : Type 0} (bytes : List ℕ) (start end : ℕ) (text : String A)
    → IsContentAt (λ (s : String A). IsUtf8 (string_bytes s) × (length (string_bytes s) < 2 ^ 64)) (λ s. string_content (string_bytes s)) bytes start text end → IsContentAt IsString string_content bytes start (string_bytes text) end
string_at bytes start end text s = record { valid = s.valid; split = s.split; within = s.within }

-- a constructor that failed: the string is not valid
pub not_valid : (passes : Bool) (text : List ℕ) (e : InvalidNewRepoPathError) → IsStringError passes text e → IsTrue passes → ⊥
not_valid true text (Invalid value) failed passes = cc
not_valid false text (Invalid value) failed passes = cc
not_valid passes text Memory failed _ = failed

module _ (P : List ℕ → Type 0) (strings : (text : List ℕ) → P text → IsString text) (bytes : List ℕ) (start : ℕ) where
  pub none_if_invalid : (text : List ℕ) (end : ℕ) → start ≤ length bytes → IsContentAt IsString string_content bytes start text end → (P text → ⊥) → NoContentAt (IsContentOf P string_content) (λ b. b) bytes start start
  none_if_invalid text end le s invalid = record {
    none = λ b rest p h.
        let whole : string_content text ++ drop end bytes ≡ string_content p.value ++ rest = sym s.split ∙ h ∙ ap (λ (z : List ℕ). z ++ rest) p.bytes_are in
        let same : text ≡ p.value = same_bytes text p.value (drop end bytes) rest s.valid.1 (strings p.value p.valid).1 whole in
        invalid (subst P (sym same) p.valid);
    from = omega arith;
    within = le;
  }

  pub string_error : (e : DecodeError) → IsMalformedAt (IsContentOf IsString string_content) bytes start e → IsMalformedAt (IsContentOf P string_content) bytes start e
  string_error e = error_narrow (IsContentOf IsString string_content) (IsContentOf P string_content) (λ b. b) bytes start e
      (λ b p. record { value = p.value; valid = strings p.value p.valid; bytes_are = p.bytes_are })
