-- Results of decoding, from the errors of the type.
use Rattle.std.proofs.Common.{◌≡◌, ℕ, ◌+◌, ◌<◌, ◌≤◌, ◌^◌, inl, inr, List, [], ◌∷◌, ◌++◌, length, drop, Bool, true, false, Result, Ok, Err, refl, sym, ap, ◌∙◌, arith}
use Rattle.std.specs.Prelude.{IfOk, IfErr, ⊤}
use Rattle.std.specs.List.{flat_map}
use Rattle.std.proofs.lemmas.List.{length-append}
use Rattle.jj_content.specs.Content.{u64_content, bool_content, list_content}
use Rattle.jj_decode.specs.declared.error.DecodeError.{DecodeError}
use Rattle.jj_decode.specs.declared.error.DecodeError.TheVariants.{Malformed}
use Rattle.jj_decode.specs.declared.error.Malformation.TheVariants.{Truncated, UnknownTag}
use Rattle.jj_decode.specs.Errors.{BoolErrors, BothErrors, CountedErrors, IntegerErrors, WholeErrors}
use Rattle.jj_decode.proofs.ContentAt.{end_is}
use Rattle.jj_decode.proofs.IntegerBytes.{u64_length}

-- a list begins with a count of eight bytes
pub list_length : {X : Type 0} (c : X → List ℕ) (xs : List X) → 8 ≤ length (list_content c xs)
unfolding list_content
list_length c xs = omega (
  arith,
  u64_length (length xs),
  length-append (u64_content (length xs)) (flat_map c xs),
)

-- ---- fewer bytes than a count

module _ {X : Type 0} (v : X → Type 0) (c : X → List ℕ)
    (items : ℕ → List ℕ → ℕ → DecodeError → Type 0) (long : (x : X) → v x → 8 ≤ length (c x))
    (bytes : List ℕ) (lt : length bytes < 8) where
  short_error : (e : DecodeError) → WholeErrors v c (CountedErrors items) bytes e
      → e ≡ Malformed Truncated 0
  short_error e (inl (inl (inl (less, is)))) = is
  short_error e (inl (inl (inr (excess, is)))) = is
  short_error e (inl (inr (count, end, counted, rest))) =
      let whole = ap length counted.is_count.split in
      absurd (omega (
        arith,
        whole,
        u64_length count,
        length-append (u64_content count) (drop end bytes),
      ))
  short_error e (inr (x, end, s, less, is)) =
      let ends : end ≡ 0 + length (c x) = end_is v c bytes 0 end x (omega arith) s in
      absurd (omega (arith, ends, long x s.valid, s.within))

  pub short_result : (result : Result X DecodeError) → IfOk result (λ x. v x × (bytes ≡ c x))
      → IfErr result (WholeErrors v c (CountedErrors items) bytes)
      → result ≡ Err (Malformed Truncated 0)
  short_result (Ok x) ok err =
      absurd (omega (arith, long x ok.0, ap length ok.1))
  short_result (Err e) ok err = ap Err (short_error e err)

-- ---- a byte, then a bool

abbrev pub IsFlag : ℕ × Bool → Type 0
IsFlag p = (p.0 < 2 ^ 8) × ⊤

abbrev pub flag_content : ℕ × Bool → List ℕ
flag_content p = (p.0 ∷ []) ++ bool_content p.1

abbrev pub FlagErrors : List ℕ → ℕ → DecodeError → Type 0
FlagErrors = BothErrors (λ n. n < 2 ^ 8) (λ n. n ∷ []) (IntegerErrors 1) BoolErrors

flag_length : (p : ℕ × Bool) → length (flag_content p) ≡ 2
unfolding bool_content
flag_length (n, true) = refl
flag_length (n, false) = refl

no_flag : (n tag : ℕ) (p : ℕ × Bool) → 2 ≤ tag → n ∷ tag ∷ [] ≡ flag_content p → ⊥
unfolding bool_content
no_flag n tag (m, true) le e = let is : tag ≡ 1 = cc in omega (arith, is)
no_flag n tag (m, false) le e = let is : tag ≡ 0 = cc in omega (arith, is)

flag_error : (n tag : ℕ) (bytes : List ℕ) → bytes ≡ n ∷ tag ∷ [] → (e : DecodeError)
    → WholeErrors IsFlag flag_content FlagErrors bytes e → e ≡ Malformed UnknownTag 1
flag_error n tag bytes are e (inl (inl (less, is))) =
    absurd (omega (arith, ap length are))
flag_error n tag bytes are e (inl (inr (x, mid, s, inl (less, is)))) =
    let ends : mid ≡ 0 + 1 = end_is (λ n. n < 2 ^ 8) (λ n. n ∷ []) bytes 0 mid x (omega arith) s in
    absurd (omega (arith, ends, ap length are))
flag_error n tag bytes are e (inl (inr (x, mid, s, inr (t, end, at, le, is)))) =
    let ends : mid ≡ 0 + 1 = end_is (λ n. n < 2 ^ 8) (λ n. n ∷ []) bytes 0 mid x (omega arith) s in
    let one : mid ≡ 1 = omega (arith, ends) in
    is ∙ ap (Malformed UnknownTag) one
flag_error n tag bytes are e (inr (p, end, s, less, is)) =
    let ends = end_is IsFlag flag_content bytes 0 end p (omega arith) s in
    absurd (omega (arith, ends, flag_length p, ap length are))

pub flag_result : (n tag : ℕ) (bytes : List ℕ) → 2 ≤ tag → bytes ≡ n ∷ tag ∷ []
    → (result : Result (ℕ × Bool) DecodeError) → IfOk result (λ p. IsFlag p × (bytes ≡ flag_content p))
    → IfErr result (WholeErrors IsFlag flag_content FlagErrors bytes)
    → result ≡ Err (Malformed UnknownTag 1)
flag_result n tag bytes le are (Ok p) ok err = absurd (no_flag n tag p le (sym are ∙ ok.1))
flag_result n tag bytes le are (Err e) ok err = ap Err (flag_error n tag bytes are e err)
