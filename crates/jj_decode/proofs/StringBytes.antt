-- Contents of strings and byte strings: the length, then the bytes.
use Rattle.std.proofs.Common.{◌≡◌, ℕ, suc, ◌+◌, ◌-◌, ◌^◌, ◌<◌, ◌≤◌, List, [], ◌∷◌, ◌++◌, length, drop, take, get_or, arith, refl, sym, ap, subst, ◌∙◌, inl, inr}
use Rattle.std.specs.List.{flat_map, AllByRecursion}
use Rattle.std.specs.Str.{IsUtf8}
use Rattle.std.specs.Cmp.Lexicographic.{same_text}
use Rattle.std.proofs.lemmas.List.Elements.{recursion_from_All}
use Rattle.std.proofs.lemmas.Bool.{cases_lt}
use Rattle.std.proofs.lemmas.List.{append_assoc, append-nil, length-drop, length-take, get_or_past, get_or_default, get_or-append-add, get_or_append_left}
use Rattle.jj_content.specs.Content.{AreValues, u64_content, list_content, string_content}
use Rattle.jj_content.specs.PrefixFreeProofs.{string_lawful}
use Rattle.jj_decode.specs.declared.error.DecodeError.{DecodeError}
use Rattle.jj_decode.specs.declared.error.DecodeError.TheVariants.{Memory, Malformed}
use Rattle.jj_decode.specs.Decoding.{IsContentAt, NoContentAt, IsErrorAt, IsCounted, counted_content, FitsLength, IsString, IsMalformedAt}
use Rattle.jj_decode.specs.Contents.{IsContentOf, ListContents}
use Rattle.jj_decode.proofs.ContentAt.{parts_at, error_by_first}
use Rattle.jj_decode.proofs.IntegerBytes.{IsBytes, IsBytes-drop}

pub bytes_count_error : (bytes : List ℕ) (start : ℕ) (e : DecodeError)
    → IsErrorAt IsCounted counted_content bytes start e
    → IsErrorAt FitsLength string_content bytes start e
unfolding string_content
bytes_count_error bytes start e n = error_by_first IsCounted counted_content FitsLength
    string_content (λ t. (length t, t)) (λ _. []) bytes start e (λ t p. (p, omega arith))
    (λ t. sym (append-nil (string_content t))) n

pub bytes_decoded : (bytes : List ℕ) (start count mid k : ℕ)
    → IsContentAt (λ n. n < 2 ^ 64) u64_content bytes start count mid → count ≤ length bytes - mid
    → k ≡ count
    → IsContentAt FitsLength string_content bytes start (take k (drop mid bytes)) (mid + count)
unfolding string_content
bytes_decoded bytes start count mid k s le is =
    let front : List ℕ = take k (drop mid bytes) in
    let len : length front
    ≡ count = omega (arith, length-take k (drop mid bytes), length-drop mid bytes) in
    let rest : drop mid bytes ≡ front ++ drop (mid + count) bytes = parts_at bytes mid k
    ∙ ap (λ (n : ℕ). front ++ drop (mid + n) bytes) is in
    record {
      valid = omega (arith, len, s.valid);
      split = s.split ∙ ap (λ (n : ℕ). u64_content n ++ drop mid bytes) (sym len)
          ∙ ap (λ (z : List ℕ). u64_content (length front) ++ z) rest
          ∙ sym (append_assoc (u64_content (length front)) front (drop (mid + count) bytes));
      within = omega (arith, s.within);
    }

-- byte strings with a common prefix of bytes as content are equal
pub same_bytes : (front t s rest : List ℕ) → FitsLength front → FitsLength t
    → string_content front ++ s ≡ string_content t ++ rest → front ≡ t
same_bytes front t s rest p q h = same_text front t
    (sym (string_lawful.decides front t s rest p q h))

pub none_if_invalid_utf8 : (bytes front : List ℕ) (start end : ℕ) → start ≤ length bytes
    → IsContentAt FitsLength string_content bytes start front end → (IsUtf8 front → ⊥)
    → NoContentAt IsString string_content bytes start start
none_if_invalid_utf8 bytes front start end le s bad = record {
  none = λ t rest valid h. bad
      (subst IsUtf8 (sym (same_bytes front t (drop end bytes) rest s.valid valid.1
      (sym s.split ∙ h))) valid.0);
  from = omega arith;
  within = le;
}

module _ {X : Type 0} (v : X → Type 0) (c : X → List ℕ) where
  -- a list of contents is the contents of a list of values
  values_of : (parts : List (List ℕ)) → AllByRecursion (IsContentOf v c) parts
      → (xs : List X) × (length xs ≡ length parts) × (flat_map (λ b. b) parts ≡ flat_map c xs)
  values_of [] p = ([], refl, refl)
  values_of (b ∷ parts) p =
      let r = values_of parts p.1 in
      let first : b ≡ c p.0.value = p.0.bytes_are in
      (p.0.value ∷ r.0, ap suc r.1, λ i. first i ++ r.2 i)

singles : (xs : List ℕ) → flat_map (λ (n : ℕ). n ∷ []) xs ≡ xs
singles [] = refl
singles (x ∷ xs) = ap (λ (z : List ℕ). x ∷ z) (singles xs)

pub bytes_contents_error : (bytes : List ℕ) (start : ℕ) (e : DecodeError)
    → IsErrorAt FitsLength string_content bytes start e
    → IsMalformedAt (ListContents (IsContentOf (λ n. n < 2 ^ 8) (λ n. n ∷ []))) bytes start e
unfolding string_content list_content
bytes_contents_error bytes start Memory n = tt
bytes_contents_error bytes start (Malformed reason offset) n = record {
  none = λ b rest p h.
      let r = values_of (λ (n : ℕ). n < 2 ^ 8) (λ (n : ℕ). n ∷ []) p.value
      (recursion_from_All (IsContentOf (λ (n : ℕ). n < 2 ^ 8) (λ (n : ℕ). n ∷ [])) p.value
      p.valid.1) in
      let xs : List ℕ = r.0 in
      let is : b ≡ u64_content (length xs) ++ xs = p.bytes_are
      ∙ (λ i. u64_content (sym r.1 i) ++ (r.2 ∙ singles xs) i) in
      n.none xs rest (omega (arith, r.1, p.valid.0)) (h ∙ ap (λ (z : List ℕ). z ++ rest) is);
  from = n.from;
  within = n.within;
}

fits_prefix : (bytes front rest : List ℕ) (start : ℕ) → IsBytes bytes
    → drop start bytes ≡ string_content front ++ rest → IsBytes front
unfolding string_content
fits_prefix bytes front rest start fits h k =
    elim (cases_lt k (length front)) [
      | inl lt ↦ let head : List ℕ = u64_content (length front) in
          let inside : get_or (drop start bytes) (length head + k) 0 ≡ get_or front k 0 =
          ap (λ (z : List ℕ). get_or z (length head + k) 0) (h ∙ append_assoc head front rest)
          ∙ get_or-append-add head (front ++ rest) k 0 ∙ get_or_append_left front rest 0 k lt in
          rw (← inside) (IsBytes-drop start bytes fits (length head + k))
      | inr le ↦ rw (get_or_past front k 0 le) (omega arith)
    ]

pub bytes_as_list : (bytes front : List ℕ) (start end : ℕ) → IsBytes bytes
    → IsContentAt FitsLength string_content bytes start front end
    → IsContentAt (AreValues (λ n. n < 2 ^ 8)) (list_content (λ n. n ∷ [])) bytes start front end
unfolding string_content list_content
bytes_as_list bytes front start end fits s = record {
  valid = (
    s.valid,
    λ k d lt. rw (get_or_default front k d 0 lt)
        (omega (arith, fits_prefix bytes front (drop end bytes) start fits s.split k)),
  );
  split = s.split ∙ ap (λ (z : List ℕ). (u64_content (length front) ++ z) ++ drop end bytes)
      (sym (singles front));
  within = s.within;
}
