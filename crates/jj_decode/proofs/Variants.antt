-- Contents of enums and options: the index of the variant, then its fields.
use Rattle.std.proofs.Common.{◌≡◌, ℕ, ◌^◌, ◌<◌, ◌≤◌, List, [], ◌++◌, length, drop, Option, Some, None, arith, refl, sym, ap, subst, ◌∙◌}
use Rattle.std.proofs.lemmas.List.{append_assoc, append-nil}
use Rattle.jj_content.specs.Content.{IsOptionOf, u32_content, option_content}
use Rattle.jj_content.specs.PrefixFreeProofs.{u32_prefix_free, u32_lawful}
use Rattle.jj_decode.specs.declared.error.DecodeError.{DecodeError}
use Rattle.jj_decode.specs.declared.error.DecodeError.TheVariants.{Memory, Malformed}
use Rattle.jj_decode.specs.declared.error.Malformation.{Malformation}
use Rattle.jj_decode.specs.Decoding.{IsContentAt, NoContentAt, IsErrorAt, IsMalformedAt}
use Rattle.jj_decode.specs.Contents.{VariantContents}
use Rattle.jj_decode.proofs.ContentAt.{end_is, content_at_map, error_by_first, rest_equal}

module _ {Y : Type 0} (w : Y → Type 0) (variant : Y → ℕ) (fields : Y → List ℕ)
    (small : (y : Y) → variant y < 2 ^ 32) (bytes : List ℕ) (start tag mid : ℕ)
    (le : start ≤ length bytes)
    (s : IsContentAt (λ n. n < 2 ^ 32) u32_content bytes start tag mid) where
  -- a content has the index of the variant that was read, then the fields
  tag_and_fields : (y : Y) (rest : List ℕ)
      → drop start bytes ≡ (u32_content (variant y) ++ fields y) ++ rest
      → (tag ≡ variant y) × (drop mid bytes ≡ fields y ++ rest)
  tag_and_fields y rest h =
      let h' : u32_content tag ++ drop mid bytes ≡ u32_content (variant y) ++ (fields y ++ rest) =
      sym s.split ∙ h ∙ append_assoc (u32_content (variant y)) (fields y) rest in (
        u32_prefix_free tag (variant y) (drop mid bytes) (fields y ++ rest) s.valid (small y) h',
        rest_equal u32_lawful tag (variant y) (drop mid bytes) (fields y ++ rest) s.valid (small y)
            h',
      )

  pub none_by_tag : ((y : Y) → variant y ≡ tag → ⊥)
      → NoContentAt w (λ y. u32_content (variant y) ++ fields y) bytes start start
  none_by_tag differs = record {
    none = λ y rest valid h. differs y (sym (tag_and_fields y rest h).0);
    from = omega arith;
    within = le;
  }

  pub error_by_fields : {X : Type 0} (v : X → Type 0) (c : X → List ℕ) (e : DecodeError)
      → ((y : Y) → w y → variant y ≡ tag → (x : X) × v x × (fields y ≡ c x))
      → IsErrorAt v c bytes mid e → IsErrorAt w (λ y. u32_content (variant y) ++ fields y) bytes
      start e
  error_by_fields v c Memory parts n = tt
  error_by_fields v c (Malformed reason offset) parts n = record {
    none = λ y rest valid h.
        let t = tag_and_fields y rest h in
        let p = parts y valid (sym t.0) in
        n.none p.0 rest p.1 (t.1 ∙ ap (λ (z : List ℕ). z ++ rest) p.2);
    from = omega (arith, n.from, end_is (λ n. n < 2 ^ 32) u32_content bytes start mid tag le s);
    within = n.within;
  }

  pub variant_decoded : (y : Y) (end : ℕ) → variant y ≡ tag → w y
      → drop mid bytes ≡ fields y ++ drop end bytes → end ≤ length bytes
      → IsContentAt w (λ y. u32_content (variant y) ++ fields y) bytes start y end
  variant_decoded y end is valid split within = record {
    valid = valid;
    split = s.split ∙ ap (λ (n : ℕ). u32_content n ++ drop mid bytes) (sym is)
        ∙ ap (λ (z : List ℕ). u32_content (variant y) ++ z) split
        ∙ sym (append_assoc (u32_content (variant y)) (fields y) (drop end bytes));
    within = within;
  }

-- ---- options

abbrev option_variant : {X : Type 0} → Option X → ℕ
option_variant None = 0
option_variant (Some x) = 1

abbrev option_fields : {X : Type 0} → (X → List ℕ) → Option X → List ℕ
option_fields c None = []
option_fields c (Some x) = c x

option_small : {X : Type 0} (o : Option X) → option_variant o < 2 ^ 32
option_small None = omega arith
option_small (Some x) = omega arith

option_tag_known : {X : Type 0} (o : Option X) (tag : ℕ) → 2 ≤ tag → option_variant o ≡ tag → ⊥
option_tag_known None tag le e = omega arith
option_tag_known (Some x) tag le e = omega arith

module _ {X : Type 0} (v : X → Type 0) (c : X → List ℕ) where
  option_split : (o : Option X) → option_content c o ≡ u32_content (option_variant o)
      ++ option_fields c o
  unfolding option_content
  option_split None = sym (append-nil (u32_content 0))
  option_split (Some x) = refl

  some_fields : (o : Option X) → IsOptionOf v o → option_variant o ≡ 1
      → (x : X) × v x × (option_fields c o ≡ c x)
  some_fields None valid e = absurd (omega arith)
  some_fields (Some x) valid e = (x, valid, refl)

  module _ (bytes : List ℕ) (start tag mid : ℕ) (le : start ≤ length bytes)
      (s : IsContentAt (λ n. n < 2 ^ 32) u32_content bytes start tag mid) where
    pub none_decoded : tag ≡ 0 → IsContentAt (IsOptionOf v) (option_content c) bytes start None mid
    none_decoded is = content_at_map (IsOptionOf v)
        (λ o. u32_content (option_variant o) ++ option_fields c o) (IsOptionOf v) (option_content c)
        bytes start mid None None (λ p. p) (sym (option_split None))
        (variant_decoded (IsOptionOf v) option_variant (option_fields c) option_small bytes start
        tag mid le s None mid (sym is) tt refl s.within)

    pub some_decoded : (x : X) (end : ℕ) → tag ≡ 1 → IsContentAt v c bytes mid x end
        → IsContentAt (IsOptionOf v) (option_content c) bytes start (Some x) end
    some_decoded x end is t = content_at_map (IsOptionOf v)
        (λ o. u32_content (option_variant o) ++ option_fields c o) (IsOptionOf v) (option_content c)
        bytes start end (Some x) (Some x) (λ p. p) (sym (option_split (Some x)))
        (variant_decoded (IsOptionOf v) option_variant (option_fields c) option_small bytes start
        tag mid le s (Some x) end (sym is) t.valid t.split t.within)

    option_error : (e : DecodeError)
        → IsErrorAt (IsOptionOf v) (λ o. u32_content (option_variant o) ++ option_fields c o) bytes
        start e → IsErrorAt (IsOptionOf v) (option_content c) bytes start e
    option_error e n = error_by_first (IsOptionOf v)
        (λ o. u32_content (option_variant o) ++ option_fields c o) (IsOptionOf v) (option_content c)
        (λ o. o) (λ _. []) bytes start e (λ o p. p)
        (λ o. option_split o ∙ sym
        (append-nil (u32_content (option_variant o) ++ option_fields c o))) n

    pub option_tag_error : (reason : Malformation) → 2 ≤ tag
        → IsErrorAt (IsOptionOf v) (option_content c) bytes start (Malformed reason start)
    option_tag_error reason far = option_error (Malformed reason start)
        (none_by_tag (IsOptionOf v) option_variant (option_fields c) option_small bytes start tag
        mid le s (λ o. option_tag_known o tag far))

    pub option_some_error : (e : DecodeError) → tag ≡ 1 → IsErrorAt v c bytes mid e
        → IsErrorAt (IsOptionOf v) (option_content c) bytes start e
    option_some_error e is n = option_error e
        (error_by_fields (IsOptionOf v) option_variant (option_fields c) option_small bytes start
        tag mid le s v c e (λ o valid h. some_fields o valid (h ∙ is)) n)

-- no option begins where no integer begins
pub option_truncated : {X : Type 0} (v : X → Type 0) (c : X → List ℕ) (bytes : List ℕ) (start : ℕ)
    (e : DecodeError) → IsErrorAt (λ n. n < 2 ^ 32) u32_content bytes start e
    → IsErrorAt (IsOptionOf v) (option_content c) bytes start e
option_truncated v c bytes start e n = error_by_first (λ n. n < 2 ^ 32) u32_content (IsOptionOf v)
    (option_content c) option_variant (option_fields c) bytes start e (λ o _. option_small o)
    (option_split v c) n

-- ---- sets of contents of enums

module _ (limit : ℕ) (fields : ℕ → List ℕ → Type 0) (small : limit ≤ 2 ^ 32) (bytes : List ℕ)
    (start : ℕ) where
  module _ (le : start ≤ length bytes) (tag mid : ℕ)
      (s : IsContentAt (λ n. n < 2 ^ 32) u32_content bytes start tag mid) where
    number_and_fields : (b rest : List ℕ) (p : VariantContents limit fields b)
        → drop start bytes ≡ b ++ rest → (tag ≡ p.value.0) × (drop mid bytes ≡ p.value.1 ++ rest)
    number_and_fields b rest p h =
        let h' : u32_content tag ++ drop mid bytes ≡ u32_content p.value.0 ++ (p.value.1 ++ rest) =
        sym s.split ∙ h ∙ ap (λ (z : List ℕ). z ++ rest) p.bytes_are
        ∙ append_assoc (u32_content p.value.0) p.value.1 rest in
        let below : p.value.0 < 2 ^ 32 = omega (arith, p.valid.0) in (
          u32_prefix_free tag p.value.0 (drop mid bytes) (p.value.1 ++ rest) s.valid below h',
          rest_equal u32_lawful tag p.value.0 (drop mid bytes) (p.value.1 ++ rest) s.valid below h',
        )

    -- no variant has the index
    pub unknown_variant_error : (reason : Malformation) → limit ≤ tag
        → IsMalformedAt (VariantContents limit fields) bytes start (Malformed reason start)
    unknown_variant_error reason far =
        record {
          none = λ b rest p h. omega (arith, (number_and_fields b rest p h).0, p.valid.0);
          from = omega arith;
          within = le;
        }

    -- no fields of the variant follow its index
    pub variant_error : (n : ℕ) (e : DecodeError) → tag ≡ n → IsMalformedAt (fields n) bytes mid e
        → IsMalformedAt (VariantContents limit fields) bytes start e
    variant_error n Memory is f = tt
    variant_error n (Malformed reason offset) is f = record {
      none = λ b rest p h.
          let t = number_and_fields b rest p h in
          f.none p.value.1 rest (subst (λ (k : ℕ). fields k p.value.1) (sym t.0 ∙ is) p.valid.1)
          t.1;
      from = omega (arith, f.from, end_is (λ n. n < 2 ^ 32) u32_content bytes start mid tag le s);
      within = f.within;
    }
