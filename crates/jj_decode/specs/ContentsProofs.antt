-- Proofs that the contents of each type are prefix-free and nonempty, from the same of its parts.
-- Cited by contracts of public items: bool_contents, both_contents, contents_of, contents_on,
-- i32_contents, i64_contents, list_contents, map_contents, option_contents, string_contents,
-- u32_contents, u64_contents, u8_contents, variant_contents.
use Rattle.std.proofs.Common.{◌≡◌, ℕ, ◌<◌, ◌≤◌, ◌^◌, List, [], ◌∷◌, ◌++◌, length, map, Bool, Option, Some, None, refl, sym, ap, subst, ◌∙◌, arith}
use Rattle.std.specs.Prelude.{⊤, FitsSigned}
use Rattle.std.specs.Int.{w32, w64}
use Rattle.std.specs.List.{flat_map, AllByRecursion}
use Rattle.std.specs.declared.cmp.Ordering.{Ordering}
use Rattle.std.specs.Cmp.Lexicographic.{same_text, nat_list_eq_equiv}
use Rattle.std.specs.Str.{bytes_eq}
use Rattle.std.proofs.lemmas.List.{append_assoc, append_cancel_left, length-append, length-map}
use Rattle.std.proofs.lemmas.List.Elements.{recursion_from_All, All-from_recursion}
use Rattle.jj_content.specs.Content.{IsLawful, AreValues, IsOptionOf, u32_content, u64_content, i32_content, i64_content, bool_content, option_content, list_content, string_content, entry_content}
use Rattle.jj_content.specs.PrefixFreeProofs.{on_lawful, both_lawful, list_lawful, option_lawful, string_lawful, narrow_lawful, u8_lawful, u32_lawful, u64_lawful, i32_lawful, i64_lawful, bool_lawful, u32_prefix_free}
use Rattle.jj_decode.specs.NonemptyProofs.{AreNonempty, both_nonempty, list_nonempty, map_nonempty, option_nonempty, string_nonempty, u8_nonempty, u32_nonempty, u64_nonempty, i32_nonempty, i64_nonempty, bool_nonempty}
use Rattle.jj_decode.specs.Decoding.{IsString}
use Rattle.jj_decode.specs.Contents.{IsContentOf, AreContents, BothContents, OptionContents, ListContents, VariantContents, AreOrderedEntries, AreOrderedMembers, MapContents, SetContents}

-- contents as values whose content is themselves
pub contents_lawful : {X : Type 0} {v : X → Type 0} {c : X → List ℕ} {p : List ℕ → Type 0}
    → AreContents v c p → IsLawful p bytes_eq (λ b. b)
contents_lawful r = record {
  same = λ a b _ _ h. same_text a b (sym h);
  decides = λ a b s t q u h. ap (bytes_eq a) (sym (r.prefix_free a b s t q u h))
      ∙ nat_list_eq_equiv.refl a;
}

-- a type whose content is injective, prefix-free and nonempty
pub contents_of : {X : Type 0} {v : X → Type 0} {e : X → X → Bool} {c : X → List ℕ} → IsLawful v e c
    → AreNonempty v c → AreContents v c (IsContentOf v c)
contents_of {c = c} l nonempty = record {
  covers = λ x valid. record { value = x; valid = valid; bytes_are = refl };
  prefix_free = λ a b s t p q h.
      let h' : c p.value ++ s ≡ c q.value ++ t = ap (λ (z : List ℕ). z ++ s) (sym p.bytes_are) ∙ h
      ∙ ap (λ (z : List ℕ). z ++ t) q.bytes_are in
      p.bytes_are ∙ l.same p.value q.value p.valid q.valid
      (l.decides p.value q.value s t p.valid q.valid h') ∙ sym q.bytes_are;
  nonempty = λ a p. omega (arith, nonempty p.value p.valid, ap length p.bytes_are);
}

-- the content of a part of the value
pub contents_on : {X Y : Type 0} (part : Y → X) {v : X → Type 0} {c : X → List ℕ}
    {p : List ℕ → Type 0} → AreContents v c p → AreContents (λ y. v (part y)) (λ y. c (part y)) p
contents_on part r = record {
  covers = λ y. r.covers (part y);
  prefix_free = r.prefix_free;
  nonempty = r.nonempty;
}

pub both_contents : {X Y : Type 0} {v : X → Type 0} {c : X → List ℕ} {p : List ℕ → Type 0}
    {w : Y → Type 0} {d : Y → List ℕ} {q : List ℕ → Type 0}
    → AreContents v c p → AreContents w d q → AreContents {X = X × Y} (λ z. v z.0 × w z.1)
    (λ z. c z.0 ++ d z.1) (BothContents p q)
both_contents {c = c} {p = p} {d = d} {q = q} r s =
    let whole = contents_of {X = List ℕ × List ℕ}
    (both_lawful (on_lawful (λ (z : List ℕ × List ℕ). z.0) (contents_lawful r))
    (on_lawful (λ (z : List ℕ × List ℕ). z.1) (contents_lawful s)))
    (both_nonempty p (λ b. b) q (λ b. b) r.nonempty) in
    record {
      covers = λ z valid. record {
        value = (c z.0, d z.1);
        valid = (r.covers z.0 valid.0, s.covers z.1 valid.1);
        bytes_are = refl;
      };
      prefix_free = whole.prefix_free;
      nonempty = whole.nonempty;
    }

module _ {X : Type 0} {v : X → Type 0} {c : X → List ℕ} {p : List ℕ → Type 0}
    (r : AreContents v c p) where
  option_covers : (o : Option X) → IsOptionOf v o → OptionContents p (option_content c o)
  unfolding option_content
  option_covers None valid = record { value = None; valid = tt; bytes_are = refl }
  option_covers (Some x) valid = record {
    value = Some (c x);
    valid = r.covers x valid;
    bytes_are = refl;
  }

  pub option_contents : AreContents (IsOptionOf v) (option_content c) (OptionContents p)
  option_contents =
      let whole = contents_of (option_lawful (contents_lawful r)) (option_nonempty p (λ b. b)) in
      record { covers = option_covers; prefix_free = whole.prefix_free; nonempty = whole.nonempty }

  pub items_map : (xs : List X) → flat_map c xs ≡ flat_map (λ b. b) (map c xs)
  items_map [] = refl
  items_map (x ∷ xs) = ap (λ (z : List ℕ). c x ++ z) (items_map xs)

  pub items_cover : (xs : List X) → AllByRecursion v xs → AllByRecursion p (map c xs)
  items_cover [] valid = tt
  items_cover (x ∷ xs) valid = (r.covers x valid.0, items_cover xs valid.1)

  list_covers : (xs : List X) → AreValues v xs → ListContents p (list_content c xs)
  unfolding list_content
  list_covers xs valid = record {
    value = map c xs;
    valid = (
      omega (arith, valid.0, length-map xs c),
      All-from_recursion p (map c xs) (items_cover xs (recursion_from_All v xs valid.1)),
    );
    bytes_are = λ i. u64_content (sym (length-map xs c) i) ++ items_map xs i;
  }

  pub list_contents : AreContents (AreValues v) (list_content c) (ListContents p)
  list_contents =
      let whole = contents_of (list_lawful (contents_lawful r)) (list_nonempty p (λ b. b)) in
      record { covers = list_covers; prefix_free = whole.prefix_free; nonempty = whole.nonempty }

-- ---- integers and strings

pub u8_contents : AreContents (λ n. n < 2 ^ 8) (λ n. n ∷ [])
    (IsContentOf (λ n. n < 2 ^ 8) (λ n. n ∷ []))
u8_contents = contents_of u8_lawful u8_nonempty

pub u32_contents : AreContents (λ n. n < 2 ^ 32) u32_content
    (IsContentOf (λ n. n < 2 ^ 32) u32_content)
u32_contents = contents_of u32_lawful u32_nonempty

pub u64_contents : AreContents (λ n. n < 2 ^ 64) u64_content
    (IsContentOf (λ n. n < 2 ^ 64) u64_content)
u64_contents = contents_of u64_lawful u64_nonempty

pub i32_contents : AreContents (FitsSigned w32) i32_content
    (IsContentOf (FitsSigned w32) i32_content)
i32_contents = contents_of i32_lawful i32_nonempty

pub i64_contents : AreContents (FitsSigned w64) i64_content
    (IsContentOf (FitsSigned w64) i64_content)
i64_contents = contents_of i64_lawful i64_nonempty

pub bool_contents : AreContents (λ _. ⊤) bool_content (IsContentOf (λ _. ⊤) bool_content)
bool_contents = contents_of bool_lawful bool_nonempty

pub string_contents : AreContents IsString string_content (IsContentOf IsString string_content)
string_contents = contents_of (narrow_lawful (λ _ p. p.1) string_lawful)
    (λ t p. string_nonempty t p.1)

pub map_contents : {K V : Type 0} (cmp : K → K → Ordering) {v : K → Type 0} {e : K → K → Bool}
    {c : K → List ℕ} {w : V → Type 0} {f : V → V → Bool} {d : V → List ℕ}
    → IsLawful v e c → IsLawful w f d
    → AreContents (AreOrderedEntries cmp v w) (list_content (entry_content c d))
    (MapContents cmp v c w d)
map_contents {K} {V} cmp {v} {e} {c} {w} {f} {d} lk lv =
    contents_of (narrow_lawful (λ _ p. p.1)
    (list_lawful (both_lawful (on_lawful (λ (p : K × V). p.0) lk)
    (on_lawful (λ (p : K × V). p.1) lv)))) (map_nonempty cmp v c w d)

pub set_contents : {K : Type 0} (cmp : K → K → Ordering) {v : K → Type 0} {e : K → K → Bool}
    {c : K → List ℕ} → IsLawful v e c
    → AreContents (AreOrderedMembers cmp v) (list_content c) (SetContents cmp v c)
set_contents cmp {v} {e} {c} l = contents_of (narrow_lawful (λ _ p. p.1) (list_lawful l))
    (λ ks p. list_nonempty v c ks p.1)

-- ---- enums

variants_prefix_free : (limit : ℕ) (fields : ℕ → List ℕ → Type 0) → limit ≤ 2 ^ 32
    → ((n : ℕ) (a b s t : List ℕ) → fields n a → fields n b → a ++ s ≡ b ++ t → a ≡ b)
    → (a b s t : List ℕ) → VariantContents limit fields a → VariantContents limit fields b
    → a ++ s ≡ b ++ t → a ≡ b
variants_prefix_free limit fields le fields_prefix_free a b s t p q h =
    let m = p.value.0 in
    let n = q.value.0 in
    let x = p.value.1 in
    let y = q.value.1 in
    let h' : u32_content m ++ (x ++ s) ≡ u32_content n ++ (y ++ t) =
    sym (append_assoc (u32_content m) x s) ∙ ap (λ (z : List ℕ). z ++ s) (sym p.bytes_are) ∙ h
    ∙ ap (λ (z : List ℕ). z ++ t) q.bytes_are ∙ append_assoc (u32_content n) y t in
    let same : m ≡ n = u32_prefix_free m n (x ++ s) (y ++ t) (omega (arith, p.valid.0))
    (omega (arith, q.valid.0)) h' in
    let rest : x ++ s ≡ y ++ t = append_cancel_left (u32_content m) (x ++ s) (y ++ t)
    (h' ∙ ap (λ (k : ℕ). u32_content k ++ (y ++ t)) (sym same)) in
    let both : x ≡ y = fields_prefix_free n x y s t (subst (λ (k : ℕ). fields k x) same p.valid.1)
    q.valid.1 rest in
    p.bytes_are ∙ (λ i. u32_content (same i) ++ both i) ∙ sym q.bytes_are

variants_nonempty : (limit : ℕ) (fields : ℕ → List ℕ → Type 0) (a : List ℕ)
    → VariantContents limit fields a → 0 < length a
unfolding u32_content
variants_nonempty limit fields a p = omega
    (arith, ap length p.bytes_are, length-append (u32_content p.value.0) p.value.1)

pub variant_contents : {Y : Type 0} (w : Y → Type 0) (d : Y → List ℕ) (limit : ℕ)
    (fields : ℕ → List ℕ → Type 0) → limit ≤ 2 ^ 32
    → ((n : ℕ) (a b s t : List ℕ) → fields n a → fields n b → a ++ s ≡ b ++ t → a ≡ b)
    → ((y : Y) → w y → VariantContents limit fields (d y))
    → AreContents w d (VariantContents limit fields)
variant_contents w d limit fields le fields_prefix_free covers =
    record {
      covers = covers;
      prefix_free = variants_prefix_free limit fields le fields_prefix_free;
      nonempty = variants_nonempty limit fields;
    }
