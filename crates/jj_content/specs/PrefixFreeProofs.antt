-- Proofs that the content of each type is injective and prefix-free, from the same of its parts.
-- Cited by contracts of public items: bool_lawful, both_lawful, i32_lawful, i64_lawful,
-- list_lawful, narrow_lawful, on_lawful, option_lawful, string_lawful, u32_lawful, u64_lawful,
-- u8_lawful, unit_lawful.
use Rattle.std.proofs.Common.{◌≡◌, ◌&&◌, ℕ, ◌<◌, ◌^◌, List, [], ◌∷◌, ◌++◌, length, take, drop, Bool, true, false, refl, sym, ap, ◌∙◌, arith, Option, Some, None, eq-eqb}
use Rattle.std.proofs.lemmas.List.{append_assoc, append_cancel_left}
use Rattle.std.proofs.lemmas.List.Elements.{recursion_from_All}
use Rattle.std.proofs.lemmas.Bool.{eqb-true, and_parts, and_from}
use Rattle.std.proofs.lemmas.Nat.{from_le_bytes-to_le_bytes_4, from_le_bytes-to_le_bytes_8}
use Rattle.std.specs.Int.{Width, w32, w64, from_le_bytes, cast_unsigned, cast_signed}
use Rattle.std.proofs.lemmas.Int.{ints, to_z-of_z}
use Rattle.std.proofs.lemmas.Bool.Decides.{Decides-int_eq}
use Rattle.std.specs.Prelude.{nat_eq, ⊤, ℤ, FitsSigned}
use Rattle.std.specs.Bool.{beq}
use Rattle.std.specs.List.{flat_map, AllByRecursion}
use Rattle.std.specs.Cmp.Lexicographic.{pointwise, as_long, same_text}
use Rattle.std.proofs.Math.Bool.{and_assoc}
use Rattle.std.proofs.Math.Seq.{take-append_seam}
use Rattle.std.proofs.lemmas.Cmp.{nat_list_eq_equiv}
use Rattle.std.specs.Option.{option_eq}
use Rattle.std.specs.Ordering.{eq_of_both, on, int_eq}
use Rattle.jj_content.specs.Content.{IsLawful, u32_content, u64_content, list_content, string_content, option_content, bool_content, i32_content, i64_content, AreValues, IsOptionOf}

-- the bytes after an integer's content are equal if the contents with them are
cancel_u64 : (m n : ℕ) (s t : List ℕ) → u64_content m ++ s ≡ u64_content n ++ t → s ≡ t
unfolding u64_content
cancel_u64 m n s t e = ap (drop 8) e

cancel_u32 : (m n : ℕ) (s t : List ℕ) → u32_content m ++ s ≡ u32_content n ++ t → s ≡ t
unfolding u32_content
cancel_u32 m n s t e = ap (drop 4) e

-- integers below a limit are equal if bytes that begin with their contents are
abbrev pub IsPrefixFreeBelow : (ℕ → List ℕ) → ℕ → Type 0
IsPrefixFreeBelow content limit = (m n : ℕ) (s t : List ℕ) → m < limit → n < limit
    → content m ++ s ≡ content n ++ t → m ≡ n

-- content is injective and prefix-free if a function reads the integer back
prefix_free_by_decoding : (content : ℕ → List ℕ) (limit : ℕ) (read : List ℕ → ℕ)
    → ((n : ℕ) (s : List ℕ) → n < limit → read (content n ++ s) ≡ n)
    → IsPrefixFreeBelow content limit
prefix_free_by_decoding content limit read back m n s t p q e =
    sym (back m s p) ∙ ap read e ∙ back n t q

pub u64_prefix_free : IsPrefixFreeBelow u64_content (2 ^ 64)
unfolding u64_content
u64_prefix_free = prefix_free_by_decoding u64_content (2 ^ 64)
    (λ (xs : List ℕ). from_le_bytes w64 (take 8 xs))
    (λ n s p. from_le_bytes-to_le_bytes_8 n p)

pub u32_prefix_free : IsPrefixFreeBelow u32_content (2 ^ 32)
unfolding u32_content
u32_prefix_free = prefix_free_by_decoding u32_content (2 ^ 32)
    (λ (xs : List ℕ). from_le_bytes w32 (take 4 xs))
    (λ n s p. from_le_bytes-to_le_bytes_4 n p)

pub unit_lawful : IsLawful {X = Unit {0}} (λ _. ⊤) (λ _ _. true) (λ _. [])
unit_lawful = record { same = λ _ _ _ _ _. refl; decides = λ _ _ _ _ _ _ _. refl }

pub u8_lawful : IsLawful (λ n. n < 2 ^ 8) nat_eq (λ n. n ∷ [])
u8_lawful = record {
  same = λ m n _ _ h. ap (λ (k : ℕ). k ∷ []) (eqb-true m n h);
  decides = λ m n s t _ _ h. eq-eqb m n (cc);
}

pub u32_lawful : IsLawful (λ n. n < 2 ^ 32) nat_eq u32_content
u32_lawful = record {
  same = λ m n _ _ h. ap u32_content (eqb-true m n h);
  decides = λ m n s t p q h. eq-eqb m n (u32_prefix_free m n s t p q h);
}

pub u64_lawful : IsLawful (λ n. n < 2 ^ 64) nat_eq u64_content
u64_lawful = record {
  same = λ m n _ _ h. ap u64_content (eqb-true m n h);
  decides = λ m n s t p q h. eq-eqb m n (u64_prefix_free m n s t p q h);
}

-- content of a part of the value, where equality compares that part only
pub on_lawful : {X Y : Type 0} (part : X → Y) {v : Y → Type 0} {e : Y → Y → Bool} {c : Y → List ℕ}
    → IsLawful v e c → IsLawful (λ x. v (part x)) (on part e) (λ x. c (part x))
on_lawful part l = record {
  same = λ x y. l.same (part x) (part y);
  decides = λ x y. l.decides (part x) (part y);
}

-- fewer values of the same type
pub narrow_lawful : {X : Type 0} {v w : X → Type 0} {e : X → X → Bool} {c : X → List ℕ}
    → ((x : X) → w x → v x) → IsLawful v e c → IsLawful w e c
narrow_lawful wider l = record {
  same = λ x y p q. l.same x y (wider x p) (wider y q);
  decides = λ x y s t p q. l.decides x y s t (wider x p) (wider y q);
}

-- the concatenation of two contents
pub both_lawful : {X : Type 0} {v w : X → Type 0} {e f : X → X → Bool} {c d : X → List ℕ}
    → IsLawful v e c → IsLawful w f d → IsLawful (λ x. v x × w x) (eq_of_both e f) (λ x. c x ++ d x)
both_lawful {X} {v} {w} {e} {f} {c} {d} l m = record {
  same = λ x y p q h.
      let parts = and_parts (e x y) (f x y) h in
      let first = l.same x y p.0 q.0 parts.0 in
      let second = m.same x y p.1 q.1 parts.1 in
      λ i. first i ++ second i;
  decides = λ x y s t p q h.
      let h' : c x ++ (d x ++ s) ≡ c y ++ (d y ++ t) = sym (append_assoc (c x) (d x) s) ∙ h
      ∙ append_assoc (c y) (d y) t in
      let first = l.decides x y (d x ++ s) (d y ++ t) p.0 q.0 h' in
      let here = l.same x y p.0 q.0 first in
      let rest : d x ++ s ≡ d y ++ t = append_cancel_left (c x) (d x ++ s) (d y ++ t)
      (h' ∙ ap (λ (z : List ℕ). z ++ (d y ++ t)) (sym here)) in
      and_from (e x y) (f x y) first (m.decides x y s t p.1 q.1 rest);
}

-- replaces equality by a function that agrees with it
lawful_by_equality : {X : Type 0} {v : X → Type 0} {e f : X → X → Bool} {c : X → List ℕ}
    → ((x y : X) → f x y ≡ e x y) → IsLawful v e c → IsLawful v f c
lawful_by_equality alike l = record {
  same = λ x y p q h. l.same x y p q (sym (alike x y) ∙ h);
  decides = λ x y s t p q h. alike x y ∙ l.decides x y s t p q h;
}

-- concatenation of three or four contents, with the parentheses of derived equality
module _ {X : Type 0} {u v w : X → Type 0} {e f g : X → X → Bool} {a b c : X → List ℕ}
    (first : IsLawful u e a) (second : IsLawful v f b) (third : IsLawful w g c) where
  pub two_then_lawful : IsLawful (λ x. (u x × v x) × w x) (eq_of_both e (eq_of_both f g))
      (λ x. (a x ++ b x) ++ c x)
  two_then_lawful = lawful_by_equality (λ x y. sym (and_assoc (e x y) (f x y) (g x y)))
      (both_lawful (both_lawful first second) third)

  pub three_then_lawful : {y : X → Type 0} {h : X → X → Bool} {d : X → List ℕ} → IsLawful y h d
      → IsLawful (λ x. (u x × (v x × w x)) × y x) (eq_of_both e (eq_of_both f (eq_of_both g h)))
      (λ x. (a x ++ (b x ++ c x)) ++ d x)
  three_then_lawful {h = h} fourth = lawful_by_equality
      (λ x y. ap (λ rest. e x y && rest) (sym (and_assoc (f x y) (g x y) (h x y)))
      ∙ sym (and_assoc (e x y) (f x y && g x y) (h x y)))
      (both_lawful (both_lawful first (both_lawful second third)) fourth)

module _ {X : Type 0} {v : X → Type 0} {e : X → X → Bool} {c : X → List ℕ}
    (l : IsLawful v e c) where
  items_same : (xs ys : List X) → AllByRecursion v xs → AllByRecursion v ys
      → pointwise e xs ys ≡ true → flat_map c xs ≡ flat_map c ys
  items_same [] [] p q h = refl
  items_same [] (y ∷ ys) p q h = cc
  items_same (x ∷ xs) [] p q h = cc
  items_same (x ∷ xs) (y ∷ ys) p q h =
      let parts = and_parts (e x y) (pointwise e xs ys) h in
      let first = l.same x y p.0 q.0 parts.0 in
      let others = items_same xs ys p.1 q.1 parts.1 in
      λ i. first i ++ others i

  items_decide : (xs ys : List X) (s t : List ℕ) → AllByRecursion v xs → AllByRecursion v ys
      → length xs ≡ length ys
      → flat_map c xs ++ s ≡ flat_map c ys ++ t → pointwise e xs ys ≡ true
  items_decide [] [] s t p q len h = refl
  items_decide [] (y ∷ ys) s t p q len h = absurd (omega arith)
  items_decide (x ∷ xs) [] s t p q len h = absurd (omega arith)
  items_decide (x ∷ xs) (y ∷ ys) s t p q len h =
      let h' : c x ++ (flat_map c xs ++ s) ≡ c y ++ (flat_map c ys ++ t) =
      sym (append_assoc (c x) (flat_map c xs) s) ∙ h ∙ append_assoc (c y) (flat_map c ys) t in
      let first = l.decides x y _ _ p.0 q.0 h' in
      let here = l.same x y p.0 q.0 first in
      let rest : flat_map c xs ++ s ≡ flat_map c ys ++ t =
      append_cancel_left (c x) _ _ (h' ∙ ap (λ (z : List ℕ). z ++ (flat_map c ys ++ t))
      (sym here)) in
      and_from (e x y) (pointwise e xs ys) first (items_decide xs ys s t p.1 q.1 (omega arith) rest)

  pub list_lawful : IsLawful (AreValues v) (pointwise e) (list_content c)
  unfolding list_content
  list_lawful = record {
    same = λ xs ys p q h.
        let len = as_long e xs ys h in
        let items = items_same xs ys (recursion_from_All v xs p.1)
        (recursion_from_All v ys q.1) h in
        λ i. u64_content (len i) ++ items i;
    decides = λ xs ys s t p q h.
        let h' : u64_content (length xs) ++ (flat_map c xs ++ s) ≡ u64_content (length ys)
        ++ (flat_map c ys ++ t) =
        sym (append_assoc (u64_content (length xs)) (flat_map c xs) s) ∙ h
        ∙ append_assoc (u64_content (length ys)) (flat_map c ys) t in
        let len = u64_prefix_free (length xs) (length ys) _ _ p.0 q.0 h' in
        items_decide xs ys s t (recursion_from_All v xs p.1) (recursion_from_All v ys q.1) len
        (cancel_u64 _ _ _ _ h');
  }

  option_same : (x y : Option X) → IsOptionOf v x → IsOptionOf v y → option_eq e x y ≡ true
      → option_content c x ≡ option_content c y
  unfolding option_content
  option_same None None p q h = refl
  option_same None (Some y) p q h = cc
  option_same (Some x) None p q h = cc
  option_same (Some x) (Some y) p q h = ap (λ (z : List ℕ). u32_content 1 ++ z) (l.same x y p q h)

  option_decides : (x y : Option X) (s t : List ℕ) → IsOptionOf v x → IsOptionOf v y
      → option_content c x ++ s ≡ option_content c y ++ t → option_eq e x y ≡ true
  unfolding option_content u32_content
  option_decides None None s t p q h = refl
  option_decides None (Some y) s t p q h = cc
  option_decides (Some x) None s t p q h = cc
  option_decides (Some x) (Some y) s t p q h = l.decides x y s t p q (ap (drop 4) h)

  pub option_lawful : IsLawful (IsOptionOf v) (option_eq e) (option_content c)
  option_lawful = record { same = option_same; decides = option_decides }

-- strings
pub string_lawful : IsLawful (λ bytes. length bytes < 2 ^ 64) (pointwise nat_eq) string_content
unfolding string_content
string_lawful = record {
  same = λ xs ys _ _ h. ap string_content (same_text xs ys (sym h));
  decides = λ xs ys s t p q h.
      let h' : u64_content (length xs) ++ (xs ++ s) ≡ u64_content (length ys) ++ (ys ++ t) =
      sym (append_assoc (u64_content (length xs)) xs s) ∙ h
      ∙ append_assoc (u64_content (length ys)) ys t in
      let len = u64_prefix_free (length xs) (length ys) _ _ p q h' in
      let rest : xs ++ s ≡ ys ++ t = cancel_u64 _ _ _ _ h' in
      let same : xs ≡ ys =
      sym (take-append_seam xs s) ∙ ap (take (length xs)) rest
      ∙ ap (λ (k : ℕ). take k (ys ++ t)) len ∙ take-append_seam ys t in
      ap (pointwise nat_eq xs) (sym same) ∙ nat_list_eq_equiv.refl xs;
}

bool_same : (x y : Bool) → ⊤ → ⊤ → beq x y ≡ true → bool_content x ≡ bool_content y
bool_same true true _ _ h = refl
bool_same true false _ _ h = cc
bool_same false true _ _ h = cc
bool_same false false _ _ h = refl

bool_decides : (x y : Bool) (s t : List ℕ) → ⊤ → ⊤ → bool_content x ++ s ≡ bool_content y ++ t
    → beq x y ≡ true
unfolding bool_content
bool_decides true true s t _ _ h = refl
bool_decides true false s t _ _ h = cc
bool_decides false true s t _ _ h = cc
bool_decides false false s t _ _ h = refl

pub bool_lawful : IsLawful (λ _. ⊤) beq bool_content
bool_lawful = record { same = bool_same; decides = bool_decides }

-- a signed integer is determined by its two's complement
cast_unsigned_injective : (w : Width) (m n : ℤ) → FitsSigned w m → FitsSigned w n
    → cast_unsigned w m ≡ cast_unsigned w n → m ≡ n
cast_unsigned_injective w m n p q e = sym (to_z-of_z w m p) ∙ ap (cast_signed w) e ∙ to_z-of_z w n q

-- signed integers, by the content of their two's complement
signed_lawful : (w : Width) (content : ℤ → List ℕ)
    → ((m n : ℤ) (s t : List ℕ) → FitsSigned w m → FitsSigned w n → content m ++ s ≡ content n ++ t
    → cast_unsigned w m ≡ cast_unsigned w n)
    → IsLawful (FitsSigned w) int_eq content
signed_lawful w content same_bits = record {
  same = λ m n _ _ h. ap content ((Decides-int_eq m n).0 h);
  decides = λ m n s t p q h.
      (Decides-int_eq m n).1 (cast_unsigned_injective w m n p q (same_bits m n s t p q h));
}

pub i32_lawful : IsLawful (FitsSigned w32) int_eq i32_content
unfolding i32_content
i32_lawful = signed_lawful w32 i32_content
    (λ m n s t p q. u32_prefix_free _ _ s t (omega (arith, ints)) (omega (arith, ints)))

pub i64_lawful : IsLawful (FitsSigned w64) int_eq i64_content
unfolding i64_content
i64_lawful = signed_lawful w64 i64_content
    (λ m n s t p q. u64_prefix_free _ _ s t (omega (arith, ints)) (omega (arith, ints)))

-- enums: the variant's index, then the fields
pub enum_lawful : {X : Type 0} {v : X → Type 0} {e : X → X → Bool} (variant : X → ℕ)
    (fields : X → List ℕ) → ((x : X) → variant x < 2 ^ 32)
    → ((x y : X) → v x → v y → e x y ≡ true → (variant x ≡ variant y) × (fields x ≡ fields y))
    → ((x y : X) (s t : List ℕ) → v x → v y → variant x ≡ variant y → fields x ++ s ≡ fields y ++ t
    → e x y ≡ true)
    → IsLawful v e (λ x. u32_content (variant x) ++ fields x)
enum_lawful variant fields small alike fields_decide = record {
  same = λ x y p q h. let a = alike x y p q h in λ i. u32_content (a.0 i) ++ a.1 i;
  decides = λ x y s t p q h.
      let h' : u32_content (variant x) ++ (fields x ++ s) ≡ u32_content (variant y)
      ++ (fields y ++ t) =
      sym (append_assoc (u32_content (variant x)) (fields x) s) ∙ h
      ∙ append_assoc (u32_content (variant y)) (fields y) t in
      fields_decide x y s t p q (u32_prefix_free _ _ _ _ (small x) (small y) h')
      (cancel_u32 _ _ _ _ h');
}
