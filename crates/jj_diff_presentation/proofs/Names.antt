-- No line feed is in the name of a file as a unified diff has it.
use Rattle.std.proofs.Common.{◌≡◌, ℕ, ◌+◌, ◌/◌, ◌%◌, Bool, true, false, cond, ◌||◌, ◌&&◌, ◌==◌, not, nat_le, nat_lt, List, [], ◌∷◌, ◌++◌, Option, Some, None, refl, sym, ap, ◌∙◌, arith, ne_eqb, true≢false, inl, inr}
use Rattle.std.proofs.lemmas.Bool.{cases_Bool, and_parts}
use Rattle.std.proofs.lemmas.List.Folds.{list_any-append}
use Rattle.std.specs.List.{flat_map, list_all, list_any}
use Rattle.jj_diff_presentation.specs.Names.{letter_of, plain_or_octal, escape_by, escape_of, is_plain, quoted, side_name, tab_after}
use Rattle.jj_diff_presentation.proofs.Booleans.{cond_true, cond_false}

-- no byte is an LF
abbrev pub NoNewline : List ℕ → Type 0
NoNewline text = list_any (λ b. b == 10) text ≡ false

pub no_newline_both : (x y : List ℕ) → NoNewline x → NoNewline y → NoNewline (x ++ y)
no_newline_both x y e f =
    list_any-append (λ b. b == 10) x y ∙ ap (λ c. c || list_any (λ b. b == 10) y) e ∙ f

no_newline_cons : (b : ℕ) (bs : List ℕ) → (b ≡ 10 → ⊥) → NoNewline bs → NoNewline (b ∷ bs)
no_newline_cons b bs n e = ap (λ c. c || list_any (λ d. d == 10) bs) (ne_eqb b 10 n) ∙ e

-- the byte is another than LF if a test of it is true that is false for LF
other : (p : ℕ → Bool) (b : ℕ) → p 10 ≡ false → p b ≡ true → b ≡ 10 → ⊥
other p b f t e = true≢false (sym t ∙ ap p e ∙ f)

choose : (c : Bool) (l : ℕ) (o : Option ℕ) (b : ℕ) → (c ≡ true → NoNewline (92 ∷ l ∷ []))
    → NoNewline (escape_by o b) → NoNewline (escape_by (cond c (Some l) o) b)
choose true l o b p q = p refl
choose false l o b p q = q

-- a backslash and three digits
abbrev octal : ℕ → List ℕ
octal b = 92 ∷ (48 + b / 64) ∷ (48 + b / 8 % 8) ∷ (48 + b % 8) ∷ []

no_newline_octal : (x y z : ℕ) → NoNewline (92 ∷ (48 + x) ∷ (48 + y) ∷ (48 + z) ∷ [])
no_newline_octal x y z =
    no_newline_cons (48 + x) ((48 + y) ∷ (48 + z) ∷ []) (λ e. omega (arith, e))
    (no_newline_cons (48 + y) ((48 + z) ∷ []) (λ e. omega (arith, e))
    (no_newline_cons (48 + z) [] (λ e. omega (arith, e)) refl))

no_newline_plain : (b : ℕ) → NoNewline (plain_or_octal b)
no_newline_plain b =
    elim (cases_Bool (nat_le 32 b && nat_lt b 127)) [
      | inl t ↦ ap (list_any (λ d. d == 10)) (cond_true (nat_le 32 b && nat_lt b 127) (b ∷ []) (octal b) t)
          ∙ no_newline_cons b [] (other (λ d. nat_le 32 d && nat_lt d 127) b refl t) refl
      | inr f ↦ ap (list_any (λ d. d == 10)) (cond_false (nat_le 32 b && nat_lt b 127) (b ∷ []) (octal b) f)
          ∙ no_newline_octal (b / 64) (b / 8 % 8) (b % 8)
    ]

no_newline_escape : (b : ℕ) → NoNewline (escape_of b)
no_newline_escape b =
    choose (b == 34 || b == 92) b _ b
    (λ t. no_newline_cons b [] (other (λ d. d == 34 || d == 92) b refl t) refl)
    (choose (b == 7) 97 _ b (λ t. refl)
    (choose (b == 8) 98 _ b (λ t. refl)
    (choose (b == 9) 116 _ b (λ t. refl)
    (choose (b == 10) 110 _ b (λ t. refl)
    (choose (b == 11) 118 _ b (λ t. refl)
    (choose (b == 12) 102 _ b (λ t. refl)
    (choose (b == 13) 114 None b (λ t. refl) (no_newline_plain b))))))))

no_newline_escaped : (path : List ℕ) → NoNewline (flat_map escape_of path)
no_newline_escaped [] = refl
no_newline_escaped (b ∷ bs) =
    no_newline_both (escape_of b) (flat_map escape_of bs) (no_newline_escape b)
    (no_newline_escaped bs)

no_newline_all : (path : List ℕ) → list_all is_plain path ≡ true → NoNewline path
no_newline_all [] t = refl
no_newline_all (b ∷ bs) t =
    let p : (is_plain b ≡ true) × (list_all is_plain bs ≡ true)
    = and_parts (is_plain b) (list_all is_plain bs) t in
    no_newline_cons b bs (other is_plain b refl p.0) (no_newline_all bs p.1)

-- the name and the TAB after it
abbrev pub name : List ℕ → List ℕ → List ℕ
name side path = side_name side path ++ tab_after path

no_newline_quoted : (side path : List ℕ) → NoNewline side → NoNewline (quoted side path)
no_newline_quoted side path e =
    no_newline_cons 34 (side ++ flat_map escape_of path ++ 34 ∷ []) (λ f. omega (arith, f))
    (no_newline_both (side ++ flat_map escape_of path) (34 ∷ [])
    (no_newline_both side (flat_map escape_of path) e (no_newline_escaped path)) refl)

no_newline_side : (side path : List ℕ) → NoNewline side → NoNewline (side_name side path)
no_newline_side side path e =
    elim (cases_Bool (list_all is_plain path)) [
      | inl t ↦ ap (list_any (λ d. d == 10))
          (cond_true (list_all is_plain path) (side ++ path) (quoted side path) t)
          ∙ no_newline_both side path e (no_newline_all path t)
      | inr f ↦ ap (list_any (λ d. d == 10))
          (cond_false (list_all is_plain path) (side ++ path) (quoted side path) f)
          ∙ no_newline_quoted side path e
    ]

no_newline_tab : (path : List ℕ) → NoNewline (tab_after path)
no_newline_tab path =
    elim (cases_Bool (list_any (λ b. b == 32) path)) [
      | inl t ↦ ap (list_any (λ d. d == 10))
          (cond_true (list_any (λ b. b == 32) path) (9 ∷ []) [] t)
      | inr f ↦ ap (list_any (λ d. d == 10))
          (cond_false (list_any (λ b. b == 32) path) (9 ∷ []) [] f)
    ]

pub no_newline_name : (side path : List ℕ) → NoNewline side → NoNewline (name side path)
no_newline_name side path e =
    no_newline_both (side_name side path) (tab_after path) (no_newline_side side path e)
    (no_newline_tab path)
