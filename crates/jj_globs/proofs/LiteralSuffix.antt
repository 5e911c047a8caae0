-- Every match ends with the literal suffix.
use Rattle.std.proofs.Common.{◌≡◌, ◌∙◌, ◌≤◌, ◌&&◌, ◌||◌, ◌⊎◌, inl, inr, Bool, true, false, ℕ, zero, suc, List, [], ◌∷◌, ◌++◌, length, reverse, drop, Some, refl, sym, ap, arith}
use Rattle.std.specs.Prelude.{slice_get}
use Rattle.std.proofs.lemmas.List.{length-reverse, reverse-append}
use Rattle.jj_globs.specs.declared.glob.token.Options.{Options}
use Rattle.jj_globs.specs.declared.glob.step.Step.{Step}
use Rattle.jj_globs.specs.declared.glob.step.Step.TheVariants.{Byte, AnyByte, OneOf, Star, Everything, Fork, Jump}
use Rattle.jj_globs.specs.GlobMeaning.{same_byte, is_plain}
use Rattle.jj_globs.specs.GlobBacktracking.{Test, one, many, any_byte}
use Rattle.jj_globs.specs.GlobNfa.{accepts_from, in_set, max_offset}
use Rattle.jj_globs.specs.GlobSuffix.{IsLiteralStep, IsLiteralSuffix, matches_reversed}

-- 1. Prepended bytes change nothing; a prepended literal and byte fit if they are equal.

fits_longer : (o : Options) (ss : List Step) (bs more : List ℕ) → matches_reversed o ss bs ≡ true → matches_reversed o ss (bs ++ more) ≡ true
fits_longer o [] bs more h = refl
fits_longer o (Byte own ∷ ss) [] more h = cc h
fits_longer o (Byte own ∷ ss) (b ∷ bs) more h =
    elim (same_byte o own b) as (λ v. v && matches_reversed o ss bs ≡ true → v && matches_reversed o ss (bs ++ more) ≡ true) [
      | true ↦ λ h. fits_longer o ss bs more h
      | false ↦ λ h. cc h
    ] h
fits_longer o (AnyByte ∷ ss) bs more h = refl
fits_longer o (OneOf set ∷ ss) bs more h = refl
fits_longer o (Star ∷ ss) bs more h = refl
fits_longer o (Everything ∷ ss) bs more h = refl
fits_longer o (Fork further ∷ ss) bs more h = refl
fits_longer o (Jump further ∷ ss) bs more h = refl

fits_more : (o : Options) (ss : List Step) (bs : List ℕ) (own b : ℕ) → length ss ≡ length bs → matches_reversed o ss bs ≡ true → same_byte o own b ≡ true
    → matches_reversed o (ss ++ Byte own ∷ []) (bs ++ b ∷ []) ≡ true
fits_more o [] [] own b len h same = ap (λ v. v && true) same
fits_more o [] (c ∷ bs) own b len h same = absurd (omega (arith, len))
fits_more o (Byte first ∷ ss) [] own b len h same = absurd (omega (arith, len))
fits_more o (Byte first ∷ ss) (c ∷ bs) own b len h same =
    elim (same_byte o first c) as (λ v. v && matches_reversed o ss bs ≡ true → v && matches_reversed o (ss ++ Byte own ∷ []) (bs ++ b ∷ []) ≡ true) [
      | true ↦ λ h. fits_more o ss bs own b (omega (arith, len)) h same
      | false ↦ λ h. cc h
    ] h
fits_more o (AnyByte ∷ ss) bs own b len h same = refl
fits_more o (OneOf set ∷ ss) bs own b len h same = refl
fits_more o (Star ∷ ss) bs own b len h same = refl
fits_more o (Everything ∷ ss) bs own b len h same = refl
fits_more o (Fork further ∷ ss) bs own b len h same = refl
fits_more o (Jump further ∷ ss) bs own b len h same = refl

-- 2. Steps that are all literals accept as many bytes, which fit.

pub record Fits (o : Options) (ss : List Step) (bs : List ℕ) : Type 0 where
  pub len : length ss ≡ length bs
  pub fit : matches_reversed o (reverse ss) (reverse bs) ≡ true

and_split : (a b : Bool) → a && b ≡ true → (a ≡ true) × (b ≡ true)
and_split true b h = (refl, h)
and_split false b h = cc h

rev_cons : {A : Type 0} (x : A) (xs : List A) → reverse (x ∷ xs) ≡ reverse xs ++ x ∷ []
rev_cons x xs = reverse-append (x ∷ []) xs

abbrev OnlyBytes : List Step → Type 0
OnlyBytes ss = (k : ℕ) (s : Step) → slice_get ss k ≡ Some s → IsLiteralStep s

bytes_fit : (o : Options) (ss : List Step) → OnlyBytes ss → (bs : List ℕ) → accepts_from o false ss 0 bs ≡ true → Fits o ss bs
bytes_fit o [] only [] h = record { len = refl; fit = refl }
bytes_fit o [] only (b ∷ bs) h = cc h
bytes_fit o (Byte own ∷ ss) only [] h = cc h
bytes_fit o (Byte own ∷ ss) only (b ∷ bs) h =
    let (same, after) = and_split (same_byte o own b) (accepts_from o false ss 0 bs) h in
    let rest = bytes_fit o ss (λ k x e. only (suc k) x e) bs after in
    let grown = fits_more o (reverse ss) (reverse bs) own b (length-reverse ss ∙ rest.len ∙ sym (length-reverse bs)) rest.fit same in
    record { len = ap suc rest.len; fit = ap (λ l. matches_reversed o l (reverse (b ∷ bs))) (rev_cons (Byte own) ss) ∙ ap (matches_reversed o (reverse ss ++ Byte own ∷ [])) (rev_cons b bs) ∙ grown }
bytes_fit o (AnyByte ∷ ss) only bs h = let (b, is) = only 0 AnyByte refl in cc is
bytes_fit o (OneOf set ∷ ss) only bs h = let (b, is) = only 0 (OneOf set) refl in cc is
bytes_fit o (Star ∷ ss) only bs h = let (b, is) = only 0 Star refl in cc is
bytes_fit o (Everything ∷ ss) only bs h = let (b, is) = only 0 Everything refl in cc is
bytes_fit o (Fork further ∷ ss) only bs h = let (b, is) = only 0 (Fork further) refl in cc is
bytes_fit o (Jump further ∷ ss) only bs h = let (b, is) = only 0 (Jump further) refl in cc is

-- 3. A step before the literal suffix leads to a state from which the suffix fits.

module _ (o : Options) (end : List Step) where
  abbrev Ends : List ℕ → Type 0
  Ends bs = matches_reversed o end (reverse bs) ≡ true

  ends_after : (b : ℕ) (bs : List ℕ) → Ends bs → Ends (b ∷ bs)
  ends_after b bs h = ap (matches_reversed o end) (rev_cons b bs) ∙ fits_longer o end (reverse bs) (b ∷ []) h

  one_ends : (p : ℕ → Bool) (next : Test) → ((bs : List ℕ) → next bs ≡ true → Ends bs) → (bs : List ℕ) → one p next bs ≡ true → Ends bs
  one_ends p next ends [] h = cc h
  one_ends p next ends (b ∷ bs) h = ends_after b bs (ends bs (and_split (p b) (next bs) h).1)

  or_split : (a b : Bool) → a || b ≡ true → (a ≡ true) ⊎ (b ≡ true)
  or_split true b h = inl refl
  or_split false b h = inr h

  many_ends : (p : ℕ → Bool) (next : Test) → ((bs : List ℕ) → next bs ≡ true → Ends bs) → (bs : List ℕ) → many p next bs ≡ true → Ends bs
  many_ends p next ends [] h = ends [] h
  many_ends p next ends (b ∷ bs) h = elim (or_split (next (b ∷ bs)) (p b && many p next bs) h) [
    | inl now ↦ ends (b ∷ bs) now
    | inr later ↦ ends_after b bs (many_ends p next ends bs (and_split (p b) (many p next bs) later).1)
  ]

  step_ends : (s : Step) (ss : List Step) (state : ℕ) → max_offset s ≤ state
      → ((k : ℕ) → k ≤ state → (bs : List ℕ) → accepts_from o false ss k bs ≡ true → Ends bs)
      → (bs : List ℕ) → accepts_from o false (s ∷ ss) 0 bs ≡ true → Ends bs
  step_ends (Byte own) ss state far ends bs h = one_ends (same_byte o own) (accepts_from o false ss 0) (ends 0 (omega arith)) bs h
  step_ends AnyByte ss state far ends bs h = one_ends (is_plain o) (accepts_from o false ss 0) (ends 0 (omega arith)) bs h
  step_ends (OneOf set) ss state far ends bs h = one_ends (in_set set) (accepts_from o false ss 0) (ends 0 (omega arith)) bs h
  step_ends Star ss state far ends bs h = many_ends (is_plain o) (accepts_from o false ss 0) (ends 0 (omega arith)) bs h
  step_ends Everything ss state far ends bs h = many_ends any_byte (accepts_from o false ss 0) (ends 0 (omega arith)) bs h
  step_ends (Fork further) ss state far ends bs h = elim (or_split (accepts_from o false ss 0 bs) (accepts_from o false ss further bs) h) [
    | inl now ↦ ends 0 (omega arith) bs now
    | inr later ↦ ends further far bs later
  ]
  step_ends (Jump further) ss state far ends bs h = ends further far bs h

after_first : (s : Step) (ss : List Step) (state : ℕ) → IsLiteralSuffix (s ∷ ss) (suc state) → IsLiteralSuffix ss state
after_first s ss state held = record {
  within = let w = held.within in omega (arith, w);
  inside = λ k x e lt. let r = held.inside (suc k) x e (omega (arith, lt)) in omega (arith, r);
  bytes = λ k x e le. held.bytes (suc k) x e (omega (arith, le));
}

-- accepted bytes end with the literal suffix
pub literal_fits : (o : Options) (ss : List Step) (state : ℕ) → IsLiteralSuffix ss state → (k : ℕ) → k ≤ state → (bs : List ℕ)
    → accepts_from o false ss k bs ≡ true → matches_reversed o (reverse (drop state ss)) (reverse bs) ≡ true
literal_fits o ss zero held zero le bs h = (bytes_fit o ss (λ k s e. held.bytes k s e (omega arith)) bs h).fit
literal_fits o ss zero held (suc k) le bs h = absurd (omega (arith, le))
literal_fits o [] (suc state) held k le bs h = absurd (let w = held.within in omega (arith, w))
literal_fits o (s ∷ ss) (suc state) held zero le bs h =
    step_ends o (reverse (drop state ss)) s ss state (let r = held.inside 0 s refl (omega arith) in omega (arith, r))
    (λ k le bs h. literal_fits o ss state (after_first s ss state held) k le bs h) bs h
literal_fits o (s ∷ ss) (suc state) held (suc k) le bs h = literal_fits o ss state (after_first s ss state held) k (omega (arith, le)) bs h
