-- Every list of steps has a test for each state.
use Rattle.std.proofs.Common.{◌≡◌, ◌∙◌, ◌+◌, ◌||◌, ◌&&◌, Bool, ℕ, zero, suc, List, [], ◌∷◌, length, Some, refl, sym, ap, arith}
use Rattle.std.specs.Prelude.{slice_get}
use Rattle.jj_globs.specs.declared.glob.step.Step.{Step}
use Rattle.jj_globs.specs.declared.glob.step.Step.TheVariants.{Byte, AnyByte, OneOf, Star, Everything, Fork, Jump}
use Rattle.jj_globs.specs.declared.glob.token.Options.{Options}
use Rattle.jj_globs.specs.GlobMeaning.{same_byte, is_plain}
use Rattle.jj_globs.specs.GlobBacktracking.{Test, one, many, any_byte}
use Rattle.jj_globs.specs.GlobNfa.{in_set, end_test, step_then, accepts_from, step_at, Solves}

-- a later state, without the first step
pub later : (o : Options) (below : Bool) (s : Step) (ss : List Step) (j k : ℕ) → j ≡ suc k → (bs : List ℕ) → accepts_from o below (s ∷ ss) j bs ≡ accepts_from o below ss k bs
later o below s ss j k e bs = ap (λ (i : ℕ). accepts_from o below (s ∷ ss) i bs) e

pub one_same : (p : ℕ → Bool) (t u : Test) → ((bs : List ℕ) → t bs ≡ u bs) → (bs : List ℕ) → one p t bs ≡ one p u bs
one_same p t u e [] = refl
one_same p t u e (b ∷ bs) = ap (λ v. p b && v) (e bs)

pub many_same : (p : ℕ → Bool) (t u : Test) → ((bs : List ℕ) → t bs ≡ u bs) → (bs : List ℕ) → many p t bs ≡ many p u bs
many_same p t u e [] = e []
many_same p t u e (b ∷ bs) = ap (λ v. v || (p b && many p t bs)) (e (b ∷ bs)) ∙ ap (λ v. u (b ∷ bs) || (p b && v)) (many_same p t u e bs)

-- the first state, and the states after it
at_first : (o : Options) (below : Bool) (s : Step) (ss : List Step) (bs : List ℕ) → step_then o (accepts_from o below ss) s bs ≡ step_at o (accepts_from o below (s ∷ ss)) s 0 bs
at_first o below (Byte c) ss bs = one_same (same_byte o c) (accepts_from o below ss 0) (accepts_from o below (Byte c ∷ ss) (0 + 1)) (λ x. sym (later o below (Byte c) ss (0 + 1) 0 (omega arith) x)) bs
at_first o below AnyByte ss bs = one_same (is_plain o) (accepts_from o below ss 0) (accepts_from o below (AnyByte ∷ ss) (0 + 1)) (λ x. sym (later o below AnyByte ss (0 + 1) 0 (omega arith) x)) bs
at_first o below (OneOf set) ss bs = one_same (in_set set) (accepts_from o below ss 0) (accepts_from o below (OneOf set ∷ ss) (0 + 1)) (λ x. sym (later o below (OneOf set) ss (0 + 1) 0 (omega arith) x)) bs
at_first o below Star ss bs = many_same (is_plain o) (accepts_from o below ss 0) (accepts_from o below (Star ∷ ss) (0 + 1)) (λ x. sym (later o below Star ss (0 + 1) 0 (omega arith) x)) bs
at_first o below Everything ss bs = many_same any_byte (accepts_from o below ss 0) (accepts_from o below (Everything ∷ ss) (0 + 1)) (λ x. sym (later o below Everything ss (0 + 1) 0 (omega arith) x)) bs
at_first o below (Fork d) ss bs =
    ap (λ v. v || accepts_from o below ss d bs) (sym (later o below (Fork d) ss (0 + 1) 0 (omega arith) bs))
    ∙ ap (λ v. accepts_from o below (Fork d ∷ ss) (0 + 1) bs || v) (sym (later o below (Fork d) ss (0 + 1 + d) d (omega arith) bs))
at_first o below (Jump d) ss bs = sym (later o below (Jump d) ss (0 + 1 + d) d (omega arith) bs)

at_later : (o : Options) (below : Bool) (x s : Step) (ss : List Step) (k : ℕ) (bs : List ℕ) → step_at o (accepts_from o below ss) s k bs ≡ step_at o (accepts_from o below (x ∷ ss)) s (suc k) bs
at_later o below x (Byte c) ss k bs = one_same (same_byte o c) (accepts_from o below ss (k + 1)) (accepts_from o below (x ∷ ss) (suc k + 1)) (λ y. sym (later o below x ss (suc k + 1) (k + 1) (omega arith) y)) bs
at_later o below x AnyByte ss k bs = one_same (is_plain o) (accepts_from o below ss (k + 1)) (accepts_from o below (x ∷ ss) (suc k + 1)) (λ y. sym (later o below x ss (suc k + 1) (k + 1) (omega arith) y)) bs
at_later o below x (OneOf set) ss k bs = one_same (in_set set) (accepts_from o below ss (k + 1)) (accepts_from o below (x ∷ ss) (suc k + 1)) (λ y. sym (later o below x ss (suc k + 1) (k + 1) (omega arith) y)) bs
at_later o below x Star ss k bs = many_same (is_plain o) (accepts_from o below ss (k + 1)) (accepts_from o below (x ∷ ss) (suc k + 1)) (λ y. sym (later o below x ss (suc k + 1) (k + 1) (omega arith) y)) bs
at_later o below x Everything ss k bs = many_same any_byte (accepts_from o below ss (k + 1)) (accepts_from o below (x ∷ ss) (suc k + 1)) (λ y. sym (later o below x ss (suc k + 1) (k + 1) (omega arith) y)) bs
at_later o below x (Fork d) ss k bs =
    ap (λ v. v || accepts_from o below ss (k + 1 + d) bs) (sym (later o below x ss (suc k + 1) (k + 1) (omega arith) bs))
    ∙ ap (λ v. accepts_from o below (x ∷ ss) (suc k + 1) bs || v) (sym (later o below x ss (suc k + 1 + d) (k + 1 + d) (omega arith) bs))
at_later o below x (Jump d) ss k bs = sym (later o below x ss (suc k + 1 + d) (k + 1 + d) (omega arith) bs)

at_end : (o : Options) (below : Bool) (ss : List Step) (bs : List ℕ) → accepts_from o below ss (length ss) bs ≡ end_test below bs
at_end o below [] bs = refl
at_end o below (s ∷ ss) bs = later o below s ss (length (s ∷ ss)) (length ss) (omega arith) bs ∙ at_end o below ss bs

pub at_step : (o : Options) (below : Bool) (ss : List Step) (k : ℕ) (s : Step) → slice_get ss k ≡ Some s → (bs : List ℕ) → accepts_from o below ss k bs ≡ step_at o (accepts_from o below ss) s k bs
at_step o below [] k s e bs = cc
at_step o below (x ∷ ss) zero s e bs =
    let same : x ≡ s = cc in at_first o below x ss bs ∙ ap (λ (y : Step). step_at o (accepts_from o below (x ∷ ss)) y 0 bs) same
at_step o below (x ∷ ss) (suc k) s e bs = at_step o below ss k s e bs ∙ at_later o below x s ss k bs

pub answers_solve : (o : Options) (below : Bool) (ss : List Step) → Solves o below ss (accepts_from o below ss)
answers_solve o below ss = record { at_end = at_end o below ss; at_step = at_step o below ss }
