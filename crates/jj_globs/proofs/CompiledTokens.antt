-- Compiling one more token preserves the invariant: the steps accept what the tests do, and stay
-- inside.
use Rattle.std.proofs.Common.{◌≡◌, ◌∙◌, ◌-◌, ◌≤◌, ◌||◌, ◌&&◌, Bool, true, false, ℕ, zero, suc, List, [], ◌∷◌, ◌++◌, length, Option, Some, None, refl, sym, ap, subst, arith}
use Rattle.jj_globs.specs.declared.glob.token.Options.{Options}
use Rattle.jj_globs.specs.declared.glob.token.Part.{Part}
use Rattle.jj_globs.specs.declared.glob.token.Part.TheVariants.{Byte as byte, AnyByte as any_one, Star as star, LeadingDirs, InnerDirs, Below, Everything as everything, OneOf as one_of}
use Rattle.jj_globs.specs.declared.glob.token.Token.{Token}
use Rattle.jj_globs.specs.declared.glob.token.Token.TheVariants.{Part as part, Open, Or, Close}
use Rattle.jj_globs.specs.declared.glob.step.Step.{Step}
use Rattle.jj_globs.specs.declared.glob.step.Step.TheVariants.{Byte, AnyByte, OneOf, Star, Everything, Fork, Jump}
use Rattle.jj_globs.specs.declared.glob.compiler.OpenGroup.{OpenGroup}
use Rattle.jj_globs.specs.GlobMeaning.{same_byte, is_plain, in_class}
use Rattle.jj_globs.specs.GlobBacktracking.{Test, Tests, one, many, any_byte, is_slash, past_slash, part_then, test_or, test_open, test_before, tests_before}
use Rattle.jj_globs.specs.GlobNfa.{in_set, accepts_from, end_test, max_offset, TargetsInRange}
use Rattle.jj_globs.specs.GlobCompilation.{EmitsPart, EmitsToken, with_fork, test_at, AlternativesAccept, GroupsAccept, IsCompiledSoFar}
use Rattle.jj_globs.proofs.StateTests.{later, one_same, many_same}
use Rattle.jj_globs.proofs.CompiledParts.{below_steps, leading_steps, one_slash}

or_false : (v : Bool) → (v || false) ≡ v
or_false true = refl
or_false false = refl

or_turned : (u v : Bool) → (u || v) ≡ (v || u)
or_turned true true = refl
or_turned true false = refl
or_turned false true = refl
or_turned false false = refl

past_same : (t u : Test) → ((bs : List ℕ) → t bs ≡ u bs) → (bs : List ℕ) → past_slash t bs ≡ past_slash u bs
past_same t u e [] = refl
past_same t u e (b ∷ bs) = ap (λ v. (is_slash b && v) || past_slash t bs) (e bs) ∙ ap (λ v. (is_slash b && u bs) || v) (past_same t u e bs)

test_same : (p q : ℕ → Bool) (t : Test) → ((b : ℕ) → p b ≡ q b) → (bs : List ℕ) → one p t bs ≡ one q t bs
test_same p q t e [] = refl
test_same p q t e (b ∷ bs) = ap (λ v. v && t bs) (e b)

-- 1. A state that is named by the steps after it keeps its language when a step is prepended.

module _ (o : Options) (below : Bool) where
  pub kept : (s : Step) (ss : List Step) (k : ℕ) → k ≤ length ss → (bs : List ℕ) → test_at o below (s ∷ ss) k bs ≡ test_at o below ss k bs
  kept s ss k within bs = later o below s ss (length (s ∷ ss) - k) (length ss - k) (omega (arith, within)) bs

  pub at_front : (ss : List Step) (bs : List ℕ) → test_at o below ss (length ss) bs ≡ accepts_from o below ss 0 bs
  at_front ss bs = let none : length ss - length ss ≡ 0 = omega arith in ap (λ (k : ℕ). accepts_from o below ss k bs) none

  any_kept : (s : Step) (ss : List Step) (any : Option ℕ) (t : Test) → AlternativesAccept o below ss any t → AlternativesAccept o below (s ∷ ss) any t
  any_kept s ss None t h = h
  any_kept s ss (Some n) t h = let within = h.0 in ((omega (arith, within)), (λ bs. kept s ss n within bs ∙ h.1 bs))

  pub outer_kept : (s : Step) (ss : List Step) (gs : List OpenGroup) (ts : List (Test × Test)) → GroupsAccept o below ss gs ts → GroupsAccept o below (s ∷ ss) gs ts
  outer_kept s ss [] [] h = tt
  outer_kept s ss [] (t ∷ ts) h = absurd h
  outer_kept s ss (g ∷ gs) [] h = absurd h
  outer_kept s ss (g ∷ gs) (t ∷ ts) h =
      let within = h.1 in (
        any_kept s ss g.any t.0 h.0,
        (omega (arith, within)),
        (λ bs. kept s ss g.after within bs ∙ h.2 bs),
        outer_kept s ss gs ts h.3,
      )

  -- 2. Groups.

  fork_accepts : (any : Option ℕ) (ss : List Step) (t u : Test) → AlternativesAccept o below ss any u → ((bs : List ℕ) → accepts_from o below ss 0 bs ≡ t bs)
      → (bs : List ℕ) → accepts_from o below (with_fork any ss) 0 bs ≡ (t bs || u bs)
  fork_accepts None ss t u none here bs = here bs ∙ sym (ap (λ v. t bs || v) (none bs) ∙ or_false (t bs))
  fork_accepts (Some n) ss t u others here bs =
      ap (λ v. v || accepts_from o below ss (length ss - n) bs) (here bs) ∙ ap (λ v. t bs || v) (others.1 bs)

  outer_forked : (any : Option ℕ) (ss : List Step) (gs : List OpenGroup) (ts : List (Test × Test)) → GroupsAccept o below ss gs ts → GroupsAccept o below (with_fork any ss) gs ts
  outer_forked None ss gs ts h = h
  outer_forked (Some n) ss gs ts h = outer_kept (Fork (length ss - n)) ss gs ts h

  after_forked : (any : Option ℕ) (ss : List Step) (k : ℕ) (t : Test) → k ≤ length ss → ((bs : List ℕ) → test_at o below ss k bs ≡ t bs)
      → (k ≤ length (with_fork any ss)) × ((bs : List ℕ) → test_at o below (with_fork any ss) k bs ≡ t bs)
  after_forked None ss k t within h = (within, h)
  after_forked (Some n) ss k t within h = ((omega (arith, within)), (λ bs. kept (Fork (length ss - n)) ss k within bs ∙ h bs))

  lower_or : (ss : List Step) (g : OpenGroup) (gs : List OpenGroup) (t : Test) (us : List (Test × Test))
      → ((bs : List ℕ) → accepts_from o below ss 0 bs ≡ t bs) → GroupsAccept o below ss (g ∷ gs) us
      → IsCompiledSoFar o below (Jump (length (with_fork g.any ss) - g.after) ∷ with_fork g.any ss)
      (record { any = Some (length (with_fork g.any ss)); after = g.after } ∷ gs) (test_or t us)
  lower_or ss g gs t [] here h = absurd h
  lower_or ss g gs t (u ∷ us) here h =
      let fs : List Step = with_fork g.any ss in
      let jump : Step = Jump (length fs - g.after) in
      let begins = fork_accepts g.any ss t u.0 h.0 here in
      let after = after_forked g.any ss g.after u.1 h.1 h.2 in
      let least = after.0 in
      record {
        here = λ bs. after.1 bs;
        outer = (
          ((omega arith), (λ bs. kept jump fs (length fs) (omega arith) bs ∙ at_front fs bs ∙ begins bs)),
          (omega (arith, least)),
          (λ bs. kept jump fs g.after after.0 bs ∙ after.1 bs),
          outer_kept jump fs gs us (outer_forked g.any ss gs us h.3),
        );
      }

  lower_open : (ss : List Step) (g : OpenGroup) (gs : List OpenGroup) (t : Test) (us : List (Test × Test))
      → ((bs : List ℕ) → accepts_from o below ss 0 bs ≡ t bs) → GroupsAccept o below ss (g ∷ gs) us
      → IsCompiledSoFar o below (with_fork g.any ss) gs (test_open t us)
  lower_open ss g gs t [] here h = absurd h
  lower_open ss g gs t (u ∷ us) here h =
      record { here = fork_accepts g.any ss t u.0 h.0 here; outer = outer_forked g.any ss gs us h.3 }

  no_group_or : (ss : List Step) (t : Test) (us : List (Test × Test))
      → ((bs : List ℕ) → accepts_from o below ss 0 bs ≡ t bs) → GroupsAccept o below ss [] us → IsCompiledSoFar o below ss [] (test_or t us)
  no_group_or ss t [] here h = record { here = here; outer = tt }
  no_group_or ss t (u ∷ us) here h = absurd h

  no_group_open : (ss : List Step) (t : Test) (us : List (Test × Test))
      → ((bs : List ℕ) → accepts_from o below ss 0 bs ≡ t bs) → GroupsAccept o below ss [] us → IsCompiledSoFar o below ss [] (test_open t us)
  no_group_open ss t [] here h = record { here = here; outer = tt }
  no_group_open ss t (u ∷ us) here h = absurd h

  -- 3. Parts.

  renamed : (ss new : List Step) (gs : List OpenGroup) (t : Tests) → new ≡ ss → IsCompiledSoFar o below ss gs t → IsCompiledSoFar o below new gs t
  renamed ss new gs t e h = subst (λ (x : List Step). IsCompiledSoFar o below x gs t) (sym e) h

  abbrev Then : Part → List Step → List OpenGroup → Tests → Type 0
  Then p ss gs t = IsCompiledSoFar o below ss gs (record { here = part_then o p t.here; outer = t.outer })

  dirs_accept : (ss : List Step) (t : Test) → ((bs : List ℕ) → accepts_from o below ss 0 bs ≡ t bs)
      → (bs : List ℕ) → accepts_from o below (Fork 2 ∷ Everything ∷ Byte 47 ∷ ss) 0 bs ≡ (t bs || past_slash t bs)
  dirs_accept ss t here bs =
      leading_steps o below ss bs ∙ ap (λ v. v || accepts_from o below ss 0 bs) (past_same (accepts_from o below ss 0) t here bs)
      ∙ ap (λ v. past_slash t bs || v) (here bs) ∙ or_turned (past_slash t bs) (t bs)

  outer_dirs : (ss : List Step) (gs : List OpenGroup) (ts : List (Test × Test)) → GroupsAccept o below ss gs ts → GroupsAccept o below (Fork 2 ∷ Everything ∷ Byte 47 ∷ ss) gs ts
  outer_dirs ss gs ts h =
      outer_kept (Fork 2) (Everything ∷ Byte 47 ∷ ss) gs ts (outer_kept Everything (Byte 47 ∷ ss) gs ts (outer_kept (Byte 47) ss gs ts h))

  lower_part : (p : Part) (ss new : List Step) (gs : List OpenGroup) (t : Tests) → EmitsPart o p ss new → IsCompiledSoFar o below ss gs t → Then p new gs t
  lower_part (byte c) ss new gs t a h =
      renamed (Byte c ∷ ss) new gs (record { here = part_then o (byte c) t.here; outer = t.outer }) a
      (record { here = one_same (same_byte o c) (accepts_from o below ss 0) t.here h.here; outer = outer_kept (Byte c) ss gs t.outer h.outer })
  lower_part any_one ss new gs t a h =
      renamed (AnyByte ∷ ss) new gs (record { here = part_then o any_one t.here; outer = t.outer }) a
      (record { here = one_same (is_plain o) (accepts_from o below ss 0) t.here h.here; outer = outer_kept AnyByte ss gs t.outer h.outer })
  lower_part (one_of c) ss new gs t a h =
      renamed (OneOf a.0 ∷ ss) new gs (record { here = part_then o (one_of c) t.here; outer = t.outer }) a.1
      (record {
        here = λ bs. one_same (in_set a.0) (accepts_from o below ss 0) t.here h.here bs ∙ test_same (in_set a.0) (in_class o c) t.here a.2 bs;
        outer = outer_kept (OneOf a.0) ss gs t.outer h.outer;
      })
  lower_part star ss new gs t a h =
      renamed (Star ∷ ss) new gs (record { here = part_then o star t.here; outer = t.outer }) a
      (record { here = many_same (is_plain o) (accepts_from o below ss 0) t.here h.here; outer = outer_kept Star ss gs t.outer h.outer })
  lower_part everything ss new gs t a h =
      renamed (Everything ∷ ss) new gs (record { here = part_then o everything t.here; outer = t.outer }) a
      (record { here = many_same any_byte (accepts_from o below ss 0) t.here h.here; outer = outer_kept Everything ss gs t.outer h.outer })
  lower_part Below ss new gs t a h =
      renamed (Byte 47 ∷ Everything ∷ ss) new gs (record { here = part_then o Below t.here; outer = t.outer }) a
      (record {
        here = λ bs. below_steps o below ss bs
            ∙ one_same is_slash (many any_byte (accepts_from o below ss 0)) (many any_byte t.here) (many_same any_byte (accepts_from o below ss 0) t.here h.here) bs;
        outer = outer_kept (Byte 47) (Everything ∷ ss) gs t.outer (outer_kept Everything ss gs t.outer h.outer);
      })
  lower_part LeadingDirs ss new gs t a h =
      renamed (Fork 2 ∷ Everything ∷ Byte 47 ∷ ss) new gs (record { here = part_then o LeadingDirs t.here; outer = t.outer }) a
      (record { here = dirs_accept ss t.here h.here; outer = outer_dirs ss gs t.outer h.outer })
  lower_part InnerDirs ss new gs t a h =
      let dirs : List Step = Fork 2 ∷ Everything ∷ Byte 47 ∷ ss in
      renamed (Byte 47 ∷ dirs) new gs (record { here = part_then o InnerDirs t.here; outer = t.outer }) a
      (record {
        here = λ bs. one_slash o (accepts_from o below dirs 0) bs
            ∙ one_same is_slash (accepts_from o below dirs 0) (λ rest. t.here rest || past_slash t.here rest) (dirs_accept ss t.here h.here) bs;
        outer = outer_kept (Byte 47) dirs gs t.outer (outer_dirs ss gs t.outer h.outer);
      })

  -- 4. Tokens.

  both : (ss new : List Step) (gs opened : List OpenGroup) (t : Tests) → new ≡ ss → opened ≡ gs → IsCompiledSoFar o below ss gs t → IsCompiledSoFar o below new opened t
  both ss new gs opened t e f h = subst (λ (x : List OpenGroup). IsCompiledSoFar o below new x t) (sym f) (renamed ss new gs t e h)

  pub lower_token : (k : Token) (ss new : List Step) (gs opened : List OpenGroup) (t : Tests) → EmitsToken o k ss gs new opened → IsCompiledSoFar o below ss gs t
      → IsCompiledSoFar o below new opened (test_before o k t)
  lower_token (part p) ss new gs opened t a h =
      subst (λ (x : List OpenGroup). IsCompiledSoFar o below new x (test_before o (part p) t)) (sym a.1) (lower_part p ss new gs t a.0 h)
  lower_token Close ss new gs opened t a h =
      both ss new (record { any = None; after = length ss } ∷ gs) opened (test_before o Close t) a.0 a.1
      (record { here = h.here; outer = ((λ bs. refl), (omega arith), (λ bs. at_front ss bs ∙ h.here bs), h.outer) })
  lower_token Or ss new [] opened t a h = both ss new [] opened (test_before o Or t) a.0 a.1 (no_group_or ss t.here t.outer h.here h.outer)
  lower_token Or ss new (g ∷ gs) opened t a h =
      both (Jump (length (with_fork g.any ss) - g.after) ∷ with_fork g.any ss) new (record { any = Some (length (with_fork g.any ss)); after = g.after } ∷ gs) opened
      (test_before o Or t) a.0 a.1 (lower_or ss g gs t.here t.outer h.here h.outer)
  lower_token Open ss new [] opened t a h = both ss new [] opened (test_before o Open t) a.0 a.1 (no_group_open ss t.here t.outer h.here h.outer)
  lower_token Open ss new (g ∷ gs) opened t a h =
      both (with_fork g.any ss) new gs opened (test_before o Open t) a.0 a.1 (lower_open ss g gs t.here t.outer h.here h.outer)

-- 5. No step leads past the end.

pub inside_step : (s : Step) (ss : List Step) → max_offset s ≤ length ss → TargetsInRange ss → TargetsInRange (s ∷ ss)
inside_step s ss within h zero x e =
    let same : s ≡ x = cc in
    let further : max_offset s ≡ max_offset x = ap max_offset same in
    omega (arith, further, within)
inside_step s ss within h (suc k) x e = let held = h k x e in omega (arith, held)

inside_dirs : (ss : List Step) → TargetsInRange ss → TargetsInRange (Fork 2 ∷ Everything ∷ Byte 47 ∷ ss)
inside_dirs ss h =
    inside_step (Fork 2) (Everything ∷ Byte 47 ∷ ss) (omega arith)
    (inside_step Everything (Byte 47 ∷ ss) (omega arith) (inside_step (Byte 47) ss (omega arith) h))

inside_forked : (any : Option ℕ) (ss : List Step) → TargetsInRange ss → TargetsInRange (with_fork any ss)
inside_forked None ss h = h
inside_forked (Some n) ss h = inside_step (Fork (length ss - n)) ss (omega arith) h

renamed_inside : (ss new : List Step) → new ≡ ss → TargetsInRange ss → TargetsInRange new
renamed_inside ss new e h = subst (λ (x : List Step). TargetsInRange x) (sym e) h

inside_part : (o : Options) (p : Part) (ss new : List Step) → EmitsPart o p ss new → TargetsInRange ss → TargetsInRange new
inside_part o (byte c) ss new a h = renamed_inside (Byte c ∷ ss) new a (inside_step (Byte c) ss (omega arith) h)
inside_part o any_one ss new a h = renamed_inside (AnyByte ∷ ss) new a (inside_step AnyByte ss (omega arith) h)
inside_part o (one_of c) ss new a h = renamed_inside (OneOf a.0 ∷ ss) new a.1 (inside_step (OneOf a.0) ss (omega arith) h)
inside_part o star ss new a h = renamed_inside (Star ∷ ss) new a (inside_step Star ss (omega arith) h)
inside_part o everything ss new a h = renamed_inside (Everything ∷ ss) new a (inside_step Everything ss (omega arith) h)
inside_part o Below ss new a h =
    renamed_inside (Byte 47 ∷ Everything ∷ ss) new a (inside_step (Byte 47) (Everything ∷ ss) (omega arith) (inside_step Everything ss (omega arith) h))
inside_part o LeadingDirs ss new a h = renamed_inside (Fork 2 ∷ Everything ∷ Byte 47 ∷ ss) new a (inside_dirs ss h)
inside_part o InnerDirs ss new a h =
    renamed_inside (Byte 47 ∷ Fork 2 ∷ Everything ∷ Byte 47 ∷ ss) new a (inside_step (Byte 47) (Fork 2 ∷ Everything ∷ Byte 47 ∷ ss) (omega arith) (inside_dirs ss h))

pub inside_token : (o : Options) (k : Token) (ss new : List Step) (gs opened : List OpenGroup) → EmitsToken o k ss gs new opened → TargetsInRange ss → TargetsInRange new
inside_token o (part p) ss new gs opened a h = inside_part o p ss new a.0 h
inside_token o Close ss new gs opened a h = renamed_inside ss new a.0 h
inside_token o Or ss new [] opened a h = renamed_inside ss new a.0 h
inside_token o Or ss new (g ∷ gs) opened a h =
    let fs : List Step = with_fork g.any ss in
    renamed_inside (Jump (length fs - g.after) ∷ fs) new a.0 (inside_step (Jump (length fs - g.after)) fs (omega arith) (inside_forked g.any ss h))
inside_token o Open ss new [] opened a h = renamed_inside ss new a.0 h
inside_token o Open ss new (g ∷ gs) opened a h = renamed_inside (with_fork g.any ss) new a.0 (inside_forked g.any ss h)

pub nothing_inside : TargetsInRange []
nothing_inside = λ k s e. cc

pub inside_after : (s : Step) (ss : List Step) → TargetsInRange (s ∷ ss) → TargetsInRange ss
inside_after s ss h = λ k x e. let held = h (suc k) x e in omega (arith, held)

-- 6. All tokens, from the last one on.

abbrev pub tests_over : Options → List Token → Tests → Tests
tests_over o [] t = t
tests_over o (k ∷ ks) t = test_before o k (tests_over o ks t)

pub tests_over-end : (o : Options) (ks : List Token) (end : Test) → tests_over o ks (record { here = end; outer = [] }) ≡ tests_before o end ks
tests_over-end o [] end = refl
tests_over-end o (k ∷ ks) end = ap (test_before o k) (tests_over-end o ks end)

pub tests_over-last : (o : Options) (ks : List Token) (k : Token) (t : Tests) → tests_over o (ks ++ k ∷ []) t ≡ tests_over o ks (test_before o k t)
tests_over-last o [] k t = refl
tests_over-last o (x ∷ ks) k t = ap (test_before o x) (tests_over-last o ks k t)

pub lowered_end : (o : Options) (below : Bool) → IsCompiledSoFar o below [] [] (record { here = end_test below; outer = [] })
lowered_end o below = record { here = λ bs. refl; outer = tt }
