-- The steps of a part accept what the part matches, then the continuation.
use Rattle.std.proofs.Common.{◌≡◌, ◌∙◌, ◌+◌, ◌||◌, ◌&&◌, ◌==◌, Bool, true, false, if◌then◌else◌, nat_le, ℕ, List, [], ◌∷◌, refl, sym, ap, inl, inr, arith}
use Rattle.std.proofs.lemmas.Bool.Decides.{eqb_tells, leb_tells}
use Rattle.jj_globs.specs.declared.glob.step.Step.{Step}
use Rattle.jj_globs.specs.declared.glob.step.Step.TheVariants.{Byte, Everything, Fork}
use Rattle.jj_globs.specs.declared.glob.token.Options.{Options}
use Rattle.jj_globs.specs.GlobMeaning.{same_byte, lower}
use Rattle.jj_globs.specs.GlobBacktracking.{Test, one, many, any_byte, past_slash, is_slash}
use Rattle.jj_globs.specs.GlobNfa.{accepts_from}

same_eq : (a b c d : ℕ) → (a ≡ b → c ≡ d) → (c ≡ d → a ≡ b) → (a == b) ≡ (c == d)
same_eq a b c d f g =
    elim (eqb_tells a b) [
      | inl w ↦ elim (eqb_tells c d) [ inl v ↦ w.0 ∙ sym v.0 | inr v ↦ absurd (v.1 (f w.1)) ]
      | inr w ↦ elim (eqb_tells c d) [ inl v ↦ absurd (w.1 (g v.1)) | inr v ↦ w.0 ∙ sym v.0 ]
    ]

slash_lower : (b : ℕ) → 47 ≡ lower b → b ≡ 47
slash_lower b e =
    elim (leb_tells 65 b) [
      | inl w ↦ elim (leb_tells b 90) [
        | inl v ↦
            let moved : lower b ≡ b + 32 = ap (λ c. if c && nat_le b 90 then b + 32 else b) w.0 ∙ ap (λ c. if c then b + 32 else b) v.0 in
            let low = w.1 in absurd (omega (arith, e, moved, low))
        | inr v ↦
            let kept : lower b ≡ b = ap (λ c. if c && nat_le b 90 then b + 32 else b) w.0 ∙ ap (λ c. if c then b + 32 else b) v.0 in sym (e ∙ kept)
      ]
      | inr w ↦ (let kept : lower b ≡ b = ap (λ c. if c && nat_le b 90 then b + 32 else b) w.0 in sym (e ∙ kept))
    ]

slash_by : (i : Bool) (b : ℕ) → (if i then lower 47 == lower b else 47 == b) ≡ (b == 47)
slash_by true b = same_eq (lower 47) (lower b) b 47 (λ e. slash_lower b e) (λ e. ap lower (sym e))
slash_by false b = same_eq 47 b b 47 (λ e. sym e) (λ e. sym e)

slash_same : (o : Options) (b : ℕ) → same_byte o 47 b ≡ is_slash b
slash_same o b = slash_by o.icase b

pub one_slash : (o : Options) (t : Test) (bs : List ℕ) → one (same_byte o 47) t bs ≡ one is_slash t bs
one_slash o t [] = refl
one_slash o t (b ∷ bs) = ap (λ v. v && t bs) (slash_same o b)

pub dirs : (o : Options) (t : Test) (bs : List ℕ) → many any_byte (one (same_byte o 47) t) bs ≡ past_slash t bs
dirs o t [] = refl
dirs o t (b ∷ bs) = ap (λ v. (v && t bs) || many any_byte (one (same_byte o 47) t) bs) (slash_same o b) ∙ ap (λ v. ((b == 47) && t bs) || v) (dirs o t bs)

pub below_steps : (o : Options) (below : Bool) (ss : List Step) (bs : List ℕ)
    → accepts_from o below (Byte 47 ∷ Everything ∷ ss) 0 bs ≡ one is_slash (many any_byte (accepts_from o below ss 0)) bs
below_steps o below ss bs = one_slash o (many any_byte (accepts_from o below ss 0)) bs

pub leading_steps : (o : Options) (below : Bool) (ss : List Step) (bs : List ℕ)
    → accepts_from o below (Fork 2 ∷ Everything ∷ Byte 47 ∷ ss) 0 bs ≡ (past_slash (accepts_from o below ss 0) bs || accepts_from o below ss 0 bs)
leading_steps o below ss bs = ap (λ v. v || accepts_from o below ss 0 bs) (dirs o (accepts_from o below ss 0) bs)
