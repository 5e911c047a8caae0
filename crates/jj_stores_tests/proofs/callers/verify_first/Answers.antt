use Rattle.std.proofs.Common.{◌≡◌, ℕ, Bool, true, false, inl, inr, List, [], Option, Some, None, Ok, IsNone, subst, sym, ap, ap₂, ◌∙◌, refl, true≢false}
use Rattle.std.specs.Bool.{MatchBool}
use Rattle.std.specs.Map.{lookup}
use Rattle.std.specs.Str.{bytes_eq}
use Rattle.jj_stores.specs.FirstDecisive.{VerifyResult, IsFirstDecisive, IsVerified, backends, is_decisive}
use Rattle.jj_stores.specs.Verdict.{Verdict, is_unknown}
use Rattle.jj_stores_tests.proofs.callers.verify_first.Goals as goal

-- the result is this one, which must be decisive
by_choice : (decisive : Bool) (given found : VerifyResult) (May : VerifyResult → Type 0) → May given
    → MatchBool decisive (Some found ≡ Some given) (Some found ≡ None) → May found
by_choice true given found May may same = let e : given ≡ found = cc in subst May e may
by_choice false given found May may none = absurd cc

by_reading : (reads : Bool) (found : VerifyResult) (May : VerifyResult → Type 0)
    → MatchBool reads ((given : VerifyResult) × May given
    × MatchBool (is_decisive given) (Some found ≡ Some given) (Some found ≡ None))
    (Some found ≡ None) → May found
by_reading true found May h = by_choice (is_decisive h.0) h.0 found May h.1 h.2
by_reading false found May h = absurd cc

-- with one backend, a verdict that is not unknown is a result of that backend
by_verified : {B : Type 0} (R : B → Bool) (May : B → VerifyResult → Type 0) (main : Option B)
    (others : List B) (b : B) (id : List ℕ) (n : ℕ) (v : Verdict)
    (old new : List (List ℕ × Verdict)) → main ≡ Some b → others ≡ []
    → IsVerified R May (backends main others) id n v old new
    → is_unknown v.status ≡ false → May b (Ok v)
by_verified R May main others b id n v old new m o (inl first) known =
    let P : List _ → Type 0 = λ bs. IsFirstDecisive R May bs (Some (Ok v)) in
    by_reading (R b) (Ok v) (May b) (subst P (ap₂ backends m o) first.0)
by_verified R May main others b id n v old new m o (inr rest) known =
    absurd (true≢false (sym (ap (λ (w : Verdict). is_unknown w.status) rest.1) ∙ known))

pub returns : goal.returns
returns g c =
    let parts = c.in_ok-signer.ensures.backends in
    let P : List (List ℕ × Verdict) → Type 0 =
    λ entries. IsNone (lookup (bytes_eq c.args.commit_id.now) entries) in
    let none = subst P (sym c.in_ok-signer.ensures.empty_cache) refl in
    λ known. by_verified _ _ _ _ c.args.backend _ _ c.in_ok-found.found _ _ parts.0
    (ap (λ v. v.items) parts.1 ∙ c.new.ensures.items) (c.in_ok-found.ensures.uncached none) known
