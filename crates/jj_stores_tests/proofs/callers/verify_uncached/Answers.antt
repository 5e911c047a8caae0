use Rattle.std.proofs.Common.{◌≡◌, ℕ, Bool, true, false, inl, inr, List, [], ◌∷◌, Some, Ok, Err, refl}
use Rattle.std.specs.Bool.{MatchBool}
use Rattle.std.specs.List.{list_any}
use Rattle.std.specs.Prelude.{IfOk}
use Rattle.std.specs.Result.{MatchResult}
use Rattle.jj_backend.specs.declared.signing.SignError.{SignError}
use Rattle.jj_stores.specs.FirstDecisive.{VerifyResult, IsFirstDecisive, IsVerified, backends, is_decisive}
use Rattle.jj_stores.specs.Signer.{cache_entries, capacity_of}
use Rattle.jj_stores.specs.Verdict.{Verdict, is_unknown}
use Rattle.jj_stores_tests.proofs.callers.verify_uncached.Goals as goal

module _ {B : Type 0} (reads : B → Bool) (may_return : B → VerifyResult → Type 0) where
  by_result : (b : Bool) (outcome found : VerifyResult) (P : Type 0) → is_decisive outcome ≡ b → (P → is_decisive found ≡ true)
      → MatchBool b (Some found ≡ Some outcome) P → is_decisive found ≡ true
  by_result true outcome found P e rest same = cc
  by_result false outcome found P e rest h = rest h

  by_backend : (b : Bool) (found : VerifyResult) (May : VerifyResult → Type 0) (P : Type 0) → (P → is_decisive found ≡ true)
      → MatchBool b ((outcome : VerifyResult) × May outcome × MatchBool (is_decisive outcome) (Some found ≡ Some outcome) P) P
      → is_decisive found ≡ true
  by_backend true found May P rest h = by_result (is_decisive h.0) h.0 found P refl rest h.2
  by_backend false found May P rest h = rest h

  -- the first decisive result is decisive
  is_decisive_first : (bs : List B) (found : VerifyResult) → IsFirstDecisive reads may_return bs (Some found) → is_decisive found ≡ true
  is_decisive_first [] found h = absurd cc
  is_decisive_first (b ∷ bs) found h = by_backend (reads b) found (may_return b) _ (is_decisive_first bs found) h

  same_entries : (b : Bool) (P Q : Type 0) → b ≡ true → MatchBool b P Q → P
  same_entries true P Q e h = h
  same_entries false P Q e h = absurd cc

  -- an unknown verdict of a signature that a backend can read is not cached
  not_cached : (bs : List B) (id : List ℕ) (n : ℕ) (v : Verdict) (old new : List (List ℕ × Verdict))
      → IsVerified reads may_return bs id n v old new
      → is_unknown v.status ≡ true → list_any reads bs ≡ true → new ≡ old
  not_cached bs id n v old new (inl first) unknown read =
      let decisive = is_decisive_first bs (Ok v) first.0 in absurd cc
  not_cached bs id n v old new (inr rest) unknown read = same_entries _ _ _ read rest.2

  unknown_not_cached : (bs : List B) (id : List ℕ) (n : ℕ) (old new : List (List ℕ × Verdict)) (R : SignError → Type 0) (result : VerifyResult)
      → MatchResult result (λ v. IsVerified reads may_return bs id n v old new) R
      → IfOk result (λ v. is_unknown v.status ≡ true → list_any reads bs ≡ true → new ≡ old)
  unknown_not_cached bs id n old new R (Ok v) h = not_cached bs id n v old new h
  unknown_not_cached bs id n old new R (Err e) h = tt

pub returns-clause-unknown : goal.returns-clause-unknown
returns-clause-unknown g c =
    unknown_not_cached _ _ (backends c.args.signer.now.main c.args.signer.now.others.items) c.args.commit_id.now (capacity_of c.args.signer.now)
    (cache_entries c.args.signer.now) (cache_entries c.verify.new.self) _ c.verify.result (c.verify.ensures.uncached c.requires)
