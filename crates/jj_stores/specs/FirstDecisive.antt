-- Verification of a signature: the first decisive result of the backends, and the LRU cache.
-- Cited by contracts of public items: IsFirstDecisive, IsVerified, backends, cache_after.
use Rattle.std.specs.Prelude.{◌≡◌, ℕ, Bool, true, false, not, List, [], ◌∷◌, ◌++◌, option_to_list, ◌⊎◌, take, Option, None, Some, Result, Ok, Err}
use Rattle.std.specs.Bool.{MatchBool}
use Rattle.std.specs.List.{list_any}
use Rattle.std.specs.Map.{remove_entry}
use Rattle.std.specs.Str.{bytes_eq}
use Rattle.jj_backend.specs.declared.signing.SignError.{SignError}
use Rattle.jj_backend.specs.declared.signing.SignError.TheVariants.{InvalidSignatureFormat, Backend, Memory}
use Rattle.jj_stores.specs.Verdict.{Verdict, is_unknown, unknown_verdict}

-- a verdict, or the error of a signing backend
abbrev pub VerifyResult : Type 0
VerifyResult = Result Verdict SignError

-- a result after which no further backend is queried
abbrev pub is_decisive : VerifyResult → Bool
is_decisive (Ok verdict) = not (is_unknown verdict.status)
is_decisive (Err InvalidSignatureFormat) = false
is_decisive (Err (Backend e)) = true
is_decisive (Err Memory) = true

-- the backends in the order in which they are queried
abbrev pub backends : {B : Type 0} → Option B → List B → List B
backends main others = option_to_list main ++ others

module _ {B : Type 0} (reads : B → Bool) (may_return : B → VerifyResult → Type 0) where
  -- decision is the first decisive result of the backends that can read the signature, queried in
  -- order up to that one, or None
  abbrev pub IsFirstDecisive : List B → Option VerifyResult → Type 0
  IsFirstDecisive [] decision = decision ≡ None
  IsFirstDecisive (b ∷ bs) decision = MatchBool (reads b)
      ((outcome : VerifyResult) × may_return b outcome
      × MatchBool (is_decisive outcome) (decision ≡ Some outcome) (IsFirstDecisive bs decision))
      (IsFirstDecisive bs decision)

-- the cache, most recently used first, after this pair is inserted or used: any other pair of its
-- commit is removed, and of more than n pairs the last one is evicted
abbrev pub cache_after : ℕ → List ℕ → Verdict → List (List ℕ × Verdict) → List (List ℕ × Verdict)
cache_after n id verdict pairs = take n ((id, verdict) ∷ remove_entry (bytes_eq id) pairs)

-- the verdict of a commit that is not cached, and the cache after it: a decisive verdict is cached;
-- without one the verdict is unknown, and cached if no backend can read the signature
abbrev pub IsVerified : {B : Type 0} → (B → Bool) → (B → VerifyResult → Type 0) → List B → List ℕ
    → ℕ → Verdict
    → List (List ℕ × Verdict) → List (List ℕ × Verdict) → Type 0
IsVerified reads may_return bs id n verdict old new =
    (IsFirstDecisive reads may_return bs (Some (Ok verdict)) × (new ≡ cache_after n id verdict old))
    ⊎ (IsFirstDecisive reads may_return bs None × (verdict ≡ unknown_verdict)
    × MatchBool (list_any reads bs) (new ≡ old) (new ≡ cache_after n id verdict old))
