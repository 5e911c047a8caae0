-- Predicates of callers.
-- Cited by contracts of public items: Accepts.
use Rattle.std.specs.Prelude.{◌≡◌, ℕ, true, List}
use Rattle.std.specs.Borrow.{Bor}
use Rattle.jj_strings.specs.declared.str_util.predicate.BytePredicate.{BytePredicate}

-- the caller's predicate accepts the bytes
abbrev pub Accepts : {F : _} {V : _} {m : _} → BytePredicate F V m → List ℕ → Type 0
Accepts {m = m} p bytes = (x : Bor (List ℕ)) × (x.now ≡ bytes)
    × m.post (p.test.vtable, p.test.value) (x, tt) true
