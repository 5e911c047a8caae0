-- Lists by key, one of which grows.
use Rattle.std.proofs.Common.{◌≡◌, Bool, true, false, cond, Option, None, Some, [], ◌∷◌, ◌++◌, ◌∙◌, ap, refl}
use Rattle.std.specs.Cmp.{IsEquivalence}
use Rattle.std.specs.HashMap.{HashMap, get}
use Rattle.std.specs.HashMap.Eq.{lookup_congr}
use Rattle.std.specs.Option.{UnwrapsOrElse}
use Rattle.std.specs.Global.{Global}
use Rattle.std.specs.Vec.{vec_len}
use Rattle.std.specs.declared.vec.Vec.{Vec}
use Rattle.jj_walks.specs.ListsByKey.{items_at, items_of}

-- the list at an entry
pub items_of-lent : {V : Type 0} (found : Option (Vec V Global)) (lent : Vec V Global) → UnwrapsOrElse found (λ made. (made.items ≡ []) × (vec_len made ≡ 0)) lent → lent.items ≡ items_of found
items_of-lent None lent empty = empty.0
items_of-lent (Some listed) lent same = ap (λ v. v.items) same

module _ {K V S : Type 0} {eq : K → K → Bool} (laws : IsEquivalence eq) (old : HashMap K (Vec V Global) S) where
  -- the list at a key after one more value was added at a key
  pub items_of-put : (key q : K) (got : Option (Vec V Global)) (listed : Vec V Global) (value : V)
      → got ≡ cond (eq key q) (Some listed) (get eq old q) → listed.items ≡ items_at eq old key ++ value ∷ []
      → items_of got ≡ cond (eq key q) (items_at eq old q ++ value ∷ []) (items_at eq old q)
  items_of-put key q got listed value puts more =
      let P : Bool → Type 0 = λ b. eq key q ≡ b → items_of (cond b (Some listed) (get eq old q)) ≡ cond b (items_at eq old q ++ value ∷ []) (items_at eq old q) in
      ap items_of puts ∙ elim (eq key q) as P [
        | true ↦ λ same. more ∙ ap (λ o. items_of o ++ value ∷ []) (lookup_congr eq laws.congr old.entries key q same)
        | false ↦ λ other. refl
      ] refl
