-- Lists by key.
-- Cited by contracts of public items through Branches.
use Rattle.std.specs.Prelude.{Bool, List, [], Option, None, Some}
use Rattle.std.specs.HashMap.{HashMap, get}
use Rattle.std.specs.Global.{Global}
use Rattle.std.specs.declared.vec.Vec.{Vec}

-- the items of a list; none if there is no list
abbrev pub items_of : {V : Type 0} → Option (Vec V Global) → List V
items_of None = []
items_of (Some listed) = listed.items

-- the values listed at the key
abbrev pub items_at : {K V S : Type 0} → (K → K → Bool) → HashMap K (Vec V Global) S → K → List V
items_at eq lists key = items_of (get eq lists key)
