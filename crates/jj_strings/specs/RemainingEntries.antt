-- The remaining candidates of an iterator over matching entries.
-- Cited by contracts of public items: CoversAll, remaining_entries.
use Rattle.std.specs.Prelude.{◌≡◌, List, ◌++◌, map, All}
use Rattle.std.specs.Option.{option_to_list}
use Rattle.std.specs.Borrow.{Bor}
use Rattle.std.specs.Map.Iter.{deref_pair}
use Rattle.std.specs.Iterator.Adapters.{once_item}
use Rattle.std.specs.declared.iter.Once.{Once}
use Rattle.either.specs.declared.Either.{Either}
use Rattle.either.specs.declared.Either.TheVariants.{Left, Right}

-- the remaining entries: those of the map, or the one that was looked up
abbrev pub remaining_entries : {K V : Type 0} → Either (List (K × V)) (Once (Bor K × Bor V))
    → List (K × V)
remaining_entries (Left entries) = entries
remaining_entries (Right found) = map deref_pair (option_to_list (once_item found))

-- `some` is a contiguous part of `all`, outside of which P is false
abbrev pub CoversAll : {X : Type 0} → (X → Type 0) → List X → List X → Type 0
CoversAll {X = X} P all some =
    (before after : List X) × (all ≡ before ++ some ++ after) × All (λ x. P x → ⊥) before
    × All (λ x. P x → ⊥) after
