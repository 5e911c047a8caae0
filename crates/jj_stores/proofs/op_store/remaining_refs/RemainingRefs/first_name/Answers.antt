use Rattle.std.proofs.Common.{◌≡◌, ◌∷◌, ◌++◌, ◌∙◌, ap, sym, subst}
use Rattle.std.specs.Map.Iter.{deref_pair}
use Rattle.std.specs.Option.{option_map, option_to_list}
use Rattle.jj_stores.specs.ViewJoins.{IsAscending}
use Rattle.jj_stores.proofs.NamesLeft.{least_at_first}
use Rattle.jj_stores.proofs.op_store.remaining_refs.RemainingRefs.first_name.Goals as goal

pub returns-clause-least : goal.returns-clause-least
returns-clause-least g c =
    let name = c.in_ok-name.name.now in
    let same : c.args.self.now ≡ (name, c.in_ok-name.field-0-1.now) ∷ c.self.inside.rest =
    sym c.self.view_is ∙ ap (λ o. option_to_list (option_map deref_pair o) ++ c.self.inside.rest) c.in_ok-name.was in
    least_at_first name _ _ _ same (subst IsAscending c.self.view_is c.self.invariant.0)
