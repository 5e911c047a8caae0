use Rattle.std.proofs.Common.{◌≡◌, ◌∷◌, ◌++◌, ◌∙◌, ap, sym, subst, rules}
use Rattle.std.specs.Map.Iter.{deref_pair}
use Rattle.std.specs.Option.{option_map, option_to_list}
use Rattle.jj_stores.specs.ViewJoins.{IsAscending}
use Rattle.jj_stores.proofs.NamesLeft.{none_at, still_ascending, tail_ascending}
use Rattle.jj_stores.proofs.op_store.remaining_refs.RemainingRefs.take_if_named.Goals as goal

pub returns-then-ne-clause-taken : goal.returns-then-ne-clause-taken
returns-then-ne-clause-taken g c =
    let first = c.in_ok-first.first.now in
    let same : c.args.self.now ≡ (first, c.in_ok-first.value.now) ∷ c.self.inside.rest =
    sym c.self.view_is ∙ ap (λ o. option_to_list (option_map deref_pair o) ++ c.self.inside.rest) c.in_ok-first.was in (
      none_at c.args.name.now first _ _ _ same
          (subst IsAscending c.self.view_is c.self.invariant.0) c.requires c.if-ne.ensures,
      search rules,
    )

pub invariant_of-self : goal.invariant_of-self
invariant_of-self g c =
    let whole = ap (λ o. option_to_list (option_map deref_pair o) ++ c.self.inside.rest) c.in_ok-first.was in
    still_ascending deref_pair c.self.inside.rest c.next-self-inside.result _ c.next-self-inside.ensures.steps
    (tail_ascending c.in_ok-first.first.now c.in_ok-first.value.now _ _ whole c.self.invariant.0)
