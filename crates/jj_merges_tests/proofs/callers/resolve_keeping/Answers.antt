use Rattle.std.proofs.Common.{string_bytes, string_eq, subst}
use Rattle.std.specs.Prelude.{IfNone, IfSome, [], ◌∷◌}
use Rattle.jj_merges.specs.Resolution.{ResolvesTo}
use Rattle.jj_merges.specs.declared.merge.SameChange.TheVariants.{Keep}
use Rattle.jj_merges_tests.proofs.ThreeStrings.{kept}
use Rattle.jj_merges_tests.proofs.callers.resolve_keeping.Goals as goal

pub returns : goal.returns
returns c left base right is =
    kept left base right c.resolve_trivial.result (c.three_way_laws.ensures.keep left base right)
    (subst (λ m. IfSome c.resolve_trivial.result (λ v. ResolvesTo string_eq Keep m v.now)) is c.resolve_trivial.ensures.resolved)
    (subst (λ m. IfNone c.resolve_trivial.result ((v : _) → ResolvesTo string_eq Keep m v → ⊥)) is c.resolve_trivial.ensures.unresolved)
