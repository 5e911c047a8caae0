use Rattle.std.proofs.Common.{◌≡◌, sym, subst, eqb}
use Rattle.std.specs.List.{Contains, dedup}
use Rattle.std.specs.List.Sorted.{IsStrictlyIncreasing}
use Rattle.std.proofs.lemmas.List.Filters.{dedup_is}
use Rattle.std.proofs.lemmas.List.Kept.{Contains-dedup_nat, Contains-from_dedup}
use Rattle.std.proofs.lemmas.List.Sorted.{Contains-permutation, IsPermutation-sym}
use Rattle.std.proofs.lemmas.Map.Keys.{IsStrictlyIncreasing-dedup}
use Rattle.jj_program.proofs.numbering.sort.Goals as goal

pub returns-clause-ascending : goal.returns-clause-ascending
returns-clause-ascending c =
    let sorted = c.sort_unstable.new.self.items in
    let kept : c.dedup.new.self.items ≡ dedup eqb sorted = dedup_is eqb sorted c.dedup.new.self.items c.dedup.ensures.filtered in
    subst IsStrictlyIncreasing (sym kept) (IsStrictlyIncreasing-dedup sorted c.sort_unstable.ensures.sorted)

pub returns-clause-same : goal.returns-clause-same
returns-clause-same c = λ id.
    let ids = c.args.ids.now.items in
    let sorted = c.sort_unstable.new.self.items in
    let kept : c.dedup.new.self.items ≡ dedup eqb sorted = dedup_is eqb sorted c.dedup.new.self.items c.dedup.ensures.filtered in
    let moved = c.sort_unstable.ensures.permutation in (
      (λ among. Contains-permutation sorted ids id (IsPermutation-sym ids sorted moved) (Contains-from_dedup eqb sorted id (subst (λ xs. Contains xs id) kept among))),
      λ among. subst (λ xs. Contains xs id) (sym kept) (Contains-dedup_nat sorted id (Contains-permutation ids sorted id moved among)),
    )
