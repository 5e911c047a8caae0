use Rattle.std.proofs.Common.{◌≡◌, ◌∙◌, ◌++◌, List, [], take, ap, sym, subst, arith, ℕ}
use Rattle.std.specs.List.{AllClonesOf}
use Rattle.std.proofs.Math.Seq.{take-nil}
use Rattle.jj_merges.proofs.DerivedCounts.{repeated_counts}
use Rattle.jj_merges.proofs.merge.Merge.repeated.Goals as goal

without_front : {T : Type 0} (n : ℕ) (xs ys : List T) → xs ≡ [] → take n xs ++ ys ≡ ys
without_front n xs ys e = ap (λ zs. take n zs ++ ys) e ∙ ap (λ zs. zs ++ ys) (take-nil n)

pub returns-clause-terms : goal.returns-clause-terms
returns-clause-terms g c =
    let appended = c.in_ok-resize.ensures.items in
    let only = without_front _ c.new-terms.result.items appended.0 c.new-terms.ensures.items in
    subst (AllClonesOf g.T.Clone.is_clone c.args.value) (sym (appended.1 ∙ only)) appended.2

pub returns-clause-len : goal.returns-clause-len
returns-clause-len g c = omega (arith, c.in_ok-resize.ensures.len, c.resize.new.self.ok.0, c.requires.positive)

pub invariant_of-result : goal.invariant_of-result
invariant_of-result g c = omega (arith, c.in_ok-resize.ensures.len, c.resize.new.self.ok.0, c.requires.positive)

pub returns-clause-counts : goal.returns-clause-counts
returns-clause-counts g c =
    repeated_counts g.T.Clone.is_clone c.args.value c.resize.new.self.items c.args.num_sides (returns-clause-terms g c) (omega (arith, c.in_ok-resize.ensures.len, c.requires.positive))
