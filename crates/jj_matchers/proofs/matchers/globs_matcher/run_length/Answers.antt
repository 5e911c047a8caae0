use Rattle.std.proofs.Common.{◌≡◌, ◌<◌, ◌+◌, ◌∙◌, ap, sym, refl, ℕ, zero, suc, Bool, true, false, not, List, [], ◌∷◌, Some, None, slice_get, slice_index_or, length, arith}
use mathlib.Core.Bool.{false≢true}
use Rattle.std.specs.Option.{option_map}
use Rattle.std.proofs.lemmas.List.Elements.{All-more}
use Rattle.jj_paths.specs.Names.{path_of}
use Rattle.jj_paths.specs.Orders.{path_eq, path_eq-Decides}
use Rattle.jj_matchers.proofs.matchers.globs_matcher.run_length.Goals as goal

first_is : {X Y : Type 0} (f : X → Y) (xs : List X) (d : X) (y : Y) → option_map f (slice_get xs 0) ≡ Some y → f (slice_index_or xs 0 d) ≡ y
first_is f [] d y e = let clash : None ≡ Some y = e in absurd (none_some clash)
  where
    none_some : None ≡ Some y → ⊥
    none_some clash = cc
first_is f (x ∷ xs) d y e = let is : Some (f x) ≡ Some y = e in cc

not_false : (b : Bool) → false ≡ not b → b ≡ true
not_false true e = refl
not_false false e = absurd (false≢true e)

not_true : (b : Bool) → true ≡ not b → b ≡ true → ⊥
not_true true e f = false≢true (sym e)
not_true false e f = false≢true f

pub returns-then-ne-clause-some : goal.returns-then-ne-clause-some
returns-then-ne-clause-some c = λ first. counted first c.loop-other.count refl
  where
    counted : option_map (λ p. path_of p.0) (slice_get c.args.patterns.now 0) ≡ Some (path_of c.args.dir) → (n : ℕ) → c.loop-other.count ≡ n → 0 < c.loop-other.count
    counted first zero e =
        let item = c.loop-other-item.result in
        let at : item ≡ slice_index_or c.args.patterns.now 0 item = c.loop-other-item.is ∙ ap (λ i. slice_index_or c.args.patterns.now i item) (sym c.loop-other.invariant.index ∙ e) in
        let same : path_of item.0 ≡ path_of c.args.dir = ap (λ p. path_of p.0) at ∙ first_is (λ p. path_of p.0) c.args.patterns.now item (path_of c.args.dir) first in
        absurd (not_true (path_eq (path_of item.0) (path_of c.args.dir)) c.if-ne.ensures ((path_eq-Decides (path_of item.0) (path_of c.args.dir)).1 same))
    counted first (suc n) e = omega (arith, e)

pub loop-other-preserved : goal.loop-other-preserved
loop-other-preserved c =
    let item = c.loop-other-item.result in
    let at : slice_index_or c.args.patterns.now c.loop-other.count item ≡ item = ap (λ i. slice_index_or c.args.patterns.now i item) c.loop-other.invariant.index ∙ sym c.loop-other-item.is in
    let same : path_of item.0 ≡ path_of c.args.dir = (path_eq-Decides (path_of item.0) (path_of c.args.dir)).0 (not_false (path_eq (path_of item.0) (path_of c.args.dir)) c.if-ne.ensures) in
    let within : c.loop-other.count < length c.args.patterns.now = omega (arith, c.loop-other.invariant.index, c.loop-other-test.true) in
    record {
      index = ap (λ n. n + 1) c.loop-other.invariant.index;
      same = All-more (λ p. path_of p.0 ≡ path_of c.args.dir) c.args.patterns.now c.loop-other.count item within c.loop-other.invariant.same (ap (λ p. path_of p.0) at ∙ same);
    }
