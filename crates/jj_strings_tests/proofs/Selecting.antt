-- An iterator over the matching entries of a list yields, until it ends, exactly these entries.
use Rattle.std.proofs.Common.{◌≡◌, ◌∙◌, List, [], ◌∷◌, ◌++◌, Option, Result, Ok, map, All, sym, subst}
use Rattle.std.specs.Iterator.{Drains}
use Rattle.std.specs.declared.alloc.AllocError.{AllocError}
use Rattle.std.proofs.lemmas.List.Elements.{All-head, All-tail}
use Rattle.jj_strings.specs.RemainingEntries.{CoversAll}
use Rattle.jj_strings.specs.Lines.{YieldsNext}
use Rattle.jj_strings_tests.specs.Selected.{Selects}
use Rattle.jj_strings_tests.specs.Selected.Selects.{at_end, taken, left_out}

module _ {X : Type 0} (P : X → Type 0) where
  -- items that do not satisfy P may be added at either end
  none_before : (before all some : List X) → All (λ x. P x → ⊥) before → Selects P all some → Selects P (before ++ all) some
  none_before [] all some none selects = selects
  none_before (x ∷ before) all some none selects =
      left_out (All-head (λ y. P y → ⊥) x before none) (none_before before all some (All-tail (λ y. P y → ⊥) x before none) selects)

  none_at_all : (all : List X) → All (λ x. P x → ⊥) all → Selects P all []
  none_at_all [] none = at_end
  none_at_all (x ∷ all) none = left_out (All-head (λ y. P y → ⊥) x all none) (none_at_all all (All-tail (λ y. P y → ⊥) x all none))

  none_behind : {all some : List X} (after : List X) → All (λ x. P x → ⊥) after → Selects P all some → Selects P (all ++ after) some
  none_behind after none at_end = none_at_all after none
  none_behind after none (taken here selects) = taken here (none_behind after none selects)
  none_behind after none (left_out not_here selects) = left_out not_here (none_behind after none selects)

  -- the selection of a part is one of the whole if P is false outside
  pub of_whole : (all part some : List X) → CoversAll P all part → Selects P part some → Selects P all some
  of_whole all part some (before, after, is, none1, none2) selects =
      subst (λ l. Selects P l some) (sym is) (none_behind after none2 (none_before before part some none1 selects))

module _ {S R X M : Type 0} (view : R → X) (In : M → X → Type 0) (CanFail : M → Type 0) (set : S → M) (left : S → List X) where
  -- one step over the remaining entries
  abbrev pub Steps : S → Option (Result R AllocError) → S → Type 0
  Steps s r t = YieldsNext view (In (set s)) (CanFail (set s)) (left s) r (left t) × (set t ≡ set s)

  -- a run that ended yielded all matching entries
  pub run_selects : (m : M) (given : List R) (s : S) → set s ≡ m → Drains Steps s (map (λ x. Ok x) given) → Selects (In m) (left s) (map view given)
  run_selects m [] s is (u, (t, same, last)) =
      let none = subst (λ (v : S). All (λ (x : X). In (set v) x → ⊥) (left v)) (sym same) last.0.0 in
      none_at_all (In m) (left s) (subst (λ (k : M). All (λ (x : X). In k x → ⊥) (left s)) is none)
  run_selects m (x ∷ given) s is (u, (t, (j, step, rest), last)) =
      let passed = step.0 in
      let others = subst (λ (k : M). All (λ (y : X). In k y → ⊥) passed.0) is passed.1 in
      let here = subst (λ (k : M). In k (view x)) is passed.2 in
      let next = run_selects m given j (step.1 ∙ is) (u, (t, rest, last)) in
      subst (λ (l : List X). Selects (In m) l (view x ∷ map view given)) (sym passed.3)
      (none_before (In m) passed.0 (view x ∷ left j) (view x ∷ map view given) others (taken here next))
