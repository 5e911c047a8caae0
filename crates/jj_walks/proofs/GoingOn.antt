-- An iterator that ends with its first `None` or error.
use Rattle.std.proofs.Common.{◌≡◌, ◌∙◌, ℕ, ◌<◌, Bool, false, cond, Option, None, Some, Result, Ok, Err, IfOk, IsSome, refl, sym, ap, subst}
use Rattle.std.specs.Iterator.{MakesProgress, at_most}
use Rattle.jj_walks.specs.GroupedSteps.{as_item, is_last}

module _ {T E : Type 0} where
  -- a fact of each step that yielded an item
  pub goes_on : (P : Type 0) (step : Result (Option T) E) (item : Option (Result T E)) (has_ended : Bool) → item ≡ as_item step → has_ended ≡ is_last item → has_ended ≡ false
      → IfOk step (λ o. IsSome o → P) → P
  goes_on P step item has_ended is end on h = known step (sym (end ∙ ap is_last is) ∙ on) h
    where
      known : (step : Result (Option T) E) → is_last (as_item step) ≡ false → IfOk step (λ o. IsSome o → P) → P
      known (Ok None) e h = absurd (cc)
      known (Ok (Some x)) e h = h refl
      known (Err error) e h = absurd (cc)

  module _ {S : Type 0} (has_ended : S → Bool) (can : S → Type 0) (more : S → ℕ) (s t : S) (fewer : Type 0) where
    abbrev Progress : Option (Result T E) → Type 0
    Progress r = MakesProgress (λ u. has_ended u ≡ false → can u) (λ u. at_most (cond (has_ended u) 0 (more u))) s r t

    by_step : has_ended s ≡ false → 0 < more s → (fewer → more t < more s) → (step : Result (Option T) E) → has_ended t ≡ is_last (as_item step)
        → IfOk step (λ o. IsSome o → can t) → IfOk step (λ o. IsSome o → fewer) → Progress (as_item step)
    by_step begun some less (Ok None) ended goes count = record { on = λ _. tt; keeps = tt; rests = λ _. tt }
    by_step begun some less (Ok (Some x)) ended goes count = record { on = λ _. (λ _. goes refl, tt, rw (ended, begun) (less (count refl))); keeps = λ _. goes refl; rests = λ _. tt }
    by_step begun some less (Err error) ended goes count = record { on = λ _. (λ e. absurd (cc (e, ended)), tt, rw (ended, begun) some); keeps = λ e. absurd (cc (e, ended)); rests = λ _. tt }

    -- it may continue after an item, and fewer items are left
    pub progress : (step : Result (Option T) E) (item : Option (Result T E)) → has_ended s ≡ false → 0 < more s → (fewer → more t < more s) → item ≡ as_item step → has_ended t ≡ is_last item
        → IfOk step (λ o. IsSome o → can t) → IfOk step (λ o. IsSome o → fewer)
        → MakesProgress (λ u. has_ended u ≡ false → can u) (λ u. at_most (cond (has_ended u) 0 (more u))) s item t
    progress step item begun some less is end goes count = subst (λ r. Progress r) (sym is) (by_step begun some less step (end ∙ ap is_last is) goes count)
