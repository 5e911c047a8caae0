-- Search in lower-case windows.
use Rattle.std.proofs.Common.{◌≡◌, ◌∙◌, ℕ, ◌+◌, ◌-◌, ◌<◌, ◌≤◌, ◌⊎◌, inl, inr, List, length, take, drop, sym, ap, subst, arith}
use Rattle.std.proofs.lemmas.List.{length-map}
use Rattle.std.proofs.lemmas.Bool.{cases_lt}
use Rattle.bstr.specs.Find.{OccursAt}
use Rattle.bstr.specs.Text.{Contains}
use Rattle.jj_strings.specs.CaseFolding.{lowercase}
use Rattle.jj_strings.proofs.Occurrences.{length-window, folded-window, occurs_outside, occurs_inside}

-- a window: the first bytes of the buffer are bytes in lower case
window_is : (bytes window : List ℕ) (n m from : ℕ) → m ≡ n → from + n ≤ length bytes
    → take (length (take m (drop from bytes))) window ≡ lowercase (take m (drop from bytes))
    → take n window ≡ take n (drop from (lowercase bytes))
window_is bytes window n m from same h prefix =
    let len : length (take m (drop from bytes)) ≡ n =
    length-window bytes m from (omega arith) ∙ same in
    ap (λ (k : ℕ). take k window) (sym len) ∙ prefix ∙ sym (folded-window bytes m from)
    ∙ ap (λ (k : ℕ). take k (drop from (lowercase bytes))) same

module _ (bytes text window lower : List ℕ) (n m from : ℕ) (within : from + n ≤ length bytes) (same : m ≡ n)
    (prefix : take (length (take m (drop from bytes))) window ≡ lowercase (take m (drop from bytes))) (is_lower : lower ≡ lowercase text) where
  abbrev here : List ℕ
  here = take n window

  is_here : here ≡ take n (drop from (lowercase bytes))
  is_here = window_is bytes window n m from same within prefix

  whole : from + n ≤ length (lowercase bytes)
  whole = omega (arith, within, length-map {A = ℕ} {B = ℕ})

  -- an occurrence in the window is one in the bytes
  pub found_in_window : Contains here lower → Contains (lowercase bytes) (lowercase text)
  found_in_window found =
      let at = subst (λ l. OccursAt here l found.0) is_lower found.1 in (
        from + found.0,
        occurs_outside (lowercase bytes) (lowercase text) n from found.0 whole
            (subst (λ l. OccursAt l (lowercase text) found.0) is_here at),
      )

  -- without an occurrence in the window, there is none in the bytes at an offset from which the
  -- needle lies in the window
  pub none_in_window : (Contains here lower → ⊥) → length text ≤ n
      → ((k : ℕ) → k < from → OccursAt (lowercase bytes) (lowercase text) k → ⊥)
      → (k : ℕ) → k < from + (n - length text + 1) → OccursAt (lowercase bytes) (lowercase text) k → ⊥
  none_in_window none shorter before k low o = by_place (cases_lt k from)
    where
      by_place : (k < from) ⊎ (from ≤ k) → ⊥
      by_place (inl earlier) = before k earlier o
      by_place (inr later) =
          let j : ℕ = k - from in
          let k_is : k ≡ from + j = omega arith in
          let fits : j + length (lowercase text) ≤ n = omega (arith, length-map {A = ℕ} {B = ℕ}) in
          let inside = occurs_inside (lowercase bytes) (lowercase text) n from j whole fits
          (subst (OccursAt (lowercase bytes) (lowercase text)) k_is o) in
          none (
            j,
            subst (λ l. OccursAt here l j) (sym is_lower)
                (subst (λ l. OccursAt l (lowercase text) j) (sym is_here) inside),
          )
