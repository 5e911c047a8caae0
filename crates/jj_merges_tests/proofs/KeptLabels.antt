-- Each remaining string keeps its label.
use Rattle.std.proofs.Common.{◌≡◌, ℕ, ◌<◌, ◌⊎◌, inl, inr, true, false, cond, List, [], length, map, Result, Ok, Err, IfOk, refl, ap, sym, arith, ◌∙◌}
use Rattle.std.specs.Prelude.{slice_get}
use Rattle.std.specs.Option.{option_map}
use Rattle.std.proofs.lemmas.List.{length-map}
use Rattle.std.proofs.lemmas.Option.{slice_get-map}
use Rattle.jj_merges.specs.Simplify.{at_indices}
use Rattle.jj_merges.specs.Labels.{is_unlabeled, normalized_labels}
use Rattle.jj_merges.proofs.LabelLaws.{at_indices-nil}

pub both : {A E : Type 0} (P Q R : A → Type 0) (r : Result A E) → ((a : A) → P a → Q a → R a) → IfOk r P → IfOk r Q → IfOk r R
both P Q R (Ok a) f p q = f a p q
both P Q R (Err e) f p q = tt

normalized-cases : (x : List (List ℕ)) → (normalized_labels x ≡ []) ⊎ (normalized_labels x ≡ x)
normalized-cases x = elim (is_unlabeled x) as (λ b. (cond b [] x ≡ []) ⊎ (cond b [] x ≡ x)) [ true ↦ inl refl | false ↦ inr refl ]

module _ {S : Type 0} (bytes : S → List ℕ) (m s : List S) (labels kept : List (List ℕ)) (indices : List ℕ) where
  abbrev pub IsAligned : ℕ → Type 0
  IsAligned k = (j : ℕ) × (slice_get (at_indices m indices) k ≡ slice_get m j) × (slice_get (at_indices labels indices) k ≡ slice_get labels j)

  abbrev pub KeepsLabel : ℕ → Type 0
  KeepsLabel k = (j : ℕ) × (slice_get (map bytes s) k ≡ slice_get (map bytes m) j) × (slice_get kept k ≡ slice_get labels j)

  pub keep_labels : (length labels ≡ length m → (k : ℕ) → k < length (at_indices m indices) → IsAligned k)
      → (labels ≡ []) ⊎ (length labels ≡ length m) → kept ≡ normalized_labels (at_indices labels indices)
      → map bytes s ≡ map bytes (at_indices m indices) → (kept ≡ []) ⊎ ((k : ℕ) → k < length s → KeepsLabel k)
  keep_labels aligned (inl none) is same = inl (is ∙ (ap (λ l. normalized_labels (at_indices l indices)) none ∙ ap normalized_labels (at_indices-nil indices)))
  keep_labels aligned (inr sides) is same =
      elim (normalized-cases (at_indices labels indices)) [
        | inl none ↦ inl (is ∙ none)
        | inr all ↦ inr (λ k hk.
            let a = aligned sides k (omega (arith, hk, length-map s bytes, length-map (at_indices m indices) bytes, ap length same)) in (
              a.0,
              ap (λ xs. slice_get xs k) same
                  ∙ (slice_get-map bytes (at_indices m indices) k ∙ (ap (option_map bytes) a.1 ∙ sym (slice_get-map bytes m a.0))),
              ap (λ xs. slice_get xs k) (is ∙ all) ∙ a.2,
            ))
      ]
