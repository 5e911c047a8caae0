-- Equality of strings is equality of their bytes, in three-way merges.
use Rattle.std.proofs.Common.{◌≡◌, ◌≢◌, ◌⊎◌, inl, inr, Bool, true, false, [], ◌∷◌, Option, Some, None, Bor, refl, sym, ◌∙◌, string_bytes, string_eq}
use Rattle.std.specs.Prelude.{IfSome, IfNone, MatchOption, ◌↔◌}
use Rattle.std.specs.Global.{Global}
use Rattle.std.specs.String.{string_eq_equiv}
use Rattle.std.specs.declared.string.String.{String}
use Rattle.std.proofs.lemmas.Bool.{false≢true}
use Rattle.std.proofs.lemmas.Slice.Eq.{bytes_eq-Decides}
use Rattle.jj_merges.specs.Resolution.{ResolvesTo}
use Rattle.jj_merges.specs.declared.merge.SameChange.TheVariants.{Keep}

abbrev Str : Type 0
Str = String Global

equal : (a b : Str) → string_eq a b ≡ true → string_bytes a ≡ string_bytes b
equal a b e = (bytes_eq-Decides (string_bytes a) (string_bytes b)).0 e

equal_from : (a b : Str) → string_bytes a ≡ string_bytes b → string_eq a b ≡ true
equal_from a b e = (bytes_eq-Decides (string_bytes a) (string_bytes b)).1 e

different : (a b : Str) → string_eq a b ≡ false → string_bytes a ≢ string_bytes b
different a b e same = false≢true (sym e ∙ equal_from a b same)

pub merged : (base ours theirs : Str) (o : Option (Bor Str))
    → IfSome o (λ v. ((string_eq base ours ≡ true) × (v.now ≡ theirs))
    ⊎ ((string_eq base theirs ≡ true) × (v.now ≡ ours))
    ⊎ ((string_eq ours theirs ≡ true) × (v.now ≡ ours)))
    → IfNone o ((string_eq base ours ≡ false) × (string_eq base theirs ≡ false) × (string_eq ours theirs ≡ false))
    → MatchOption o ((string_bytes base ≢ string_bytes ours) × (string_bytes base ≢ string_bytes theirs) × (string_bytes ours ≢ string_bytes theirs))
    (λ s. ((string_bytes base ≡ string_bytes ours) × (s.now ≡ theirs))
    ⊎ ((string_bytes base ≡ string_bytes theirs) × (s.now ≡ ours))
    ⊎ ((string_bytes ours ≡ string_bytes theirs) × (s.now ≡ ours)))
merged base ours theirs None some none =
    (different base ours none.0, different base theirs none.1, different ours theirs none.2)
merged base ours theirs (Some v) some none =
    elim some [
      | inl (e, is) ↦ inl (equal base ours e, is)
      | inr (inl (e, is)) ↦ inr (inl (equal base theirs e, is))
      | inr (inr (e, is)) ↦ inr (inr (equal ours theirs e, is))
    ]

pub kept : (left base right : Str) (o : Option (Bor Str))
    → ((v : Str) → ResolvesTo string_eq Keep (left ∷ base ∷ right ∷ []) v
    ↔ (((string_eq base left ≡ true) × (string_eq v right ≡ true)) ⊎ ((string_eq base right ≡ true) × (string_eq v left ≡ true))))
    → IfSome o (λ v. ResolvesTo string_eq Keep (left ∷ base ∷ right ∷ []) v.now)
    → IfNone o ((v : Str) → ResolvesTo string_eq Keep (left ∷ base ∷ right ∷ []) v → ⊥)
    → MatchOption o ((string_bytes base ≢ string_bytes left) × (string_bytes base ≢ string_bytes right))
    (λ s. ((string_bytes base ≡ string_bytes left) × (string_bytes s.now ≡ string_bytes right))
    ⊎ ((string_bytes base ≡ string_bytes right) × (string_bytes s.now ≡ string_bytes left)))
kept left base right None law some none = (
  (λ e. none right ((law right).1 (inl (equal_from base left e, string_eq_equiv.refl right)))),
  (λ e. none left ((law left).1 (inr (equal_from base right e, string_eq_equiv.refl left)))),
)
kept left base right (Some v) law some none =
    elim ((law v.now).0 some) [
      | inl (e, is) ↦ inl (equal base left e, equal v.now right is)
      | inr (e, is) ↦ inr (equal base right e, equal v.now left is)
    ]
