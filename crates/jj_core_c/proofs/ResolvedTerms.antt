-- Merges of terms that are equal if their bytes are resolve as merges of these bytes.
use Rattle.std.proofs.Common.{◌≡◌, ◌∙◌, ℕ, ◌+◌, ◌<◌, Bool, List, Some, cond, get_or, length, map, sym, ap, arith, subst}
use Rattle.std.specs.Prelude.{pos, ◌-ℤ◌, ◌<ℤ◌, count_by, slice_get}
use Rattle.std.specs.List.{Contains, range_with_len}
use Rattle.std.specs.Option.{option_map}
use Rattle.std.specs.Str.{bytes_eq}
use Rattle.std.proofs.lemmas.List.Folds.{fold-map}
use Rattle.std.proofs.lemmas.List.FromFn.{get_or-range_with_len}
use Rattle.std.proofs.lemmas.Option.{get_or_from_slice_get, slice_get-get_or, slice_get-map}
use Rattle.jj_merges.specs.declared.merge.SameChange.{SameChange}
use Rattle.jj_merges.specs.declared.merge.SameChange.TheVariants.{Keep, Accept}
use Rattle.jj_merges.specs.Merge.{adds, removes, signed_count}
use Rattle.jj_merges.specs.Resolution.{ResolvesTo}
use Rattle.jj_core_c.specs.declared.merges.Term.{Term}
use Rattle.jj_core_c.specs.MergeResults.{ResolvesAt}
use Rattle.jj_core_c.specs.MergeTerms.{term_eq}
use Rattle.jj_core_c.proofs.TermMerges.{adds-map, removes-map}

abbrev bytes_of : Term → List ℕ
bytes_of term = term.bytes.now

-- a term with these bytes
abbrev term_of : List ℕ → Term
term_of bytes = record { bytes = record { ref_ptr = (0, 0); now = bytes }; index = 0 }

count-map : (p : List ℕ → Bool) (xs : List Term) → count_by p (map bytes_of xs) ≡ count_by (λ x. p (bytes_of x)) xs
count-map p xs = fold-map (λ a x. a + cond (p x) 1 0) bytes_of 0 xs

signed_count-map : (m : List Term) (v : Term) → signed_count bytes_eq (map bytes_of m) (bytes_of v) ≡ signed_count term_eq m v
signed_count-map m v =
    let added = ap (count_by (bytes_eq (bytes_of v))) (adds-map bytes_of m) ∙ count-map (bytes_eq (bytes_of v)) (adds m) in
    let removed = ap (count_by (bytes_eq (bytes_of v))) (removes-map bytes_of m) ∙ count-map (bytes_eq (bytes_of v)) (removes m) in
    λ i. pos (added i) -ℤ pos (removed i)

-- resolution carries over to the bytes
resolves_bytes : (same_change : SameChange) (m : List Term) (v : Term) → ResolvesTo term_eq same_change m v → ResolvesTo bytes_eq same_change (map bytes_of m) (bytes_of v)
resolves_bytes Keep m v d = (signed_count-map m v ∙ d.0, λ w some. d.1 (term_of w) (λ none. some (signed_count-map m (term_of w) ∙ none)))
resolves_bytes Accept m v d = (
  subst (λ n. pos 0 <ℤ n) (sym (signed_count-map m v)) d.0,
  λ w up. d.1 (term_of w) (subst (λ n. pos 0 <ℤ n) (signed_count-map m (term_of w)) up),
  λ w x down down'. d.2 (term_of w) (term_of x) (subst (λ n. n <ℤ pos 0) (signed_count-map m (term_of w)) down) (subst (λ n. n <ℤ pos 0) (signed_count-map m (term_of x)) down'),
)

-- and back
resolves_term : (same_change : SameChange) (m : List Term) (v : List ℕ) → ResolvesTo bytes_eq same_change (map bytes_of m) v → ResolvesTo term_eq same_change m (term_of v)
resolves_term Keep m v d = (sym (signed_count-map m (term_of v)) ∙ d.0, λ w some. d.1 (bytes_of w) (λ none. some (sym (signed_count-map m w) ∙ none)))
resolves_term Accept m v d = (
  subst (λ n. pos 0 <ℤ n) (signed_count-map m (term_of v)) d.0,
  λ w up. d.1 (bytes_of w) (subst (λ n. pos 0 <ℤ n) (sym (signed_count-map m w)) up),
  λ w x down down'. d.2 (bytes_of w) (bytes_of x) (subst (λ n. n <ℤ pos 0) (sym (signed_count-map m w)) down) (subst (λ n. n <ℤ pos 0) (sym (signed_count-map m x)) down'),
)

pub resolves_to_none : (same_change : SameChange) (m : List Term) → ((v : Term) → ResolvesTo term_eq same_change m v → ⊥) → (v : List ℕ) → ResolvesTo bytes_eq same_change (map bytes_of m) v → ⊥
resolves_to_none same_change m none v d = none (term_of v) (resolves_term same_change m v d)

-- a term has its position as its index
index_at : (m : List Term) (v : Term) (k : ℕ) → map (λ term. term.index) m ≡ range_with_len 0 (length m) → k < length m → get_or m k v ≡ v → v.index ≡ k
index_at m v k numbered below at =
    let seen : slice_get (map (λ (term : Term). term.index) m) k ≡ Some v.index = slice_get-map (λ (term : Term). term.index) m k ∙ ap (option_map (λ term. term.index)) (slice_get-get_or m k v below ∙ ap (λ (x : Term). Some x) at) in
    let place : 0 + k ≡ k = omega arith in
    sym (get_or_from_slice_get (map (λ term. term.index) m) k v.index 0 seen) ∙ ap (λ (l : List ℕ). get_or l k 0) numbered ∙ get_or-range_with_len 0 (length m) k 0 below ∙ place

pub index_in_range : (m : List Term) (v : Term) → map (λ term. term.index) m ≡ range_with_len 0 (length m) → Contains m v → v.index < length m
index_in_range m v numbered (k, below, at) = let here = index_at m v k numbered below at in omega (arith, here)

pub resolves_at : (same_change : SameChange) (m : List Term) (v : Term) → map (λ term. term.index) m ≡ range_with_len 0 (length m) → Contains m v → ResolvesTo term_eq same_change m v
    → ResolvesAt same_change (map bytes_of m) v.index
resolves_at same_change m v numbered (k, below, at) d =
    let seen = slice_get-map bytes_of m k ∙ ap (option_map bytes_of) (slice_get-get_or m k v below ∙ ap (λ (x : Term). Some x) at) in
    (bytes_of v, subst (λ (i : ℕ). slice_get (map bytes_of m) i ≡ Some (bytes_of v)) (sym (index_at m v k numbered below at)) seen, resolves_bytes same_change m v d)
