-- Merges of borrowed strings behave as merges of their bytes.
use Rattle.std.proofs.Common.{◌≡◌, ◌∙◌, ℕ, ◌+◌, Bool, List, [], ◌∷◌, Option, Some, None, cond, length, refl, sym, ap, subst}
use Rattle.std.specs.Prelude.{pos, ◌-ℤ◌, ◌<ℤ◌, count_by, slice_get}
use Rattle.std.specs.Str.{bytes_eq}
use Rattle.std.specs.List.{Contains, cons_option}
use Rattle.std.specs.Option.{option_map}
use Rattle.std.proofs.lemmas.List.Folds.{fold-map}
use Rattle.std.proofs.lemmas.Option.{slice_get-map}
use Rattle.std.proofs.Math.ListN.{length-map}
use Rattle.jj_merges.specs.declared.merge.SameChange.{SameChange}
use Rattle.jj_merges.specs.declared.merge.SameChange.TheVariants.{Keep, Accept}
use Rattle.jj_merges.specs.Merge.{adds, removes, interleave, signed_count}
use Rattle.jj_merges.specs.Resolution.{ResolvesTo}
use Rattle.jj_merges.specs.Simplify.{equal_at, cancel_from, split_indices, simplified_indices, at_indices}
use Rattle.jj_merges.proofs.Cancellation.{equal_options, simplified_sides}
use Rattle.jj_program.specs.declared.merge_command.MergeForm.{MergeForm}
use Rattle.jj_program.specs.declared.merge_command.MergeForm.TheVariants.{Resolve}
use Rattle.jj_program.specs.Lines.{Text, texts_of}
use Rattle.jj_program.proofs.DecidedTerms.{decided_stands}
use Rattle.jj_program.specs.MergeCommand.{outcome_line, IsMergeLine}
use Rattle.jj_program.specs.MergeViews.{text_eq, IsTextOutcome}

-- a borrowed string with these bytes
abbrev text_of : List ℕ → Text
text_of bytes = record { ref_ptr = (0, 0); now = bytes }

mutual
  adds-bytes : (m : List Text) → adds (texts_of m) ≡ texts_of (adds m)
  adds-bytes [] = refl
  adds-bytes (x ∷ xs) = ap (λ l. x.now ∷ l) (removes-bytes xs)

  removes-bytes : (m : List Text) → removes (texts_of m) ≡ texts_of (removes m)
  removes-bytes [] = refl
  removes-bytes (x ∷ xs) = adds-bytes xs

count-bytes : (p : List ℕ → Bool) (xs : List Text) → count_by p (texts_of xs) ≡ count_by (λ x. p x.now) xs
count-bytes p xs = fold-map (λ a x. a + cond (p x) 1 0) (λ (x : Text). x.now) 0 xs

signed-bytes : (m : List Text) (v : Text) → signed_count bytes_eq (texts_of m) v.now ≡ signed_count text_eq m v
signed-bytes m v =
    let added = ap (count_by (bytes_eq v.now)) (adds-bytes m) ∙ count-bytes (bytes_eq v.now) (adds m) in
    let removed = ap (count_by (bytes_eq v.now)) (removes-bytes m) ∙ count-bytes (bytes_eq v.now) (removes m) in
    λ i. pos (added i) -ℤ pos (removed i)

-- resolution carries over to the bytes
pub decided_bytes : (same_change : SameChange) (m : List Text) (v : Text) → ResolvesTo text_eq same_change m v → ResolvesTo bytes_eq same_change (texts_of m) v.now
decided_bytes Keep m v d = (signed-bytes m v ∙ d.0, λ w some. d.1 (text_of w) (λ none. some (signed-bytes m (text_of w) ∙ none)))
decided_bytes Accept m v d = (
  subst (λ n. pos 0 <ℤ n) (sym (signed-bytes m v)) d.0,
  λ w up. d.1 (text_of w) (subst (λ n. pos 0 <ℤ n) (signed-bytes m (text_of w)) up),
  λ w x down down'. d.2 (text_of w) (text_of x) (subst (λ n. n <ℤ pos 0) (signed-bytes m (text_of w)) down) (subst (λ n. n <ℤ pos 0) (signed-bytes m (text_of x)) down'),
)

-- and back
pub decided_text : (same_change : SameChange) (m : List Text) (v : List ℕ) → ResolvesTo bytes_eq same_change (texts_of m) v → ResolvesTo text_eq same_change m (text_of v)
decided_text Keep m v d = (sym (signed-bytes m (text_of v)) ∙ d.0, λ w some. d.1 w.now (λ none. some (sym (signed-bytes m w) ∙ none)))
decided_text Accept m v d = (
  subst (λ n. pos 0 <ℤ n) (signed-bytes m (text_of v)) d.0,
  λ w up. d.1 w.now (subst (λ n. pos 0 <ℤ n) (sym (signed-bytes m w)) up),
  λ w x down down'. d.2 w.now x.now (subst (λ n. n <ℤ pos 0) (sym (signed-bytes m w)) down) (subst (λ n. n <ℤ pos 0) (sym (signed-bytes m x)) down'),
)

pub none_decided : (same_change : SameChange) (m : List Text) → ((v : Text) → ResolvesTo text_eq same_change m v → ⊥) → (v : List ℕ) → ResolvesTo bytes_eq same_change (texts_of m) v → ⊥
none_decided same_change m none v d = none (text_of v) (decided_text same_change m v d)

equal_options-bytes : (o p : Option Text) → equal_options bytes_eq (option_map (λ text. text.now) o) (option_map (λ text. text.now) p) ≡ equal_options text_eq o p
equal_options-bytes None p = refl
equal_options-bytes (Some x) None = refl
equal_options-bytes (Some x) (Some y) = refl

equal_at-bytes : (m : List Text) (p q : ℕ) → equal_at bytes_eq (texts_of m) p q ≡ equal_at text_eq m p q
equal_at-bytes m p q =
    let at_p = slice_get-map (λ (text : Text). text.now) m p in
    let at_q = slice_get-map (λ (text : Text). text.now) m q in
    ap (λ o. equal_options bytes_eq o (slice_get (texts_of m) q)) at_p
    ∙ ap (λ o. equal_options bytes_eq (option_map (λ text. text.now) (slice_get m p)) o) at_q
    ∙ equal_options-bytes (slice_get m p) (slice_get m q)

simplified_indices-bytes : (m : List Text) → simplified_indices bytes_eq (texts_of m) ≡ simplified_indices text_eq m
unfolding simplified_indices
simplified_indices-bytes m =
    let same : ◌≡◌ {A = ℕ → ℕ → Bool} (equal_at bytes_eq (texts_of m)) (equal_at text_eq m) = λ i p q. (equal_at-bytes m p q) i in
    let sides = ap length (adds-bytes m) ∙ length-map (adds m) (λ text. text.now) in
    let len = length-map m (λ text. text.now) in
    let kept : simplified_sides bytes_eq (texts_of m) ≡ simplified_sides text_eq m = λ i. cancel_from (same i) (sides i) 0 (split_indices (len i)) in
    ap (λ s. interleave s.adds s.removes) kept

cons-bytes : (o : Option Text) (xs : List Text) → cons_option (option_map (λ text. text.now) o) (texts_of xs) ≡ texts_of (cons_option o xs)
cons-bytes None xs = refl
cons-bytes (Some x) xs = refl

at_indices-bytes : (m : List Text) (places : List ℕ) → at_indices (texts_of m) places ≡ texts_of (at_indices m places)
at_indices-bytes m [] = refl
at_indices-bytes m (p ∷ ps) =
    let at_p = slice_get-map (λ (text : Text). text.now) m p in
    let rest = at_indices-bytes m ps in
    (λ i. cons_option (at_p i) (rest i)) ∙ cons-bytes (slice_get m p) (at_indices m ps)

-- the bytes of a simplified merge
pub left_bytes : (m left : List Text) → left ≡ at_indices m (simplified_indices text_eq m) → texts_of left ≡ at_indices (texts_of m) (simplified_indices bytes_eq (texts_of m))
left_bytes m left h =
    ap texts_of h
    ∙ sym (at_indices-bytes m (simplified_indices text_eq m))
    ∙ ap (at_indices (texts_of m)) (sym (simplified_indices-bytes m))

member_bytes : (same_change : SameChange) (m : List Text) (v : Text)
    → ResolvesTo text_eq same_change m v → Contains (texts_of m) v.now
member_bytes same_change m v decided =
    decided_stands same_change (texts_of m) v.now (decided_bytes same_change m v decided)

-- the resolved string, if any, is the result of `keep` and `accept`
pub line_of_outcome : (form : MergeForm) (same_change : SameChange) (m : List Text)
    (o : Option Text) → form ≡ Resolve same_change → IsTextOutcome same_change m o
    → IsMergeLine (form, texts_of m) (outcome_line (option_map (λ text. text.now) o))
line_of_outcome form same_change m (Some v) requested decided =
    subst (λ q. IsMergeLine (q, texts_of m) (outcome_line (Some v.now))) (sym requested)
    (Some v.now, (member_bytes same_change m v decided, decided_bytes same_change m v decided), refl)
line_of_outcome form same_change m None requested none =
    subst (λ q. IsMergeLine (q, texts_of m) (outcome_line None)) (sym requested)
    (None, none_decided same_change m none, refl)
