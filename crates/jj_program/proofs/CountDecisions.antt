-- The outcome of a merge by the counts of its distinct values.
use Rattle.std.proofs.Common.{◌≡◌, ◌≢◌, ◌∙◌, inl, inr, ℕ, ◌+◌, ◌<◌, ◌≤◌, Bool, true, false, List, [], Option, Some, None, length, refl, sym, ap, arith, subst, get_or}
use Rattle.std.specs.Prelude.{count_by, pos, ◌-ℤ◌, ◌<ℤ◌}
use Rattle.std.specs.Option.{is_some}
use Rattle.std.proofs.lemmas.Bool.{cases_lt, false≢true}
use Rattle.std.proofs.lemmas.Bool.Decides.{eqb_tells}
use Rattle.jj_merges.specs.declared.merge.SameChange.{SameChange}
use Rattle.jj_merges.specs.declared.merge.SameChange.TheVariants.{Keep, Accept}
use Rattle.jj_merges.specs.Merge as merge
use Rattle.jj_merges.specs.Resolution.{ResolvesTo}
use Rattle.jj_merges.proofs.ResolutionScan.{Covers, HasNoResolution, all_added, all_removed, from_negative, from_positive, is_one, is_positive, is_zero, keep_unresolved, one_more}
use Rattle.jj_program.specs.Lines.{Text}
use Rattle.jj_program.specs.MergeViews.{text_eq, IsTextOutcome}
use Rattle.jj_program.specs.ValueCounts.{AreCountsOf}
use Rattle.jj_program.specs.declared.merge_counts.ValueCount.{ValueCount}
use Rattle.jj_program.proofs.SortedSides.{text_laws}
use Rattle.jj_program.proofs.SideDecisions.{kept_removed, two_added, two_removed}

-- the default value out of range
abbrev pub no_count : ValueCount
no_count = record { text = record { ref_ptr = (0, 0); now = [] }; adds = 0; removes = 0 }

abbrev pub at : List ValueCount → ℕ → ValueCount
at counts k = get_or counts k no_count

-- Among the first k values, at most `added` has more adds than removes, and at most `removed` fewer.
pub record IsDecidedTo (counts : List ValueCount) (change : SameChange) (k : ℕ) (added removed : Option Text) : Type 0 where
  pub only_added : (j : ℕ) → j < k → (at counts j).removes < (at counts j).adds → Covers text_eq added (at counts j).text
  pub only_removed : (j : ℕ) → j < k → (at counts j).adds < (at counts j).removes → Covers text_eq removed (at counts j).text
  pub is_added : (a : Text) → added ≡ Some a → (j : ℕ) × (j < k) × (j < length counts) × (a ≡ (at counts j).text) × ((at counts j).removes < (at counts j).adds) × (change ≡ Keep → (at counts j).adds ≡ (at counts j).removes + 1)
  pub is_removed : (r : Text) → removed ≡ Some r → (j : ℕ) × (j < k) × (j < length counts) × (r ≡ (at counts j).text) × ((at counts j).adds < (at counts j).removes)
  pub kept : change ≡ Keep → removed ≡ None

pub start : (counts : List ValueCount) (change : SameChange) → IsDecidedTo counts change 0 None None
start counts change = record {
  only_added = λ j within. absurd (omega arith);
  only_removed = λ j within. absurd (omega arith);
  is_added = λ a is. cc;
  is_removed = λ r is. cc;
  kept = λ keep. refl;
}

module _ (counts : List ValueCount) (change : SameChange) (k : ℕ) (within : k < length counts) where
  -- a value with as many adds as removes
  pub balanced : (added removed : Option Text) → (at counts k).adds ≡ (at counts k).removes
      → IsDecidedTo counts change k added removed → IsDecidedTo counts change (k + 1) added removed
  balanced added removed even t = record {
    only_added = λ j j_within more. elim (cases_lt j k) [ inl h ↦ t.only_added j h more | inr h ↦ let here : j ≡ k = omega arith in absurd (omega (arith, even, ap (λ j. (at counts j).adds) here, ap (λ j. (at counts j).removes) here)) ];
    only_removed = λ j j_within more. elim (cases_lt j k) [ inl h ↦ t.only_removed j h more | inr h ↦ let here : j ≡ k = omega arith in absurd (omega (arith, even, ap (λ j. (at counts j).adds) here, ap (λ j. (at counts j).removes) here)) ];
    is_added = λ a is. let p = t.is_added a is in (p.0, omega (arith, p.1), p.2, p.3, p.4, p.5);
    is_removed = λ r is. let p = t.is_removed r is in (p.0, omega (arith, p.1), p.2, p.3, p.4);
    kept = t.kept;
  }

  -- the first value with more adds
  pub first_added : (added removed : Option Text) → is_some added ≡ false → (at counts k).removes < (at counts k).adds
      → ((change ≡ Keep) × ((at counts k).adds ≢ (at counts k).removes + 1) → ⊥)
      → IsDecidedTo counts change k added removed → IsDecidedTo counts change (k + 1) (Some (at counts k).text) removed
  first_added (Some a) removed none more once t = absurd (false≢true (sym none))
  first_added None removed none more once t = record {
    only_added = λ j j_within j_more. elim (cases_lt j k) [ inl h ↦ absurd (t.only_added j h j_more) | inr h ↦ let here : j ≡ k = omega arith in ap (λ j. text_eq (at counts k).text (at counts j).text) here ∙ text_laws.refl (at counts k).text ];
    only_removed = λ j j_within j_more. elim (cases_lt j k) [ inl h ↦ t.only_removed j h j_more | inr h ↦ let here : j ≡ k = omega arith in absurd (omega (arith, more, j_more, ap (λ j. (at counts j).adds) here, ap (λ j. (at counts j).removes) here)) ];
    is_added = λ a is. (k, omega arith, within, some_same a is, more, by_count);
    is_removed = λ r is. let p = t.is_removed r is in (p.0, omega (arith, p.1), p.2, p.3, p.4);
    kept = t.kept;
  }
    where
      some_same : (a : Text) → Some (at counts k).text ≡ Some a → a ≡ (at counts k).text
      some_same a is = cc

      by_count : change ≡ Keep → (at counts k).adds ≡ (at counts k).removes + 1
      by_count keep = elim (eqb_tells (at counts k).adds ((at counts k).removes + 1)) [ inl equal ↦ equal.1 | inr other ↦ absurd (once (keep, other.1)) ]

  -- the first value with more removes
  pub first_removed : (added removed : Option Text) → is_some removed ≡ false → (change ≡ Keep → ⊥) → (at counts k).adds < (at counts k).removes
      → IsDecidedTo counts change k added removed → IsDecidedTo counts change (k + 1) added (Some (at counts k).text)
  first_removed added (Some r) none accept more t = absurd (false≢true (sym none))
  first_removed added None none accept more t = record {
    only_added = λ j j_within j_more. elim (cases_lt j k) [ inl h ↦ t.only_added j h j_more | inr h ↦ let here : j ≡ k = omega arith in absurd (omega (arith, more, j_more, ap (λ j. (at counts j).adds) here, ap (λ j. (at counts j).removes) here)) ];
    only_removed = λ j j_within j_more. elim (cases_lt j k) [ inl h ↦ absurd (t.only_removed j h j_more) | inr h ↦ let here : j ≡ k = omega arith in ap (λ j. text_eq (at counts k).text (at counts j).text) here ∙ text_laws.refl (at counts k).text ];
    is_added = λ a is. let p = t.is_added a is in (p.0, omega (arith, p.1), p.2, p.3, p.4, p.5);
    is_removed = λ r is. (k, omega arith, within, some_same r is, more);
    kept = λ keep. absurd (accept keep);
  }
    where
      some_same : (r : Text) → Some (at counts k).text ≡ Some r → r ≡ (at counts k).text
      some_same r is = cc

  module _ (terms : List Text) (all : AreCountsOf terms counts) where
    added_at : (j : ℕ) → j < length counts → (at counts j).removes < (at counts j).adds → all_removed text_eq terms (at counts j).text < all_added text_eq terms (at counts j).text
    added_at j j_within more = omega (arith, more, all.added j no_count j_within, all.removed j no_count j_within)

    removed_at : (j : ℕ) → j < length counts → (at counts j).adds < (at counts j).removes → all_added text_eq terms (at counts j).text < all_removed text_eq terms (at counts j).text
    removed_at j j_within more = omega (arith, more, all.added j no_count j_within, all.removed j no_count j_within)

    apart : (j : ℕ) → j < k → j < length counts → text_eq (at counts j).text (at counts k).text ≡ false
    apart j before j_within = by_test (text_eq (at counts j).text (at counts k).text) refl
      where
        by_test : (b : Bool) → text_eq (at counts j).text (at counts k).text ≡ b → b ≡ false
        by_test false h = refl
        by_test true h = absurd (omega (arith, before, all.distinct j k no_count j_within within h))

    -- another value has more adds already
    pub conflict_added : (added removed : Option Text) → is_some added ≡ true → (at counts k).removes < (at counts k).adds
        → IsDecidedTo counts change k added removed → HasNoResolution text_eq terms change
    conflict_added None removed some more t = absurd (false≢true some)
    conflict_added (Some a) removed some more t =
        let (j, before, j_within, is, j_more, once) = t.is_added a refl in
        two_added terms change (at counts j).text (at counts k).text (apart j before j_within) (added_at j j_within j_more) (added_at k within more)

    -- another value has more removes already
    pub conflict_removed : (added removed : Option Text) → is_some removed ≡ true → (at counts k).adds < (at counts k).removes
        → IsDecidedTo counts change k added removed → HasNoResolution text_eq terms change
    conflict_removed added None some more t = absurd (false≢true some)
    conflict_removed added (Some r) some more t =
        let (j, before, j_within, is, j_more) = t.is_removed r refl in
        two_removed terms change (at counts j).text (at counts k).text (apart j before j_within) (removed_at j j_within j_more) (removed_at k within more)

    -- a change that several sides made, without the rule for equal changes
    pub conflict_repeated : (change ≡ Keep) × ((at counts k).adds ≢ (at counts k).removes + 1) → (at counts k).removes < (at counts k).adds → HasNoResolution text_eq terms change
    conflict_repeated (keep, repeated) more =
        keep_unresolved text_eq text_laws terms change (at counts k).text keep
        (λ e. omega (arith, e, added_at k within more))
        (λ e. repeated (omega (arith, e, all.added k no_count within, all.removed k no_count within)))

    pub conflict_kept : change ≡ Keep → (at counts k).adds < (at counts k).removes → HasNoResolution text_eq terms change
    conflict_kept keep more = kept_removed terms change (at counts k).text keep (removed_at k within more)

-- equal values have equal counts
counts_alike : (x w : Text) → text_eq x w ≡ true → (m : List Text) → count_by (text_eq w) m ≡ count_by (text_eq x) m
counts_alike x w h m = ap (λ p. count_by p m) (λ i z. sym (text_laws.congr x w z h) i)

covers_alike : (o : Option Text) (x w : Text) → text_eq x w ≡ true → Covers text_eq o x → Covers text_eq o w
covers_alike None x w h c = c
covers_alike (Some a) x w h c = text_laws.congr a x w c ∙ h

covers_both : (o : Option Text) (w x : Text) → Covers text_eq o w → Covers text_eq o x → text_eq w x ≡ true
covers_both None w x cw cx = absurd cw
covers_both (Some a) w x cw cx = sym (text_laws.congr a w x cw) ∙ cx

module _ (counts : List ValueCount) (change : SameChange) (k : ℕ) (added removed : Option Text) (end : length counts ≤ k)
    (t : IsDecidedTo counts change k added removed) (terms : List Text) (all : AreCountsOf terms counts) where
  -- a value with more adds
  covers_added : (w : Text) → all_removed text_eq terms w < all_added text_eq terms w → Covers text_eq added w
  covers_added w more =
      let (j, (within, is)) = all.known w (omega (arith, more)) in
      let x = (at counts j).text in
      let more_added = counts_alike x w (is no_count) (merge.adds terms) in
      let more_removed = counts_alike x w (is no_count) (merge.removes terms) in
      covers_alike added x w (is no_count)
      (t.only_added j (omega (arith, within, end)) (omega (arith, more, more_added, more_removed, all.added j no_count within, all.removed j no_count within)))

  -- a value with more removes
  covers_removed : (w : Text) → all_added text_eq terms w < all_removed text_eq terms w → Covers text_eq removed w
  covers_removed w more =
      let (j, (within, is)) = all.known w (omega (arith, more)) in
      let x = (at counts j).text in
      let more_added = counts_alike x w (is no_count) (merge.adds terms) in
      let more_removed = counts_alike x w (is no_count) (merge.removes terms) in
      covers_alike removed x w (is no_count)
      (t.only_removed j (omega (arith, within, end)) (omega (arith, more, more_added, more_removed, all.added j no_count within, all.removed j no_count within)))

resolved : (counts : List ValueCount) (change : SameChange) (k : ℕ) (a : Text) (removed : Option Text) → length counts ≤ k
    → IsDecidedTo counts change k (Some a) removed → (terms : List Text) → AreCountsOf terms counts → ResolvesTo text_eq change terms a
resolved counts Keep k a (Some r) end t terms all = let none : Some r ≡ None = t.kept refl in cc
resolved counts Keep k a None end t terms all =
    let (j, before, within, is, more, once) = t.is_added a refl in
    let x = (at counts j).text in (
      subst (λ (a : Text). pos (all_added text_eq terms a) -ℤ pos (all_removed text_eq terms a) ≡ pos 1) (sym is)
          (is_one (all_added text_eq terms x) (all_removed text_eq terms x) (omega (arith, once refl, all.added j no_count within, all.removed j no_count within))),
      λ w some. by_order w some,
    )
  where
    by_order : (w : Text) → pos (all_added text_eq terms w) -ℤ pos (all_removed text_eq terms w) ≢ pos 0 → text_eq a w ≡ true
    by_order w some = elim (cases_lt (all_removed text_eq terms w) (all_added text_eq terms w)) [
      | inl more ↦ covers_added counts Keep k (Some a) None end t terms all w more
      | inr fewer ↦ elim (cases_lt (all_added text_eq terms w) (all_removed text_eq terms w)) [
        | inl less ↦ absurd (covers_removed counts Keep k (Some a) None end t terms all w less)
        | inr even ↦ absurd (some (is_zero (all_added text_eq terms w) (all_removed text_eq terms w) fewer even))
      ]
    ]
resolved counts Accept k a removed end t terms all =
    let (j, before, within, is, more, once) = t.is_added a refl in
    let x = (at counts j).text in (
      subst (λ (a : Text). pos 0 <ℤ (pos (all_added text_eq terms a) -ℤ pos (all_removed text_eq terms a))) (sym is)
          (is_positive (all_added text_eq terms x) (all_removed text_eq terms x) (omega (arith, more, all.added j no_count within, all.removed j no_count within))),
      λ w positive. covers_added counts Accept k (Some a) removed end t terms all w (from_positive (all_added text_eq terms w) (all_removed text_eq terms w) positive),
      λ w x w_negative x_negative. covers_both removed w x
          (covers_removed counts Accept k (Some a) removed end t terms all w (from_negative (all_added text_eq terms w) (all_removed text_eq terms w) w_negative))
          (covers_removed counts Accept k (Some a) removed end t terms all x (from_negative (all_added text_eq terms x) (all_removed text_eq terms x) x_negative)),
    )

unresolved : (counts : List ValueCount) (change : SameChange) (k : ℕ) (removed : Option Text) → length counts ≤ k
    → IsDecidedTo counts change k None removed → (terms : List Text) → AreCountsOf terms counts → HasNoResolution text_eq terms change
unresolved counts Keep k removed end t terms all v d =
    let one = one_more (all_added text_eq terms v) (all_removed text_eq terms v) d.0 in
    covers_added counts Keep k None removed end t terms all v (omega (arith, one))
unresolved counts Accept k removed end t terms all v d =
    covers_added counts Accept k None removed end t terms all v (from_positive (all_added text_eq terms v) (all_removed text_eq terms v) d.0)

-- the outcome after all values
pub decided_at_end : (counts : List ValueCount) (change : SameChange) (k : ℕ) (added removed : Option Text) → length counts ≤ k
    → IsDecidedTo counts change k added removed → (terms : List Text) → AreCountsOf terms counts → IsTextOutcome change terms added
decided_at_end counts change k None removed end t terms all = unresolved counts change k removed end t terms all
decided_at_end counts change k (Some a) removed end t terms all = resolved counts change k a removed end t terms all
