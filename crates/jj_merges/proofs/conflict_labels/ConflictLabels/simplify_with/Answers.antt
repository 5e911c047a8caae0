use Rattle.std.proofs.Common.{◌≡◌, ◌∙◌, ◌<◌, ap, subst, sym, map, arith, rules, length, [], inl, inr}
use Rattle.std.specs.Prelude.{string_bytes}
use Rattle.std.specs.List.{AllZip}
use Rattle.std.proofs.lemmas.Bool.{false≢true, cases_lt}
use Rattle.std.proofs.lemmas.List.{length-map}
use Rattle.jj_merges.specs.Simplify.{simplified_indices, at_indices}
use Rattle.jj_merges.specs.Labels.{normalized_labels}
use Rattle.jj_merges.proofs.TermwiseLaws.{simplified_in_range, odd-simplified_indices, simplify_counts, simplify_disjoint}
use Rattle.jj_merges.proofs.LabelLaws.{normalized_labels-nonempty, empty_list, at_indices-nil, at_indices-map, map-clones}
use Rattle.jj_merges.proofs.conflict_labels.ConflictLabels.simplify_with.Goals as goal

pub returns-then-not-has_labels-clause-labels : goal.returns-then-not-has_labels-clause-labels
returns-then-not-has_labels-clause-labels g c =
    let none : c.args.self.now ≡ [] =
    elim (cases_lt 0 (length c.args.self.now)) [
      | inl h ↦ absurd (false≢true (sym c.if-not-has_labels.true ∙ c.has_labels.ensures.1 h))
      | inr h ↦ empty_list c.args.self.now (omega arith)
    ] in
    let indices = simplified_indices g.T.PartialEq.eq c.args.merge.now in
    c.unlabeled.ensures ∙ sym (ap (λ strings. normalized_labels (at_indices strings indices)) none ∙ ap normalized_labels (at_indices-nil indices))

-- the model's labels are the stored ones, and there are as many as terms
stored : (g : _) (c : goal.After-deref g) → (c.args.self.now ≡ map string_bytes c.self.inside.labels) × (length c.as_slice.result.now ≡ length c.args.merge.now)
stored g c =
    let strings = map string_bytes c.self.inside.labels in
    let long : 0 < length c.args.self.now = c.has_labels.ensures.0 c.if-not-has_labels.false in
    let whole : c.args.self.now ≡ strings = sym c.self.view_is ∙ normalized_labels-nonempty strings (rw c.self.view_is long) in
    let sides : length c.args.self.now ≡ length c.args.merge.now =
    elim c.requires.sides [ inl none ↦ absurd (omega (arith, long, ap length none)) | inr e ↦ e ] in
    (whole, ap length c.as_slice.ensures.terms ∙ (sym (length-map c.self.inside.labels string_bytes) ∙ (sym (ap length whole) ∙ sides)))

pub clone_at_indices-requires : goal.clone_at_indices-requires
clone_at_indices-requires g c =
    let eq = g.T.PartialEq.eq in
    let m = c.args.merge.now in
    let indices : c.deref.result.now ≡ simplified_indices eq m = c.deref.ensures.value ∙ (c.in_ok-indices.ensures ∙ ap (simplified_indices eq) c.as_slice-values.ensures.terms) in (
      search rules,
      (
        rw (indices, (stored g c).1) (simplified_in_range eq m c.as_slice-values.ensures.odd),
        rw indices (odd-simplified_indices eq m c.as_slice-values.ensures.odd),
      ),
    )

pub clone_at_indices-requires-2 : goal.clone_at_indices-requires-2
clone_at_indices-requires-2 g c =
    let eq = g.T.PartialEq.eq in
    let m = c.args.merge.now in
    let indices : c.deref-2.result.now ≡ simplified_indices eq m = c.deref-2.ensures.value ∙ (c.in_ok-indices.ensures ∙ ap (simplified_indices eq) c.as_slice-values.ensures.terms) in (
      search rules,
      (
        rw (indices, c.as_slice-values.ensures.terms) (simplified_in_range eq m c.as_slice-values.ensures.odd),
        rw indices (odd-simplified_indices eq m c.as_slice-values.ensures.odd),
      ),
    )

pub returns-clause-labels : goal.returns-clause-labels
returns-clause-labels g c =
    let eq = g.T.PartialEq.eq in
    let m = c.args.merge.now in
    let indices : c.deref.result.now ≡ simplified_indices eq m = c.deref.ensures.value ∙ (c.in_ok-indices.ensures ∙ ap (simplified_indices eq) c.as_slice-values.ensures.terms) in
    let labels = c.self.inside.labels in
    let long : 0 < length c.args.self.now = c.has_labels.ensures.0 c.if-not-has_labels.false in
    let whole : c.args.self.now ≡ map string_bytes labels = sym c.self.view_is ∙ normalized_labels-nonempty (map string_bytes labels) (rw c.self.view_is long) in
    let copies = map-clones string_bytes (at_indices c.as_slice.result.now c.deref.result.now) c.in_ok-labels.labels c.in_ok-labels.ensures in
    let strings : map string_bytes c.in_ok-labels.labels ≡ at_indices c.args.self.now (simplified_indices eq m) =
    copies ∙ (ap (λ xs. map string_bytes (at_indices xs c.deref.result.now)) c.as_slice.ensures.terms
    ∙ (ap (λ ps. map string_bytes (at_indices labels ps)) indices
    ∙ (sym (at_indices-map string_bytes labels (simplified_indices eq m)) ∙ ap (λ xs. at_indices xs (simplified_indices eq m)) (sym whole)))) in
    c.from_merge.ensures ∙ ap normalized_labels strings

pub simplify-requires : goal.simplify-requires
simplify-requires g c = (search rules, c.requires.clones)

pub simplified_indices-requires : goal.simplified_indices-requires
simplified_indices-requires g c = rw c.as_slice-values.ensures.terms c.as_slice-values.ensures.odd

pub returns-then-not-has_labels-clause-terms : goal.returns-then-not-has_labels-clause-terms
returns-then-not-has_labels-clause-terms g c = c.in_ok-simplify.ensures.terms

pub returns-clause-terms : goal.returns-clause-terms
returns-clause-terms g c =
    let eq = g.T.PartialEq.eq in
    let m = c.args.merge.now in
    let clones = g.T.Clone.is_clone in
    let indices : c.deref-2.result.now ≡ simplified_indices eq m = c.deref-2.ensures.value ∙ (c.in_ok-indices.ensures ∙ ap (simplified_indices eq) c.as_slice-values.ensures.terms) in
    subst (λ ps. AllZip clones (at_indices m ps) c.in_ok-terms.terms) indices
    (subst (λ vs. AllZip clones (at_indices vs c.deref-2.result.now) c.in_ok-terms.terms) c.as_slice-values.ensures.terms c.in_ok-terms.ensures)

pub returns-clause-counts : goal.returns-clause-counts
returns-clause-counts g c =
    simplify_counts g.T.PartialEq.eq g.met.T.PartialEq.laws g.T.Clone.is_clone c.requires.clones c.args.merge.now c.in_ok-terms.terms
    c.as_slice-values.ensures.odd (returns-clause-terms g c)

pub returns-clause-disjoint : goal.returns-clause-disjoint
returns-clause-disjoint g c =
    simplify_disjoint g.T.PartialEq.eq g.met.T.PartialEq.laws g.T.Clone.is_clone c.requires.clones c.args.merge.now c.in_ok-terms.terms
    c.as_slice-values.ensures.odd (returns-clause-terms g c)

pub returns-then-not-has_labels-clause-counts : goal.returns-then-not-has_labels-clause-counts
returns-then-not-has_labels-clause-counts g c = c.in_ok-simplify.ensures.counts

pub returns-then-not-has_labels-clause-disjoint : goal.returns-then-not-has_labels-clause-disjoint
returns-then-not-has_labels-clause-disjoint g c = c.in_ok-simplify.ensures.disjoint
