use Rattle.std.proofs.Common.{◌≡◌, ◌∙◌, ◌%◌, List, ap, length, map, subst}
use Rattle.std.specs.List.{AllZip}
use Rattle.std.specs.Str.{bytes_eq}
use Rattle.std.proofs.lemmas.Result.{IfOk-weaker}
use Rattle.jj_merges.specs.Simplify.{at_indices, simplified_indices}
use Rattle.jj_core_c.specs.declared.merges.Term.{Term}
use Rattle.jj_core_c.specs.MergeTerms.{term_eq}
use Rattle.jj_core_c.specs.Pieces.{pieces_of}
use Rattle.jj_core_c.proofs.TermMerges.{remaining}
use Rattle.jj_core_c.proofs.merges.remaining_indices.Goals as goal

pub returns : goal.returns
returns c =
    let terms = c.in_ok-terms.terms.items in
    let left = c.in_ok-simplified.simplified in
    let len : length terms ≡ length c.args.ends.now = c.in_ok-terms.ensures.len in
    let odd : length terms % 2 ≡ 1 = rw len c.requires.odd in
    let same : c.from_vec-merge.result ≡ terms = c.from_vec-merge.ensures ∙ c.from_vec.ensures.items in
    let kept = subst (λ (m : List Term). AllZip (λ x y. y ≡ x) (at_indices m (simplified_indices term_eq m)) left) same c.in_ok-simplified.ensures.terms in
    let indices = remaining (λ term. term.bytes.now) (λ term. term.index) terms left odd c.in_ok-terms.ensures.indices kept in
    IfOk-weaker c.indices_of.result (λ v. v.items ≡ map (λ term. term.index) c.as_slice.result.now) (λ v. v.items ≡ simplified_indices bytes_eq (pieces_of c.args.bytes.now c.args.ends.now))
    (λ v is. is ∙ ap (map (λ term. term.index)) c.as_slice.ensures.terms ∙ indices ∙ ap (simplified_indices bytes_eq) c.in_ok-terms.ensures.bytes) c.indices_of.ensures
