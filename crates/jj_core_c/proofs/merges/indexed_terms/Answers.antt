use Rattle.std.proofs.Common.{◌≡◌, ◌∙◌, ◌+◌, ◌++◌, ◌∷◌, [], ℕ, List, ap, arith, length, map, sym, add-one}
use Rattle.std.specs.List.{range_with_len}
use Rattle.std.proofs.lemmas.List.{map-append, take_all}
use Rattle.std.proofs.lemmas.List.FromFn.{length-range_with_len}
use Rattle.std.proofs.Math.ListN.{length-map}
use Rattle.jj_core_c.specs.declared.merges.Term.{Term}
use Rattle.jj_core_c.specs.Pieces.{pieces_of}
use Rattle.jj_core_c.proofs.PieceLists.{length_pieces, map_next, range_next}
use Rattle.jj_core_c.proofs.merges.indexed_terms.Goals as goal

pub loop-index-preserved : goal.loop-index-preserved
loop-index-preserved c =
    let index = c.loop-index.index in
    let found = c.loop-index.terms.items in
    let pushed : Term = record { bytes = c.piece_at-bytes.result; index = index } in
    let more = c.in_ok-push.ensures.items in
    let place : index ≡ 0 + index = omega arith in
    record {
      bytes = map_next (λ term. term.bytes.now) found c.push.new.self.items (pieces_of c.args.bytes.now c.args.ends.now) index pushed c.loop-index.invariant.bytes c.piece_at-bytes.ensures more;
      indices = ap (map (λ term. term.index)) more ∙ map-append (λ term. term.index) found (pushed ∷ []) ∙ ap (λ (l : List ℕ). l ++ index ∷ []) c.loop-index.invariant.indices
          ∙ ap (λ (n : ℕ). range_with_len 0 index ++ n ∷ []) place ∙ sym (range_next 0 index) ∙ ap (range_with_len 0) (sym (add-one index));
    }

pub returns-clause-bytes : goal.returns-clause-bytes
returns-clause-bytes c =
    let len = length_pieces c.args.bytes.now 0 c.args.ends.now in
    c.loop-index.invariant.bytes ∙ take_all c.loop-index.index (pieces_of c.args.bytes.now c.args.ends.now) (omega (arith, len))

count : (l : List Term) (index : ℕ) → map (λ term. term.index) l ≡ range_with_len 0 index → length l ≡ index
count l index numbered = sym (length-map l (λ term. term.index)) ∙ ap length numbered ∙ length-range_with_len 0 index

pub returns-clause-indices : goal.returns-clause-indices
returns-clause-indices c = c.loop-index.invariant.indices ∙ ap (range_with_len 0) (sym (count c.loop-index.terms.items c.loop-index.index c.loop-index.invariant.indices))

pub returns-clause-len : goal.returns-clause-len
returns-clause-len c = omega (arith, count c.loop-index.terms.items c.loop-index.index c.loop-index.invariant.indices)
