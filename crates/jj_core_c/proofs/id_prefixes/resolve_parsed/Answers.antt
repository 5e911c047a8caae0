use Rattle.std.proofs.Common.{◌≡◌, ◌∙◌, ◌<◌, ◌+◌, ℕ, List, Some, Bool, nat_eq, ap, arith, length, subst, sym, take}
use Rattle.std.specs.List.{starts_with}
use Rattle.std.proofs.lemmas.List.{take_all}
use Rattle.jj_content.specs.Hex.{hex, reverse_hex}
use Rattle.jj_ids.specs.HexPrefixes.{to_reverse_hex}
use Rattle.jj_ids.specs.Resolution.{IfSingleMatch}
use Rattle.jj_core_c.specs.IdPrefixes.{resolution}
use Rattle.jj_core_c.specs.Pieces.{pieces_of}
use Rattle.jj_core_c.proofs.IdPrefixes.{below_more, below_next, next_match, next_other}
use Rattle.jj_core_c.proofs.PieceLists.{length_pieces}
use Rattle.jj_core_c.proofs.id_prefixes.resolve_parsed.Goals as goal
use Rattle.jj_core_c.proofs.id_prefixes.resolve_parsed.Goals.{else-matches, then-matches}

pub loop-index-preserved : goal.loop-index-preserved
loop-index-preserved c =
    let pieces = pieces_of c.args.ids.now c.args.ends.now in
    let i = c.loop-index.index in
    let found = c.loop-index.found in
    let at = c.piece_at.ensures ∙ ap Some (sym c.in_ok-id.ensures) in
    let of_hex : List ℕ → Bool = λ id. starts_with nat_eq (hex id) c.args.prefix.now in
    let of_reverse : List ℕ → Bool = λ id. starts_with nat_eq (reverse_hex id) (to_reverse_hex c.args.prefix.now) in
    elim c.if-matches.branch [
      | then-matches w ↦ let is = w.found-is ∙ w.with_match-found.ensures in record {
        hex = is ∙ next_match of_hex pieces i _ found at (sym c.matches.ensures.hex ∙ w.if-matches.true) c.loop-index.invariant.hex;
        reverse_hex = is ∙ next_match of_reverse pieces i _ found at (sym c.matches.ensures.reverse_hex ∙ w.if-matches.true) c.loop-index.invariant.reverse_hex;
        below = subst (λ r. IfSingleMatch r (λ index. index < i + 1)) (sym is) (below_next found i c.loop-index.invariant.below);
      }
      | else-matches w ↦ record {
        hex = w.found-is ∙ next_other of_hex pieces i _ found at (sym c.matches.ensures.hex ∙ w.if-matches.false) c.loop-index.invariant.hex;
        reverse_hex = w.found-is ∙ next_other of_reverse pieces i _ found at (sym c.matches.ensures.reverse_hex ∙ w.if-matches.false) c.loop-index.invariant.reverse_hex;
        below = subst (λ r. IfSingleMatch r (λ index. index < i + 1)) (sym w.found-is) (below_more found i c.loop-index.invariant.below);
      }
    ]

whole : (matches : List ℕ → Bool) (ids : List (List ℕ)) (i : ℕ) → length ids ≡ i → resolution matches (take i ids) ≡ resolution matches ids
whole matches ids i is = ap (resolution matches) (take_all i ids (omega (arith, is)))

pub returns-clause-hex : goal.returns-clause-hex
returns-clause-hex c =
    let len = length_pieces c.args.ids.now 0 c.args.ends.now in
    c.loop-index.invariant.hex ∙ whole (λ id. starts_with nat_eq (hex id) c.args.prefix.now) (pieces_of c.args.ids.now c.args.ends.now) c.loop-index.index (omega (arith, len))

pub returns-clause-reverse_hex : goal.returns-clause-reverse_hex
returns-clause-reverse_hex c =
    let len = length_pieces c.args.ids.now 0 c.args.ends.now in
    c.loop-index.invariant.reverse_hex
    ∙ whole (λ id. starts_with nat_eq (reverse_hex id) (to_reverse_hex c.args.prefix.now)) (pieces_of c.args.ids.now c.args.ends.now) c.loop-index.index (omega (arith, len))
