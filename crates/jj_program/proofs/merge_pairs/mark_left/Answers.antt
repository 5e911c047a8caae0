use Rattle.std.proofs.Common.{◌≡◌, ◌∙◌, Bool, List, true, false, ap, arith, get_or, length, replicate}
use Rattle.std.proofs.lemmas.List.{get_or-replicate, length-replicate}
use Rattle.jj_program.proofs.PairedTerms.{all_left}
use Rattle.jj_program.proofs.merge_pairs.mark_left.Goals as goal

pub cancel_left-requires : goal.cancel_left-requires
cancel_left-requires c =
    let n = length c.args.terms.now in
    let flags = c.in_ok-left.left.items in
    let equal : flags ≡ replicate n true = c.in_ok-left.ensures.items_if_clones_equal (λ _ e. e) in
    let size : length flags ≡ n = ap length equal ∙ length-replicate n true in
    all_left c.args.terms.now flags size (λ k within.
    ap (λ (flags : List Bool). get_or flags k false) equal ∙ get_or-replicate n k true false (omega (arith, size, within)))
