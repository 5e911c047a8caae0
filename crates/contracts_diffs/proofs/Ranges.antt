-- Ranges of hunks, one after the other.
use Rattle.std.proofs.Common.{◌≡◌, ℕ, ◌+◌, List, [], ◌∷◌, ◌++◌, length, map, get_or, refl, ap, sym, ◌∙◌, subst, arith, length-append, append_assoc}
use Rattle.std.proofs.lemmas.Grind.{common_steps}
use Rattle.std.specs.List.{slice_range}
use Rattle.jj_diff.specs.declared.diff.hunks.DiffHunk.{DiffHunk}
use Rattle.jj_diff.specs.Inputs.{side}
use Rattle.jj_diff.specs.Hunks.{row_of, hunk_ranges}
use Rattle.contracts_diffs.specs.Ranges.{IsContiguous, left_parts, parts_at}

pub contiguous : (i start : ℕ) (hs : List DiffHunk) → IsContiguous start (hunk_ranges i start hs)
contiguous i start [] = tt
contiguous i start (h ∷ hs) =
    (refl, omega arith, contiguous i (start + length (get_or (row_of h) i [])) hs)

part_between : (before part after : List ℕ) (n m : ℕ) → n ≡ length before → m ≡ n + length part
    → slice_range (before ++ (part ++ after)) n m ≡ part
part_between before part after n m e f = grind (arith, common_steps)

parts_from : (before : List ℕ) (start : ℕ) (hs : List DiffHunk) → start ≡ length before
    → parts_at (before ++ side 0 (map row_of hs)) (hunk_ranges 0 start hs) ≡ left_parts hs
parts_from before start [] e = refl
parts_from before start (h ∷ hs) e =
    let part : List ℕ = get_or (row_of h) 0 [] in
    let rest : List ℕ = side 0 (map row_of hs) in
    let next : start + length part ≡ length (before ++ part) = omega (arith, e, length-append before part) in
    ap (λ p. p ∷ parts_at (before ++ (part ++ rest)) (hunk_ranges 0 (start + length part) hs))
    (part_between before part rest start (start + length part) e refl)
    ∙ ap (λ ps. part ∷ ps)
    (ap (λ text. parts_at text (hunk_ranges 0 (start + length part) hs)) (sym (append_assoc before part rest))
    ∙ parts_from (before ++ part) (start + length part) hs next)

pub parts_of_hunks : (text : List ℕ) (hs : List DiffHunk) → side 0 (map row_of hs) ≡ text
    → parts_at text (hunk_ranges 0 0 hs) ≡ left_parts hs
parts_of_hunks text hs e =
    subst (λ x. parts_at x (hunk_ranges 0 0 hs) ≡ left_parts hs) e (parts_from [] 0 hs refl)
