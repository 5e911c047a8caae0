use Rattle.std.proofs.Common.{◌≡◌, ℕ, ◌-◌, List, ◌++◌, length, take, drop, ap, ◌∙◌, append_assoc, take-append-drop}
use Rattle.std.proofs.lemmas.List.{take_rest}
use Rattle.std.proofs.KnownBytes.{Appends-trans}
use Rattle.jj_files.proofs.file_util.write_all.Goals as goal

-- moves the next n bytes from the remaining to the finished ones
moves_prefix : (all done rest : List ℕ) (n : ℕ) → done ++ rest ≡ all → (done ++ take n rest) ++ take (length rest - n) (drop n rest) ≡ all
moves_prefix all done rest n e =
    ap (λ l. (done ++ take n rest) ++ l) (take_rest rest n) ∙ append_assoc done (take n rest) (drop n rest) ∙ ap (λ l. done ++ l) (take-append-drop n rest) ∙ e

pub loop-rest-preserved : goal.loop-rest-preserved
loop-rest-preserved g c =
    let (done, appended, split, works) = c.loop-rest.invariant in
    let rest = c.loop-rest.rest.now in
    let n = c.in_ok-n.n in
    (done ++ take n rest, Appends-trans _ _ _ _ _ appended c.in_ok-n.ensures.bytes, moves_prefix _ done rest n split, c.in_ok-n.ensures.failure ∙ works)
