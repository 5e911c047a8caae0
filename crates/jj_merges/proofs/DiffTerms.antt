-- `diff_terms` of a list with one more diff.
use Rattle.std.proofs.Common.{◌≡◌, List, [], ◌∷◌, ◌++◌, refl, ap}
use Rattle.jj_merges.specs.Sources.{diff_terms}
use Rattle.jj_merges.specs.declared.merge.diffs.Diff.{Diff}

pub diff_terms_push : {T : Type 0} (ds : List (Diff T)) (d : Diff T) → diff_terms (ds ++ d ∷ []) ≡ diff_terms ds ++ d.before ∷ d.after ∷ []
diff_terms_push [] d = refl
diff_terms_push (e ∷ ds) d = ap (λ xs. e.before ∷ e.after ∷ xs) (diff_terms_push ds d)
