-- The merges whose content is hashed, by their terms.
-- Cited by contracts of public items: IsMergeOf, merge_lawful.
use Rattle.std.specs.Prelude.{ℕ, Bool, List, length}
use Rattle.std.specs.Cmp.Lexicographic.{pointwise}
use Rattle.jj_content.specs.Content.{IsLawful, AreValues, list_content}
use Rattle.jj_content.specs.PrefixFreeProofs.{list_lawful, narrow_lawful}
use Rattle.jj_merges.specs.Merge.{IsOdd}

-- an odd list of values, shorter than 2 ^ 64
abbrev pub IsMergeOf : {T : Type 0} → (T → Type 0) → List T → Type 0
IsMergeOf is_value terms = IsOdd (length terms) × AreValues is_value terms

pub merge_lawful : {T : Type 0} {v : T → Type 0} {e : T → T → Bool} {c : T → List ℕ}
    → IsLawful v e c → IsLawful (IsMergeOf v) (pointwise e) (list_content c)
merge_lawful laws = narrow_lawful (λ _ value. value.1) (list_lawful laws)
