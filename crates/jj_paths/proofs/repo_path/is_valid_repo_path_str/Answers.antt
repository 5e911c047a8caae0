use Rattle.std.proofs.Common.{◌∙◌, lit<, rules}
use Rattle.std.proofs.lemmas.Iterator.Search.{all_from_yields_List}
use Rattle.std.proofs.lemmas.Iterator.Splits.{YieldsList-from_str_split}
use Rattle.jj_paths.proofs.PathStrings.{not_empty, is_filled, filled-path_string}
use Rattle.jj_paths.proofs.repo_path.is_valid_repo_path_str.Goals as goal

pub returns-else-is_empty : goal.returns-else-is_empty
returns-else-is_empty c =
    all_from_yields_List is_filled _ _ _ c.all.ensures.ran
    (YieldsList-from_str_split 47 c.args.value.now (lit< tt) c.split.ensures.text c.split.ensures.has_more c.split.ensures.pattern)
    (λ x b q called. (search rules, search rules))
    ∙ filled-path_string c.args.value.now (not_empty _ c.if-is_empty.ensures)
