use Rattle.std.proofs.Common.{◌∙◌, ◌==◌, rules, tests}
use Rattle.std.proofs.lemmas.Iterator.Search.{all_from_yields_List}
use Rattle.std.proofs.lemmas.Iterator.Splits.{YieldsList-from_slice_split}
use Rattle.jj_paths.proofs.PathStrings.{not_empty, is_filled, filled-path_string}
use Rattle.jj_filesets.proofs.path_string.is_path.Goals as goal

pub returns-else-is_empty : goal.returns-else-is_empty
returns-else-is_empty c =
    all_from_yields_List is_filled _ _ _ c.all.ensures.ran
    (YieldsList-from_slice_split _ (λ b. b == 47) c.args.path.now c.split.ensures.rest c.split.ensures.done c.split.ensures.closure (λ x r q k. search (rules, tests)))
    (λ x b q called. (search rules, search rules))
    ∙ filled-path_string c.args.path.now (not_empty _ c.if-is_empty.ensures)
