use Rattle.std.proofs.Common.{◌∙◌, ◌&&◌, ◌==◌, not, rules, tests, ap, sym}
use Rattle.std.specs.List.{list_all, slice_split}
use Rattle.std.proofs.lemmas.Iterator.Search.{all_from_yields_List}
use Rattle.std.proofs.lemmas.Iterator.Splits.{YieldsList-from_slice_split}
use Rattle.jj_filesets.specs.PathStrings.{is_dot_name}
use Rattle.jj_filesets.proofs.path_string.is_relative.Goals as goal

pub returns-then-not-is_absolute : goal.returns-then-not-is_absolute
returns-then-not-is_absolute c =
    all_from_yields_List (λ name. not (is_dot_name name)) _ _ _ c.all.ensures.ran
    (YieldsList-from_slice_split _ (λ b. b == 47) c.args.path.now c.split.ensures.rest c.split.ensures.done c.split.ensures.closure (λ x r q k. search (rules, tests)))
    (λ x b q called. (search rules, search rules))
    ∙ ap (λ absolute. not absolute && list_all (λ name. not (is_dot_name name)) (slice_split (λ b. b == 47) c.args.path.now)) (sym c.if-not-is_absolute.true ∙ c.is_absolute.ensures)
