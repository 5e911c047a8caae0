use Rattle.std.proofs.Common.{lit<}
use Rattle.std.proofs.lemmas.Str.Pattern.{contains_char}
use Rattle.jj_paths.proofs.PathStrings.{not_empty}
use Rattle.jj_paths.proofs.PathPrefixes.{no_slash-is_name}
use Rattle.jj_paths.proofs.repo_path.is_valid_repo_path_component_str.Goals as goal

pub returns-then-not-is_empty : goal.returns-then-not-is_empty
returns-then-not-is_empty c = no_slash-is_name _ _ (not_empty _ c.if-not-is_empty.ensures) (contains_char 47 _ _ c.contains.ensures.cases (lit< tt))
