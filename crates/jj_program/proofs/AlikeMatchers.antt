-- A matcher with the same paths or patterns is alike.
use Rattle.std.proofs.Common.{List, refl}
use Rattle.jj_paths.specs.Paths.{Path}
use Rattle.jj_paths.specs.Orders.{path_eq}
use Rattle.jj_matchers.specs.Patterns.{Patterns, HasSamePatterns, pattern_dirs}
use Rattle.jj_matchers.specs.PathLists.{HasSamePaths, is_at_or_below}
use Rattle.jj_program.specs.declared.file_set.matcher.FileSet.TheVariants.{Everything, Nothing, Files, Prefix, Globs}
use Rattle.jj_program.specs.SetCode.{IsAlike}
use Rattle.jj_program.specs.WalkCommand.{leaf_spec}
use Rattle.jj_program.proofs.SamePaths.{same_files_answer, same_prefix_answer}
use Rattle.jj_program.proofs.SamePatterns.{same_names, same_dirs, same_accepted, same_patterns_answer}

pub everything_alike : IsAlike (leaf_spec Everything) (leaf_spec Everything)
everything_alike = record { accepts = λ path. refl; visits = λ dir. refl; names = λ test. refl }

pub nothing_alike : IsAlike (leaf_spec Nothing) (leaf_spec Nothing)
nothing_alike = record { accepts = λ path. refl; visits = λ dir. refl; names = λ test. refl }

pub files_alike : (wanted paths : List Path) → HasSamePaths wanted paths → IsAlike (leaf_spec (Files wanted)) (leaf_spec (Files paths))
files_alike wanted paths same = record { accepts = λ path. same (path_eq path); visits = same_files_answer wanted paths same; names = same_names wanted paths same }

pub prefixes_alike : (prefixes paths : List Path) → HasSamePaths prefixes paths → IsAlike (leaf_spec (Prefix prefixes)) (leaf_spec (Prefix paths))
prefixes_alike prefixes paths same = record { accepts = λ path. same (λ prefix. is_at_or_below prefix path); visits = same_prefix_answer prefixes paths same; names = same_names prefixes paths same }

pub globs_alike : (own set : Patterns) → HasSamePatterns own set → IsAlike (leaf_spec (Globs own)) (leaf_spec (Globs set))
globs_alike own set same = record { accepts = same_accepted own set same; visits = same_patterns_answer own set same; names = same_names (pattern_dirs own) (pattern_dirs set) (same_dirs own set same) }
