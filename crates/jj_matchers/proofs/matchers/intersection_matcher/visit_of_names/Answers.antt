use Rattle.std.proofs.Common.{◌∙◌, map}
use Rattle.jj_paths.specs.Names.{name_of}
use Rattle.jj_matchers.proofs.MentionedNames.{sets_named}
use Rattle.jj_matchers.proofs.matchers.intersection_matcher.visit_of_names.Goals as goal

pub returns-in-Set-files : goal.returns-in-Set-files
returns-in-Set-files c = rw (c.in-Set.is, c.in-Set-files.is) (λ names d f. c.sets.ensures.visit ∙ sets_named names (map name_of c.in-Set.dirs.keys) (map name_of c.in-Set-files.files.keys) d f)
