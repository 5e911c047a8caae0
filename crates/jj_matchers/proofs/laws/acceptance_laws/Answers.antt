use Rattle.jj_matchers.proofs.AcceptedPaths.{has_members, has_all_below, has_matches}
use Rattle.jj_matchers.specs.Patterns.{patterns_spec}
use Rattle.jj_matchers.proofs.PatternSound.{patterns_sound, sound_for_globs}
use Rattle.jj_matchers.proofs.laws.acceptance_laws.Goals as goal

pub returns-clause-files : goal.returns-clause-files
returns-clause-files c = has_members

pub returns-clause-prefixes : goal.returns-clause-prefixes
returns-clause-prefixes c = has_all_below

pub returns-clause-globs : goal.returns-clause-globs
returns-clause-globs c = has_matches

pub returns-clause-glob_visits : goal.returns-clause-glob_visits
returns-clause-glob_visits c = λ set dir. sound_for_globs set dir (patterns_spec set dir) (patterns_sound set dir)
