use Rattle.std.proofs.Common.{ap, inl, refl, sym, ◌∙◌}
use Rattle.jj_paths.specs.Names.{path_of}
use Rattle.jj_matchers_tests.specs.TopLevel.{top_level_spec}
use Rattle.jj_matchers_tests.proofs.TopLevel.{all_below, none_below, at_root}
use Rattle.jj_matchers_tests.proofs.own_matcher.TopLevelMatcherMatcher.visit_sorted.Goals as goal

pub returns-then-matches-clause-visit : goal.returns-then-matches-clause-visit
returns-then-matches-clause-visit c = (all_below c.args.self.now.names.keys (path_of c.args.dir) (sym c.matches.ensures ∙ c.if-matches.true)).0

pub returns-then-matches-clause-sound : goal.returns-then-matches-clause-sound
returns-then-matches-clause-sound c = (all_below c.args.self.now.names.keys (path_of c.args.dir) (sym c.matches.ensures ∙ c.if-matches.true)).1

pub returns-then-is_below_root-clause-visit : goal.returns-then-is_below_root-clause-visit
returns-then-is_below_root-clause-visit c =
    (none_below c.args.self.now.names.keys (path_of c.args.dir) (sym c.matches.ensures ∙ c.if-matches.false) (sym c.is_below_root.ensures ∙ c.if-is_below_root.true)).0

pub returns-then-is_below_root-clause-sound : goal.returns-then-is_below_root-clause-sound
returns-then-is_below_root-clause-sound c =
    (none_below c.args.self.now.names.keys (path_of c.args.dir) (sym c.matches.ensures ∙ c.if-matches.false) (sym c.is_below_root.ensures ∙ c.if-is_below_root.true)).1

pub returns-clause-visit : goal.returns-clause-visit
returns-clause-visit c =
    ap (top_level_spec c.args.self.now.names.keys) (sym (at_root c.args.self.now.names.keys (path_of c.args.dir) (sym c.is_below_root.ensures ∙ c.if-is_below_root.false)))

pub returns-clause-sound : goal.returns-clause-sound
returns-clause-sound c = record { files_named = λ name h. refl; dirs_named = λ name next rest h. refl; dirs_open = λ name h. refl }

pub returns-clause-names : goal.returns-clause-names
returns-clause-names c = (inl (λ name. refl), inl (λ name. refl))
