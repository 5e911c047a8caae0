use Rattle.std.proofs.Common.{◌∙◌, ◌++◌, ◌∷◌, [], sym, ap, if◌then◌else◌}
use Rattle.std.specs.Ordering.{is_eq}
use Rattle.jj_paths.specs.Paths.{name_cmp}
use Rattle.jj_paths.specs.Names.{name_of, path_of}
use Rattle.jj_tree_builder.specs.PendingChanges.{changes_of}
use Rattle.jj_tree_builder.proofs.EntryMaps.{ignored, pushed}
use Rattle.jj_tree_builder.proofs.tree_builder.Pending.push.Goals as goal

pub returns-then-is_ignored-clause-files : goal.returns-then-is_ignored-clause-files
returns-then-is_ignored-clause-files c =
    λ trees place. ignored trees c.args.self.now (path_of c.args.path) (name_of c.in-Some.name) (path_of c.in-Some.rest) c.args.value c.in-Some.ensures (sym c.is_ignored.ensures ∙ c.if-is_ignored.true) c.requires place

pub returns-in_ok-push_below-in-Some-clause-files : goal.returns-in_ok-push_below-in-Some-clause-files
returns-in_ok-push_below-in-Some-clause-files c =
    λ trees place. pushed trees c.args.self.now (record { value = c.open.new.self.value; below = c.push_below.new.below }) (path_of c.args.path) (name_of c.in-Some.name) (path_of c.in-Some.rest) c.args.value c.in-Some.ensures
    (λ q. c.in_ok-push_below-in-Some.ensures q
    ∙ ap (λ b. if is_eq (name_cmp (name_of c.in-Some.name) q) then changes_of b q ++ (path_of c.in-Some.rest, c.args.value) ∷ [] else changes_of b q) c.open.ensures.below)
    c.open.ensures.directory (sym c.is_ignored.ensures ∙ c.if-is_ignored.false) (c.open.ensures.files trees) place
