use Rattle.std.proofs.Common.{◌∙◌, ◌++◌, ◌∷◌, [], ℕ, List, Contains, ap, subst, sym}
use Rattle.std.specs.Prelude.{All}
use Rattle.std.specs.BTreeSet.{insert_key}
use Rattle.std.specs.Cmp.Lexicographic.{slice_cmp}
use Rattle.std.specs.Ordering.{nat_cmp}
use Rattle.std.proofs.lemmas.List.Elements.{All-contains}
use Rattle.std.proofs.lemmas.Map.Views.{All-insert_key}
use Rattle.jj_history_commands.proofs.KnownObjects.{found_there, known_more, was_true}
use Rattle.jj_history_commands.proofs.checks.add_tree.Goals as goal

pub returns-in_ok-push-clause-known : goal.returns-in_ok-push-clause-known
returns-in_ok-push-clause-known c =
    let trees = c.args.trees.now.items in
    let keys = c.args.known.now.keys in
    known_more trees c.push.new.self.items keys c.insert.new.self.keys c.args.id.now c.requires
    (c.in_ok-push.ensures.items ∙ ap (λ (id : List ℕ). trees ++ id ∷ []) c.in_ok-clone-2.ensures.cases)
    (c.in_ok-insert.ensures.keys ∙ ap (λ (id : List ℕ). insert_key (slice_cmp nat_cmp) keys id) c.in_ok-clone.ensures.cases)

pub returns-else-branch-clause-known : goal.returns-else-branch-clause-known
returns-else-branch-clause-known c =
    let keys = c.args.known.now.keys in
    let id = c.in_ok-clone.field-0 in
    let there = Contains c.args.trees.now.items in
    subst (All there) (sym c.in_ok-insert.ensures.keys)
    (All-insert_key (slice_cmp nat_cmp) id there keys c.requires (All-contains there keys id c.requires (found_there id keys (was_true _ (sym c.if-branch.false ∙ c.in_ok-insert.ensures.added)))))

pub returns-else-branch-clause-found : goal.returns-else-branch-clause-found
returns-else-branch-clause-found c =
    let trees = c.args.trees.now.items in
    let keys = c.args.known.now.keys in
    All-contains (Contains trees) keys c.args.id.now c.requires
    (subst (Contains keys) c.in_ok-clone.ensures.cases (found_there c.in_ok-clone.field-0 keys (was_true _ (sym c.if-branch.false ∙ c.in_ok-insert.ensures.added))))
