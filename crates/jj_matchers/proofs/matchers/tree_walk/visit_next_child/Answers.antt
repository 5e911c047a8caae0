use Rattle.std.proofs.Common.{◌≡◌, ◌<◌, ◌∷◌, ◌++◌, [], refl, sym, subst, ◌∙◌}
use Rattle.std.proofs.lemmas.Result.{on_ok_weaker}
use Rattle.jj_matchers.specs.SortedVisits.{sorted_visit_spec}
use Rattle.jj_matchers.specs.WalkInvariants.{IsChildVisit, walk_measure, with_left}
use Rattle.jj_matchers.proofs.WalkSteps.{way_finished, goes_on_past, goes_on_without, goes_on_below, less_finished, less_past, less_below, no_length}
use Rattle.jj_matchers.proofs.matchers.tree_walk.visit_next_child.Goals as goal

pub returns-in_default-clause-on_the_way : goal.returns-in_default-clause-on_the_way
returns-in_default-clause-on_the_way g c = λ tree way.
    let m = c.args.matcher.now in
    way_finished (g.M.Matcher.accepts m) (g.M.Matcher.opens m) (g.M.Matcher.visits m) tree _ _ c.args.stack.now.items c.args.directory (no_length c.args.directory.left.now c.in_default.ensures.cases) way

pub returns-in_default-clause-less_left : goal.returns-in_default-clause-less_left
returns-in_default-clause-less_left g c = less_finished c.args.stack.now.items c.args.directory

pub returns-then-not-has_children-clause-on_the_way : goal.returns-then-not-has_children-clause-on_the_way
returns-then-not-has_children-clause-on_the_way g c =
    let m = c.args.matcher.now in
    on_ok_weaker c.push_frame.result
    (λ (items : c.push_frame.new.stack.items ≡ c.args.stack.now.items ++ with_left c.args.directory c.in-Some.left ∷ []). λ tree way.
    goes_on_past (g.M.Matcher.accepts m) (g.M.Matcher.opens m) (g.M.Matcher.visits m) tree _ _ c.args.stack.now.items c.args.directory c.in-Some.child.now.0 c.in-Some.child.now.1 c.in-Some.left c.in-Some.ensures.cases.0
    _ _ c.in_ok-push_file.ensures.files c.in_ok-push_file.ensures.entered _ items (sym c.if-not-has_children.ensures) way)
    c.push_frame.ensures

pub returns-then-not-has_children-clause-less_left : goal.returns-then-not-has_children-clause-less_left
returns-then-not-has_children-clause-less_left g c =
    let further = c.args.stack.now.items in
    let directory = c.args.directory in
    on_ok_weaker c.push_frame.result
    (λ (items : c.push_frame.new.stack.items ≡ further ++ with_left directory c.in-Some.left ∷ []).
    subst (λ l. walk_measure l < walk_measure (further ++ directory ∷ [])) (sym items)
    (less_past further directory (with_left directory c.in-Some.left) c.in-Some.child.now.0 c.in-Some.child.now.1 c.in-Some.left.now c.in-Some.ensures.cases.0 refl))
    c.push_frame.ensures

pub returns-in_default-2-clause-on_the_way : goal.returns-in_default-2-clause-on_the_way
returns-in_default-2-clause-on_the_way g c =
    let m = c.args.matcher.now in
    let nothing_below = subst (IsChildVisit (g.M.Matcher.accepts m) (g.M.Matcher.opens m) (g.M.Matcher.visits m) (c.args.directory.dir ++ c.in-Some.child.now.0 ∷ [])) c.in_default-2.is c.in_ok-path.ensures in
    on_ok_weaker c.push_frame-in_default-2.result
    (λ (items : c.push_frame-in_default-2.new.stack.items ≡ c.args.stack.now.items ++ with_left c.args.directory c.in-Some.left ∷ []). λ tree way.
    goes_on_without (g.M.Matcher.accepts m) (g.M.Matcher.opens m) (g.M.Matcher.visits m) tree _ _ c.args.stack.now.items c.args.directory c.in-Some.child.now.0 c.in-Some.child.now.1 c.in-Some.left c.in-Some.ensures.cases.0
    _ _ c.in_ok-push_file.ensures.files c.in_ok-push_file.ensures.entered _ items (sym c.if-not-has_children.ensures) nothing_below way)
    c.push_frame-in_default-2.ensures

pub returns-in_default-2-clause-less_left : goal.returns-in_default-2-clause-less_left
returns-in_default-2-clause-less_left g c =
    let further = c.args.stack.now.items in
    let directory = c.args.directory in
    on_ok_weaker c.push_frame-in_default-2.result
    (λ (items : c.push_frame-in_default-2.new.stack.items ≡ further ++ with_left directory c.in-Some.left ∷ []).
    subst (λ l. walk_measure l < walk_measure (further ++ directory ∷ [])) (sym items)
    (less_past further directory (with_left directory c.in-Some.left) c.in-Some.child.now.0 c.in-Some.child.now.1 c.in-Some.left.now c.in-Some.ensures.cases.0 refl))
    c.push_frame-in_default-2.ensures

pub returns-clause-on_the_way : goal.returns-clause-on_the_way
returns-clause-on_the_way g c = λ tree way.
    let m = c.args.matcher.now in
    let below = subst (IsChildVisit (g.M.Matcher.accepts m) (g.M.Matcher.opens m) (g.M.Matcher.visits m) (c.args.directory.dir ++ c.in-Some.child.now.0 ∷ [])) c.in-Some-2.is c.in_ok-path.ensures in
    goes_on_below (g.M.Matcher.accepts m) (g.M.Matcher.opens m) (g.M.Matcher.visits m) tree _ _ c.args.stack.now.items c.args.directory c.in-Some.child.now.0 c.in-Some.child.now.1 c.in-Some.left c.in-Some.ensures.cases.0
    _ _ (c.in_ok-enter.ensures.files ∙ c.in_ok-push_file.ensures.files) c.in_ok-push_file.ensures.entered _ c.push_frame-2.new.stack.items _ _ (sorted_visit_spec c.in-Some-2.visit)
    c.in_ok-push_frame.ensures below.0 (sym c.if-not-has_children.ensures) below.1 below.2 c.in_ok-enter.ensures.entered way

pub returns-clause-less_left : goal.returns-clause-less_left
returns-clause-less_left g c =
    less_below c.args.stack.now.items c.args.directory (with_left c.args.directory c.in-Some.left) c.in-Some.child.now.0 c.in-Some.child.now.1 c.in-Some.left.now c.in-Some.ensures.cases.0 refl
    _ _ c.push_frame-2.new.stack.items _ _ (sorted_visit_spec c.in-Some-2.visit) c.in_ok-push_frame.ensures c.in_ok-enter.ensures.entered
