use Rattle.std.proofs.Common.{◌∷◌, ◌++◌, [], length, arith, refl, subst, rules}
use Rattle.std.specs.List.{All}
use Rattle.std.proofs.lemmas.List.{get_or_push, length_push}
use Rattle.std.proofs.lemmas.List.Elements.{All-from_recursion}
use Rattle.jj_matchers.specs.WalkInvariants.{IsValidFrame}
use Rattle.jj_matchers.proofs.matchers.tree_walk.walk_matching.Goals as goal

pub visit_next_child-requires : goal.visit_next_child-requires
visit_next_child-requires g c =
    let m = c.args.matcher.now in
    let items = c.pop.new.self.items in
    let last = c.in-Some.directory in
    let P = IsValidFrame (g.M.Matcher.accepts m) (g.M.Matcher.opens m) (g.M.Matcher.visits m) in
    let all : All P (items ++ last ∷ []) = subst (All P) c.in-Some.ensures.items (All-from_recursion P _ c.loop-directory.invariant.under_way) in
    subst P (get_or_push items last last (length items) refl) (all (length items) last (omega (arith, length_push items last)))

pub loop-directory-smaller : goal.loop-directory-smaller
loop-directory-smaller g c = search rules

pub loop-directory-preserved : goal.loop-directory-preserved
loop-directory-preserved g c = search rules

pub returns-clause-files : goal.returns-clause-files
returns-clause-files g c = search rules

pub returns-clause-entered : goal.returns-clause-entered
returns-clause-entered g c = search rules

pub returns-clause-ordered : goal.returns-clause-ordered
returns-clause-ordered g c = search rules

pub returns-clause-only_open : goal.returns-clause-only_open
returns-clause-only_open g c = All-from_recursion _ _ c.loop-directory.invariant.only_open
