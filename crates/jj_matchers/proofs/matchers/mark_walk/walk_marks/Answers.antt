use Rattle.std.proofs.Common.{◌≡◌, ◌∷◌, ◌++◌, ◌+◌, ◌<◌, [], length, map, take, ap, sym, subst, ◌∙◌, arith}
use Rattle.std.proofs.lemmas.List.{map_more, take_all}
use Rattle.jj_paths.specs.Names.{path_of}
use Rattle.jj_matchers.specs.Walk.{AreInOrder}
use Rattle.jj_matchers.specs.MarkWalkInvariants.{WalkedMarks}
use Rattle.jj_matchers.proofs.WalkedMarks.{walks_marks}
use Rattle.jj_matchers.proofs.MarkWalks.{follows_earlier, walked_all, walked_start}
use Rattle.jj_matchers.proofs.matchers.mark_walk.walk_marks.Goals as goal

pub loop-mark-init : goal.loop-mark-init
loop-mark-init g c =
    walked_start (g.M.Matcher.accepts c.args.matcher.now) (g.M.Matcher.opens c.args.matcher.now) (g.M.Matcher.visits c.args.matcher.now) _ _ _ c.new-files.ensures.items c.new-entered.ensures.items c.new-stack.ensures.items

pub loop-mark-preserved : goal.loop-mark-preserved
loop-mark-preserved g c =
    let A = g.M.Matcher.accepts c.args.matcher.now in
    let O = g.M.Matcher.opens c.args.matcher.now in
    let V = g.M.Matcher.visits c.args.matcher.now in
    let i = c.loop-mark.mark-index in
    let items = c.deref-mark-items.result.now in
    let mark = c.mark-item.result in
    let within : i < length items = omega arith in
    let up : AreInOrder (map path_of items) = subst (λ l. AreInOrder (map path_of l)) (sym c.deref-mark-items.ensures.value) c.in_ok-sorted.ensures.ascending in
    let next : map path_of (take i items) ++ path_of mark ∷ [] ≡ map path_of (take (i + 1) items) = ap (λ m. map path_of (take i items) ++ path_of m ∷ []) c.mark-item.is ∙ sym (map_more path_of items i mark within) in
    subst (λ l. WalkedMarks A O V l (map path_of c.visit_mark.new.walk.files.items) (map path_of c.visit_mark.new.walk.entered.items) c.visit_mark.new.stack.items) next
    (c.in_ok-visit_mark.ensures (map path_of (take i items)) (follows_earlier items i mark up within c.mark-item.is) c.loop-mark.invariant)

pub returns : goal.returns
returns g c =
    let A = g.M.Matcher.accepts c.args.matcher.now in
    let O = g.M.Matcher.opens c.args.matcher.now in
    let V = g.M.Matcher.visits c.args.matcher.now in
    let items = c.deref-mark-items.result.now in
    let sorted = c.in_ok-sorted.sorted.items in
    let whole : map path_of (take c.loop-mark.mark-index items) ≡ map path_of sorted = ap (map path_of) (take_all c.loop-mark.mark-index items (omega arith) ∙ c.deref-mark-items.ensures.value) in
    let files = map path_of c.loop-mark.walk.files.items in
    let entered = map path_of c.loop-mark.walk.entered.items in
    let walked = subst (λ l. WalkedMarks A O V l files entered c.loop-mark.stack.items) whole c.loop-mark.invariant in
    walks_marks A V (map path_of c.args.marks.now) (map path_of sorted) files entered c.in_ok-sorted.ensures.same c.in_ok-sorted.ensures.ascending walked.found walked.to.ascending
    (walked_all A O V (map path_of sorted) files entered c.loop-mark.stack.items walked)
