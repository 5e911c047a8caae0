use Rattle.std.proofs.Common.{◌≡◌, ◌∙◌, ◌&&◌, sym, ap, subst, refl, false, List, ◌∷◌, [], ℕ, length, nat_eq, nat_lt, append-nil}
use mathlib.Core.Bool.{false≢true}
use Rattle.std.specs.List.{starts_with}
use Rattle.jj_globs.specs.GlobPrefix.{glob_prefix}
use Rattle.jj_matchers.specs.PatternOrder.{is_sorted_by_prefix}
use Rattle.jj_matchers.specs.LinkedPatterns.{encloses, globs_of}
use Rattle.jj_matchers.specs.declared.matchers.pattern_order.LinkedPattern.{LinkedPattern}
use Rattle.jj_matchers.proofs.PatternOrder.{order_before, order_below}
use Rattle.jj_matchers.proofs.LinkedPatterns.{IsCut, cut_enclosing, encloses_begins, globs-append, whole}
use Rattle.jj_matchers.proofs.matchers.pattern_order.find_enclosing.Goals as goal

pub loop-last-init : goal.loop-last-init
loop-last-init c order links = record {
  after = [];
  split = sym (append-nil c.args.patterns.now);
  none = refl;
  upto = order_below (globs_of c.args.patterns.now) c.args.pattern.now [] order;
}

pub loop-last-preserved : goal.loop-last-preserved
loop-last-preserved c order links =
    let last = c.in-Some.last.now in
    let before = c.in-Some.before.now in
    let patterns = c.args.patterns.now in
    let left = c.loop-last.left.now in
    let bytes = glob_prefix c.args.pattern.now in
    let cut = c.loop-last.invariant order links in
    let parts = c.in-Some.ensures.cases.0 in
    let split = whole (encloses bytes) bytes patterns left before last cut parts in
    let sorted = sym (ap (λ (l : List LinkedPattern). is_sorted_by_prefix (globs_of l)) split ∙ ap is_sorted_by_prefix (globs-append before (last ∷ cut.after))) ∙ order_before (globs_of patterns) c.args.pattern.now order in
    let fails : encloses bytes last.pattern ≡ false = sym c.encloses.ensures ∙ c.if-encloses.false in
    subst (λ (l : List LinkedPattern). IsCut (encloses bytes) bytes patterns l) (sym c.enclosing-left.ensures)
    (cut_enclosing (encloses bytes) bytes patterns left before last cut parts (order_below (globs_of before) last.pattern (globs_of cut.after) sorted) links
    (encloses_begins bytes)
    (λ glob t same. false≢true (sym fails ∙ ap (λ (prefix : List ℕ). nat_lt (length prefix) (length bytes) && starts_with nat_eq bytes prefix) (sym same) ∙ t)))
