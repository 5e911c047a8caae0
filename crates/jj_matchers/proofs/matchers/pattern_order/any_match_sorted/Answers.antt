use Rattle.std.proofs.Common.{◌≡◌, ◌∙◌, sym, ap, subst, true, false, List, ◌∷◌, ℕ, nat_eq}
use mathlib.Core.Bool.{false≢true}
use Rattle.std.specs.List.{list_all, starts_with}
use Rattle.jj_globs.specs.GlobMeaning.{GlobSpec}
use Rattle.jj_globs.specs.GlobPrefix.{glob_prefix}
use Rattle.jj_globs.proofs.LiteralPrefix.{BeginsWith}
use Rattle.jj_matchers.specs.PatternOrder.{matches_string, is_sorted_by_prefix}
use Rattle.jj_matchers.specs.LinkedPatterns.{globs_of}
use Rattle.jj_matchers.specs.declared.matchers.pattern_order.LinkedPattern.{LinkedPattern}
use Rattle.jj_matchers.proofs.PatternOrder.{begins_at_most, fits_begins, is_up_to, order_below}
use Rattle.jj_matchers.proofs.LinkedPatterns.{IsCut, cut_enclosing, globs-append, none_past, starts_by, whole}
use Rattle.jj_matchers.proofs.matchers.pattern_order.any_match_sorted.Goals as goal

pub loop-last-init : goal.loop-last-init
loop-last-init c =
    let text = c.args.text.now in
    let bytes = c.as_bytes-bytes.ensures.value in
    let cut = c.at_most-left.ensures in
    let test = λ (glob : GlobSpec). matches_string c.args.prefix_paths glob text in
    record {
      after = cut.high;
      split = cut.split;
      none = none_past test (is_up_to c.as_bytes-bytes.result.now) (λ glob t. begins_at_most (glob_prefix glob) c.as_bytes-bytes.result.now (subst (λ (b : List ℕ). BeginsWith b (glob_prefix glob)) (sym bytes) (fits_begins c.args.prefix_paths text glob t))) (globs_of cut.high) cut.past;
      upto = subst (λ (b : List ℕ). list_all (is_up_to b) (globs_of c.at_most-left.result.now) ≡ true) bytes cut.at_most;
    }

pub loop-last-preserved-then-not-starts_with :
    goal.loop-last-preserved-then-not-starts_with
loop-last-preserved-then-not-starts_with c =
    let text = c.args.text.now in
    let last = c.in-Some.last.now in
    let before = c.in-Some.before.now in
    let patterns = c.args.patterns.now in
    let left = c.loop-last.left.now in
    let test = λ (glob : GlobSpec). matches_string c.args.prefix_paths glob text in
    let parts = c.in-Some.ensures.cases.0 in
    let split = whole test text patterns left before last c.loop-last.invariant parts in
    let order = sym (ap (λ (l : List LinkedPattern). is_sorted_by_prefix (globs_of l)) split ∙ ap is_sorted_by_prefix (globs-append before (last ∷ c.loop-last.invariant.after))) ∙ c.requires.order in
    let starts : starts_with nat_eq text (glob_prefix last.pattern) ≡ false =
    ap (λ (b : List ℕ). starts_with nat_eq b (glob_prefix last.pattern)) (sym c.as_bytes-bytes.ensures.value) ∙ ap (starts_with nat_eq c.as_bytes-bytes.result.now) (sym c.literal_prefix.ensures)
    ∙ sym c.starts_with.ensures.value ∙ c.if-not-starts_with.true in
    subst (λ (l : List LinkedPattern). IsCut test text patterns l) (sym c.enclosing-left.ensures)
    (cut_enclosing test text patterns left before last c.loop-last.invariant parts (order_below (globs_of before) last.pattern (globs_of c.loop-last.invariant.after) order) c.requires.links
    (fits_begins c.args.prefix_paths text)
    (λ glob t same. false≢true (sym starts ∙ starts_by text (glob_prefix last.pattern) (subst (BeginsWith text) same (fits_begins c.args.prefix_paths text glob t)))))
