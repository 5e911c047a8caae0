use Rattle.std.proofs.Common.{◌∙◌, ap, sym, List, ◌++◌, ◌∷◌, [], ℕ}
use Rattle.jj_globs.specs.GlobMeaning.{GlobSpec}
use Rattle.jj_globs.specs.GlobPrefix.{glob_prefix}
use Rattle.jj_matchers.specs.PatternOrder.{is_at_most, is_sorted_by_prefix}
use Rattle.jj_matchers.specs.LinkedPatterns.{globs_of}
use Rattle.jj_matchers.proofs.PatternOrder.{order_with}
use Rattle.jj_matchers.proofs.LinkedPatterns.{globs-append}
use Rattle.jj_matchers.proofs.matchers.pattern_order.stays_sorted.Goals as goal

pub returns-in-Some : goal.returns-in-Some
returns-in-Some c order =
    let last = c.in-Some.last.now in
    let before = c.in-Some.field-0-1.now in
    let more = c.args.pattern.now in
    let split = ap globs_of c.in-Some.ensures.cases.0 ∙ globs-append before (last ∷ []) in
    c.is_prefix_at_most.ensures
    ∙ ap (λ (prefix : List ℕ). is_at_most (glob_prefix last.pattern) prefix) c.literal_prefix.ensures
    ∙ order_with (globs_of before) last.pattern more (sym (ap is_sorted_by_prefix split) ∙ order)
    ∙ sym (ap (λ (globs : List GlobSpec). is_sorted_by_prefix (globs ++ more ∷ [])) split)
