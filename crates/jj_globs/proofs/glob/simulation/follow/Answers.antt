use Rattle.std.proofs.Common.{◌≡◌, ◌∙◌, ◌+◌, ◌≤◌, length, rules, sym, ap, true, false, inl, inr, arith}
use Rattle.std.proofs.lemmas.Option.{slice_get-get_or}
use Rattle.jj_globs.specs.declared.glob.step.Step.{Step}
use Rattle.jj_globs.specs.GlobNfa.{step_at}
use Rattle.jj_globs.proofs.Transitions.{follows_loop, follows_epsilon, star_value, star_ends, any_at_end, everything_value, is_byte_step, leads_inside, no_bytes, some_bytes, none_left}
use Rattle.jj_globs.proofs.glob.simulation.follow.Goals as goal

pub overflow_add-state-in-Jump-2 : goal.overflow_add-state-in-Jump-2
overflow_add-state-in-Jump-2 g c =
    let inside = leads_inside c.args.steps.now c.args.state _ _ c.requires.inside (slice_get-get_or c.args.steps.now c.args.state _ c.requires.step) c.in-Jump.is in
    omega (arith, inside)

pub activate-requires-in-Jump : goal.activate-requires-in-Jump
activate-requires-in-Jump g c =
    let inside : c.args.state + 1 + c.in-Jump.further ≤ length c.args.steps.now =
    leads_inside c.args.steps.now c.args.state _ _ c.requires.inside (slice_get-get_or c.args.steps.now c.args.state _ c.requires.step) c.in-Jump.is in
    search rules

pub returns-then-is_plain-clause-same : goal.returns-then-is_plain-clause-same
returns-then-is_plain-clause-same g c =
    follows_loop c.args.options c.args.steps.now _ c.args.state (c.args.state + 1) c.args.left.now c.args.now.now c.args.next.now c.activate.new.now c.activate.new.next
    (slice_get-get_or c.args.steps.now c.args.state _ c.requires.step) c.activate.ensures.same
    c.insert.new.self c.in-Some.byte.now c.in-Some.field-0-1.now c.in-Some.ensures.cases.0 c.insert.ensures.live
    (λ P tells. star_value c.args.options P _ c.args.state c.in-Some.byte.now c.in-Some.field-0-1.now c.args.left.now c.in-Star.is c.in-Some.ensures.cases.0 (sym c.is_plain.ensures ∙ c.if-is_plain.true) tells)

pub returns-else-is_plain-clause-same : goal.returns-else-is_plain-clause-same
returns-else-is_plain-clause-same g c =
    follows_epsilon c.args.options c.args.steps.now _ c.args.state (c.args.state + 1) c.args.left.now c.args.now.now c.args.next.now c.activate.new.now c.activate.new.next
    (slice_get-get_or c.args.steps.now c.args.state _ c.requires.step) c.activate.ensures.same
    (λ P tells. star_ends c.args.options P _ c.args.state c.in-Some.byte.now c.in-Some.field-0-1.now c.args.left.now c.in-Star.is c.in-Some.ensures.cases.0 (sym c.is_plain.ensures ∙ c.if-is_plain.false) tells)

pub returns-in_default-split_first-clause-same : goal.returns-in_default-split_first-clause-same
returns-in_default-split_first-clause-same g c =
    follows_epsilon c.args.options c.args.steps.now _ c.args.state (c.args.state + 1) c.args.left.now c.args.now.now c.args.next.now c.activate.new.now c.activate.new.next
    (slice_get-get_or c.args.steps.now c.args.state _ c.requires.step) c.activate.ensures.same
    (λ P tells. any_at_end c.args.options P _ c.args.state c.args.left.now (inl c.in-Star.is) (no_bytes c.args.left.now c.in_default-split_first.ensures.cases) tells)

pub returns-then-not-is_empty-clause-same : goal.returns-then-not-is_empty-clause-same
returns-then-not-is_empty-clause-same g c =
    let (byte, rest, split) = some_bytes c.args.left.now (sym c.if-not-is_empty.ensures) in
    follows_loop c.args.options c.args.steps.now _ c.args.state (c.args.state + 1) c.args.left.now c.args.now.now c.args.next.now c.activate-in-Everything.new.now c.activate-in-Everything.new.next
    (slice_get-get_or c.args.steps.now c.args.state _ c.requires.step) c.activate-in-Everything.ensures.same
    c.insert-then-not-is_empty.new.self byte rest split c.insert-then-not-is_empty.ensures.live
    (λ P tells. everything_value c.args.options P _ c.args.state byte rest c.args.left.now c.in-Everything.is split tells)

pub returns-else-not-is_empty-clause-same : goal.returns-else-not-is_empty-clause-same
returns-else-not-is_empty-clause-same g c =
    follows_epsilon c.args.options c.args.steps.now _ c.args.state (c.args.state + 1) c.args.left.now c.args.now.now c.args.next.now c.activate-in-Everything.new.now c.activate-in-Everything.new.next
    (slice_get-get_or c.args.steps.now c.args.state _ c.requires.step) c.activate-in-Everything.ensures.same
    (λ P tells. any_at_end c.args.options P _ c.args.state c.args.left.now (inr c.in-Everything.is) (none_left c.args.left.now (sym c.if-not-is_empty.ensures)) tells)

pub returns-in-Jump-clause-same : goal.returns-in-Jump-clause-same
returns-in-Jump-clause-same g c =
    follows_epsilon c.args.options c.args.steps.now _ c.args.state (c.args.state + 1 + c.in-Jump.further) c.args.left.now c.args.now.now c.args.next.now c.activate-in-Jump.new.now c.activate-in-Jump.new.next
    (slice_get-get_or c.args.steps.now c.args.state _ c.requires.step) c.activate-in-Jump.ensures.same
    (λ P tells. tells c.args.left.now ∙ ap (λ (x : Step). step_at c.args.options P x c.args.state c.args.left.now) c.in-Jump.is)

pub returns-in-Jump-clause-above : goal.returns-in-Jump-clause-above
returns-in-Jump-clause-above g c = λ j live.
    let inside = leads_inside c.args.steps.now c.args.state _ _ c.requires.inside (slice_get-get_or c.args.steps.now c.args.state _ c.requires.step) c.in-Jump.is in
    elim (c.activate-in-Jump.ensures.above j live) [ inl l ↦ inl l | inr e ↦ (let at = e.0 in inr (omega (arith, at), omega (arith, at, inside))) ]

pub returns-in_default-clause-above : goal.returns-in_default-clause-above
returns-in_default-clause-above g c = λ j live.
    let at = slice_get-get_or c.args.steps.now c.args.state _ c.requires.step in
    elim (c.activate-in_default.ensures.above j live) [
      | inl l ↦ inl l
      | inr e ↦ absurd (
          let byte = is_byte_step _ c.in_default.not-Star c.in_default.not-Everything c.in_default.not-Fork c.in_default.not-Jump in
          let no : true ≡ false = sym byte ∙ e.1 _ at in cc)
    ]
