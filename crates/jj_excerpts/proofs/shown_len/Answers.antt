use Rattle.std.proofs.Common.{◌∙◌, ◌≡◌, ◌+◌, ◌++◌, arith, sym, subst, take, drop, get_or}
use Rattle.jj_excerpts.specs.Excerpts.{is_continuation, shown}
use Rattle.jj_excerpts.proofs.Prefixes.{more_of_character, next_character, all_characters, all_bytes}
use Rattle.jj_excerpts.proofs.shown_len.Goals as goal
use Rattle.jj_excerpts.proofs.shown_len.Goals.{then-not-is_continuation+else-left-eq0, else-not-is_continuation}

pub loop-len-preserved : goal.loop-len-preserved
loop-len-preserved c =
    let read : is_continuation (get_or c.args.bytes.now c.loop-len.len 0) ≡ c.is_continuation.result = sym c.is_continuation.ensures in
    let so = c.loop-len.invariant.1 in
    elim c.if-not-is_continuation.branch [
      | then-not-is_continuation+else-left-eq0 w ↦ (
        omega arith,
        subst (λ n. take (c.loop-len.len + 1) c.args.bytes.now ++ shown n (drop (c.loop-len.len + 1) c.args.bytes.now) ≡ shown 60 c.args.bytes.now) (sym w.left-is)
            (next_character c.loop-len.left c.loop-len.len c.args.bytes.now c.loop-len-test.true so (read ∙ w.if-not-is_continuation.true) w.if-left-eq0.false),
      )
      | else-not-is_continuation w ↦ (
        omega arith,
        subst (λ n. take (c.loop-len.len + 1) c.args.bytes.now ++ shown n (drop (c.loop-len.len + 1) c.args.bytes.now) ≡ shown 60 c.args.bytes.now) (sym w.left-is)
            (more_of_character c.loop-len.left c.loop-len.len c.args.bytes.now c.loop-len-test.true so (read ∙ w.if-not-is_continuation.false)),
      )
    ]

pub returns-after-loop-len-clause-shown : goal.returns-after-loop-len-clause-shown
returns-after-loop-len-clause-shown c = all_bytes c.loop-len.left c.loop-len.len c.args.bytes.now (omega arith) c.loop-len.invariant.1

pub returns-then-left-eq0-clause-shown : goal.returns-then-left-eq0-clause-shown
returns-then-left-eq0-clause-shown c =
    all_characters c.loop-len.left c.loop-len.len c.args.bytes.now c.loop-len-test.true c.loop-len.invariant.1 (sym c.is_continuation.ensures ∙ c.if-not-is_continuation.true) c.if-left-eq0.true
