use Rattle.std.proofs.Common.{◌≤◌, ℕ, length, get_or, subst, arith}
use Rattle.std.proofs.lemmas.Option.{slice_get-get_or, slice_get_within}
use Rattle.jj_globs.specs.GlobTables.{HasClosure}
use Rattle.jj_globs.proofs.BitTables.{followed_next, pushed_len, target_within}
use Rattle.jj_globs.proofs.glob.bit_tables.follow_of.Goals as goal

pub loop-state-preserved : goal.loop-state-preserved
loop-state-preserved c =
    let steps = c.args.steps.now in
    let state = c.loop-state.state in
    let len = c.loop-state.invariant.len in
    let at = slice_get-get_or steps state _ c.loop-state-test.true in
    let within : c.target.result ≤ length steps = rw c.target.ensures (target_within _ state (length steps) c.loop-state-test.true) in
    let closed = subst (λ (i : ℕ). HasClosure steps i (get_or c.args.closures.now c.target.result 0)) c.target.ensures (c.requires.closed c.target.result within) in
    record {
      len = pushed_len c.loop-state.follow.items c.push.new.self.items _ state c.in_ok-push.ensures.items len;
      closed = followed_next steps _ state _ c.loop-state.follow.items c.push.new.self.items c.in_ok-push.ensures.items len at closed c.loop-state.invariant.closed;
    }

pub returns : goal.returns
returns c =
    let end = c.loop-state-test.false in
    let most = c.loop-state.auto.state-end in
    let len = c.loop-state.invariant.len in (
      omega (arith, end, most, len),
      (λ k s at. let low = slice_get_within c.args.steps.now k s at in c.loop-state.invariant.closed k s at (omega (arith, low, end))),
    )
