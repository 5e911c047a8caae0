use Rattle.std.proofs.Common.{◌∙◌, ◌+◌, ◌++◌, ◌∷◌, [], refl, rules, arith, lit<}
use Rattle.std.proofs.lemmas.Result.{err_from_is_err_and}
use Rattle.sqlite.specs.Held.{state}
use Rattle.sqlite.specs.State.{HasCleanDisk, CommitsShowing, FailsToQuery, Survives}
use Rattle.sqlite.proofs.Callers.{unchanged_then}
use Rattle.sqlite.proofs.StateLemmas.{survives_then, survives_weaker}
use Rattle.jj_sqlite.specs.Tables.{select_statement}
use Rattle.jj_sqlite.proofs.RowReplays.{result_is, whole_ids}
use Rattle.jj_sqlite.proofs.StreamedQueries.{begun, commits_nothing, fails_to_query_since, shown_since}
use Rattle.jj_sqlite.proofs.row_replay.replay_stream.Goals as goal

pub returns-in_err-rows-clause-survives : goal.returns-in_err-rows-clause-survives
returns-in_err-rows-clause-survives g c =
    let old = state g.S.Store c.args.conn.now in
    let new = state g.S.Store c.query.follows.lender-at-none in
    let held = c.query.follows.holds-at-none in
    let kept : Survives old new (CommitsShowing select_statement [] old) = search rules in
    survives_weaker old new _ _ (λ _ db. commits_nothing old db) kept

pub returns-in_err-rows-clause-error : goal.returns-in_err-rows-clause-error
returns-in_err-rows-clause-error g c =
    let held = c.query.follows.holds-at-none in
    let p = err_from_is_err_and c.from_residual.result c.from_residual.ensures.1 in
    rw (p.1, p.2) (rw c.in_err-rows.was at held).err

pub rows-init : goal.rows-init
rows-init g c =
    let made = c.in_ok-rows.ensures in
    let replay = c.replay.ensures in (
      refl,
      survives_weaker _ _ _ _ (λ _ db. commits_nothing (state g.S.Store c.args.conn.now) db) made.survives,
      (
        [],
        record {
          entries = [];
          are_good = tt;
          are_numbered = tt;
          are_counted = refl;
          is_result = result_is [] c.replay.result replay.ok replay.error replay.cause;
        },
        λ clean. begun g.S.Store c.args.conn.now _ (made.begun clean),
      ),
      record { count = lit< tt; whole = whole_ids [] c.replay.result replay.ok },
    )

pub returns-in_err-row-clause-error : goal.returns-in_err-row-clause-error
returns-in_err-row-clause-error g c =
    let moved = c.next.follows.holds-at-none in
    let old = state g.S.Store c.args.conn.now in
    let before = state g.S.Store c.rows.rows.conn.now in
    let now = state g.S.Store c.next.follows.lender-at-none.conn.now in
    let e = c.in_err-row.field-0.0 in
    let inv = c.rows.invariant in
    let fails : HasCleanDisk now → FailsToQuery select_statement [] old now e = λ clean.
    let was = inv.2.2 (omega (arith, moved.survives.clean)) in
    fails_to_query_since old before now was.1 inv.1.counts inv.1.limit e ((rw c.in_err-row.was at (moved.err clean)) select_statement [] inv.2.0 was.0) in
    let p = err_from_is_err_and c.from_residual-in_err-row.result c.from_residual-in_err-row.ensures.1 in
    rw (p.1, p.2) (search (rules, fails))

pub returns-in_default-clause-rows : goal.returns-in_default-clause-rows
returns-in_default-clause-rows g c clean =
    let moved = c.next.follows.holds-at-none in
    let now = c.next.follows.lender-at-none.conn.now in
    let late : HasCleanDisk (state g.S.Store now) = search rules in
    let inv = c.rows.invariant in
    let was = inv.2.2 (omega (arith, moved.survives.clean)) in
    let shown = (rw (c.in_ok-row.was, c.in_default.is) at (moved.ok late)) select_statement [] inv.2.0 was.0 in
    let whole = shown_since (state g.S.Store c.args.conn.now) (state g.S.Store c.rows.rows.conn.now) (state g.S.Store now) was.1 inv.2.0 shown in
    (inv.2.0, inv.2.1, search (rules, whole))

pub rows-preserved : goal.rows-preserved
rows-preserved g c =
    let moved = c.next.follows.holds-at-none in
    let now = c.next.follows.lender-at-none.conn.now in
    let first = state g.S.Store c.args.conn.now in
    let before = state g.S.Store c.rows.rows.conn.now in
    let inv = c.rows.invariant in (
      moved.same_reference ∙ inv.0,
      survives_then first before (state g.S.Store now) _ _ _ (λ _ db none. none) (λ _ db none. none) inv.1 moved.survives,
      (
        inv.2.0 ++ c.in-Some.row.now ∷ [],
        c.replay_row-replayed.ensures.next inv.2.0 inv.2.1,
        λ clean.
            let was = inv.2.2 (omega (arith, moved.survives.clean)) in
            ((rw (c.in_ok-row.was, c.in-Some.is) at (moved.ok clean)) select_statement [] inv.2.0 was.0, unchanged_then first before (state g.S.Store now) was.1 (rw c.in_ok-row.was at (moved.same clean))),
      ),
      c.replay_row-replayed.ensures.range,
    )
