use Rattle.std.proofs.Common.{inl, inr, arith}
use Rattle.std.proofs.lemmas.Result.{err_from_is_err_and}
use Rattle.sqlite.specs.Held.{state}
use Rattle.sqlite.specs.State.{HasCleanDisk}
use Rattle.sqlite.proofs.StateLemmas.{survives_then}
use Rattle.jj_sqlite.proofs.StreamedQueries.{commits_nothing, fails_to_query_since, shown_since}
use Rattle.jj_sqlite.proofs.row_replay.replay_rows.Goals as goal

pub returns-in_err-select_rows-in-None-clause-survives : goal.returns-in_err-select_rows-in-None-clause-survives
returns-in_err-select_rows-in-None-clause-survives g c =
    let mid = state g.S.Store c.replay_stream.new.conn in
    survives_then (state g.S.Store c.args.conn.now) mid (state g.S.Store c.select_rows.new.conn) _ _ _ (λ _ db none. none) (λ _ db. commits_nothing mid db) c.replay_stream.ensures.survives
    c.select_rows.ensures.survives

pub returns-in_err-select_rows-in-None-clause-error : goal.returns-in_err-select_rows-in-None-clause-error
returns-in_err-select_rows-in-None-clause-error g c =
    let p = err_from_is_err_and c.from_residual-in_err-select_rows-in-None.result c.from_residual-in_err-select_rows-in-None.ensures.1 in
    let mid = state g.S.Store c.replay_stream.new.conn in
    let streamed = c.replay_stream.ensures.survives in
    rw p.1 (λ clean.
    let between : HasCleanDisk mid = omega (arith, c.select_rows.ensures.survives.clean) in
    inl (
      c.in_err-select_rows-in-None.field-0.0,
      p.2,
      fails_to_query_since (state g.S.Store c.args.conn.now) mid (state g.S.Store c.select_rows.new.conn) (c.in_ok-replayed.ensures.same between) streamed.counts streamed.limit _
          (c.in_err-select_rows-in-None.ensures.error clean),
    ))

pub returns-in_ok-select_rows-in-None-clause-survives : goal.returns-in_ok-select_rows-in-None-clause-survives
returns-in_ok-select_rows-in-None-clause-survives g c =
    let mid = state g.S.Store c.replay_stream.new.conn in
    survives_then (state g.S.Store c.args.conn.now) mid (state g.S.Store c.select_rows.new.conn) _ _ _ (λ _ db none. none) (λ _ db. commits_nothing mid db) c.replay_stream.ensures.survives
    c.select_rows.ensures.survives

pub returns-in_ok-select_rows-in-None-clause-error : goal.returns-in_ok-select_rows-in-None-clause-error
returns-in_ok-select_rows-in-None-clause-error g c = λ clean.
    let mid = state g.S.Store c.replay_stream.new.conn in
    let between : HasCleanDisk mid = omega (arith, c.select_rows.ensures.survives.clean) in
    let rows = c.in_ok-select_rows-in-None.field-0.items in
    inr (
      rows,
      tt,
      shown_since (state g.S.Store c.args.conn.now) mid (state g.S.Store c.select_rows.new.conn) (c.in_ok-replayed.ensures.same between) rows (c.in_ok-select_rows-in-None.ensures.rows clean),
    )
