use Rattle.std.proofs.Common.{◌≡◌, List, [], IfOk}
use Rattle.sqlite.specs.Given.{HasGiven}
use Rattle.sqlite.specs.Held.{state}
use Rattle.sqlite.specs.Order.{Row}
use Rattle.sqlite.specs.State.{HasCleanDisk, IsUnchanged, Survives}
use Rattle.jj_sqlite.specs.RowReplays.{IsInRange, IsRowReplay}
use Rattle.jj_sqlite.specs.Tables.{select_statement}
use Rattle.jj_sqlite.proofs.row_replay.replay_stream.Given as goal

abbrev pub invariant-rows : goal.invariant-rows
invariant-rows g l =
    let old = state g.S.Store l.fn.conn in
    let now = state g.S.Store l.rows.conn.now in
    (l.rows.conn.ghost_name ≡ l.initial.rows.conn.ghost_name) × Survives old now (λ _. ⊥)
    × ((given : List Row) × IsRowReplay given l.replayed
    × (HasCleanDisk now → HasGiven g.S.Store select_statement [] l.rows.conn.now given × IsUnchanged old now))
    × IfOk l.replayed IsInRange
