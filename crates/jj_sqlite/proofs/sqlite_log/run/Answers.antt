use Rattle.std.proofs.Common.{List, ℕ, subst, arith}
use Rattle.sqlite.specs.Held.{state}
use Rattle.sqlite.specs.State.{HasCleanDisk, CommitsBy, Executes}
use Rattle.sqlite.specs.Values.{bound}
use Rattle.sqlite.proofs.StateLemmas.{survives_then}
use Rattle.jj_sqlite.specs.Crashes.{CommitsAsIs}
use Rattle.jj_sqlite.proofs.Crashes.{ran}
use Rattle.jj_sqlite.proofs.sqlite_log.run.Goals as goal

pub returns-clause-runs : goal.returns-clause-runs
returns-clause-runs g c = λ clean.
    let mid = c.prepare.new.self in
    let before : HasCleanDisk (state g.S.Store mid) = omega (arith, c.execute.ensures.survives.clean) in
    let prepared = c.in_ok-statement.ensures.ok before in
    ran g.S.Store c.args.sql.now (bound c.args.params.now) c.args.conn.now mid c.execute.new.conn c.execute.result prepared.1
    (subst (λ (text : List ℕ). Executes text (bound c.args.params.now) (state g.S.Store mid) (state g.S.Store c.execute.new.conn) c.execute.result) prepared.0 (c.execute.ensures.runs clean))

pub returns-clause-survives : goal.returns-clause-survives
returns-clause-survives g c =
    let mid = c.prepare.new.self in
    survives_then (state g.S.Store c.args.conn.now) (state g.S.Store mid) (state g.S.Store c.execute.new.conn) _ _
    (CommitsAsIs g.S.Store c.args.sql.now (bound c.args.params.now) c.args.conn.now) (λ _ db none. absurd none)
    (λ clean db made.
    let before : HasCleanDisk (state g.S.Store mid) = omega (arith, c.execute.ensures.survives.clean) in
    let prepared = c.in_ok-statement.ensures.ok before in
    (mid, prepared.1, subst (λ (text : List ℕ). CommitsBy text (bound c.args.params.now) (state g.S.Store mid) db) prepared.0 made)) c.prepare.ensures.survives c.execute.ensures.survives
