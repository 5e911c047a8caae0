use Rattle.std.proofs.Common.{◌∙◌, ℕ, List, [], inl, inr, length, subst, arith}
use Rattle.std.specs.List.{AllZip}
use Rattle.std.proofs.lemmas.Result.{err_from_is_err_and}
use Rattle.sqlite.specs.Held.{state}
use Rattle.sqlite.specs.Order.{Row}
use Rattle.sqlite.specs.State.{HasCleanDisk}
use Rattle.jj_sqlite.specs.Opening.{FailsToCount, IsCounted}
use Rattle.jj_sqlite.specs.Rows.{AreNumbered, IsGoodRow}
use Rattle.jj_sqlite.specs.Tables.{select_statement}
use Rattle.jj_sqlite.proofs.Crashes.{kept_reading}
use Rattle.jj_sqlite.proofs.LogTable.{reads, reads_all, reads_first, shown_open}
use Rattle.jj_sqlite.proofs.sqlite_log.SqliteLog.read_entries.Goals as goal

pub returns-clause-rows : goal.returns-clause-rows
returns-clause-rows g c = λ clean. (
  c.in_ok-rows.rows.items,
  subst (λ (l : List Row). AllZip IsGoodRow l c.in_ok-entries.entries.items) c.deref.ensures.value c.in_ok-entries.ensures.ok,
  subst (λ (l : List Row). AreNumbered l) c.deref.ensures.value c.in_ok-entries.ensures.numbered,
  record {
    read = c.select_rows.new.conn;
    shown = c.in_ok-rows.ensures.rows (c.check_count.ensures.clean clean);
    counted = subst (λ (n : ℕ). IsCounted g.S.Store c.select_rows.new.conn c.check_count.new.conn n) (c.len.ensures ∙ c.in_ok-rows.rows.ok.0) (c.in_ok-check_count.ensures.ok clean);
  },
)

pub returns-clause-entries : goal.returns-clause-entries
returns-clause-entries g c = λ clean entries has.
    let old = state g.S.Store c.args.self.now.conn in
    let mid = state g.S.Store c.select_rows.new.conn in
    let rows = c.in_ok-rows.rows.items in
    let between : HasCleanDisk mid = c.check_count.ensures.clean clean in
    let shown = c.in_ok-rows.ensures.rows between in
    let before : HasCleanDisk old = omega (arith, c.select_rows.ensures.survives.clean) in
    let live = shown_open select_statement [] old mid rows shown in
    reads old mid rows c.in_ok-entries.entries.items entries (has before live) shown
    (subst (λ (l : List Row). AllZip IsGoodRow l c.in_ok-entries.entries.items) c.deref.ensures.value c.in_ok-entries.ensures.ok)

pub returns-clause-damaged : goal.returns-clause-damaged
returns-clause-damaged g c = λ clean entries has.
    let old = state g.S.Store c.args.self.now.conn in
    let mid = state g.S.Store c.select_rows.new.conn in
    let rows = c.in_ok-rows.rows.items in
    reads_first old mid rows c.in_ok-entries.entries.items entries has (c.in_ok-rows.ensures.rows (c.check_count.ensures.clean clean))
    (subst (λ (l : List Row). AllZip IsGoodRow l c.in_ok-entries.entries.items) c.deref.ensures.value c.in_ok-entries.ensures.ok)
    (subst (λ (l : List Row). AreNumbered l) c.deref.ensures.value c.in_ok-entries.ensures.numbered)

pub returns-clause-counted : goal.returns-clause-counted
returns-clause-counted g c = λ clean entries has.
    let old = state g.S.Store c.args.self.now.conn in
    let mid = state g.S.Store c.select_rows.new.conn in
    let new = state g.S.Store c.check_count.new.conn in
    let rows = c.in_ok-rows.rows.items in
    let counted = subst (λ (n : ℕ). IsCounted g.S.Store c.select_rows.new.conn c.check_count.new.conn n) (c.len.ensures ∙ c.in_ok-rows.rows.ok.0) (c.in_ok-check_count.ensures.ok clean) in
    reads_all old mid new rows c.in_ok-entries.entries.items entries has (c.in_ok-rows.ensures.rows (c.check_count.ensures.clean clean))
    (subst (λ (l : List Row). AllZip IsGoodRow l c.in_ok-entries.entries.items) c.deref.ensures.value c.in_ok-entries.ensures.ok)
    (subst (λ (l : List Row). AreNumbered l) c.deref.ensures.value c.in_ok-entries.ensures.numbered)
    (elim counted [
      | inl none ↦ inl none.0
      | inr counts ↦ inr counts
    ])

pub returns-clause-kept : goal.returns-clause-kept
returns-clause-kept g c = λ entries had.
    c.in_ok-check_count.ensures.kept entries
    (kept_reading g.S.Store g.met.S.Store.settled c.args.self.now.conn c.select_rows.new.conn entries (λ clean. (c.in_ok-rows.rows.items, c.in_ok-rows.ensures.rows clean)) c.select_rows.ensures.survives had)

pub returns-clause-clean : goal.returns-clause-clean
returns-clause-clean g c = λ clean.
    let between : HasCleanDisk (state g.S.Store c.select_rows.new.conn) = c.check_count.ensures.clean clean in
    omega (arith, c.select_rows.ensures.survives.clean)

pub returns-in_err-check_count-clause-error : goal.returns-in_err-check_count-clause-error
returns-in_err-check_count-clause-error g c =
    let p = err_from_is_err_and c.from_residual-in_err-check_count.result c.from_residual-in_err-check_count.ensures.1 in
    rw (p.1, p.2) (λ clean. inr (inr (
      c.select_rows.new.conn,
      c.in_ok-rows.rows.items,
      c.in_ok-entries.entries.items,
      c.in_ok-rows.ensures.rows (c.check_count.ensures.clean clean),
      subst (λ (l : List Row). AllZip IsGoodRow l c.in_ok-entries.entries.items) c.deref.ensures.value c.in_ok-entries.ensures.ok,
      subst (λ (l : List Row). AreNumbered l) c.deref.ensures.value c.in_ok-entries.ensures.numbered,
      subst (λ (n : ℕ). FailsToCount g.S.Store c.select_rows.new.conn c.check_count.new.conn n c.in_err-check_count.field-0.0) (c.len.ensures ∙ c.in_ok-rows.rows.ok.0) (c.in_err-check_count.ensures.error clean),
    )))
