use Rattle.std.proofs.Common.{inl, inr, sym, subst}
use Rattle.std.proofs.Math.Logic.{∥∥₁_map}
use Rattle.std.proofs.lemmas.Result.{IfOk-weaker}
use Rattle.sqlite.specs.Held.{state}
use Rattle.sqlite.specs.Tree.{Trees}
use Rattle.jj_sqlite.specs.Crashes.{HasLogAfterCrash}
use Rattle.jj_sqlite.proofs.Reopened.{found_after_crash}
use Rattle.jj_sqlite_tests.proofs.crashes.open_after_crash.Goals as goal

pub returns : goal.returns
returns g c = IfOk-weaker c.open_store.result _ _ (λ store replays clean image finds opens live entries may. ∥∥₁_map may (λ found.
    let shown = subst (λ (d : Trees). HasLogAfterCrash d entries) (sym (finds.holds found.0 found.1)) found.2 in
    elim (found_after_crash (state g.S.Store c.args.conn) entries shown opens live) [
      | inl has ↦ inl (replays clean entries (λ _ _. inl has))
      | inr more ↦ inr (more.0, replays clean _ (λ _ _. inl more.1))
    ])) c.open_store.ensures.entries
