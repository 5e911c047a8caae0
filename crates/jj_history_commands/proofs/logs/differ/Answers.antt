use Rattle.std.proofs.Common.{◌≡◌, ◌↔◌, ◌==◌, ◌∙◌, ℕ, Bool, not, IsTrue, Some, length, ap, subst, sym}
use Rattle.jj_history_commands.specs.FileSets.{DifferIn}
use Rattle.jj_history_commands.proofs.Differences.{differ_in}
use Rattle.jj_history_commands.proofs.logs.differ.Goals as goal

pub returns : goal.returns
returns g c =
    let same : c.is_empty.result ≡ (length c.in_ok-changes.changes.items == 0) = c.is_empty.ensures ∙ ap (λ (n : ℕ). n == 0) c.in_ok-changes.changes.ok.0 in
    subst (λ (r : Bool). IsTrue (not r) ↔ DifferIn (g.B.Backend.objects c.args.store.now).trees c.args.before.now c.args.after.now (Some c.args.files.now)) (sym same)
    (differ_in (g.B.Backend.objects c.args.store.now).trees c.args.before.now c.args.after.now (Some c.args.files.now) c.in_ok-changes.changes.items c.in_ok-changes.ensures.changes)
