use Rattle.std.proofs.Common.{ℕ, List, subst}
use Rattle.jj_backend.specs.Objects.{AddsFile}
use Rattle.jj_file_merges.proofs.Outcomes.{marked_file}
use Rattle.jj_file_merges.proofs.trees.mark_conflict.Goals as goal

pub returns-clause-outcome : goal.returns-clause-outcome
returns-clause-outcome g c =
    let old = g.B.Backend.objects c.args.backend.now in
    let new = g.B.Backend.objects c.write_file.new.self in
    let file = marked_file c.args.options.now.hunk_level c.args.options.now.same_change c.args.style c.args.values.now c.args.labels.now old new c.in_ok-id.id c.in-Some.content.items
    (subst (λ (l : List ℕ). AddsFile old new c.in_ok-id.id l) c.deref.ensures.value c.in_ok-id.ensures.ok)
    (rw c.in-Some.is at c.in_ok-content.ensures.content) in
    (file.0, c.has_executable_side.ensures, c.placeholder.ensures)
