use Rattle.std.proofs.Common.{◌≡◌, ◌∙◌, ℕ, List, [], Some, ap, inl, inr}
use denote.Ref.{Bor}
use Rattle.jj_files.specs.WatchedFields.{watched_inner}
use Rattle.jj_filesets_cli.proofs.PrintedLists.{ran, refused}
use Rattle.jj_filesets_cli.proofs.callers.print_files.Goals as goal

pub returns : goal.returns
returns c =
    let sunk : List ℕ = (watched_inner c.new-writer.result).items in
    let bytes : List ℕ = (watched_inner c.select-status.new.writer).items in
    let output : List ℕ = c.into_inner.result.items in
    let empty : sunk ≡ [] = ap (λ v. v.items) c.new-writer.ensures.inner ∙ c.new.ensures.items in
    let same : output ≡ bytes = ap (λ v. v.items) c.into_inner.ensures in
    elim c.select-status.ensures [
      | inl refusal ↦
          let kept : bytes ≡ sunk = cc (refusal.3) in
          refused c.args.expression.now c.args.list.now output c.select-status.result (same ∙ kept ∙ empty) refusal.0 refusal.1 refusal.4
      | inr run ↦
          ran c.args.expression.now c.args.list.now (watched_inner c.new-reader.result).now (ap (λ (s : Bor (List ℕ)). s.now) c.new-reader.ensures.inner)
          (Some (watched_inner c.select-status.new.reader).now) sunk bytes output empty same c.select-status.result run.0 run.1 run.2 run.3 run.7
    ]
