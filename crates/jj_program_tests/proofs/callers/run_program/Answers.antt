use Rattle.std.proofs.Common.{List, ℕ, ap, ◌∙◌, map}
use Rattle.std.specs.Prelude.{Some, string_bytes}
use Rattle.std.proofs.lemmas.Option.{IfSome_then}
use denote.Ref.{Bor}
use Rattle.jj_files.specs.WatchedFields.{watched_inner}
use Rattle.jj_program.specs.Program.{command_line}
use Rattle.jj_program_tests.proofs.InMemory.{ends}
use Rattle.jj_program_tests.proofs.callers.run_program.Goals as goal

pub returns : goal.returns
returns c =
    let line = command_line (map string_bytes c.args.words.now) in
    ends line c.args.input.now (watched_inner c.new-reader.result).now (ap (λ (s : Bor (List ℕ)). s.now) c.new-reader.ensures.inner)
    (Some (watched_inner c.start-status.new.reader).now) (watched_inner c.new-writer.result).items (watched_inner c.start-status.new.writer).items c.into_inner.result.items
    (ap (λ v. v.items) c.new-writer.ensures.inner ∙ c.new.ensures.items) (ap (λ v. v.items) c.into_inner.ensures) c.start-status.result
    (λ none. let u = c.start-status.ensures.usage none in (u.0, u.2))
    (IfSome_then line c.start-status.ensures.run (λ command run. (run.0, run.1, run.5)))
