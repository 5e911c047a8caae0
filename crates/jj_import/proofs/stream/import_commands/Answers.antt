use Rattle.std.proofs.Common.{◌≡◌, ◌∙◌, [], ◌∷◌, ◌++◌, inr, refl, subst, arith}
use Rattle.jj_backend.specs.Objects.{FixedValues}
use Rattle.jj_fast_import.specs.Streams.{is_done, unread_bytes}
use Rattle.jj_fast_import.specs.Values.{command_value}
use Rattle.jj_fast_import.proofs.Reading.{read_kept, read_more, read_none}
use Rattle.jj_import.specs.ImportStates.{state_of}
use Rattle.jj_import.specs.ImportedCommands.{IsCommandImported, commits_in}
use Rattle.jj_import.proofs.Extensions.{extended_more, extended_same}
use Rattle.jj_import.proofs.ImportedRuns.{commits_in-more, done_more, has_ended, imported_more, imported_same, read_failed, within_failed}
use Rattle.jj_import.proofs.stream.import_commands.Goals as goal

pub returns-in_err-command-clause-imported : goal.returns-in_err-command-clause-imported
returns-in_err-command-clause-imported g c =
    let h = c.loop.invariant.imported in
    let root = (g.B.Backend.fixed c.args.backend.now).root_commit_id in (
      h.0,
      within_failed c.args.limit (commits_in h.0) c.from_residual.result c.from_residual.ensures.0 (omega (arith, h.1)),
      λ objects extended.
          imported_same objects root h.0 (state_of c.args.importer.now) (state_of c.loop.importer) (state_of c.import_next.new.importer) c.in_err-command.ensures.unchanged
          (h.2 objects (extended_more (g.B.Backend.objects c.loop.backend) (g.B.Backend.objects c.import_next.new.backend) objects c.import_next.ensures.objects extended)),
      read_failed (is_done c.args.reader.now) (is_done c.import_next.new.reader) (unread_bytes g.R.Source.remaining c.args.reader.now) (unread_bytes g.R.Source.remaining c.loop.reader) (unread_bytes g.R.Source.remaining c.import_next.new.reader) h.0 c.from_residual.result c.from_residual.ensures.0 h.3,
    )

pub returns-in-None-clause-imported : goal.returns-in-None-clause-imported
returns-in-None-clause-imported g c =
    let h = c.loop.invariant.imported in
    let root = (g.B.Backend.fixed c.args.backend.now).root_commit_id in (
      h.0,
      omega (arith, h.1),
      λ objects extended.
          let same : state_of c.import_next.new.importer ≡ state_of c.loop.importer = rw c.in-None.is at (c.in_ok-command.ensures.imported objects extended) in
          imported_same objects root h.0 (state_of c.args.importer.now) (state_of c.loop.importer) (state_of c.import_next.new.importer) same
          (h.2 objects (extended_more (g.B.Backend.objects c.loop.backend) (g.B.Backend.objects c.import_next.new.backend) objects c.import_next.ensures.objects extended)),
      (
        read_kept h.0 (unread_bytes g.R.Source.remaining c.args.reader.now) (unread_bytes g.R.Source.remaining c.loop.reader) (unread_bytes g.R.Source.remaining c.import_next.new.reader) h.3 (rw c.in-None.is at c.in_ok-command.ensures.kept),
        has_ended (is_done c.args.reader.now) (is_done c.loop.reader) h.0 (unread_bytes g.R.Source.remaining c.import_next.new.reader) h.4 (rw c.in-None.is at c.in_ok-command.ensures.end),
      ),
    )

pub loop-init : goal.loop-init
loop-init g c =
    record {
      imported = ([], omega arith, λ objects extended. c.set_within_stream.ensures, read_none (unread_bytes g.R.Source.remaining c.args.reader.now), λ e. inr (e, refl));
      objects = extended_same (g.B.Backend.objects c.args.backend.now) (g.B.Backend.objects c.args.backend.now) refl;
      same = refl;
    }

pub loop-preserved : goal.loop-preserved
loop-preserved g c =
    let h = c.loop.invariant.imported in
    let command = command_value c.in-Some.command in
    let root = (g.B.Backend.fixed c.args.backend.now).root_commit_id in
    let old = g.B.Backend.objects c.loop.backend in
    let new = g.B.Backend.objects c.import_next.new.backend in
    record {
      imported = (
        h.0 ++ command ∷ [],
        omega (arith, commits_in-more h.0 command, h.1, c.left_after-left.ensures),
        λ objects extended.
            let step : IsCommandImported objects (g.B.Backend.fixed c.loop.backend).root_commit_id command (state_of c.loop.importer) (state_of c.import_next.new.importer) =
            rw c.in-Some.is at (c.in_ok-command.ensures.imported objects extended) in
            imported_more objects root h.0 command (state_of c.args.importer.now) (state_of c.loop.importer) (state_of c.import_next.new.importer)
            (h.2 objects (extended_more old new objects c.import_next.ensures.objects extended))
            (subst (λ (f : FixedValues). IsCommandImported objects f.root_commit_id command (state_of c.loop.importer) (state_of c.import_next.new.importer)) c.loop.invariant.same step),
        read_more h.0 command (unread_bytes g.R.Source.remaining c.args.reader.now) (unread_bytes g.R.Source.remaining c.loop.reader) (unread_bytes g.R.Source.remaining c.import_next.new.reader) h.3 (rw c.in-Some.is at c.in_ok-command.ensures.read),
        done_more (is_done c.args.reader.now) (is_done c.import_next.new.reader) h.0 command (rw c.in-Some.is at c.in_ok-command.ensures.done),
      );
      objects = extended_more (g.B.Backend.objects c.args.backend.now) old new c.loop.invariant.objects c.import_next.ensures.objects;
      same = c.import_next.ensures.fixed ∙ c.loop.invariant.same;
    }
