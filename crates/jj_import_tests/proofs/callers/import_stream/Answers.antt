use Rattle.std.proofs.Common.{◌≡◌, ◌∙◌, Some, ap, subst}
use Rattle.jj_fast_import.specs.Streams.{is_done}
use Rattle.jj_import.specs.ImportStates.{ImportState, NamesValue, state_of}
use Rattle.jj_import.specs.ImportedCommands.{AreCommandsImported}
use Rattle.jj_import.proofs.Extensions.{extended_none}
use Rattle.jj_import.proofs.States.{same_state}
use Rattle.jj_trees.specs.MemoryObjects.{objects_of}
use Rattle.jj_import_tests.specs.Streams.{no_names}
use Rattle.jj_import_tests.proofs.StoredStreams.{stream_read, stream_stored}
use Rattle.jj_import_tests.proofs.callers.import_stream.Goals as goal

pub returns : goal.returns
returns c =
    let objects = objects_of c.import_commands-ended.new.backend in
    let root = c.args.backend.now.root_commit_id in
    let start = state_of c.over_names-importer.result in
    let end = state_of c.import_commands-ended.new.importer in
    let none : start ≡ no_names =
    same_state no_names start
    (record {
      marks = c.over_names-importer.ensures.marks;
      stream_refs = c.over_names-importer.ensures.stream_refs;
      refs = λ name. ap (λ (n : NamesValue). n.refs name) c.over_names-importer.ensures.names ∙ c.new.ensures.refs name;
      git_ids = λ name. ap (λ (n : NamesValue). n.git_ids name) c.over_names-importer.ensures.names ∙ c.new.ensures.git_ids name;
    }) in
    let h = c.import_commands-ended.ensures.imported in
    let run : AreCommandsImported objects root h.0 no_names end =
    subst (λ (s : ImportState). AreCommandsImported objects root h.0 s end) none (h.2 objects (extended_none objects)) in (
      h.0,
      stream_read c.args.stream.now _ _ (is_done c.new-reader.result) _ c.import_commands-ended.result h.0 (c.new-reader.ensures.unread ∙ ap (λ s. Some s.now) c.new-2.ensures.inner) c.new-reader.ensures.done h.3 h.1,
      run,
      stream_stored objects root h.0 end run,
    )
