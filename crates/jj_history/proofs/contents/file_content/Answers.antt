use Rattle.jj_paths.specs.Names.{path_of}
use Rattle.jj_history.proofs.ContentFailures.{value_error_of_content}
use Rattle.jj_history.proofs.contents.file_content.Goals as goal

pub returns-clause-error : goal.returns-clause-error
returns-clause-error g c = value_error_of_content (g.B.Backend.objects c.args.store.now) c.args.id.now (path_of c.args.path) c.in-Ok-path_value.value c.in-Err-content_of.error (c.in-Ok.tree, c.in-Ok.ensures.tree, c.in-Ok-path_value.ensures) c.in-Err-content_of.ensures.error
