use Rattle.std.proofs.Common.{◌≡◌, ◌↔◌, ◌∙◌, Bool, IsTrue, ap, sym, subst}
use Rattle.jj_paths.specs.Names.{path_of}
use Rattle.jj_paths.specs.Paths.{Path}
use Rattle.jj_paths.specs.Orders.{path_eq, path_eq-Decides}
use Rattle.jj_filesets.specs.declared.fileset.pattern.FilePattern.{FilePattern}
use Rattle.jj_filesets.specs.declared.fileset.pattern.FilePattern.TheVariants.{FilePath}
use Rattle.jj_filesets.specs.Patterns.{Matches}
use Rattle.jj_filesets.proofs.fileset.pattern.FilePattern.matches.Goals as goal

same_file : (result : Bool) (pattern : FilePattern) (file path : Path) → pattern ≡ FilePath file → result ≡ path_eq path file → IsTrue result ↔ Matches pattern path
same_file result pattern file path is equal =
    subst (λ p. IsTrue result ↔ Matches p path) (sym is)
    ((λ h. (path_eq-Decides path file).0 (sym equal ∙ h)), (λ same. equal ∙ (path_eq-Decides path file).1 same))

pub returns-in-FilePath : goal.returns-in-FilePath
returns-in-FilePath c =
    same_file c.eq.result c.args.self.now _ (path_of c.args.path) c.in-FilePath.is
    (c.eq.ensures ∙ ap (path_eq (path_of c.args.path)) c.as_path-in-FilePath.ensures)
