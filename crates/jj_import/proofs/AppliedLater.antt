-- Values and changes of a commit, in later stores.
use Rattle.std.proofs.Common.{ℕ, List, map, subst, sym}
use Rattle.std.specs.List.{IsFirstAndRest}
use Rattle.jj_backend.specs.Objects.{Objects}
use Rattle.jj_backend.specs.declared.backend.tree_value.TreeValue.{TreeValue}
use Rattle.jj_fast_import.specs.declared.command.Mode.{Mode}
use Rattle.jj_fast_import.specs.declared.command.Mode.TheVariants.{Normal, Executable, Symlink as SymlinkMode, Gitlink, Directory}
use Rattle.jj_fast_import.specs.declared.command.Change.{Change}
use Rattle.jj_fast_import.specs.Values.{ContentValue, ByMark, ByName, Inline, Stored, change_value}
use Rattle.jj_tree_builder.specs.Changes.{Files}
use Rattle.jj_import.specs.AppliedChanges.{AreApplied, IsApplied, IsFileOf, IsLinkTo, IsValueOf, MarkTable}
use Rattle.jj_import.specs.Stored.{IsExtended}

module _ (earlier later : Objects) (marks : MarkTable) (extended : IsExtended earlier later) where
  pub file_later : (content : ContentValue) (id : List ℕ) → IsFileOf earlier marks content id → IsFileOf later marks content id
  file_later (Inline contents) id h = extended.files id contents h
  file_later (Stored (ByMark mark)) id h = h
  file_later (Stored (ByName name)) id h = h

  pub link_later : (link file : List ℕ) → IsLinkTo earlier link file → IsLinkTo later link file
  link_later link file h = (h.0, extended.files file h.0 h.1, extended.symlinks link h.0 h.2)

  pub value_later : (mode : Mode) (content : ContentValue) (value : TreeValue) → IsValueOf earlier marks mode content value → IsValueOf later marks mode content value
  value_later Normal content value h = (h.0, file_later content h.0 h.1, h.2)
  value_later Executable content value h = (h.0, file_later content h.0 h.1, h.2)
  value_later SymlinkMode content value h = (h.0, h.1, file_later content h.1 h.2, link_later h.0 h.1 h.3, h.4)
  value_later Gitlink content value h = h
  value_later Directory content value h = h

-- one more change before the others
pub applied_first : (objects : Objects) (marks : MarkTable) (all others : List Change) (change : Change) (before between after : Files) → IsFirstAndRest all change others
    → IsApplied objects marks (change_value change) before between → AreApplied objects marks (map change_value others) between after → AreApplied objects marks (map change_value all) before after
applied_first objects marks all others change before between after e h k = subst (λ cs. AreApplied objects marks (map change_value cs) before after) (sym e.0) (between, h, k)
