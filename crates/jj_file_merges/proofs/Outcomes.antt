-- Outcomes of conflicts, and the objects that they add.
use Rattle.std.proofs.Common.{◌≡◌, ◌∙◌, inl, inr, ℕ, List, [], Option, Some, None, refl, sym, ap, subst}
use Rattle.std.specs.List.{AllZip}
use Rattle.jj_paths.specs.Paths.{Path}
use Rattle.jj_merges.specs.declared.merge.SameChange.{SameChange}
use Rattle.jj_backend.specs.MergedTreeValues.{Values}
use Rattle.jj_backend.specs.Objects.{AddsFile, ById, Objects}
use Rattle.jj_backend.specs.declared.backend.tree_value.TreeValue.{TreeValue}
use Rattle.jj_backend.specs.declared.backend.tree_value.TreeValue.TheVariants.{File, Symlink, Tree, GitSubmodule}
use Rattle.jj_trees.specs.WrittenTrees.{AddsTrees}
use Rattle.jj_content_merges.specs.declared.files.FileMergeHunkLevel.{FileMergeHunkLevel}
use Rattle.jj_conflicts.specs.declared.conflicts.ConflictMarkerStyle.{ConflictMarkerStyle}
use Rattle.jj_file_merges.specs.Markings.{IsMarkedContent, IsTermContent, has_executable_side}
use Rattle.jj_file_merges.specs.MergedTrees.{AddsFiles, AddsFilesAndTrees, IsConflictOutcome, IsMarkedFile, IsOutcome, PathConflict}
use Rattle.jj_file_merges.specs.Resolutions.{IsFileResolution, WritesResolution}
use Rattle.jj_file_merges.specs.declared.trees.Outcome.{Outcome}
use Rattle.jj_file_merges.specs.declared.trees.Outcome.TheVariants.{Merged, Marked, Unresolved}
use Rattle.jj_file_merges.proofs.Growth.{Grows, file_grows, file_there, resolution_grows}
use Rattle.jj_file_merges.proofs.Zips.{zip_weaker}

module _ (old new : ById (List ℕ)) (grows : Grows old new) (level : FileMergeHunkLevel) (same : SameChange) where
  term_grows : (id : Option (List ℕ)) (content : List ℕ) → IsTermContent old id content → IsTermContent new id content
  term_grows None content h = h
  term_grows (Some id) content h = grows id content h

  pub marked_grows : (style : ConflictMarkerStyle) (values : Values) (labels : List (List ℕ)) (content : Option (List ℕ)) → IsMarkedContent old level same style values labels content
      → IsMarkedContent new level same style values labels content
  marked_grows style values labels None h = h
  marked_grows style values labels (Some content) h = (h.0, h.1, h.2, zip_weaker (IsTermContent old) (IsTermContent new) term_grows h.0 h.1 h.3, h.4)

  file_marked_grows : (style : ConflictMarkerStyle) (values : Values) (labels : List (List ℕ)) (value : TreeValue) → IsMarkedFile old level same style values labels value
      → IsMarkedFile new level same style values labels value
  file_marked_grows style values labels (File id executable copy_id) h =
      ((h.0.0, grows id h.0.0 h.0.1, marked_grows style values labels (Some h.0.0) h.0.2), h.1, h.2)
  file_marked_grows style values labels (Symlink id) h = h
  file_marked_grows style values labels (Tree id) h = h
  file_marked_grows style values labels (GitSubmodule id) h = h

  unmerged_grows : (style : Option ConflictMarkerStyle) (values : Values) (labels : List (List ℕ)) (outcome : Outcome) → IsConflictOutcome old level same style values labels outcome
      → IsConflictOutcome new level same style values labels outcome
  unmerged_grows style values labels (Merged value) h = h
  unmerged_grows None values labels (Marked value) h = h
  unmerged_grows (Some style) values labels (Marked value) h = file_marked_grows style values labels value h
  unmerged_grows None values labels Unresolved h = h
  unmerged_grows (Some style) values labels Unresolved h = h

  pub outcome_grows : (style : Option ConflictMarkerStyle) (conflict : PathConflict) (outcome : Outcome) → IsOutcome old level same style conflict outcome → IsOutcome new level same style conflict outcome
  outcome_grows style conflict (Merged value) h = resolution_grows old new grows level same conflict.1 (Some value) h
  outcome_grows style conflict (Marked value) h = (resolution_grows old new grows level same conflict.1 None h.0, unmerged_grows style conflict.1 conflict.2 (Marked value) h.1)
  outcome_grows style conflict Unresolved h = (resolution_grows old new grows level same conflict.1 None h.0, unmerged_grows style conflict.1 conflict.2 Unresolved h.1)

  pub outcomes_grow : (style : Option ConflictMarkerStyle) (conflicts : List PathConflict) (outcomes : List Outcome) → AllZip (IsOutcome old level same style) conflicts outcomes
      → AllZip (IsOutcome new level same style) conflicts outcomes
  outcomes_grow style = zip_weaker (IsOutcome old level same style) (IsOutcome new level same style) (outcome_grows style)

-- ---- stores one after the other

pub adds_none : (objects : Objects) → AddsFiles objects objects
adds_none objects = record { kept = λ id content h. h; others = refl }

pub adds_same : (old new : Objects) → new ≡ old → AddsFiles old new
adds_same old new same = subst (AddsFiles old) (sym same) (adds_none old)

pub adds_more : (a b c : Objects) → AddsFiles a b → AddsFiles b c → AddsFiles a c
adds_more a b c h k = record {
  kept = λ id content e. k.kept id content (h.kept id content e);
  others = k.others ∙ ap (λ (o : Objects). record o { files = c.files }) h.others;
}

pub adds_one : (old new : Objects) (id content : List ℕ) → AddsFile old new id content → AddsFiles old new
adds_one old new id content adds = record {
  kept = file_grows old new id content adds;
  others = adds.1 ∙ ap (λ (files : ById (List ℕ)). record old { files = files }) (sym (ap (λ (o : Objects). o.files) adds.1));
}

-- files are added, and then trees
pub adds_both : (a b c : Objects) → AddsFiles a b → AddsTrees b c → AddsFilesAndTrees a c
adds_both a b c h k = record {
  files = λ id content e. ap (λ (o : Objects). o.files id) k.others ∙ h.kept id content e;
  trees = λ id entries e. k.kept id entries (ap (λ (o : Objects). o.trees id) h.others ∙ e);
  others = k.others ∙ ap (λ (o : Objects). record o { trees = c.trees }) h.others
      ∙ ap (λ (files : ById (List ℕ)). record a { files = files; trees = c.trees }) (sym (ap (λ (o : Objects). o.files) k.others));
}

pub same_files : (b c : Objects) → AddsTrees b c → Grows b.files c.files
same_files b c k id content e = ap (λ (o : Objects). o.files id) k.others ∙ e

-- ---- the outcome of one conflict

pub adds_resolution : (old new : Objects) (value : Option TreeValue) → WritesResolution old new value → AddsFiles old new
adds_resolution old new value (inl same) = adds_same old new same
adds_resolution old new value (inr h) = adds_one old new h.0 h.1 h.5

module _ (level : FileMergeHunkLevel) (same : SameChange) (style : ConflictMarkerStyle) (values : Values) (labels : List (List ℕ)) where
  pub marked_file : (old new : Objects) (id content : List ℕ) → AddsFile old new id content → IsMarkedContent old.files level same style values labels (Some content)
      → IsMarkedFile new.files level same style values labels (File id (has_executable_side values) [])
  marked_file old new id content adds is = (
    (content, file_there old new id content adds, marked_grows old.files new.files (file_grows old new id content adds) level same style values labels (Some content) is),
    refl,
    refl,
  )

  pub style_outcome : (files : ById (List ℕ)) (path : Path) (outcome : Outcome) → IsFileResolution files level same values None → IsConflictOutcome files level same (Some style) values labels outcome
      → IsOutcome files level same (Some style) (path, values, labels) outcome
  style_outcome files path (Merged value) unresolved h = absurd h
  style_outcome files path (Marked value) unresolved h = (unresolved, h)
  style_outcome files path Unresolved unresolved h = (unresolved, h)
