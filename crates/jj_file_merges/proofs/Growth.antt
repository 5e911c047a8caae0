-- Relations of a store and its files are preserved when files are added.
use Rattle.std.proofs.Common.{◌≡◌, ◌∙◌, inl, inr, ℕ, Bool, true, false, List, Option, Some, None, refl, sym, ap, subst, map}
use Rattle.std.specs.Prelude.{MatchOption}
use Rattle.std.specs.Str.{bytes_eq}
use Rattle.std.proofs.lemmas.Slice.Eq.{bytes_eq-Decides}
use Rattle.jj_merges.specs.declared.merge.SameChange.{SameChange}
use Rattle.jj_backend.specs.MergedTreeValues.{Values}
use Rattle.jj_backend.specs.Objects.{AddsFile, ById, IsFree, Objects, put}
use Rattle.jj_backend.specs.declared.backend.tree_value.TreeValue.{TreeValue}
use Rattle.jj_backend.specs.declared.backend.tree_value.TreeValue.TheVariants.{File, Symlink, Tree, GitSubmodule}
use Rattle.jj_content_merges.specs.declared.files.FileMergeHunkLevel.{FileMergeHunkLevel}
use Rattle.jj_file_merges.specs.Contents.{AreContents, IsMergedContent}
use Rattle.jj_file_merges.specs.Resolutions.{IsFileConflict, IsFileResolution, IsMergedFile, IsUndecided}
use Rattle.jj_file_merges.specs.declared.terms.FileTerm.{FileTerm}
use Rattle.jj_file_merges.proofs.Zips.{zip_weaker}

abbrev pub Grows : ById (List ℕ) → ById (List ℕ) → Type 0
Grows old new = (id content : List ℕ) → old id ≡ Some content → new id ≡ Some content

put_kept : (old : ById (List ℕ)) (id content : List ℕ) → IsFree old id content → Grows old (put old id content)
put_kept old id content free q found is = by_test (bytes_eq id q) refl
  where
    same : (id ≡ q) → (free' : IsFree old id content) → content ≡ found
    same e (inl nothing) = let both : None ≡ Some found = sym nothing ∙ ap old e ∙ is in absurd cc
    same e (inr there) = let both : Some content ≡ Some found = sym there ∙ ap old e ∙ is in cc

    by_test : (t : Bool) → bytes_eq id q ≡ t → put old id content q ≡ Some found
    by_test true h = rw h (ap Some (same ((bytes_eq-Decides id q).0 h) free))
    by_test false h = rw h is

module _ (old new : Objects) (id content : List ℕ) (adds : AddsFile old new id content) where
  pub file_there : new.files id ≡ Some content
  file_there = ap (λ (o : Objects). o.files id) adds.1 ∙ rw ((bytes_eq-Decides id id).1 refl) refl

  pub file_grows : Grows old.files new.files
  file_grows q found is = ap (λ (o : Objects). o.files q) adds.1 ∙ put_kept old.files id content adds.0 q found is

module _ (old new : ById (List ℕ)) (grows : Grows old new) (level : FileMergeHunkLevel) (same : SameChange) where
  pub contents_grow : (ids contents : List (List ℕ)) → AreContents old ids contents → AreContents new ids contents
  contents_grow = zip_weaker (λ id content. old id ≡ Some content) (λ id content. new id ≡ Some content) grows

  pub content_grows : (ids : List (List ℕ)) (outcome : Option (List ℕ)) → IsMergedContent old level same ids outcome → IsMergedContent new level same ids outcome
  content_grows ids outcome h = record {
    contents = h.contents;
    stored = contents_grow ids h.contents h.stored;
    hunks = h.hunks;
    merge = h.merge;
    outcome_is = h.outcome_is;
  }

  pub merged_grows : (ids : List (List ℕ)) (id : Option (List ℕ)) → IsMergedFile old level same ids id → IsMergedFile new level same ids id
  merged_grows ids None h = (h.0, content_grows ids None h.1)
  merged_grows ids (Some id) (inl h) = inl h
  merged_grows ids (Some id) (inr h) = inr (h.0, h.1, content_grows ids (Some h.0) h.2, grows id h.0 h.3)

  pub conflict_grows : (terms : List FileTerm) → IsFileConflict old level same terms → IsFileConflict new level same terms
  conflict_grows terms (inl h) = inl h
  conflict_grows terms (inr (inl h)) = inr (inl h)
  conflict_grows terms (inr (inr h)) = inr (inr (merged_grows (map (λ term. term.id) terms) None h))

  pub resolution_grows : (values : Values) (value : Option TreeValue) → IsFileResolution old level same values value → IsFileResolution new level same values value
  resolution_grows values None (inl h) = inl h
  resolution_grows values None (inr h) = inr (h.0, h.1, conflict_grows h.0 h.2)
  resolution_grows values (Some (File id executable copy_id)) h = (h.0, h.1, h.2, h.3, merged_grows (map (λ term. term.id) h.0) (Some id) h.4)
  resolution_grows values (Some (Symlink id)) h = h
  resolution_grows values (Some (Tree id)) h = h
  resolution_grows values (Some (GitSubmodule id)) h = h

-- ---- the resolution of one path

module _ (old new : Objects) where
  abbrev pub IsWrittenContent : FileMergeHunkLevel → SameChange → List (List ℕ) → Option (List ℕ) → Type 0
  IsWrittenContent level same ids id =
      MatchOption id ((new ≡ old) × IsMergedContent old.files level same ids None)
      (λ id. (content : List ℕ) × IsMergedContent old.files level same ids (Some content) × AddsFile old new id content)

  module _ (level : FileMergeHunkLevel) (same : SameChange) (ids : List (List ℕ)) where
    pub merged_by_contents : IsUndecided bytes_eq same ids → (id : Option (List ℕ)) → IsWrittenContent level same ids id → IsMergedFile new.files level same ids id
    merged_by_contents undecided None h = (undecided, subst (λ (o : Objects). IsMergedContent o.files level same ids None) (sym h.0) h.1)
    merged_by_contents undecided (Some id) h =
        inr (h.0, undecided, content_grows old.files new.files (file_grows old new id h.0 h.2) level same ids (Some h.0) h.1, file_there old new id h.0 h.2)
