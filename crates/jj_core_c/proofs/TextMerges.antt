-- Merged contents, and contents with conflicts between markers, from the contracts of the libraries.
use Rattle.std.proofs.Common.{◌≡◌, ◌∙◌, ℕ, Bool, List, [], ◌∷◌, Option, Some, None, Result, Ok, Err, IfOk, IfSome, Vec, Global, unwrap_or, refl, sym, ap, subst}
use Rattle.std.specs.Option.{option_map}
use Rattle.std.specs.Str.{bytes_eq}
use Rattle.std.specs.declared.alloc.AllocError.{AllocError}
use Rattle.jj_conflicts.specs.Markers.{chosen_marker_len}
use Rattle.jj_conflicts.specs.Rendering.{IsRendered}
use Rattle.jj_conflicts.specs.declared.conflicts.ConflictMarkerStyle.{ConflictMarkerStyle}
use Rattle.jj_content_merges.specs.Files.{IsContentMerge, IsMergeResult, tried_outcome}
use Rattle.jj_content_merges.specs.Hunks.{contents}
use Rattle.jj_content_merges.specs.declared.files.FileMergeHunkLevel.{FileMergeHunkLevel}
use Rattle.jj_content_merges.specs.declared.files.FileMergeHunkLevel.TheVariants.{Line}
use Rattle.jj_content_merges.specs.declared.files.MergeResult.{MergeResult}
use Rattle.jj_content_merges.specs.declared.files.MergeResult.TheVariants.{Resolved, Conflict}
use Rattle.jj_merges.specs.Labels.{labels_as_merge}
use Rattle.jj_merges.specs.Resolution.{ResolvesTo}
use Rattle.jj_merges.specs.declared.merge.SameChange.{SameChange}
use Rattle.jj_core_c.specs.MergeResults.{same_change}
use Rattle.jj_core_c.specs.TextMerges.{IsMaterialized, IsMerged, hunk_level, marker_style}

-- The option is the outcome of a merge, and the result to which whole terms resolve.
abbrev Tried : FileMergeHunkLevel → SameChange → List (List ℕ) → Option (Vec ℕ Global) → Type 0
Tried level same inputs merged =
    ((hunks : List (List (List ℕ))) × IsContentMerge level same inputs hunks × (option_map (λ text. text.items) merged ≡ tried_outcome hunks))
    × ((v : List ℕ) → ResolvesTo bytes_eq same inputs v → option_map (λ text. text.items) merged ≡ Some v)

some : (a b : List ℕ) → ◌≡◌ {A = Option (List ℕ)} (Some a) (Some b) → a ≡ b
some a b same = ap (λ (o : Option (List ℕ)). unwrap_or o a) same

one_merged : (words accept : Bool) (terms : List (List ℕ)) (merged : Option (Vec ℕ Global)) → Tried (hunk_level words) (same_change accept) terms merged
    → IfSome merged (λ text. IsMerged words accept terms text.items)
one_merged words accept terms None tried = tt
one_merged words accept terms (Some text) tried = record {
  hunks = tried.0.0;
  merge = tried.0.1;
  outcome = sym tried.0.2;
  whole = λ v found. some text.items v (tried.1 v found);
}

pub all_merged : (words accept : Bool) (terms inputs : List (List ℕ)) (level : FileMergeHunkLevel) (same : SameChange) (result : Result (Option (Vec ℕ Global)) AllocError)
    → level ≡ hunk_level words → same ≡ same_change accept → inputs ≡ terms
    → IfOk result (λ merged. (hunks : List (List (List ℕ))) × IsContentMerge level same inputs hunks × (option_map (λ text. text.items) merged ≡ tried_outcome hunks))
    → IfOk result (λ merged. (v : List ℕ) → ResolvesTo bytes_eq same inputs v → option_map (λ text. text.items) merged ≡ Some v)
    → IfOk result (λ merged. IfSome merged (λ text. IsMerged words accept terms text.items))
all_merged words accept terms inputs level same (Ok merged) is_level is_same is_terms merge whole =
    let tried : Tried level same inputs merged = (merge, whole) in
    one_merged words accept terms merged
    (subst (λ x. Tried (hunk_level words) (same_change accept) x merged) is_terms
    (subst (λ x. Tried (hunk_level words) x inputs merged) is_same
    (subst (λ x. Tried x same inputs merged) is_level tried)))
all_merged words accept terms inputs level same (Err error) is_level is_same is_terms merge whole = tt

of_terms : (accept : Bool) (terms inputs : List (List ℕ)) (same : SameChange) (result : MergeResult) → same ≡ same_change accept → inputs ≡ terms
    → IsMergeResult Line same inputs result → IsMergeResult Line (same_change accept) terms result
of_terms accept terms inputs same result is_same is_terms merge =
    subst (λ x. IsMergeResult Line (same_change accept) x result) is_terms (subst (λ x. IsMergeResult Line x inputs result) is_same merge)

pub resolved : (git accept : Bool) (terms inputs : List (List ℕ)) (same : SameChange) (result : MergeResult) (text : Vec ℕ Global)
    → same ≡ same_change accept → inputs ≡ terms → result ≡ Resolved text → IsMergeResult Line same inputs result → IsMaterialized git accept terms text.items
resolved git accept terms inputs same result text is_same is_terms is merge = record {
  result = Resolved text;
  merge = subst (IsMergeResult Line (same_change accept) terms) is (of_terms accept terms inputs same result is_same is_terms merge);
  rendered = refl;
}

pub rendered : (git accept : Bool) (terms inputs : List (List ℕ)) (same : SameChange) (result : MergeResult) (hunks : Vec (List (Vec ℕ Global)) Global)
    (style : ConflictMarkerStyle) (len : ℕ) (labels : List (List ℕ)) (measured shown : List (List (Vec ℕ Global))) (found : Result (Vec ℕ Global) AllocError)
    → same ≡ same_change accept → inputs ≡ terms → result ≡ Conflict hunks → IsMergeResult Line same inputs result
    → style ≡ marker_style git → len ≡ chosen_marker_len (contents measured) → measured ≡ hunks.items → shown ≡ hunks.items → labels ≡ []
    → IfOk found (λ text. IsRendered style len (labels_as_merge labels) (contents shown) text.items) → IfOk found (λ text. IsMaterialized git accept terms text.items)
rendered git accept terms inputs same result hunks style len labels measured shown (Ok text) is_same is_terms is merge is_style is_len is_measured is_shown is_labels drawn = record {
  result = Conflict hunks;
  merge = subst (IsMergeResult Line (same_change accept) terms) is (of_terms accept terms inputs same result is_same is_terms merge);
  rendered = subst (λ l. IsRendered (marker_style git) (chosen_marker_len (contents hunks.items)) (labels_as_merge l) (contents hunks.items) text.items) is_labels
      (subst (λ h. IsRendered (marker_style git) (chosen_marker_len (contents hunks.items)) (labels_as_merge labels) (contents h) text.items) is_shown
      (subst (λ n. IsRendered (marker_style git) n (labels_as_merge labels) (contents shown) text.items) (is_len ∙ ap (λ h. chosen_marker_len (contents h)) is_measured)
      (subst (λ s. IsRendered s len (labels_as_merge labels) (contents shown) text.items) is_style drawn)));
}
rendered git accept terms inputs same result hunks style len labels measured shown (Err error) is_same is_terms is merge is_style is_len is_measured is_shown is_labels drawn = tt
