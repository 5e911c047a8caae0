-- States that are equal name by name, and changes of maps.
use Rattle.std.proofs.Common.{◌≡◌, ◌∙◌, ℕ, Bool, true, false, List, Option, Some, None, refl, sym, ap}
use Rattle.std.specs.Prelude.{if◌then◌else◌, is_some, Result, Ok, Err, OnErr, OnOk}
use Rattle.std.specs.Str.{bytes_eq}
use Rattle.std.proofs.Math.Path.{fun_ext}
use Rattle.std.proofs.lemmas.Slice.Eq.{bytes_eq-Decides}
use Rattle.jj_backend.specs.Objects.{ById}
use Rattle.jj_import.specs.AppliedChanges.{MarkTable}
use Rattle.jj_import.specs.ImportStates.{ImportState, IsSame, or_else, with_git_id}

abbrev state_with : MarkTable → ById (Option (List ℕ)) → ById (List ℕ) → ById (List ℕ) → ImportState
state_with marks stream_refs refs git_ids = record {
  marks = marks;
  stream_refs = stream_refs;
  names = record { refs = refs; git_ids = git_ids };
}

pub same_state : (expected actual : ImportState) → IsSame expected actual → actual ≡ expected
same_state expected actual same =
    let marks : actual.marks ≡ expected.marks = fun_ext same.marks in
    let stream_refs : actual.stream_refs ≡ expected.stream_refs = fun_ext same.stream_refs in
    let refs : actual.names.refs ≡ expected.names.refs = fun_ext same.refs in
    let git_ids : actual.names.git_ids ≡ expected.names.git_ids = fun_ext same.git_ids in
    ap (λ (m : MarkTable). state_with m actual.stream_refs actual.names.refs actual.names.git_ids) marks
    ∙ ap (λ (s : ById (Option (List ℕ))). state_with expected.marks s actual.names.refs actual.names.git_ids) stream_refs
    ∙ ap (λ (r : ById (List ℕ)). state_with expected.marks expected.stream_refs r actual.names.git_ids) refs
    ∙ ap (λ (g : ById (List ℕ)). state_with expected.marks expected.stream_refs expected.names.refs g) git_ids

-- ---- changes of maps

or_else-none : {V : Type 0} (o : Option V) → or_else o None ≡ o
or_else-none None = refl
or_else-none (Some value) = refl

none_from_is_some : {V : Type 0} (o : Option V) → is_some o ≡ false → o ≡ None
none_from_is_some None h = refl
none_from_is_some (Some value) h = let both : true ≡ false = h in absurd cc

-- an id of Git that had no commit
pub id_added : (before added : ById (List ℕ)) (git_id id : List ℕ) → is_some (before git_id) ≡ false → ((other : List ℕ) → added other ≡ (if bytes_eq git_id other then Some id else before other))
    → (other : List ℕ) → added other ≡ with_git_id before (Some git_id) id other
id_added before added git_id id absent h other = by_test (bytes_eq git_id other) refl
  where
    by_test : (t : Bool) → bytes_eq git_id other ≡ t → added other ≡ with_git_id before (Some git_id) id other
    by_test true is =
        let there : added other ≡ Some id = rw is at (h other) in
        let none : before other ≡ None = ap before (sym ((bytes_eq-Decides git_id other).0 is)) ∙ none_from_is_some (before git_id) absent in
        rw (is, none) there
    by_test false is = let was : added other ≡ before other = rw is at (h other) in rw is (was ∙ sym (or_else-none (before other)))

-- an insertion that cannot have failed
pub ok_from_absent : {T E : Type 0} (r : Result T E) (P Q : Type 0) → OnOk r P → OnErr r Q → (Q → ⊥) → P
ok_from_absent (Ok x) P Q h k never = h
ok_from_absent (Err e) P Q h k never = absurd (never k)
