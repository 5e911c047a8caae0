-- The outcomes of a crash after several calls.
use Rattle.std.proofs.Common.{◌≡◌, ◌≢◌, ◌⊎◌, ◌≤◌, ◌++◌, ◌∙◌, ℕ, take, drop, List, Option, Some, None, Result, Ok, Err, OnOk, MatchResult, string_bytes, inl, inr, arith, append_assoc, take-append-drop, ap, subst, sym, refl}
use Rattle.std.specs.declared.io.Error.{Error}
use Rattle.jj_files.specs.PathErrors.{AddsPath}
use Rattle.jj_files.specs.declared.file_util.errors.PathError.{PathError}
use Rattle.jj_temp_files.specs.declared.temp_file.NamedTempFile.{NamedTempFile}
use Rattle.jj_temp_files.specs.Crashes.{Changes, Unchanged, Untouched, LeftSince, LeavesOldOr, AddsWritten, IsWholeOrAbsent, ReplacesFile}
use Rattle.jj_temp_files.specs.Persisting.{SyncRelation, RenameRelation, RemoveRelation, PersistsFile, ReturnsOrRemoves}
use Rattle.jj_temp_files.specs.TempNames.{PassesOverTaken, none, more, IsNumberedPath, numbered_path, CreatesTempFile}

-- an outcome of a crash after two steps is left by one of them
pub changes_twice : {S : Type 0} (moment : S → ℕ) (left_since : LeftSince S) (a b c : S)
    (path : List ℕ) (P : Option (List ℕ) → Type 0) → Changes moment left_since a b path P
    → Changes moment left_since b c path P → Changes moment left_since a c path P
changes_twice moment left_since a b c path P first second = record {
  later = let one = first.later in let two = second.later in omega arith;
  each = λ since left before at_end.
      let one = first.later in
      let is_before : since ≤ moment b = omega arith in
      elim (second.each since left is_before at_end) [
        | inl between ↦ first.each since left before between
        | inr q ↦ inr q
      ];
}

-- more may be left
pub changes_more : {S : Type 0} (moment : S → ℕ) (left_since : LeftSince S) (a b : S)
    (path : List ℕ) (P Q : Option (List ℕ) → Type 0) → Changes moment left_since a b path P
    → ((left : Option (List ℕ)) → P left → Q left) → Changes moment left_since a b path Q
changes_more moment left_since a b path P Q changes more_left = record {
  later = changes.later;
  each = λ since left before at_end. elim (changes.each since left before at_end) [
    | inl start ↦ inl start
    | inr p ↦ inr (more_left left p)
  ];
}

-- nothing has changed when nothing was done
pub unchanged_now : {S : Type 0} (moment : S → ℕ) (left_since : LeftSince S) (a : S) (path : List ℕ)
    → Unchanged moment left_since a a path
unchanged_now moment left_since a path = record {
  later = omega arith;
  each = λ since left before at_end. inl at_end;
}

-- a step that leaves only these states also satisfies a weaker bound
pub unchanged_more : {S : Type 0} (moment : S → ℕ) (left_since : LeftSince S) (a b : S)
    (path : List ℕ) (Q : Option (List ℕ) → Type 0) → Unchanged moment left_since a b path
    → Changes moment left_since a b path Q
unchanged_more moment left_since a b path Q unchanged =
    changes_more moment left_since a b path (λ left. ⊥) Q unchanged (λ left none. absurd none)

-- the bytes of the file at a path, or none
abbrev pub Contents : Type 0 → Type 0
Contents S = S → List ℕ → Option (List ℕ)

-- nothing has changed when nothing was done
pub untouched_now : {S : Type 0} (moment : S → ℕ) (left_since : LeftSince S) (contents : Contents S)
    (a : S) (path : List ℕ) → Untouched moment left_since contents a a path
untouched_now moment left_since contents a path =
    record { crash = unchanged_now moment left_since a path; now = refl }

-- a path that two steps do not touch is untouched
pub untouched_twice : {S : Type 0} (moment : S → ℕ) (left_since : LeftSince S)
    (contents : Contents S) (a b c : S) (path : List ℕ)
    → Untouched moment left_since contents a b path → Untouched moment left_since contents b c path
    → Untouched moment left_since contents a c path
untouched_twice moment left_since contents a b c path first second = record {
  crash = changes_twice moment left_since a b c path (λ left. ⊥) first.crash second.crash;
  now = second.now ∙ first.now;
}

-- the law of creating a file: nothing changes at other paths
abbrev pub CreatesElsewhere : {S F : Type 0} → (S → ℕ) → LeftSince S → Contents S
    → (S → List ℕ → Result F Error → S → Type 0) → Type 0
CreatesElsewhere {S} {F} moment left_since contents may_create = (old new : S) (path : List ℕ)
    (created : Result F Error) → may_create old path created new
    → (other : List ℕ) → other ≢ path → Untouched moment left_since contents old new other

-- a path that no temporary file has is another one
pub is_other : (dir path other : List ℕ) → IsNumberedPath dir path → ¬ (IsNumberedPath dir other)
    → other ≢ path
is_other dir path other numbered absent equal =
    let P : List ℕ → Type 0 = λ p. IsNumberedPath dir p in absent (subst P (sym equal) numbered)

-- names that are taken were passed over, and other paths do not change
passed_over : {S F : Type 0} (moment : S → ℕ) (left_since : LeftSince S) (contents : Contents S)
    (may_create : S → List ℕ → Result F Error → S → Type 0)
    → CreatesElsewhere moment left_since contents may_create → (dir other : List ℕ)
    → ¬ (IsNumberedPath dir other) → (count first last : ℕ) (old new : S)
    → PassesOverTaken may_create dir count first old last new
    → Untouched moment left_since contents old new other
passed_over moment left_since contents may_create law dir other absent count first last old new none =
    untouched_now moment left_since contents old other
passed_over moment left_since contents may_create law dir other absent all start end past present
    (more {count} {first} {number} {old} {between} {new} {created} before done taken) =
    untouched_twice moment left_since contents old between new other
    (passed_over moment left_since contents may_create law dir other absent count first number old between before)
    (law between new (numbered_path dir number) created done other
    (is_other dir (numbered_path dir number) other (number, refl) absent))

-- creating a temporary file does not change a path that no temporary file has
pub created_elsewhere : {S F : Type 0} (moment : S → ℕ) (left_since : LeftSince S)
    (contents : Contents S) (may_create : S → List ℕ → Result F Error → S → Type 0)
    → CreatesElsewhere moment left_since contents may_create → (dir other : List ℕ)
    → ¬ (IsNumberedPath dir other) → (first last : ℕ) (old new : S)
    (result : Result (NamedTempFile F) PathError)
    → CreatesTempFile may_create dir first old result last new
    → Untouched moment left_since contents old new other
created_elsewhere moment left_since contents may_create law dir other absent first last old new (Ok temp)
    (count, number, between, before, (at, created, next)) =
    untouched_twice moment left_since contents old between new other
    (passed_over moment left_since contents may_create law dir other absent count first number old between before)
    (law between new (numbered_path dir number) (Ok temp.file) created other
    (is_other dir (numbered_path dir number) other (number, refl) absent))
created_elsewhere moment left_since contents may_create law dir other absent first last old new (Err fault)
    (count, number, between, before, inl (error, failed, taken, told, next)) =
    untouched_twice moment left_since contents old between new other
    (passed_over moment left_since contents may_create law dir other absent count first number old between before)
    (law between new (numbered_path dir number) (Err error) failed other
    (is_other dir (numbered_path dir number) other (number, refl) absent))
created_elsewhere moment left_since contents may_create law dir other absent first last old new (Err fault)
    (count, number, between, before, inr (memory, same, next)) =
    let P : _ → Type 0 = λ s. Untouched moment left_since contents old s other in
    subst P (sym same)
    (passed_over moment left_since contents may_create law dir other absent count first number old between before)

-- the law of syncing: nothing changes, and a file that was synced is whole or gone
abbrev pub SyncsWhole : {S F : Type 0} → (S → ℕ) → LeftSince S → Contents S
    → (S → List ℕ → Option (List ℕ) → Type 0) → (F → List ℕ) → (F → List ℕ) → SyncRelation S F
    → Type 0
SyncsWhole {S} {F} moment left_since contents may_leave created_at written may_sync =
    (old new : S) (file : F) (result : Result (Unit {0}) Error) → may_sync old file result new
    → ((other : List ℕ) → Untouched moment left_since contents old new other)
    × OnOk result ((left : Option (List ℕ)) → may_leave new (created_at file) left
    → IsWholeOrAbsent (written file) left)

-- the law of renaming: the new path has the old file or the one that is renamed
abbrev pub RenamesAtOnce : {S : Type 0} → (S → ℕ) → LeftSince S → Contents S
    → (S → List ℕ → Option (List ℕ) → Type 0) → RenameRelation S → Type 0
RenamesAtOnce {S} moment left_since contents may_leave may_rename = (old new : S)
    (from to : List ℕ) (result : Result (Unit {0}) Error) → may_rename old from to result new
    → Changes moment left_since old new to (λ left. (left ≢ None) × may_leave old from left)
    × MatchResult result (λ done. contents new to ≡ contents old from)
    (λ error. (contents new to ≡ contents old to) ⊎ (contents new to ≡ contents old from))
    × ((other : List ℕ) → other ≢ from → other ≢ to
    → Untouched moment left_since contents old new other)

-- the law of removing: nothing changes at other paths
abbrev pub RemovesElsewhere : {S : Type 0} → (S → ℕ) → LeftSince S → Contents S
    → RemoveRelation S → Type 0
RemovesElsewhere {S} moment left_since contents may_remove = (old new : S) (path : List ℕ)
    (result : Result (Unit {0}) Error) → may_remove old path result new
    → (other : List ℕ) → other ≢ path → Untouched moment left_since contents old new other

-- a file that is there is whole
whole_of : (bytes : List ℕ) (left : Option (List ℕ)) → left ≢ None → IsWholeOrAbsent bytes left
    → left ≡ Some bytes
whole_of bytes left there (inl absent) = absurd (there absent)
whole_of bytes left there (inr whole) = whole

-- syncing and renaming leave the old file or the whole new one
sync_renamed : {S F : Type 0} (moment : S → ℕ) (left_since : LeftSince S) (contents : Contents S)
    (may_leave : S → List ℕ → Option (List ℕ) → Type 0) (created_at written : F → List ℕ)
    (may_sync : SyncRelation S F) (may_rename : RenameRelation S)
    → SyncsWhole moment left_since contents may_leave created_at written may_sync
    → RenamesAtOnce moment left_since contents may_leave may_rename
    → (file : F) (from to : List ℕ) → created_at file ≡ from
    → (old middle new : S) (synced result : Result (Unit {0}) Error)
    → may_sync old file synced middle
    → MatchResult synced (λ done. may_rename middle from to result new)
    (λ error. (result ≡ Err error) × (new ≡ middle))
    → Changes moment left_since old new to (λ left. left ≡ Some (written file))
sync_renamed moment left_since contents may_leave created_at written may_sync may_rename syncs renames
    file from to is_from old middle new (Ok done) result is_synced renamed =
    let law = syncs old middle file (Ok done) is_synced in
    let P : List ℕ → Type 0 = λ p. (left : Option (List ℕ)) → may_leave middle p left → IsWholeOrAbsent (written file) left in
    let whole = subst P is_from law.1 in
    let leaves = renames middle new from to result renamed in
    changes_twice moment left_since old middle new to (λ left. left ≡ Some (written file))
    (unchanged_more moment left_since old middle to (λ left. left ≡ Some (written file)) (law.0 to).crash)
    (changes_more moment left_since middle new to (λ left. (left ≢ None) × may_leave middle from left)
    (λ left. left ≡ Some (written file)) leaves.0
    (λ left both. whole_of (written file) left both.0 (whole left both.1)))
sync_renamed moment left_since contents may_leave created_at written may_sync may_rename syncs renames
    file from to is_from old middle new (Err error) result is_synced (is, same) =
    let law = syncs old middle file (Err error) is_synced in
    let P : _ → Type 0 = λ s. Changes moment left_since old s to (λ left. left ≡ Some (written file)) in
    subst P (sym same)
    (unchanged_more moment left_since old middle to (λ left. left ≡ Some (written file)) (law.0 to).crash)

-- returning or removing the temporary file changes nothing at other paths
returned_or_removed : {S F : Type 0} (moment : S → ℕ) (left_since : LeftSince S)
    (contents : Contents S) (may_remove : RemoveRelation S)
    → RemovesElsewhere moment left_since contents may_remove
    → (temp : NamedTempFile F) (path other : List ℕ) → other ≢ string_bytes temp.path
    → (outcome : Result (Unit {0}) Error) (between new : S) (result : Result F PathError)
    → ReturnsOrRemoves may_remove temp path outcome between result new
    → Untouched moment left_since contents between new other
returned_or_removed moment left_since contents may_remove removes temp path other apart (Ok done)
    between new result (is, same) =
    let P : _ → Type 0 = λ s. Untouched moment left_since contents between s other in
    subst P (sym same) (untouched_now moment left_since contents between other)
returned_or_removed moment left_since contents may_remove removes temp path other apart (Err error)
    between new result ((removed, is_removed), told) =
    removes between new (string_bytes temp.path) removed is_removed other apart

-- persisting a file leaves the old file or the whole new one
pub persisted : {S F : Type 0} (moment : S → ℕ) (left_since : LeftSince S) (contents : Contents S)
    (may_leave : S → List ℕ → Option (List ℕ) → Type 0) (created_at written : F → List ℕ)
    (may_sync : SyncRelation S F) (may_rename : RenameRelation S) (may_remove : RemoveRelation S)
    → SyncsWhole moment left_since contents may_leave created_at written may_sync
    → RenamesAtOnce moment left_since contents may_leave may_rename
    → RemovesElsewhere moment left_since contents may_remove
    → (temp : NamedTempFile F) (path : List ℕ) → created_at temp.file ≡ string_bytes temp.path
    → path ≢ string_bytes temp.path → (old new : S) (result : Result F PathError)
    → PersistsFile may_sync may_rename may_remove temp path old result new
    → Changes moment left_since old new path (λ left. left ≡ Some (written temp.file))
persisted moment left_since contents may_leave created_at written may_sync may_rename may_remove syncs
    renames removes temp path is_from apart old new result
    (outcome, between, (synced, middle, is_synced, after), returned) =
    changes_twice moment left_since old between new path (λ left. left ≡ Some (written temp.file))
    (sync_renamed moment left_since contents may_leave created_at written may_sync may_rename syncs
    renames temp.file (string_bytes temp.path) path is_from old middle between synced outcome is_synced
    after)
    (unchanged_more moment left_since between new path (λ left. left ≡ Some (written temp.file))
    (returned_or_removed moment left_since contents may_remove removes temp path path apart outcome
    between new result returned).crash)

-- after a sync, renaming replaces the file at the new path, or may if it fails
renamed_contents : {S F : Type 0} (moment : S → ℕ) (left_since : LeftSince S)
    (contents : Contents S) (may_leave : S → List ℕ → Option (List ℕ) → Type 0)
    (created_at written : F → List ℕ) (may_sync : SyncRelation S F) (may_rename : RenameRelation S)
    → SyncsWhole moment left_since contents may_leave created_at written may_sync
    → RenamesAtOnce moment left_since contents may_leave may_rename
    → (file : F) (from to : List ℕ) (old middle new : S) (synced outcome : Result (Unit {0}) Error)
    → may_sync old file synced middle
    → MatchResult synced (λ done. may_rename middle from to outcome new)
    (λ error. (outcome ≡ Err error) × (new ≡ middle))
    → MatchResult outcome (λ done. contents new to ≡ contents old from)
    (λ error. (contents new to ≡ contents old to) ⊎ (contents new to ≡ contents old from))
renamed_contents moment left_since contents may_leave created_at written may_sync may_rename syncs
    renames file from to old middle new (Ok done) (Ok finished) is_synced renamed =
    (renames middle new from to (Ok finished) renamed).1
    ∙ ((syncs old middle file (Ok done) is_synced).0 from).now
renamed_contents moment left_since contents may_leave created_at written may_sync may_rename syncs
    renames file from to old middle new (Ok done) (Err error) is_synced renamed =
    let law = syncs old middle file (Ok done) is_synced in
    elim ((renames middle new from to (Err error) renamed).1) [
      | inl kept ↦ inl (kept ∙ (law.0 to).now)
      | inr moved ↦ inr (moved ∙ (law.0 from).now)
    ]
renamed_contents moment left_since contents may_leave created_at written may_sync may_rename syncs
    renames file from to old middle new (Err error) outcome is_synced (is, same) =
    let law = syncs old middle file (Err error) is_synced in
    let P : Result (Unit {0}) Error → Type 0 = λ r. MatchResult r (λ done. contents new to ≡ contents old from)
    (λ error. (contents new to ≡ contents old to) ⊎ (contents new to ≡ contents old from)) in
    subst P (sym is) (inl (ap (λ s. contents s to) same ∙ (law.0 to).now))

-- persisting a file replaces the file at the new path, or may if it fails
pub persisted_contents : {S F : Type 0} (moment : S → ℕ) (left_since : LeftSince S)
    (contents : Contents S) (may_leave : S → List ℕ → Option (List ℕ) → Type 0)
    (created_at written : F → List ℕ) (may_sync : SyncRelation S F) (may_rename : RenameRelation S)
    (may_remove : RemoveRelation S)
    → SyncsWhole moment left_since contents may_leave created_at written may_sync
    → RenamesAtOnce moment left_since contents may_leave may_rename
    → RemovesElsewhere moment left_since contents may_remove
    → (temp : NamedTempFile F) (path : List ℕ) → path ≢ string_bytes temp.path
    → (old new : S) (result : Result F PathError)
    → PersistsFile may_sync may_rename may_remove temp path old result new
    → MatchResult result (λ file. contents new path ≡ contents old (string_bytes temp.path))
    (λ fault. (contents new path ≡ contents old path)
    ⊎ (contents new path ≡ contents old (string_bytes temp.path)))
persisted_contents moment left_since contents may_leave created_at written may_sync may_rename
    may_remove syncs renames removes temp path apart old new result
    (Ok done, between, (synced, middle, is_synced, after), (is, same)) =
    let renamed = renamed_contents moment left_since contents may_leave created_at written may_sync
    may_rename syncs renames temp.file (string_bytes temp.path) path old middle between synced
    (Ok done) is_synced after in
    let P : Result _ PathError → Type 0 = λ r. MatchResult r
    (λ file. contents new path ≡ contents old (string_bytes temp.path))
    (λ fault. (contents new path ≡ contents old path)
    ⊎ (contents new path ≡ contents old (string_bytes temp.path))) in
    subst P (sym is) (ap (λ s. contents s path) same ∙ renamed)
persisted_contents moment left_since contents may_leave created_at written may_sync may_rename
    may_remove syncs renames removes temp path apart old new (Err fault)
    (Err error, between, (synced, middle, is_synced, after), ((removed, is_removed), told)) =
    let renamed = renamed_contents moment left_since contents may_leave created_at written may_sync
    may_rename syncs renames temp.file (string_bytes temp.path) path old middle between synced
    (Err error) is_synced after in
    let gone = (removes between new (string_bytes temp.path) removed is_removed path apart).now in
    elim renamed [ inl kept ↦ inl (gone ∙ kept) | inr moved ↦ inr (gone ∙ moved) ]
persisted_contents moment left_since contents may_leave created_at written may_sync may_rename
    may_remove syncs renames removes temp path apart old new (Ok file)
    (Err error, between, (synced, middle, is_synced, after), (gone, told)) = absurd told

-- after a sync, renaming changes nothing at other paths
renamed_elsewhere : {S F : Type 0} (moment : S → ℕ) (left_since : LeftSince S)
    (contents : Contents S) (may_leave : S → List ℕ → Option (List ℕ) → Type 0)
    (created_at written : F → List ℕ) (may_sync : SyncRelation S F) (may_rename : RenameRelation S)
    → SyncsWhole moment left_since contents may_leave created_at written may_sync
    → RenamesAtOnce moment left_since contents may_leave may_rename
    → (file : F) (from to other : List ℕ) → other ≢ from → other ≢ to
    → (old middle new : S) (synced outcome : Result (Unit {0}) Error)
    → may_sync old file synced middle
    → MatchResult synced (λ done. may_rename middle from to outcome new)
    (λ error. (outcome ≡ Err error) × (new ≡ middle))
    → Untouched moment left_since contents old new other
renamed_elsewhere moment left_since contents may_leave created_at written may_sync may_rename syncs
    renames file from to other not_from not_to old middle new (Ok done) outcome is_synced renamed =
    untouched_twice moment left_since contents old middle new other
    ((syncs old middle file (Ok done) is_synced).0 other)
    ((renames middle new from to outcome renamed).2 other not_from not_to)
renamed_elsewhere moment left_since contents may_leave created_at written may_sync may_rename syncs
    renames file from to other not_from not_to old middle new (Err error) outcome is_synced (is, same) =
    let P : _ → Type 0 = λ s. Untouched moment left_since contents old s other in
    subst P (sym same) ((syncs old middle file (Err error) is_synced).0 other)

-- persisting a file changes nothing at other paths
pub persisted_elsewhere : {S F : Type 0} (moment : S → ℕ) (left_since : LeftSince S)
    (contents : Contents S) (may_leave : S → List ℕ → Option (List ℕ) → Type 0)
    (created_at written : F → List ℕ) (may_sync : SyncRelation S F) (may_rename : RenameRelation S)
    (may_remove : RemoveRelation S)
    → SyncsWhole moment left_since contents may_leave created_at written may_sync
    → RenamesAtOnce moment left_since contents may_leave may_rename
    → RemovesElsewhere moment left_since contents may_remove
    → (temp : NamedTempFile F) (path other : List ℕ) → other ≢ path
    → other ≢ string_bytes temp.path → (old new : S) (result : Result F PathError)
    → PersistsFile may_sync may_rename may_remove temp path old result new
    → Untouched moment left_since contents old new other
persisted_elsewhere moment left_since contents may_leave created_at written may_sync may_rename
    may_remove syncs renames removes temp path other not_path not_temp old new result
    (outcome, between, (synced, middle, is_synced, after), returned) =
    untouched_twice moment left_since contents old between new other
    (renamed_elsewhere moment left_since contents may_leave created_at written may_sync may_rename syncs
    renames temp.file (string_bytes temp.path) path other not_temp not_path old middle between synced
    outcome is_synced after)
    (returned_or_removed moment left_since contents may_remove removes temp path other not_temp outcome
    between new result returned)

-- the bytes written and the rest are all bytes, after one more piece
pub adds_next : (old piece new rest all : List ℕ) (result : Result ℕ Error) (count : ℕ)
    → result ≡ Ok count → AddsWritten old piece result new → rest ≡ drop count piece
    → old ++ piece ≡ all → new ++ rest ≡ all
adds_next old piece new rest all result count is added is_rest before =
    let P : Result ℕ Error → Type 0 = λ r. AddsWritten old piece r new in
    let appended : new ≡ old ++ take count piece = subst P is added in
    rw (appended, is_rest) (rw append_assoc (rw (take-append-drop count piece) before))

-- a crash since the start leaves what one before it might have left, or these bytes
pub leaves_old_or : {S : Type 0} (moment : S → ℕ) (left_since : LeftSince S)
    (may_leave : S → List ℕ → Option (List ℕ) → Type 0)
    → ((files : S) (path : List ℕ) (left : Option (List ℕ)) → left_since files (moment files) path left
    → may_leave files path left)
    → (old new : S) (path bytes : List ℕ)
    → Changes moment left_since old new path (λ left. left ≡ Some bytes)
    → LeavesOldOr moment left_since (may_leave old path) old new path bytes
leaves_old_or moment left_since may_leave only_now old new path bytes changes = λ left at_end.
    let now : moment old ≤ moment old = omega arith in
    elim (changes.each (moment old) left now at_end) [
      | inl start ↦ inl (only_now old path left start)
      | inr whole ↦ inr whole
    ]

-- an error, after which the file has not changed
pub kept_after_error : (path : List ℕ) (error : Error) (result : Result (Unit {0}) PathError)
    (old written new : Option (List ℕ)) → AddsPath path (Err error) result → new ≡ old
    → ReplacesFile old written result new
kept_after_error path error (Err fault) old written new adds same = inl same
kept_after_error path error (Ok done) old written new adds same = absurd adds
