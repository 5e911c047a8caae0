-- The laws of `CrashSafe` for a file system in memory.
-- Cited by contracts of public items: moment_of, left_since, contents, may_leave, created_at,
-- written_to, only_now, creates, writes, syncs, renames, removes.
use Rattle.std.specs.Prelude.{◌≡◌, ◌≢◌, ◌⊎◌, ℕ, Bool, true, false, cond, List, [], ◌∷◌, Option, Some, None, Result, Ok, Err, OnOk, IfOk, MatchResult, length, string_bytes, refl}
use Rattle.std.proofs.Common.{sym, ◌∙◌, ap, subst, inl, inr}
use Rattle.std.proofs.Math.Nat.{le_refl, le_trans, le-suc, not-suc-le_self}
use Rattle.std.proofs.lemmas.Bool.{true≢false}
use Rattle.std.proofs.lemmas.Option.{none-some}
use Rattle.std.proofs.lemmas.Slice.Eq.{bytes_eq-Decides}
use Rattle.std.specs.declared.io.Error.{Error}
use Rattle.jj_temp_files.specs.Crashes.{Changes, Unchanged, Untouched, AddsWritten, IsWholeOrAbsent}
use Rattle.jj_temp_files_tests.specs.declared.memory_disk.Edit.{Edit}
use Rattle.jj_temp_files_tests.specs.declared.memory_disk.MemoryDisk.{MemoryDisk}
use Rattle.jj_temp_files_tests.specs.declared.memory_disk.MemoryFile.{MemoryFile}
use Rattle.jj_temp_files_tests.specs.Disk.{is_at, file_after, contents_of, is_synced_at, Leaves, LeftNow, LeftAfter, Adds, HaveSameEdits, Copies, MayCreate, MayWrite, MaySync, MayRename, MayRemove}

abbrev pub moment_of : MemoryDisk → ℕ
moment_of disk = length disk.edits.items

abbrev pub left_since : MemoryDisk → ℕ → List ℕ → Option (List ℕ) → Type 0
left_since disk since path left = LeftAfter disk.edits.items since path left

abbrev pub contents : MemoryDisk → List ℕ → Option (List ℕ)
contents disk path = contents_of disk.edits.items path

abbrev pub may_leave : MemoryDisk → List ℕ → Option (List ℕ) → Type 0
may_leave disk path left = LeftNow disk.edits.items path left

abbrev pub created_at : MemoryFile → List ℕ
created_at file = string_bytes file.path

abbrev pub written_to : MemoryFile → List ℕ
written_to file = file.written.items

false_unless : (b : Bool) → (b ≡ true → ⊥) → b ≡ false
false_unless true never = absurd (never refl)
false_unless false never = refl

-- an edit at a path is one of it, and of no other
is_one : (path : List ℕ) (edit : Edit) → string_bytes edit.path ≡ path → is_at path edit ≡ true
is_one path edit at = (bytes_eq-Decides (string_bytes edit.path) path).1 at

is_none_of : (path other : List ℕ) (edit : Edit) → string_bytes edit.path ≡ path → other ≢ path
    → is_at other edit ≡ false
is_none_of path other edit at apart = false_unless (is_at other edit)
    (λ is. apart (sym ((bytes_eq-Decides (string_bytes edit.path) other).0 is) ∙ at))

-- the file that an edit adds, and the others
added_file : (old new : List Edit) (path : List ℕ) (file : Option (List ℕ)) (synced : Bool)
    → Adds old new path file synced → contents_of new path ≡ file
added_file old new path file synced adds =
    ap (λ edits. contents_of edits path) adds.is
    ∙ ap (λ b. cond b (file_after adds.edit) (contents_of old path)) (is_one path adds.edit adds.at)
    ∙ adds.there

added_sync : (old new : List Edit) (path : List ℕ) (file : Option (List ℕ)) (synced : Bool)
    → Adds old new path file synced → is_synced_at new path ≡ synced
added_sync old new path file synced adds =
    ap (λ edits. is_synced_at edits path) adds.is
    ∙ ap (λ b. cond b adds.edit.is_synced (is_synced_at old path)) (is_one path adds.edit adds.at)
    ∙ adds.is_synced

other_file : (old new : List Edit) (path other : List ℕ) (file : Option (List ℕ)) (synced : Bool)
    → Adds old new path file synced → other ≢ path → contents_of new other ≡ contents_of old other
other_file old new path other file synced adds apart =
    ap (λ edits. contents_of edits other) adds.is
    ∙ ap (λ b. cond b (file_after adds.edit) (contents_of old other))
    (is_none_of path other adds.edit adds.at apart)

other_sync : (old new : List Edit) (path other : List ℕ) (file : Option (List ℕ)) (synced : Bool)
    → Adds old new path file synced → other ≢ path → is_synced_at new other ≡ is_synced_at old other
other_sync old new path other file synced adds apart =
    ap (λ edits. is_synced_at edits other) adds.is
    ∙ ap (λ b. cond b adds.edit.is_synced (is_synced_at old other))
    (is_none_of path other adds.edit adds.at apart)

-- an outcome after these edits is one since any moment
now_after : (edits : List Edit) (since : ℕ) (path : List ℕ) (left : Option (List ℕ))
    → LeftNow edits path left → LeftAfter edits since path left
now_after [] since path left now = now
now_after (edit ∷ older) since path left now = inl now

-- the outcomes of one more edit
pub one_changes : (old : List Edit) (edit : Edit) (other : List ℕ)
    (leaves : Option (List ℕ) → Type 0)
    → ((left : Option (List ℕ)) → LeftNow (edit ∷ old) other left
    → LeftNow old other left ⊎ leaves left)
    → Changes length LeftAfter old (edit ∷ old) other leaves
one_changes old edit other leaves more = record {
  later = le-suc (length old);
  each = λ since left bound at_end. elim at_end [
    | inl now ↦ elim (more left now) [
      | inl was ↦ inl (now_after old since other left was)
      | inr one ↦ inr one
    ]
    | inr older ↦ inl older.1
  ];
}

added_changes : (old new : List Edit) (path other : List ℕ) (file : Option (List ℕ)) (synced : Bool)
    (leaves : Option (List ℕ) → Type 0) → Adds old new path file synced
    → ((left : Option (List ℕ)) → LeftNow new other left → LeftNow old other left ⊎ leaves left)
    → Changes length LeftAfter old new other leaves
added_changes old new path other file synced leaves adds more =
    let P : List Edit → Type 0 = λ edits. ((left : Option (List ℕ)) → LeftNow edits other left
    → LeftNow old other left ⊎ leaves left) → Changes length LeftAfter old edits other leaves in
    subst P (sym adds.is) (one_changes old adds.edit other leaves) more

-- an edit changes nothing at other paths
elsewhere : (old new : List Edit) (path other : List ℕ) (file : Option (List ℕ)) (synced : Bool)
    → Adds old new path file synced → other ≢ path
    → Untouched length LeftAfter contents_of old new other
elsewhere old new path other file synced adds apart = record {
  crash = added_changes old new path other file synced (λ left. ⊥) adds (λ left now.
      let P : Bool → Type 0 = λ b. Leaves (contents_of new other) b left in
      let Q : Option (List ℕ) → Type 0 = λ o. Leaves o (is_synced_at old other) left in
      inl (subst Q (other_file old new path other file synced adds apart)
      (subst P (other_sync old new path other file synced adds apart) now)));
  now = other_file old new path other file synced adds apart;
}

-- of file systems, as of their edits
lifted : (old new : MemoryDisk) (other : List ℕ)
    → Untouched length LeftAfter contents_of old.edits.items new.edits.items other
    → Untouched moment_of left_since contents old new other
lifted old new other of_edits = record {
  crash = record { later = of_edits.crash.later; each = of_edits.crash.each };
  now = of_edits.now;
}

twice : (a b c : List Edit) (other : List ℕ) → Untouched length LeftAfter contents_of a b other
    → Untouched length LeftAfter contents_of b c other
    → Untouched length LeftAfter contents_of a c other
twice a b c other first second = record {
  crash = record {
    later = le_trans first.crash.later second.crash.later;
    each = λ since left bound at_end.
        elim (second.crash.each since left (le_trans bound first.crash.later) at_end) [
          | inl between ↦ first.crash.each since left bound between
          | inr none ↦ absurd none
        ];
  };
  now = second.now ∙ first.now;
}

same : (old new : MemoryDisk) (other : List ℕ) → HaveSameEdits old new
    → Untouched moment_of left_since contents old new other
same old new other edits =
    let P : List Edit → Type 0 =
    λ e. Untouched length LeftAfter contents_of old.edits.items e other in
    let kept : P old.edits.items = record {
      crash = record {
        later = le_refl (length old.edits.items);
        each = λ since left bound at_end. inl at_end;
      };
      now = refl;
    } in
    lifted old new other (subst P (sym edits) kept)

-- since this moment there is no other
now_only : (edits : List Edit) (path : List ℕ) (left : Option (List ℕ))
    → LeftAfter edits (length edits) path left → LeftNow edits path left
now_only [] path left at_end = at_end
now_only (edit ∷ older) path left (inl now) = now
now_only (edit ∷ older) path left (inr older_one) =
    absurd (not-suc-le_self (length older) older_one.0)

pub only_now : (disk : MemoryDisk) (path : List ℕ) (left : Option (List ℕ))
    → left_since disk (moment_of disk) path left → may_leave disk path left
only_now disk path left at_end = now_only disk.edits.items path left at_end

pub creates : (old new : MemoryDisk) (path : List ℕ) (created : Result MemoryFile Error)
    → MayCreate old path created new
    → IfOk created (λ file. (created_at file ≡ path) × (written_to file ≡ [])
    × (contents new path ≡ Some []))
    × ((other : List ℕ) → other ≢ path → Untouched moment_of left_since contents old new other)
creates old new path (Ok file) (at, empty, adds) = (
  (at, empty, added_file old.edits.items new.edits.items path (Some []) false adds),
  λ other apart. lifted old new other
      (elsewhere old.edits.items new.edits.items path other (Some []) false adds apart),
)
creates old new path (Err error) edits = (tt, λ other apart. same old new other edits)

pub writes : (old new : MemoryDisk) (file next : MemoryFile) (piece : List ℕ)
    (result : Result ℕ Error)
    → MayWrite old file piece result new next
    → (created_at next ≡ created_at file)
    × AddsWritten (written_to file) piece result (written_to next)
    × (contents old (created_at file) ≡ Some (written_to file)
    → OnOk result (contents new (created_at file) ≡ Some (written_to next)))
    × ((other : List ℕ) → other ≢ created_at file
    → Untouched moment_of left_since contents old new other)
writes old new file next piece (Ok count) (at, (appended, adds)) = (
  at,
  appended,
  λ before. added_file old.edits.items new.edits.items (created_at file)
      (Some (written_to next)) false adds,
  λ other apart. lifted old new other
      (elsewhere old.edits.items new.edits.items (created_at file) other (Some (written_to next))
      false adds apart),
)
writes old new file next piece (Err error) (at, edits) =
    (at, tt, λ before. tt, λ other apart. same old new other edits)

-- a synced file leaves what it might have left before
synced_before : (bytes : List ℕ) (synced : Bool) (left : Option (List ℕ)) → left ≡ Some bytes
    → Leaves (Some bytes) synced left
synced_before bytes true left is = is
synced_before bytes false left is = λ none. none-some bytes (sym none ∙ is)

-- a synced file changes nothing at its path
synced_there : (old new : List Edit) (path bytes : List ℕ) → contents_of old path ≡ Some bytes
    → Adds old new path (Some bytes) true → Untouched length LeftAfter contents_of old new path
synced_there old new path bytes before adds = record {
  crash = added_changes old new path path (Some bytes) true (λ left. ⊥) adds (λ left now.
      let P : Bool → Type 0 = λ b. Leaves (contents_of new path) b left in
      let Q : Option (List ℕ) → Type 0 = λ o. Leaves o true left in
      let R : Option (List ℕ) → Type 0 = λ o. Leaves o (is_synced_at old path) left in
      let is : left ≡ Some bytes = subst Q (added_file old new path (Some bytes) true adds)
      (subst P (added_sync old new path (Some bytes) true adds) now) in
      inl (subst R (sym before) (synced_before bytes (is_synced_at old path) left is)));
  now = added_file old new path (Some bytes) true adds ∙ sym before;
}

synced_at_test : (old new : List Edit) (path bytes : List ℕ) → contents_of old path ≡ Some bytes
    → (adds : Adds old new path (Some bytes) true) → (other : List ℕ) (b : Bool)
    → is_at other adds.edit ≡ b → Untouched length LeftAfter contents_of old new other
synced_at_test old new path bytes before adds other false is_other =
    elsewhere old new path other (Some bytes) true adds
    (λ equal. true≢false (sym (is_one other adds.edit (adds.at ∙ sym equal)) ∙ is_other))
synced_at_test old new path bytes before adds other true is_it =
    let equal : path ≡ other =
    sym adds.at ∙ (bytes_eq-Decides (string_bytes adds.edit.path) other).0 is_it in
    let P : List ℕ → Type 0 = λ p. Untouched length LeftAfter contents_of old new p in
    subst P equal (synced_there old new path bytes before adds)

pub syncs : (old new : MemoryDisk) (file : MemoryFile) (result : Result (Unit {0}) Error)
    → MaySync old file result new
    → ((other : List ℕ) → Untouched moment_of left_since contents old new other)
    × OnOk result ((left : Option (List ℕ)) → may_leave new (created_at file) left
    → IsWholeOrAbsent (written_to file) left)
syncs old new file (Ok done) (before, adds) = (
  λ other. lifted old new other
      (synced_at_test old.edits.items new.edits.items (created_at file) (written_to file) before
      adds
      other
      (is_at other adds.edit) refl),
  λ left now.
      let P : Bool → Type 0 = λ b. Leaves (contents new (created_at file)) b left in
      let Q : Option (List ℕ) → Type 0 = λ o. Leaves o true left in
      inr (subst Q (added_file old.edits.items new.edits.items (created_at file)
      (Some (written_to file)) true adds)
      (subst P (added_sync old.edits.items new.edits.items (created_at file)
      (Some (written_to file)) true adds) now)),
)
syncs old new file (Err error) edits = (λ other. same old new other edits, tt)

-- a file that is there leaves one
leaves_some : (bytes : List ℕ) (synced : Bool) (left : Option (List ℕ))
    → Leaves (Some bytes) synced left
    → left ≢ None
leaves_some bytes true left is none = none-some bytes (sym none ∙ is)
leaves_some bytes false left some none = some none

copied_changes : (old new : List Edit) (from to : List ℕ) → Copies old from to new
    → Changes length LeftAfter old new to (λ left. (left ≢ None) × LeftNow old from left)
copied_changes old new from to copies =
    added_changes old new to to (Some copies.bytes) (is_synced_at old from)
    (λ left. (left ≢ None) × LeftNow old from left) copies.added (λ left now.
    let P : Bool → Type 0 = λ b. Leaves (contents_of new to) b left in
    let Q : Option (List ℕ) → Type 0 = λ o. Leaves o (is_synced_at old from) left in
    let leaves : Leaves (Some copies.bytes) (is_synced_at old from) left =
    subst Q (added_file old new to (Some copies.bytes) (is_synced_at old from) copies.added)
    (subst P (added_sync old new to (Some copies.bytes) (is_synced_at old from) copies.added)
    now) in
    inr (
      leaves_some copies.bytes (is_synced_at old from) left leaves,
      subst Q (sym copies.there) leaves,
    ))

copied_file : (old new : List Edit) (from to : List ℕ) → Copies old from to new
    → contents_of new to ≡ contents_of old from
copied_file old new from to copies =
    added_file old new to (Some copies.bytes) (is_synced_at old from) copies.added
    ∙ sym copies.there

-- the outcomes of a crash after a copy and a step that leaves nothing else
then_untouched : (a b c : List Edit) (to : List ℕ) (P : Option (List ℕ) → Type 0)
    → Changes length LeftAfter a b to P → Untouched length LeftAfter contents_of b c to
    → Changes length LeftAfter a c to P
then_untouched a b c to P first second = record {
  later = le_trans first.later second.crash.later;
  each = λ since left bound at_end.
      elim (second.crash.each since left (le_trans bound first.later) at_end) [
        | inl between ↦ first.each since left bound between
        | inr none ↦ absurd none
      ];
}

of_disks : (old new : MemoryDisk) (to : List ℕ) (P : Option (List ℕ) → Type 0)
    → Changes length LeftAfter old.edits.items new.edits.items to P
    → Changes moment_of left_since old new to P
of_disks old new to P changes = record { later = changes.later; each = changes.each }

unchanged_or : (old new : MemoryDisk) (to : List ℕ) (P : Option (List ℕ) → Type 0)
    → Unchanged moment_of left_since old new to → Changes moment_of left_since old new to P
unchanged_or old new to P unchanged = record {
  later = unchanged.later;
  each = λ since left bound at_end. elim (unchanged.each since left bound at_end) [
    | inl was ↦ inl was
    | inr none ↦ absurd none
  ];
}

pub renames : (old new : MemoryDisk) (from to : List ℕ) (result : Result (Unit {0}) Error)
    → MayRename old from to result new
    → Changes moment_of left_since old new to (λ left. (left ≢ None) × may_leave old from left)
    × MatchResult result (λ done. contents new to ≡ contents old from)
    (λ error. (contents new to ≡ contents old to) ⊎ (contents new to ≡ contents old from))
    × ((other : List ℕ) → other ≢ from → other ≢ to
    → Untouched moment_of left_since contents old new other)
renames old new from to (Ok done) moves =
    let gone : Untouched length LeftAfter contents_of moves.middle new.edits.items to =
    elsewhere moves.middle new.edits.items from to None true moves.removed
    (λ equal. moves.apart (sym equal)) in (
      of_disks old new to (λ left. (left ≢ None) × may_leave old from left)
          (then_untouched old.edits.items moves.middle new.edits.items to
          (λ left. (left ≢ None) × LeftNow old.edits.items from left)
          (copied_changes old.edits.items moves.middle from to moves.copied) gone),
      gone.now ∙ copied_file old.edits.items moves.middle from to moves.copied,
      λ other not_from not_to. lifted old new other
          (twice old.edits.items moves.middle new.edits.items other
          (elsewhere old.edits.items moves.middle to other (Some moves.copied.bytes)
          (is_synced_at old.edits.items from) moves.copied.added not_to)
          (elsewhere moves.middle new.edits.items from other None true moves.removed not_from)),
    )
renames old new from to (Err error) (inl edits) = (
  unchanged_or old new to (λ left. (left ≢ None) × may_leave old from left)
      (same old new to edits).crash,
  inl (same old new to edits).now,
  λ other not_from not_to. same old new other edits,
)
renames old new from to (Err error) (inr copies) = (
  of_disks old new to (λ left. (left ≢ None) × may_leave old from left)
      (copied_changes old.edits.items new.edits.items from to copies),
  inr (copied_file old.edits.items new.edits.items from to copies),
  λ other not_from not_to. lifted old new other
      (elsewhere old.edits.items new.edits.items to other (Some copies.bytes)
      (is_synced_at old.edits.items from) copies.added not_to),
)

pub removes : (old new : MemoryDisk) (path : List ℕ) (result : Result (Unit {0}) Error)
    → MayRemove old path result new → (other : List ℕ) → other ≢ path
    → Untouched moment_of left_since contents old new other
removes old new path (Ok done) adds other apart =
    lifted old new other (elsewhere old.edits.items new.edits.items path other None true adds apart)
removes old new path (Err error) edits other apart = same old new other edits
