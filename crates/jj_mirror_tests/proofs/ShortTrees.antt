-- The error of a log of one tree of fewer than eight bytes.
use Rattle.std.proofs.Common.{◌≡◌, ℕ, ◌<◌, ◌≤◌, inl, inr, zero, suc, List, [], ◌∷◌, length, drop, Some, sym, ap, subst, slice_get, arith}
use Rattle.std.specs.List.{flat_map}
use Rattle.std.proofs.lemmas.List.{length-append}
use Rattle.jj_content.specs.Content.{u64_content, list_content}
use Rattle.jj_backend.specs.TreeLaws.{IsTree, entry_content, tree_content}
use Rattle.jj_backend.specs.Trees.{Entries}
use Rattle.jj_decode.specs.Errors.{WholeErrors}
use Rattle.jj_decode.specs.TreeContents.{TreeErrors}
use Rattle.jj_decode.specs.declared.error.DecodeError.{DecodeError}
use Rattle.jj_decode.specs.declared.error.DecodeError.TheVariants as decode
use Rattle.jj_decode.specs.declared.error.Malformation.TheVariants.{Truncated}
use Rattle.jj_decode.proofs.IntegerBytes.{u64_length}
use Rattle.jj_mirror.specs.Entries.{LogEntryValue}
use Rattle.jj_mirror.specs.declared.object_log.ObjectKind.TheVariants.{Tree}
use Rattle.jj_mirror.specs.Replays.{IsReplayCause, KindErrors}
use Rattle.jj_mirror.specs.declared.error.ReplayError.{ReplayError}
use Rattle.jj_mirror.specs.declared.error.ReplayError.TheVariants.{Memory, Malformed, WrongObject, Backend}
use Rattle.jj_mirror_tests.specs.Truncations.{IsTruncatedAtStart}

-- the content of a tree begins with a count of eight bytes
tree_length : (entries : Entries) → 8 ≤ length (tree_content entries)
unfolding list_content
tree_length entries = omega (
  arith,
  u64_length (length entries),
  length-append (u64_content (length entries)) (flat_map entry_content entries),
)

pub short_tree : (item : List ℕ → ℕ → DecodeError → Type 0) (bytes : List ℕ) (e : DecodeError) → length bytes < 8 → WholeErrors IsTree tree_content (TreeErrors item) bytes e → e ≡ decode.Malformed Truncated 0
short_tree item bytes e lt (inl (inl (inl (inl (less, is))))) = is
short_tree item bytes e lt (inl (inl (inl (inr (excess, is))))) = is
short_tree item bytes e lt (inl (inl (inr (count, end, counted, rest)))) =
    absurd (omega (arith, ap length counted.is_count.split, u64_length count, length-append (u64_content count) (drop end bytes)))
short_tree item bytes e lt (inl (inr (entries, end, s, unsorted, is))) =
    absurd (omega (arith, ap length s.split, tree_length entries, length-append (tree_content entries) (drop end bytes)))
short_tree item bytes e lt (inr (entries, end, s, less, is)) =
    absurd (omega (arith, ap length s.split, tree_length entries, length-append (tree_content entries) (drop end bytes)))

only_item : (x y : LogEntryValue) (i : ℕ) → slice_get (x ∷ []) i ≡ Some y → x ≡ y
only_item x y zero at = cc
only_item x y (suc i) at = absurd cc

pub short_log : (copy item commit : List ℕ → ℕ → DecodeError → Type 0) (entry : LogEntryValue) (e : ReplayError) → entry.kind ≡ Tree → length entry.bytes < 8
    → IsReplayCause copy (TreeErrors item) commit (entry ∷ []) e → IsTruncatedAtStart e
short_log copy item commit entry Memory is lt cause = tt
short_log copy item commit entry (Malformed kind id reason offset) is lt (index, found, backend, at, replay, names, error) =
    let same = only_item entry found index at in
    let tree = subst (λ kind. KindErrors copy (TreeErrors item) commit kind entry.bytes (decode.Malformed reason offset)) is
    (subst (λ (e : LogEntryValue). KindErrors copy (TreeErrors item) commit e.kind e.bytes (decode.Malformed reason offset)) (sym same) error) in
    let found_is = short_tree item entry.bytes (decode.Malformed reason offset) lt tree in
    (cc, cc)
short_log copy item commit entry (WrongObject kind id) is lt cause = tt
short_log copy item commit entry (Backend error) is lt cause = tt
