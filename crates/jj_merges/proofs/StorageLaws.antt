-- The storage invariants of builders and merges.
use Rattle.std.proofs.Common.{◌≡◌, ◌<◌, ◌%◌, [], ◌∷◌, ap, length, arith}
use Rattle.jj_merges.specs.Merge.{IsOdd}
use Rattle.jj_merges.specs.Terms.{items, InlineHasOne, IsOnHeap, IsMergeStorage}
use Rattle.jj_merges.specs.declared.merge.storage.Terms.{Terms}
use Rattle.jj_merges.specs.declared.merge.storage.Terms.TheVariants.{Inline, Heap}

pub is_merge_storage : {T : Type 0} (t : Terms T) → InlineHasOne t → IsOdd (length (items t)) → IsMergeStorage t
is_merge_storage (Inline v) h odd = h
is_merge_storage (Heap v) h odd = odd

-- more than one term is on the heap
pub is_on_heap : {T : Type 0} (t : Terms T) → IsMergeStorage t → 1 < length (items t) → IsOnHeap t
is_on_heap (Inline v) h long = absurd (omega arith)
is_on_heap (Heap v) h long = tt

pub is_merge_storage-heap : {T : Type 0} (t : Terms T) → IsOnHeap t → IsOdd (length (items t)) → IsMergeStorage t
is_merge_storage-heap (Inline v) h odd = absurd h
is_merge_storage-heap (Heap v) h odd = odd

pub inline_has_one : {T : Type 0} (t : Terms T) → IsMergeStorage t → InlineHasOne t
inline_has_one (Inline v) h = h
inline_has_one (Heap v) h = tt

pub is_merge_storage-single : {T : Type 0} (t : Terms T) (x : T) → items t ≡ x ∷ [] → IsMergeStorage t
is_merge_storage-single (Inline v) x e = ap length e
is_merge_storage-single (Heap v) x e = ap (λ xs. length xs % 2) e
