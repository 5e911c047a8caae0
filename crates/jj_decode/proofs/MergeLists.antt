-- Lists of an odd length, and errors about the others.
use Rattle.std.proofs.Common.{◌≡◌, ℕ, ◌<◌, ◌≤◌, ◌^◌, ◌%◌, List, [], ◌∷◌, ◌++◌, length, drop, None, refl, sym, ap, ◌∙◌, append_assoc, arith}
use Rattle.std.specs.Iterator.{Yields}
use Rattle.std.specs.Vec.Iter.{into_iter_items, into_iter_len, into_iter_steps}
use Rattle.std.specs.declared.vec.IntoIter.{IntoIter}
use Rattle.std.specs.List.{flat_map}
use Rattle.jj_content.specs.Content.{u64_content, list_content}
use Rattle.jj_content.specs.PrefixFreeProofs.{u64_prefix_free}
use Rattle.jj_decode.specs.declared.error.DecodeError.{DecodeError}
use Rattle.jj_decode.specs.Contents.{ListContents}
use Rattle.jj_decode.specs.Decoding.{IsContentAt, NoContentAt, IsMalformedAt, AreItems}
use Rattle.jj_decode.proofs.ContentAt.{error_narrow}
use Rattle.jj_decode.proofs.ListItems.{list_decoded}
use Rattle.jj_merges.specs.Contents.{IsMergeOf}
use Rattle.jj_merges.specs.Merge.{IsOdd}
use Rattle.jj_decode.specs.MergeContents.{MergeContents}

pub merge_error : (p : List ℕ → Type 0) (bytes : List ℕ) (start : ℕ) (e : DecodeError) → IsMalformedAt (ListContents p) bytes start e → IsMalformedAt (MergeContents p) bytes start e
merge_error p bytes start e = error_narrow (ListContents p) (MergeContents p) (λ b. b) bytes start e
    (λ b q. record { value = q.value; valid = q.valid.1; bytes_are = q.bytes_are })

pub none_if_even : (p : List ℕ → Type 0) (bytes : List ℕ) (start count mid : ℕ) → start ≤ length bytes → IsContentAt (λ n. n < 2 ^ 64) u64_content bytes start count mid → count % 2 ≡ 0 → NoContentAt (MergeContents p) (λ b. b) bytes start start
unfolding list_content
none_if_even p bytes start count mid le s even = record {
  none = λ b rest q h.
      let items : List ℕ = flat_map (λ (z : List ℕ). z) q.value in
      let h' : u64_content count ++ drop mid bytes ≡ u64_content (length q.value) ++ (items ++ rest) =
      sym s.split ∙ h ∙ ap (λ (z : List ℕ). z ++ rest) q.bytes_are ∙ append_assoc (u64_content (length q.value)) items rest in
      let same : count ≡ length q.value = u64_prefix_free count (length q.value) (drop mid bytes) (items ++ rest) s.valid q.valid.1.0 h' in
      let odd : count % 2 ≡ 1 = ap (λ (n : ℕ). n % 2) same ∙ q.valid.0 in
      omega (arith, even, odd);
  from = omega arith;
  within = le;
}

pub merge_decoded : {X : Type 0} (v : X → Type 0) (c : X → List ℕ) (bytes : List ℕ) (start count mid end : ℕ) (terms : List X) → IsOdd count → IsContentAt (λ n. n < 2 ^ 64) u64_content bytes start count mid
    → IsContentAt (AreItems count v) (flat_map c) bytes mid terms end → IsContentAt (IsMergeOf v) (list_content c) bytes start terms end
merge_decoded v c bytes start count mid end terms odd s t =
    let l = list_decoded v c bytes start count mid s terms end t in
    record { valid = (ap (λ (n : ℕ). n % 2) t.valid.0 ∙ odd, l.valid); split = l.split; within = l.within }

empty : {X : Type 0} (ys : List X) → length ys ≡ 0 → ys ≡ []
empty [] e = refl
empty (y ∷ ys) e = absurd (omega arith)

-- the iterator of a vector, run to its end, yields all items
pub drained : {X Z : Type 0} (xs : List X) (s t u : IntoIter X Z) → Yields into_iter_steps s xs t → into_iter_steps t None u → into_iter_items s ≡ xs
drained [] s t u same end = empty (into_iter_items s) (sym s.rest.ok.0 ∙ ap into_iter_len same ∙ end.0)
drained (x ∷ xs) s t u steps end = steps.1.0 ∙ ap (λ zs. x ∷ zs) (drained xs steps.0 t u steps.2 end)
