-- The contents of merges: those of lists of an odd length.
-- Cited by contracts of public items: MergeContents, merge_contents.
use Rattle.std.proofs.Common.{ℕ, ◌%◌, List, ◌++◌, map, sym, ap, ◌∙◌, arith}
use Rattle.std.proofs.lemmas.List.{length-map}
use Rattle.std.proofs.lemmas.List.Elements.{recursion_from_All, All-from_recursion}
use Rattle.jj_content.specs.Content.{list_content, u64_content}
use Rattle.jj_decode.specs.Contents.{AreContents, IsContentOf}
use Rattle.jj_decode.specs.ContentsProofs.{contents_lawful, contents_of, items_cover, items_map}
use Rattle.jj_decode.specs.NonemptyProofs.{list_nonempty}
use Rattle.jj_merges.specs.Contents.{IsMergeOf, merge_lawful}

-- the contents of merges of terms with these contents
abbrev pub MergeContents : (List ℕ → Type 0) → List ℕ → Type 0
MergeContents is_content = IsContentOf (IsMergeOf is_content) (list_content (λ b. b))

module _ {X : Type 0} {v : X → Type 0} {c : X → List ℕ} {p : List ℕ → Type 0}
    (r : AreContents v c p) where
  merges_cover : (xs : List X) → IsMergeOf v xs → MergeContents p (list_content c xs)
  unfolding list_content
  merges_cover xs valid = record {
    value = map c xs;
    valid = (
      ap (λ (n : ℕ). n % 2) (length-map xs c) ∙ valid.0,
      (
        omega (arith, valid.1.0, length-map xs c),
        All-from_recursion p (map c xs) (items_cover r xs (recursion_from_All v xs valid.1.1)),
      ),
    );
    bytes_are = λ i. u64_content (sym (length-map xs c) i) ++ items_map r xs i;
  }

  pub merge_contents : AreContents (IsMergeOf v) (list_content c) (MergeContents p)
  merge_contents =
      let whole = contents_of (merge_lawful (contents_lawful r))
      (λ xs valid. list_nonempty p (λ b. b) xs valid.1) in
      record { covers = merges_cover; prefix_free = whole.prefix_free; nonempty = whole.nonempty }
