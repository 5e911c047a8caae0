-- Entries whose names ascend, and errors about the others.
use Rattle.std.proofs.Common.{◌≡◌, ℕ, ◌≤◌, true, false, ◌&&◌, List, [], ◌∷◌, ◌++◌, length, drop, refl, sym, ap, subst, ◌∙◌, arith}
use mathlib.Core.Bool.{false≢true}
use Rattle.std.specs.FinMap.{is_sorted}
use Rattle.std.specs.FinMap.Entries.{below_all}
use Rattle.std.specs.Ordering.{is_lt}
use Rattle.std.specs.Str.{bytes_eq}
use Rattle.std.specs.Cmp.Lexicographic.{same_text}
use Rattle.std.proofs.lemmas.Bool.{and_parts}
use Rattle.jj_content.specs.Content.{AreValues, string_content}
use Rattle.jj_content.specs.PrefixFreeProofs.{on_lawful, both_lawful, list_lawful}
use Rattle.jj_decode.specs.declared.error.DecodeError.{DecodeError}
use Rattle.jj_decode.specs.Contents.{IsContentOf, BothContents, ListContents}
use Rattle.jj_decode.specs.ContentsProofs.{both_contents, list_contents}
use Rattle.jj_decode.specs.Decoding.{IsContentAt, NoContentAt, IsMalformedAt}
use Rattle.jj_decode.proofs.ContentAt.{error_narrow}
use Rattle.jj_paths.specs.Contents.{IsShortName, name_lawful}
use Rattle.jj_paths.specs.Paths.{Name, name_cmp}
use Rattle.jj_backend.specs.Trees.{Entries}
use Rattle.jj_backend.specs.TreeLaws.{entry_eq, tree_eq, IsEntry, tree_content}
use Rattle.jj_backend.specs.TreeValueLaws.{tree_value_lawful}
use Rattle.jj_backend.specs.declared.backend.tree_value.TreeValue.{TreeValue}
use Rattle.jj_decode.specs.PathContents.{name_contents}
use Rattle.jj_decode.specs.TreeContents.{TreeValueContents, tree_value_contents, TreeContents}

abbrev pub EntryContents : List ℕ → Type 0
EntryContents = BothContents (IsContentOf IsShortName string_content) TreeValueContents

pub tree_error : (bytes : List ℕ) (start : ℕ) (e : DecodeError) → IsMalformedAt (ListContents EntryContents) bytes start e → IsMalformedAt TreeContents bytes start e
tree_error bytes start e = error_narrow (ListContents EntryContents) TreeContents (λ b. b) bytes start e
    (λ b q. subst (ListContents EntryContents) (sym q.bytes_are) ((list_contents (both_contents name_contents tree_value_contents)).covers q.value q.valid.1))

-- equal entries have equal names
equal_names : (x y : Name × TreeValue) → entry_eq x y ≡ true → x.0 ≡ y.0
equal_names x y e = same_text x.0 y.0 (sym (and_parts (bytes_eq x.0 y.0) _ e).0)

names_below : (n : Name) (xs ys : Entries) → tree_eq xs ys ≡ true → below_all name_cmp n xs ≡ below_all name_cmp n ys
names_below n [] [] e = refl
names_below n [] (y ∷ ys) e = cc
names_below n (x ∷ xs) [] e = cc
names_below n (x ∷ xs) (y ∷ ys) e =
    let p = and_parts (entry_eq x y) (tree_eq xs ys) e in
    let name = equal_names x y p.0 in
    let rest = names_below n xs ys p.1 in
    λ i. is_lt (name_cmp n (name i)) && rest i

names_ascend : (xs ys : Entries) → tree_eq xs ys ≡ true → is_sorted name_cmp xs ≡ is_sorted name_cmp ys
names_ascend [] [] e = refl
names_ascend [] (y ∷ ys) e = cc
names_ascend (x ∷ xs) [] e = cc
names_ascend (x ∷ xs) (y ∷ ys) e =
    let p = and_parts (entry_eq x y) (tree_eq xs ys) e in
    let below : below_all name_cmp x.0 xs ≡ below_all name_cmp y.0 ys = ap (λ n. below_all name_cmp n xs) (equal_names x y p.0) ∙ names_below y.0 xs ys p.1 in
    let rest = names_ascend xs ys p.1 in
    λ i. below i && rest i

pub none_if_unsorted : (bytes : List ℕ) (start end : ℕ) (entries : Entries) → start ≤ length bytes → IsContentAt (AreValues IsEntry) tree_content bytes start entries end → is_sorted name_cmp entries ≡ false → NoContentAt TreeContents (λ b. b) bytes start start
none_if_unsorted bytes start end entries le s unsorted = record {
  none = λ b rest q h.
      let whole : tree_content entries ++ drop end bytes ≡ tree_content q.value ++ rest = sym s.split ∙ h ∙ ap (λ (z : List ℕ). z ++ rest) q.bytes_are in
      let laws = list_lawful (both_lawful (on_lawful (λ (e : Name × TreeValue). e.0) name_lawful) (on_lawful (λ (e : Name × TreeValue). e.1) tree_value_lawful)) in
      let equal : tree_eq entries q.value ≡ true = laws.decides entries q.value (drop end bytes) rest s.valid q.valid.1 whole in
      let unordered : is_sorted name_cmp q.value ≡ false = sym (names_ascend entries q.value equal) ∙ unsorted in
      false≢true (sym unordered ∙ q.valid.0);
  from = omega arith;
  within = le;
}
