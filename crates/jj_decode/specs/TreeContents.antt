-- The contents of trees and of the values of their entries.
-- Cited by contracts of public items: TreeContents, TreeErrors, TreeValueContents, tree_contents,
-- tree_value_contents, tree_value_errors.
use Rattle.std.proofs.Common.{◌≡◌, ℕ, zero, suc, List, ◌++◌, Bool, false, ◌⊎◌, refl, arith}
use Rattle.std.specs.Prelude.{⊤}
use Rattle.std.specs.FinMap.{is_sorted}
use Rattle.jj_content.specs.Content.{AreValues, bool_content}
use Rattle.jj_decode.specs.Contents.{AreContents, IsContentOf, BothContents, VariantContents}
use Rattle.jj_decode.specs.ContentsProofs.{contents_of, both_contents, bool_contents, variant_contents}
use Rattle.jj_decode.specs.NonemptyProofs.{list_nonempty}
use Rattle.jj_backend.specs.Contents.{AreBytes, bytes_content}
use Rattle.jj_backend.specs.TreeLaws.{IsEntry, entry_content, IsTree, tree_content, tree_lawful}
use Rattle.jj_backend.specs.Trees.{Entries}
use Rattle.jj_paths.specs.Paths.{name_cmp}
use Rattle.jj_backend.specs.TreeValues.{IsTreeValue, tree_value_content}
use Rattle.jj_backend.specs.declared.backend.tree_value.TreeValue.{TreeValue}
use Rattle.jj_backend.specs.declared.backend.tree_value.TreeValue.TheVariants.{File, Symlink, Tree, GitSubmodule}
use Rattle.jj_decode.specs.declared.error.DecodeError.{DecodeError}
use Rattle.jj_decode.specs.declared.error.DecodeError.TheVariants.{Malformed}
use Rattle.jj_decode.specs.declared.error.Malformation.TheVariants.{UnorderedKeys}
use Rattle.jj_decode.specs.Decoding.{IsContentAt}
use Rattle.jj_decode.specs.Errors.{BoolErrors, BothErrors, BytesErrors, ListErrors}
use Rattle.jj_decode.specs.RecordContents.{BytesContents, bytes_contents}

-- ---- tree values: the variant's number before its fields

-- the contents of files in trees
abbrev pub FileContents : List ℕ → Type 0
FileContents = BothContents BytesContents
    (BothContents (IsContentOf (λ _. ⊤) bool_content) BytesContents)

-- the contents of the fields of a tree value, by the variant's number
abbrev pub FieldsContents : ℕ → List ℕ → Type 0
FieldsContents zero = FileContents
FieldsContents (suc n) = BytesContents

-- the contents of values of tree entries
abbrev pub TreeValueContents : List ℕ → Type 0
TreeValueContents = VariantContents 4 FieldsContents

file_contents : AreContents {X = List ℕ × (Bool × List ℕ)}
    (λ f. AreBytes f.0 × (⊤ × AreBytes f.1.1))
    (λ f. bytes_content f.0 ++ (bool_content f.1.0 ++ bytes_content f.1.1)) FileContents
file_contents = both_contents bytes_contents (both_contents bool_contents bytes_contents)

fields_prefix_free : (n : ℕ) (a b s t : List ℕ) → FieldsContents n a → FieldsContents n b
    → a ++ s ≡ b ++ t → a ≡ b
fields_prefix_free zero = file_contents.prefix_free
fields_prefix_free (suc n) = bytes_contents.prefix_free

values_cover : (value : TreeValue) → IsTreeValue value
    → TreeValueContents (tree_value_content value)
values_cover (File id executable copy) valid = record {
  value = (0, bytes_content id ++ (bool_content executable ++ bytes_content copy));
  valid = (omega arith, file_contents.covers (id, (executable, copy)) valid);
  bytes_are = refl;
}
values_cover (Symlink id) valid = record {
  value = (1, bytes_content id);
  valid = (omega arith, bytes_contents.covers id valid);
  bytes_are = refl;
}
values_cover (Tree id) valid = record {
  value = (2, bytes_content id);
  valid = (omega arith, bytes_contents.covers id valid);
  bytes_are = refl;
}
values_cover (GitSubmodule id) valid = record {
  value = (3, bytes_content id);
  valid = (omega arith, bytes_contents.covers id valid);
  bytes_are = refl;
}

pub tree_value_contents : AreContents IsTreeValue tree_value_content TreeValueContents
tree_value_contents = variant_contents IsTreeValue tree_value_content 4 FieldsContents
    (omega arith) fields_prefix_free values_cover

-- ---- trees

-- the contents of trees
abbrev pub TreeContents : List ℕ → Type 0
TreeContents = IsContentOf IsTree tree_content

pub tree_contents : AreContents IsTree tree_content TreeContents
tree_contents = contents_of tree_lawful
    (λ entries valid. list_nonempty IsEntry entry_content entries valid.1)

-- ---- errors

-- the fields by the number of the variant: those of a file, or an id
abbrev pub tree_value_errors : ℕ → List ℕ → ℕ → DecodeError → Type 0
tree_value_errors zero = BothErrors AreBytes bytes_content BytesErrors
    (BothErrors (λ _. ⊤) bool_content BoolErrors BytesErrors)
tree_value_errors (suc n) = BytesErrors

-- an error of the list of entries, or their names do not ascend
abbrev pub TreeErrors : (List ℕ → ℕ → DecodeError → Type 0) → List ℕ → ℕ → DecodeError → Type 0
TreeErrors entry bytes start e = ListErrors IsEntry entry_content entry bytes start e
    ⊎ ((entries : Entries) × (end : ℕ)
    × IsContentAt (AreValues IsEntry) tree_content bytes start entries end
    × (is_sorted name_cmp entries ≡ false) × (e ≡ Malformed UnorderedKeys start))
