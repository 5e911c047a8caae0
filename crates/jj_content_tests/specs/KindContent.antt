-- The content of a Kind: the index of the variant, then the fields.
-- Cited by contracts of public items: IsKind, kind_content.
use Rattle.std.specs.Prelude.{ℕ, ◌<◌, ◌^◌, ◌∷◌, [], ◌++◌, List, ⊤}
use Rattle.jj_content.specs.Content.{u32_content, u64_content, bool_content, list_content, AreValues}
use Rattle.jj_content_tests.specs.declared.records.Kind.{Kind}
use Rattle.jj_content_tests.specs.declared.records.Kind.TheVariants.{File, Symlink, Absent}

abbrev pub kind_variant : Kind → ℕ
kind_variant (File id executable) = 0
kind_variant (Symlink target) = 1
kind_variant Absent = 2

abbrev pub kind_fields : Kind → List ℕ
kind_fields (File id executable) = list_content (λ n. n ∷ []) id.items ++ bool_content executable
kind_fields (Symlink target) = u64_content target
kind_fields Absent = []

abbrev pub kind_content : Kind → List ℕ
kind_content kind = u32_content (kind_variant kind) ++ kind_fields kind

abbrev pub IsKind : Kind → Type 0
IsKind (File id executable) = AreValues (λ n. n < 2 ^ 8) id.items × ⊤
IsKind (Symlink target) = target < 2 ^ 64
IsKind Absent = ⊤
