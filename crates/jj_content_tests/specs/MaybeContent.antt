-- The content of a Maybe: the index of the variant, then the field.
-- Cited by contracts of public items: IsMaybe, maybe_content.
use Rattle.std.specs.Prelude.{ℕ, [], ◌++◌, List, ⊤, FitsSigned}
use Rattle.std.specs.Int.{w32}
use Rattle.jj_content.specs.Content.{u32_content, i32_content}
use Rattle.jj_content_tests.specs.declared.records.Maybe.{Maybe}
use Rattle.jj_content_tests.specs.declared.records.Maybe.TheVariants.{Nothing, Just}

abbrev pub maybe_variant : Maybe → ℕ
maybe_variant Nothing = 0
maybe_variant (Just number) = 1

abbrev pub maybe_fields : Maybe → List ℕ
maybe_fields Nothing = []
maybe_fields (Just number) = i32_content number

abbrev pub maybe_content : Maybe → List ℕ
maybe_content maybe = u32_content (maybe_variant maybe) ++ maybe_fields maybe

abbrev pub IsMaybe : Maybe → Type 0
IsMaybe Nothing = ⊤
IsMaybe (Just number) = FitsSigned w32 number
