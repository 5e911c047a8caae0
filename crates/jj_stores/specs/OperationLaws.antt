-- Equality of operations, field by field, and that content bytes determine an operation.
-- Cited by contracts of public items: metadata_eq, metadata_lawful, operation_eq, operation_lawful,
-- range_lawful.
use Rattle.std.specs.Prelude.{ℕ, List, Bool, string_bytes}
use Rattle.std.specs.BTreeMap.{BTreeMap}
use Rattle.std.specs.Bool.{beq}
use Rattle.std.specs.Cmp.Lexicographic.{pointwise}
use Rattle.std.specs.Option.{option_eq}
use Rattle.std.specs.Ordering.{eq_of_both, on}
use Rattle.std.specs.Str.{bytes_eq}
use Rattle.std.specs.declared.string.String.{String}
use Rattle.std.specs.declared.vec.Vec.{Vec}
use Rattle.jj_content.specs.Content.{IsLawful}
use Rattle.jj_content.specs.PrefixFreeProofs.{on_lawful, both_lawful, two_then_lawful, list_lawful, option_lawful, narrow_lawful, bool_lawful}
use Rattle.jj_backend.specs.RecordLaws.{bytes_lawful, text_lawful, timestamp_lawful}
use Rattle.jj_backend.specs.Records.{timestamp_eq}
use Rattle.jj_stores.specs.Operations.{IsRange, range_content, AreAttributes, attributes_content, IsMetadata, metadata_content, ArePredecessors, predecessors_content, IsOperation, operation_content}
use Rattle.jj_stores.specs.declared.op_store.operation.Operation.{Operation}
use Rattle.jj_stores.specs.declared.op_store.operation.OperationMetadata.{OperationMetadata}
use Rattle.jj_stores.specs.declared.op_store.operation.TimestampRange.{TimestampRange}

-- ---- time ranges

-- equality of ranges of times: the same start and end
abbrev pub range_eq : TimestampRange → TimestampRange → Bool
range_eq = eq_of_both (on (λ r. r.start) timestamp_eq) (on (λ r. r.end) timestamp_eq)

pub range_lawful : IsLawful IsRange range_eq range_content
range_lawful = both_lawful (on_lawful (λ r. r.start) timestamp_lawful)
    (on_lawful (λ r. r.end) timestamp_lawful)

-- ---- metadata

-- `A` is the allocator of the strings and lists
module _ {A : Type 0} where
  -- equality of strings by their bytes
  abbrev pub text_eq : String A → String A → Bool
  text_eq = on string_bytes bytes_eq

module _ {A : Type 0} where
  -- equality of attributes: the same keys with the same values, in order
  abbrev pub attributes_eq : List (String A × String A) → List (String A × String A) → Bool
  attributes_eq = pointwise (eq_of_both (on (λ e. e.0) text_eq) (on (λ e. e.1) text_eq))

  attributes_lawful : IsLawful AreAttributes attributes_eq attributes_content
  attributes_lawful = narrow_lawful (λ _ value. value.1) (list_lawful (both_lawful
      (on_lawful (λ e. e.0) (on_lawful string_bytes text_lawful))
      (on_lawful (λ e. e.1) (on_lawful string_bytes text_lawful))))

-- equality of the metadata of operations: all fields are equal
abbrev pub metadata_eq : OperationMetadata → OperationMetadata → Bool
metadata_eq =
    eq_of_both (on (λ m. m.time) range_eq)
    (eq_of_both (on (λ m. m.description) text_eq)
    (eq_of_both (on (λ m. m.hostname) text_eq)
    (eq_of_both (on (λ m. m.username) text_eq)
    (eq_of_both (on (λ m. m.is_snapshot) beq)
    (eq_of_both (on (λ m. m.workspace_name) (option_eq bytes_eq))
    (on (λ m. m.attributes.entries) attributes_eq))))))

pub metadata_lawful : IsLawful IsMetadata metadata_eq metadata_content
metadata_lawful =
    two_then_lawful (on_lawful (λ m. m.time) range_lawful)
    (on_lawful (λ m. m.description) (on_lawful string_bytes text_lawful))
    (two_then_lawful (on_lawful (λ m. m.hostname) (on_lawful string_bytes text_lawful))
    (on_lawful (λ m. m.username) (on_lawful string_bytes text_lawful))
    (both_lawful (on_lawful (λ m. m.is_snapshot) bool_lawful)
    (both_lawful (on_lawful (λ m. m.workspace_name) (option_lawful text_lawful))
    (on_lawful (λ m. m.attributes.entries) attributes_lawful))))

-- ---- operations

module _ {A : Type 0} where
  -- equality of maps of predecessors: the same keys with the same lists
  abbrev pub predecessors_eq : BTreeMap (List ℕ) (Vec (List ℕ) A)
      → BTreeMap (List ℕ) (Vec (List ℕ) A) → Bool
  predecessors_eq = on (λ m. m.entries) (pointwise
      (eq_of_both (on (λ e. e.0) bytes_eq) (on (λ e. e.1.items) (pointwise bytes_eq))))

  predecessors_lawful : IsLawful ArePredecessors predecessors_eq predecessors_content
  predecessors_lawful = narrow_lawful (λ _ value. value.1) (on_lawful (λ m. m.entries)
      (list_lawful (both_lawful (on_lawful (λ e. e.0) bytes_lawful)
      (on_lawful (λ e. e.1) (on_lawful (λ ids. ids.items) (list_lawful bytes_lawful))))))

-- equality of operations: all fields are equal
abbrev pub operation_eq : Operation → Operation → Bool
operation_eq =
    eq_of_both (on (λ o. o.view_id) bytes_eq)
    (eq_of_both (on (λ o. o.parents.items) (pointwise bytes_eq))
    (eq_of_both (on (λ o. o.metadata) metadata_eq)
    (on (λ o. o.commit_predecessors) (option_eq predecessors_eq))))

pub operation_lawful : IsLawful IsOperation operation_eq operation_content
operation_lawful =
    two_then_lawful (on_lawful (λ o. o.view_id) bytes_lawful)
    (on_lawful (λ o. o.parents.items) (list_lawful bytes_lawful))
    (both_lawful (on_lawful (λ o. o.metadata) metadata_lawful)
    (on_lawful (λ o. o.commit_predecessors) (option_lawful predecessors_lawful)))
