-- Commands that are read again where they are printed.
use Rattle.std.specs.Prelude.{◌≢◌, ℕ, ◌<◌, ◌^◌, List, [], ◌∷◌, length, IfSome}
use Rattle.jj_fast_import.specs.Values.{BlobValue}

-- no byte of the string is this one
abbrev pub HasNone : ℕ → List ℕ → Type 0
HasNone byte [] = Unit {0}
HasNone byte (b ∷ bs) = (b ≢ byte) × HasNone byte bs

-- the object ID has no line feed, and numbers have 64 bits
pub record IsPrintableBlob (blob : BlobValue) : Type 0 where
  pub mark : IfSome blob.mark (λ m. m < 2 ^ 64)
  pub original_oid : IfSome blob.original_oid (HasNone 10)
  pub content : length blob.content < 2 ^ 64
