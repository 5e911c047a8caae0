-- Members of lists of ids, and tests whether ids are equal.
use Rattle.std.proofs.Common.{◌≡◌, ◌∙◌, ℕ, Bool, true, List, Some, sym}
use Rattle.std.specs.Prelude.{◌↔◌, Contains}
use Rattle.std.specs.List.{slice_get}
use Rattle.std.specs.Str.{bytes_eq}
use Rattle.std.proofs.lemmas.Option.{get_or_from_slice_get, slice_get_within}
use Rattle.std.proofs.lemmas.Slice.Eq.{bytes_eq-Decides}

pub equality : (r : Bool) (a b : List ℕ) → r ≡ bytes_eq a b → (r ≡ true) ↔ (a ≡ b)
equality r a b is = (λ same. (bytes_eq-Decides a b).0 (sym is ∙ same), λ same. is ∙ (bytes_eq-Decides a b).1 same)

-- the first id of a list is one of it
pub first_is_member : (ids : List (List ℕ)) (id : List ℕ) → Some id ≡ slice_get ids 0 → Contains ids id
first_is_member ids id first = (0, slice_get_within ids 0 id (sym first), get_or_from_slice_get ids 0 id id (sym first))
