-- One more list of results, joined and beside its set.
use Rattle.std.proofs.Common.{◌≡◌, ◌∙◌, ℕ, zero, suc, ◌+◌, ◌-◌, List, [], ◌∷◌, ◌++◌, length, take, Some, refl, sym, ap, subst, arith}
use Rattle.std.specs.Prelude.{Result, Ok, Err, MatchResult, slice_get}
use Rattle.std.specs.List.{AllZip, zip}
use Rattle.std.proofs.lemmas.List.{append-nil, length-append, take_all}
use Rattle.std.proofs.lemmas.List.Concat.{flat_map-append}
use Rattle.jj_core_c.specs.declared.error.Error.{Error}
use Rattle.jj_core_c.specs.declared.error.Error.TheVariants.{Memory, Ends, Length, Syntax, Terms, Conflict, Node, Cycle, Path, Expression, NoMatch, Ambiguous}
use Rattle.jj_core_c.specs.ArrayGraphs.{AreAscendingHeads, AreBelow, IsAcyclicGraph, WritesFound, graph_of}
use Rattle.jj_core_c.specs.Buffers.{Writes}
use Rattle.jj_core_c.specs.GraphBatches.{AreHeadsOfEach, AreSets, FailsBoth, IsBatchCause, IsRoomCause, WritesJoined, WritesLists, ends_of, joined}
use Rattle.jj_core_c.specs.Pieces.{pieces_of}
use Rattle.jj_core_c.specs.Statuses.{Accepts}
use Rattle.jj_core_c.proofs.Flags.{AllZip-next}
use Rattle.jj_core_c.proofs.PieceLists.{take_next}

pub joined_next : (found : List (List ℕ)) (list : List ℕ) → joined (found ++ list ∷ []) ≡ joined found ++ list
joined_next found list = flat_map-append (λ (l : List ℕ). l) found (list ∷ []) ∙ ap (λ l. joined found ++ l) (append-nil list)

ends_from_next : (start : ℕ) (found : List (List ℕ)) (list : List ℕ) → ends_of start (found ++ list ∷ []) ≡ ends_of start found ++ (start + length (joined found ++ list)) ∷ []
ends_from_next start [] list = refl
ends_from_next start (one ∷ found) list =
    let len : start + length one + length (joined found ++ list) ≡ start + length (joined (one ∷ found) ++ list) = let a = length-append one (joined found) in let b = length-append (one ++ joined found) list in let d = length-append (joined found) list in omega (arith, a, b, d) in
    ap (λ l. (start + length one) ∷ l) (ends_from_next (start + length one) found list ∙ ap (λ (n : ℕ). ends_of (start + length one) found ++ n ∷ []) len)

pub ends_next : (found : List (List ℕ)) (list : List ℕ) → ends_of 0 (found ++ list ∷ []) ≡ ends_of 0 found ++ length (joined found ++ list) ∷ []
ends_next found list =
    let len : 0 + length (joined found ++ list) ≡ length (joined found ++ list) = omega arith in
    ends_from_next 0 found list ∙ ap (λ (n : ℕ). ends_of 0 found ++ n ∷ []) len

pub length_ends : (start : ℕ) (found : List (List ℕ)) → length (ends_of start found) ≡ length found
length_ends start [] = refl
length_ends start (list ∷ found) = ap suc (length_ends (start + length list) found)

-- the result for the list at the index is appended
pub found_next : {A B : Type 0} (R : A → B → Type 0) (xs : List A) (found : List B) (i : ℕ) (x : A) (y : B) → slice_get xs i ≡ Some x → R x y
    → AllZip R (take i xs) found → AllZip R (take (i + 1) xs) (found ++ y ∷ [])
found_next R xs found i x y at here before = subst (λ l. AllZip R l (found ++ y ∷ [])) (sym (take_next xs i x at)) (AllZip-next R (take i xs) found x y before here)

pub zip_at : {A B : Type 0} (xs : List A) (ys : List B) (i : ℕ) (x : A) (y : B) → slice_get xs i ≡ Some x → slice_get ys i ≡ Some y → slice_get (zip xs ys) i ≡ Some (x, y)
zip_at [] ys i x y at1 at2 = absurd cc
zip_at (a ∷ xs) [] i x y at1 at2 = absurd cc
zip_at (a ∷ xs) (b ∷ ys) zero x y at1 at2 = cc
zip_at (a ∷ xs) (b ∷ ys) (suc i) x y at1 at2 = zip_at xs ys i x y at1 at2

pub length_zip : {A B : Type 0} (xs : List A) (ys : List B) → length xs ≡ length ys → length (zip xs ys) ≡ length xs
length_zip [] ys same = refl
length_zip (x ∷ xs) [] same = absurd (omega (arith, same))
length_zip (x ∷ xs) (y ∷ ys) same = let tail : length xs ≡ length ys = omega (arith, same) in ap suc (length_zip xs ys tail)

-- a call whose results were written, or found no room
module _ (targets ends : List ℕ) (AreDivided AreNodes IsValid : Type 0) (AreResults : List (List ℕ) → Type 0) (found : List (List ℕ)) (old new old_ends new_ends : List ℕ) (room end_room : ℕ)
    (valid : IsValid) (are : AreResults found) where
  cause : (error : Error) → IsRoomCause found room end_room error → IsBatchCause targets ends AreDivided AreNodes AreResults room end_room error
  cause Memory none = absurd none
  cause Ends none = absurd none
  cause Length lacks = (found, are, lacks)
  cause Syntax none = absurd none
  cause Terms none = absurd none
  cause Conflict none = absurd none
  cause Node none = absurd none
  cause Cycle none = absurd none
  cause Path none = absurd none
  cause Expression none = absurd none
  cause NoMatch none = absurd none
  cause Ambiguous none = absurd none

  pub outcome : (result : Result ℕ Error) → MatchResult result (WritesLists found old new old_ends new_ends) (FailsBoth old new old_ends new_ends (IsRoomCause found room end_room))
      → MatchResult result (Accepts IsValid (WritesJoined AreResults old new old_ends new_ends)) (FailsBoth old new old_ends new_ends (IsBatchCause targets ends AreDivided AreNodes AreResults room end_room))
  outcome (Ok n) written = (valid, (found, are, written))
  outcome (Err error) fails = (cause error fails.0, fails.1, fails.2)

whole : (nodes : List ℕ) → pieces_of nodes (length nodes ∷ []) ≡ nodes ∷ []
whole nodes =
    let len : length nodes - 0 ≡ length nodes = omega arith in
    ap (λ (l : List ℕ). l ∷ []) (ap (λ (n : ℕ). take n nodes) len ∙ take_all (length nodes) nodes (omega arith))

one_found : (R : List ℕ → List ℕ → Type 0) (set : List ℕ) (found : List (List ℕ)) → AllZip R (set ∷ []) found → (one : List ℕ) × R set one × (joined found ≡ one)
one_found R set [] all = absurd all
one_found R set (one ∷ []) all = (one, all.0, append-nil one)
one_found R set (one ∷ two ∷ rest) all = absurd all.1

-- the heads of the only set, from a call for many
module _ (targets ends nodes node_ends old new old_ends new_ends : List ℕ) (is : node_ends ≡ length nodes ∷ []) (Cause : Error → Type 0) where
  pub one_set : (result : Result ℕ Error)
      → MatchResult result (Accepts (IsAcyclicGraph targets ends × (AreSets nodes node_ends × AreBelow (length ends) nodes)) (WritesJoined (AreHeadsOfEach (graph_of targets ends) nodes node_ends) old new old_ends new_ends)) (FailsBoth old new old_ends new_ends Cause)
      → MatchResult result (Accepts (IsAcyclicGraph targets ends × AreBelow (length ends) nodes) (WritesFound (AreAscendingHeads (graph_of targets ends) nodes) old new)) (λ _. new ≡ old)
  one_set (Ok n) w =
      let pieces : pieces_of nodes node_ends ≡ nodes ∷ [] = ap (pieces_of nodes) is ∙ whole nodes in
      let one = one_found (AreAscendingHeads (graph_of targets ends)) nodes w.1.0 (subst (λ (l : List (List ℕ)). AllZip (AreAscendingHeads (graph_of targets ends)) l w.1.0) pieces w.1.1) in
      ((w.0.0, w.0.1.1), (one.0, one.1, subst (λ (l : List ℕ). Writes old new l n) one.2 w.1.2.0))
  one_set (Err error) fails = fails.1
