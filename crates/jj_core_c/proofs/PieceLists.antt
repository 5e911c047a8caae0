-- Ends that divide a list, and the piece at an index.
use Rattle.std.proofs.Common.{◌≡◌, ℕ, zero, suc, ◌<◌, ◌≤◌, ◌+◌, ◌-◌, List, [], ◌∷◌, length, get_or, take, ◌++◌, map, sym, ◌∙◌, true, false, Bool, ◌&&◌, refl, ap, arith, Some}
use Rattle.std.specs.Prelude.{slice_get, slice_range}
use Rattle.std.specs.List.{flat_map, range_with_len}
use Rattle.std.proofs.lemmas.Bool.{leb-true}
use Rattle.std.proofs.lemmas.List.{append-nil, map-append, take_more}
use Rattle.std.proofs.lemmas.List.Concat.{flat_map-append}
use Rattle.std.proofs.lemmas.Option.{get_or_from_slice_get, slice_get_within}
use Rattle.jj_core_c.specs.Pieces.{are_ends_from, pieces_from, start_of}

pub both : (a b : Bool) → (a && b) ≡ true → (a ≡ true) × (b ≡ true)
both true b h = (refl, h)
both false b h = absurd cc

pub start_tail : (start end : ℕ) (ends : List ℕ) (i : ℕ) → start_of start (end ∷ ends) (suc i) ≡ start_of end ends i
start_tail start end ends zero = refl
start_tail start end ends (suc i) = refl

pub start_is : (ends : List ℕ) (i start : ℕ) → (i ≡ 0 → start ≡ 0) → (0 < i → start ≡ get_or ends (i - 1) 0) → start ≡ start_of 0 ends i
start_is ends zero start first later = first refl
start_is ends (suc i) start first later = let before : suc i - 1 ≡ i = omega arith in later (omega arith) ∙ ap (λ k. get_or ends k 0) before

-- a piece begins at its end or before, and ends within the list
pub piece_in_range : (len start : ℕ) (ends : List ℕ) (i : ℕ) → are_ends_from len start ends ≡ true → i < length ends
    → (start_of start ends i ≤ get_or ends i 0) × (get_or ends i 0 ≤ len)
piece_in_range len start [] i valid below = absurd (omega arith)
piece_in_range len start (end ∷ ends) zero valid below =
    let (here, later) = both _ _ valid in
    let (from, to) = both _ _ here in
    (leb-true start end from, leb-true end len to)
piece_in_range len start (end ∷ ends) (suc i) valid below =
    let k = piece_in_range len end ends i (both _ _ valid).1 (omega arith) in
    rw (start_tail start end ends i) k

-- the piece at an index
pub piece_of : {X : Type 0} (items : List X) (start : ℕ) (ends : List ℕ) (i : ℕ) → i < length ends
    → slice_get (pieces_from items start ends) i ≡ Some (slice_range items (start_of start ends i) (get_or ends i 0))
piece_of items start [] i below = absurd (omega arith)
piece_of items start (end ∷ ends) zero below = refl
piece_of items start (end ∷ ends) (suc i) below = rw (start_tail start end ends i) (piece_of items end ends i (omega arith))

pub length_pieces : {X : Type 0} (items : List X) (start : ℕ) (ends : List ℕ) → length (pieces_from items start ends) ≡ length ends
length_pieces items start [] = refl
length_pieces items start (end ∷ ends) = ap suc (length_pieces items end ends)

-- one item more at the end of a prefix
pub take_next : {X : Type 0} (xs : List X) (i : ℕ) (x : X) → slice_get xs i ≡ Some x → take (i + 1) xs ≡ take i xs ++ x ∷ []
take_next xs i x at = take_more xs i x (slice_get_within xs i x at) ∙ ap (λ y. take i xs ++ y ∷ []) (get_or_from_slice_get xs i x x at)

flat_map_one : {X A : Type 0} (f : X → List A) (x : X) → flat_map f (x ∷ []) ≡ f x
flat_map_one f x = append-nil (f x)

pub flat_map_next : {X A : Type 0} (f : X → List A) (xs : List X) (i : ℕ) (x : X) → slice_get xs i ≡ Some x
    → flat_map f (take (i + 1) xs) ≡ flat_map f (take i xs) ++ f x
flat_map_next f xs i x at = ap (flat_map f) (take_next xs i x at) ∙ flat_map-append f (take i xs) (x ∷ []) ∙ ap (λ l. flat_map f (take i xs) ++ l) (flat_map_one f x)

pub map_next : {X Y : Type 0} (f : X → Y) (found next : List X) (ys : List Y) (i : ℕ) (x : X) → map f found ≡ take i ys → slice_get ys i ≡ Some (f x) → next ≡ found ++ x ∷ []
    → map f next ≡ take (i + 1) ys
map_next f found next ys i x same at is = ap (map f) is ∙ map-append f found (x ∷ []) ∙ ap (λ l. l ++ f x ∷ []) same ∙ sym (take_next ys i (f x) at)

-- one number more at the end of a range
pub range_next : (from n : ℕ) → range_with_len from (suc n) ≡ range_with_len from n ++ (from + n) ∷ []
range_next from zero = let here : from ≡ from + 0 = omega arith in ap (λ (k : ℕ). k ∷ []) here
range_next from (suc n) =
    let last : from + 1 + n ≡ from + suc n = omega arith in
    ap (λ (l : List ℕ). from ∷ l) (range_next (from + 1) n ∙ ap (λ (k : ℕ). range_with_len (from + 1) n ++ k ∷ []) last)
