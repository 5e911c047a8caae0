-- `simplify` of one term and of three.
use Rattle.std.proofs.Common.{◌≡◌, ℕ, true, false, List, [], ◌∷◌, arith, get_or, length, refl, sym}
use Rattle.std.specs.Str.{bytes_eq}
use Rattle.jj_merges.specs.Simplify.{at_indices, simplified_indices}
use Rattle.jj_program.specs.Lines.{Text, texts_of}
use Rattle.jj_program.specs.MergeViews.{text_eq}

abbrev pub simplified : List (List ℕ) → List (List ℕ)
simplified m = at_indices m (simplified_indices bytes_eq m)

pub one_term : (x : List ℕ) → simplified (x ∷ []) ≡ x ∷ []
unfolding simplified_indices
one_term x = refl

pub first_cancels : (x y z : List ℕ) → bytes_eq x y ≡ true → simplified (x ∷ y ∷ z ∷ []) ≡ z ∷ []
unfolding simplified_indices
first_cancels x y z h = rw h refl

pub last_cancels : (x y z : List ℕ) → bytes_eq x y ≡ false → bytes_eq z y ≡ true → simplified (x ∷ y ∷ z ∷ []) ≡ x ∷ []
unfolding simplified_indices
last_cancels x y z h k = rw (h, k) refl

pub none_cancels : (x y z : List ℕ) → bytes_eq x y ≡ false → bytes_eq z y ≡ false → simplified (x ∷ y ∷ z ∷ []) ≡ x ∷ y ∷ z ∷ []
unfolding simplified_indices
none_cancels x y z h k = rw (h, k) refl

pub one_left : (m : List Text) → length m ≡ 1 → texts_of m ≡ simplified (texts_of m)
one_left [] size = absurd (omega arith)
one_left (x ∷ []) size = sym (one_term x.now)
one_left (x ∷ y ∷ m) size = absurd (omega arith)

-- the terms left of three
abbrev ThreeLeft : (List Text → Text → Type 0) → (List Text → Text → List Text) → Type 0
ThreeLeft P left = (m : List Text) (d : Text) → length m ≡ 3 → P m d → texts_of (left m d) ≡ simplified (texts_of m)

abbrev FirstCancels : List Text → Text → Type 0
FirstCancels m d = text_eq (get_or m 0 d) (get_or m 1 d) ≡ true

abbrev LastCancels : List Text → Text → Type 0
LastCancels m d = (text_eq (get_or m 0 d) (get_or m 1 d) ≡ false) × (text_eq (get_or m 2 d) (get_or m 1 d) ≡ true)

abbrev NoneCancels : List Text → Text → Type 0
NoneCancels m d = (text_eq (get_or m 0 d) (get_or m 1 d) ≡ false) × (text_eq (get_or m 2 d) (get_or m 1 d) ≡ false)

pub last_left : ThreeLeft FirstCancels (λ m d. get_or m 2 d ∷ [])
last_left [] d size h = absurd (omega arith)
last_left (x ∷ []) d size h = absurd (omega arith)
last_left (x ∷ y ∷ []) d size h = absurd (omega arith)
last_left (x ∷ y ∷ z ∷ []) d size h = sym (first_cancels x.now y.now z.now h)
last_left (x ∷ y ∷ z ∷ w ∷ m) d size h = absurd (omega arith)

pub first_left : ThreeLeft LastCancels (λ m d. get_or m 0 d ∷ [])
first_left [] d size h = absurd (omega arith)
first_left (x ∷ []) d size h = absurd (omega arith)
first_left (x ∷ y ∷ []) d size h = absurd (omega arith)
first_left (x ∷ y ∷ z ∷ []) d size h = sym (last_cancels x.now y.now z.now h.0 h.1)
first_left (x ∷ y ∷ z ∷ w ∷ m) d size h = absurd (omega arith)

pub all_left : ThreeLeft NoneCancels (λ m d. m)
all_left [] d size h = absurd (omega arith)
all_left (x ∷ []) d size h = absurd (omega arith)
all_left (x ∷ y ∷ []) d size h = absurd (omega arith)
all_left (x ∷ y ∷ z ∷ []) d size h = sym (none_cancels x.now y.now z.now h.0 h.1)
all_left (x ∷ y ∷ z ∷ w ∷ m) d size h = absurd (omega arith)
