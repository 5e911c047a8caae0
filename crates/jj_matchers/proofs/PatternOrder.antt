-- Order of literal prefixes: a literal prefix of a path is at most the path, and also one of each greater literal prefix that is
-- at most the path.
use Rattle.std.proofs.Common.{inl, ◌≡◌, ◌∙◌, ap, sym, refl, ℕ, Bool, true, false, ◌==◌, List, [], ◌∷◌, ◌++◌, arith, nat_eq, nat_lt, if◌then◌else◌}
use mathlib.Core.Bool.{false≢true}
use Rattle.std.specs.List.{list_all}
use Rattle.std.specs.Cmp.{both_ways}
use Rattle.std.proofs.lemmas.Bool.{and_from, and_parts}
use Rattle.std.proofs.lemmas.Bool.Decides.{Decides-eqb}
use Rattle.jj_globs.specs.GlobMeaning.{GlobSpec}
use Rattle.jj_globs.specs.GlobPrefix.{glob_prefix}
use Rattle.jj_globs.proofs.LiteralPrefix.{BeginsWith}
use Rattle.jj_globs.proofs.LiteralPrefix.{prefix_match_begins}
use Rattle.jj_matchers.specs.PatternOrder.{is_at_most, is_sorted_by_prefix, matches_string}
use Rattle.jj_matchers.proofs.PatternTexts.{DecidesAll-is_match, DecidesAll-is_prefix_match}

-- 1. Lexicographic order of byte strings.

itself : (x : ℕ) → (x == x) ≡ true
itself x = (Decides-eqb x x).1 refl

-- transitivity at the first byte
less_then : (x y z : ℕ) (p q r : Bool) → (p ≡ true → q ≡ true → r ≡ true) → (if x == y then p else nat_lt x y) ≡ true → (if y == z then q else nat_lt y z) ≡ true → (if x == z then r else nat_lt x z) ≡ true
less_then x y z p q r f h g = grind (arith, f)

pub at_most_by : (a b c : List ℕ) → is_at_most a b ≡ true → is_at_most b c ≡ true → is_at_most a c ≡ true
at_most_by [] b c h g = refl
at_most_by (x ∷ a) [] c h g = absurd (false≢true h)
at_most_by (x ∷ a) (y ∷ b) [] h g = absurd (false≢true g)
at_most_by (x ∷ a) (y ∷ b) (z ∷ c) h g =
    less_then x y z (is_at_most a b) (is_at_most b c) (is_at_most a c) (at_most_by a b c) h g

-- a prefix is at most the whole
front_at_most : (a rest : List ℕ) → is_at_most a (a ++ rest) ≡ true
front_at_most [] rest = refl
front_at_most (x ∷ a) rest = ap (λ t. if t then is_at_most a (a ++ rest) else nat_lt x x) (itself x) ∙ front_at_most a rest

pub begins_at_most : (front bytes : List ℕ) → BeginsWith bytes front → is_at_most front bytes ≡ true
begins_at_most front bytes (rest, is) = ap (is_at_most front) is ∙ front_at_most front rest

-- of three strings in order a prefix of the last one is a prefix of the middle one
prefix_of_middle : (g f rest : List ℕ) → is_at_most g f ≡ true → is_at_most f (g ++ rest) ≡ true → BeginsWith f g
prefix_of_middle [] f rest h k = (f, refl)
prefix_of_middle (x ∷ g) [] rest h k = absurd (false≢true h)
prefix_of_middle (x ∷ g) (y ∷ f) rest h k = by_byte (prefix_of_middle g f rest) (nat_eq y x) refl
  where
    same : nat_eq y x ≡ true → (x == y) ≡ true
    same e = (Decides-eqb x y).1 (sym ((Decides-eqb y x).0 e))

    by_byte : (is_at_most g f ≡ true → is_at_most f (g ++ rest) ≡ true → BeginsWith f g) → (t : Bool) → nat_eq y x ≡ t → BeginsWith (y ∷ f) (x ∷ g)
    by_byte later true e =
        let behind = later (sym (ap (λ t. if t then is_at_most g f else nat_lt x y) (same e)) ∙ h) (sym (ap (λ t. if t then is_at_most f (g ++ rest) else nat_lt y x) e) ∙ k) in
        (behind.0, ap (λ z. z ∷ f) ((Decides-eqb y x).0 e) ∙ ap (λ l. x ∷ l) behind.1)
    by_byte later false e = absurd (apart x y (is_at_most g f) (is_at_most f (g ++ rest)) e h k)
      where
        apart : (x y : ℕ) (p q : Bool) → nat_eq y x ≡ false → (if x == y then p else nat_lt x y) ≡ true → (if y == x then q else nat_lt y x) ≡ true → ⊥
        apart x y p q e h k = grind arith

pub begins_middle : (g f bytes : List ℕ) → BeginsWith bytes g → is_at_most g f ≡ true → is_at_most f bytes ≡ true → BeginsWith f g
begins_middle g f bytes (rest, is) h k = prefix_of_middle g f rest h (sym (ap (is_at_most f) is) ∙ k)

-- 2. Sorted globs.

-- a match starts with the literal prefix
pub fits_begins : (prefix_paths : Bool) (text : List ℕ) (glob : GlobSpec) → matches_string prefix_paths glob text ≡ true → BeginsWith text (glob_prefix glob)
fits_begins true text glob h = prefix_match_begins glob text ((DecidesAll-is_prefix_match glob text).0 h)
fits_begins false text glob h = prefix_match_begins glob text (inl ((DecidesAll-is_match glob text).0 h))

abbrev pub is_up_to : List ℕ → GlobSpec → Bool
is_up_to bytes glob = is_at_most (glob_prefix glob) bytes

-- all literal prefixes are at most a later one
pub order_below : (before : List GlobSpec) (last : GlobSpec) (after : List GlobSpec) → is_sorted_by_prefix (before ++ last ∷ after) ≡ true → list_all (is_up_to (glob_prefix last)) before ≡ true
order_below [] last after h = refl
order_below (g ∷ before) last after h =
    let parts = and_parts _ _ h in
    and_from _ _ (last_of before parts.0) (order_below before last after parts.1)
  where
    last_of : (gs : List GlobSpec) → list_all (λ later. is_at_most (glob_prefix g) (glob_prefix later)) (gs ++ last ∷ after) ≡ true → is_at_most (glob_prefix g) (glob_prefix last) ≡ true
    last_of [] h = (and_parts _ _ h).0
    last_of (x ∷ gs) h = last_of gs (and_parts _ _ h).1

pub order_before : (before : List GlobSpec) (last : GlobSpec) → is_sorted_by_prefix (before ++ last ∷ []) ≡ true → is_sorted_by_prefix before ≡ true
order_before [] last h = refl
order_before (g ∷ before) last h =
    and_from _ _ (front_all before (and_parts _ _ h).0) (order_before before last (and_parts _ _ h).1)
  where
    front_all : (gs : List GlobSpec) → list_all (λ later. is_at_most (glob_prefix g) (glob_prefix later)) (gs ++ last ∷ []) ≡ true → list_all (λ later. is_at_most (glob_prefix g) (glob_prefix later)) gs ≡ true
    front_all [] h = refl
    front_all (x ∷ gs) h = and_from _ _ (and_parts _ _ h).0 (front_all gs (and_parts _ _ h).1)

pub order_push : (before : List GlobSpec) (last more : GlobSpec) → is_sorted_by_prefix (before ++ last ∷ []) ≡ true → is_at_most (glob_prefix last) (glob_prefix more) ≡ true → is_sorted_by_prefix ((before ++ last ∷ []) ++ more ∷ []) ≡ true
order_push [] last more h le = and_from _ _ (and_from _ _ le refl) refl
order_push (g ∷ before) last more h le =
    and_from _ _ (more_all before (and_parts _ _ h).0) (order_push before last more (and_parts _ _ h).1 le)
  where
    more_all : (gs : List GlobSpec) → list_all (λ later. is_at_most (glob_prefix g) (glob_prefix later)) (gs ++ last ∷ []) ≡ true → list_all (λ later. is_at_most (glob_prefix g) (glob_prefix later)) ((gs ++ last ∷ []) ++ more ∷ []) ≡ true
    more_all [] h =
        and_from _ _ (and_parts _ _ h).0 (and_from _ _ (at_most_by (glob_prefix g) (glob_prefix last) (glob_prefix more) (and_parts _ _ h).0 le) refl)
    more_all (x ∷ gs) h = and_from _ _ (and_parts _ _ h).0 (more_all gs (and_parts _ _ h).1)

-- a list with an appended glob is sorted if and only if its literal prefix is not less than the last one
pub order_with : (before : List GlobSpec) (last more : GlobSpec) → is_sorted_by_prefix (before ++ last ∷ []) ≡ true → is_at_most (glob_prefix last) (glob_prefix more) ≡ is_sorted_by_prefix ((before ++ last ∷ []) ++ more ∷ [])
order_with before last more h =
    both_ways (is_at_most (glob_prefix last) (glob_prefix more)) (is_sorted_by_prefix ((before ++ last ∷ []) ++ more ∷ [])) (order_push before last more h) (λ order. at_end before (order_below (before ++ last ∷ []) more [] order))
  where
    at_end : (gs : List GlobSpec) → list_all (λ glob. is_at_most (glob_prefix glob) (glob_prefix more)) (gs ++ last ∷ []) ≡ true → is_at_most (glob_prefix last) (glob_prefix more) ≡ true
    at_end [] h = (and_parts _ _ h).0
    at_end (x ∷ gs) h = at_end gs (and_parts _ _ h).1
