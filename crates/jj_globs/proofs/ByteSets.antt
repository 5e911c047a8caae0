-- Sets of bytes in bits: union of ranges, and closure under ASCII case.
use Rattle.std.proofs.Common.{◌/◌, ◌%◌, ◌≡◌, ◌∙◌, ◌↔◌, ◌⊎◌, ◌+◌, ◌-◌, ◌<◌, ◌≤◌, ◌&&◌, ◌||◌, Bool, true, false, not, nat_le, if◌then◌else◌, ℕ, List, [], ◌∷◌, ◌++◌, get_or, inl, inr, refl, sym, ap, subst, arith}
use Rattle.std.specs.Prelude.{IsTrue}
use Rattle.std.proofs.lemmas.Bool.Decides.{leb_tells, eqb_tells}
use Rattle.std.proofs.lemmas.Nat.Bits.{bit_at-zero}
use Rattle.std.specs.Int.{bit_at}
use Rattle.jj_globs.specs.declared.glob.token.ByteRange.{ByteRange}
use Rattle.jj_globs.specs.declared.glob.token.Options.{Options}
use Rattle.jj_globs.specs.declared.glob.byte_set.ByteSet.{ByteSet}
use Rattle.jj_globs.specs.GlobMeaning.{in_range, any_range, in_ranges, in_class, lower, upper}
use Rattle.jj_globs.specs.GlobNfa.{HasBit, has_bit, in_set}
use Rattle.jj_globs.proofs.Transitions.{same_bool}

-- 1. Ranges.

both_in : (x y : Bool) → IsTrue x → IsTrue y → IsTrue (x && y)
both_in x y p q = ap (λ v. v && y) p ∙ q

left_in : (x y : Bool) → IsTrue (x && y) → IsTrue x
left_in true y h = refl
left_in false y h = h

right_in : (x y : Bool) → IsTrue (x && y) → IsTrue y
right_in true y h = h
right_in false y h = let no : false ≡ true = h in cc

is_le : (a b : ℕ) → IsTrue (nat_le a b) → a ≤ b
is_le a b h = elim (leb_tells a b) [ inl w ↦ w.1 | inr w ↦ (let no : false ≡ true = sym w.0 ∙ h in cc) ]

le_is : (a b : ℕ) → a ≤ b → IsTrue (nat_le a b)
le_is a b h = elim (leb_tells a b) [ inl w ↦ w.0 | inr w ↦ (let gt = w.1 in absurd (omega (arith, gt, h))) ]

-- a byte is in a range
pub range_tells : (r : ByteRange) (b : ℕ) → IsTrue (in_range b r) ↔ ((r.first ≤ b) × (b < r.last + 1))
range_tells r b = (
  (λ h.
      let low = is_le r.first b (left_in (nat_le r.first b) (nat_le b r.last) h) in
      let high = is_le b r.last (right_in (nat_le r.first b) (nat_le b r.last) h) in
      (low, omega (arith, high))),
  (λ h. let high = h.1 in both_in (nat_le r.first b) (nat_le b r.last) (le_is r.first b h.0) (le_is b r.last (omega (arith, high)))),
)

pub no_byte_yet : (ws : List ℕ) (r : ByteRange) (b : ℕ) → HasBit ws b ↔ (HasBit ws b ⊎ ((b < r.first) × IsTrue (in_range b r)))
no_byte_yet ws r b = (
  (λ h. inl h),
  (λ h. elim h [ inl p ↦ p | inr q ↦ (let low = ((range_tells r b).0 q.1).0 in let lt = q.0 in absurd (omega (arith, low, lt))) ]),
)

below_next : (b n : ℕ) → b < n + 1 → (b ≡ n → ⊥) → b < n
below_next b n h ne = omega arith

pub one_more_byte : (start old new : List ℕ) (r : ByteRange) (i : ℕ) → r.first ≤ i → i < r.last + 1 → ((j : ℕ) → HasBit new j ↔ (HasBit old j ⊎ (j ≡ i)))
    → ((b : ℕ) → HasBit old b ↔ (HasBit start b ⊎ ((b < i) × IsTrue (in_range b r))))
    → (b : ℕ) → HasBit new b ↔ (HasBit start b ⊎ ((b < i + 1) × IsTrue (in_range b r)))
one_more_byte start old new r i low high insert known b = (
  (λ h. elim ((insert b).0 h) [
    | inl p ↦ elim ((known b).0 p) [ inl s ↦ inl s | inr q ↦ (let lt = q.0 in inr ((omega (arith, lt)), q.1)) ]
    | inr e ↦ inr ((omega (arith, e)), subst (λ (x : ℕ). IsTrue (in_range x r)) (sym e) ((range_tells r i).1 (low, high)))
  ]),
  (λ h. (insert b).1 (elim h [
    | inl s ↦ inl ((known b).1 (inl s))
    | inr q ↦ elim (eqb_tells b i) [ inl w ↦ inr w.1 | inr w ↦ inl ((known b).1 (inr (below_next b i q.0 w.1, q.1))) ]
  ])),
)

or_in : (x y : Bool) → IsTrue (x || y) ↔ (IsTrue x ⊎ IsTrue y)
or_in true y = ((λ h. inl refl), (λ h. refl))
or_in false y = ((λ h. inr h), (λ h. elim h [ inl p ↦ (let no : false ≡ true = p in cc) | inr q ↦ q ]))

any-append : (b : ℕ) (rs : List ByteRange) (r : ByteRange) → IsTrue (any_range b (rs ++ r ∷ [])) ↔ (IsTrue (any_range b rs) ⊎ IsTrue (in_range b r))
any-append b [] r =
    let or = or_in (in_range b r) false in (
      (λ h. elim (or.0 h) [ inl p ↦ inr p | inr q ↦ (let no : false ≡ true = q in cc) ]),
      (λ h. elim h [ inl p ↦ (let no : false ≡ true = p in cc) | inr q ↦ or.1 (inl q) ]),
    )
any-append b (x ∷ rs) r =
    let or = or_in (in_range b x) (any_range b (rs ++ r ∷ [])) in
    let or' = or_in (in_range b x) (any_range b rs) in
    let more = any-append b rs r in (
      (λ h. elim (or.0 h) [ inl p ↦ inl (or'.1 (inl p)) | inr q ↦ elim (more.0 q) [ inl s ↦ inl (or'.1 (inr s)) | inr s ↦ inr s ] ]),
      (λ h. elim h [ inl p ↦ elim (or'.0 p) [ inl s ↦ or.1 (inl s) | inr s ↦ or.1 (inr (more.1 (inl s))) ] | inr q ↦ or.1 (inr (more.1 (inr q))) ]),
    )

-- adds a range to a set
pub more_ranges : (old new : List ℕ) (b : ℕ) (rs all : List ByteRange) (r : ByteRange) → all ≡ rs ++ r ∷ []
    → (HasBit new b ↔ (HasBit old b ⊎ IsTrue (in_range b r))) → (HasBit old b ↔ IsTrue (any_range b rs)) → HasBit new b ↔ IsTrue (any_range b all)
more_ranges old new b rs all r e insert known =
    let more = any-append b rs r in (
      (λ h. subst (λ (x : List ByteRange). IsTrue (any_range b x)) (sym e) (more.1 (elim (insert.0 h) [ inl l ↦ inl (known.0 l) | inr i ↦ inr i ]))),
      (λ h. insert.1 (elim (more.0 (subst (λ (x : List ByteRange). IsTrue (any_range b x)) e h)) [ inl l ↦ inl (known.1 l) | inr i ↦ inr i ])),
    )

-- 2. Classes.

live_tells : (words : List ℕ) (b : ℕ) → IsTrue (has_bit words b) ↔ HasBit words b
live_tells words b =
    let bit = bit_at (get_or words (b / 64) 0) (b % 64) in
    elim (eqb_tells bit 1) [
      | inl w ↦ ((λ h. w.1), (λ h. w.0))
      | inr w ↦ ((λ h. let no : false ≡ true = sym w.0 ∙ h in cc), (λ h. absurd (w.1 h)))
    ]

negated_same : (negated x y : Bool) → x ≡ y → (if negated then not x else x) ≡ (if negated then not y else y)
negated_same true x y e = ap not e
negated_same false x y e = e

-- the set of a class, with `icase` or without
pub class_is : (o : Options) (negated : Bool) (rs : List ByteRange) (set : ByteSet) → set.negated ≡ negated
    → ((b : ℕ) → HasBit set.words b ↔ IsTrue (in_ranges o rs b)) → (b : ℕ) → in_set set b ≡ in_class o (negated, rs) b
class_is o negated rs set e live b =
    let bit = live_tells set.words b in
    let known = live b in
    let same : has_bit set.words b ≡ in_ranges o rs b =
    same_bool (has_bit set.words b) (in_ranges o rs b) ((λ h. known.0 (bit.0 h)), (λ h. bit.1 (known.1 h))) in
    ap (λ (n : Bool). if n then not (has_bit set.words b) else has_bit set.words b) e ∙ negated_same negated (has_bit set.words b) (in_ranges o rs b) same

pub ranges_as_written : (o : Options) (rs : List ByteRange) (words : List ℕ) → o.icase ≡ false → ((b : ℕ) → HasBit words b ↔ IsTrue (any_range b rs))
    → (b : ℕ) → HasBit words b ↔ IsTrue (in_ranges o rs b)
ranges_as_written o rs words e live b =
    let folded = any_range (lower b) rs || any_range (upper b) rs in
    let without : in_ranges o rs b ≡ (any_range b rs || false) = ap (λ v. any_range b rs || (v && folded)) e in
    let or = or_in (any_range b rs) false in
    rw without (
      (λ h. or.1 (inl ((live b).0 h))),
      (λ h. elim (or.0 h) [ inl p ↦ (live b).1 p | inr q ↦ (let no : false ≡ true = q in cc) ]),
    )

pub ranges_folded : (o : Options) (rs : List ByteRange) (words words' : List ℕ) → o.icase ≡ true → ((b : ℕ) → HasBit words b ↔ IsTrue (any_range b rs))
    → ((b : ℕ) → HasBit words' b ↔ (HasBit words b ⊎ (HasBit words (lower b) ⊎ HasBit words (upper b))))
    → (b : ℕ) → HasBit words' b ↔ IsTrue (in_ranges o rs b)
ranges_folded o rs words words' e live live' b =
    let folded = any_range (lower b) rs || any_range (upper b) rs in
    let with : in_ranges o rs b ≡ (any_range b rs || folded) = ap (λ v. any_range b rs || (v && folded)) e in
    let or = or_in (any_range b rs) folded in
    let cases = or_in (any_range (lower b) rs) (any_range (upper b) rs) in
    rw with (
      (λ h. or.1 (elim ((live' b).0 h) [
        | inl p ↦ inl ((live b).0 p)
        | inr q ↦ inr (cases.1 (elim q [ inl l ↦ inl ((live (lower b)).0 l) | inr u ↦ inr ((live (upper b)).0 u) ]))
      ])),
      (λ h. (live' b).1 (elim (or.0 h) [
        | inl p ↦ inl ((live b).1 p)
        | inr q ↦ inr (elim (cases.0 q) [ inl l ↦ inl ((live (lower b)).1 l) | inr u ↦ inr ((live (upper b)).1 u) ])
      ])),
    )

-- 3. Letters.

high_lower : (b : ℕ) → 256 ≤ b → lower b ≡ b
high_lower b high =
    elim (leb_tells b 90) [
      | inl w ↦ (let low = w.1 in absurd (omega (arith, low, high)))
      | inr w ↦ elim (leb_tells 65 b) [
        | inl v ↦ ap (λ c. if c && nat_le b 90 then b + 32 else b) v.0 ∙ ap (λ c. if c then b + 32 else b) w.0
        | inr v ↦ ap (λ c. if c && nat_le b 90 then b + 32 else b) v.0
      ]
    ]

high_upper : (b : ℕ) → 256 ≤ b → upper b ≡ b
high_upper b high =
    elim (leb_tells b 122) [
      | inl w ↦ (let low = w.1 in absurd (omega (arith, low, high)))
      | inr w ↦ elim (leb_tells 97 b) [
        | inl v ↦ ap (λ c. if c && nat_le b 122 then b - 32 else b) v.0 ∙ ap (λ c. if c then b - 32 else b) w.0
        | inr v ↦ ap (λ c. if c && nat_le b 122 then b - 32 else b) v.0
      ]
    ]

-- a number past the bytes has no other case, so the closure of the bytes is that of all numbers
pub all_letters : (old new : List ℕ)
    → ((b : ℕ) → HasBit new b ↔ (HasBit old b ⊎ ((b < 256) × (HasBit old (lower b) ⊎ HasBit old (upper b)))))
    → (b : ℕ) → HasBit new b ↔ (HasBit old b ⊎ (HasBit old (lower b) ⊎ HasBit old (upper b)))
all_letters old new live b = (
  (λ h. elim ((live b).0 h) [ inl p ↦ inl p | inr q ↦ inr q.1 ]),
  (λ h. (live b).1 (elim h [
    | inl p ↦ inl p
    | inr q ↦ elim (leb_tells 256 b) [
      | inl w ↦ inl (elim q [
        | inl l ↦ subst (λ (x : ℕ). HasBit old x) (high_lower b w.1) l
        | inr u ↦ subst (λ (x : ℕ). HasBit old x) (high_upper b w.1) u
      ])
      | inr w ↦ (let low = w.1 in inr ((omega (arith, low)), q))
    ]
  ])),
)

-- one more byte is considered
pub letter_put : (start old new : List ℕ) (Q : ℕ → Type 0) (i : ℕ) → Q i → ((j : ℕ) → HasBit new j ↔ (HasBit old j ⊎ (j ≡ i)))
    → ((b : ℕ) → HasBit old b ↔ (HasBit start b ⊎ ((b < i) × Q b))) → (b : ℕ) → HasBit new b ↔ (HasBit start b ⊎ ((b < i + 1) × Q b))
letter_put start old new Q i is insert known b = (
  (λ h. elim ((insert b).0 h) [
    | inl p ↦ elim ((known b).0 p) [ inl s ↦ inl s | inr q ↦ (let lt = q.0 in inr ((omega (arith, lt)), q.1)) ]
    | inr e ↦ inr ((omega (arith, e)), subst Q (sym e) is)
  ]),
  (λ h. (insert b).1 (elim h [
    | inl s ↦ inl ((known b).1 (inl s))
    | inr q ↦ elim (eqb_tells b i) [ inl w ↦ inr w.1 | inr w ↦ inl ((known b).1 (inr (below_next b i q.0 w.1, q.1))) ]
  ])),
)

pub letter_kept : (start old : List ℕ) (Q : ℕ → Type 0) (i : ℕ) → (Q i → ⊥)
    → ((b : ℕ) → HasBit old b ↔ (HasBit start b ⊎ ((b < i) × Q b))) → (b : ℕ) → HasBit old b ↔ (HasBit start b ⊎ ((b < i + 1) × Q b))
letter_kept start old Q i none known b = (
  (λ h. elim ((known b).0 h) [ inl s ↦ inl s | inr q ↦ (let lt = q.0 in inr ((omega (arith, lt)), q.1)) ]),
  (λ h. (known b).1 (elim h [
    | inl s ↦ inl s
    | inr q ↦ elim (eqb_tells b i) [ inl w ↦ absurd (none (subst Q w.1 q.1)) | inr w ↦ inr (below_next b i q.0 w.1, q.1) ]
  ])),
)

-- no bit of zero words is set
pub no_words : (ws : List ℕ) → ((i : ℕ) → get_or ws i 0 ≡ 0) → (j : ℕ) → HasBit ws j → ⊥
no_words ws zero_words j live =
    let bit : bit_at 0 (j % 64) ≡ 1 = ap (λ (y : ℕ). bit_at y (j % 64)) (sym (zero_words (j / 64))) ∙ live in
    absurd (omega (arith, bit, bit_at-zero (j % 64)))
