-- Correctness of the bit tables: closures under epsilon transitions, and transitions over a byte.
use Rattle.std.proofs.Common.{◌≡◌, ◌≢◌, ◌↔◌, ◌⊎◌, ◌∙◌, ◌+◌, ◌-◌, ◌*◌, ◌/◌, ◌%◌, ◌^◌, ◌<◌, ◌≤◌, ◌||◌, ◌&&◌, Bool, true, false, ℕ, zero, suc, List, [], ◌∷◌, ◌++◌, length, length-append, replicate, get_or, Some, IsTrue, ap, sym, subst, refl, inl, inr, arith}
use Rattle.std.proofs.lemmas.Bool.Decides.{eqb_tells}
use Rattle.std.proofs.lemmas.Bool.{cases_lt}
use Rattle.std.proofs.lemmas.Option.{slice_get_within}
use Rattle.std.proofs.lemmas.Nat.Bits.{bit_at_or, bit_at_and, bit_at-lt, bit_at-zero, bit_at_above, bit_at_lowest, bit_at-suc, bit_at_set_same, bit_at_set_other}
use Rattle.std.proofs.lemmas.List.{get_or-set_other, get_or-replicate, length-replicate, get_or_past, get_or_push, get_or_append_left}
use Rattle.std.proofs.lemmas.Grind.{get_or-set_at}
use Rattle.std.proofs.Math.ListN.{set}
use Rattle.std.specs.Int.{bit_at, w64}
use Rattle.std.specs.Int.Bits.{bit_or, bit_and}
use Rattle.std.specs.Prelude.{slice_get, if◌then◌else◌}
use Rattle.jj_globs.specs.declared.glob.token.Options.{Options}
use Rattle.jj_globs.specs.declared.glob.step.Step.{Step}
use Rattle.jj_globs.specs.declared.glob.step.Step.TheVariants.{Byte, AnyByte, OneOf, Star, Everything, Fork, Jump}
use Rattle.jj_globs.specs.declared.glob.bit_tables.BitTables.{BitTables}
use Rattle.jj_globs.specs.GlobBacktracking.{Test}
use Rattle.jj_globs.specs.GlobNfa.{HasBit, accepts_from, step_at, end_test, consumes_byte}
use Rattle.jj_globs.specs.GlobTables.{takes_byte, target, after_bytes, Takes, AcceptsAtOnce, AnyAtOnce, HasClosure, InUnion, AreInRange, AreTablesOf}
use Rattle.jj_globs.proofs.StateTests.{at_step, answers_solve}
use Rattle.jj_globs.proofs.Transitions.{or_is}

-- 1. Bits of a word.

pub or_bit : (a b j : ℕ) → (bit_at (bit_or a b) j ≡ 1) ↔ ((bit_at a j ≡ 1) ⊎ (bit_at b j ≡ 1))
or_bit a b j =
    let both = bit_at_or a b j in
    let low = bit_at-lt a j in
    let high = bit_at-lt b j in (
      (λ h. elim (eqb_tells (bit_at a j) 1) [ inl e ↦ inl e.1 | inr n ↦ (let other = n.1 in inr (omega (arith, h, both, low, high, other))) ]),
      (λ h. elim h [ inl e ↦ omega (arith, e, both, low, high) | inr e ↦ omega (arith, e, both, low, high) ]),
    )

pub and_bit : (a b j : ℕ) → (bit_at (bit_and a b) j ≡ 1) ↔ ((bit_at a j ≡ 1) × (bit_at b j ≡ 1))
and_bit a b j =
    let both = bit_at_and a b j in
    let low = bit_at-lt a j in
    let high = bit_at-lt b j in (
      (λ h. (omega (arith, h, both, low, high), omega (arith, h, both, low, high))),
      (λ h. let first = h.0 in let second = h.1 in omega (arith, first, second, both, low, high)),
    )

-- the word with a single bit
pub one_bit : (k : ℕ) → k < 64 → (j : ℕ) → (bit_at (1 * 2 ^ k % 2 ^ 64) j ≡ 1) ↔ (j ≡ k)
one_bit k low j =
    let word : ℕ = 1 * 2 ^ k % 2 ^ 64 in
    let from = or_bit 0 word j in
    let none = bit_at-zero j in (
      (λ h. elim (eqb_tells j k) [
        | inl e ↦ e.1
        | inr n ↦ (let is = from.1 (inr h) in let kept = bit_at_set_other w64 0 k low j n.1 in absurd (omega (arith, is, kept, none)))
      ]),
      (λ e. elim (from.0 (ap (bit_at (bit_or 0 word)) e ∙ bit_at_set_same w64 0 k low)) [ inl z ↦ absurd (omega (arith, z, none)) | inr is ↦ is ]),
    )

-- bit k is the lowest bit of n: in n - 1 it is cleared, and the bits above it are those of n
pred_gone : (k n : ℕ) → bit_at n k ≡ 1 → ((i : ℕ) → i < k → bit_at n i ≡ 0) → bit_at (n - 1) k ≡ 0
pred_gone zero n bit zeros =
    let odd : n % 2 ≡ 1 = sym (bit_at_lowest n) ∙ bit in bit_at_lowest (n - 1) ∙ omega (arith, odd)
pred_gone (suc k) n bit zeros =
    let even : n % 2 ≡ 0 = sym (bit_at_lowest n) ∙ zeros 0 (omega arith) in
    let half : (n - 1) / 2 ≡ n / 2 - 1 = omega (arith, even) in
    bit_at-suc (n - 1) k ∙ ap (λ (x : ℕ). bit_at x k) half
    ∙ pred_gone k (n / 2) (sym (bit_at-suc n k) ∙ bit) (λ i low. sym (bit_at-suc n i) ∙ zeros (suc i) (omega (arith, low)))

pred_kept : (k n j : ℕ) → bit_at n k ≡ 1 → ((i : ℕ) → i < k → bit_at n i ≡ 0) → k < j → bit_at (n - 1) j ≡ bit_at n j
pred_kept k n zero bit zeros above = absurd (omega (arith, above))
pred_kept zero n (suc j) bit zeros above =
    let odd : n % 2 ≡ 1 = sym (bit_at_lowest n) ∙ bit in
    let half : (n - 1) / 2 ≡ n / 2 = omega (arith, odd) in
    bit_at-suc (n - 1) j ∙ ap (λ (x : ℕ). bit_at x j) half ∙ sym (bit_at-suc n j)
pred_kept (suc k) n (suc j) bit zeros above =
    let even : n % 2 ≡ 0 = sym (bit_at_lowest n) ∙ zeros 0 (omega arith) in
    let half : (n - 1) / 2 ≡ n / 2 - 1 = omega (arith, even) in
    let higher : k < j = omega (arith, above) in
    bit_at-suc (n - 1) j ∙ ap (λ (x : ℕ). bit_at x j) half
    ∙ pred_kept k (n / 2) j (sym (bit_at-suc n k) ∙ bit) (λ i low. sym (bit_at-suc n i) ∙ zeros (suc i) (omega (arith, low))) higher
    ∙ sym (bit_at-suc n j)

pub clear_lowest : (n k : ℕ) → bit_at n k ≡ 1 → ((i : ℕ) → i < k → bit_at n i ≡ 0) → (j : ℕ)
    → (bit_at (bit_and n (n - 1)) j ≡ 1) ↔ ((bit_at n j ≡ 1) × (j ≢ k))
clear_lowest n k bit zeros j =
    let both = and_bit n (n - 1) j in (
      (λ h.
          let held = both.0 h in
          (held.0, (λ e. let gone = pred_gone k n bit zeros in let is = ap (bit_at (n - 1)) (sym e) ∙ held.1 in absurd (omega (arith, gone, is))))),
      (λ h. elim (cases_lt j k) [
        | inl low ↦ (let none = zeros j low in let is = h.0 in absurd (omega (arith, none, is)))
        | inr past ↦ (let other : j ≢ k = h.1 in both.1 (h.0, pred_kept k n j bit zeros (omega (arith, past, other)) ∙ h.0))
      ]),
    )

-- a bit of a word of a list
pub place_of : (b k : ℕ) → k < 64 → (64 * b + k) / 64 ≡ b
place_of b k low = omega arith

pub bit_of : (b k : ℕ) → k < 64 → (64 * b + k) % 64 ≡ k
bit_of b k low = omega arith

pub parts_of : (j b k : ℕ) → j / 64 ≡ b → j % 64 ≡ k → j ≡ 64 * b + k
parts_of j b k e f = omega arith

-- 2. What a state accepts at once.

and_is : (a b : Bool) → IsTrue (a && b) ↔ (IsTrue a × IsTrue b)
and_is true b = ((λ h. (refl, h)), (λ h. h.1))
and_is false b = ((λ h. cc), (λ h. h.0))

abbrev loops : Step → Bool
loops Star = true
loops Everything = true
loops (Byte c) = false
loops AnyByte = false
loops (OneOf set) = false
loops (Fork further) = false
loops (Jump further) = false

one_taken : (o : Options) (P : ℕ → Test) (s : Step) (k b : ℕ) (bs : List ℕ) → consumes_byte s ≡ true
    → step_at o P s k (b ∷ bs) ≡ (takes_byte o s b && P (target s k) bs)
one_taken o P (Byte c) k b bs e = refl
one_taken o P AnyByte k b bs e = refl
one_taken o P (OneOf set) k b bs e = refl
one_taken o P Star k b bs e = cc
one_taken o P Everything k b bs e = cc
one_taken o P (Fork further) k b bs e = cc
one_taken o P (Jump further) k b bs e = cc

none_taken : (o : Options) (P : ℕ → Test) (s : Step) (k : ℕ) → consumes_byte s ≡ true → step_at o P s k [] ≡ false
none_taken o P (Byte c) k e = refl
none_taken o P AnyByte k e = refl
none_taken o P (OneOf set) k e = refl
none_taken o P Star k e = cc
none_taken o P Everything k e = cc
none_taken o P (Fork further) k e = cc
none_taken o P (Jump further) k e = cc

loop_taken : (o : Options) (P : ℕ → Test) (s : Step) (k b : ℕ) (bs : List ℕ) → loops s ≡ true
    → step_at o P s k (b ∷ bs) ≡ (P (k + 1) (b ∷ bs) || (takes_byte o s b && step_at o P s (target s k) bs))
loop_taken o P Star k b bs e = refl
loop_taken o P Everything k b bs e = refl
loop_taken o P (Byte c) k b bs e = cc
loop_taken o P AnyByte k b bs e = cc
loop_taken o P (OneOf set) k b bs e = cc
loop_taken o P (Fork further) k b bs e = cc
loop_taken o P (Jump further) k b bs e = cc

loop_ends : (o : Options) (P : ℕ → Test) (s : Step) (k : ℕ) → loops s ≡ true → step_at o P s k [] ≡ P (k + 1) []
loop_ends o P Star k e = refl
loop_ends o P Everything k e = refl
loop_ends o P (Byte c) k e = cc
loop_ends o P AnyByte k e = cc
loop_ends o P (OneOf set) k e = cc
loop_ends o P (Fork further) k e = cc
loop_ends o P (Jump further) k e = cc

loop_target : (s : Step) (k : ℕ) → loops s ≡ true → target s k ≡ k
loop_target Star k e = refl
loop_target Everything k e = refl
loop_target (Byte c) k e = cc
loop_target AnyByte k e = cc
loop_target (OneOf set) k e = cc
loop_target (Fork further) k e = cc
loop_target (Jump further) k e = cc

module _ (o : Options) (below : Bool) (steps : List Step) where
  -- a state with a step is not the end
  not_end : (k : ℕ) (s : Step) → slice_get steps k ≡ Some s → k ≡ length steps → ⊥
  not_end k s at e = let within = slice_get_within steps k s at in omega (arith, within, e)

  -- a state with a step accepts at once if the step consumes the byte and its target accepts the rest
  at_once : (k : ℕ) (s : Step) → slice_get steps k ≡ Some s → (b : ℕ) (bs : List ℕ)
      → AcceptsAtOnce o below steps k (b ∷ bs) ↔ IsTrue (takes_byte o s b && accepts_from o below steps (target s k) bs)
  at_once k s at b bs =
      let both = and_is (takes_byte o s b) (accepts_from o below steps (target s k) bs) in (
        (λ h. elim h [
          | inl e ↦ absurd (not_end k s at e.0)
          | inr t ↦ (
              let same : t.0 ≡ s = (let other = t.1 in cc) in
              both.1 (subst (λ (x : Step). IsTrue (takes_byte o x b) × IsTrue (accepts_from o below steps (target x k) bs)) same (t.2, t.3)))
        ]),
        (λ h. let t = both.0 h in inr (s, at, t.0, t.1)),
      )

  byte_state : (k : ℕ) (s : Step) → slice_get steps k ≡ Some s → consumes_byte s ≡ true → (bs : List ℕ)
      → IsTrue (accepts_from o below steps k bs) ↔ AcceptsAtOnce o below steps k bs
  byte_state k s at kind [] =
      let none = at_step o below steps k s at [] ∙ none_taken o (accepts_from o below steps) s k kind in
      ((λ h. let no : false ≡ true = sym none ∙ h in cc), (λ e. absurd (not_end k s at e)))
  byte_state k s at kind (b ∷ bs) =
      let value = at_step o below steps k s at (b ∷ bs) ∙ one_taken o (accepts_from o below steps) s k b bs kind in
      let moves = at_once k s at b bs in
      ((λ h. moves.1 (sym value ∙ h)), (λ m. value ∙ moves.0 m))

  loop_state : (k : ℕ) (s : Step) → slice_get steps k ≡ Some s → loops s ≡ true → (bs : List ℕ)
      → IsTrue (accepts_from o below steps k bs) ↔ (IsTrue (accepts_from o below steps (k + 1) bs) ⊎ AcceptsAtOnce o below steps k bs)
  loop_state k s at kind [] =
      let value = at_step o below steps k s at [] ∙ loop_ends o (accepts_from o below steps) s k kind in
      ((λ h. inl (sym value ∙ h)), (λ h. elim h [ inl t ↦ value ∙ t | inr e ↦ absurd (not_end k s at e) ]))
  loop_state k s at kind (b ∷ bs) =
      let P = accepts_from o below steps in
      let again : step_at o P s (target s k) bs ≡ P (target s k) bs =
      ap (λ (i : ℕ). step_at o P s i bs) (loop_target s k kind) ∙ sym (at_step o below steps k s at bs) ∙ ap (λ (i : ℕ). P i bs) (sym (loop_target s k kind)) in
      let value : P k (b ∷ bs) ≡ (P (k + 1) (b ∷ bs) || (takes_byte o s b && P (target s k) bs)) =
      at_step o below steps k s at (b ∷ bs) ∙ loop_taken o P s k b bs kind
      ∙ ap (λ v. P (k + 1) (b ∷ bs) || (takes_byte o s b && v)) again in
      let either = or_is (P (k + 1) (b ∷ bs)) (takes_byte o s b && P (target s k) bs) in
      let moves = at_once k s at b bs in (
        (λ h. elim (either.0 (sym value ∙ h)) [ inl t ↦ inl t | inr t ↦ inr (moves.1 t) ]),
        (λ h. elim h [ inl t ↦ value ∙ either.1 (inl t) | inr m ↦ value ∙ either.1 (inr (moves.0 m)) ]),
      )

  end_state : (bs : List ℕ) → IsTrue (end_test below bs) ↔ AcceptsAtOnce o below steps (length steps) bs
  end_state [] = ((λ h. refl), (λ e. refl))
  end_state (b ∷ bs) = (
    (λ h. inl (refl, h)),
    (λ m. elim m [ inl e ↦ e.1 | inr t ↦ absurd (not_end (length steps) t.0 t.1 refl) ]),
  )

  -- the union of two sets
  either_set : (a b w : ℕ) → ((j : ℕ) → (bit_at w j ≡ 1) ↔ ((bit_at a j ≡ 1) ⊎ (bit_at b j ≡ 1))) → (bs : List ℕ)
      → AnyAtOnce o below steps w bs ↔ (AnyAtOnce o below steps a bs ⊎ AnyAtOnce o below steps b bs)
  either_set a b w bits bs = (
    (λ h. elim ((bits h.0).0 h.1) [ inl l ↦ inl (h.0, l, h.2) | inr l ↦ inr (h.0, l, h.2) ]),
    (λ h. elim h [ inl l ↦ (l.0, (bits l.0).1 (inl l.1), l.2) | inr l ↦ (l.0, (bits l.0).1 (inr l.1), l.2) ]),
  )

  -- the set of one state
  single_set : (k w : ℕ) → ((j : ℕ) → (bit_at w j ≡ 1) ↔ (j ≡ k)) → (bs : List ℕ)
      → AnyAtOnce o below steps w bs ↔ AcceptsAtOnce o below steps k bs
  single_set k w bits bs = (
    (λ h. subst (λ (i : ℕ). AcceptsAtOnce o below steps i bs) ((bits h.0).0 h.1) h.2),
    (λ m. (k, (bits k).1 refl, m)),
  )

-- 3. Closures.

module _ (steps : List Step) where
  pub closure_end : length steps < 64 → HasClosure steps (length steps) (1 * 2 ^ length steps % 2 ^ 64)
  closure_end low = λ o below bs.
      let end = length steps in
      let is = (answers_solve o below steps).at_end bs in
      let one = single_set o below steps end (1 * 2 ^ end % 2 ^ 64) (one_bit end low) bs in
      let tells = end_state o below steps bs in
      ((λ h. one.1 (tells.0 (sym is ∙ h))), (λ a. is ∙ tells.1 (one.0 a)))

  pub closure_byte : (k : ℕ) (s : Step) → slice_get steps k ≡ Some s → consumes_byte s ≡ true → k < 64 → HasClosure steps k (1 * 2 ^ k % 2 ^ 64)
  closure_byte k s at kind low = λ o below bs.
      let one = single_set o below steps k (1 * 2 ^ k % 2 ^ 64) (one_bit k low) bs in
      let tells = byte_state o below steps k s at kind bs in
      ((λ h. one.1 (tells.0 h)), (λ a. tells.1 (one.0 a)))

  pub closure_loop : (k w : ℕ) (s : Step) → slice_get steps k ≡ Some s → (s ≡ Star) ⊎ (s ≡ Everything) → k < 64 → HasClosure steps (k + 1) w
      → HasClosure steps k (bit_or w (1 * 2 ^ k % 2 ^ 64))
  closure_loop k w s at which low later = λ o below bs.
      let word : ℕ = 1 * 2 ^ k % 2 ^ 64 in
      let kind : loops s ≡ true = elim which [ inl e ↦ ap loops e | inr e ↦ ap loops e ] in
      let one = single_set o below steps k word (one_bit k low) bs in
      let both = either_set o below steps w word (bit_or w word) (or_bit w word) bs in
      let tells = loop_state o below steps k s at kind bs in
      let known = later o below bs in (
        (λ h. elim (tells.0 h) [ inl t ↦ both.1 (inl (known.0 t)) | inr m ↦ both.1 (inr (one.1 m)) ]),
        (λ a. elim (both.0 a) [ inl t ↦ tells.1 (inl (known.1 t)) | inr m ↦ tells.1 (inr (one.0 m)) ]),
      )

  pub closure_fork : (k further v w : ℕ) → slice_get steps k ≡ Some (Fork further) → HasClosure steps (k + 1) v → HasClosure steps (k + 1 + further) w
      → HasClosure steps k (bit_or v w)
  closure_fork k further v w at first second = λ o below bs.
      let P = accepts_from o below steps in
      let value = at_step o below steps k (Fork further) at bs in
      let either = or_is (P (k + 1) bs) (P (k + 1 + further) bs) in
      let both = either_set o below steps v w (bit_or v w) (or_bit v w) bs in
      let one = first o below bs in
      let two = second o below bs in (
        (λ h. elim (either.0 (sym value ∙ h)) [ inl t ↦ both.1 (inl (one.0 t)) | inr t ↦ both.1 (inr (two.0 t)) ]),
        (λ a. elim (both.0 a) [ inl t ↦ value ∙ either.1 (inl (one.1 t)) | inr t ↦ value ∙ either.1 (inr (two.1 t)) ]),
      )

  pub closure_jump : (k further w : ℕ) → slice_get steps k ≡ Some (Jump further) → HasClosure steps (k + 1 + further) w → HasClosure steps k w
  closure_jump k further w at later = λ o below bs.
      let value = at_step o below steps k (Jump further) at bs in
      let known = later o below bs in
      ((λ h. known.0 (sym value ∙ h)), (λ a. value ∙ known.1 a))

-- the closures from state `first` on are set
abbrev pub ClosedFrom : List Step → ℕ → List ℕ → Type 0
ClosedFrom steps first closures = (k : ℕ) → first ≤ k → k ≤ length steps → HasClosure steps k (get_or closures k 0)

pub closures_begun : (steps : List Step) (closures : List ℕ) (w : ℕ) → length steps < length closures → HasClosure steps (length steps) w
    → ClosedFrom steps (length steps) (set closures (length steps) w)
closures_begun steps closures w room closed k low high =
    let at : k ≡ length steps = omega (arith, low, high) in
    let here : get_or (set closures (length steps) w) k 0 ≡ w = get_or-set_at closures (length steps) k w 0 at room in
    subst (λ (x : ℕ). HasClosure steps k x) (sym here) (subst (λ (i : ℕ). HasClosure steps i w) (sym at) closed)

pub closures_more : (steps : List Step) (closures : List ℕ) (first state w : ℕ) → state + 1 ≡ first → state < length closures → HasClosure steps state w
    → ClosedFrom steps first closures → ClosedFrom steps state (set closures state w)
closures_more steps closures first state w next room closed known k low high =
    elim (eqb_tells k state) [
      | inl e ↦
          subst (λ (x : ℕ). HasClosure steps k x) (sym (get_or-set_at closures state k w 0 e.1 room)) (subst (λ (i : ℕ). HasClosure steps i w) (sym e.1) closed)
      | inr n ↦
          let other : k ≢ state = n.1 in
          subst (λ (x : ℕ). HasClosure steps k x) (sym (get_or-set_other closures state k w 0 other)) (known k (omega (arith, low, other, next)) high)
    ]

-- the steps after the leading ones of one byte
pub after_bytes-skip : (s : Step) (ss : List Step) → consumes_byte s ≡ true → after_bytes (s ∷ ss) ≡ after_bytes ss
after_bytes-skip s ss e = ap (λ (b : Bool). if b then after_bytes ss else s ∷ ss) e

-- 4. A run over the tables.

-- a word has no bit past its 64
within_word : (n k : ℕ) → n < 2 ^ 64 → bit_at n k ≡ 1 → k < 64
within_word n k fits bit =
    elim (cases_lt k 64) [
      | inl low ↦ low
      | inr past ↦ (let none = bit_at_above n 64 k fits past in absurd (omega (arith, none, bit)))
    ]

-- states that consume a byte are in range
pub hits_within : (t : BitTables) → AreInRange t → (takes follow : List ℕ) → takes ≡ t.takes.items → follow ≡ t.follow.items
    → (live b : ℕ) → b < 256 → get_or takes b 0 < 2 ^ 64 → (k : ℕ) → bit_at (bit_and live (get_or takes b 0)) k ≡ 1 → k < length follow
hits_within t ranges takes follow e f live b byte fits k hit =
    let bit = ((and_bit live (get_or takes b 0) k).0 hit).1 in
    let low = ranges.within b k byte (within_word (get_or takes b 0) k fits bit) (ap (λ (ws : List ℕ). bit_at (get_or ws b 0) k) (sym e) ∙ bit) in
    subst (λ (ws : List ℕ). k < length ws) (sym f) low

module _ (o : Options) (below : Bool) (steps : List Step) (t : BitTables) (known : AreTablesOf o steps t) (takes follow : List ℕ)
    (same_takes : takes ≡ t.takes.items) (same_follow : follow ≡ t.follow.items) where
  at_end : length follow ≡ length steps
  at_end = ap (λ (ws : List ℕ). length ws) same_follow ∙ known.states

  -- the end is not live or does not accept: the states after the byte accept what those before it do
  pub over_byte : (live next b : ℕ) (rest bs : List ℕ) → bs ≡ b ∷ rest → b < 256 → get_or takes b 0 < 2 ^ 64 → ((bit_at live (length follow) ≡ 1) × IsTrue (end_test below bs) → ⊥)
      → ((j : ℕ) → (bit_at next j ≡ 1) ↔ InUnion follow (bit_and live (get_or takes b 0)) j)
      → AnyAtOnce o below steps next rest ↔ AnyAtOnce o below steps live bs
  over_byte live next b rest bs split byte fits refused union =
      let taken : ℕ = get_or takes b 0 in
      let tells = λ (k : ℕ) (low : k < 64). subst (λ (ws : List ℕ). (bit_at (get_or ws b 0) k ≡ 1) ↔ Takes o steps b k) (sym same_takes) (known.takes b k byte low) in
      let closed = λ (k : ℕ) (s : Step) (at : slice_get steps k ≡ Some s).
      subst (λ (ws : List ℕ). HasClosure steps (target s k) (get_or ws k 0)) (sym same_follow) (known.follow k s at) in (
        (λ a.
            let from = (union a.0).0 a.1 in
            let hit = (and_bit live taken from.0).0 from.1 in
            let step = (tells from.0 (within_word taken from.0 fits hit.1)).0 hit.1 in
            subst (λ (x : List ℕ). AnyAtOnce o below steps live x) (sym split)
            (from.0, hit.0, inr (step.0, step.1, step.2, (closed from.0 step.0 step.1 o below rest).1 (a.0, from.2, a.2)))),
        (λ h.
            let a = subst (λ (x : List ℕ). AnyAtOnce o below steps live x) split h in
            elim a.2 [
              | inl e ↦ absurd (refused (ap (bit_at live) (at_end ∙ sym e.0) ∙ a.1, ap (end_test below) split ∙ e.1))
              | inr m ↦ (
                  let low = slice_get_within steps a.0 m.0 m.1 in
                  let size = known.ranges.states in
                  let states = known.states in
                  let hit = (and_bit live taken a.0).1 (a.1, (tells a.0 (omega (arith, low, size, states))).1 (m.0, m.1, m.2)) in
                  let on = (closed a.0 m.0 m.1 o below rest).0 m.3 in
                  (on.0, (union on.0).1 (a.0, hit, on.1), on.2))
            ]),
      )

pub is_false : (v : Bool) → (IsTrue v → ⊥) → false ≡ v
is_false true h = absurd (h refl)
is_false false h = refl

-- no state is live
pub none_live : (o : Options) (below : Bool) (steps : List Step) (bs : List ℕ) → AnyAtOnce o below steps 0 bs → ⊥
none_live o below steps bs a = let bit = a.1 in let none = bit_at-zero a.0 in absurd (omega (arith, bit, none))

-- 5. Sets of the states that consume each byte.

abbrev pub TestedSoFar : (ℕ → Bool) → ℕ → ℕ → List ℕ → List ℕ → Type 0
TestedSoFar p state byte old ws = (j : ℕ) → j / 64 < 256 → HasBit ws j ↔ (HasBit old j ⊎ ((j / 64 < byte) × (j % 64 ≡ state) × IsTrue (p (j / 64))))

-- the states before this one are inserted
abbrev pub InsertedSoFar : Options → List Step → ℕ → List ℕ → Type 0
InsertedSoFar o steps state ws = (j : ℕ) → j / 64 < 256 → HasBit ws j ↔ ((j % 64 < state) × Takes o steps (j / 64) (j % 64))

pub inserted_none : (o : Options) (steps : List Step) (ws : List ℕ) → ((j : ℕ) → HasBit ws j → ⊥) → InsertedSoFar o steps 0 ws
inserted_none o steps ws none j within = ((λ h. absurd (none j h)), (λ h. let lt = h.0 in absurd (omega (arith, lt))))

pub inserted_next : (o : Options) (steps : List Step) (s : Step) (state : ℕ) (ws new : List ℕ) → slice_get steps state ≡ Some s
    → ((j : ℕ) → j / 64 < 256 → HasBit new j ↔ (HasBit ws j ⊎ ((j % 64 ≡ state) × IsTrue (takes_byte o s (j / 64)))))
    → InsertedSoFar o steps state ws → InsertedSoFar o steps (state + 1) new
inserted_next o steps s state ws new at put known j within = (
  (λ h. elim ((put j within).0 h) [
    | inl l ↦ (let was = (known j within).0 l in let lt = was.0 in (omega (arith, lt), was.1))
    | inr t ↦ (let is = t.0 in (omega (arith, is), (s, ap (slice_get steps) t.0 ∙ at, t.1)))
  ]),
  (λ h. elim (eqb_tells (j % 64) state) [
    | inl e ↦ (
        let held : slice_get steps (j % 64) ≡ Some s = ap (slice_get steps) e.1 ∙ at in
        let same : h.1.0 ≡ s = (let other = h.1.1 in cc) in
        (put j within).1 (inr (e.1, subst (λ (x : Step). IsTrue (takes_byte o x (j / 64))) same h.1.2)))
    | inr n ↦ (let lt = h.0 in let other = n.1 in (put j within).1 (inl ((known j within).1 (omega (arith, lt, other), h.1))))
  ]),
)

pub inserted_all : (o : Options) (steps : List Step) (state : ℕ) (ws : List ℕ) → length steps ≤ state → InsertedSoFar o steps state ws
    → (j : ℕ) → j / 64 < 256 → HasBit ws j ↔ Takes o steps (j / 64) (j % 64)
inserted_all o steps state ws end known j within = (
  (λ h. ((known j within).0 h).1),
  (λ t. let low = slice_get_within steps (j % 64) t.0 t.1 in (known j within).1 (omega (arith, low, end), t)),
)

-- the states that consume a byte are the bits of its word
pub takes_word : (o : Options) (steps : List Step) (ws : List ℕ) → ((j : ℕ) → j / 64 < 256 → HasBit ws j ↔ Takes o steps (j / 64) (j % 64))
    → (b k : ℕ) → b < 256 → k < 64 → (bit_at (get_or ws b 0) k ≡ 1) ↔ Takes o steps b k
takes_word o steps ws known b k byte low =
    let at : (64 * b + k) / 64 ≡ b = place_of b k low in
    subst (λ (i : ℕ). (bit_at (get_or ws b 0) i ≡ 1) ↔ Takes o steps b i) (bit_of b k low)
    (subst (λ (i : ℕ). (bit_at (get_or ws i 0) ((64 * b + k) % 64) ≡ 1) ↔ Takes o steps i ((64 * b + k) % 64)) at (known (64 * b + k) (rw at byte)))

-- 6. Unions.

-- the union so far, and the states left
abbrev pub UnitedSoFar : List ℕ → ℕ → ℕ → ℕ → Type 0
UnitedSoFar sets states all left = (j : ℕ) → InUnion sets states j ↔ ((bit_at all j ≡ 1) ⊎ InUnion sets left j)

pub united_none : (sets : List ℕ) (states : ℕ) → UnitedSoFar sets states 0 states
united_none sets states j = ((λ u. inr u), (λ h. elim h [ inl a ↦ (let none = bit_at-zero j in absurd (omega (arith, a, none))) | inr u ↦ u ]))

pub united_next : (sets : List ℕ) (states all left k : ℕ) → bit_at left k ≡ 1 → ((i : ℕ) → i < k → bit_at left i ≡ 0) → UnitedSoFar sets states all left
    → UnitedSoFar sets states (bit_or all (get_or sets k 0)) (bit_and left (left - 1))
united_next sets states all left k bit zeros known j =
    let added = or_bit all (get_or sets k 0) j in (
      (λ u. elim ((known j).0 u) [
        | inl a ↦ inl (added.1 (inl a))
        | inr r ↦ elim (eqb_tells r.0 k) [
          | inl e ↦ inl (added.1 (inr (subst (λ (i : ℕ). bit_at (get_or sets i 0) j ≡ 1) e.1 r.2)))
          | inr n ↦ inr (r.0, (clear_lowest left k bit zeros r.0).1 (r.1, n.1), r.2)
        ]
      ]),
      (λ h. (known j).1 (elim h [
        | inl a ↦ elim (added.0 a) [ inl b ↦ inl b | inr b ↦ inr (k, bit, b) ]
        | inr r ↦ inr (r.0, ((clear_lowest left k bit zeros r.0).0 r.1).0, r.2)
      ])),
    )

-- 7. Building the tables.

same_word : (n i x : ℕ) → get_or (replicate n x) i x ≡ x
same_word n i x =
    elim (cases_lt i n) [
      | inl low ↦ get_or-replicate n i x x low
      | inr past ↦ (let len = length-replicate n x in get_or_past (replicate n x) i x (omega (arith, past, len)))
    ]

pub no_bit : (ws : List ℕ) (n : ℕ) → ws ≡ replicate n 0 → (j : ℕ) → HasBit ws j → ⊥
no_bit ws n e j bit =
    let word : get_or ws (j / 64) 0 ≡ 0 = ap (λ (xs : List ℕ). get_or xs (j / 64) 0) e ∙ same_word n (j / 64) 0 in
    let is : bit_at 0 (j % 64) ≡ 1 = ap (λ (x : ℕ). bit_at x (j % 64)) (sym word) ∙ bit in
    let none : bit_at 0 (j % 64) ≡ 0 = bit_at-zero (j % 64) in
    absurd (omega (arith, is, none))

-- the sets of the states before this one
abbrev pub FollowedBefore : List Step → ℕ → List ℕ → Type 0
FollowedBefore steps state follow =
    (k : ℕ) (s : Step) → slice_get steps k ≡ Some s → k < state → HasClosure steps (target s k) (get_or follow k 0)

pub followed_next : (steps : List Step) (s : Step) (state w : ℕ) (old new : List ℕ) → new ≡ old ++ w ∷ [] → length old ≡ state → slice_get steps state ≡ Some s
    → HasClosure steps (target s state) w → FollowedBefore steps state old → FollowedBefore steps (state + 1) new
followed_next steps s state w old new pushed len at closed known k x here low =
    elim (eqb_tells k state) [
      | inl e ↦ (
          let same : x ≡ s = (let other = ap (slice_get steps) e.1 ∙ at in cc) in
          let word : get_or new k 0 ≡ w = ap (λ (ws : List ℕ). get_or ws k 0) pushed ∙ get_or_push old w 0 k (len ∙ sym e.1) in
          subst (λ (v : ℕ). HasClosure steps (target x k) v) (sym word)
          (subst (λ (y : Step). HasClosure steps (target y k) w) (sym same) (subst (λ (i : ℕ). HasClosure steps (target s i) w) (sym e.1) closed)))
      | inr n ↦ (
          let other : k ≢ state = n.1 in
          let before : k < state = omega (arith, low, other) in
          let word : get_or new k 0 ≡ get_or old k 0 =
          ap (λ (ws : List ℕ). get_or ws k 0) pushed ∙ get_or_append_left old (w ∷ []) 0 k (omega (arith, before, len)) in
          subst (λ (v : ℕ). HasClosure steps (target x k) v) (sym word) (known k x here before))
    ]

pub pushed_len : (old new : List ℕ) (w state : ℕ) → new ≡ old ++ w ∷ [] → length old ≡ state → length new ≡ state + 1
pushed_len old new w state pushed len =
    ap (λ (ws : List ℕ). length ws) pushed ∙ length-append old (w ∷ []) ∙ ap (λ (n : ℕ). n + 1) len

pub target_within : (s : Step) (k end : ℕ) → k < end → target s k ≤ end
target_within (Byte c) k end low = omega (arith, low)
target_within AnyByte k end low = omega (arith, low)
target_within (OneOf set) k end low = omega (arith, low)
target_within Star k end low = omega (arith, low)
target_within Everything k end low = omega (arith, low)
target_within (Fork further) k end low = omega (arith, low)
target_within (Jump further) k end low = omega (arith, low)

pub tables_built : (o : Options) (steps : List Step) (t : BitTables) → length steps < 64 → length t.takes.items ≡ 256
    → ((j : ℕ) → j / 64 < 256 → HasBit t.takes.items j ↔ Takes o steps (j / 64) (j % 64))
    → length t.follow.items ≡ length steps → ((k : ℕ) (s : Step) → slice_get steps k ≡ Some s → HasClosure steps (target s k) (get_or t.follow.items k 0))
    → HasClosure steps 0 t.start → AreTablesOf o steps t
tables_built o steps t size bytes known states follow start =
    let takes = takes_word o steps t.takes.items known in
    record {
      ranges = record {
        bytes = bytes;
        states = omega (arith, size, states);
        within = λ b k byte word bit. let held = (takes b k byte word).0 bit in let low = slice_get_within steps k held.0 held.1 in omega (arith, low, states);
      };
      states = states;
      takes = takes;
      follow = follow;
      start = start;
    }
