-- Correctness of the simulation: transitions preserve what the sets of live states accept.
use Rattle.std.proofs.lemmas.Bool.Decides.{eqb_tells}
use Rattle.std.proofs.lemmas.Bool.{eqb-true}
use Rattle.std.specs.Prelude.{slice_get, Some}
use Rattle.std.proofs.Common.{◌≡◌, ◌≢◌, ◌≤◌, length, arith, ◌==◌, ◌↔◌, ◌⊎◌, ◌∙◌, ◌+◌, ◌||◌, ◌&&◌, Bool, true, false, ℕ, List, [], ◌∷◌, IsTrue, ap, sym, subst, refl, inl, inr}
use Rattle.jj_globs.specs.declared.glob.step.Step.{Step}
use Rattle.jj_globs.specs.declared.glob.step.Step.TheVariants.{Byte, AnyByte, OneOf, Star, Everything, Fork, Jump}
use Rattle.jj_globs.specs.declared.glob.token.Options.{Options}
use Rattle.jj_globs.specs.GlobMeaning.{is_plain, same_byte}
use Rattle.jj_globs.specs.GlobBacktracking.{Test, one, many, any_byte}
use Rattle.jj_globs.specs.GlobNfa.{HasBit, AnyLive, AnyAfter, AnyAhead, FollowsTransitions, step_at, TargetsInRange, max_offset, consumes_byte}
use Rattle.jj_globs.proofs.StateTests.{many_same}

-- 1. Transitions as equivalences: S, T, V are accepted by states, A, B, C by sets.

-- two transitions one after the other
pub follows_both : (A B C S T V : Type 0) → (B ↔ (S ⊎ A)) → (C ↔ (T ⊎ B)) → (V ↔ (S ⊎ T)) → C ↔ (V ⊎ A)
follows_both A B C S T V one two is = (
  (λ c. elim (two.0 c) [
    | inl t ↦ inl (is.1 (inr t))
    | inr b ↦ elim (one.0 b) [ inl s ↦ inl (is.1 (inl s)) | inr a ↦ inr a ]
  ]),
  (λ h. elim h [
    | inl v ↦ elim (is.0 v) [ inl s ↦ two.1 (inr (one.1 (inl s))) | inr t ↦ two.1 (inl t) ]
    | inr a ↦ two.1 (inr (one.1 (inr a)))
  ]),
)

-- a state that accepts the same as another
pub follows_equal : (A B : Type 0) (u v : Bool) → v ≡ u → (B ↔ (IsTrue u ⊎ A)) → B ↔ (IsTrue v ⊎ A)
follows_equal A B u v e led = subst (λ x. B ↔ (IsTrue x ⊎ A)) (sym e) led

-- a state that accepts nothing
pub follows_none : (A : Type 0) (v : Bool) → v ≡ false → A ↔ (IsTrue v ⊎ A)
follows_none A v e = ((λ a. inr a), (λ h. elim h [ inl t ↦ (let no : false ≡ true = sym e ∙ t in cc) | inr a ↦ a ]))

-- V accepts S or T, S was entered, and T is left
pub follows_fork : (A B S T V X : Type 0) → (B ↔ (S ⊎ A)) → (V ↔ (S ⊎ T)) → ((V ⊎ A) ↔ X) → (T ⊎ B) ↔ X
follows_fork A B S T V X one is known = (
  (λ h. elim h [
    | inl t ↦ known.0 (inl (is.1 (inr t)))
    | inr b ↦ elim (one.0 b) [ inl s ↦ known.0 (inl (is.1 (inl s))) | inr a ↦ known.0 (inr a) ]
  ]),
  (λ x. elim (known.1 x) [
    | inl v ↦ elim (is.0 v) [ inl s ↦ inr (one.1 (inl s)) | inr t ↦ inl t ]
    | inr a ↦ inr (one.1 (inr a))
  ]),
)

-- a state is removed and inserted again
pub follows_again : (A B C X T : Type 0) → (A ↔ (T ⊎ B)) → (C ↔ (T ⊎ B)) → (A ↔ X) → C ↔ X
follows_again A B C X T out in_again known = ((λ c. known.0 (out.1 (in_again.0 c))), (λ x. in_again.1 (out.0 (known.1 x))))

pub or_is : (a m : Bool) → IsTrue (a || m) ↔ (IsTrue a ⊎ IsTrue m)
or_is true m = ((λ h. inl refl), (λ h. refl))
or_is false m = ((λ h. inr h), (λ h. elim h [ inl e ↦ cc | inr t ↦ t ]))

-- 2. Inserting and removing one state.

-- a state is inserted
any_put : (P : ℕ → Test) (old new bs : List ℕ) (p : ℕ) → ((j : ℕ) → HasBit new j ↔ (HasBit old j ⊎ (j ≡ p)))
    → AnyLive P new bs ↔ (AnyLive P old bs ⊎ IsTrue (P p bs))
any_put P old new bs p live = (
  (λ a. elim ((live a.0).0 a.1) [ inl l ↦ inl (a.0, l, a.2) | inr e ↦ inr (subst (λ (j : ℕ). IsTrue (P j bs)) e a.2) ]),
  (λ h. elim h [ inl a ↦ (a.0, (live a.0).1 (inl a.1), a.2) | inr t ↦ (p, (live p).1 (inr refl), t) ]),
)

pub put_now : (P : ℕ → Test) (now now' next bs : List ℕ) (p : ℕ) → ((j : ℕ) → HasBit now' j ↔ (HasBit now j ⊎ (j ≡ p)))
    → AnyAhead P now' next bs ↔ (IsTrue (P p bs) ⊎ AnyAhead P now next bs)
put_now P now now' next bs p live =
    let more = any_put P now now' bs p live in (
      (λ h. elim h [
        | inl a ↦ elim (more.0 a) [ inl b ↦ inr (inl b) | inr t ↦ inl t ]
        | inr a ↦ inr (inr a)
      ]),
      (λ h. elim h [
        | inl t ↦ inl (more.1 (inr t))
        | inr g ↦ elim g [ inl b ↦ inl (more.1 (inl b)) | inr b ↦ inr b ]
      ]),
    )

pub put_next : (P : ℕ → Test) (now next next' bs : List ℕ) (q b : ℕ) (rest : List ℕ) → bs ≡ b ∷ rest
    → ((j : ℕ) → HasBit next' j ↔ (HasBit next j ⊎ (j ≡ q)))
    → AnyAhead P now next' bs ↔ (IsTrue (P q rest) ⊎ AnyAhead P now next bs)
put_next P now next next' bs q b rest e live =
    let more = any_put P next next' rest q live in
    subst (λ (x : List ℕ). AnyAhead P now next' x ↔ (IsTrue (P q rest) ⊎ AnyAhead P now next x)) (sym e) (
      (λ h. elim h [
        | inl a ↦ inr (inl a)
        | inr a ↦ elim (more.0 a) [ inl b ↦ inr (inr b) | inr t ↦ inl t ]
      ]),
      (λ h. elim h [
        | inl t ↦ inr (more.1 (inr t))
        | inr g ↦ elim g [ inl b ↦ inl b | inr b ↦ inr (more.1 (inl b)) ]
      ]),
    )

-- the set is unchanged
pub any_same : (P : ℕ → Test) (old new bs : List ℕ) → ((j : ℕ) → HasBit new j ↔ HasBit old j) → AnyLive P new bs ↔ AnyLive P old bs
any_same P old new bs same = ((λ a. (a.0, (same a.0).0 a.1, a.2)), (λ a. (a.0, (same a.0).1 a.1, a.2)))

-- a state is removed
pub any_take : (P : ℕ → Test) (old new bs : List ℕ) (p : ℕ) → HasBit old p → ((j : ℕ) → HasBit new j ↔ (HasBit old j × (j ≢ p)))
    → AnyLive P old bs ↔ (IsTrue (P p bs) ⊎ AnyLive P new bs)
any_take P old new bs p live taken = (
  (λ a. elim (eqb_tells a.0 p) [ inl w ↦ inl (subst (λ (j : ℕ). IsTrue (P j bs)) w.1 a.2) | inr w ↦ inr (a.0, (taken a.0).1 (a.1, w.1), a.2) ]),
  (λ h. elim h [ inl t ↦ (p, live, t) | inr a ↦ (a.0, ((taken a.0).0 a.1).0, a.2) ]),
)

pub take_now : (P : ℕ → Test) (now taken next bs : List ℕ) (p : ℕ) → HasBit now p → ((j : ℕ) → HasBit taken j ↔ (HasBit now j × (j ≢ p)))
    → AnyAhead P now next bs ↔ (IsTrue (P p bs) ⊎ AnyAhead P taken next bs)
take_now P now taken next bs p live out =
    let less = any_take P now taken bs p live out in (
      (λ h. elim h [
        | inl a ↦ elim (less.0 a) [ inl t ↦ inl t | inr b ↦ inr (inl b) ]
        | inr a ↦ inr (inr a)
      ]),
      (λ h. elim h [
        | inl t ↦ inl (less.1 (inl t))
        | inr g ↦ elim g [ inl b ↦ inl (less.1 (inr b)) | inr b ↦ inr b ]
      ]),
    )

-- 3. The language of each kind of step.

pub star_value : (o : Options) (P : ℕ → Test) (s : Step) (k b : ℕ) (rest bs : List ℕ) → s ≡ Star → bs ≡ b ∷ rest → is_plain o b ≡ true
    → ((xs : List ℕ) → P k xs ≡ step_at o P s k xs) → IsTrue (P k bs) ↔ (IsTrue (P (k + 1) bs) ⊎ IsTrue (P k rest))
star_value o P s k b rest bs e split plain tells =
    let star : (xs : List ℕ) → P k xs ≡ many (is_plain o) (P (k + 1)) xs = λ xs. tells xs ∙ ap (λ (x : Step). step_at o P x k xs) e in
    let value : P k (b ∷ rest) ≡ (P (k + 1) (b ∷ rest) || P k rest) =
    star (b ∷ rest) ∙ ap (λ v. P (k + 1) (b ∷ rest) || (v && many (is_plain o) (P (k + 1)) rest)) plain
    ∙ ap (λ v. P (k + 1) (b ∷ rest) || v) (sym (star rest)) in
    subst (λ (x : List ℕ). IsTrue (P k x) ↔ (IsTrue (P (k + 1) x) ⊎ IsTrue (P k rest))) (sym split)
    (subst (λ v. IsTrue v ↔ (IsTrue (P (k + 1) (b ∷ rest)) ⊎ IsTrue (P k rest))) (sym value) (or_is (P (k + 1) (b ∷ rest)) (P k rest)))

-- a star before a byte that it does not match
pub star_ends : (o : Options) (P : ℕ → Test) (s : Step) (k b : ℕ) (rest bs : List ℕ) → s ≡ Star → bs ≡ b ∷ rest → is_plain o b ≡ false
    → ((xs : List ℕ) → P k xs ≡ step_at o P s k xs) → P k bs ≡ P (k + 1) bs
star_ends o P s k b rest bs e split plain tells =
    ap (P k) split ∙ tells (b ∷ rest) ∙ ap (λ (x : Step). step_at o P x k (b ∷ rest)) e
    ∙ ap (λ v. P (k + 1) (b ∷ rest) || (v && many (is_plain o) (P (k + 1)) rest)) plain
    ∙ or_false (P (k + 1) (b ∷ rest)) ∙ ap (P (k + 1)) (sym split)
  where
    or_false : (v : Bool) → (v || false) ≡ v
    or_false true = refl
    or_false false = refl

-- a star or `Everything` at the end of the bytes
pub any_at_end : (o : Options) (P : ℕ → Test) (s : Step) (k : ℕ) (bs : List ℕ) → (s ≡ Star) ⊎ (s ≡ Everything) → bs ≡ []
    → ((xs : List ℕ) → P k xs ≡ step_at o P s k xs) → P k bs ≡ P (k + 1) bs
any_at_end o P s k bs which split tells =
    ap (P k) split ∙ tells [] ∙ elim which [
      | inl e ↦ ap (λ (x : Step). step_at o P x k []) e
      | inr e ↦ ap (λ (x : Step). step_at o P x k []) e
    ] ∙ ap (P (k + 1)) (sym split)

pub everything_value : (o : Options) (P : ℕ → Test) (s : Step) (k b : ℕ) (rest bs : List ℕ) → s ≡ Everything → bs ≡ b ∷ rest
    → ((xs : List ℕ) → P k xs ≡ step_at o P s k xs) → IsTrue (P k bs) ↔ (IsTrue (P (k + 1) bs) ⊎ IsTrue (P k rest))
everything_value o P s k b rest bs e split tells =
    let any : (xs : List ℕ) → P k xs ≡ many any_byte (P (k + 1)) xs = λ xs. tells xs ∙ ap (λ (x : Step). step_at o P x k xs) e in
    let value : P k (b ∷ rest) ≡ (P (k + 1) (b ∷ rest) || P k rest) =
    any (b ∷ rest) ∙ ap (λ v. P (k + 1) (b ∷ rest) || v) (sym (any rest)) in
    subst (λ (x : List ℕ). IsTrue (P k x) ↔ (IsTrue (P (k + 1) x) ⊎ IsTrue (P k rest))) (sym split)
    (subst (λ v. IsTrue v ↔ (IsTrue (P (k + 1) (b ∷ rest)) ⊎ IsTrue (P k rest))) (sym value) (or_is (P (k + 1) (b ∷ rest)) (P k rest)))

pub fork_value : (o : Options) (P : ℕ → Test) (k n : ℕ) (bs : List ℕ) → P k bs ≡ step_at o P (Fork n) k bs
    → IsTrue (P k bs) ↔ (IsTrue (P (k + 1) bs) ⊎ IsTrue (P (k + 1 + n) bs))
fork_value o P k n bs tells =
    subst (λ v. IsTrue v ↔ (IsTrue (P (k + 1) bs) ⊎ IsTrue (P (k + 1 + n) bs))) (sym tells) (or_is (P (k + 1) bs) (P (k + 1 + n) bs))

-- all other steps consume one byte
pub is_byte_step : (s : Step) → (s ≡ Star → ⊥) → (s ≡ Everything → ⊥) → ((n : ℕ) → s ≡ Fork n → ⊥) → ((n : ℕ) → s ≡ Jump n → ⊥) → consumes_byte s ≡ true
is_byte_step (Byte c) h i j k = refl
is_byte_step AnyByte h i j k = refl
is_byte_step (OneOf set) h i j k = refl
is_byte_step Star h i j k = absurd (h refl)
is_byte_step Everything h i j k = absurd (i refl)
is_byte_step (Fork n) h i j k = absurd (j n refl)
is_byte_step (Jump n) h i j k = absurd (k n refl)

-- bytes that `Everything` skips before a literal byte
pub passed_over : (o : Options) (P : ℕ → Test) (k own : ℕ) (bs rest : List ℕ)
    → ((xs : List ℕ) → P k xs ≡ step_at o P Everything k xs) → ((xs : List ℕ) → P (k + 1) xs ≡ step_at o P (Byte own) (k + 1) xs)
    → ((t : Test) → many any_byte (one (same_byte o own) t) bs ≡ many any_byte (one (same_byte o own) t) rest) → P k bs ≡ P k rest
passed_over o P k own bs rest tells after same =
    let any : (xs : List ℕ) → P k xs ≡ many any_byte (one (same_byte o own) (P (k + 1 + 1))) xs =
    λ xs. tells xs ∙ many_same any_byte (P (k + 1)) (one (same_byte o own) (P (k + 1 + 1))) after xs in
    any bs ∙ same (P (k + 1 + 1)) ∙ sym (any rest)

-- 4. Advancing over a byte.

-- a set of one inserted state
pub started : (P : ℕ → Test) (old new bs : List ℕ) (p : ℕ) → ((j : ℕ) → HasBit old j → ⊥) → ((j : ℕ) → HasBit new j ↔ (HasBit old j ⊎ (j ≡ p)))
    → AnyLive P new bs ↔ IsTrue (P p bs)
started P old new bs p none live =
    let more = any_put P old new bs p live in (
      (λ a. elim (more.0 a) [ inl b ↦ absurd (none b.0 b.1) | inr t ↦ t ]),
      (λ t. more.1 (inr t)),
    )

none_after : (P : ℕ → Test) (next bs : List ℕ) → ((j : ℕ) → HasBit next j → ⊥) → AnyAfter P next bs → ⊥
none_after P next [] none h = h
none_after P next (b ∷ bs) none h = none h.0 h.1

pub accepted : (P : ℕ → Test) (now next bs : List ℕ) (X : Type 0) → ((j : ℕ) → HasBit next j → ⊥)
    → AnyAhead P now next bs → (AnyLive P now bs ↔ X) → X
accepted P now next bs X none h known = elim h [ inl a ↦ known.0 a | inr b ↦ absurd (none_after P next bs none b) ]

pub moved : (P : ℕ → Test) (now next next' bs : List ℕ) (b : ℕ) (rest : List ℕ) (X : Type 0) → bs ≡ b ∷ rest → ((j : ℕ) → HasBit next j → ⊥)
    → (AnyAfter P next' bs ↔ AnyAhead P now next bs) → (AnyLive P now bs ↔ X) → AnyLive P next' rest ↔ X
moved P now next next' bs b rest X e none step known =
    let led = subst (λ (x : List ℕ). AnyAfter P next' x ↔ AnyAhead P now next bs) e step in (
      (λ a. accepted P now next bs X none (led.0 a) known),
      (λ x. led.1 (inl (known.1 x))),
    )

-- no byte is left
pub ended : (P : ℕ → Test) (now next next' bs : List ℕ) (X : Type 0) → bs ≡ []
    → (AnyAfter P next' bs ↔ AnyAhead P now next bs) → (AnyLive P now bs ↔ X) → X → ⊥
ended P now next next' bs X e step known x =
    let led = subst (λ (y : List ℕ). AnyAfter P next' y ↔ AnyAhead P now next bs) e step in led.1 (inl (known.1 x))

-- a state is removed and inserted again
pub put_back : (now taken new : List ℕ) (p : ℕ) → HasBit now p → ((j : ℕ) → HasBit taken j ↔ (HasBit now j × (j ≢ p)))
    → ((j : ℕ) → HasBit new j ↔ (HasBit taken j ⊎ (j ≡ p))) → (j : ℕ) → HasBit new j ↔ HasBit now j
put_back now taken new p live out back j = (
  (λ h. elim ((back j).0 h) [ inl l ↦ ((out j).0 l).0 | inr e ↦ subst (HasBit now) (sym e) live ]),
  (λ h. elim (eqb_tells j p) [ inl w ↦ (back j).1 (inr w.1) | inr w ↦ (back j).1 (inl ((out j).1 (h, w.1))) ]),
)

-- a set with a single state
pub alone : (P : ℕ → Test) (now taken bs : List ℕ) (p : ℕ) → HasBit now p → ((j : ℕ) → HasBit taken j ↔ (HasBit now j × (j ≢ p)))
    → ((j : ℕ) → HasBit taken j → ⊥) → AnyLive P now bs ↔ IsTrue (P p bs)
alone P now taken bs p live out none =
    let less = any_take P now taken bs p live out in (
      (λ a. elim (less.0 a) [ inl t ↦ t | inr b ↦ absurd (none b.0 b.1) ]),
      (λ t. less.1 (inl t)),
    )

pub no_bytes : (bs : List ℕ) → length bs ≡ 0 → bs ≡ []
no_bytes [] e = refl
no_bytes (b ∷ bs) e = absurd (omega (arith, e))

pub same_bool : (a b : Bool) → (IsTrue a ↔ IsTrue b) → a ≡ b
same_bool true b h = sym (h.0 refl)
same_bool false true h = h.1 refl
same_bool false false h = refl

-- a byte is left
pub some_bytes : (bs : List ℕ) → (length bs == 0) ≡ false → (b : ℕ) × (rest : List ℕ) × (bs ≡ b ∷ rest)
some_bytes [] e = cc
some_bytes (b ∷ bs) e = (b, bs, refl)

pub none_left : (bs : List ℕ) → (length bs == 0) ≡ true → bs ≡ []
none_left bs e = no_bytes bs (eqb-true (length bs) 0 e)

-- a step leads no further than the end
pub leads_inside : (steps : List Step) (k : ℕ) (s t : Step) → TargetsInRange steps → slice_get steps k ≡ Some s → s ≡ t → k + 1 + max_offset t ≤ length steps
leads_inside steps k s t inside at e = subst (λ (x : Step). k + 1 + max_offset x ≤ length steps) e (inside k s at)

-- 5. Transitions of a live state.

module _ (o : Options) (steps : List Step) (s : Step) (state target : ℕ) (bs now next now' next' : List ℕ) (at : slice_get steps state ≡ Some s) (led : FollowsTransitions o steps target bs now next now' next') where
  -- an epsilon transition
  pub follows_epsilon : ((P : ℕ → Test) → ((xs : List ℕ) → P state xs ≡ step_at o P s state xs) → P state bs ≡ P target bs) → FollowsTransitions o steps state bs now next now' next'
  follows_epsilon same = λ below P solves.
      follows_equal (AnyAhead P now next bs) (AnyAhead P now' next' bs) (P target bs) (P state bs) (same P (solves.at_step state s at)) (led below P solves)

  -- an epsilon transition, and a loop over a byte
  pub follows_loop : (next2 : List ℕ) (b : ℕ) (rest : List ℕ) → bs ≡ b ∷ rest → ((j : ℕ) → HasBit next2 j ↔ (HasBit next' j ⊎ (j ≡ state)))
      → ((P : ℕ → Test) → ((xs : List ℕ) → P state xs ≡ step_at o P s state xs) → IsTrue (P state bs) ↔ (IsTrue (P target bs) ⊎ IsTrue (P state rest)))
      → FollowsTransitions o steps state bs now next now' next2
  follows_loop next2 b rest split live value = λ below P solves.
      follows_both (AnyAhead P now next bs) (AnyAhead P now' next' bs) (AnyAhead P now' next2 bs) (IsTrue (P target bs)) (IsTrue (P state rest)) (IsTrue (P state bs)) (led below P solves)
      (put_next P now' next' next2 bs state b rest split live) (value P (solves.at_step state s at))
