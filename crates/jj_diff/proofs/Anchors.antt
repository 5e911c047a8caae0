-- Tokens that occur once in each part of a row.
use Rattle.std.proofs.Common.{◌≡◌, ℕ, suc, zero, ◌+◌, ◌<◌, ◌≤◌, List, [], ◌∷◌, ◌++◌, length, filter, get_or, Bor, refl, ap, sym, ◌∙◌, subst, arith, below_more, Bool, true, false, cond, inl, inr}
use Rattle.std.proofs.lemmas.Bool.{cases_lt}
use Rattle.std.proofs.lemmas.Grind.{common_steps, elements}
use Rattle.std.specs.List.{range_with_len, slice_range}
use Rattle.std.specs.Global.{Global}
use Rattle.std.specs.declared.vec.Vec.{Vec}
use Rattle.jj_diff.specs.Tokens.{IsCut, TokenEnds}
use Rattle.jj_diff.specs.Inputs.{bytes_of}
use Rattle.jj_diff.specs.Anchors.{token_offsets, token_at, StandsAtBy, StandsOnceAmong, StandsOnceInEach, HasFewTokens, IsCommonTokenBy, AreOffsets, AreRowOffsets, AreTokenOffsets, AreFew, AreTokenRanges, IsTokenRange, IsAnchor, lists_of}
use Rattle.jj_diff.proofs.Rows.{none, none_at, length-bytes_of}

-- the numbers of a range that pass
abbrev passing : (ℕ → Bool) → ℕ → ℕ → List ℕ
passing p a n = filter p (range_with_len a n)

-- element k passes, and is in the range
abbrev IsPassing : (ℕ → Bool) → ℕ → ℕ → List ℕ → Type 0
IsPassing p a n xs = (k : ℕ) → k < length xs → (p (get_or xs k 0) ≡ true) × (a ≤ get_or xs k 0) × (get_or xs k 0 < a + n)

passing_head : (p : ℕ → Bool) (a n : ℕ) (xs : List ℕ) → p a ≡ true → IsPassing p (a + 1) n xs → IsPassing p a (suc n) (a ∷ xs)
passing_head p a n xs e rest zero lt = (e, omega arith, omega arith)
passing_head p a n xs e rest (suc k) lt =
    let here : (p (get_or xs k 0) ≡ true) × (a + 1 ≤ get_or xs k 0) × (get_or xs k 0 < a + 1 + n) = rest k (omega arith) in
    (here.0, omega (arith, here.1), omega (arith, here.2))

passing_all : (p : ℕ → Bool) (a n : ℕ) → IsPassing p a n (passing p a n)
passing_all p a zero = λ k lt. absurd (omega arith)
passing_all p a (suc n) =
    let rest : IsPassing p (a + 1) n (passing p (a + 1) n) = passing_all p (a + 1) n in
    elim (p a) as (λ b. p a ≡ b → IsPassing p a (suc n) (cond b (a ∷ passing p (a + 1) n) (passing p (a + 1) n))) [
      | true ↦ λ e. passing_head p a n (passing p (a + 1) n) e rest
      | false ↦ λ e k lt.
          let here : (p (get_or (passing p (a + 1) n) k 0) ≡ true) × (a + 1 ≤ get_or (passing p (a + 1) n) k 0) × (get_or (passing p (a + 1) n) k 0 < a + 1 + n) = rest k lt in
          (here.0, omega (arith, here.1), omega (arith, here.2))
    ] refl

-- each number is less than the next
abbrev Increases : List ℕ → Type 0
Increases xs = (k : ℕ) → suc k < length xs → get_or xs k 0 < get_or xs (suc k) 0

increases_head : (a : ℕ) (xs : List ℕ) → ((k : ℕ) → k < length xs → a < get_or xs k 0) → Increases xs → Increases (a ∷ xs)
increases_head a xs above rest zero lt = above 0 (omega arith)
increases_head a xs above rest (suc k) lt = rest k (omega arith)

passing_increases : (p : ℕ → Bool) (a n : ℕ) → Increases (passing p a n)
passing_increases p a zero = λ k lt. absurd (omega arith)
passing_increases p a (suc n) = elim (p a) as (λ b. Increases (cond b (a ∷ passing p (a + 1) n) (passing p (a + 1) n))) [
  | true ↦ increases_head a (passing p (a + 1) n) (λ k lt. omega (arith, (passing_all p (a + 1) n k lt).1)) (passing_increases p (a + 1) n)
  | false ↦ passing_increases p (a + 1) n
]

module _ (t : TokenEnds) (text : List ℕ) where
  offsets_increase : Increases (token_offsets t text)
  offsets_increase = increases_head 0 (passing (t text) 1 (length text))
      (λ k lt. omega (arith, (passing_all (t text) 1 (length text) k lt).1))
      (passing_increases (t text) 1 (length text))

  offset_cut : (k : ℕ) → k < length (token_offsets t text) → IsCut t text (get_or (token_offsets t text) k 0)
  offset_cut zero lt = inl refl
  offset_cut (suc k) lt = inr (passing_all (t text) 1 (length text) k (omega arith)).0

  offset_within : (k : ℕ) → k < length (token_offsets t text) → get_or (token_offsets t text) k 0 ≤ length text
  offset_within zero lt = omega arith
  offset_within (suc k) lt = omega (arith, (passing_all (t text) 1 (length text) k (omega arith)).2)

  offset_next : (k : ℕ) → k + 1 < length (token_offsets t text)
      → get_or (token_offsets t text) k 0 < get_or (token_offsets t text) (k + 1) 0
  offset_next k lt =
      let e : suc k ≡ k + 1 = omega arith in
      subst (λ j. get_or (token_offsets t text) k 0 < get_or (token_offsets t text) j 0) e (offsets_increase k (omega arith))

  are_offsets : AreOffsets text (token_offsets t text)
  are_offsets = record {
    some = omega arith;
    ordered = λ k lt. omega (arith, offset_next k lt);
    within = offset_within;
  }

-- the offsets of the tokens of each part
pub row_offsets : (t : TokenEnds) (row offsets : List (List ℕ)) → AreTokenOffsets t row offsets → AreRowOffsets row offsets
row_offsets t row offsets tokens = record {
  len = tokens.len;
  each = λ i lt. subst (AreOffsets (get_or row i [])) (sym (tokens.each i lt)) (are_offsets t (get_or row i []));
}

-- A search for one token, from the start and from the first hit on.
module _ (form : List ℕ → List ℕ) (text offsets token : List ℕ) (first : ℕ) where
  pub once_none : first + 1 ≡ length offsets → ((j : ℕ) → 0 ≤ j → j < first → ¬ (form (token_at text offsets j) ≡ token))
      → ¬ (StandsOnceAmong form text offsets token)
  once_none e before once = before once.0 (omega arith) (omega (arith, once.1.0)) once.1.1

  pub once_found : ((j : ℕ) → 0 ≤ j → j < first → ¬ (form (token_at text offsets j) ≡ token)) → StandsOnceAmong form text offsets token
      → first < length offsets → first + 1 < length offsets
  once_found before once lt = elim (cases_lt (first + 1) (length offsets)) [
    | inl mt ↦ mt
    | inr le ↦ absurd (before once.0 (omega arith) (omega (arith, once.1.0)) once.1.1)
  ]

  pub once_one : (second : ℕ) → first + 1 < length offsets → form (token_at text offsets first) ≡ token
      → ((j : ℕ) → 0 ≤ j → j < first → ¬ (form (token_at text offsets j) ≡ token)) → second + 1 ≡ length offsets
      → ((j : ℕ) → first + 1 ≤ j → j < second → ¬ (form (token_at text offsets j) ≡ token)) → StandsOnceAmong form text offsets token
  once_one second lt found before e after = (
    first,
    (lt, found),
    λ j at. elim (cases_lt j first) [
      | inl below ↦ absurd (before j (omega arith) below at.1)
      | inr above ↦ elim (cases_lt first j) [
        | inl past ↦ absurd (after j (omega arith) (omega (arith, at.0)) at.1)
        | inr same ↦ omega arith
      ]
    ],
  )

  pub once_two : (second : ℕ) → first + 1 < length offsets → form (token_at text offsets first) ≡ token → first + 1 ≤ second
      → second + 1 < length offsets → form (token_at text offsets second) ≡ token → ¬ (StandsOnceAmong form text offsets token)
  once_two second lt found past mt next once =
      omega (arith, once.2 first (lt, found), once.2 second (mt, next))

-- the list at index i
pub lists_at : (vs : List (Vec ℕ Global)) (i : ℕ) (d : Vec ℕ Global) → i < length vs → get_or (lists_of vs) i [] ≡ (get_or vs i d).items
lists_at vs i d lt = grind (arith, common_steps, elements)

pub length-lists : (vs : List (Vec ℕ Global)) → length (lists_of vs) ≡ length vs
length-lists [] = refl
length-lists (v ∷ vs) = ap suc (length-lists vs)

pub lists-push : (vs : List (Vec ℕ Global)) (v : Vec ℕ Global) → lists_of (vs ++ v ∷ []) ≡ lists_of vs ++ v.items ∷ []
lists-push [] v = refl
lists-push (w ∷ vs) v = ap (λ xs. w.items ∷ xs) (lists-push vs v)

-- the list that was read
pub list_ref : (vs : List (Vec ℕ Global)) (i : ℕ) (v : Vec ℕ Global) (xs : List ℕ) → i < length vs → v ≡ get_or vs i v
    → xs ≡ v.items → xs ≡ get_or (lists_of vs) i []
list_ref vs i v xs lt e f = f ∙ ap (λ u. u.items) e ∙ sym (lists_at vs i v lt)

pub not_few : (vs : List (Vec ℕ Global)) (i : ℕ) (v : Vec ℕ Global) → i < length vs → v ≡ get_or vs i v
    → 65 < length v.items → ¬ (AreFew (lists_of vs))
not_few vs i v lt e many few =
    omega (arith, ap length (list_ref vs i v v.items lt e refl), few i (omega (arith, length-lists vs)))

-- One part of a row and its offsets, as they are read.
module _ (refs : List (Bor (List ℕ))) (vs : List (Vec ℕ Global)) (i : ℕ) (xs : List ℕ) where
  pub offsets_at : AreRowOffsets (bytes_of refs) (lists_of vs) → i < length refs → xs ≡ get_or (lists_of vs) i []
      → AreOffsets (get_or refs i none).now xs
  offsets_at are lt e =
      subst (AreOffsets (get_or refs i none).now) (sym e) (
      subst (λ ys. AreOffsets ys (get_or (lists_of vs) i [])) (none_at refs i) (are.each i (omega (arith, length-bytes_of refs))))

  pub each_at : (form : List ℕ → List ℕ) (token : List ℕ) → StandsOnceInEach form (bytes_of refs) (lists_of vs) token → i < length refs → xs ≡ get_or (lists_of vs) i []
      → StandsOnceAmong form (get_or refs i none).now xs token
  each_at form token each lt e =
      subst (λ os. StandsOnceAmong form (get_or refs i none).now os token) (sym e) (
      subst (λ ys. StandsOnceAmong form ys (get_or (lists_of vs) i []) token) (none_at refs i) (each i (omega (arith, length-bytes_of refs))))

  pub each_more : (form : List ℕ → List ℕ) (token : List ℕ) → xs ≡ get_or (lists_of vs) i [] → StandsOnceAmong form (get_or refs i none).now xs token
      → ((j : ℕ) → j < i → StandsOnceAmong form (get_or (bytes_of refs) j []) (get_or (lists_of vs) j []) token)
      → (j : ℕ) → j < i + 1 → StandsOnceAmong form (get_or (bytes_of refs) j []) (get_or (lists_of vs) j []) token
  each_more form token e here before =
      below_more (λ j. StandsOnceAmong form (get_or (bytes_of refs) j []) (get_or (lists_of vs) j []) token) i before
      (subst (λ ys. StandsOnceAmong form ys (get_or (lists_of vs) i []) token) (sym (none_at refs i)) (
      subst (λ os. StandsOnceAmong form (get_or refs i none).now os token) e here))

  pub stands_at : (form : List ℕ → List ℕ) (k : ℕ) (token : List ℕ) → xs ≡ get_or (lists_of vs) i [] → k + 1 < length xs
      → form (token_at (get_or refs i none).now xs k) ≡ token → StandsAtBy form (get_or (bytes_of refs) i []) (get_or (lists_of vs) i []) token k
  stands_at form k token e lt at =
      subst (λ ys. StandsAtBy form ys (get_or (lists_of vs) i []) token k) (sym (none_at refs i)) (
      subst (λ os. StandsAtBy form (get_or refs i none).now os token k) e (lt, at))

pub length_push : (xs : List ℕ) (x : ℕ) → length (xs ++ x ∷ []) ≡ length xs + 1
length_push xs x = grind (arith, common_steps)

list_before : (xs : List (List ℕ)) (x : List ℕ) (n i : ℕ) → length xs ≡ n → i < n → get_or (xs ++ x ∷ []) i [] ≡ get_or xs i []
list_before xs x n i e lt = grind (arith, common_steps, elements)

list_here : (xs : List (List ℕ)) (x : List ℕ) (n : ℕ) → length xs ≡ n → get_or (xs ++ x ∷ []) n [] ≡ x
list_here xs x n e = grind (arith, common_steps, elements)

-- one more list
pub lists_more : (want : ℕ → List ℕ) (n : ℕ) (vs ws : List (Vec ℕ Global)) (v : Vec ℕ Global) → ws ≡ vs ++ v ∷ []
    → length vs ≡ n → ((i : ℕ) → i < n → get_or (lists_of vs) i [] ≡ want i) → v.items ≡ want n
    → (i : ℕ) → i < n + 1 → get_or (lists_of ws) i [] ≡ want i
lists_more want n vs ws v e len before here =
    below_more (λ i. get_or (lists_of ws) i [] ≡ want i) n
    (λ i lt. ap (λ us. get_or (lists_of us) i []) e ∙ ap (λ xs. get_or xs i []) (lists-push vs v)
    ∙ list_before (lists_of vs) v.items n i (length-lists vs ∙ len) lt ∙ before i lt)
    (ap (λ us. get_or (lists_of us) n []) e ∙ ap (λ xs. get_or xs n []) (lists-push vs v)
    ∙ list_here (lists_of vs) v.items n (length-lists vs ∙ len) ∙ here)

number_before : (xs : List ℕ) (x n i : ℕ) → length xs ≡ n → i < n → get_or (xs ++ x ∷ []) i 0 ≡ get_or xs i 0
number_before xs x n i e lt = grind (arith, common_steps, elements)

number_here : (xs : List ℕ) (x n : ℕ) → length xs ≡ n → get_or (xs ++ x ∷ []) n 0 ≡ x
number_here xs x n e = grind (arith, common_steps, elements)

-- the range of the token in one more part
pub ranges_more : (form : List ℕ → List ℕ) (row offsets : List (List ℕ)) (token starts ends starts' ends' : List ℕ) (start end n k : ℕ)
    → starts' ≡ starts ++ start ∷ [] → ends' ≡ ends ++ end ∷ [] → length starts ≡ n → length ends ≡ n
    → ((i : ℕ) → i < n → IsTokenRange form row offsets token starts ends i)
    → StandsAtBy form (get_or row n []) (get_or offsets n []) token k → start ≡ get_or (get_or offsets n []) k 0
    → end ≡ get_or (get_or offsets n []) (k + 1) 0
    → (i : ℕ) → i < n + 1 → IsTokenRange form row offsets token starts' ends' i
ranges_more form row offsets token starts ends starts' ends' start end n k e f starts_len ends_len before at a b =
    below_more (λ i. IsTokenRange form row offsets token starts' ends' i) n
    (λ i lt.
    let r : IsTokenRange form row offsets token starts ends i = before i lt in (
      r.0,
      r.1,
      ap (λ xs. get_or xs i 0) e ∙ number_before starts start n i starts_len lt ∙ r.2,
      ap (λ xs. get_or xs i 0) f ∙ number_before ends end n i ends_len lt ∙ r.3,
    )) (
      k,
      at,
      ap (λ xs. get_or xs n 0) e ∙ number_here starts start n starts_len ∙ a,
      ap (λ xs. get_or xs n 0) f ∙ number_here ends end n ends_len ∙ b,
    )

-- the ranges of a token that occurs once in each part
pub anchor_ranges : (form : List ℕ → List ℕ) (t : TokenEnds) (row offsets : List (List ℕ)) (token starts ends : List ℕ) → 0 < length row
    → AreTokenOffsets t row offsets → AreTokenRanges form row offsets token starts ends → IsAnchor form t row starts ends
anchor_ranges form t row offsets token starts ends some tokens found =
    let at : (i : ℕ) → i < length row → (k : ℕ) × (k + 1 < length (token_offsets t (get_or row i [])))
    × (form (token_at (get_or row i []) (token_offsets t (get_or row i [])) k) ≡ token)
    × (get_or starts i 0 ≡ get_or (token_offsets t (get_or row i [])) k 0)
    × (get_or ends i 0 ≡ get_or (token_offsets t (get_or row i [])) (k + 1) 0) =
    λ i lt. subst (λ os. (k : ℕ) × (k + 1 < length os) × (form (token_at (get_or row i []) os k) ≡ token)
    × (get_or starts i 0 ≡ get_or os k 0) × (get_or ends i 0 ≡ get_or os (k + 1) 0)) (tokens.each i lt)
    (let f : IsTokenRange form row offsets token starts ends i = found.tokens i lt in
    (f.0, f.1.0, f.1.1, f.2, f.3)) in
    let part : (i : ℕ) → i < length row → form (slice_range (get_or row i []) (get_or starts i 0) (get_or ends i 0)) ≡ token =
    λ i lt. ap (λ a. form (slice_range (get_or row i []) a (get_or ends i 0))) (at i lt).3
    ∙ ap (λ b. form (slice_range (get_or row i []) (get_or (token_offsets t (get_or row i [])) (at i lt).0 0) b)) (at i lt).4
    ∙ (at i lt).2 in
    record {
      ranges = record {
        starts_len = found.starts_len;
        ends_len = found.ends_len;
        ordered = λ i lt. omega (arith, (at i lt).3, (at i lt).4, offset_next t (get_or row i []) (at i lt).0 (at i lt).1);
        within = λ i lt. omega (arith, (at i lt).4, offset_within t (get_or row i []) ((at i lt).0 + 1) (at i lt).1);
      };
      nonempty = λ i lt. omega (arith, (at i lt).3, (at i lt).4, offset_next t (get_or row i []) (at i lt).0 (at i lt).1);
      start_cuts = λ i lt. subst (IsCut t (get_or row i [])) (sym (at i lt).3)
          (offset_cut t (get_or row i []) (at i lt).0 (omega (arith, (at i lt).1)));
      end_cuts = λ i lt. subst (IsCut t (get_or row i [])) (sym (at i lt).4)
          (offset_cut t (get_or row i []) ((at i lt).0 + 1) (at i lt).1);
      equal = λ i lt. part i lt ∙ sym (part 0 some);
    }

-- a common token is once between the offsets of each part
common_each : (form : List ℕ → List ℕ) (t : TokenEnds) (row offsets : List (List ℕ)) (token : List ℕ) → AreTokenOffsets t row offsets
    → IsCommonTokenBy form t row token → StandsOnceInEach form row offsets token
common_each form t row offsets token tokens common i lt =
    subst (λ os. StandsOnceAmong form (get_or row i []) os token) (sym (tokens.each i lt)) (common.once i lt)

pub no_few : (t : TokenEnds) (row offsets : List (List ℕ)) → AreTokenOffsets t row offsets → ¬ (AreFew offsets) → ¬ (HasFewTokens t row)
no_few t row offsets tokens many few = many (λ i lt.
    let mt : i < length row = omega (arith, tokens.len) in
    omega (arith, few i mt, ap length (tokens.each i mt)))

-- no token of the first part occurs once in each
no_token : (form : List ℕ → List ℕ) (t : TokenEnds) (row offsets : List (List ℕ)) → AreTokenOffsets t row offsets
    → ((k : ℕ) → k + 1 < length (get_or offsets 0 [])
    → ¬ (StandsOnceInEach form row offsets (form (token_at (get_or row 0 []) (get_or offsets 0 []) k))))
    → (token : List ℕ) → ¬ (IsCommonTokenBy form t row token)
no_token form t row offsets tokens absent token common =
    let each : StandsOnceInEach form row offsets token = common_each form t row offsets token tokens common in
    let first : StandsOnceAmong form (get_or row 0 []) (get_or offsets 0 []) token = each 0 common.some in
    absent first.0 first.1.0 (subst (StandsOnceInEach form row offsets) (sym first.1.1) each)

-- no token of the first part, as it was read, occurs once in each
pub no_token_read : (form : List ℕ → List ℕ) (t : TokenEnds) (refs : List (Bor (List ℕ))) (vs : List (Vec ℕ Global)) (xs : List ℕ)
    → AreTokenOffsets t (bytes_of refs) (lists_of vs) → xs ≡ get_or (lists_of vs) 0 []
    → ((k : ℕ) → k + 1 < length xs → ¬ (StandsOnceInEach form (bytes_of refs) (lists_of vs) (form (token_at (get_or refs 0 none).now xs k))))
    → (token : List ℕ) → ¬ (IsCommonTokenBy form t (bytes_of refs) token)
no_token_read form t refs vs xs tokens e absent =
    no_token form t (bytes_of refs) (lists_of vs) tokens (λ k lt each.
    absent k (subst (λ os. k + 1 < length os) (sym e) lt)
    (subst (λ os. StandsOnceInEach form (bytes_of refs) (lists_of vs) (form (token_at (get_or refs 0 none).now os k))) (sym e)
    (subst (λ ys. StandsOnceInEach form (bytes_of refs) (lists_of vs) (form (token_at ys (get_or (lists_of vs) 0 []) k))) (none_at refs 0) each)))

pub ruleset offset_steps = (lists_more)

pub ruleset once_steps = (once_none, once_one, once_two)
