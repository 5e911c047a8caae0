-- A trie accepts exactly its words, then the continuation, and so does the group of these words.
use Rattle.std.proofs.Common.{◌≡◌, ◌≢◌, ◌∙◌, ◌-◌, ◌≤◌, ◌==◌, ◌||◌, ◌&&◌, inl, inr, Bool, true, false, ℕ, List, [], ◌∷◌, ◌++◌, length, reverse, take, drop, refl, sym, ap, subst, arith, append_assoc, append-nil, if◌then◌else◌, IsPermutation}
use Rattle.std.proofs.lemmas.Bool.Decides.{eqb_tells}
use Rattle.std.proofs.lemmas.List.{reverse-append, length-reverse, take-append-drop, length-take-le}
use Rattle.std.proofs.lemmas.List.Folds.{list_any-append}
use Rattle.std.proofs.lemmas.List.Sorted.{list_any-IsPermutation}
use Rattle.jj_globs.specs.declared.glob.token.Options.{Options}
use Rattle.jj_globs.specs.declared.glob.token.Token.{Token}
use Rattle.jj_globs.specs.declared.glob.token.Part.TheVariants.{Byte as byte}
use Rattle.jj_globs.specs.declared.glob.token.Token.TheVariants.{Part as part, Open, Or}
use Rattle.jj_globs.specs.declared.glob.step.Step.{Step}
use Rattle.jj_globs.specs.declared.glob.step.Step.TheVariants.{Byte, Fork, Jump}
use Rattle.jj_globs.specs.declared.glob.compiler.OpenGroup.{OpenGroup}
use Rattle.jj_globs.specs.declared.glob.trie.Branch.{Branch}
use Rattle.jj_globs.specs.GlobMeaning.{same_byte}
use Rattle.jj_globs.specs.GlobBacktracking.{Test, Tests, one, test_before}
use Rattle.jj_globs.specs.GlobNfa.{accepts_from, TargetsInRange}
use Rattle.jj_globs.specs.GlobCompilation.{test_at, GroupsAccept, IsCompiledSoFar}
use Rattle.jj_globs.specs.GlobTrie.{Word, word_then, any_word, word_tokens, further_alternatives, group_tokens, Extends, EmitsTrie, with_branch, without_branch, climb, climb_from, BranchesInRange, JoinsBranch, EmitsBytes}
use Rattle.jj_globs.proofs.StateTests.{one_same}
use Rattle.jj_globs.proofs.CompiledTokens.{kept, at_front, outer_kept, inside_step, tests_over}

-- 1. Equal tests.

or_later : (a b c : Bool) → ((a || b) || c) ≡ (a || (b || c))
or_later true b c = refl
or_later false b c = refl

and_over : (a b c : Bool) → (a && (b || c)) ≡ ((a && b) || (a && c))
and_over true b c = refl
and_over false b c = refl

one_or : (p : ℕ → Bool) (t u : Test) (x : List ℕ) → one p (λ y. t y || u y) x ≡ (one p t x || one p u x)
one_or p t u [] = refl
one_or p t u (b ∷ bs) = and_over (p b) (t bs) (u bs)

pub grows_more : (old mid new : List Step) → Extends old mid → Extends mid new → Extends old new
grows_more old mid new g h = (h.0 ++ g.0, h.1 ∙ ap (λ l. h.0 ++ l) g.1 ∙ sym (append_assoc h.0 g.0 old))

pub grows_none : (old : List Step) → Extends old old
grows_none old = ([], refl)

pub grows_one : (s : Step) (old : List Step) → Extends old (s ∷ old)
grows_one s old = (s ∷ [], refl)

longer : (more old : List Step) → length old ≤ length (more ++ old)
longer [] old = omega arith
longer (s ∷ more) old = let rest = longer more old in omega (arith, rest)

pub grows_longer : (old new : List Step) → Extends old new → length old ≤ length new
grows_longer old new g = subst (λ (l : List Step). length old ≤ length l) (sym g.1) (longer g.0 old)

pub lead_longer : (m n : ℕ) (branches : List Branch) → m ≤ n → BranchesInRange m branches → BranchesInRange n branches
lead_longer m n [] le h = tt
lead_longer m n (b ∷ branches) le h = let first = h.0 in ((omega (arith, first, le)), lead_longer m n branches le h.1)

pub lead_without : (n depth : ℕ) (branches : List Branch) → BranchesInRange n branches → BranchesInRange n (without_branch depth branches)
lead_without n depth [] h = tt
lead_without n depth (b ∷ branches) h =
    elim (b.depth == depth) as (λ v. BranchesInRange n (if v then branches else b ∷ branches)) [ true ↦ h.1 | false ↦ h ]

module _ (o : Options) (below : Bool) where
  kept_more : (more ss : List Step) (k : ℕ) → k ≤ length ss → (x : List ℕ) → test_at o below (more ++ ss) k x ≡ test_at o below ss k x
  kept_more [] ss k le x = refl
  kept_more (s ∷ more) ss k le x =
      let longer = longer more ss in kept o below s (more ++ ss) k (omega (arith, le, longer)) x ∙ kept_more more ss k le x

  pub kept_grown : (old new : List Step) → Extends old new → (k : ℕ) → k ≤ length old → (x : List ℕ) → test_at o below new k x ≡ test_at o below old k x
  kept_grown old new g k le x = ap (λ (l : List Step). test_at o below l k x) g.1 ∙ kept_more g.0 old k le x

  pub with_same : (ss : List Step) (depth : ℕ) (branches : List Branch) (t u : Test) → ((y : List ℕ) → t y ≡ u y) → (x : List ℕ)
      → with_branch o below ss depth branches t x ≡ with_branch o below ss depth branches u x
  with_same ss depth [] t u e x = e x
  with_same ss depth (b ∷ branches) t u e x = ap (λ v. if b.depth == depth then v || test_at o below ss b.state x else v) (e x)

  pub with_grown : (old new : List Step) → Extends old new → (depth : ℕ) (branches : List Branch) → BranchesInRange (length old) branches → (t : Test) (x : List ℕ)
      → with_branch o below new depth branches t x ≡ with_branch o below old depth branches t x
  with_grown old new g depth [] h t x = refl
  with_grown old new g depth (b ∷ branches) h t x =
      ap (λ v. if b.depth == depth then t x || v else t x) (kept_grown old new g b.state h.0 x)

  with_or : (ss : List Step) (depth : ℕ) (branches : List Branch) (t u : Test) (x : List ℕ)
      → with_branch o below ss depth branches (λ y. t y || u y) x ≡ (t x || with_branch o below ss depth branches u x)
  with_or ss depth [] t u x = refl
  with_or ss depth (b ∷ branches) t u x =
      elim (b.depth == depth) as (λ v. (if v then (t x || u x) || test_at o below ss b.state x else t x || u x)
      ≡ (t x || (if v then u x || test_at o below ss b.state x else u x))) [
        | true ↦ or_later (t x) (u x) (test_at o below ss b.state x)
        | false ↦ refl
      ]

  pub up_same : (ss : List Step) (cs : Word) (branches : List Branch) (t u : Test) → ((y : List ℕ) → t y ≡ u y) → (x : List ℕ)
      → climb o below ss cs branches t x ≡ climb o below ss cs branches u x
  up_same ss [] branches t u e x = e x
  up_same ss (c ∷ cs) branches t u e x =
      up_same ss cs (without_branch (length cs) branches) (with_branch o below ss (length cs) branches (one (same_byte o c) t))
      (with_branch o below ss (length cs) branches (one (same_byte o c) u))
      (λ y. with_same ss (length cs) branches (one (same_byte o c) t) (one (same_byte o c) u) (one_same (same_byte o c) t u e) y) x

  pub up_grown : (old new : List Step) → Extends old new → (cs : Word) (branches : List Branch) → BranchesInRange (length old) branches → (t : Test) (x : List ℕ)
      → climb o below new cs branches t x ≡ climb o below old cs branches t x
  up_grown old new g [] branches h t x = refl
  up_grown old new g (c ∷ cs) branches h t x =
      up_same new cs (without_branch (length cs) branches) (with_branch o below new (length cs) branches (one (same_byte o c) t))
      (with_branch o below old (length cs) branches (one (same_byte o c) t))
      (λ y. with_grown old new g (length cs) branches h (one (same_byte o c) t) y) x
      ∙ up_grown old new g cs (without_branch (length cs) branches) (lead_without (length old) (length cs) branches h)
      (with_branch o below old (length cs) branches (one (same_byte o c) t)) x

  -- 2. Branches on the way up a word.

  -- prepends a byte of the word, then joins the branch before it
  pub one_byte_up : (c : ℕ) (before : Word) (mid new : List Step) (branches rest : List Branch)
      → JoinsBranch (length before) (Byte c ∷ mid) branches new rest → BranchesInRange (length mid) branches → (x : List ℕ)
      → climb o below new (reverse before) rest (accepts_from o below new 0) x ≡ climb o below mid (reverse (before ++ c ∷ [])) branches (accepts_from o below mid 0) x
  one_byte_up c before mid new branches rest joined lead x =
      let d = length before in
      let byte : Test = one (same_byte o c) (accepts_from o below mid 0) in
      let grown = grows_more mid (Byte c ∷ mid) new (grows_one (Byte c) mid) joined.grows in
      let deep : length (reverse before) ≡ d = length-reverse before in
      let reversed : reverse (before ++ c ∷ []) ≡ c ∷ reverse before = reverse-append before (c ∷ []) in
      let met : (y : List ℕ) → accepts_from o below new 0 y ≡ with_branch o below mid d branches byte y =
      λ y. joined.same o below y ∙ with_grown mid (Byte c ∷ mid) (grows_one (Byte c) mid) d branches lead byte y in
      ap (λ (bs : List Branch). climb o below new (reverse before) bs (accepts_from o below new 0) x) joined.left
      ∙ up_same new (reverse before) (without_branch d branches) (accepts_from o below new 0) (with_branch o below mid d branches byte) met x
      ∙ up_grown mid new grown (reverse before) (without_branch d branches) (lead_without (length mid) d branches lead) (with_branch o below mid d branches byte) x
      ∙ ap (λ (n : ℕ). climb o below mid (reverse before) (without_branch n branches) (with_branch o below mid n branches byte) x) (sym deep)
      ∙ ap (λ (cs : Word). climb o below mid cs branches (accepts_from o below mid 0) x) (sym reversed)

  -- joins the branch at the end of the word
  pub whole_word_up : (word : Word) (old new : List Step) (branches rest : List Branch)
      → JoinsBranch (length word) old branches new rest → BranchesInRange (length old) branches → (x : List ℕ)
      → climb o below new (reverse word) rest (accepts_from o below new 0) x ≡ climb_from o below old (reverse word) branches (accepts_from o below old 0) x
  whole_word_up word old new branches rest joined lead x =
      let d = length word in
      let t : Test = accepts_from o below old 0 in
      ap (λ (bs : List Branch). climb o below new (reverse word) bs (accepts_from o below new 0) x) joined.left
      ∙ up_same new (reverse word) (without_branch d branches) (accepts_from o below new 0) (with_branch o below old d branches t) (joined.same o below) x
      ∙ up_grown old new joined.grows (reverse word) (without_branch d branches) (lead_without (length old) d branches lead) (with_branch o below old d branches t) x
      ∙ ap (λ (n : ℕ). climb o below old (reverse word) (without_branch n branches) (with_branch o below old n branches t) x) (sym (length-reverse word))

  -- 3. A word that branches off the one before.

  -- a reversed word before the continuation
  abbrev backwards : Word → Test → Test
  backwards [] t = t
  backwards (c ∷ cs) t = backwards cs (one (same_byte o c) t)

  backwards_append : (xs ys : Word) (t : Test) → backwards (xs ++ ys) t ≡ backwards ys (backwards xs t)
  backwards_append [] ys t = refl
  backwards_append (c ∷ xs) ys t = backwards_append xs ys (one (same_byte o c) t)

  pub literal_same : (word : Word) (t u : Test) → ((y : List ℕ) → t y ≡ u y) → (x : List ℕ) → word_then o word t x ≡ word_then o word u x
  literal_same [] t u e x = e x
  literal_same (c ∷ cs) t u e x = one_same (same_byte o c) (word_then o cs t) (word_then o cs u) (literal_same cs t u e) x

  backwards_word : (word : Word) (t : Test) → (x : List ℕ) → backwards (reverse word) t x ≡ word_then o word t x
  backwards_word [] t x = refl
  backwards_word (c ∷ cs) t x =
      ap (λ (l : Word). backwards l t x) (reverse-append (c ∷ []) cs) ∙ ap (λ (u : Test). u x) (backwards_append (reverse cs) (c ∷ []) t)
      ∙ one_same (same_byte o c) (backwards (reverse cs) t) (word_then o cs t) (backwards_word cs t) x

  up_or : (ss : List Step) (cs : Word) (branches : List Branch) (t u : Test) (x : List ℕ)
      → climb o below ss cs branches (λ y. t y || u y) x ≡ (backwards cs t x || climb o below ss cs branches u x)
  up_or ss [] branches t u x = refl
  up_or ss (c ∷ cs) branches t u x =
      let d = length cs in
      let first : Test = one (same_byte o c) t in
      let second : Test = with_branch o below ss d branches (one (same_byte o c) u) in
      up_same ss cs (without_branch d branches) (with_branch o below ss d branches (one (same_byte o c) (λ y. t y || u y))) (λ y. first y || second y)
      (λ y. with_same ss d branches (one (same_byte o c) (λ z. t z || u z)) (λ z. first z || one (same_byte o c) u z) (one_or (same_byte o c) t u) y
      ∙ with_or ss d branches first (one (same_byte o c) u) y) x
      ∙ up_or ss cs (without_branch d branches) first second x

  up_none : (ss : List Step) (cs : Word) (t : Test) (x : List ℕ) → climb o below ss cs [] t x ≡ backwards cs t x
  up_none ss [] t x = refl
  up_none ss (c ∷ cs) t x = up_none ss cs (one (same_byte o c) t) x

  up_from_same : (ss : List Step) (cs : Word) (branches : List Branch) (t u : Test) → ((y : List ℕ) → t y ≡ u y) → (x : List ℕ)
      → climb_from o below ss cs branches t x ≡ climb_from o below ss cs branches u x
  up_from_same ss cs branches t u e x =
      up_same ss cs (without_branch (length cs) branches) (with_branch o below ss (length cs) branches t) (with_branch o below ss (length cs) branches u)
      (λ y. with_same ss (length cs) branches t u e y) x

  -- without branches only the word is accepted
  pub without_branches : (ss : List Step) (word : Word) (t : Test) (x : List ℕ) → climb_from o below ss (reverse word) [] t x ≡ word_then o word t x
  without_branches ss word t x = up_none ss (reverse word) t x ∙ backwards_word word t x

  at_branch : (ss : List Step) (cs prefix : Word) (b : Branch) (branches : List Branch) (t : Test) (x : List ℕ) → b.depth ≡ length prefix
      → climb_from o below ss (cs ++ prefix) (b ∷ branches) t x ≡ (backwards (cs ++ prefix) t x || climb o below ss prefix branches (test_at o below ss b.state) x)
  at_branch ss [] prefix b branches t x here =
      elim (eqb_tells b.depth (length prefix)) [
        | inl w ↦ ap (λ v. climb o below ss prefix (if v then branches else b ∷ branches) (λ y. if v then t y || test_at o below ss b.state y else t y) x) w.0
            ∙ up_or ss prefix branches t (test_at o below ss b.state) x
        | inr w ↦ absurd (w.1 here)
      ]
  at_branch ss (c ∷ cs) prefix b branches t x here =
      let beyond = past prefix cs in
      elim (eqb_tells b.depth (length (c ∷ cs ++ prefix))) [
        | inl w ↦ absurd (let e = w.1 in omega (arith, e, here, beyond))
        | inr w ↦ ap (λ v. climb o below ss (c ∷ cs ++ prefix) (if v then branches else b ∷ branches) (λ y. if v then t y || test_at o below ss b.state y else t y) x) w.0
            ∙ at_branch ss cs prefix b branches (one (same_byte o c) t) x here
      ]
    where
      past : (prefix cs : Word) → length prefix ≤ length (cs ++ prefix)
      past prefix [] = omega arith
      past prefix (c ∷ cs) = let rest = past prefix cs in omega (arith, rest)

  -- a word that branches off the one before
  pub branches_off : (ss : List Step) (prefix rest : Word) (b : Branch) (branches : List Branch) (t : Test) (x : List ℕ) → b.depth ≡ length prefix
      → climb_from o below ss (reverse (prefix ++ rest)) (b ∷ branches) t x
      ≡ (word_then o (prefix ++ rest) t x || climb o below ss (reverse prefix) branches (test_at o below ss b.state) x)
  branches_off ss prefix rest b branches t x here =
      let reversed : reverse (prefix ++ rest) ≡ reverse rest ++ reverse prefix = reverse-append prefix rest in
      ap (λ (cs : Word). climb_from o below ss cs (b ∷ branches) t x) reversed
      ∙ at_branch ss (reverse rest) (reverse prefix) b branches t x (here ∙ sym (length-reverse prefix))
      ∙ ap (λ (cs : Word). backwards cs t x || climb o below ss (reverse prefix) branches (test_at o below ss b.state) x) (sym reversed)
      ∙ ap (λ v. v || climb o below ss (reverse prefix) branches (test_at o below ss b.state) x) (backwards_word (prefix ++ rest) t x)

-- 4. Adding or joining one branch.

is_equal : (a b : ℕ) → a ≡ b → (a == b) ≡ true
is_equal a b e = elim (eqb_tells a b) [ inl w ↦ w.0 | inr w ↦ absurd (w.1 e) ]

pub joined : (depth : ℕ) (old : List Step) (b : Branch) (branches : List Branch) → b.depth ≡ depth
    → JoinsBranch depth old (b ∷ branches) (Fork (length old - b.state) ∷ old) branches
joined depth old b branches here = let e = is_equal b.depth depth here in record {
  same = λ o below x.
      sym (ap (λ v. if v then accepts_from o below old 0 x || test_at o below old b.state x else accepts_from o below old 0 x) e);
  left = sym (ap (λ v. if v then branches else b ∷ branches) e);
  grows = grows_one (Fork (length old - b.state)) old;
  inside = λ h. inside_step (Fork (length old - b.state)) old (omega arith) h;
}

-- 5. The bytes of a word.

front_taken : {X : Type 0} (xs ys : List X) → take (length xs) (xs ++ ys) ≡ xs
front_taken [] ys = refl
front_taken (x ∷ xs) ys = ap (λ l. x ∷ l) (front_taken xs ys)

front_of_word : (word before rest : Word) → word ≡ before ++ rest → take (length before) word ≡ before
front_of_word word before rest e = ap (take (length before)) e ∙ front_taken before rest

lead_joined : (depth : ℕ) (old : List Step) (branches : List Branch) (new : List Step) (rest : List Branch)
    → JoinsBranch depth old branches new rest → (n : ℕ) → n ≤ length old → BranchesInRange n branches → BranchesInRange (length new) rest
lead_joined depth old branches new rest joined n le h =
    let longer = grows_longer old new joined.grows in
    subst (BranchesInRange (length new)) (sym joined.left)
    (lead_longer n (length new) (without_branch depth branches) (omega (arith, le, longer)) (lead_without n depth branches h))

-- no byte was prepended yet: only the branch at the end of the word was joined
pub puts_none : (word : Word) (old : List Step) (branches : List Branch) (new : List Step) (rest : List Branch)
    → JoinsBranch (length word) old branches new rest → EmitsBytes word (length word) old branches new rest
puts_none word old branches new rest joined = record {
  same = λ o below x lead.
      ap (λ (w : Word). climb o below new (reverse w) rest (accepts_from o below new 0) x) (front_of_word word word [] (sym (append-nil word)))
      ∙ whole_word_up o below word old new branches rest joined lead x;
  lead = λ h. lead_joined (length word) old branches new rest joined (length old) (omega arith) h;
  grows = joined.grows;
  inside = joined.inside;
}

-- one more byte was prepended
pub puts_byte : (word before after : Word) (c : ℕ) (old : List Step) (branches : List Branch) (mid : List Step) (rest : List Branch) (new : List Step) (left : List Branch)
    → word ≡ (before ++ c ∷ []) ++ after → EmitsBytes word (length (before ++ c ∷ [])) old branches mid rest
    → JoinsBranch (length before) (Byte c ∷ mid) rest new left → EmitsBytes word (length before) old branches new left
puts_byte word before after c old branches mid rest new left split insert joined = record {
  same = λ o below x lead.
      ap (λ (w : Word). climb o below new (reverse w) left (accepts_from o below new 0) x)
      (front_of_word word before (c ∷ after) (split ∙ append_assoc before (c ∷ []) after))
      ∙ one_byte_up o below c before mid new rest left joined (insert.lead lead) x
      ∙ ap (λ (w : Word). climb o below mid (reverse w) rest (accepts_from o below mid 0) x)
      (sym (front_of_word word (before ++ c ∷ []) after split))
      ∙ insert.same o below x lead;
  lead = λ h. lead_joined (length before) (Byte c ∷ mid) rest new left joined (length mid) (omega arith) (insert.lead h);
  grows = grows_more old mid new insert.grows (grows_more mid (Byte c ∷ mid) new (grows_one (Byte c) mid) joined.grows);
  inside = λ h. joined.inside (inside_step (Byte c) mid (omega arith) (insert.inside h));
}

-- 6. Groups of words.

any_same : (o : Options) (words : List Word) (t u : Test) → ((y : List ℕ) → t y ≡ u y) → (x : List ℕ) → any_word o words t x ≡ any_word o words u x
any_same o [] t u e x = refl
any_same o (word ∷ words) t u e x =
    ap (λ v. v || any_word o words t x) (literal_same o false word t u e x) ∙ ap (λ v. word_then o word u x || v) (any_same o words t u e x)

any_permuted : (o : Options) (words others : List Word) → IsPermutation words others → (t : Test) (x : List ℕ) → any_word o words t x ≡ any_word o others t x
any_permuted o words others h t x = list_any-IsPermutation (λ word. word_then o word t x) words others h

pub any_last : (o : Options) (words : List Word) (word : Word) (t : Test) (x : List ℕ) → any_word o (words ++ word ∷ []) t x ≡ (any_word o words t x || word_then o word t x)
any_last o words word t x =
    list_any-append (λ w. word_then o w t x) words (word ∷ []) ∙ ap (λ v. any_word o words t x || v) (or_false (word_then o word t x))
  where
    or_false : (v : Bool) → (v || false) ≡ v
    or_false true = refl
    or_false false = refl

outer_more : (o : Options) (below : Bool) (more ss : List Step) (gs : List OpenGroup) (ts : List (Test × Test)) → GroupsAccept o below ss gs ts → GroupsAccept o below (more ++ ss) gs ts
outer_more o below [] ss gs ts h = h
outer_more o below (s ∷ more) ss gs ts h = outer_kept o below s (more ++ ss) gs ts (outer_more o below more ss gs ts h)

pub lower_words : (o : Options) (below : Bool) (words : List Word) (ss new : List Step) (gs : List OpenGroup) (t : Tests) → EmitsTrie words ss new → IsCompiledSoFar o below ss gs t
    → IsCompiledSoFar o below new gs (record { here = any_word o words t.here; outer = t.outer })
lower_words o below words ss new gs t adds h = record {
  here = λ x. adds.same o below x ∙ any_same o words (accepts_from o below ss 0) t.here h.here x;
  outer = subst (λ (l : List Step). GroupsAccept o below l gs t.outer) (sym adds.grows.1) (outer_more o below adds.grows.0 ss gs t.outer h.outer);
}

pub over_append : (o : Options) (xs ys : List Token) (t : Tests) → tests_over o (xs ++ ys) t ≡ tests_over o xs (tests_over o ys t)
over_append o [] ys t = refl
over_append o (k ∷ xs) ys t = ap (test_before o k) (over_append o xs ys t)

over_letters : (o : Options) (word : Word) (t : Tests) → tests_over o (word_tokens word) t ≡ record { here = word_then o word t.here; outer = t.outer }
over_letters o [] t = refl
over_letters o (c ∷ cs) t = ap (test_before o (part (byte c))) (over_letters o cs t)

over_further : (o : Options) (words : List Word) (t : Tests) → tests_over o (further_alternatives words) t
    ≡ record { here = t.here; outer = (any_word o words t.here, t.here) ∷ t.outer }
over_further o [] t = refl
over_further o (word ∷ words) t =
    ap (test_before o Or) (over_append o (word_tokens word) (further_alternatives words) t
    ∙ ap (tests_over o (word_tokens word)) (over_further o words t)
    ∙ over_letters o word (record { here = t.here; outer = (any_word o words t.here, t.here) ∷ t.outer }))

-- a group of words matches one of them
pub over_group : (o : Options) (words : List Word) (t : Tests) → words ≢ [] → tests_over o (group_tokens words) t ≡ record { here = any_word o words t.here; outer = t.outer }
over_group o [] t some = absurd (some refl)
over_group o (word ∷ words) t some =
    ap (test_before o Open) (over_append o (word_tokens word) (further_alternatives words) t
    ∙ ap (tests_over o (word_tokens word)) (over_further o words t)
    ∙ over_letters o word (record { here = t.here; outer = (any_word o words t.here, t.here) ∷ t.outer }))

-- 7. The words compiled so far, and those left.

-- the steps and the words left accept what all words accept; of `current`, the word compiled last,
-- no byte was prepended yet
pub record HasPut (words : List Word) (old : List Step) (left : List Word) (current : Word)
    (ss : List Step) (branches : List Branch) : Type 0 where
  pub same : (o : Options) (below : Bool) (x : List ℕ)
      → (any_word o left (accepts_from o below old 0) x
      || climb_from o below ss (reverse current) branches (accepts_from o below old 0) x)
      ≡ any_word o words (accepts_from o below old 0) x
  pub prefix : (o : Options) (below : Bool) (x : List ℕ) → accepts_from o below ss 0 x ≡ accepts_from o below old 0 x
  pub lead : BranchesInRange (length ss) branches
  pub grows : Extends old ss
  pub inside : TargetsInRange old → TargetsInRange ss

pub last_put : (words others : List Word) (last : Word) (old : List Step) → words ≡ others ++ last ∷ [] → HasPut words old others last old []
last_put words others last old e = record {
  same = λ o below x.
      let t = accepts_from o below old 0 in
      ap (λ v. any_word o others t x || v) (without_branches o below old last t x) ∙ sym (any_last o others last t x)
      ∙ ap (λ (ws : List Word). any_word o ws t x) (sym e);
  prefix = λ o below x. refl;
  lead = tt;
  grows = grows_none old;
  inside = λ h. h;
}

pub word_put : (words : List Word) (old : List Step) (left others : List Word) (word current : Word) (ss : List Step) (branches : List Branch)
    (common : ℕ) (mid : List Step) (rest : List Branch) → left ≡ others ++ word ∷ [] → HasPut words old left current ss branches
    → EmitsBytes current common ss branches mid rest → take common current ≡ take common word → common ≤ length word
    → HasPut words old others word (Jump (length mid - length old) ∷ mid) (record { depth = common; state = length mid } ∷ rest)
word_put words old left others word current ss branches common mid rest split known insert both within = record {
  same = λ o below x.
      let t = accepts_from o below old 0 in
      let prefix = take common word in
      let whole : prefix ++ drop common word ≡ word = take-append-drop common word in
      let deep : common ≡ length prefix = sym (length-take-le common word within) in
      let parted = branches_off o below new prefix (drop common word) branch rest t x deep in
      let onward : climb o below new (reverse prefix) rest (test_at o below new (length mid)) x
      ≡ climb_from o below ss (reverse current) branches t x =
      up_grown o below mid new grown (reverse prefix) rest (insert.lead known.lead) (test_at o below new (length mid)) x
      ∙ up_same o below mid (reverse prefix) rest (test_at o below new (length mid)) (accepts_from o below mid 0)
      (λ y. kept_grown o below mid new grown (length mid) (omega arith) y ∙ at_front o below mid y) x
      ∙ ap (λ (w : Word). climb o below mid (reverse w) rest (accepts_from o below mid 0) x) (sym both)
      ∙ insert.same o below x known.lead
      ∙ up_from_same o below ss (reverse current) branches (accepts_from o below ss 0) t (known.prefix o below) x in
      ap (λ (w : Word). any_word o others t x || climb_from o below new (reverse w) (branch ∷ rest) t x) (sym whole)
      ∙ ap (λ v. any_word o others t x || v) parted
      ∙ ap (λ (w : Word). any_word o others t x || (word_then o w t x || climb o below new (reverse prefix) rest (test_at o below new (length mid)) x)) whole
      ∙ ap (λ v. any_word o others t x || (word_then o word t x || v)) onward
      ∙ sym (or_later (any_word o others t x) (word_then o word t x) (climb_from o below ss (reverse current) branches t x))
      ∙ ap (λ v. v || climb_from o below ss (reverse current) branches t x) (sym (any_last o others word t x))
      ∙ ap (λ (ws : List Word). any_word o ws t x || climb_from o below ss (reverse current) branches t x) (sym split)
      ∙ known.same o below x;
  prefix = λ o below x.
      kept_grown o below old mid reached (length old) (omega arith) x ∙ at_front o below old x;
  lead = ((omega arith), lead_longer (length mid) (length new) rest (omega arith) (insert.lead known.lead));
  grows = grows_more old mid new reached grown;
  inside = λ h. inside_step (Jump (length mid - length old)) mid (omega arith) (insert.inside (known.inside h));
}
  where
    new : List Step
    new = Jump (length mid - length old) ∷ mid

    branch : Branch
    branch = record { depth = common; state = length mid }

    grown : Extends mid new
    grown = grows_one (Jump (length mid - length old)) mid

    reached : Extends old mid
    reached = grows_more old ss mid known.grows insert.grows

pub all_put : (words : List Word) (old : List Step) (left : List Word) (current : Word) (ss : List Step) (branches : List Branch) (new : List Step) (rest : List Branch)
    → left ≡ [] → HasPut words old left current ss branches → EmitsBytes current 0 ss branches new rest → EmitsTrie words old new
all_put words old left current ss branches new rest none known insert = record {
  same = λ o below x.
      insert.same o below x known.lead
      ∙ up_from_same o below ss (reverse current) branches (accepts_from o below ss 0) (accepts_from o below old 0) (known.prefix o below) x
      ∙ ap (λ (ws : List Word). any_word o ws (accepts_from o below old 0) x || climb_from o below ss (reverse current) branches (accepts_from o below old 0) x) (sym none)
      ∙ known.same o below x;
  grows = grows_more old ss new known.grows insert.grows;
  inside = λ h. insert.inside (known.inside h);
}

-- a permutation of the words is accepted as well
pub adds_permuted : (words others : List Word) (old new : List Step) → IsPermutation words others → EmitsTrie words old new → EmitsTrie others old new
adds_permuted words others old new reversed adds = record {
  same = λ o below x. adds.same o below x ∙ any_permuted o words others reversed (accepts_from o below old 0) x;
  grows = adds.grows;
  inside = adds.inside;
}
