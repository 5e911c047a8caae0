-- Cuts of a list of linked globs: none after a cut satisfies a predicate that requires the literal prefix of a glob to be a prefix
-- of certain bytes.
use Rattle.std.proofs.Common.{inl, inr, ◌⊎◌, ◌≡◌, ◌∙◌, ap, sym, subst, refl, ℕ, ◌<◌, zero, suc, Bool, true, false, ◌&&◌, ◌||◌, List, [], ◌∷◌, ◌++◌, append_assoc, append-nil, length, take, drop, take-append-drop, get_or, length-append, arith, nat_eq, nat_lt}
use mathlib.Core.Bool.{false≢true}
use Rattle.std.proofs.lemmas.List.{map-append}
use Rattle.std.specs.List.{AllWithin, list_any, list_all, starts_with}
use Rattle.std.specs.List.Sorted.{IsPartitionedBy, IsPartitionPoint}
use Rattle.std.proofs.lemmas.Bool.{and_from, and_parts, or_from, or_left, or_parts, or_right, false_from_ne_true, lt-ltb}
use Rattle.std.proofs.lemmas.Bool.Decides.{Decides-eqb}
use Rattle.std.proofs.lemmas.List.Folds.{list_any-append, list_all-append}
use Rattle.std.proofs.lemmas.Slice.Eq.{starts_is}
use Rattle.jj_globs.specs.GlobMeaning.{GlobSpec}
use Rattle.jj_globs.specs.GlobPrefix.{glob_prefix}
use Rattle.jj_globs.proofs.LiteralPrefix.{BeginsWith}
use Rattle.jj_matchers.specs.PatternOrder.{is_at_most, is_sorted_by_prefix}
use Rattle.jj_matchers.specs.LinkedPatterns.{AreLinked, AreSortedAndLinked, IsCutAt, encloses, globs_of}
use Rattle.jj_matchers.specs.declared.matchers.pattern_order.LinkedPattern.{LinkedPattern}
use Rattle.jj_matchers.proofs.PatternOrder.{at_most_by, begins_middle, is_up_to}

-- 1. Lists.

pub globs-append : (xs ys : List LinkedPattern) → globs_of (xs ++ ys) ≡ globs_of xs ++ globs_of ys
globs-append xs ys = map-append (λ linked. linked.pattern) xs ys

all_parts : (test : GlobSpec → Bool) (xs ys : List LinkedPattern) → list_all test (globs_of (xs ++ ys)) ≡ true → (list_all test (globs_of xs) ≡ true) × (list_all test (globs_of ys) ≡ true)
all_parts test xs ys h =
    and_parts _ _ (sym (ap (list_all test) (globs-append xs ys) ∙ list_all-append test (globs_of xs) (globs_of ys)) ∙ h)

any_in_parts : (test : GlobSpec → Bool) (xs ys : List LinkedPattern) → list_any test (globs_of xs) ≡ false → list_any test (globs_of ys) ≡ false → list_any test (globs_of (xs ++ ys)) ≡ false
any_in_parts test xs ys h k =
    ap (list_any test) (globs-append xs ys) ∙ list_any-append test (globs_of xs) (globs_of ys) ∙ or_from _ _ h k

none_by : (test keep other : GlobSpec → Bool) → ((glob : GlobSpec) → keep glob ≡ true → test glob ≡ true → other glob ≡ true) → (globs : List GlobSpec) → list_all keep globs ≡ true → list_any other globs ≡ false → list_any test globs ≡ false
none_by test keep other f [] h n = refl
none_by test keep other f (g ∷ globs) h n =
    or_from _ _ (false_from_ne_true (test g) (λ t. false≢true (sym (or_parts _ _ n).0 ∙ f g (and_parts _ _ h).0 t))) (none_by test keep other f globs (and_parts _ _ h).1 (or_parts _ _ n).1)

pub none_past : (test other : GlobSpec → Bool) → ((glob : GlobSpec) → test glob ≡ true → other glob ≡ true) → (globs : List GlobSpec) → list_any other globs ≡ false → list_any test globs ≡ false
none_past test other f [] n = refl
none_past test other f (g ∷ globs) n =
    or_from _ _ (false_from_ne_true (test g) (λ t. false≢true (sym (or_parts _ _ n).0 ∙ f g t))) (none_past test other f globs (or_parts _ _ n).1)

-- an element of a list with an appended one is one of the list, or the appended one
earlier_or_last : (xs : List LinkedPattern) (last : LinkedPattern) (earlier : List LinkedPattern) (one : LinkedPattern) (later : List LinkedPattern) → xs ++ last ∷ [] ≡ earlier ++ one ∷ later
    → ((rest : List LinkedPattern) × (xs ≡ earlier ++ one ∷ rest)) ⊎ ((xs ≡ earlier) × (last ≡ one))
earlier_or_last [] last [] one later e = inr (refl, cc)
earlier_or_last [] last (y ∷ []) one later e = absurd cc
earlier_or_last [] last (y ∷ z ∷ earlier) one later e = absurd cc
earlier_or_last (x ∷ xs) last [] one later e = inl (xs, cc)
earlier_or_last (x ∷ xs) last (y ∷ earlier) one later e =
    let head : x ≡ y = cc in
    elim (earlier_or_last xs last earlier one later cc) [
      | inl (rest, is) ↦ inl (rest, cc)
      | inr (is, same) ↦ inr (cc, same)
    ]

pub links_push : (patterns : List LinkedPattern) (linked : LinkedPattern) → AreLinked patterns → list_any (encloses (glob_prefix linked.pattern)) (globs_of (drop linked.enclosing_len patterns)) ≡ false → AreLinked (patterns ++ linked ∷ [])
links_push patterns linked links link earlier one later e = elim (earlier_or_last patterns linked earlier one later e) [
  | inl (rest, is) ↦ links earlier one rest is
  | inr (is, same) ↦
      subst (λ one. list_any (encloses (glob_prefix one.pattern)) (globs_of (drop one.enclosing_len earlier)) ≡ false) same
      (subst (λ earlier. list_any (encloses (glob_prefix linked.pattern)) (globs_of (drop linked.enclosing_len earlier)) ≡ false) is link)
]

pub linked_none : AreSortedAndLinked []
linked_none = record { order = refl; links = λ earlier one later e. absurd (not_nil earlier one later e) }
  where
    not_nil : (earlier : List LinkedPattern) (one : LinkedPattern) (later : List LinkedPattern) → [] ≡ earlier ++ one ∷ later → ⊥
    not_nil [] one later e = cc
    not_nil (x ∷ earlier) one later e = cc

pub linked_push : (patterns : List LinkedPattern) (linked : LinkedPattern) → AreSortedAndLinked patterns → is_sorted_by_prefix (globs_of patterns ++ linked.pattern ∷ []) ≡ true
    → (is_sorted_by_prefix (globs_of patterns ++ linked.pattern ∷ []) ≡ true → AreLinked patterns → list_any (encloses (glob_prefix linked.pattern)) (globs_of (drop linked.enclosing_len patterns)) ≡ false)
    → AreSortedAndLinked (patterns ++ linked ∷ [])
linked_push patterns linked are order link = record {
  order = ap is_sorted_by_prefix (globs-append patterns (linked ∷ [])) ∙ order;
  links = links_push patterns linked are.links (link order are.links);
}

pub any_globs : (test : GlobSpec → Bool) (patterns : List LinkedPattern) → list_any (λ linked. test linked.pattern) patterns ≡ list_any test (globs_of patterns)
any_globs test [] = refl
any_globs test (p ∷ patterns) = ap (λ t. test p.pattern || t) (any_globs test patterns)

-- 2. Binary search.

below_at : (glob : GlobSpec) (patterns : List LinkedPattern) (j : ℕ) (d : LinkedPattern) → j < length patterns → list_all (λ later. is_at_most (glob_prefix glob) (glob_prefix later)) (globs_of patterns) ≡ true → is_at_most (glob_prefix glob) (glob_prefix (get_or patterns j d).pattern) ≡ true
below_at glob [] j d lt h = absurd (omega (arith, lt))
below_at glob (p ∷ patterns) zero d lt h = (and_parts _ _ h).0
below_at glob (p ∷ patterns) (suc j) d lt h = below_at glob patterns j d (omega (arith, lt)) (and_parts _ _ h).1

pub partitioned : (bytes : List ℕ) (patterns : List LinkedPattern) → is_sorted_by_prefix (globs_of patterns) ≡ true → IsPartitionedBy (λ linked. is_up_to bytes linked.pattern) patterns
partitioned bytes [] order i j d le lt h = absurd (omega (arith, lt))
partitioned bytes (p ∷ patterns) order zero zero d le lt h = h
partitioned bytes (p ∷ patterns) order zero (suc j) d le lt h =
    at_most_by (glob_prefix p.pattern) (glob_prefix (get_or patterns j d).pattern) bytes (below_at p.pattern patterns j d (omega (arith, lt)) (and_parts _ _ order).0) h
partitioned bytes (p ∷ patterns) order (suc i) zero d le lt h = absurd (omega (arith, le))
partitioned bytes (p ∷ patterns) order (suc i) (suc j) d le lt h =
    partitioned bytes patterns (and_parts _ _ order).1 i j d (omega (arith, le)) (omega (arith, lt)) h

low_side : (test : GlobSpec → Bool) (patterns : List LinkedPattern) (n : ℕ) → AllWithin (λ y. test y.pattern ≡ true) patterns 0 n → list_all test (globs_of (take n patterns)) ≡ true
low_side test [] zero p = refl
low_side test [] (suc n) p = refl
low_side test (x ∷ xs) zero p = refl
low_side test (x ∷ xs) (suc n) p =
    and_from _ _ (p 0 x (omega arith) (omega arith)) (low_side test xs n (λ k d le lt. p (suc k) d (omega arith) (omega (arith, lt))))

high_side : (test : GlobSpec → Bool) (patterns : List LinkedPattern) (n : ℕ) → AllWithin (λ y. test y.pattern ≡ false) patterns n (length patterns) → list_any test (globs_of (drop n patterns)) ≡ false
high_side test [] zero p = refl
high_side test [] (suc n) p = refl
high_side test (x ∷ xs) zero p =
    or_from _ _ (p 0 x (omega arith) (omega arith)) (high_side test xs zero (λ k d le lt. p (suc k) d (omega arith) (omega (arith, lt))))
high_side test (x ∷ xs) (suc n) p = high_side test xs n (λ k d le lt. p (suc k) d (omega (arith, le)) (omega (arith, lt)))

pub cut_at : (bytes : List ℕ) (patterns : List LinkedPattern) (n : ℕ) → IsPartitionPoint (λ y. is_up_to bytes y.pattern ≡ true) (λ y. is_up_to bytes y.pattern ≡ false) patterns n → IsCutAt bytes patterns (take n patterns)
cut_at bytes patterns n point = record {
  high = drop n patterns;
  split = sym (take-append-drop n patterns);
  at_most = low_side (is_up_to bytes) patterns n point.0;
  past = high_side (is_up_to bytes) patterns n point.1;
}

-- 3. Enclosing globs.

pub encloses_begins : (bytes : List ℕ) (glob : GlobSpec) → encloses bytes glob ≡ true → BeginsWith bytes (glob_prefix glob)
encloses_begins bytes glob h =
    (drop (length (glob_prefix glob)) bytes, (starts_is Decides-eqb bytes (glob_prefix glob) _ refl).0 (and_parts _ _ h).1)

pub starts_by : (bytes front : List ℕ) → BeginsWith bytes front → starts_with nat_eq bytes front ≡ true
starts_by bytes front (rest, is) = (starts_is Decides-eqb bytes front _ refl).1 rest is

-- a prefix that is not the whole is a proper one
proper : (bytes front : List ℕ) → BeginsWith bytes front → (front ≡ bytes → ⊥) → (nat_lt (length front) (length bytes) && starts_with nat_eq bytes front) ≡ true
proper bytes front ([], is) other = absurd (other (sym (is ∙ append-nil front)))
proper bytes front (b ∷ rest, is) other =
    and_from _ _ (lt-ltb _ _ (let size = ap length is ∙ length-append front (b ∷ rest) in omega (arith, size))) (starts_by bytes front (b ∷ rest, is))

-- 4. Cuts.

module _ (test : GlobSpec → Bool) (bytes : List ℕ) (all : List LinkedPattern) where
  -- loop invariant: no glob after the cut satisfies the predicate, and the literal prefixes before it are at most the bytes
  pub record IsCut (left : List LinkedPattern) : Type 0 where
    pub after : List LinkedPattern
    pub split : all ≡ left ++ after
    pub none : list_any test (globs_of after) ≡ false
    pub upto : list_all (is_up_to bytes) (globs_of left) ≡ true

  pub cut_end : (left : List LinkedPattern) → IsCut left → left ≡ [] → list_any test (globs_of all) ≡ false
  cut_end left cut e = ap (λ l. list_any test (globs_of l)) (cut.split ∙ ap (λ l. l ++ cut.after) e) ∙ cut.none

  module _ (left before : List LinkedPattern) (last : LinkedPattern) (cut : IsCut left) (parts : left ≡ before ++ last ∷ []) where
    pub whole : all ≡ before ++ last ∷ cut.after
    whole = cut.split ∙ ap (λ l. l ++ cut.after) parts ∙ append_assoc before (last ∷ []) cut.after

    pub found : test last.pattern ≡ true → list_any test (globs_of all) ≡ true
    found h =
        ap (λ l. list_any test (globs_of l)) whole
        ∙ ap (list_any test) (globs-append before (last ∷ cut.after))
        ∙ list_any-append test (globs_of before) (globs_of (last ∷ cut.after))
        ∙ or_right _ _ (or_left _ _ h)

    upto : list_all (is_up_to bytes) (globs_of (before ++ last ∷ [])) ≡ true
    upto = sym (ap (λ l. list_all (is_up_to bytes) (globs_of l)) parts) ∙ cut.upto

    pub last_upto : is_up_to bytes last.pattern ≡ true
    last_upto = (and_parts _ _ (all_parts (is_up_to bytes) before (last ∷ []) upto).1).0

    pub cut_last : test last.pattern ≡ false → IsCut before
    cut_last fails = record {
      after = last ∷ cut.after;
      split = whole;
      none = or_from _ _ fails cut.none;
      upto = (all_parts (is_up_to bytes) before (last ∷ []) upto).0;
    }

    -- the last glob has a literal prefix that no one that satisfies the predicate has
    pub cut_enclosing : list_all (is_up_to (glob_prefix last.pattern)) (globs_of before) ≡ true → AreLinked all → ((glob : GlobSpec) → test glob ≡ true → BeginsWith bytes (glob_prefix glob))
        → ((glob : GlobSpec) → test glob ≡ true → glob_prefix glob ≡ glob_prefix last.pattern → ⊥) → IsCut (take last.enclosing_len before)
    cut_enclosing below links begins other = record {
      after = drop last.enclosing_len before ++ last ∷ cut.after;
      split = whole
          ∙ ap (λ l. l ++ last ∷ cut.after) (sym (take-append-drop last.enclosing_len before))
          ∙ append_assoc (take last.enclosing_len before) (drop last.enclosing_len before) (last ∷ cut.after);
      none = any_in_parts test (drop last.enclosing_len before) (last ∷ cut.after) between (or_from _ _ (false_from_ne_true (test last.pattern) (λ t. other last.pattern t refl)) cut.none);
      upto = (halves (is_up_to bytes) (all_parts (is_up_to bytes) before (last ∷ []) upto).0).0;
    }
      where
        halves : (keep : GlobSpec → Bool) → list_all keep (globs_of before) ≡ true → (list_all keep (globs_of (take last.enclosing_len before)) ≡ true) × (list_all keep (globs_of (drop last.enclosing_len before)) ≡ true)
        halves keep h =
            all_parts keep (take last.enclosing_len before) (drop last.enclosing_len before) (ap (λ l. list_all keep (globs_of l)) (take-append-drop last.enclosing_len before) ∙ h)

        between : list_any test (globs_of (drop last.enclosing_len before)) ≡ false
        between = none_by test (is_up_to (glob_prefix last.pattern)) (encloses (glob_prefix last.pattern))
            (λ glob le t. proper (glob_prefix last.pattern) (glob_prefix glob) (begins_middle (glob_prefix glob) (glob_prefix last.pattern) bytes (begins glob t) le last_upto) (other glob t))
            (globs_of (drop last.enclosing_len before)) (halves (is_up_to (glob_prefix last.pattern)) below).1 (links before last cut.after whole)
