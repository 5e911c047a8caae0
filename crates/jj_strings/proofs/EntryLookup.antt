-- Lookup of an entry in a map whose keys are ordered as their strings.
use Rattle.std.proofs.Common.{◌≡◌, ℕ, Bool, true, false, cond, List, [], ◌∷◌, map, Option, None, Some, option_map, All, refl, sym, ap, ap₂, subst, ◌∙◌, true≢false}
use Rattle.std.specs.Borrow.{Bor}
use Rattle.std.specs.Map.Iter.{deref_pair}
use Rattle.std.proofs.lemmas.Option.{none-some, same_Some}
use Rattle.std.specs.List.{AllByRecursion}
use Rattle.std.proofs.lemmas.List.Elements.{All-nil, All-cons}
use Rattle.std.proofs.lemmas.Map.Lookups.{exact_bytes}
use Rattle.std.specs.Cmp.Lexicographic.{slice_cmp, nat_list_cmp_total}
use Rattle.std.specs.List.Sorted.{IsStrictlySortedBy}
use Rattle.std.specs.Option.{option_to_list}
use Rattle.std.specs.Ordering.{nat_cmp, is_eq, ordering_reverse}
use Rattle.std.specs.Map.{keys_of, lookup, lookup_key, lookup_entry}
use Rattle.std.specs.declared.cmp.Ordering.{Ordering}
use Rattle.std.specs.declared.cmp.Ordering.TheVariants.{Less, Equal, Greater}
use Rattle.jj_strings.specs.RemainingEntries.{CoversAll}

self_equal : (o : Ordering) → o ≡ ordering_reverse o → o ≡ Equal
self_equal Less h = cc
self_equal Equal h = refl
self_equal Greater h = cc

is_eq-Equal : (o : Ordering) → is_eq o ≡ true → o ≡ Equal
is_eq-Equal Less h = cc
is_eq-Equal Equal h = refl
is_eq-Equal Greater h = cc

by_test : {K V : Type 0} (b : Bool) (e : K × V) (key : Option K) (value : Option V) (rest found : Option (K × V))
    → option_map (λ p. p.0) found ≡ cond b (Some e.0) key → option_map (λ p. p.1) found ≡ cond b (Some e.1) value
    → (option_map (λ p. p.0) found ≡ key → option_map (λ p. p.1) found ≡ value → found ≡ rest) → found ≡ cond b (Some e) rest
by_test true e key value rest None k v h = absurd (none-some _ k)
by_test {K} {V} true e key value rest (Some f) k v h =
    let pair : K → V → Option (K × V) = λ a b. Some (a, b) in ap₂ pair (same_Some _ _ k) (same_Some _ _ v)
by_test false e key value rest found k v h = h k v

-- a key and a value that were looked up are those of one entry
pub same_entry : {K V : Type 0} (test : K → Bool) (es : List (K × V)) (found : Option (K × V))
    → option_map (λ p. p.0) found ≡ lookup_key test es → option_map (λ p. p.1) found ≡ lookup test es → found ≡ lookup_entry test es
same_entry test [] None k v = refl
same_entry test [] (Some f) k v = absurd (none-some _ (sym k))
same_entry test (e ∷ es) found k v =
    by_test (test e.0) e (lookup_key test es) (lookup test es) (lookup_entry test es) found k v (same_entry test es found)

-- keys with equal strings are equal
tie : {K : Type 0} (R : K → K → Ordering) (text : K → List ℕ) → ((a b : K) → R a b ≡ slice_cmp nat_cmp (text a) (text b))
    → (a b : K) → text a ≡ text b → R a b ≡ Equal
tie R text as_text a b same =
    as_text a b ∙ ap (slice_cmp nat_cmp (text a)) (sym same) ∙ self_equal _ (nat_list_cmp_total.antisymm (text a) (text a))

-- keys that are ordered as their strings, and one that is looked up
module _ {K V : Type 0} (R : K → K → Ordering) (text : K → List ℕ) (as_text : (a b : K) → R a b ≡ slice_cmp nat_cmp (text a) (text b)) (q : K) where
  others : (e : K × V) (es : List (K × V)) → text e.0 ≡ text q → AllByRecursion (λ y. R e.0 y ≡ Less) (keys_of es)
      → All (λ x. text x.0 ≡ text q → ⊥) es
  others e [] here less = All-nil (λ x. text x.0 ≡ text q → ⊥)
  others e (f ∷ fs) here less =
      All-cons (λ x. text x.0 ≡ text q → ⊥) f fs (λ same. let tied : R e.0 f.0 ≡ Equal = tie R text as_text e.0 f.0 (here ∙ sym same) in let clash : ⊥ = cc (tied, less.0) in clash)
      (others e fs here less.1)

  at_head : (b : Bool) (e : K × V) (es : List (K × V)) → is_eq (R q e.0) ≡ b → AllByRecursion (λ y. R e.0 y ≡ Less) (keys_of es)
      → CoversAll (λ x. text x.0 ≡ text q) es (option_to_list (lookup_entry (λ k. is_eq (R q k)) es))
      → CoversAll (λ x. text x.0 ≡ text q) (e ∷ es) (option_to_list (cond b (Some e) (lookup_entry (λ k. is_eq (R q k)) es)))
  at_head true e es h less ih = (
    [],
    es,
    refl,
    All-nil (λ x. text x.0 ≡ text q → ⊥),
    others e es (sym (exact_bytes _ _ (sym (as_text q e.0) ∙ is_eq-Equal _ h))) less,
  )
  at_head false e es h less ih = (
    e ∷ ih.0,
    ih.1,
    ap (λ l. e ∷ l) ih.2,
    All-cons (λ x. text x.0 ≡ text q → ⊥) e ih.0 (λ same. true≢false (sym (ap is_eq (tie R text as_text q e.0 (sym same))) ∙ h)) ih.3,
    ih.4,
  )

  -- a lookup finds the only entry with the string
  pub entry_alone : (es : List (K × V)) → IsStrictlySortedBy R (keys_of es)
      → CoversAll (λ x. text x.0 ≡ text q) es (option_to_list (lookup_entry (λ k. is_eq (R q k)) es))
  unfolding IsStrictlySortedBy
  entry_alone [] s = ([], [], refl, All-nil (λ x. text x.0 ≡ text q → ⊥), All-nil (λ x. text x.0 ≡ text q → ⊥))
  entry_alone (e ∷ es) s = at_head (is_eq (R q e.0)) e es refl s.0 (entry_alone es s.1)

shown : {K V : Type 0} (found : Option (Bor K × Bor V)) → map deref_pair (option_to_list found) ≡ option_to_list (option_map deref_pair found)
shown None = refl
shown (Some e) = refl

keys_shown : {K V : Type 0} (found : Option (Bor K × Bor V)) → option_map (λ p. p.0) (option_map deref_pair found) ≡ option_map (λ p. p.0.now) found
keys_shown None = refl
keys_shown (Some e) = refl

values_shown : {K V : Type 0} (found : Option (Bor K × Bor V)) → option_map (λ p. p.1) (option_map deref_pair found) ≡ option_map (λ p. p.1.now) found
values_shown None = refl
values_shown (Some e) = refl

-- a lookup by a key of the string finds all entries with the string
pub found_holds : {K V : Type 0} (R : K → K → Ordering) (text : K → List ℕ) → ((a b : K) → R a b ≡ slice_cmp nat_cmp (text a) (text b))
    → (q : K) (expected : List ℕ) → text q ≡ expected → (es : List (K × V)) → IsStrictlySortedBy R (keys_of es)
    → (found : Option (Bor K × Bor V)) → option_map (λ p. p.0.now) found ≡ lookup_key (λ k. is_eq (R q k)) es
    → option_map (λ p. p.1.now) found ≡ lookup (λ k. is_eq (R q k)) es
    → (held : Option (Bor K × Bor V)) → held ≡ found
    → CoversAll (λ e. text e.0 ≡ expected) es (map deref_pair (option_to_list held))
found_holds {K} {V} R text as_text q expected q_is es ordered found key value held held_is =
    let same = same_entry (λ k. is_eq (R q k)) es (option_map deref_pair found) (keys_shown found ∙ key) (values_shown found ∙ value) in
    let all : map deref_pair (option_to_list held) ≡ option_to_list (lookup_entry (λ k. is_eq (R q k)) es) =
    ap (λ (o : Option (Bor K × Bor V)). map deref_pair (option_to_list o)) held_is ∙ shown found ∙ ap option_to_list same in
    subst (λ (t : List ℕ). CoversAll (λ e. text e.0 ≡ t) es (map deref_pair (option_to_list held))) q_is
    (subst (λ (l : List (K × V)). CoversAll (λ e. text e.0 ≡ text q) es l) (sym all) (entry_alone R text as_text q es ordered))
