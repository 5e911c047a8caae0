-- Proofs about absorbed prefixes: sequences of calls that append to a state.
use Rattle.std.proofs.Common.{◌≡◌, ℕ, List, [], ◌∷◌, ◌++◌, ◌+◌, ◌^◌, ◌<◌, length, take, drop, map, get_or, sym, ap, ◌∙◌, subst, Result, Ok, Err, OnErr}
use Rattle.std.proofs.lemmas.List.{append_assoc, append-nil, nil_from_length, take_more, take-append-drop, map-append, length-map}
use Rattle.std.proofs.lemmas.Grind.{flat_map-append}
use Rattle.std.specs.List.{flat_map}
use Rattle.std.specs.Prelude.{All}
use Rattle.std.proofs.lemmas.List.Elements.{All-push}
use Rattle.jj_content.specs.Content.{Absorbs, AbsorbsPrefix, AreValues, u64_content, list_content}

-- the error postcondition of `?`
pub on_err_from : {T E P : Type 0} (r : Result T E) → P → OnErr r P
on_err_from (Ok x) p = tt
on_err_from (Err e) p = p

-- an iterator over `all` has yielded `done` and yields x next, which leaves `rest`
module _ {A X : Type 0} (image : A → X) (all done rest : List A) (x : A) (split : done ++ (x ∷ rest) ≡ all) where
  pub split_more : (done ++ x ∷ []) ++ rest ≡ all
  split_more = append_assoc done (x ∷ []) rest ∙ split

  pub mapped_split : map image done ++ (image x ∷ map image rest) ≡ map image all
  mapped_split = sym (map-append image done (x ∷ rest)) ∙ ap (map image) split

module _ {D : Type 0} (absorbed : D → List ℕ → Type 0) where
  -- a prefix of the first part is a prefix of the whole
  pub prefix_first : (old new : D) (a b : List ℕ) → AbsorbsPrefix absorbed old new a → AbsorbsPrefix absorbed old new (a ++ b)
  prefix_first old new a b f = record {
    prefix = f.prefix;
    rest = f.rest ++ b;
    whole = ap (λ (z : List ℕ). z ++ b) f.whole ∙ append_assoc f.prefix f.rest b;
    absorbs = f.absorbs;
  }

  -- the first part, then a prefix of the second
  pub prefix_next : (old mid new : D) (a b : List ℕ) → Absorbs absorbed old mid a → AbsorbsPrefix absorbed mid new b → AbsorbsPrefix absorbed old new (a ++ b)
  prefix_next old mid new a b t f = record {
    prefix = a ++ f.prefix;
    rest = f.rest;
    whole = ap (λ (z : List ℕ). a ++ z) f.whole ∙ sym (append_assoc a f.prefix f.rest);
    absorbs = λ s h. subst (absorbed new) (append_assoc s a f.prefix) (f.absorbs (s ++ a) (t s h));
  }

  -- the first part, then the second
  pub absorbs_next : (old mid new : D) (a b : List ℕ) → Absorbs absorbed old mid a → Absorbs absorbed mid new b → Absorbs absorbed old new (a ++ b)
  absorbs_next old mid new a b t u = λ s h. subst (absorbed new) (append_assoc s a b) (u (s ++ a) (t s h))

  -- the items before index i, then a prefix of the content of the item at i
  pub prefix_items : {X : Type 0} (content : X → List ℕ) (old mid new : D) (head : List ℕ) (xs : List X) (i : ℕ) (x : X) → i < length xs
      → x ≡ get_or xs i x → Absorbs absorbed old mid (head ++ flat_map content (take i xs)) → AbsorbsPrefix absorbed mid new (content x)
      → AbsorbsPrefix absorbed old new (head ++ flat_map content xs)
  prefix_items {X = X} content old mid new head xs i x lt at taken prefix =
      let before : List ℕ = head ++ flat_map content (take i xs) in
      let after : List ℕ = flat_map content (drop (i + 1) xs) in
      let item : flat_map content (take (i + 1) xs) ≡ flat_map content (take i xs) ++ content x =
      ap (flat_map content) (take_more xs i x lt) ∙ flat_map-append content (take i xs) (get_or xs i x ∷ [])
      ∙ ap (λ (z : List ℕ). flat_map content (take i xs) ++ z) (append-nil _ ∙ ap content (sym at)) in
      let whole : (before ++ content x) ++ after ≡ head ++ flat_map content xs =
      ap (λ (z : List ℕ). z ++ after) (append_assoc head (flat_map content (take i xs)) (content x))
      ∙ append_assoc head (flat_map content (take i xs) ++ content x) after
      ∙ ap (λ (z : List ℕ). head ++ (z ++ after)) (sym item)
      ∙ ap (λ (z : List ℕ). head ++ z) (sym (flat_map-append content (take (i + 1) xs) (drop (i + 1) xs)))
      ∙ ap (λ (z : List X). head ++ flat_map content z) (take-append-drop (i + 1) xs) in
      subst (AbsorbsPrefix absorbed old new) whole (prefix_first old new (before ++ content x) after (prefix_next old mid new before (content x) taken prefix))

  -- one more item
  pub absorbs_more : {X : Type 0} (content : X → List ℕ) (old mid new : D) (head : List ℕ) (done : List X) (x : X)
      → Absorbs absorbed old mid (head ++ flat_map content done) → Absorbs absorbed mid new (content x) → Absorbs absorbed old new (head ++ flat_map content (done ++ x ∷ []))
  absorbs_more content old mid new head done x t u =
      let more : (head ++ flat_map content done) ++ content x ≡ head ++ flat_map content (done ++ x ∷ []) =
      append_assoc head (flat_map content done) (content x)
      ∙ ap (λ (z : List ℕ). head ++ z) (ap (λ (z : List ℕ). flat_map content done ++ z) (sym (append-nil (content x))) ∙ sym (flat_map-append content done (x ∷ []))) in
      subst (Absorbs absorbed old new) more (absorbs_next old mid new (head ++ flat_map content done) (content x) t u)

  -- the finished items, then a prefix of the next item's content
  pub prefix_more : {X : Type 0} (content : X → List ℕ) (old mid new : D) (head : List ℕ) (done : List X) (x : X) (left all : List X) → done ++ (x ∷ left) ≡ all
      → Absorbs absorbed old mid (head ++ flat_map content done) → AbsorbsPrefix absorbed mid new (content x) → AbsorbsPrefix absorbed old new (head ++ flat_map content all)
  prefix_more {X = X} content old mid new head done x left all e t f =
      let whole : ((head ++ flat_map content done) ++ content x) ++ flat_map content left ≡ head ++ flat_map content all =
      append_assoc (head ++ flat_map content done) (content x) (flat_map content left)
      ∙ append_assoc head (flat_map content done) (flat_map content (x ∷ left))
      ∙ ap (λ (z : List ℕ). head ++ z) (sym (flat_map-append content done (x ∷ left)) ∙ ap (flat_map content) e) in
      subst (AbsorbsPrefix absorbed old new) whole
      (prefix_first old new ((head ++ flat_map content done) ++ content x) (flat_map content left) (prefix_next old mid new (head ++ flat_map content done) (content x) t f))

-- the rules of `hash_both` and `hash_three`: one or two whole parts, then a prefix of the next
module _ {D : Type 0} (sf : D → List ℕ → Type 0) where
  pub prefix_1 : (s0 s1 new : D) (a b rest : List ℕ) → Absorbs sf s0 s1 a → AbsorbsPrefix sf s1 new b → AbsorbsPrefix sf s0 new (a ++ (b ++ rest))
  prefix_1 s0 s1 new a b rest t f = prefix_next sf s0 s1 new a (b ++ rest) t (prefix_first sf s1 new b rest f)

  pub prefix_2 : (s0 s1 s2 new : D) (a b c : List ℕ) → Absorbs sf s0 s1 a → Absorbs sf s1 s2 b → AbsorbsPrefix sf s2 new c → AbsorbsPrefix sf s0 new (a ++ (b ++ c))
  prefix_2 s0 s1 s2 new a b c t u f = prefix_next sf s0 s1 new a (b ++ c) t (prefix_next sf s1 s2 new b c u f)

  -- two whole parts and a prefix of the third, with the parentheses of tuples
  pub prefix_left_2 : (s0 s1 s2 new : D) (a b c : List ℕ) → Absorbs sf s0 s1 a → Absorbs sf s1 s2 b → AbsorbsPrefix sf s2 new c → AbsorbsPrefix sf s0 new (a ++ b ++ c)
  prefix_left_2 s0 s1 s2 new a b c t u f = prefix_next sf s0 s2 new (a ++ b) c (absorbs_next sf s0 s1 s2 a b t u) f

-- The loop invariant of a list that is written through references: its length and the yielded items
-- were absorbed.
module _ {D A X : Type 0} (sf : D → List ℕ → Type 0) (image : A → X) (content : X → List ℕ) (old mid new : D) (all done : List A)
    (taken : Absorbs sf old mid (u64_content (length all) ++ flat_map content (map image done))) where
  -- one more item
  pub mapped_absorbed : (x : A) → Absorbs sf mid new (content (image x)) → Absorbs sf old new (u64_content (length all) ++ flat_map content (map image (done ++ x ∷ [])))
  mapped_absorbed x one =
      subst (λ (ys : List X). Absorbs sf old new (u64_content (length all) ++ flat_map content ys)) (sym (map-append image done (x ∷ [])))
      (absorbs_more sf content old mid new (u64_content (length all)) (map image done) (image x) taken one)

  -- a prefix of the next item
  pub mapped_prefix : (rest : List A) (x : A) → done ++ (x ∷ rest) ≡ all → AbsorbsPrefix sf mid new (content (image x)) → AbsorbsPrefix sf old new (list_content content (map image all))
  unfolding list_content
  mapped_prefix rest x split prefix =
      let head = subst (λ (n : ℕ). Absorbs sf old mid (u64_content n ++ flat_map content (map image done))) (sym (length-map all image)) taken in
      prefix_more sf content old mid new (u64_content (length (map image all))) (map image done) (image x) (map image rest) (map image all) (mapped_split image all done rest x split) head prefix

  -- no item is left
  pub mapped_whole : done ≡ all → Absorbs sf old mid (list_content content (map image all))
  unfolding list_content
  mapped_whole end =
      subst (λ (n : ℕ). Absorbs sf old mid (u64_content n ++ flat_map content (map image all))) (sym (length-map all image))
      (subst (λ (ys : List A). Absorbs sf old mid (u64_content (length all) ++ flat_map content (map image ys))) end taken)

module _ {A X : Type 0} (image : A → X) (is_value : X → Type 0) (done : List A) (seen : All is_value (map image done)) where
  pub mapped_values : (x : A) → is_value (image x) → All is_value (map image (done ++ x ∷ []))
  mapped_values x one = subst (All is_value) (sym (map-append image done (x ∷ []))) (All-push is_value (map image done) (image x) seen one)

  pub mapped_all : (all : List A) → done ≡ all → length all < 2 ^ 64 → AreValues is_value (map image all)
  mapped_all all end fits = (rw (length-map all image) fits, subst (λ (ys : List A). All is_value (map image ys)) end seen)

-- an iterator that has no item left has yielded all
pub all_yielded : {A : Type 0} (all done rest : List A) → done ++ rest ≡ all → length rest ≡ 0 → done ≡ all
all_yielded all done rest split none = sym (append-nil done) ∙ ap (λ z. done ++ z) (sym (nil_from_length rest none)) ∙ split

pub ruleset prefixes = (prefix_first, prefix_next, prefix_1, prefix_2)
