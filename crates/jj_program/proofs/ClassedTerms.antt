-- The classes of the terms whose entries were read, in sorted order.
use Rattle.std.proofs.Common.{◌≡◌, ◌∙◌, ℕ, ◌+◌, ◌-◌, ◌<◌, ◌≤◌, false, List, [], length, map, All, refl, ap, sym, subst, arith, get_or, set, ◌⊎◌, ⊎_elim, true≢false}
use Rattle.std.specs.Prelude.{◌==◌, slice_index}
use Rattle.std.specs.Cmp.Lexicographic.{slice_cmp}
use Rattle.std.specs.Str.{bytes_eq}
use Rattle.std.specs.List.Sorted.{IsSorted}
use Rattle.std.specs.Ordering.{is_lt, nat_cmp, ordering_then}
use Rattle.std.specs.declared.cmp.Ordering.{Ordering}
use Rattle.std.specs.declared.cmp.Ordering.TheVariants.{Less, Equal, Greater}
use Rattle.std.proofs.lemmas.Bool.{cases_eq}
use Rattle.std.proofs.lemmas.Bool.Decides.{Decides-eqb, Decides-like, same_from_decides}
use Rattle.std.proofs.lemmas.List.{get_or-map, get_or-set_other, get_or-set_same, get_or_default, length-map, length-set}
use Rattle.std.proofs.lemmas.List.Elements.{All-get_or, All-set}
use Rattle.std.proofs.lemmas.List.Sorted.{sorted_far}
use Rattle.std.proofs.lemmas.Slice.Eq.{bytes_eq-Decides}
use Rattle.jj_merges.proofs.FirstMatch.{equal_at-read}
use Rattle.jj_program.specs.Lines.{Text}
use Rattle.jj_program.specs.MergeViews.{text_cmp, text_eq}
use Rattle.jj_program.specs.TermClasses.{AreClassesOf, AreEntriesOf, AreSortedEntriesOf, Entry, IsEntryOf, index_of, term_of}
use Rattle.jj_program.proofs.TextKeys.{ordered}
use Rattle.jj_program.proofs.SortedSides.{above_from_greater, same_bytes, text_order}

-- defaults past the end
abbrev pub no_text : Text
no_text = record { ref_ptr = (0, 0); now = [] }

abbrev pub no_entry : Entry
no_entry = (0, no_text, 0)

module _ (terms : List Text) (entries : List Entry) where
  -- the bytes of the term at an index
  abbrev pub bytes_at : ℕ → List ℕ
  bytes_at i = (get_or terms i no_text).now

  -- the index of the term of an entry, and its bytes
  abbrev pub index_at : ℕ → ℕ
  index_at k = (get_or entries k no_entry).2

  abbrev pub entry_bytes : ℕ → List ℕ
  entry_bytes k = bytes_at (index_at k)

  -- the classes of the entries before index `at`, of which the last one is `class`
  pub record AreClassedBelow (classes : List ℕ) (at class : ℕ) : Type 0 where
    pub own : (j : ℕ) → j < at → bytes_at (slice_index classes (index_at j)) ≡ entry_bytes j
    pub pairs : (a b : ℕ) → a < at → b < at → entry_bytes a ≡ entry_bytes b → slice_index classes (index_at a) ≡ slice_index classes (index_at b)
    pub last : (a : ℕ) → a < at → entry_bytes a ≡ entry_bytes (at - 1) → slice_index classes (index_at a) ≡ class

  pub classed-start : (classes : List ℕ) (class : ℕ) → AreClassedBelow classes 0 class
  classed-start classes class = record {
    own = λ j less. absurd (omega arith);
    pairs = λ a b less. absurd (omega arith);
    last = λ a less. absurd (omega arith);
  }

  classed-more : (classes : List ℕ) (at class next : ℕ) → index_at at < length classes → AreClassedBelow classes at class
      → bytes_at next ≡ entry_bytes at
      → ((a : ℕ) → a < at → entry_bytes a ≡ entry_bytes at → slice_index classes (index_at a) ≡ next)
      → AreClassedBelow (set classes (index_at at) next) (at + 1) next
  classed-more classes at class next within before is_next same_class =
      let written = set classes (index_at at) next in
      let here : (i : ℕ) → i ≡ index_at at → slice_index written i ≡ next =
      λ i e. ap (slice_index written) e ∙ get_or-set_same classes (index_at at) next 0 within in
      let there : (i : ℕ) → (i ≡ index_at at → ⊥) → slice_index written i ≡ slice_index classes i =
      λ i apart. get_or-set_other classes (index_at at) i next 0 apart in
      let below : (a : ℕ) → a < at + 1 → (index_at a ≡ index_at at → ⊥) → a < at =
      λ a less apart. ⊎_elim (λ (e : a ≡ at). absurd (apart (ap index_at e))) (λ (ne : a ≡ at → ⊥). omega arith) (cases_eq a at) in
      let of_last : (a : ℕ) → a < at + 1 → entry_bytes a ≡ entry_bytes at → slice_index written (index_at a) ≡ next =
      λ a less e. ⊎_elim (λ (is : index_at a ≡ index_at at). here (index_at a) is)
      (λ (apart : index_at a ≡ index_at at → ⊥). there (index_at a) apart ∙ same_class a (below a less apart) e)
      (cases_eq (index_at a) (index_at at)) in
      let back : at + 1 - 1 ≡ at = omega arith in
      record {
        own = λ j less. ⊎_elim
            (λ (is : index_at j ≡ index_at at). ap bytes_at (here (index_at j) is) ∙ is_next ∙ ap bytes_at (sym is))
            (λ (apart : index_at j ≡ index_at at → ⊥). ap bytes_at (there (index_at j) apart) ∙ before.own j (below j less apart))
            (cases_eq (index_at j) (index_at at));
        pairs = λ a b less_a less_b e. ⊎_elim
            (λ (is : index_at a ≡ index_at at). here (index_at a) is ∙ sym (of_last b less_b (sym e ∙ ap bytes_at is)))
            (λ (apart_a : index_at a ≡ index_at at → ⊥). ⊎_elim
            (λ (is : index_at b ≡ index_at at). of_last a less_a (e ∙ ap bytes_at is) ∙ sym (here (index_at b) is))
            (λ (apart_b : index_at b ≡ index_at at → ⊥).
            there (index_at a) apart_a ∙ before.pairs a b (below a less_a apart_a) (below b less_b apart_b) e ∙ sym (there (index_at b) apart_b))
            (cases_eq (index_at b) (index_at at)))
            (cases_eq (index_at a) (index_at at));
        last = λ a less e. of_last a less (e ∙ ap entry_bytes back);
      }

  -- the next entry has the bytes of the last one
  pub classed-same : (classes : List ℕ) (at class : ℕ) → 0 < at → index_at at < length classes → entry_bytes (at - 1) ≡ entry_bytes at → AreClassedBelow classes at class
      → AreClassedBelow (set classes (index_at at) class) (at + 1) class
  classed-same classes at class up within e before =
      let of_last = before.last (at - 1) (omega arith) refl in
      classed-more classes at class class within before (ap bytes_at (sym of_last) ∙ before.own (at - 1) (omega arith) ∙ e) (λ a less same. before.last a less (same ∙ sym e))

  -- no entry with smaller bytes is after one with larger ones
  abbrev pub AreOrdered : Type 0
  AreOrdered = (a b : ℕ) → a ≤ b → b < length entries → is_lt (slice_cmp nat_cmp (entry_bytes b) (entry_bytes a)) ≡ false

  between : AreOrdered → (a b c : ℕ) → a ≤ b → b ≤ c → c < length entries → entry_bytes a ≡ entry_bytes c → entry_bytes b ≡ entry_bytes c
  between ordered a b c low high within e =
      let first = ordered a b low (omega arith) in
      let last = ordered b c high within in
      let x : Text = record { ref_ptr = (0, 0); now = entry_bytes b } in
      let y : Text = record { ref_ptr = (0, 0); now = entry_bytes c } in
      let not_less : is_lt (text_cmp x y) ≡ false = ap (λ bs. is_lt (slice_cmp nat_cmp (entry_bytes b) bs)) (sym e) ∙ first in
      by (text_cmp x y) refl not_less last
    where
      by : (o : Ordering) → slice_cmp nat_cmp (entry_bytes b) (entry_bytes c) ≡ o → is_lt o ≡ false → is_lt (slice_cmp nat_cmp (entry_bytes c) (entry_bytes b)) ≡ false → entry_bytes b ≡ entry_bytes c
      by Less is h k = absurd (true≢false h)
      by Equal is h k = same_bytes (entry_bytes b) (entry_bytes c) is
      by Greater is h k =
          let x : Text = record { ref_ptr = (0, 0); now = entry_bytes b } in
          let y : Text = record { ref_ptr = (0, 0); now = entry_bytes c } in
          absurd (true≢false (sym (ap is_lt (above_from_greater x y is)) ∙ k))

  -- the next entry has other bytes than the last one
  pub classed-other : AreOrdered → (classes : List ℕ) (at class : ℕ) → index_at at < length classes → at < length entries
      → (0 < at → entry_bytes (at - 1) ≡ entry_bytes at → ⊥) → AreClassedBelow classes at class
      → AreClassedBelow (set classes (index_at at) (index_at at)) (at + 1) (index_at at)
  classed-other ordered classes at class within inside apart before =
      classed-more classes at class (index_at at) within before refl
      (λ a less same. absurd (apart (omega arith) (between ordered a (at - 1) at (omega arith) (omega arith) inside same)))

  pub entries-ordered : AreSortedEntriesOf terms entries → AreOrdered
  entries-ordered are a b low within =
      let wide = length-map entries term_of in
      let far = sorted_far (λ x y. is_lt (text_cmp x y)) text_order (map term_of entries) are.1 a b no_text low (omega arith) in
      let bytes : (k : ℕ) → k < length entries → (get_or (map term_of entries) k no_text).now ≡ entry_bytes k =
      λ k inside. ap (λ (t : Text). t.now) (get_or-map term_of entries k no_entry no_text inside)
      ∙ sym ((All-get_or (IsEntryOf terms) entries k no_entry inside are.0.0).2 no_text) in
      let at_a = bytes a (omega arith) in
      let at_b = bytes b within in
      subst (λ bs. is_lt (slice_cmp nat_cmp (entry_bytes b) bs) ≡ false) at_a
      (subst (λ bs. is_lt (slice_cmp nat_cmp bs (get_or (map term_of entries) a no_text).now) ≡ false) at_b far)

  -- all entries have classes
  pub classed-all : (classes : List ℕ) (class : ℕ) → length classes ≡ length terms → All (λ c. c < length terms) classes → AreEntriesOf terms entries
      → AreClassedBelow classes (length entries) class → AreClassesOf terms classes
  classed-all classes class size bounds are all = (
    size,
    bounds,
    λ i j hi hj.
        let wide = length-map entries index_of in
        let find : (i : ℕ) → i < length terms → (a : ℕ) × (a < length entries) × (index_at a ≡ i) =
        λ i within. let (a, inside, is) = are.1 i within in
        (a, omega arith, sym (get_or-map index_of entries a no_entry i (omega arith)) ∙ is) in
        let (a, in_a, at_a) = find i hi in
        let (b, in_b, at_b) = find j hj in
        let own_i : bytes_at (slice_index classes i) ≡ bytes_at i = subst (λ k. bytes_at (slice_index classes k) ≡ bytes_at k) at_a (all.own a in_a) in
        let own_j : bytes_at (slice_index classes j) ≡ bytes_at j = subst (λ k. bytes_at (slice_index classes k) ≡ bytes_at k) at_b (all.own b in_b) in
        let pair : bytes_at i ≡ bytes_at j → slice_index classes i ≡ slice_index classes j =
        λ e. ap (slice_index classes) (sym at_a) ∙ all.pairs a b in_a in_b (ap bytes_at at_a ∙ e ∙ ap bytes_at (sym at_b)) ∙ ap (slice_index classes) at_b in
        let x = get_or terms i no_text in
        let y = get_or terms j no_text in
        equal_at-read text_eq terms i j x y hi (get_or_default terms i no_text x hi) hj (get_or_default terms j no_text y hj)
        ∙ same_from_decides (bytes_eq (bytes_at i) (bytes_at j)) (slice_index classes i == slice_index classes j)
        (bytes_eq-Decides (bytes_at i) (bytes_at j))
        (Decides-like (slice_index classes i == slice_index classes j) (λ e. sym own_i ∙ ap bytes_at e ∙ own_j) pair (Decides-eqb (slice_index classes i) (slice_index classes j))),
  )

  -- one more entry: its class is that of the last one if they have the same bytes
  pub classed-step : AreSortedEntriesOf terms entries → (classes : List ℕ) (at class next : ℕ) → at < length entries → length classes ≡ length terms → All (λ c. c < length terms) classes
      → (0 < at → class < length terms) → AreClassedBelow classes at class
      → ((next ≡ index_at at) × (0 < at → (get_or entries (at - 1) no_entry).1.now ≡ (get_or entries at no_entry).1.now → ⊥))
      ⊎ ((next ≡ class) × (0 < at) × ((get_or entries (at - 1) no_entry).1.now ≡ (get_or entries at no_entry).1.now))
      → (length (set classes (index_at at) next) ≡ length terms) × All (λ c. c < length terms) (set classes (index_at at) next) × (next < length terms)
      × AreClassedBelow (set classes (index_at at) next) (at + 1) next
  classed-step are classes at class next inside size bounds bound before cases =
      let is = All-get_or (IsEntryOf terms) entries at no_entry inside are.0.0 in
      let within : index_at at < length classes = omega (arith, is.1, size) in
      let bytes : (k : ℕ) → k < length entries → entry_bytes k ≡ (get_or entries k no_entry).1.now =
      λ k inside_k. (All-get_or (IsEntryOf terms) entries k no_entry inside_k are.0.0).2 no_text in
      let (below, classed) : (next < length terms) × AreClassedBelow (set classes (index_at at) next) (at + 1) next = ⊎_elim
      (λ other. (
        omega (arith, other.0, is.1),
        subst (λ n. AreClassedBelow (set classes (index_at at) n) (at + 1) n) (sym other.0)
            (classed-other (entries-ordered are) classes at class within inside
            (λ up e. other.1 up (sym (bytes (at - 1) (omega arith)) ∙ e ∙ bytes at inside)) before),
      ))
      (λ same. (
        omega (arith, same.0, bound same.1),
        subst (λ n. AreClassedBelow (set classes (index_at at) n) (at + 1) n) (sym same.0)
            (classed-same classes at class same.1 within (bytes (at - 1) (omega arith) ∙ same.2 ∙ sym (bytes at inside)) before),
      ))
      cases in
      (length-set classes (index_at at) next ∙ size, All-set (λ c. c < length terms) classes (index_at at) next below bounds, below, classed)

-- the first part of an order
first-part : (o p : Ordering) → is_lt (ordering_then o p) ≡ false → is_lt o ≡ false
first-part Less p h = h
first-part Equal p h = refl
first-part Greater p h = refl

-- sorted entries have their terms in order
pub terms-sorted : (terms : List Text) (entries : List Entry) → All (IsEntryOf terms) entries
    → IsSorted (λ (x y : Entry). ordering_then (ordering_then (nat_cmp x.0 y.0) (text_cmp x.1 y.1)) (nat_cmp x.2 y.2)) entries → IsSorted text_cmp (map term_of entries)
terms-sorted terms entries are sorted = λ k d low high.
    let n : length (map term_of entries) ≡ length entries = length-map entries term_of in
    let first : k < length entries = omega (arith, high, n) in
    let next : k + 1 < length entries = omega (arith, high, n) in
    let x = get_or entries k no_entry in
    let y = get_or entries (k + 1) no_entry in
    let at_first : get_or (map term_of entries) k d ≡ x.1 = get_or-map term_of entries k no_entry d first in
    let at_next : get_or (map term_of entries) (k + 1) d ≡ y.1 = get_or-map term_of entries (k + 1) no_entry d next in
    let is_x = All-get_or (IsEntryOf terms) entries k no_entry first are in
    let is_y = All-get_or (IsEntryOf terms) entries (k + 1) no_entry next are in
    let is = ordered (y.0, y.1) (x.0, x.1) is_y.0 is_x.0 (first-part (ordering_then (nat_cmp y.0 x.0) (text_cmp y.1 x.1)) (nat_cmp y.2 x.2) (sorted k no_entry low next)) in
    rw (at_first, at_next) is
