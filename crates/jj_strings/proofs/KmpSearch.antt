-- Correctness of the Knuth-Morris-Pratt search: prefixes of the needle that end at an index, and
-- the longest one that a byte extends, found by borders.
use Rattle.std.proofs.Common.{◌≡◌, ◌∙◌, sym, ap, subst, ℕ, ◌+◌, ◌-◌, ◌<◌, ◌≤◌, ◌⊎◌, inl, inr, List, [], ◌∷◌, ◌++◌, length, get_or, drop, arith}
use Rattle.std.proofs.lemmas.List.{get_or-drop, get_or_push, get_or_append_left, length-append}
use Rattle.std.proofs.lemmas.Bool.{cases_lt}
use Rattle.bstr.specs.Find.{OccursAt}
use Rattle.jj_strings.specs.KmpTable.{PrefixEndsAt, IsLongestPrefixAt, IsLongestBorder, AreBorders}

-- elements at equal indices are equal
pub moved : (xs : List ℕ) (i j : ℕ) → i ≡ j → get_or xs i 0 ≡ get_or xs j 0
moved xs i j e = ap (λ (m : ℕ). get_or xs m 0) e

module _ (bytes text : List ℕ) where
  -- the empty prefix ends at every index
  pub empty_ends : (at : ℕ) → PrefixEndsAt bytes at text 0
  empty_ends at = record {
    in_text = omega arith;
    fits = omega arith;
    reads = λ k low. absurd (omega arith);
  }

  -- at the start only the empty prefix ends
  pub none_at_start : IsLongestPrefixAt bytes 0 text 0
  none_at_start = record { ends = empty_ends 0; longest = λ other o. o.fits }

  -- a prefix that the next byte extends ends after it
  ends_more : (at len : ℕ) → PrefixEndsAt bytes at text len → len < length text
      → get_or bytes at 0 ≡ get_or text len 0 → PrefixEndsAt bytes (at + 1) text (len + 1)
  ends_more at len e low same = record {
    in_text = omega arith;
    fits = omega (arith, e.fits);
    reads = λ k below. by_place k below (cases_lt k len);
  }
    where
      by_place : (k : ℕ) → k < len + 1 → (k < len) ⊎ (len ≤ k)
          → get_or bytes (at + 1 - (len + 1) + k) 0 ≡ get_or text k 0
      by_place k below (inl earlier) =
          let same_place : at + 1 - (len + 1) + k ≡ at - len + k = omega (arith, e.fits) in
          moved bytes _ _ same_place ∙ e.reads k earlier
      by_place k below (inr last) =
          let is_at : at + 1 - (len + 1) + k ≡ at = omega (arith, e.fits) in
          let is_len : len ≡ k = omega arith in
          moved bytes _ _ is_at ∙ same ∙ moved text _ _ is_len

  -- a prefix that ends after a byte is an extension of one that ends before it
  ends_less : (at len : ℕ) → PrefixEndsAt bytes (at + 1) text (len + 1) → PrefixEndsAt bytes at text len
  ends_less at len e = record {
    in_text = omega (arith, e.in_text);
    fits = omega (arith, e.fits);
    reads = λ k below.
        let same_place : at - len + k ≡ at + 1 - (len + 1) + k = omega (arith, e.fits) in
        let within : k < len + 1 = omega arith in
        moved bytes _ _ same_place ∙ e.reads k within;
  }

  ends_with : (at len : ℕ) → PrefixEndsAt bytes (at + 1) text (len + 1)
      → get_or bytes at 0 ≡ get_or text len 0
  ends_with at len e =
      let same_place : at ≡ at + 1 - (len + 1) + len = omega (arith, e.fits) in
      let within : len < len + 1 = omega arith in
      moved bytes _ _ same_place ∙ e.reads len within

  -- a bound on extended prefixes is one on all prefixes that end after the next byte
  by_front : (at most : ℕ)
      → ((before : ℕ) → PrefixEndsAt bytes (at + 1) text (before + 1) → before + 1 ≤ most)
      → (other : ℕ) → PrefixEndsAt bytes (at + 1) text other → other ≤ most
  by_front at most bound other o = by_length (cases_lt other 1)
    where
      by_length : (other < 1) ⊎ (1 ≤ other) → other ≤ most
      by_length (inl none) = omega arith
      by_length (inr some) =
          let is_other : other ≡ other - 1 + 1 = omega arith in
          let o' = subst (λ n. PrefixEndsAt bytes (at + 1) text n) is_other o in
          omega (arith, bound (other - 1) o')

  -- of two prefixes that end at an index, the shorter one is a suffix of the longer one
  ends_longer : (at len other : ℕ) → PrefixEndsAt bytes at text len → PrefixEndsAt bytes at text other
      → other ≤ len → PrefixEndsAt text len text other
  ends_longer at len other e o shorter = record {
    in_text = o.in_text;
    fits = shorter;
    reads = λ k below.
        let within : len - other + k < len = omega arith in
        let same_place : at - len + (len - other + k) ≡ at - other + k = omega (arith, e.fits) in
        sym (e.reads (len - other + k) within) ∙ moved bytes _ _ same_place ∙ o.reads k below;
  }

  -- a suffix of a prefix that ends at an index ends there too
  ends_through : (at len other : ℕ) → PrefixEndsAt bytes at text len → PrefixEndsAt text len text other
      → PrefixEndsAt bytes at text other
  ends_through at len other e o = record {
    in_text = o.in_text;
    fits = omega (arith, e.fits, o.fits);
    reads = λ k below.
        let within : len - other + k < len = omega (arith, o.fits) in
        let same_place : at - other + k ≡ at - len + (len - other + k) =
        omega (arith, e.fits, o.fits) in
        moved bytes _ _ same_place ∙ e.reads (len - other + k) within ∙ o.reads k below;
  }

  -- invariant: the prefix ends at the index, and is the longest one that `byte` may extend
  pub record MayGoOn (at byte len : ℕ) : Type 0 where
    pub ends : PrefixEndsAt bytes at text len
    pub longest : (other : ℕ) → other < length text → PrefixEndsAt bytes at text other
        → get_or text other 0 ≡ byte → other ≤ len

  pub may_go_on : (at byte len : ℕ) → IsLongestPrefixAt bytes at text len → MayGoOn at byte len
  may_go_on at byte len e = record {
    ends = e.ends;
    longest = λ other low o same. e.longest other o;
  }

  -- if the byte does not extend the prefix, its longest border is the next candidate
  pub border_may_go_on : (at byte len border : ℕ) → MayGoOn at byte len
      → (get_or text len 0 ≡ byte → ⊥) → IsLongestBorder text len border → MayGoOn at byte border
  border_may_go_on at byte len border e differs b = record {
    ends = ends_through at len border e.ends b.ends;
    longest = λ other low o same.
        let most = e.longest other low o same in
        let below : other < len =
        omega (arith, most, λ (s : other ≡ len). differs (moved text _ _ (sym s) ∙ same)) in
        b.longest other below (ends_longer at len other e.ends o most);
  }

  -- if the byte extends the prefix, the extension is the longest prefix after it
  pub goes_on : (at byte len : ℕ) → MayGoOn at byte len → len < length text
      → get_or text len 0 ≡ byte → get_or bytes at 0 ≡ byte
      → IsLongestPrefixAt bytes (at + 1) text (len + 1)
  goes_on at byte len e low same is_byte = record {
    ends = ends_more at len e.ends low (is_byte ∙ sym same);
    longest = by_front at (len + 1) (λ before o.
        let low' : before < length text = omega (arith, o.in_text) in
        let is_here = sym (ends_with at before o) ∙ is_byte in
        omega (arith, e.longest before low' (ends_less at before o) is_here));
  }

  -- if the byte does not even extend the empty prefix, only the empty one ends after it
  pub none_goes_on : (at byte len : ℕ) → len ≡ 0 → MayGoOn at byte len
      → (get_or text len 0 ≡ byte → ⊥) → get_or bytes at 0 ≡ byte
      → IsLongestPrefixAt bytes (at + 1) text 0
  none_goes_on at byte len is_empty e differs is_byte = record {
    ends = empty_ends (at + 1);
    longest = by_front at 0 (λ before o.
        let low' : before < length text = omega (arith, o.in_text) in
        let is_here = sym (ends_with at before o) ∙ is_byte in
        let most = e.longest before low' (ends_less at before o) is_here in
        let same : len ≡ before = omega (arith, most) in
        absurd (differs (moved text _ _ same ∙ is_here)));
  }

  -- at the end of an occurrence the whole needle ends
  occurs_ends : (at : ℕ) → OccursAt bytes text at
      → PrefixEndsAt bytes (at + length text) text (length text)
  occurs_ends at o = record {
    in_text = omega arith;
    fits = omega arith;
    reads = λ k below.
        let same_place : at + length text - length text + k ≡ at + k = omega arith in
        moved bytes _ _ same_place ∙ o.reads k below;
  }

  -- if the whole needle ends at an index, it occurs before it
  pub ends_occurs : (at : ℕ) → PrefixEndsAt bytes at text (length text) → at ≤ length bytes
      → OccursAt bytes text (at - length text)
  ends_occurs at e within = record {
    fits = omega (arith, e.fits);
    reads = λ k below. e.reads k below;
  }

  -- a needle longer than the longest prefix that ends at an index does not end there
  pub none_longer : (n at len : ℕ) → length text ≡ n → len < n
      → IsLongestPrefixAt bytes (at + 1) text len
      → ((k : ℕ) → k + n ≤ at → OccursAt bytes text k → ⊥)
      → (k : ℕ) → k + n ≤ at + 1 → OccursAt bytes text k → ⊥
  none_longer n at len same shorter e before k within o = by_place (cases_lt at (k + n))
    where
      by_place : (at < k + n) ⊎ (k + n ≤ at) → ⊥
      by_place (inr earlier) = before k earlier o
      by_place (inl here) =
          let is_end : k + length text ≡ at + 1 = omega arith in
          let whole = subst (λ m. PrefixEndsAt bytes m text (length text)) is_end (occurs_ends k o) in
          absurd (omega (arith, e.longest (length text) whole))

module _ (text : List ℕ) where
  -- a prefix that ends at an index past the first byte is a border
  to_border : (at len : ℕ) → PrefixEndsAt (drop 1 text) at text len → PrefixEndsAt text (at + 1) text len
  to_border at len e = record {
    in_text = e.in_text;
    fits = omega (arith, e.fits);
    reads = λ k below.
        let same_place : at + 1 - len + k ≡ 1 + (at - len + k) = omega (arith, e.fits) in
        moved text _ _ same_place ∙ sym (get_or-drop 1 text (at - len + k) 0) ∙ e.reads k below;
  }

  from_border : (at len : ℕ) → len ≤ at → PrefixEndsAt text (at + 1) text len
      → PrefixEndsAt (drop 1 text) at text len
  from_border at len shorter e = record {
    in_text = e.in_text;
    fits = shorter;
    reads = λ k below.
        let same_place : 1 + (at - len + k) ≡ at + 1 - len + k = omega arith in
        get_or-drop 1 text (at - len + k) 0 ∙ moved text _ _ same_place ∙ e.reads k below;
  }

  pub border_of_end : (at len : ℕ) → IsLongestPrefixAt (drop 1 text) at text len
      → IsLongestBorder text (at + 1) len
  border_of_end at len e = record {
    shorter = omega (arith, e.ends.fits);
    ends = to_border at len e.ends;
    longest = λ other shorter o.
        let within : other ≤ at = omega arith in e.longest other (from_border at other within o);
  }

  -- appends a border to the table
  pub borders_more : (borders more : List ℕ) (len : ℕ) → more ≡ borders ++ len ∷ []
      → AreBorders text borders → IsLongestBorder text (length borders + 1) len
      → AreBorders text more
  borders_more borders more len is_more before last k low = by_place (cases_lt k (length borders))
    where
      at_k : get_or more k 0 ≡ get_or (borders ++ len ∷ []) k 0
      at_k = ap (λ (l : List ℕ). get_or l k 0) is_more

      by_place : (k < length borders) ⊎ (length borders ≤ k)
          → IsLongestBorder text (k + 1) (get_or more k 0)
      by_place (inl earlier) =
          let is_here = sym (at_k ∙ get_or_append_left borders (len ∷ []) 0 k earlier) in
          subst (λ n. IsLongestBorder text (k + 1) n) is_here (before k earlier)
      by_place (inr later) =
          let same : length borders ≡ k =
          omega (arith, ap length is_more, length-append borders (len ∷ [])) in
          let is_here = sym (at_k ∙ get_or_push borders len 0 k same) in
          subst (λ n. IsLongestBorder text (k + 1) n) is_here
          (subst (λ n. IsLongestBorder text (n + 1) len) same last)
