-- Contents of lists: the number of items, then the items.
use Rattle.std.proofs.Common.{◌≡◌, ℕ, ◌+◌, ◌-◌, ◌^◌, ◌<◌, ◌≤◌, Bool, List, [], ◌∷◌, ◌++◌, length, drop, map, arith, refl, sym, ap, ◌∙◌}
use Rattle.std.specs.Prelude.{All}
use Rattle.std.specs.List.{flat_map, AllByRecursion}
use Rattle.std.proofs.lemmas.Grind.{flat_map-append}
use Rattle.std.proofs.lemmas.List.Elements.{recursion_from_All, All-from_recursion, All-push}
use Rattle.std.proofs.lemmas.List.{append_assoc, append-nil, length-append, length-drop, drop-drop, length_push, length-map}
use Rattle.std.proofs.Math.Seq.{drop-append_seam}
use Rattle.jj_content.specs.Content.{IsLawful, AreValues, u64_content, list_content}
use Rattle.jj_content.specs.PrefixFreeProofs.{u64_prefix_free, u64_lawful}
use Rattle.jj_decode.specs.declared.error.DecodeError.{DecodeError}
use Rattle.jj_decode.specs.declared.error.DecodeError.TheVariants.{Memory, Malformed}
use Rattle.jj_decode.specs.Decoding.{IsContentAt, NoContentAt, IsErrorAt, AreItems, IsCounted, counted_content, IsMalformedAt}
use Rattle.jj_decode.specs.Errors.{IsCountAt}
use Rattle.jj_decode.specs.Contents.{AreContents, ListContents}
use Rattle.jj_decode.specs.ContentsProofs.{contents_lawful, items_map, items_cover}
use Rattle.jj_decode.proofs.ContentAt.{end_is, error_by_first, rest_equal, error_image}

module _ {X : Type 0} {v : X → Type 0} {e : X → X → Bool} {c : X → List ℕ}
    (l : IsLawful v e c) where
  -- no longer list begins with these items, where no item begins after them
  no_more_items : (done xs : List X) (rest s : List ℕ) → AllByRecursion v done → AllByRecursion v xs
      → length done < length xs
      → ((x : X) (r : List ℕ) → v x → rest ≡ c x ++ r → ⊥) → flat_map c done ++ rest
      ≡ flat_map c xs ++ s → ⊥
  no_more_items [] [] rest s p q lt none h = omega arith
  no_more_items [] (x ∷ xs) rest s p q lt none h = none x (flat_map c xs ++ s) q.0
      (h ∙ append_assoc (c x) (flat_map c xs) s)
  no_more_items (d ∷ done) [] rest s p q lt none h = omega arith
  no_more_items (d ∷ done) (x ∷ xs) rest s p q lt none h =
      let h' : c d ++ (flat_map c done ++ rest) ≡ c x ++ (flat_map c xs ++ s) = sym
      (append_assoc (c d) (flat_map c done) rest) ∙ h ∙ append_assoc (c x) (flat_map c xs) s in
      no_more_items done xs rest s p.1 q.1 (omega arith) none
      (rest_equal l d x (flat_map c done ++ rest) (flat_map c xs ++ s) p.0 q.0 h')

  pub items_error : (bytes : List ℕ) (start current count : ℕ) (done : List X) (err : DecodeError)
      → start ≤ current → All v done → length done < count
      → drop start bytes ≡ flat_map c done ++ drop current bytes → IsErrorAt v c bytes current err
      → IsErrorAt (AreItems count v) (flat_map c) bytes start err
  items_error bytes start current count done Memory le values lt split n = tt
  items_error bytes start current count done (Malformed reason offset) le values lt split n =
      record {
        none = λ xs rest valid h.
            no_more_items done xs (drop current bytes) rest (recursion_from_All v done values)
            (recursion_from_All v xs valid.1) (omega (arith, valid.0)) n.none (sym split ∙ h);
        from = omega (arith, n.from);
        within = n.within;
      }

-- the bytes of one more item
pub items_step : {X : Type 0} (v : X → Type 0) (c : X → List ℕ) (bytes : List ℕ)
    (start current end : ℕ) (done : List X) (x : X)
    → drop start bytes ≡ flat_map c done ++ drop current bytes → IsContentAt v c bytes current x end
    → drop start bytes ≡ flat_map c (done ++ x ∷ []) ++ drop end bytes
items_step v c bytes start current end done x split s =
    split ∙ ap (λ (z : List ℕ). flat_map c done ++ z) s.split
    ∙ sym (append_assoc (flat_map c done) (c x) (drop end bytes))
    ∙ ap (λ (z : List ℕ). z ++ drop end bytes)
    (ap (λ (z : List ℕ). flat_map c done ++ z) (sym (append-nil (c x)))
    ∙ sym (flat_map-append c done (x ∷ [])))

-- loop invariant: the items read up to `current`
pub record ItemsRead {X : Type 0} (v : X → Type 0) (c : X → List ℕ) (bytes : List ℕ)
    (start current count : ℕ) (done : List X) : Type 0 where
  pub from : start ≤ current
  pub within : current ≤ length bytes
  pub len : length done ≡ count
  pub values : All v done
  pub split : drop start bytes ≡ flat_map c done ++ drop current bytes

pub items_read_none : {X : Type 0} (v : X → Type 0) (c : X → List ℕ) (bytes : List ℕ) (start : ℕ)
    → start ≤ length bytes → ItemsRead v c bytes start start 0 []
items_read_none v c bytes start le = record {
  from = omega arith;
  within = le;
  len = refl;
  values = λ i d lt. absurd (omega arith);
  split = refl;
}

pub items_read_push : {X : Type 0} (v : X → Type 0) (c : X → List ℕ) (bytes : List ℕ)
    (start current end count : ℕ) (done : List X) (x : X)
    → ItemsRead v c bytes start current count done → IsContentAt v c bytes current x end
    → ItemsRead v c bytes start end (count + 1) (done ++ x ∷ [])
items_read_push v c bytes start current end count done x b s = record {
  from = omega (arith, b.from, end_is v c bytes current end x b.within s);
  within = s.within;
  len = length_push done x ∙ ap (λ (n : ℕ). n + 1) b.len;
  values = All-push v done x b.values s.valid;
  split = items_step v c bytes start current end done x b.split s;
}

-- a list has at most as many items as their contents have bytes
items_length : {X : Type 0} (v : X → Type 0) (c : X → List ℕ) → ((x : X) → v x → 0 < length (c x))
    → (xs : List X) → AllByRecursion v xs → length xs ≤ length (flat_map c xs)
items_length v c long [] p = omega arith
items_length v c long (x ∷ xs) p = omega (
  arith,
  long x p.0,
  items_length v c long xs p.1,
  length-append (c x) (flat_map c xs),
)

module _ {X : Type 0} (v : X → Type 0) (c : X → List ℕ) (long : (x : X) → v x → 0 < length (c x))
    (bytes : List ℕ) (start : ℕ) where
  pub list_count_error : (e : DecodeError) → IsErrorAt IsCounted counted_content bytes start e
      → IsErrorAt (AreValues v) (list_content c) bytes start e
  unfolding list_content
  list_count_error e n = error_by_first IsCounted counted_content (AreValues v) (list_content c)
      (λ xs. (length xs, flat_map c xs)) (λ _. []) bytes start e
      (λ xs p. (p.0, items_length v c long xs (recursion_from_All v xs p.1)))
      (λ xs. sym (append-nil (list_content c xs))) n

module _ {X : Type 0} (v : X → Type 0) (c : X → List ℕ) (bytes : List ℕ) (start count mid : ℕ)
    (s : IsContentAt (λ n. n < 2 ^ 64) u64_content bytes start count mid) where
  pub list_decoded : (xs : List X) (end : ℕ) → IsContentAt (AreItems count v) (flat_map c) bytes mid
      xs end → IsContentAt (AreValues v) (list_content c) bytes start xs end
  unfolding list_content
  list_decoded xs end t = record {
    valid = (omega (arith, t.valid.0, s.valid), t.valid.1);
    split = s.split ∙ ap (λ (n : ℕ). u64_content n ++ drop mid bytes) (sym t.valid.0)
        ∙ ap (λ (z : List ℕ). u64_content (length xs) ++ z) t.split
        ∙ sym (append_assoc (u64_content (length xs)) (flat_map c xs) (drop end bytes));
    within = t.within;
  }

  pub list_items_error : (e : DecodeError) → start ≤ length bytes
      → IsErrorAt (AreItems count v) (flat_map c) bytes mid e
      → IsErrorAt (AreValues v) (list_content c) bytes start e
  unfolding list_content
  list_items_error Memory le n = tt
  list_items_error (Malformed reason offset) le n = record {
    none = λ xs rest valid h.
        let h' : u64_content count ++ drop mid bytes ≡ u64_content (length xs)
        ++ (flat_map c xs ++ rest) = sym s.split ∙ h ∙ append_assoc (u64_content (length xs))
        (flat_map c xs) rest in
        n.none xs rest (
          sym (u64_prefix_free count (length xs) (drop mid bytes)
              (flat_map c xs ++ rest) s.valid valid.0 h'),
          valid.1,
        )
        (rest_equal u64_lawful count (length xs) (drop mid bytes) (flat_map c xs ++ rest) s.valid
        valid.0 h');
    from = omega (arith, n.from, end_is (λ n. n < 2 ^ 64) u64_content bytes start mid count le s);
    within = n.within;
  }

-- a count that exceeds the number of remaining bytes
pub none_if_count_exceeds : (bytes : List ℕ) (start count mid : ℕ) → start ≤ length bytes
    → IsContentAt (λ n. n < 2 ^ 64) u64_content bytes start count mid → length bytes - mid < count
    → NoContentAt IsCounted counted_content bytes start start
none_if_count_exceeds bytes start count mid le s lt = record {
  none = λ p rest valid h.
      let h' : u64_content count ++ drop mid bytes ≡ u64_content p.0 ++ (p.1 ++ rest) = sym s.split
      ∙ h ∙ append_assoc (u64_content p.0) p.1 rest in
      let bounded : drop mid bytes ≡ p.1 ++ rest = rest_equal u64_lawful count p.0 (drop mid bytes)
      (p.1 ++ rest) s.valid valid.0 h' in
      omega (
        arith,
        u64_prefix_free count p.0 (drop mid bytes) (p.1 ++ rest) s.valid valid.0 h',
        ap length bounded,
        length-drop mid bytes,
        length-append p.1 rest,
        valid.1,
      );
  from = omega arith;
  within = le;
}

module _ {X : Type 0} {v : X → Type 0} {c : X → List ℕ} {p : List ℕ → Type 0}
    (r : AreContents v c p) where
  pub contents_items_error : (bytes : List ℕ) (start current count i : ℕ) (done : List X)
      (e : DecodeError) → ItemsRead v c bytes start current i done → i < count
      → IsMalformedAt p bytes current e → IsErrorAt (AreItems count p) (flat_map (λ b. b)) bytes
      start e
  contents_items_error bytes start current count i done e b lt n =
      items_error (contents_lawful r) bytes start current count (map c done) e b.from
      (All-from_recursion p (map c done)
      (items_cover r done (recursion_from_All v done b.values)))
      (omega (arith, b.len, length-map done c))
      (b.split ∙ ap (λ (z : List ℕ). z ++ drop current bytes) (items_map r done)) n

pub contents_count_error : (p : List ℕ → Type 0) → ((b : List ℕ) → p b → 0 < length b)
    → (bytes : List ℕ) (start : ℕ) (e : DecodeError)
    → IsErrorAt IsCounted counted_content bytes start e
    → IsMalformedAt (ListContents p) bytes start e
contents_count_error p nonempty bytes start e n = error_image (AreValues p) (list_content (λ b. b))
    bytes start e (list_count_error p (λ b. b) nonempty bytes start e n)

pub contents_list_error : (p : List ℕ → Type 0) (bytes : List ℕ) (start count mid : ℕ)
    → IsContentAt (λ n. n < 2 ^ 64) u64_content bytes start count mid → (e : DecodeError)
    → start ≤ length bytes
    → IsErrorAt (AreItems count p) (flat_map (λ b. b)) bytes mid e
    → IsMalformedAt (ListContents p) bytes start e
contents_list_error p bytes start count mid s e le n = error_image (AreValues p)
    (list_content (λ b. b)) bytes start e
    (list_items_error p (λ b. b) bytes start count mid s e le n)

pub counted : {bytes : List ℕ} {start count mid : ℕ}
    → IsContentAt (λ n. n < 2 ^ 64) u64_content bytes start count mid
    → count ≤ length bytes - mid → IsCountAt bytes start count mid
counted s le = record { is_count = s; bounded = omega (arith, s.within, le) }

-- a list at `start` begins with a count of at most the number of bytes after it
pub counted_list : {X : Type 0} (v : X → Type 0) (c : X → List ℕ)
    → ((x : X) → v x → 0 < length (c x)) → (bytes : List ℕ) (start end : ℕ) (xs : List X)
    → start ≤ length bytes → IsContentAt (AreValues v) (list_content c) bytes start xs end
    → (count : ℕ) × (mid : ℕ) × IsCountAt bytes start count mid
unfolding list_content
counted_list v c long bytes start end xs le s =
    let count : List ℕ = u64_content (length xs) in
    let items : List ℕ = flat_map c xs in
    let tail : List ℕ = items ++ drop end bytes in
    let whole : drop start bytes ≡ count ++ tail = s.split
    ∙ append_assoc count items (drop end bytes) in
    let after : drop (start + length count) bytes ≡ tail =
    sym (drop-drop (length count) start bytes) ∙ ap (drop (length count)) whole
    ∙ drop-append_seam count tail in
    let lengths : length bytes - start ≡ length count + length tail =
    sym (length-drop start bytes) ∙ ap length whole ∙ length-append count tail in
    let longer : length xs ≤ length items =
    items_length v c long xs (recursion_from_All v xs s.valid.1) in
    let both : length tail ≡ length items + length (drop end bytes) =
    length-append items (drop end bytes) in (
      length xs,
      start + length count,
      record {
        is_count = record {
          valid = s.valid.0;
          split = whole ∙ ap (λ (z : List ℕ). count ++ z) (sym after);
          within = omega (arith, lengths, le);
        };
        bounded = omega (arith, lengths, longer, both, le);
      },
    )
