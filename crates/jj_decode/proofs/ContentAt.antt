-- Lemmas on contents at an offset, and on errors about the parts of a content.
use Rattle.std.proofs.Common.{◌≡◌, ℕ, ◌+◌, ◌<◌, ◌≤◌, Bool, List, ◌++◌, length, drop, take, arith, refl, sym, ap, ◌∙◌}
use Rattle.std.proofs.lemmas.List.{append_assoc, append_cancel_left, take-append-drop, drop-drop, length-append, length-drop}
use Rattle.jj_content.specs.Content.{IsLawful}
use Rattle.jj_decode.specs.declared.error.DecodeError.{DecodeError}
use Rattle.jj_decode.specs.declared.error.DecodeError.TheVariants.{Memory, Malformed}
use Rattle.jj_decode.specs.Decoding.{IsContentAt, NoContentAt, IsErrorAt, IsMemory, AreBoth, both_content, IsMalformedAt}
use Rattle.jj_decode.specs.Contents.{AreContents, IsContentOf, BothContents}
use Rattle.jj_decode.specs.ContentsProofs.{contents_lawful}

-- the bytes from `start`, split after the first n
pub parts_at : (bytes : List ℕ) (start n : ℕ) → drop start bytes ≡ take n (drop start bytes) ++ drop
    (start + n) bytes
parts_at bytes start n = sym (take-append-drop n (drop start bytes))
    ∙ ap (λ (z : List ℕ). take n (drop start bytes) ++ z) (drop-drop n start bytes)

-- each content is longer than the remaining bytes
pub none_if_truncated : {X : Type 0} (v : X → Type 0) (c : X → List ℕ) (bytes : List ℕ)
    (start n : ℕ) → ((x : X) → v x → n ≤ length (c x)) → start ≤ length bytes
    → length bytes < start + n → NoContentAt v c bytes start start
none_if_truncated v c bytes start n long le lt = record {
  none = λ x rest valid h. omega
      (arith, long x valid, length-append (c x) rest, length-drop start bytes, ap length h);
  from = omega arith;
  within = le;
}

-- a content ends at `start` plus its length
pub end_is : {X : Type 0} (v : X → Type 0) (c : X → List ℕ) (bytes : List ℕ) (start end : ℕ) (x : X)
    → start ≤ length bytes → IsContentAt v c bytes start x end → end ≡ start + length (c x)
end_is v c bytes start end x le s = let e = ap length s.split in omega (
  arith,
  e,
  s.within,
  length-drop start bytes,
  length-drop end bytes,
  length-append (c x) (drop end bytes),
)

-- the bytes are the content of another value too
pub content_at_map : {X Y : Type 0} (v : X → Type 0) (c : X → List ℕ) (w : Y → Type 0)
    (d : Y → List ℕ) (bytes : List ℕ) (start end : ℕ) (x : X) (y : Y) → (v x → w y) → c x ≡ d y
    → IsContentAt v c bytes start x end → IsContentAt w d bytes start y end
content_at_map v c w d bytes start end x y p q s = record {
  valid = p s.valid;
  split = s.split
      ∙ ap (λ (z : List ℕ). z ++ drop end bytes) q;
  within = s.within;
}

-- where no first part begins, no content begins that has it
pub none_by_first : {X Y : Type 0} (v : X → Type 0) (c : X → List ℕ) (w : Y → Type 0)
    (d : Y → List ℕ) (part : Y → X) (more : Y → List ℕ) (bytes : List ℕ) (start offset : ℕ)
    → ((y : Y) → w y → v (part y)) → ((y : Y) → d y ≡ c (part y) ++ more y)
    → NoContentAt v c bytes start offset → NoContentAt w d bytes start offset
none_by_first v c w d part more bytes start offset p q n = record {
  none = λ y rest valid h. n.none (part y) (more y ++ rest) (p y valid)
      (h ∙ ap (λ (z : List ℕ). z ++ rest) (q y) ∙ append_assoc (c (part y)) (more y) rest);
  from = n.from;
  within = n.within;
}

pub error_by_first : {X Y : Type 0} (v : X → Type 0) (c : X → List ℕ) (w : Y → Type 0)
    (d : Y → List ℕ) (part : Y → X) (more : Y → List ℕ) (bytes : List ℕ) (start : ℕ)
    (e : DecodeError)
    → ((y : Y) → w y → v (part y)) → ((y : Y) → d y ≡ c (part y) ++ more y)
    → IsErrorAt v c bytes start e → IsErrorAt w d bytes start e
error_by_first v c w d part more bytes start Memory p q n = tt
error_by_first v c w d part more bytes start (Malformed reason offset) p q n = none_by_first v c w d
    part more bytes start offset p q n

module _ {X : Type 0} {v : X → Type 0} {e : X → X → Bool} {c : X → List ℕ}
    (l : IsLawful v e c) where
  pub rest_equal : (x y : X) (s t : List ℕ) → v x → v y → c x ++ s ≡ c y ++ t → s ≡ t
  rest_equal x y s t p q h =
      let alike : c x ≡ c y = l.same x y p q (l.decides x y s t p q h) in
      append_cancel_left (c x) s t (h ∙ ap (λ (z : List ℕ). z ++ t) (sym alike))

  pub none_by_second : {Y : Type 0} (w : Y → Type 0) (d : Y → List ℕ) (bytes : List ℕ)
      (start mid offset : ℕ) (x : X) → start ≤ length bytes → IsContentAt v c bytes start x mid
      → NoContentAt w d bytes mid offset → NoContentAt (AreBoth v w) (both_content c d) bytes start
      offset
  none_by_second w d bytes start mid offset x le s n = record {
    none = λ p rest valid h. n.none p.1 rest valid.1
        (rest_equal x p.0 (drop mid bytes) (d p.1 ++ rest) s.valid valid.0
        (sym s.split ∙ h ∙ append_assoc (c p.0) (d p.1) rest));
    from = omega (arith, n.from, end_is v c bytes start mid x le s);
    within = n.within;
  }

  pub error_by_second : {Y : Type 0} (w : Y → Type 0) (d : Y → List ℕ) (bytes : List ℕ)
      (start mid : ℕ) (x : X) (err : DecodeError) → start ≤ length bytes
      → IsContentAt v c bytes start x mid
      → IsErrorAt w d bytes mid err → IsErrorAt (AreBoth v w) (both_content c d) bytes start err
  error_by_second w d bytes start mid x Memory le s n = tt
  error_by_second w d bytes start mid x (Malformed reason offset) le s n = none_by_second w d bytes
      start mid offset x le s n

-- an error about all values is one about fewer
pub error_narrow : {X : Type 0} (v w : X → Type 0) (c : X → List ℕ) (bytes : List ℕ) (start : ℕ)
    (e : DecodeError) → ((x : X) → w x → v x) → IsErrorAt v c bytes start e
    → IsErrorAt w c bytes start e
error_narrow v w c bytes start Memory p n = tt
error_narrow v w c bytes start (Malformed reason offset) p n =
    record {
      none = λ x rest valid h. n.none x rest (p x valid) h;
      from = n.from;
      within = n.within;
    }

-- an error that implies nothing about the bytes
pub memory_error : {X : Type 0} (v : X → Type 0) (c : X → List ℕ) (bytes : List ℕ) (start : ℕ)
    (e : DecodeError) → IsMemory e → IsErrorAt v c bytes start e
memory_error v c bytes start Memory m = tt
memory_error v c bytes start (Malformed reason offset) m = absurd m

-- ---- sets of contents

-- an error about values is one about the set of their contents
pub error_image : {X : Type 0} (v : X → Type 0) (c : X → List ℕ) (bytes : List ℕ) (start : ℕ)
    (e : DecodeError) → IsErrorAt v c bytes start e → IsMalformedAt (IsContentOf v c) bytes start e
error_image v c bytes start Memory n = tt
error_image v c bytes start (Malformed reason offset) n = record {
  none = λ b rest p h. n.none p.value rest p.valid (h ∙ ap (λ (z : List ℕ). z ++ rest) p.bytes_are);
  from = n.from;
  within = n.within;
}

-- an error about a set of contents is one about the values that it covers
pub error_values : {X : Type 0} (v : X → Type 0) (c : X → List ℕ) (p : List ℕ → Type 0)
    (bytes : List ℕ) (start : ℕ) (e : DecodeError) → ((x : X) → v x → p (c x))
    → IsMalformedAt p bytes start e → IsErrorAt v c bytes start e
error_values v c p bytes start Memory covers n = tt
error_values v c p bytes start (Malformed reason offset) covers n =
    record {
      none = λ x rest valid h. n.none (c x) rest (covers x valid) h;
      from = n.from;
      within = n.within;
    }

pub both_error_first : (p q : List ℕ → Type 0) (bytes : List ℕ) (start : ℕ) (e : DecodeError)
    → IsMalformedAt p bytes start e → IsMalformedAt (BothContents p q) bytes start e
both_error_first p q bytes start e n =
    error_image (AreBoth p q) (both_content (λ b. b) (λ b. b)) bytes start e
    (error_by_first p (λ b. b) (AreBoth p q) (both_content (λ b. b) (λ b. b)) (λ z. z.0)
    (λ z. z.1) bytes start e (λ z valid. valid.0) (λ z. refl) n)

module _ {X : Type 0} {v : X → Type 0} {c : X → List ℕ} {p : List ℕ → Type 0}
    (r : AreContents v c p) where
  contents_at : (bytes : List ℕ) (start end : ℕ) (x : X) → IsContentAt v c bytes start x end
      → IsContentAt p (λ b. b) bytes start (c x) end
  contents_at bytes start end x s = record {
    valid = r.covers x s.valid;
    split = s.split;
    within = s.within;
  }

  pub both_error_second : (q : List ℕ → Type 0) (bytes : List ℕ) (start mid : ℕ) (x : X)
      (e : DecodeError) → start ≤ length bytes → IsContentAt v c bytes start x mid
      → IsMalformedAt q bytes mid e → IsMalformedAt (BothContents p q) bytes start e
  both_error_second q bytes start mid x e le s n =
      error_image (AreBoth p q) (both_content (λ b. b) (λ b. b)) bytes start e
      (error_by_second (contents_lawful r) q (λ b. b) bytes start mid (c x) e le
      (contents_at bytes start mid x s) n)

pub is_memory : (e : DecodeError) → IsMemory e → e ≡ Memory
is_memory Memory m = refl
is_memory (Malformed reason offset) m = absurd m
