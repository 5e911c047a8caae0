-- A printed blob is read again, whatever follows it.
use Rattle.std.proofs.Common.{◌≡◌, ◌≢◌, ◌∙◌, ℕ, ◌+◌, ◌^◌, ◌<◌, Bool, List, [], ◌∷◌, ◌++◌, length, Option, Some, None, Result, Ok, Err, refl, sym, ap, subst, arith, append_assoc}
use Rattle.std.specs.Prelude.{IfSome, codes, decimal}
use Rattle.jj_fast_import.specs.Words.{strip}
use Rattle.jj_fast_import.specs.Lines.{line_at, optional, skip_lf}
use Rattle.jj_fast_import.specs.Values.{BlobValue, Blobs}
use Rattle.jj_fast_import.specs.Commands.{blob_at, command_at, command_in, labels_at, mark_at, message_at, optional_bytes}
use Rattle.jj_fast_import.specs.Texts.{blob_text, data_text, mark_text, optional_text}
use Rattle.jj_fast_import.specs.Printable.{HasNone, IsPrintableBlob}
use Rattle.jj_fast_import.proofs.Again.{HasNone-append, data_again, decimal_has_none, line_again, number-decimal}

-- 1. Lines.

-- the first line does not begin with the word
record Lacks (word bytes : List ℕ) : Type 0 where
  first : ℕ
  text : List ℕ
  rest : List ℕ
  parts : bytes ≡ (first ∷ text) ++ 10 ∷ rest
  no_comment : first ≢ 35
  one_line : HasNone 10 (first ∷ text)
  other : strip word (first ∷ text) ≡ None

absent : (word : List ℕ) (at_end : Bool) (bytes : List ℕ) → Lacks word bytes → optional word at_end bytes ≡ Ok (None, bytes)
unfolding optional
absent word at_end bytes h =
    let read : line_at at_end bytes ≡ Ok (Some (h.first ∷ h.text, h.rest)) = ap (line_at at_end) h.parts ∙ line_again at_end h.first h.text h.rest h.no_comment h.one_line in
    rw (read, h.other) refl

present : (word : List ℕ) (at_end : Bool) (first : ℕ) (text argument rest : List ℕ) → first ≢ 35 → HasNone 10 (first ∷ text) → strip word (first ∷ text) ≡ Some argument
    → optional word at_end ((first ∷ text) ++ 10 ∷ rest) ≡ Ok (Some argument, rest)
unfolding optional
present word at_end first text argument rest no_comment one_line is =
    rw (line_again at_end first text rest no_comment one_line, is) refl

data_lacks : (word bytes rest : List ℕ) → length bytes < 2 ^ 64 → strip word (codes "data " ++ decimal (length bytes)) ≡ None → Lacks word (data_text bytes ++ rest)
data_lacks word bytes rest fits other = record {
  first = 100;
  text = 97 ∷ 116 ∷ 97 ∷ 32 ∷ decimal (length bytes);
  rest = bytes ++ 10 ∷ rest;
  parts = simp append_assoc;
  no_comment = λ e. omega (arith, e);
  one_line = (λ e. omega (arith, e), (λ e. omega (arith, e), (λ e. omega (arith, e), (λ e. omega (arith, e), (λ e. omega (arith, e), decimal_has_none 10 (length bytes) (omega arith) fits)))));
  other = other;
}

-- 2. Parts.

message_again : (at_end : Bool) (bytes rest : List ℕ) → length bytes < 2 ^ 64 → message_at at_end (data_text bytes ++ rest) ≡ Ok (bytes, rest)
unfolding message_at skip_lf
message_again at_end bytes rest fits = rw (data_again at_end bytes rest fits) refl

mark_again : (at_end : Bool) (mark : Option ℕ) (next : List ℕ) → IfSome mark (λ m. m < 2 ^ 64) → Lacks (codes "mark ") next → mark_at at_end (mark_text mark ++ next) ≡ Ok (mark, next)
unfolding mark_at
mark_again at_end None next fits lacks = rw (absent (codes "mark ") at_end next lacks) refl
mark_again at_end (Some m) next fits lacks =
    let regrouped : mark_text (Some m) ++ next ≡ (codes "mark :" ++ decimal m) ++ 10 ∷ next = simp append_assoc in
    let one_line : HasNone 10 (codes "mark :" ++ decimal m) = (λ e. omega (arith, e), (λ e. omega (arith, e), (λ e. omega (arith, e), (λ e. omega (arith, e), (λ e. omega (arith, e), (λ e. omega (arith, e), decimal_has_none 10 m (omega arith) fits)))))) in
    ap (mark_at at_end) regrouped
    ∙ rw (present (codes "mark ") at_end 109 (97 ∷ 114 ∷ 107 ∷ 32 ∷ 58 ∷ decimal m) (58 ∷ decimal m) next (λ e. omega (arith, e)) one_line refl, number-decimal m fits) refl

original_again : (at_end : Bool) (oid : Option (List ℕ)) (next : List ℕ) → IfSome oid (HasNone 10) → Lacks (codes "original-oid ") next
    → optional_bytes (codes "original-oid ") at_end (optional_text (codes "original-oid ") oid ++ next) ≡ Ok (oid, next)
unfolding optional_bytes
original_again at_end None next fits lacks = absent (codes "original-oid ") at_end next lacks
original_again at_end (Some oid) next fits lacks =
    let regrouped : optional_text (codes "original-oid ") (Some oid) ++ next ≡ (codes "original-oid " ++ oid) ++ 10 ∷ next = simp append_assoc in
    ap (optional (codes "original-oid ") at_end) regrouped
    ∙ present (codes "original-oid ") at_end 111 (114 ∷ 105 ∷ 103 ∷ 105 ∷ 110 ∷ 97 ∷ 108 ∷ 45 ∷ 111 ∷ 105 ∷ 100 ∷ 32 ∷ oid) oid next (λ e. omega (arith, e)) (original_line oid fits) refl
  where
    original_line : (oid : List ℕ) → HasNone 10 oid → HasNone 10 (codes "original-oid " ++ oid)
    original_line oid none = HasNone-append 10 (codes "original-oid ") oid
        (λ e. omega (arith, e), (λ e. omega (arith, e), (λ e. omega (arith, e), (λ e. omega (arith, e), (λ e. omega (arith, e), (λ e. omega (arith, e), (λ e. omega (arith, e), (λ e. omega (arith, e), (λ e. omega (arith, e), (λ e. omega (arith, e), (λ e. omega (arith, e), (λ e. omega (arith, e), (λ e. omega (arith, e), tt))))))))))))) none

original_lacks : (oid : Option (List ℕ)) (next : List ℕ) → IfSome oid (HasNone 10) → Lacks (codes "mark ") next → Lacks (codes "mark ") (optional_text (codes "original-oid ") oid ++ next)
original_lacks None next fits lacks = lacks
original_lacks (Some oid) next fits lacks = record {
  first = 111;
  text = 114 ∷ 105 ∷ 103 ∷ 105 ∷ 110 ∷ 97 ∷ 108 ∷ 45 ∷ 111 ∷ 105 ∷ 100 ∷ 32 ∷ oid;
  rest = next;
  parts = simp append_assoc;
  no_comment = λ e. omega (arith, e);
  one_line = HasNone-append 10 (codes "original-oid ") oid
      (λ e. omega (arith, e), (λ e. omega (arith, e), (λ e. omega (arith, e), (λ e. omega (arith, e), (λ e. omega (arith, e), (λ e. omega (arith, e), (λ e. omega (arith, e), (λ e. omega (arith, e), (λ e. omega (arith, e), (λ e. omega (arith, e), (λ e. omega (arith, e), (λ e. omega (arith, e), (λ e. omega (arith, e), tt))))))))))))) fits;
  other = refl;
}

-- 3. Blobs.

blob_read : (at_end : Bool) (blob : BlobValue) (rest : List ℕ) → IsPrintableBlob blob
    → blob_at at_end (mark_text blob.mark ++ (optional_text (codes "original-oid ") blob.original_oid ++ (data_text blob.content ++ rest))) ≡ Ok (blob, rest)
unfolding blob_at labels_at
blob_read at_end blob rest fits =
    let next = data_text blob.content ++ rest in
    let third : Lacks (codes "mark ") next = data_lacks (codes "mark ") blob.content rest fits.content refl in
    let fourth : Lacks (codes "original-oid ") next = data_lacks (codes "original-oid ") blob.content rest fits.content refl in
    let second : Lacks (codes "mark ") (optional_text (codes "original-oid ") blob.original_oid ++ next) = original_lacks blob.original_oid next fits.original_oid third in
    rw (mark_again at_end blob.mark (optional_text (codes "original-oid ") blob.original_oid ++ next) fits.mark second, original_again at_end blob.original_oid next fits.original_oid fourth, message_again at_end blob.content rest fits.content) refl

regroup : (a b c d : List ℕ) → a ++ b ++ c ++ d ≡ a ++ (b ++ (c ++ d))
regroup a b c d = simp append_assoc

pub blob_again : (at_end : Bool) (blob : BlobValue) (rest : List ℕ) → IsPrintableBlob blob → command_at at_end (blob_text blob ++ rest) ≡ Ok (Some (Blobs blob, rest))
unfolding command_at command_in
blob_again at_end blob rest fits =
    let more = mark_text blob.mark ++ (optional_text (codes "original-oid ") blob.original_oid ++ (data_text blob.content ++ rest)) in
    let regrouped : blob_text blob ++ rest ≡ codes "blob" ++ 10 ∷ more = ap (λ (l : List ℕ). codes "blob" ++ 10 ∷ l) (regroup (mark_text blob.mark) (optional_text (codes "original-oid ") blob.original_oid) (data_text blob.content) rest) in
    let one_line : HasNone 10 (codes "blob") = (λ e. omega (arith, e), (λ e. omega (arith, e), (λ e. omega (arith, e), (λ e. omega (arith, e), tt)))) in
    ap (command_at at_end) regrouped
    ∙ rw (line_again at_end 98 (108 ∷ 111 ∷ 98 ∷ []) more (λ e. omega (arith, e)) one_line, blob_read at_end blob rest fits) refl
