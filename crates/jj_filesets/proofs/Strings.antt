-- Reading strings byte by byte.
use Rattle.std.proofs.Common.{◌≡◌, ◌≢◌, ◌∙◌, ℕ, suc, ◌+◌, ◌-◌, ◌<◌, ◌≤◌, true, false, List, [], ◌∷◌, ◌++◌, length, take, drop, get_or, Result, Ok, Err, ap, sym, refl, arith, append_assoc, append-nil, add-one, drop-cons, eq-eqb}
use Rattle.std.proofs.lemmas.Bool.{ne_eqb}
use Rattle.std.proofs.lemmas.List.{take_more}
use Rattle.jj_filesets.specs.declared.fileset.error.FilesetParseError.{FilesetParseError}
use Rattle.jj_filesets.specs.declared.fileset.error.FilesetParseError.TheVariants.{Syntax}
use Rattle.jj_filesets.specs.declared.fileset.error.FilesetParseErrorKind.TheVariants.{UnclosedString, InvalidEscape}
use Rattle.jj_filesets.specs.declared.fileset.quoting.Escape.{Escape}
use Rattle.jj_filesets.specs.declared.fileset.quoting.Escape.TheVariants.{Outside}
use Rattle.jj_filesets.specs.declared.fileset.quoting.QuotedByte.TheVariants.{End, Literal, Within, Invalid}
use Rattle.jj_filesets.specs.Strings.{is_word_byte, word, with_byte, raw, quoted, quoted_byte, after_quoted_byte}

-- 1. Words.

-- the word so far, and the rest of the input
pub record IsWordSoFar (text : List ℕ) (len : ℕ) : Type 0 where
  pub within : len ≤ length text
  pub first : (word text).0 ≡ take len text ++ (word (drop len text)).0
  pub rest : (word text).1 ≡ (word (drop len text)).1

pub no_word : (text : List ℕ) → IsWordSoFar text 0
no_word text = record { within = omega arith; first = refl; rest = refl }

on_byte : (b : ℕ) (bs : List ℕ) → is_word_byte b ≡ true → word (b ∷ bs) ≡ (b ∷ (word bs).0, (word bs).1)
on_byte b bs h = rw h refl

pub longer_word : (text : List ℕ) (len : ℕ) → IsWordSoFar text len → len < length text → is_word_byte (get_or text len 0) ≡ true → IsWordSoFar text (len + 1)
longer_word text len so below h =
    let b = get_or text len 0 in
    let split : drop len text ≡ b ∷ drop (len + 1) text = rw add-one (drop-cons text len 0 below) in
    let here : word (drop len text) ≡ (b ∷ (word (drop (len + 1) text)).0, (word (drop (len + 1) text)).1) =
    ap word split ∙ on_byte b (drop (len + 1) text) h in
    record {
      within = omega arith;
      first = so.first ∙ ap (λ w. take len text ++ w.0) here ∙ sym (append_assoc (take len text) (b ∷ []) (word (drop (len + 1) text)).0) ∙ ap (λ l. l ++ (word (drop (len + 1) text)).0) (sym (take_more text len 0 below));
      rest = so.rest ∙ ap (λ w. w.1) here;
    }

no_byte : (b : ℕ) (bs : List ℕ) → is_word_byte b ≡ false → word (b ∷ bs) ≡ ([], b ∷ bs)
no_byte b bs h = rw h refl

pub record IsWholeWord (text : List ℕ) (len : ℕ) : Type 0 where
  pub first : (word text).0 ≡ take len text
  pub rest : (word text).1 ≡ drop len text

ends : (text : List ℕ) (len : ℕ) → IsWordSoFar text len → word (drop len text) ≡ ([], drop len text) → IsWholeWord text len
ends text len so none = record {
  first = so.first ∙ ap (λ w. take len text ++ w.0) none ∙ append-nil (take len text);
  rest = so.rest ∙ ap (λ w. w.1) none;
}

pub ended_word : (text : List ℕ) (len : ℕ) → IsWordSoFar text len → len < length text → is_word_byte (get_or text len 0) ≡ false → IsWholeWord text len
ended_word text len so below h =
    let here = ap word (drop-cons text len 0 below) ∙ no_byte (get_or text len 0) (drop (suc len) text) h in
    ends text len so (here ∙ ap (λ l. ([], l)) (sym (drop-cons text len 0 below)))

-- 2. Quotes.

-- the string with more bytes before it
pub prepended : List ℕ → Result (List ℕ × List ℕ) FilesetParseError → Result (List ℕ × List ℕ) FilesetParseError
prepended bytes (Ok (string, rest)) = Ok (bytes ++ string, rest)
prepended bytes (Err error) = Err error

pub prepended-none : (bytes : List ℕ) (r : Result (List ℕ × List ℕ) FilesetParseError) → bytes ≡ [] → prepended bytes r ≡ r
unfolding prepended
prepended-none bytes (Ok (string, rest)) none = ap (λ l. Ok (l ++ string, rest)) none
prepended-none bytes (Err error) none = refl

pub prepended-push : (bytes new : List ℕ) (b : ℕ) (r : Result (List ℕ × List ℕ) FilesetParseError) → new ≡ bytes ++ b ∷ [] → prepended new r ≡ prepended bytes (with_byte b r)
unfolding prepended
prepended-push bytes new b (Ok (string, rest)) is = ap (λ l. Ok (l ++ string, rest)) is ∙ ap (λ l. Ok (l, rest)) (append_assoc bytes (b ∷ []) string)
prepended-push bytes new b (Err error) is = refl

ended : (bytes : List ℕ) (rest : List ℕ) → prepended bytes (Ok ([], rest)) ≡ Ok (bytes, rest)
unfolding prepended
ended bytes rest = ap (λ l. Ok (l, rest)) (append-nil bytes)

unended : (bytes : List ℕ) (error : FilesetParseError) → prepended bytes (Err error) ≡ Err error
unfolding prepended
unended bytes error = refl

-- 3. Raw strings.

raw-quote : (start b : ℕ) (bs : List ℕ) → b ≡ 39 → raw start (b ∷ bs) ≡ Ok ([], bs)
raw-quote start b bs is = rw (eq-eqb b 39 is) refl

raw-byte : (start b : ℕ) (bs : List ℕ) → b ≢ 39 → raw start (b ∷ bs) ≡ with_byte b (raw start bs)
raw-byte start b bs other = rw (ne_eqb b 39 other) refl

pub raw_ends : (start b : ℕ) (text rest bytes after : List ℕ) → prepended bytes (raw start rest) ≡ raw start text → rest ≡ b ∷ after → b ≡ 39 → raw start text ≡ Ok (bytes, after)
raw_ends start b text rest bytes after so split is =
    sym so ∙ ap (λ l. prepended bytes (raw start l)) split ∙ ap (prepended bytes) (raw-quote start b after is) ∙ ended bytes after

pub raw_next : (start b : ℕ) (text rest bytes new after : List ℕ) → prepended bytes (raw start rest) ≡ raw start text → rest ≡ b ∷ after → b ≢ 39 → new ≡ bytes ++ b ∷ []
    → prepended new (raw start after) ≡ raw start text
raw_next start b text rest bytes new after so split other pushes =
    prepended-push bytes new b (raw start after) pushes ∙ ap (prepended bytes) (sym (raw-byte start b after other))
    ∙ ap (λ l. prepended bytes (raw start l)) (sym split) ∙ so

pub raw_unclosed : (start : ℕ) (text rest bytes : List ℕ) → prepended bytes (raw start rest) ≡ raw start text → rest ≡ [] → raw start text ≡ Err (Syntax start UnclosedString)
raw_unclosed start text rest bytes so none =
    sym so ∙ ap (λ l. prepended bytes (raw start l)) none ∙ unended bytes (Syntax start UnclosedString)

-- 4. Quoted strings.

module _ (total start : ℕ) where
  pub quoted_ends : (escape : Escape) (b : ℕ) (text rest bytes after : List ℕ) → prepended bytes (quoted total start escape rest) ≡ quoted total start Outside text → rest ≡ b ∷ after
      → quoted_byte escape b ≡ End → quoted total start Outside text ≡ Ok (bytes, after)
  quoted_ends escape b text rest bytes after so split is =
      sym so ∙ ap (λ l. prepended bytes (quoted total start escape l)) split
      ∙ ap (λ q. prepended bytes (after_quoted_byte q after (λ next. quoted total start next after) (total - length (b ∷ after)))) is ∙ ended bytes after

  pub quoted_literal : (escape : Escape) (b c : ℕ) (text rest bytes new after : List ℕ) → prepended bytes (quoted total start escape rest) ≡ quoted total start Outside text → rest ≡ b ∷ after
      → quoted_byte escape b ≡ Literal c → new ≡ bytes ++ c ∷ [] → prepended new (quoted total start Outside after) ≡ quoted total start Outside text
  quoted_literal escape b c text rest bytes new after so split is pushes =
      prepended-push bytes new c (quoted total start Outside after) pushes
      ∙ ap (λ q. prepended bytes (after_quoted_byte q after (λ next. quoted total start next after) (total - length (b ∷ after)))) (sym is)
      ∙ ap (λ l. prepended bytes (quoted total start escape l)) (sym split) ∙ so

  pub quoted_within : (escape next : Escape) (b : ℕ) (text rest bytes after : List ℕ) → prepended bytes (quoted total start escape rest) ≡ quoted total start Outside text → rest ≡ b ∷ after
      → quoted_byte escape b ≡ Within next → prepended bytes (quoted total start next after) ≡ quoted total start Outside text
  quoted_within escape next b text rest bytes after so split is =
      ap (λ q. prepended bytes (after_quoted_byte q after (λ next. quoted total start next after) (total - length (b ∷ after)))) (sym is)
      ∙ ap (λ l. prepended bytes (quoted total start escape l)) (sym split) ∙ so

  pub quoted_invalid : (escape : Escape) (at b : ℕ) (text rest bytes after : List ℕ) → prepended bytes (quoted total start escape rest) ≡ quoted total start Outside text → rest ≡ b ∷ after
      → quoted_byte escape b ≡ Invalid → at ≡ total - length rest → quoted total start Outside text ≡ Err (Syntax at InvalidEscape)
  quoted_invalid escape at b text rest bytes after so split is place =
      sym so ∙ ap (λ l. prepended bytes (quoted total start escape l)) split
      ∙ ap (λ q. prepended bytes (after_quoted_byte q after (λ next. quoted total start next after) (total - length (b ∷ after)))) is
      ∙ unended bytes (Syntax (total - length (b ∷ after)) InvalidEscape)
      ∙ ap (λ n. Err (Syntax n InvalidEscape)) (ap (λ l. total - length l) (sym split) ∙ sym place)

  pub quoted_unclosed : (escape : Escape) (text rest bytes : List ℕ) → prepended bytes (quoted total start escape rest) ≡ quoted total start Outside text → rest ≡ []
      → quoted total start Outside text ≡ Err (Syntax start UnclosedString)
  quoted_unclosed escape text rest bytes so none =
      sym so ∙ ap (λ l. prepended bytes (quoted total start escape l)) none ∙ unended bytes (Syntax start UnclosedString)
