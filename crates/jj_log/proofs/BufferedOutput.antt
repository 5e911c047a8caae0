-- Output through a buffer, one piece after another.
use Rattle.std.proofs.Common.{◌≡◌, ◌∙◌, ℕ, List, [], ◌++◌, Option, Result, Ok, Err, OnOk, sym, ap, subst, append_assoc, append-nil}
use Rattle.std.proofs.KnownBytes.{Appends-nil, Appends-trans}
use Rattle.std.specs.Io.KnownBytes.{Appends}
use Rattle.jj_files.specs.Streams.{AppendsPrefixOf}
use Rattle.jj_log.specs.BufferedOutput.{WritesBuffered, AppendsBuffered}

pub AppendsBuffered-none : (a : Option (List ℕ)) (p : List ℕ) → AppendsBuffered a a p p []
AppendsBuffered-none a p = ([], Appends-nil a, sym (append-nil p))

module _ (a b c : Option (List ℕ)) (p q s t : List ℕ) (first : AppendsBuffered a b p q s) where
  joined : (later left : List ℕ) → later ++ left ≡ q ++ t → (first.0 ++ later) ++ left ≡ p ++ (s ++ t)
  joined later left f = append_assoc first.0 later left ∙ ap (λ l. first.0 ++ l) f ∙ sym (append_assoc first.0 q t) ∙ ap (λ l. l ++ t) first.2 ∙ append_assoc p s t

  pub AppendsBuffered-later : (r : List ℕ) → AppendsBuffered b c q r t → AppendsBuffered a c p r (s ++ t)
  AppendsBuffered-later r (later, appended, is) = (first.0 ++ later, Appends-trans a b c first.0 later first.1 appended, joined later r is)

  pub prefix_later : AppendsPrefixOf b c (q ++ t) → AppendsPrefixOf a c (p ++ (s ++ t))
  prefix_later (later, rest, appended, is) = (first.0 ++ later, rest, Appends-trans a b c first.0 later first.1 appended, joined later rest is)

  -- the next piece
  pub WritesBuffered-later : {A E : Type 0} (result : Result A E) (r : List ℕ) → WritesBuffered result b c q r t → WritesBuffered result a c p r (s ++ t)
  WritesBuffered-later (Ok x) r h = AppendsBuffered-later r h
  WritesBuffered-later (Err e) r h = prefix_later h

-- a prefix of an output is one of a longer output
pub prefix_more : (a b : Option (List ℕ)) (p s t : List ℕ) → AppendsPrefixOf a b (p ++ s) → AppendsPrefixOf a b (p ++ (s ++ t))
prefix_more a b p s t (written, rest, appended, is) = (written, rest ++ t, appended, sym (append_assoc written rest t) ∙ ap (λ l. l ++ t) is ∙ append_assoc p s t)

pub buffered_failed : {A E : Type 0} (r : Result A E) (e : E) (a b : Option (List ℕ)) (p q s : List ℕ) → r ≡ Err e → AppendsPrefixOf a b (p ++ s) → WritesBuffered r a b p q s
buffered_failed r e a b p q s is h = subst (λ x. WritesBuffered x a b p q s) (sym is) h

-- a piece is written where nothing is pending
pub buffered_piece : {A E : Type 0} (r : Result A E) (a b : Option (List ℕ)) (q piece : List ℕ) → q ≡ [] → OnOk r (Appends a b piece) → AppendsPrefixOf a b piece → WritesBuffered r a b q q piece
buffered_piece r a b q piece none ok prefix = subst (λ l. WritesBuffered r a b l l piece) (sym none) (by_result r ok)
  where
    by_result : {A E : Type 0} (r : Result A E) → OnOk r (Appends a b piece) → WritesBuffered r a b [] [] piece
    by_result (Ok x) ok = (piece, ok, append-nil piece)
    by_result (Err e) ok = prefix

-- the output was written, or a prefix of it
pub buffered_all : {A E : Type 0} (r : Result A E) (a b : Option (List ℕ)) (s : List ℕ) → WritesBuffered r a b [] [] s → OnOk r (Appends a b s) × AppendsPrefixOf a b s
buffered_all (Ok x) a b s (written, appended, is) = (subst (Appends a b) (sym (append-nil written) ∙ is) appended, (written, [], appended, is))
buffered_all (Err e) a b s h = (tt, h)
