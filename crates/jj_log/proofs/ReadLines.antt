-- Reading the lines of the input.
use Rattle.std.proofs.Common.{◌≡◌, ◌≢◌, ◌∙◌, ℕ, ◌+◌, ◌<◌, ◌==◌, Bool, true, false, not, List, [], ◌∷◌, ◌++◌, Option, Some, None, Bor, get_or, length, length-append, refl, ap, arith, append_assoc, filter, map, reverse, sym, subst, MatchOption, String, Vec, Global, string_bytes}
use Rattle.std.specs.List.{All, AllZip}
use Rattle.std.proofs.lemmas.Bool.{ne_eqb}
use Rattle.std.proofs.lemmas.Bool.Decides.{Decides-eqb}
use Rattle.std.proofs.lemmas.List.Elements.{All-append, All-cons, All-from_get_or, All-get_or, All-nil, filter-append}
use Rattle.std.proofs.lemmas.List.{append-nil, map-append, reverse-reverse}
use Rattle.std.proofs.lemmas.List.Splits.{slice_split_at, slice_split_none}
use Rattle.std.proofs.lemmas.Str.Pattern.{IsSplitOnceResult, split_parts}
use Rattle.jj_filter.specs.Runs.{IsInputFailure}
use Rattle.jj_filter.specs.declared.failure.Failure.{Failure}
use Rattle.jj_filter.proofs.InputFailures.{IsInputFailure-weaker}
use Rattle.jj_log.specs.declared.commits.Commit.{Commit}
use Rattle.jj_log.specs.Reports.{IsFaultAt}
use Rattle.jj_log.specs.declared.fault.Fault.{Fault}
use Rattle.jj_log.specs.declared.fault.LineFault.{LineFault}
use Rattle.jj_log.specs.InputLines.{AreCommitsOf, EndsInReturn, HasCommit, Lacks, IsCutAt, IsBadLine, IsCommitLine, IsFaultOf, IsLineFault, IsName, IsParseFault, is_nonempty, parts_of, words_of, one_word, numbered_line, numbered_lines, commit_lines}

-- 1. Strings cut at a byte.

pub lacks_from : (c : ℕ) (text : List ℕ) → ((i : ℕ) → i < length text → get_or text i 0 ≢ c) → Lacks c text
lacks_from c text other = All-from_get_or (λ b. (b == c) ≡ false) text 0 (λ i within. ne_eqb (get_or text i 0) c (other i within))

pub other_from : (c : ℕ) (text : List ℕ) → Lacks c text → (i : ℕ) → i < length text → get_or text i 0 ≢ c
other_from c text lacks i within same =
    let no = All-get_or (λ b. (b == c) ≡ false) text i 0 within lacks in
    let yes = (Decides-eqb (get_or text i 0) c).1 same in
    absurd cc

pub cut_at : (c : ℕ) (text : List ℕ) (r : Option (Bor (List ℕ) × Bor (List ℕ))) (x : Bor (List ℕ) × Bor (List ℕ)) → c < 128 → IsSplitOnceResult c text r → r ≡ Some x → IsCutAt c text x.0.now x.1.now
cut_at c text r x small split is =
    let (cut, plain) = rw is at (split_parts c text r split small) in
    (cut, lacks_from c x.0.now plain)

pub uncut : (c : ℕ) (text : List ℕ) (r : Option (Bor (List ℕ) × Bor (List ℕ))) → c < 128 → IsSplitOnceResult c text r → r ≡ None → Lacks c text
uncut c text r small split is = lacks_from c text (rw is at (split_parts c text r split small))

pub first_part : (c : ℕ) (text before after : List ℕ) → IsCutAt c text before after → parts_of c text ≡ before ∷ parts_of c after
first_part c text before after (cut, plain) = ap (parts_of c) cut ∙ slice_split_at (λ b. b == c) before c after plain ((Decides-eqb c c).1 refl)

pub shorter_part : (c : ℕ) (text before after : List ℕ) → IsCutAt c text before after → length after < length text
shorter_part c text before after (cut, plain) = omega (arith, ap length cut, length-append before (c ∷ after))

pub one_part : (c : ℕ) (text : List ℕ) → Lacks c text → parts_of c text ≡ text ∷ []
one_part c text plain = slice_split_none (λ b. b == c) text plain

-- 2. What was read and what is left.

pub next_read : {X : Type 0} (old new added left later all : List X) → old ++ left ≡ all → new ≡ old ++ added → left ≡ added ++ later → new ++ later ≡ all
next_read old new added left later all so is split = ap (λ l. l ++ later) is ∙ append_assoc old added later ∙ ap (λ l. old ++ l) (sym split) ∙ so

pub last_read : {X : Type 0} (old new added left all : List X) → old ++ left ≡ all → new ≡ old ++ added → left ≡ added → new ≡ all
last_read old new added left all so is split = is ∙ ap (λ l. old ++ l) (sym split) ∙ so

-- 3. Words.

pub next_words : (text word later : List ℕ) → IsCutAt 32 text word later → words_of text ≡ one_word word ++ words_of later
next_words text word later cut = ap (filter is_nonempty) (first_part 32 text word later cut) ∙ filter-append is_nonempty (word ∷ []) (parts_of 32 later)

pub last_word : (text : List ℕ) → Lacks 32 text → words_of text ≡ one_word text
last_word text plain = ap (filter is_nonempty) (one_part 32 text plain)

pub commit_line : (line name fields field : List ℕ) (own : String Global) (parents : Vec (String Global) Global) (label : Option (String Global)) → (EndsInReturn line → ⊥) → IsCutAt 9 line name fields → IsName name → string_bytes own ≡ name
    → map (λ s. string_bytes s) parents.items ≡ words_of field → MatchOption label ((field ≡ fields) × Lacks 9 fields) (λ l. IsCutAt 9 fields field (string_bytes l)) → IsCommitLine line (record { name = own; parents = parents; label = label })
commit_line line name fields field own parents label unended cut good is words labelled = record {
  end = unended;
  fields = fields;
  cut = subst (λ n. IsCutAt 9 line n fields) (sym is) cut;
  name = subst IsName (sym is) good;
  field = field;
  parents = words;
  label = labelled;
}

-- 4. Lines with their numbers.

pub next_lines : (number : ℕ) (text line later : List ℕ) → IsCutAt 10 text line later → numbered_lines number (parts_of 10 text) ≡ numbered_line number line ++ numbered_lines (number + 1) (parts_of 10 later)
next_lines number text line later cut = ap (numbered_lines number) (first_part 10 text line later cut)

pub last_line : (number : ℕ) (text : List ℕ) → Lacks 10 text → numbered_lines number (parts_of 10 text) ≡ numbered_line number text ++ []
last_line number text plain = ap (numbered_lines number) (one_part 10 text plain)

pub one_line : (number : ℕ) (line : List ℕ) → (length line ≡ 0 → ⊥) → numbered_line number line ≡ (number, line) ∷ []
one_line number [] other = absurd (other refl)
one_line number (byte ∷ rest) other = refl

pub no_line : (number : ℕ) (line : List ℕ) → length line ≡ 0 → numbered_line number line ≡ []
no_line number [] empty = refl
no_line number (byte ∷ rest) empty = absurd (omega (arith, empty))

pub AllZip-append : {A B : Type 0} (R : A → B → Type 0) (xs vs : List A) (ys ws : List B) → AllZip R xs ys → AllZip R vs ws → AllZip R (xs ++ vs) (ys ++ ws)
AllZip-append R [] vs [] ws first rest = rest
AllZip-append R [] vs (y ∷ ys) ws first rest = absurd first
AllZip-append R (x ∷ xs) vs [] ws first rest = absurd first
AllZip-append R (x ∷ xs) vs (y ∷ ys) ws first rest = (first.0, AllZip-append R xs vs ys ws first.1 rest)

-- some lines were parsed, and the lines of the rest are left
pub record IsParsing (input rest : List ℕ) (number : ℕ) (commits : List Commit) (numbers : List ℕ) : Type 0 where
  pub parsed : List (ℕ × List ℕ)
  pub split : parsed ++ numbered_lines number (parts_of 10 rest) ≡ commit_lines input
  pub lines : AllZip IsCommitLine (map (λ l. l.1) parsed) commits
  pub numbered : numbers ≡ map (λ l. l.0) parsed

pub none_parsed : (input : List ℕ) → IsParsing input input 1 [] []
none_parsed input = record { parsed = []; split = refl; lines = tt; numbered = refl }

pub next_parsed : (input rest : List ℕ) (number : ℕ) (old new : List Commit) (before after : List ℕ) (line later : List ℕ) → IsParsing input rest number old before
    → numbered_lines number (parts_of 10 rest) ≡ numbered_line number line ++ numbered_lines (number + 1) (parts_of 10 later)
    → ((added : List Commit) × (new ≡ old ++ added) × AllZip IsCommitLine (map (λ l. l.1) (numbered_line number line)) added) → after ≡ before ++ map (λ l. l.0) (numbered_line number line)
    → IsParsing input later (number + 1) new after
next_parsed input rest number old new before after line later so next (added, is, lines) numbers =
    let here = numbered_line number line in
    let left = numbered_lines (number + 1) (parts_of 10 later) in
    record {
      parsed = so.parsed ++ here;
      split = next_read so.parsed (so.parsed ++ here) here (numbered_lines number (parts_of 10 rest)) left (commit_lines input) so.split refl next;
      lines =
          rw (is, map-append (λ l. l.1) so.parsed here) (AllZip-append IsCommitLine (map (λ l. l.1) so.parsed) (map (λ l. l.1) here) old added so.lines lines);
      numbered = numbers ∙ ap (λ ns. ns ++ map (λ l. l.0) here) so.numbered ∙ sym (map-append (λ l. l.0) so.parsed here);
    }

-- the last line was parsed, and both lists are reversed
pub all_parsed : (input rest : List ℕ) (number : ℕ) (old new last : List Commit) (before after numbers : List ℕ) → IsParsing input rest number old before → Lacks 10 rest
    → ((added : List Commit) × (new ≡ old ++ added) × AllZip IsCommitLine (map (λ l. l.1) (numbered_line number rest)) added) → after ≡ before ++ map (λ l. l.0) (numbered_line number rest)
    → last ≡ reverse new → numbers ≡ reverse after → AreCommitsOf input last numbers
all_parsed input rest number old new last before after numbers so plain (added, is, lines) now turned turned_numbers =
    let here = numbered_line number rest in
    let whole : so.parsed ++ here ≡ commit_lines input =
    ap (λ l. so.parsed ++ l) (sym (last_line number rest plain ∙ append-nil here)) ∙ so.split in
    record {
      lines =
          rw (turned, reverse-reverse new, is)
          (subst (λ l. AllZip IsCommitLine l (old ++ added)) (sym (map-append (λ l. l.1) so.parsed here) ∙ ap (map (λ l. l.1)) whole)
          (AllZip-append IsCommitLine (map (λ l. l.1) so.parsed) (map (λ l. l.1) here) old added so.lines lines));
      numbered =
          ap reverse turned_numbers ∙ reverse-reverse after ∙ now ∙ ap (λ ns. ns ++ map (λ l. l.0) here) so.numbered ∙ sym (map-append (λ l. l.0) so.parsed here)
          ∙ ap (map (λ l. l.0)) whole;
    }

-- 5. Faults.

have_commits : (lines : List (ℕ × List ℕ)) (commits : List Commit) → AllZip IsCommitLine (map (λ l. l.1) lines) commits → All HasCommit lines
have_commits [] commits all = All-nil HasCommit
have_commits (l ∷ lines) [] all = absurd all
have_commits (l ∷ lines) (commit ∷ commits) (first, rest) = All-cons HasCommit l lines (commit, first) (have_commits lines commits rest)

faults_more : (front part later whole : List (ℕ × List ℕ)) → whole ≡ front ++ (part ++ later) → All HasCommit front → (fault : Fault) → IsFaultOf part fault → IsFaultOf whole fault
faults_more front part later whole is good fault (before, number, line, after, split, all, bad) = (
  front ++ before,
  number,
  line,
  after ++ later,
  is ∙ ap (λ l. front ++ (l ++ later)) split ∙ ap (λ l. front ++ l) (append_assoc before ((number, line) ∷ after) later) ∙ sym (append_assoc front before ((number, line) ∷ (after ++ later))),
  All-append HasCommit front before good all,
  bad,
)

pub fault_of_line : (input rest : List ℕ) (number : ℕ) (old : List Commit) (before line : List ℕ) (left : List (ℕ × List ℕ)) → IsParsing input rest number old before
    → numbered_lines number (parts_of 10 rest) ≡ numbered_line number line ++ left → (failure : Failure Fault) → IsInputFailure (IsFaultOf (numbered_line number line)) failure → IsInputFailure (IsParseFault input) failure
fault_of_line input rest number old before line left so next failure is =
    IsInputFailure-weaker (IsFaultOf (numbered_line number line)) (IsParseFault input)
    (λ fault fails. faults_more so.parsed (numbered_line number line) left (commit_lines input) (sym so.split ∙ ap (λ l. so.parsed ++ l) next) (have_commits so.parsed old so.lines) fault fails)
    failure is

line_fault : (number : ℕ) (line : List ℕ) (fault : Fault) → (length line ≡ 0 → ⊥) → IsLineFault number line fault → IsFaultOf (numbered_line number line) fault
line_fault number line fault other bad = ([], number, line, [], one_line number line other, All-nil HasCommit, bad)

pub line_failure : (number : ℕ) (line : List ℕ) (failure : Failure Fault) → (length line ≡ 0 → ⊥) → IsInputFailure (IsLineFault number line) failure → IsInputFailure (IsFaultOf (numbered_line number line)) failure
line_failure number line failure other is = IsInputFailure-weaker (IsLineFault number line) (IsFaultOf (numbered_line number line)) (λ fault fails. line_fault number line fault other fails) failure is

pub bad_line : (number : ℕ) (line : List ℕ) (kind : LineFault) → IsBadLine line kind → (failure : Failure Fault) → IsInputFailure (IsFaultAt number kind line) failure → IsInputFailure (IsLineFault number line) failure
bad_line number line kind bad failure is = IsInputFailure-weaker (IsFaultAt number kind line) (IsLineFault number line) (λ fault at. (kind, bad, at)) failure is

pub not_from : (b : Bool) → (b ≡ true → ⊥) → not b ≡ true
not_from true other = absurd (other refl)
not_from false other = refl
