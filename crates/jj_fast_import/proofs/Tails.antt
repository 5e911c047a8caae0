-- Each reading function returns a suffix of its input.
use Rattle.std.proofs.Common.{◌≡◌, ◌∙◌, ℕ, zero, suc, ◌+◌, subst, Bool, true, false, not, cond, ltb, nat_eq, List, [], ◌∷◌, ◌++◌, length, take, drop, Option, Some, None, Result, Ok, Err, refl, sym, ap, append_assoc}
use Rattle.std.specs.Prelude.{codes}
use Rattle.std.specs.Str.{bytes_eq}
use Rattle.std.proofs.lemmas.List.{take-append-drop}
use Rattle.jj_fast_import.specs.declared.fault.Expected.{Expected}
use Rattle.jj_fast_import.specs.declared.fault.Expected.TheVariants as expected
use Rattle.jj_fast_import.specs.declared.fault.Stop.{Stop}
use Rattle.jj_fast_import.specs.declared.fault.Stop.TheVariants.{Incomplete}
use Rattle.jj_fast_import.specs.Words.{and_then, number_of, split_once, strip, with_byte}
use Rattle.jj_fast_import.specs.Lines.{◌>>=◌, argument_or, complete, counted, data_at, data_of, delimited, delimited_by, end_of, expect, line_after, line_at, line_of, optional, optional_in, or_else, required, required_in, skip_lf, until, whole_line, without_comments}
use Rattle.jj_fast_import.specs.People.{person_of}
use Rattle.jj_fast_import.specs.Values.{ReferenceValue, ChangeValue, DeletesAll, CommandValue}
use Rattle.jj_fast_import.specs.Changes.{change_at, change_in, change_of, choose, content_at, content_by, copy_at, delete_at, found, last_path, modified_of, modify_at, note_at, noted_of, reference_of, rename_at, two_paths}
use Rattle.jj_fast_import.specs.Commands.{blob_at, command_at, command_in, command_of, commit_at, if_there, labels_at, list_of, many, mark_at, marked, message_at, optional_bytes, optional_reference, or_nothing, other_in, parents_at, people_at, person_line, reference_in, reference_line, reset_at, tag_at, text_at}

-- 1. Suffixes.

abbrev pub IsTail : List ℕ → List ℕ → Type 0
IsTail bytes rest = (taken : List ℕ) × (bytes ≡ taken ++ rest)

tail-refl : (bytes : List ℕ) → IsTail bytes bytes
tail-refl bytes = ([], refl)

tail-cons : (b : ℕ) (bytes rest : List ℕ) → IsTail bytes rest → IsTail (b ∷ bytes) rest
tail-cons b bytes rest t = (b ∷ t.0, ap (λ (l : List ℕ). b ∷ l) t.1)

tail-trans : (a b c : List ℕ) → IsTail a b → IsTail b c → IsTail a c
tail-trans a b c p q = (p.0 ++ q.0, p.1 ∙ ap (λ (l : List ℕ). p.0 ++ l) q.1 ∙ sym (append_assoc p.0 q.0 c))

tail-drop : (n : ℕ) (bytes : List ℕ) → IsTail bytes (drop n bytes)
tail-drop n bytes = (take n bytes, sym (take-append-drop n bytes))

-- 2. Results with a suffix.

abbrev TailOf : {A : Type 0} → List ℕ → Result (A × List ℕ) Stop → Type 0
TailOf bytes (Ok read) = IsTail bytes read.1
TailOf bytes (Err stop) = Unit {0}

abbrev pub TailIn : {A : Type 0} → List ℕ → Option (A × List ℕ) → Type 0
TailIn bytes None = Unit {0}
TailIn bytes (Some read) = IsTail bytes read.1

abbrev pub TailIf : {A : Type 0} → List ℕ → Result (Option (A × List ℕ)) Stop → Type 0
TailIf bytes (Ok found) = TailIn bytes found
TailIf bytes (Err stop) = Unit {0}

widen : {A : Type 0} (a b : List ℕ) (r : Result (A × List ℕ) Stop) → IsTail a b → TailOf b r → TailOf a r
widen a b (Ok read) t u = tail-trans a b read.1 t u
widen a b (Err stop) t u = tt

bind : {A B : Type 0} (bytes : List ℕ) (r : Result (A × List ℕ) Stop) (f : A × List ℕ → Result (B × List ℕ) Stop) → TailOf bytes r → ((x : A × List ℕ) → TailOf x.1 (f x)) → TailOf bytes (r >>= f)
bind bytes (Ok x) f t u = widen bytes x.1 (f x) t (u x)
bind bytes (Err stop) f t u = tt

bind_value : {A B : Type 0} (bytes : List ℕ) (r : Result A Stop) (f : A → Result (B × List ℕ) Stop) → ((x : A) → TailOf bytes (f x)) → TailOf bytes (r >>= f)
bind_value bytes (Ok x) f u = u x
bind_value bytes (Err stop) f u = tt

bind_tail : {B : Type 0} (bytes : List ℕ) (r : Result (List ℕ) Stop) (f : List ℕ → Result (B × List ℕ) Stop) → ((rest : List ℕ) → r ≡ Ok rest → IsTail bytes rest) → ((rest : List ℕ) → TailOf rest (f rest)) → TailOf bytes (r >>= f)
bind_tail bytes (Ok rest) f t u = widen bytes rest (f rest) (t rest refl) (u rest)
bind_tail bytes (Err stop) f t u = tt

bind_found : {A B : Type 0} (bytes : List ℕ) (r : Result (Option (A × List ℕ)) Stop) (f : Option (A × List ℕ) → Result (B × List ℕ) Stop) → TailIf bytes r
    → TailOf bytes (f None) → ((x : A × List ℕ) → TailOf x.1 (f (Some x))) → TailOf bytes (r >>= f)
bind_found bytes (Ok None) f t n u = n
bind_found bytes (Ok (Some x)) f t n u = widen bytes x.1 (f (Some x)) t (u x)
bind_found bytes (Err stop) f t n u = tt

bind_choice : {A B : Type 0} (bytes : List ℕ) (r : Result (Option (A × List ℕ)) Stop) (f : Option (A × List ℕ) → Result (Option (B × List ℕ)) Stop) → TailIf bytes r
    → TailIf bytes (f None) → ((x : A × List ℕ) → TailIf x.1 (f (Some x))) → TailIf bytes (r >>= f)
bind_choice bytes (Ok None) f t n u = n
bind_choice bytes (Ok (Some x)) f t n u = widen_if bytes x.1 (f (Some x)) t (u x)
  where
    widen_if : {B : Type 0} (a b : List ℕ) (r : Result (Option (B × List ℕ)) Stop) → IsTail a b → TailIf b r → TailIf a r
    widen_if a b (Ok None) t u = tt
    widen_if a b (Ok (Some read)) t u = tail-trans a b read.1 t u
    widen_if a b (Err stop) t u = tt
bind_choice bytes (Err stop) f t n u = tt

as_some : {A : Type 0} (bytes : List ℕ) (r : Result (A × List ℕ) Stop) → TailOf bytes r → TailIf bytes (r >>= λ x. Ok (Some x))
as_some bytes (Ok x) t = t
as_some bytes (Err stop) t = tt

-- 3. Lines and data.

split_tail : (byte : ℕ) (bytes : List ℕ) → TailIn bytes (split_once byte bytes)
split_tail byte [] = tt
split_tail byte (b ∷ bs) = by_test (nat_eq b byte) b bs (split_once byte bs) (split_tail byte bs)
  where
    later : (b : ℕ) (bs : List ℕ) (r : Option (List ℕ × List ℕ)) → TailIn bs r → TailIn (b ∷ bs) (with_byte b r)
    later b bs None t = tt
    later b bs (Some parts) t = tail-cons b bs parts.1 t

    by_test : (is : Bool) (b : ℕ) (bs : List ℕ) (r : Option (List ℕ × List ℕ)) → TailIn bs r → TailIn (b ∷ bs) (cond is (Some ([], bs)) (with_byte b r))
    by_test true b bs r t = (b ∷ [], refl)
    by_test false b bs r t = later b bs r t

pub comments_tail : (within : Bool) (bytes : List ℕ) → IsTail bytes (without_comments within bytes)
comments_tail within [] = ([], refl)
comments_tail within (b ∷ bs) = by_test _ b bs (without_comments (not (nat_eq b 10)) bs) (comments_tail (not (nat_eq b 10)) bs)
  where
    by_test : (ends : Bool) (b : ℕ) (bs rest : List ℕ) → IsTail bs rest → IsTail (b ∷ bs) (cond ends (b ∷ bs) rest)
    by_test true b bs rest t = tail-refl (b ∷ bs)
    by_test false b bs rest t = tail-cons b bs rest t

line_of-tail : (at_end : Bool) (bytes : List ℕ) → TailIf bytes (line_of at_end bytes)
line_of-tail true [] = tt
line_of-tail false [] = tt
line_of-tail at_end (b ∷ bs) = whole (b ∷ bs) (split_once 10 (b ∷ bs)) (split_tail 10 (b ∷ bs))
  where
    whole : (bytes : List ℕ) (r : Option (List ℕ × List ℕ)) → TailIn bytes r → TailIf bytes (whole_line r)
    whole bytes None t = tt
    whole bytes (Some parts) t = t

widen_found : (a b : List ℕ) (r : Result (Option (List ℕ × List ℕ)) Stop) → IsTail a b → TailIf b r → TailIf a r
widen_found a b (Ok None) t u = tt
widen_found a b (Ok (Some read)) t u = tail-trans a b read.1 t u
widen_found a b (Err stop) t u = tt

line_tail : (at_end : Bool) (bytes : List ℕ) → TailIf bytes (line_at at_end bytes)
unfolding line_at
line_tail at_end bytes = widen_found bytes (without_comments false bytes) (line_of at_end (without_comments false bytes)) (comments_tail false bytes) (line_of-tail at_end (without_comments false bytes))

optional_tail : (word : List ℕ) (at_end : Bool) (bytes : List ℕ) → TailOf bytes (optional word at_end bytes)
unfolding optional
optional_tail word at_end bytes =
    read bytes (line_at at_end bytes) (line_tail at_end bytes)
  where
    argument : (word bytes rest : List ℕ) (o : Option (List ℕ)) → IsTail bytes rest → IsTail bytes (argument_or bytes rest o).1
    argument word bytes rest None t = tail-refl bytes
    argument word bytes rest (Some text) t = t

    read : (bytes : List ℕ) (r : Result (Option (List ℕ × List ℕ)) Stop) → TailIf bytes r → TailOf bytes (r >>= λ line. Ok (optional_in word bytes line))
    read bytes (Ok None) t = tail-refl bytes
    read bytes (Ok (Some line)) t = argument word bytes line.1 (strip word line.0) t
    read bytes (Err stop) t = tt

required_tail : (word : List ℕ) (kind : Expected) (at_end : Bool) (bytes : List ℕ) → TailOf bytes (required word kind at_end bytes)
unfolding required
required_tail word kind at_end bytes =
    bind_found bytes (line_at at_end bytes) (required_in word kind (length bytes)) (line_tail at_end bytes) tt
    (λ line. bind_value line.1 (expect kind (length bytes) (strip word line.0)) (λ argument. Ok (argument, line.1)) (λ argument. tail-refl line.1))

abbrev pure : List ℕ → Result (List ℕ) Stop
pure bytes = Ok bytes

lf_tail : (at_end : Bool) (bytes rest : List ℕ) → skip_lf at_end bytes ≡ Ok rest → IsTail bytes rest
unfolding skip_lf
lf_tail true [] rest e = ([], cc)
lf_tail false [] rest e = absurd cc
lf_tail at_end (b ∷ bs) rest e = by_test (nat_eq b 10) b bs rest e
  where
    by_test : (is : Bool) (b : ℕ) (bs rest : List ℕ) → cond is (pure bs) (pure (b ∷ bs)) ≡ pure rest → IsTail (b ∷ bs) rest
    by_test true b bs rest e = (b ∷ [], cc)
    by_test false b bs rest e = ([], cc)

strip_tail : (word bytes rest : List ℕ) → strip word bytes ≡ Some rest → IsTail bytes rest
strip_tail word bytes rest e = by_test _ e
  where
    by_test : (is : Bool) → cond is (Some (drop (length word) bytes)) None ≡ Some rest → IsTail bytes rest
    by_test true e = (take (length word) bytes, sym (take-append-drop (length word) bytes) ∙ ap (λ (l : List ℕ). take (length word) bytes ++ l) cc)
    by_test false e = absurd cc

line_after_tail : (delimiter bytes rest : List ℕ) → line_after delimiter bytes ≡ Some rest → IsTail bytes rest
line_after_tail delimiter bytes rest e = by_first (strip delimiter bytes) refl e
  where
    by_first : (o : Option (List ℕ)) → strip delimiter bytes ≡ o → and_then o (λ after. strip (10 ∷ []) after) ≡ Some rest → IsTail bytes rest
    by_first None is e = absurd cc
    by_first (Some after) is e = tail-trans bytes after rest (strip_tail delimiter bytes after is) (strip_tail (10 ∷ []) after rest e)

end_tail : (delimiter : List ℕ) (is_start : Bool) (bytes rest : List ℕ) → end_of delimiter is_start bytes ≡ Some rest → IsTail bytes rest
end_tail delimiter true bytes rest e = line_after_tail delimiter bytes rest e
end_tail delimiter false bytes rest e = absurd cc

until_tail : (delimiter : List ℕ) (is_start : Bool) (bytes : List ℕ) → TailIn bytes (until delimiter is_start bytes)
until_tail delimiter is_start [] = tt
until_tail delimiter is_start (b ∷ bs) =
    by_end b bs (end_of delimiter is_start (b ∷ bs)) (end_tail delimiter is_start (b ∷ bs)) (until delimiter (nat_eq b 10) bs) (until_tail delimiter (nat_eq b 10) bs)
  where
    by_end : (b : ℕ) (bs : List ℕ) (o : Option (List ℕ)) → ((rest : List ℕ) → o ≡ Some rest → IsTail (b ∷ bs) rest) → (more : Option (List ℕ × List ℕ)) → TailIn bs more
        → TailIn (b ∷ bs) (or_else o (with_byte b more))
    by_end b bs (Some rest) t more u = t rest refl
    by_end b bs None t None u = tt
    by_end b bs None t (Some parts) u = tail-cons b bs parts.1 u

abbrev stopped : Result (List ℕ × List ℕ) Stop
stopped = Err Incomplete

counted_tail : (count : ℕ) (bytes : List ℕ) → TailOf bytes (counted count bytes)
counted_tail count bytes = by_test (ltb (length bytes) count)
  where
    by_test : (short : Bool) → TailOf bytes (cond short stopped (Ok (take count bytes, drop count bytes)))
    by_test true = tt
    by_test false = tail-drop count bytes

delimited_tail : (delimiter bytes : List ℕ) → TailOf bytes (delimited delimiter bytes)
delimited_tail delimiter bytes = whole (until delimiter true bytes) (until_tail delimiter true bytes)
  where
    whole : (o : Option (List ℕ × List ℕ)) → TailIn bytes o → TailOf bytes (complete o)
    whole None t = tt
    whole (Some parts) t = t

data_tail : (at_end : Bool) (bytes : List ℕ) → TailOf bytes (data_at at_end bytes)
unfolding data_at
data_tail at_end bytes =
    bind bytes (required (codes "data ") expected.Data at_end bytes) (λ size. data_of (length bytes) size.0 size.1 (strip (codes "<<") size.0)) (required_tail (codes "data ") expected.Data at_end bytes)
    (λ size. by_delimiter size.0 size.1 (strip (codes "<<") size.0))
  where
    by_delimiter : (size rest : List ℕ) (o : Option (List ℕ)) → TailOf rest (data_of (length bytes) size rest o)
    by_delimiter size rest None = bind_value rest (expect expected.Data (length bytes) (number_of size)) (λ count. counted count rest) (λ count. counted_tail count rest)
    by_delimiter size rest (Some []) = tt
    by_delimiter size rest (Some (b ∷ bs)) = delimited_tail (b ∷ bs) rest

-- 4. Changes.

content_tail : (at_end : Bool) (kind : Expected) (left : ℕ) (text rest : List ℕ) → TailOf rest (content_at at_end kind left text rest)
unfolding content_at
content_tail at_end kind left text rest = by_test (bytes_eq text (codes "inline"))
  where
    by_test : (is : Bool) → TailOf rest (content_by is at_end kind left text rest)
    by_test true =
        bind rest (data_at at_end rest) _ (data_tail at_end rest)
        (λ read. bind_tail read.1 (skip_lf at_end read.1) _ (lf_tail at_end read.1) (λ after. tail-refl after))
    by_test false = bind_value rest (expect kind left (reference_of text)) _ (λ reference. tail-refl rest)

modify_tail : (at_end : Bool) (left : ℕ) (text rest : List ℕ) → TailOf rest (modify_at at_end left text rest)
unfolding modify_at
modify_tail at_end left text rest =
    bind_value rest (expect expected.Modify left (modified_of text)) _
    (λ parts. bind rest (content_at at_end expected.Modify left parts.1 rest) _ (content_tail at_end expected.Modify left parts.1 rest) (λ content. tail-refl content.1))

delete_tail : (left : ℕ) (text rest : List ℕ) → TailOf rest (delete_at left text rest)
unfolding delete_at
delete_tail left text rest = bind_value rest (expect expected.Delete left (last_path text)) _ (λ path. tail-refl rest)

rename_tail : (left : ℕ) (text rest : List ℕ) → TailOf rest (rename_at left text rest)
unfolding rename_at
rename_tail left text rest = bind_value rest (expect expected.TwoPaths left (two_paths text)) _ (λ paths. tail-refl rest)

copy_tail : (left : ℕ) (text rest : List ℕ) → TailOf rest (copy_at left text rest)
unfolding copy_at
copy_tail left text rest = bind_value rest (expect expected.TwoPaths left (two_paths text)) _ (λ paths. tail-refl rest)

note_tail : (at_end : Bool) (left : ℕ) (text rest : List ℕ) → TailOf rest (note_at at_end left text rest)
unfolding note_at
note_tail at_end left text rest =
    bind_value rest (expect expected.Note left (noted_of text)) _
    (λ parts. bind rest (content_at at_end expected.Note left parts.0 rest) _ (content_tail at_end expected.Note left parts.0 rest) (λ content. tail-refl content.1))

chosen : {B : Type 0} (rest : List ℕ) (o : Option (List ℕ)) (f : List ℕ → Result (B × List ℕ) Stop) (other : Result (B × List ℕ) Stop)
    → ((text : List ℕ) → TailOf rest (f text)) → TailOf rest other → TailOf rest (choose o f other)
chosen rest None f other t u = u
chosen rest (Some text) f other t u = t text

chosen_if : {B : Type 0} (rest : List ℕ) (o : Option (List ℕ)) (f : List ℕ → Result (Option (B × List ℕ)) Stop) (other : Result (Option (B × List ℕ)) Stop)
    → ((text : List ℕ) → TailIf rest (f text)) → TailIf rest other → TailIf rest (choose o f other)
chosen_if rest None f other t u = u
chosen_if rest (Some text) f other t u = t text

pub change_in_tail : (at_end : Bool) (left : ℕ) (text rest : List ℕ) → TailIf rest (change_in at_end left text rest)
unfolding change_in
change_in_tail at_end left text rest =
    chosen_if rest (strip (codes "M ") text) _ _ (λ args. as_some rest (modify_at at_end left args rest) (modify_tail at_end left args rest))
    (chosen_if rest (strip (codes "D ") text) _ _ (λ args. as_some rest (delete_at left args rest) (delete_tail left args rest))
    (chosen_if rest (strip (codes "R ") text) _ _ (λ args. as_some rest (rename_at left args rest) (rename_tail left args rest))
    (chosen_if rest (strip (codes "C ") text) _ _ (λ args. as_some rest (copy_at left args rest) (copy_tail left args rest))
    (chosen_if rest (strip (codes "N ") text) _ _ (λ args. as_some rest (note_at at_end left args rest) (note_tail at_end left args rest))
    (all_deleted (bytes_eq text (codes "deleteall")))))))
  where
    all_deleted : (is : Bool) → TailIf {A = ChangeValue} rest (cond is (Ok (Some (DeletesAll, rest))) (Ok None))
    all_deleted true = tail-refl rest
    all_deleted false = tt

change_tail : (at_end : Bool) (bytes : List ℕ) → TailIf bytes (change_at at_end bytes)
unfolding change_at
change_tail at_end bytes =
    bind_choice bytes (line_at at_end bytes) (change_of at_end (length bytes)) (line_tail at_end bytes) tt (λ line. change_in_tail at_end (length bytes) line.0 line.1)

-- 5. Parts of commands.

mark_tail : (at_end : Bool) (bytes : List ℕ) → TailOf bytes (mark_at at_end bytes)
unfolding mark_at
mark_tail at_end bytes =
    bind bytes (optional (codes "mark ") at_end bytes) _ (optional_tail (codes "mark ") at_end bytes)
    (λ line. bind_value line.1 (if_there line.0 (λ text. expect expected.Mark (length bytes) (marked text))) _ (λ mark. tail-refl line.1))

bytes_tail : (word : List ℕ) (at_end : Bool) (bytes : List ℕ) → TailOf bytes (optional_bytes word at_end bytes)
unfolding optional_bytes
bytes_tail word at_end bytes = optional_tail word at_end bytes

labels_tail : (at_end : Bool) (bytes : List ℕ) → TailOf bytes (labels_at at_end bytes)
unfolding labels_at
labels_tail at_end bytes =
    bind bytes (mark_at at_end bytes) _ (mark_tail at_end bytes)
    (λ mark. bind mark.1 (optional_bytes (codes "original-oid ") at_end mark.1) _ (bytes_tail (codes "original-oid ") at_end mark.1) (λ original. tail-refl original.1))

person_tail : (word : List ℕ) (at_end : Bool) (bytes : List ℕ) → TailOf bytes (person_line word at_end bytes)
unfolding person_line
person_tail word at_end bytes =
    bind bytes (optional word at_end bytes) _ (optional_tail word at_end bytes)
    (λ line. bind_value line.1 (if_there line.0 (λ text. expect expected.Person (length bytes) (person_of text))) _ (λ person. tail-refl line.1))

people_tail : (at_end : Bool) (bytes : List ℕ) → TailOf bytes (people_at at_end bytes)
unfolding people_at
people_tail at_end bytes =
    bind bytes (person_line (codes "author ") at_end bytes) _ (person_tail (codes "author ") at_end bytes)
    (λ author. bind author.1 (required (codes "committer ") expected.Committer at_end author.1) _ (required_tail (codes "committer ") expected.Committer at_end author.1)
    (λ line. bind_value line.1 (expect expected.Person (length author.1) (person_of line.0)) _ (λ committer. tail-refl line.1)))

message_tail : (at_end : Bool) (bytes : List ℕ) → TailOf bytes (message_at at_end bytes)
unfolding message_at
message_tail at_end bytes =
    bind bytes (data_at at_end bytes) _ (data_tail at_end bytes)
    (λ read. bind_tail read.1 (skip_lf at_end read.1) _ (lf_tail at_end read.1) (λ rest. tail-refl rest))

text_tail : (at_end : Bool) (bytes : List ℕ) → TailOf bytes (text_at at_end bytes)
unfolding text_at
text_tail at_end bytes =
    bind bytes (optional_bytes (codes "encoding ") at_end bytes) _ (bytes_tail (codes "encoding ") at_end bytes)
    (λ encoding. bind encoding.1 (message_at at_end encoding.1) _ (message_tail at_end encoding.1) (λ message. tail-refl message.1))

reference_tail : (word : List ℕ) (kind : Expected) (at_end : Bool) (bytes : List ℕ) → TailIf bytes (reference_line word kind at_end bytes)
unfolding reference_line
reference_tail word kind at_end bytes = read (optional word at_end bytes) (optional_tail word at_end bytes)
  where
    named : (rest : List ℕ) (r : Result ReferenceValue Stop) → IsTail bytes rest → TailIf bytes (r >>= λ reference. Ok (Some (reference, rest)))
    named rest (Ok reference) t = t
    named rest (Err stop) t = tt

    read : (r : Result (Option (List ℕ) × List ℕ) Stop) → TailOf bytes r → TailIf bytes (r >>= reference_in kind (length bytes))
    read (Ok (None, rest)) t = tt
    read (Ok (Some text, rest)) t = named rest (expect kind (length bytes) (reference_of text)) t
    read (Err stop) t = tt

from_tail : (at_end : Bool) (bytes : List ℕ) → TailOf bytes (optional_reference at_end bytes)
unfolding optional_reference
from_tail at_end bytes = read (reference_line (codes "from ") expected.From at_end bytes) (reference_tail (codes "from ") expected.From at_end bytes)
  where
    read : (r : Result (Option (ReferenceValue × List ℕ)) Stop) → TailIf bytes r → TailOf bytes (r >>= λ x. Ok (or_nothing bytes x))
    read (Ok None) t = tail-refl bytes
    read (Ok (Some x)) t = t
    read (Err stop) t = tt

many_tail : {A : Type 0} (read : List ℕ → Result (Option (A × List ℕ)) Stop) → ((bytes : List ℕ) → TailIf bytes (read bytes)) → (n : ℕ) (bytes : List ℕ) → TailOf bytes (many read n bytes)
unfolding many
many_tail read t zero bytes = tail-refl bytes
many_tail read t (suc n) bytes =
    bind_found bytes (read bytes) (λ found. list_of bytes found (λ rest. many read n rest)) (t bytes) (tail-refl bytes)
    (λ x. bind x.1 (many read n x.1) (λ others. Ok (x.0 ∷ others.0, others.1)) (many_tail read t n x.1) (λ others. tail-refl others.1))

merges_tail : (at_end : Bool) (n : ℕ) (bytes : List ℕ) → TailOf bytes (many (λ rest. reference_line (codes "merge ") expected.Merge at_end rest) n bytes)
merges_tail at_end n bytes = many_tail _ (λ rest. reference_tail (codes "merge ") expected.Merge at_end rest) n bytes

changes_tail : (at_end : Bool) (n : ℕ) (bytes : List ℕ) → TailOf bytes (many (λ rest. change_at at_end rest) n bytes)
changes_tail at_end n bytes = many_tail _ (λ rest. change_tail at_end rest) n bytes

parents_tail : (at_end : Bool) (bytes : List ℕ) → TailOf bytes (parents_at at_end bytes)
unfolding parents_at
parents_tail at_end bytes =
    bind bytes (optional_reference at_end bytes) _ (from_tail at_end bytes)
    (λ from. bind from.1 (many (λ rest. reference_line (codes "merge ") expected.Merge at_end rest) (length from.1 + 1) from.1) _ (merges_tail at_end (length from.1 + 1) from.1) (λ merges. tail-refl merges.1))

-- 6. Commands.

blob_tail : (at_end : Bool) (bytes : List ℕ) → TailOf bytes (blob_at at_end bytes)
unfolding blob_at
blob_tail at_end bytes =
    bind bytes (labels_at at_end bytes) _ (labels_tail at_end bytes)
    (λ labels. bind labels.1 (message_at at_end labels.1) _ (message_tail at_end labels.1) (λ content. tail-refl content.1))

commit_tail : (at_end : Bool) (ref_name bytes : List ℕ) → TailOf bytes (commit_at at_end ref_name bytes)
unfolding commit_at
commit_tail at_end ref_name bytes =
    bind bytes (labels_at at_end bytes) _ (labels_tail at_end bytes)
    (λ labels. bind labels.1 (people_at at_end labels.1) _ (people_tail at_end labels.1)
    (λ people. bind people.1 (text_at at_end people.1) _ (text_tail at_end people.1)
    (λ text. bind text.1 (parents_at at_end text.1) _ (parents_tail at_end text.1)
    (λ parents. bind parents.1 (many (λ rest. change_at at_end rest) (length parents.1 + 1) parents.1) _ (changes_tail at_end (length parents.1 + 1) parents.1)
    (λ changes. bind_tail changes.1 (skip_lf at_end changes.1) _ (lf_tail at_end changes.1) (λ rest. tail-refl rest))))))

tag_tail : (at_end : Bool) (name bytes : List ℕ) → TailOf bytes (tag_at at_end name bytes)
unfolding tag_at
tag_tail at_end name bytes =
    bind bytes (mark_at at_end bytes) _ (mark_tail at_end bytes)
    (λ mark. bind mark.1 (required (codes "from ") expected.From at_end mark.1) _ (required_tail (codes "from ") expected.From at_end mark.1)
    (λ line. bind_value line.1 (expect expected.From (length mark.1) (reference_of line.0)) _
    (λ from. bind line.1 (optional_bytes (codes "original-oid ") at_end line.1) _ (bytes_tail (codes "original-oid ") at_end line.1)
    (λ original. bind original.1 (person_line (codes "tagger ") at_end original.1) _ (person_tail (codes "tagger ") at_end original.1)
    (λ tagger. bind tagger.1 (message_at at_end tagger.1) _ (message_tail at_end tagger.1) (λ message. tail-refl message.1))))))

reset_tail : (at_end : Bool) (ref_name bytes : List ℕ) → TailOf bytes (reset_at at_end ref_name bytes)
unfolding reset_at
reset_tail at_end ref_name bytes =
    bind bytes (optional_reference at_end bytes) _ (from_tail at_end bytes)
    (λ from. bind_tail from.1 (skip_lf at_end from.1) _ (lf_tail at_end from.1) (λ rest. tail-refl rest))

other_tail : (at_end : Bool) (left : ℕ) (text rest : List ℕ) → TailOf rest (other_in at_end left text rest)
unfolding other_in
other_tail at_end left text rest =
    chosen rest (strip (codes "feature ") text) _ _ (λ feature. tail-refl rest)
    (chosen rest (strip (codes "option ") text) _ _ (λ option. tail-refl rest)
    (chosen rest (strip (codes "progress ") text) _ _ (λ progress. bind_tail rest (skip_lf at_end rest) _ (lf_tail at_end rest) (λ after. tail-refl after))
    (tested (bytes_eq text (codes "checkpoint")) _ _ (bind_tail rest (skip_lf at_end rest) _ (lf_tail at_end rest) (λ after. tail-refl after))
    (tested (bytes_eq text (codes "done")) _ _ (tail-refl rest) tt))))
  where
    tested : (is : Bool) (a b : Result (CommandValue × List ℕ) Stop) → TailOf rest a → TailOf rest b → TailOf rest (cond is a b)
    tested true a b t u = t
    tested false a b t u = u

command_in_tail : (at_end : Bool) (left : ℕ) (text rest : List ℕ) → TailOf rest (command_in at_end left text rest)
unfolding command_in
command_in_tail at_end left text rest =
    tested (bytes_eq text (codes "blob")) _ _ (bind rest (blob_at at_end rest) _ (blob_tail at_end rest) (λ read. tail-refl read.1))
    (chosen rest (strip (codes "commit ") text) _ _ (λ name. bind rest (commit_at at_end name rest) _ (commit_tail at_end name rest) (λ read. tail-refl read.1))
    (chosen rest (strip (codes "tag ") text) _ _ (λ name. bind rest (tag_at at_end name rest) _ (tag_tail at_end name rest) (λ read. tail-refl read.1))
    (chosen rest (strip (codes "reset ") text) _ _ (λ name. reset_tail at_end name rest)
    (other_tail at_end left text rest))))
  where
    tested : (is : Bool) (a b : Result (CommandValue × List ℕ) Stop) → TailOf rest a → TailOf rest b → TailOf rest (cond is a b)
    tested true a b t u = t
    tested false a b t u = u

command_at-tail : (at_end : Bool) (bytes : List ℕ) → TailIf bytes (command_at at_end bytes)
unfolding command_at
command_at-tail at_end bytes =
    bind_choice bytes (line_at at_end bytes) (command_of at_end (length bytes)) (line_tail at_end bytes) tt
    (λ line. as_some line.1 (command_in at_end (length bytes) line.0 line.1) (command_in_tail at_end (length bytes) line.0 line.1))

-- a command takes bytes from the start, and leaves the others
pub command_takes : (at_end : Bool) (bytes rest : List ℕ) (command : CommandValue) → command_at at_end bytes ≡ Ok (Some (command, rest)) → (taken : List ℕ) × (bytes ≡ taken ++ rest)
command_takes at_end bytes rest command is = subst (TailIf bytes) is (command_at-tail at_end bytes)
