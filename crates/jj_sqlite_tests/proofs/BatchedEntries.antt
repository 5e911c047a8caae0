-- The entries of a batch that were appended so far, and one more.
use Rattle.std.proofs.Common.{◌≡◌, ◌∙◌, ◌++◌, ◌+◌, ◌<◌, ℕ, List, [], ◌∷◌, take, length, get_or, Result, IfErr, IfOk, OnErr, Ok, Err, sym, ap}
use Rattle.std.proofs.lemmas.List.{append_assoc, take_more}
use Rattle.jj_mirror.specs.Entries.{LogEntryValue}

pub on_err : {T E : Type 0} {P : Type 0} → (r : Result T E) → P → OnErr r P
on_err (Ok value) holds = tt
on_err (Err e) holds = holds

pub one_more_entry : (entries : List LogEntryValue) (i : ℕ) (entry : LogEntryValue) (before : List LogEntryValue) → i < length entries → entry ≡ get_or entries i entry
    → (before ++ take i entries) ++ entry ∷ [] ≡ before ++ take (i + 1) entries
one_more_entry entries i entry before lt is =
    append_assoc before (take i entries) (entry ∷ []) ∙ ap (λ l. before ++ l) (ap (λ z. take i entries ++ z ∷ []) is ∙ sym (take_more entries i entry lt))

pub if_ok : {T E : Type 0} {P Q : T → Type 0} → (r : Result T E) → ((value : T) → P value → Q value) → IfOk r P → IfOk r Q
if_ok (Ok value) f holds = f value holds
if_ok (Err e) f holds = tt

pub if_err : {T E : Type 0} {P Q : E → Type 0} → (r : Result T E) → ((e : E) → P e → Q e) → IfErr r P → IfErr r Q
if_err (Ok value) f holds = tt
if_err (Err e) f holds = f e holds
