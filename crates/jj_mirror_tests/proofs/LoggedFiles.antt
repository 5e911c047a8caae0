-- The entries of a log after files were written.
use Rattle.std.proofs.Common.{Vec, Global, ◌≡◌, ◌∙◌, ◌+◌, ◌<◌, ℕ, List, [], ◌∷◌, ◌++◌, inl, inr, length, get_or, map, take, Result, Ok, Err, OnOk, OnErr, ◌⊎◌, sym, ap, subst}
use Rattle.std.specs.Prelude.{Contains}
use Rattle.std.proofs.lemmas.List.{map-append, take_more}
use Rattle.std.proofs.lemmas.List.Elements.{Contains-push}
use Rattle.jj_backend.specs.Objects.{file_object}
use Rattle.jj_mirror.specs.Entries.{LogEntryValue, entry_of}
use Rattle.jj_mirror.specs.Logs.{WithEntry, WithEntries}
use Rattle.jj_mirror.specs.Replays.{IsReplayError}
use Rattle.jj_mirror.specs.declared.error.ReplayError.{ReplayError}
use Rattle.jj_mirror.specs.declared.error.ReplayError.TheVariants.{Memory}

abbrev pub entries_of : List (Vec ℕ Global) → List LogEntryValue
entries_of files = map (λ (file : Vec ℕ Global). entry_of (file_object file.items)) files

pub one_more : (files : List (Vec ℕ Global)) (i : ℕ) (file : Vec ℕ Global) → i < length files → file ≡ get_or files i file
    → entries_of (take i files) ++ entry_of (file_object file.items) ∷ [] ≡ entries_of (take (i + 1) files)
one_more files i file lt is =
    let more : take i files ++ file ∷ [] ≡ take (i + 1) files = ap (λ z. take i files ++ z ∷ []) is ∙ sym (take_more files i file lt) in
    sym (map-append (λ (f : Vec ℕ Global). entry_of (file_object f.items)) (take i files) (file ∷ [])) ∙ ap entries_of more

-- a claim that is true of each list of entries that the log may have
pub with_one : (P : List LogEntryValue → Type 0) (Q : Type 0) → ((all : List LogEntryValue) → P all → Q) → (entries : List LogEntryValue) (entry : LogEntryValue) → WithEntry P entries entry → Q
with_one P Q holds entries entry (inl has) = holds entries has.1
with_one P Q holds entries entry (inr lacks) = holds (entries ++ entry ∷ []) lacks.1

pub with_all : (P : List LogEntryValue → Type 0) (Q : Type 0) → ((all : List LogEntryValue) → P all → Q) → (list entries : List LogEntryValue) → WithEntries P entries list → Q
with_all P Q holds [] entries has = holds entries has
with_all P Q holds (e ∷ list) entries has = with_one (λ all. WithEntries P all list) Q (λ all. with_all P Q holds list all) entries e has

pub with_contains : (log entries : List LogEntryValue) (entry : LogEntryValue) → WithEntry (λ all. log ≡ all) entries entry → Contains log entry
with_contains log entries entry (inl has) = subst (λ (l : List LogEntryValue). Contains l entry) (sym has.1) has.0
with_contains log entries entry (inr lacks) = subst (λ (l : List LogEntryValue). Contains l entry) (sym lacks.1) (Contains-push entries entry)

-- lack of memory is an error of replaying any log
pub memory_fails : (entries : List LogEntryValue) (e : ReplayError) → e ≡ Memory → IsReplayError entries e
memory_fails entries e is = subst (IsReplayError entries) (sym is) tt

-- ---- results

pub on_ok : {T E : Type 0} {P : Type 0} → (r : Result T E) → P → OnOk r P
on_ok (Ok value) holds = holds
on_ok (Err e) holds = tt

pub on_err : {T E : Type 0} {P : Type 0} → (r : Result T E) → P → OnErr r P
on_err (Ok value) holds = tt
on_err (Err e) holds = holds

pub either : {T E : Type 0} {P Q : Type 0} → (r : Result T E) → OnOk r P → OnErr r Q → P ⊎ Q
either (Ok value) ok err = inl ok
either (Err e) ok err = inr err
