-- Contracts of byte streams, for bytes that are known.
-- Cited by contracts of public items: AppendsPrefixOf, CopiesAll, CopiesPrefix, DecreasesReads,
-- RecordsFailure, WritesSome, streams.
use Rattle.std.specs.Prelude.{◌≡◌, ◌≢◌, ◌⊎◌, ℕ, ◌<◌, ◌^◌, ◌-◌, Bool, ◌||◌, ◌&&◌, ◌==◌, is_err, List, ◌++◌, length, min, nat_lt, Option, Result, Ok, Err, IfOk, IsErrAnd, MatchBool}
use Rattle.std.specs.Io.KnownBytes.{Appends, Consumes, IsAtEnd}
use Rattle.std.specs.IoError.{error_kind}
use Rattle.std.specs.declared.io.Error.{Error}
use Rattle.std.specs.declared.io.ErrorKind.TheVariants.{Interrupted, WriteZero}

-- the flag is set if and only if it was set before or the call fails
abbrev pub RecordsFailure : {A E : Type 0} → Bool → Bool → Result A E → Type 0
RecordsFailure old new r = new ≡ (is_err r || old)

-- A read decreases the number of reads left. If none is left, it fails with an error other than
-- Interrupted, so a loop that retries interrupted reads terminates.
abbrev pub DecreasesReads : Result ℕ Error → (old new : ℕ) → Type 0
DecreasesReads (Ok n) old new = new < old
DecreasesReads (Err e) old new =
    (new < old) ⊎ ((old ≡ 0) × (new ≡ 0) × (error_kind e ≢ Interrupted))

-- n, at most `usize::MAX`
abbrev pub usize_saturate : ℕ → ℕ
usize_saturate n = min n (2 ^ 64 - 1)

-- a prefix of `whole` was appended to the written bytes
abbrev pub AppendsPrefixOf : Option (List ℕ) → Option (List ℕ) → List ℕ → Type 0
AppendsPrefixOf old new whole = (written rest : List ℕ) × Appends old new written
    × (written ++ rest ≡ whole)

-- the unread bytes of a source and the bytes written to a sink, if known
pub record Streams : Type 0 where
  pub unread : Option (List ℕ)
  pub written : Option (List ℕ)

-- the bytes that remain to be read, and those that were written
abbrev pub streams : Option (List ℕ) → Option (List ℕ) → Streams
streams unread written = record { unread = unread; written = written }

-- all bytes of the source were read and written to the sink, and n is their number
abbrev pub CopiesAll : (before after : Streams) → ℕ → Type 0
CopiesAll before after n = (bytes : List ℕ) × Consumes before.unread after.unread bytes
    × IsAtEnd after.unread × Appends before.written after.written bytes
    × (n ≡ usize_saturate (length bytes))

-- the bytes written are a prefix of the bytes read
abbrev pub CopiesPrefix : (before after : Streams) → Type 0
CopiesPrefix before after = (written lost : List ℕ)
    × Consumes before.unread after.unread (written ++ lost)
    × Appends before.written after.written written

-- a successful write of a nonempty piece writes at least one byte
abbrev pub WritesSome : {E : Type 0} → Result ℕ E → List ℕ → Type 0
WritesSome r piece = IfOk r (λ n. 0 < length piece → 0 < n)

-- the result of a write, but WriteZero if it wrote nothing of a nonempty piece
abbrev pub ReportsWriteZero : Result ℕ Error → ℕ → Result ℕ Error → Type 0
ReportsWriteZero (Err e) offered result = result ≡ Err e
ReportsWriteZero (Ok taken) offered result =
    MatchBool (taken == 0 && nat_lt 0 offered)
    (IsErrAnd result (λ e. error_kind e ≡ WriteZero)) (result ≡ Ok taken)
