-- The causes of errors. An error without a cause here does not occur.
-- Cited by contracts of public items: IsBufferCause, IsPiecesCause.
use Rattle.std.specs.Prelude.{◌≡◌, ◌<◌, ℕ, List, false, ⊤}
use Rattle.jj_core_c.specs.declared.error.Error.{Error}
use Rattle.jj_core_c.specs.declared.error.Error.TheVariants.{Memory, Ends, Length}
use Rattle.jj_core_c.specs.Pieces.{are_ends}

-- the buffer has `room` items, and `size` are needed
abbrev pub IsLengthCause : (size room : ℕ) → Error → Type 0
IsLengthCause size room Length = room < size
IsLengthCause size room other = ⊥

-- the buffer is too short, or memory ran out
abbrev pub IsBufferCause : (size room : ℕ) → Error → Type 0
IsBufferCause size room Memory = ⊤
IsBufferCause size room Length = room < size
IsBufferCause size room other = ⊥

-- the ends do not divide a list of this length, or the buffer is too short
abbrev pub IsEndsCause : (len : ℕ) (ends : List ℕ) (size room : ℕ) → Error → Type 0
IsEndsCause len ends size room Ends = are_ends len ends ≡ false
IsEndsCause len ends size room Length = room < size
IsEndsCause len ends size room other = ⊥
