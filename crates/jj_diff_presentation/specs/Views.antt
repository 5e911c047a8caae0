-- Results of the parsers and the state of an application, without references.
-- Cited by contracts of public items: none.
use Rattle.std.specs.Prelude.{ℕ, List, Option, Some, None, ◌<◌, ◌+◌, ◌^◌, length}
use Rattle.jj_diff_presentation.specs.Lines.{split_lines}
use Rattle.jj_diff_presentation.specs.Applying.{RangeAt, Header, Applying}
use Rattle.jj_diff_presentation.specs.declared.unified.header.ParsedNumber.{ParsedNumber}
use Rattle.jj_diff_presentation.specs.declared.unified.header.ParsedRange.{ParsedRange}
use Rattle.jj_diff_presentation.specs.declared.unified.header.HunkHeader.{HunkHeader}
use Rattle.jj_diff_presentation.specs.declared.unified.patch.PatchState.{PatchState}

abbrev pub number_view : Option ParsedNumber → Option (ℕ × List ℕ)
number_view None = None
number_view (Some n) = Some (n.value, n.rest.now)

abbrev pub range_view : Option ParsedRange → Option RangeAt
range_view None = None
range_view (Some r) = Some (record { start = r.start; len = r.len; rest = r.rest.now })

abbrev pub header_view : Option HunkHeader → Option Header
header_view None = None
header_view (Some h) = Some (record { before = h.before; left = h.left; right = h.right })

abbrev pub state_view : PatchState → Applying
state_view s = record {
  part = s.part;
  rest = split_lines s.rest.now;
  position = s.position;
  output = s.output.items;
  left = s.left;
  right = s.right;
}

-- the number of lines that were passed and that are left fits
abbrev pub IsBounded : PatchState → Type 0
IsBounded s = s.position + length s.rest.now < 2 ^ 64
