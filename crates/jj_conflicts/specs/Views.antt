-- The states of the parsers as lists.
-- Cited by contracts of public items: none.
use Rattle.jj_conflicts.specs.Contents.{contents, merge_contents}
use Rattle.jj_conflicts.specs.Parsing.{Terms, Hunks, Sections}
use Rattle.jj_conflicts.specs.declared.conflicts.parse.HunkParser.{HunkParser}
use Rattle.jj_conflicts.specs.declared.conflicts.section_terms.SectionParser.{SectionParser}
use Rattle.jj_conflicts.specs.declared.conflicts.terms.TermParser.{TermParser}

abbrev pub terms_view : TermParser → Terms
terms_view s = record {
  finished = merge_contents s.finished.items;
  current = s.current.items;
  noted = s.is_noted;
  valid = s.is_valid;
}

abbrev pub hunks_view : HunkParser → Hunks
hunks_view s = record {
  hunks = contents s.hunks.items;
  resolved = s.resolved.items;
  pending = s.pending.items;
}

abbrev pub sections_view : SectionParser → Sections
sections_view s = record {
  terms = merge_contents s.terms.items;
  byte = s.byte;
  base = s.base.items;
  side = s.side.items;
  noted = s.is_noted;
  valid = s.is_valid;
}
