use Rattle.std.proofs.Common.{◌≡◌, ◌∙◌, Bor, List, ℕ, Some, None, map, sym}
use Rattle.std.specs.List.{position}
use Rattle.jj_filesets.specs.Listing.{is_invalid_line}
use Rattle.jj_filesets.proofs.Listed.{counted_none, first_fault, of_first, position-map}
use Rattle.jj_filesets.proofs.listing.check_lines.Goals as goal

pub returns-in-Some-clause-error : goal.returns-in-Some-clause-error
returns-in-Some-clause-error c =
    let lines : List (List ℕ) = map (λ (l : Bor (List ℕ)). l.now) c.args.lines.now in
    let at : position (is_invalid_line c.args.options.nul) lines ≡ Some c.in-Some.index =
    position-map (is_invalid_line c.args.options.nul) (λ (l : Bor (List ℕ)). l.now) c.args.lines.now ∙ sym c.first_invalid.ensures ∙ c.in-Some.is in
    let first = first_fault c.args.options.nul lines c.in-Some.index at in
    of_first c.args.options lines c.in-Some.index c.line_error.result c.if-options.false at first (c.line_error.ensures first.line first.get first.fault first.has)

pub returns-in-None-clause-count : goal.returns-in-None-clause-count
returns-in-None-clause-count c =
    let lines : List (List ℕ) = map (λ (l : Bor (List ℕ)). l.now) c.args.lines.now in
    let none : position (is_invalid_line c.args.options.nul) lines ≡ None =
    position-map (is_invalid_line c.args.options.nul) (λ (l : Bor (List ℕ)). l.now) c.args.lines.now ∙ sym c.first_invalid.ensures ∙ c.in-None.is in
    sym (counted_none (is_invalid_line c.args.options.nul) lines none)
