use Rattle.std.proofs.Common.{List, ℕ, subst}
use mathlib.Core.Bool.{false≢true}
use Rattle.std.specs.Str.{IsUtf8}
use Rattle.jj_filesets.proofs.Listed.{no_utf8_no_path}
use Rattle.jj_filesets.proofs.listing.is_line_in.Goals as goal

pub returns-in_default : goal.returns-in_default
returns-in_default c = (
  (λ yes. absurd (false≢true yes)),
  (λ h. absurd (no_utf8_no_path c.args.nul c.args.line.now (subst (λ (t : List ℕ). ¬ IsUtf8 t) c.without_dot.ensures c.in_default.ensures.cases.0) h.0)),
)
