use Rattle.std.proofs.Common.{rules, ◌≡◌, ℕ, List, inr, subst, sym}
use Rattle.jj_filesets.specs.declared.fileset.error.FilesetParseError.{FilesetParseError}
use Rattle.jj_filesets.specs.Expressions.{IsUnspelled, Spells}
use Rattle.jj_core_c.proofs.filesets.parse_expression.Goals as goal

pub returns-in-Err-Syntax : goal.returns-in-Err-Syntax
returns-in-Err-Syntax c =
    let unspelled = subst (λ (e : FilesetParseError). IsUnspelled c.in-Ok.text.now e) c.in-Err-Syntax.field-0-is c.in-Err-Syntax.ensures.unspelled in
    let same : c.in-Ok.text.now ≡ c.args.expression.now = search rules in
    inr (λ set spelled. unspelled set (subst (λ (l : List ℕ). Spells l set) (sym same) spelled))
