use Rattle.std.proofs.Common.{rules, lit<}
use Rattle.std.proofs.lemmas.Bool.{not-true}
use Rattle.std.proofs.lemmas.Str.Pattern.{contains_char}
use Rattle.jj_log.proofs.ReadLines.{lacks_from, other_from, not_from}
use Rattle.jj_log.proofs.input.is_name.Goals as goal

pub returns-then-not-is_empty : goal.returns-then-not-is_empty
returns-then-not-is_empty c =
    let finds = contains_char 32 c.args.name.now c.contains.result c.contains.ensures.cases (lit< tt) in (
      λ plain. (search rules, lacks_from 32 c.args.name.now (λ i within same. let found = finds.1 i within same in let none = not-true c.contains.result plain in absurd cc)),
      λ name. not_from c.contains.result (λ found. let (k, within, same) = finds.0 found in other_from 32 c.args.name.now name.1 k within same),
    )
