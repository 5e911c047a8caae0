use Rattle.contracts_diffs.proofs.WholeFields.{fields_match}
use Rattle.contracts_diffs.proofs.fields.compare_fields.Goals as goal

pub returns-clause-before : goal.returns-clause-before
returns-clause-before c = fields_match c.args.separator c.args.left.now c.args.right.now c.in_ok-compared.compared.hunks.items c.in_ok-compared.ensures.ends
