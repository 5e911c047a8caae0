use Rattle.std.proofs.Common.{◌∙◌, sym, subst, refl}
use Rattle.jj_program.specs.GraphViews.{IsPlain}
use Rattle.jj_program.proofs.Numbers.{number_of-parse, number_of-not_plain}
use Rattle.jj_program.proofs.graph_command.parse_number.Goals as goal

pub returns : goal.returns
returns c = c.ok.ensures.value ∙ number_of-parse c.args.text.now _ c.parse.ensures.value.0 (subst IsPlain c.as_bytes-digits.ensures.value (c.if-not-is_plain.ensures.0 refl))

pub returns-then-not-is_plain : goal.returns-then-not-is_plain
returns-then-not-is_plain c = sym (number_of-not_plain c.args.text.now (λ h. let no = c.if-not-is_plain.ensures.1 (subst IsPlain (sym c.as_bytes-digits.ensures.value) h) in cc no))
