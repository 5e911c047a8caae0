use Rattle.std.proofs.Common.{arith}
use Rattle.jj_strings.proofs.LineSplitting.{first_len-le, first_len-positive, cut_is}
use Rattle.jj_strings.proofs.str_util.match_lines.split_line.Goals as goal

pub split_at-requires : goal.split_at-requires
split_at-requires c = omega (arith, c.first_line_len.ensures, first_len-le c.args.text.now)

pub returns-clause-lines : goal.returns-clause-lines
returns-clause-lines c =
    cut_is c.args.text.now c.split_at.result.0.now c.split_at.result.1.now c.first_line_len.result c.requires
    c.first_line_len.ensures c.split_at.ensures.front c.split_at.ensures.back

pub returns-clause-shorter : goal.returns-clause-shorter
returns-clause-shorter c =
    omega (arith, c.split_at.ensures.back_len, c.first_line_len.ensures, first_len-positive c.args.text.now c.requires, first_len-le c.args.text.now)
