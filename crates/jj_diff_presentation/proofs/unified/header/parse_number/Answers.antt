use Rattle.std.proofs.Common.{ap, ◌∙◌, take}
use Rattle.std.specs.Char.{is_ascii_digit}
use Rattle.std.specs.List.{list_all}
use Rattle.jj_diff_presentation.proofs.Numbers.{all_digits}
use Rattle.jj_diff_presentation.proofs.unified.header.parse_number.Goals as goal

pub number_of_digits-requires-clause-digits : goal.number_of_digits-requires-clause-digits
number_of_digits-requires-clause-digits c =
    ap (list_all is_ascii_digit) c.split_at.ensures.front
    ∙ ap (λ n. list_all is_ascii_digit (take n c.args.text.now)) c.count_digits-len.ensures.count
    ∙ all_digits c.args.text.now
