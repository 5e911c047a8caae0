use Rattle.std.proofs.Common.{rules, ◌≡◌, ◌∙◌, ◌+◌, ◌%◌, ◌<◌, ◌≤◌, ◌^◌, Some, get_or, length, take, ap, sym, subst, arith}
use Rattle.std.specs.Str.Parse.{AllDigits, digits_value}
use Rattle.std.proofs.lemmas.Int.Digits.{digits_more, digits_value_more}
use Rattle.std.proofs.lemmas.List.{length-take-le, take_all}
use Rattle.std.proofs.lemmas.Str.{digit_value_digit}
use Rattle.std.proofs.lemmas.Str.Parse.{digit_at}
use Rattle.jj_program.proofs.Numbers.{no_number, number_is_digits, number_of_digits, short_value}
use Rattle.jj_program.proofs.graph_command.parse_digits.Goals as goal

pub returns-then-digit-gt9 : goal.returns-then-digit-gt9
returns-then-digit-gt9 c =
    let text = c.args.digits.now in
    let i = c.loop-byte.byte-index in
    let within : i < length text = omega arith in
    let more : 9 < (get_or text i 0 + 208) % 256 = search rules in
    sym (no_number text (λ h. let range = digit_at text i (number_is_digits text h).digits within in omega (arith, range.0, range.1, more)))

pub overflow_mul-value : goal.overflow_mul-value
overflow_mul-value c =
    let front = take c.loop-byte.byte-index c.args.digits.now in
    let size : length front ≤ 18 = omega (arith, length-take-le c.loop-byte.byte-index c.args.digits.now (omega arith), c.requires.short) in
    let small : c.loop-byte.value < 10 ^ 18 = subst (λ v. v < 10 ^ 18) (sym c.loop-byte.invariant.value) (short_value front 18 c.loop-byte.invariant.digits size) in
    omega (arith, small)

pub overflow_add-value : goal.overflow_add-value
overflow_add-value c =
    let front = take c.loop-byte.byte-index c.args.digits.now in
    let size : length front ≤ 18 = omega (arith, length-take-le c.loop-byte.byte-index c.args.digits.now (omega arith), c.requires.short) in
    let small : c.loop-byte.value < 10 ^ 18 = subst (λ v. v < 10 ^ 18) (sym c.loop-byte.invariant.value) (short_value front 18 c.loop-byte.invariant.digits size) in
    omega (arith, small)

pub loop-byte-preserved : goal.loop-byte-preserved
loop-byte-preserved c =
    let text = c.args.digits.now in
    let i = c.loop-byte.byte-index in
    let byte = get_or text i 0 in
    let within : i < length text = omega arith in
    let most : (byte + 208) % 256 ≤ 9 = search rules in
    let small : byte < 256 = search rules in
    let value = digit_value_digit byte (omega (arith, most, small), omega (arith, most, small)) in
    record {
      digits = digits_more 10 text i within c.loop-byte.invariant.digits (omega (arith, value, most, small));
      value = omega (arith, digits_value_more 10 text i within, c.loop-byte.invariant.value, value, most, small);
    }

pub returns : goal.returns
returns c =
    let text = c.args.digits.now in
    let whole : take c.loop-byte.byte-index text ≡ text = take_all c.loop-byte.byte-index text (omega arith) in
    let digits : AllDigits 10 text = subst (AllDigits 10) whole c.loop-byte.invariant.digits in
    let small : digits_value 10 text < 10 ^ 19 = short_value text 19 digits (omega (arith, c.requires.short)) in
    ap Some (c.loop-byte.invariant.value ∙ ap (digits_value 10) whole)
    ∙ sym (number_of_digits text digits c.requires.plain.0 (λ h. omega (arith, c.requires.plain.1 h, c.requires.plain.0)) (omega (arith, small)))
