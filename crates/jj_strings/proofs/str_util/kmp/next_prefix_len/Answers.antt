use Rattle.std.proofs.Common.{◌≡◌, ◌∙◌, sym, subst, ℕ, ◌+◌, ◌-◌, ◌<◌, List, length, get_or, arith}
use Rattle.std.specs.Char.{to_ascii_lowercase}
use Rattle.std.proofs.lemmas.List.{get_or-map, length-map}
use Rattle.jj_strings.specs.CaseFolding.{lowercase}
use Rattle.jj_strings.specs.KmpTable.{IsLongestBorder}
use Rattle.jj_strings.proofs.KmpSearch.{may_go_on, border_may_go_on, goes_on, none_goes_on}
use Rattle.jj_strings.proofs.str_util.kmp.next_prefix_len.Goals as goal

at_front : (needle : List ℕ) (prefix : ℕ) → prefix < length needle
    → get_or (lowercase needle) prefix 0 ≡ to_ascii_lowercase (get_or needle prefix 0)
at_front needle prefix within = get_or-map to_ascii_lowercase needle prefix 0 0 within

pub loop-len-init : goal.loop-len-init
loop-len-init c = record {
  shorter = omega arith;
  goes_on = λ bytes at e.
      may_go_on bytes (lowercase c.args.needle.now) at c.args.byte c.args.len e;
}

pub returns-then-prefix-eq0 : goal.returns-then-prefix-eq0
returns-then-prefix-eq0 c = λ bytes at e is_byte.
    let needle = c.args.needle.now in
    let prefix : ℕ = c.loop-len.prefix in
    let within : prefix < length needle = omega (arith, c.loop-len.invariant.shorter) in
    let is_read = c.to_ascii_lowercase.ensures.value ∙ sym (at_front needle prefix within) in
    none_goes_on bytes (lowercase needle) at c.args.byte prefix c.if-prefix-eq0.true
    (c.loop-len.invariant.goes_on bytes at e)
    (λ same. c.loop-len-test.true (is_read ∙ same)) is_byte

pub loop-len-preserved : goal.loop-len-preserved
loop-len-preserved c =
    let needle = c.args.needle.now in
    let prefix : ℕ = c.loop-len.prefix in
    let within : prefix < length needle = omega (arith, c.loop-len.invariant.shorter) in
    let is_read = c.to_ascii_lowercase.ensures.value ∙ sym (at_front needle prefix within) in
    let border : ℕ = get_or c.args.borders.now (prefix - 1) 0 in
    let before : prefix - 1 < length c.args.borders.now =
    omega (arith, c.loop-len.invariant.shorter) in
    let is_front : prefix - 1 + 1 ≡ prefix = omega arith in
    let is_border = subst (λ n. IsLongestBorder (lowercase needle) n border) is_front
    (c.requires.borders (prefix - 1) before) in
    record {
      shorter = omega (arith, is_border.shorter, c.loop-len.invariant.shorter);
      goes_on = λ bytes at e.
          border_may_go_on bytes (lowercase needle) at c.args.byte prefix border
          (c.loop-len.invariant.goes_on bytes at e)
          (λ same. c.loop-len-test.true (is_read ∙ same)) is_border;
    }

pub returns : goal.returns
returns c = λ bytes at e is_byte.
    let needle = c.args.needle.now in
    let prefix : ℕ = c.loop-len.prefix in
    let within : prefix < length needle = omega (arith, c.loop-len.invariant.shorter) in
    let within' : prefix < length (lowercase needle) = omega (arith, length-map {A = ℕ} {B = ℕ}) in
    let is_read = c.to_ascii_lowercase.ensures.value ∙ sym (at_front needle prefix within) in
    goes_on bytes (lowercase needle) at c.args.byte prefix (c.loop-len.invariant.goes_on bytes at e)
    within' (sym is_read ∙ c.loop-len-test.false) is_byte
