use Rattle.std.proofs.Common.{◌≡◌, ◌∙◌, sym, ap, subst, ℕ, ◌+◌, ◌-◌, ◌<◌, length, drop, arith}
use Rattle.std.specs.Char.{to_ascii_lowercase}
use Rattle.std.proofs.lemmas.List.{get_or-map, get_or-drop, length-append}
use Rattle.jj_strings.specs.CaseFolding.{lowercase}
use Rattle.jj_strings.specs.KmpTable.{IsLongestPrefixAt, IsLongestBorder}
use Rattle.jj_strings.proofs.KmpSearch.{border_of_end, borders_more, moved}
use Rattle.jj_strings.proofs.str_util.kmp.border_table.Goals as goal

pub loop-at-preserved : goal.loop-at-preserved
loop-at-preserved c =
    let needle = c.args.needle.now in
    let rest = drop 1 (lowercase needle) in
    let at : ℕ = c.loop-at.at in
    let len : ℕ = c.next_prefix_len-len.result in
    let within : at < length needle = omega arith in
    let one_more : 1 + (at - 1) ≡ at = omega arith in
    let is_read = get_or-map to_ascii_lowercase needle at 0 0 within
    ∙ sym c.to_ascii_lowercase-byte.ensures.value in
    let is_byte = get_or-drop 1 (lowercase needle) (at - 1) 0
    ∙ moved (lowercase needle) (1 + (at - 1)) at one_more ∙ is_read in
    let next = c.next_prefix_len-len.ensures rest (at - 1) c.loop-at.invariant.longest is_byte in
    let here : at - 1 + 1 ≡ at = omega arith in
    let there : at - 1 + 1 ≡ at + 1 - 1 = omega arith in
    let longest = subst (λ n. IsLongestPrefixAt rest n (lowercase needle) len) here next in
    let count : at ≡ length c.loop-at.borders.items = sym c.loop-at.invariant.count in
    let border = subst (λ n. IsLongestBorder (lowercase needle) (n + 1) len) count
    (border_of_end (lowercase needle) at len longest) in
    let pushed = c.in_ok-push-2.ensures.items in
    record {
      count = omega (arith, ap length pushed, length-append {A = ℕ});
      borders = borders_more (lowercase needle) c.loop-at.borders.items _ len pushed
          c.loop-at.invariant.borders border;
      longest = subst (λ n. IsLongestPrefixAt rest n (lowercase needle) len) there next;
    }
