use Rattle.std.proofs.Common.{◌≡◌, ◌∙◌, sym, subst, ℕ, ◌+◌, ◌-◌, ◌<◌, ◌≤◌, length, refl, arith}
use Rattle.std.specs.Char.{to_ascii_lowercase}
use Rattle.std.proofs.lemmas.List.{get_or-map, length-map}
use Rattle.jj_strings.specs.CaseFolding.{lowercase}
use Rattle.jj_strings.specs.KmpTable.{PrefixEndsAt}
use Rattle.jj_strings.proofs.KmpSearch.{ends_occurs, none_longer}
use Rattle.jj_strings.proofs.str_util.kmp.contains_by_borders.Goals as goal

pub returns-then-len-needle : goal.returns-then-len-needle
returns-then-len-needle c =
    let bytes = c.args.bytes.now in
    let needle = c.args.needle.now in
    let at : ℕ = c.loop-at.at in
    let within : at < length bytes = omega arith in
    let is_byte = get_or-map to_ascii_lowercase bytes at 0 0 within
    ∙ sym c.to_ascii_lowercase.ensures.value in
    let next = c.next_prefix_len-len.ensures (lowercase bytes) at c.loop-at.invariant.longest is_byte in
    let whole = c.if-len-needle.true ∙ sym (length-map needle to_ascii_lowercase) in
    let within' : at + 1 ≤ length (lowercase bytes) = omega (arith, length-map {A = ℕ} {B = ℕ}) in
    let ends = subst (λ n. PrefixEndsAt (lowercase bytes) (at + 1) (lowercase needle) n) whole next.ends in
    let stands = ends_occurs (lowercase bytes) (lowercase needle) (at + 1) ends within' in
    ((λ _. (at + 1 - length (lowercase needle), stands)), (λ _. refl))

pub loop-at-preserved : goal.loop-at-preserved
loop-at-preserved c =
    let bytes = c.args.bytes.now in
    let needle = c.args.needle.now in
    let at : ℕ = c.loop-at.at in
    let len : ℕ = c.next_prefix_len-len.result in
    let within : at < length bytes = omega arith in
    let is_byte = get_or-map to_ascii_lowercase bytes at 0 0 within
    ∙ sym c.to_ascii_lowercase.ensures.value in
    let next = c.next_prefix_len-len.ensures (lowercase bytes) at c.loop-at.invariant.longest is_byte in
    let same : length (lowercase needle) ≡ length needle = length-map needle to_ascii_lowercase in
    let shorter : len < length needle = omega (arith, next.ends.in_text, c.if-len-needle.false) in
    record {
      shorter = shorter;
      longest = next;
      none = none_longer (lowercase bytes) (lowercase needle) (length needle) at len same shorter next
          c.loop-at.invariant.none;
    }

pub returns : goal.returns
returns c = (
  (λ yes. cc),
  (λ found. absurd (c.loop-at.invariant.none found.0
      (omega (arith, found.1.fits, length-map {A = ℕ} {B = ℕ})) found.1)),
)
