use Rattle.std.proofs.Common.{◌≡◌, ◌∙◌, ℕ, ◌<◌, sym, length, take, arith}
use Rattle.std.specs.Char.{to_ascii_lowercase}
use Rattle.std.proofs.lemmas.Grind.{same_number_lists}
use Rattle.std.proofs.lemmas.List.{length-map, length-take-le, get_or-take, get_or-map}
use Rattle.jj_strings.specs.CaseFolding.{lowercase}
use Rattle.jj_strings.proofs.str_util.caseless_search.lowercase_into.Goals as goal

pub returns-clause-prefix : goal.returns-clause-prefix
returns-clause-prefix c =
    let bytes = c.args.bytes.now in
    let lowered = c.loop-at.lowered in
    let n : ℕ = length bytes in
    let len : length (take n lowered) ≡ n = length-take-le n lowered
    (omega (arith, c.requires, c.loop-at.auto.lowered)) in
    same_number_lists (take n lowered) (lowercase bytes)
    (len ∙ sym (length-map bytes to_ascii_lowercase))
    (λ k low. let low' : k < n = omega (arith, len) in
    get_or-take n lowered k 0 low' ∙ c.loop-at.invariant k (omega (arith, low', c.loop-at-test.false))
    ∙ sym (get_or-map to_ascii_lowercase bytes k 0 0 low'))
