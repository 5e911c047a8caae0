use Rattle.std.proofs.Common.{◌∙◌, ℕ, refl, sym, arith}
use Rattle.std.proofs.lemmas.List.{length-map}
use Rattle.std.proofs.lemmas.Bool.{false≢true}
use Rattle.jj_strings.proofs.Windows.{found_in_window, none_in_window}
use Rattle.jj_strings.proofs.str_util.caseless_search.contains_in_windows.Goals as goal

pub returns-then-contains_str : goal.returns-then-contains_str
returns-then-contains_str c =
    let n : ℕ = c.min-len.result in
    let found = found_in_window c.args.bytes.now c.args.needle.now c.lowercase_into-in-loop-from.new.lowered _ n _ c.loop-from.from
    (omega (arith, c.min-len.ensures)) (omega arith) c.lowercase_into-in-loop-from.ensures.prefix c.loop-from.invariant.lower
    (c.contains_str.ensures.0 c.if-contains_str.true) in
    ((λ _. found), (λ _. refl))

pub loop-from-preserved : goal.loop-from-preserved
loop-from-preserved c = record {
  none = none_in_window c.args.bytes.now c.args.needle.now c.lowercase_into-in-loop-from.new.lowered _ c.min-len.result _ c.loop-from.from
      (omega (arith, c.min-len.ensures)) (omega arith) c.lowercase_into-in-loop-from.ensures.prefix c.loop-from.invariant.lower
      (λ found. false≢true (sym c.if-contains_str.false ∙ c.contains_str.ensures.1 found))
      (omega (
        arith,
        c.min-len.ensures,
        c.if-needle-bytes.true,
        c.loop-from.invariant.window,
        c.requires.window,
      ))
      c.loop-from.invariant.none;
  lower = c.loop-from.invariant.lower;
  window = c.lowercase_into-in-loop-from.ensures.len ∙ c.loop-from.invariant.window;
}

pub returns-else-needle-bytes : goal.returns-else-needle-bytes
returns-else-needle-bytes c = (
  (λ yes. cc),
  (λ found. absurd (c.loop-from.invariant.none found.0
      (omega (arith, found.1.fits, length-map {A = ℕ} {B = ℕ})) found.1)),
)

pub returns-after-loop-from : goal.returns-after-loop-from
returns-after-loop-from c = (
  (λ yes. cc),
  (λ found. absurd (c.loop-from.invariant.none found.0
      (omega (arith, found.1.fits, length-map {A = ℕ} {B = ℕ})) found.1)),
)
