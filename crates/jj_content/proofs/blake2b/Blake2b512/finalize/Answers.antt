use Rattle.std.proofs.Common.{rules, ◌≡◌, ℕ, ◌-◌, length, take, drop, replicate, length-drop, arith, ap, sym, ◌∙◌, subst}
use Rattle.std.proofs.lemmas.Slice.{overwrites}
use Rattle.std.proofs.lemmas.List.{length-take-le}
use Rattle.jj_content.specs.Blake2bState.{IsAbsorbed}
use Rattle.jj_content.proofs.HasherInvariant.{HasAbsorbed_total, HasAbsorbed-IsAbsorbed, final_state_is, digest_next_word, padded_buffer, blake2b_is}
use Rattle.jj_content.proofs.blake2b.Blake2b512.finalize.Goals as goal

pub words-preserved : goal.words-preserved
words-preserved c = (
  search (rules, overwrites),
  digest_next_word c.words.out c.compress.new.h _ c.words.i _ c.words.invariant.1 (omega arith) (omega arith) (c.copy_from_slice.ensures.after ∙ c.to_le_bytes.ensures),
)

pub returns : goal.returns
returns c = λ m held.
    let s = c.args.self in
    let k = c.buffered_len-used.result in
    let a = HasAbsorbed-IsAbsorbed s m held in
    let absorbed = subst (λ (u : ℕ). IsAbsorbed s.h s.buffer u m a.0) (sym c.buffered_len-used.ensures.value) a.1 in
    let room : length (take (128 - k) (drop k s.buffer)) ≡ 128 - k = length-take-le (128 - k) (drop k s.buffer) (omega (arith, length-drop k s.buffer)) in
    let zeros = c.fill.ensures.after (λ _ e. e) ∙ ap (λ (n : ℕ). replicate n 0) room in
    let filled = padded_buffer s.buffer c.fill.new.self k (128 - k) (omega arith) (omega arith) (omega arith) zeros in
    let state = c.compress.ensures ∙ final_state_is s.h s.buffer _ m k a.0 s.total absorbed (HasAbsorbed_total s m held) filled in
    let done : c.words.i ≡ 8 = omega arith in
    blake2b_is m c.compress.new.h c.words.out state (omega arith) (omega arith) (rw done at c.words.invariant.1)
