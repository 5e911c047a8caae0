use Rattle.std.proofs.Common.{◌≡◌, ℕ, List, ◌+◌, ◌-◌, ◌*◌, ◌/◌, ◌%◌, ◌^◌, length, drop, arith, refl, ap, sym, ◌∙◌, subst, eqb}
use Rattle.std.proofs.lemmas.List.{take_rest}
use Rattle.std.proofs.lemmas.Slice.{take-put_mid}
use Rattle.jj_content.specs.Blake2bState.{IsAbsorbed}
use Rattle.jj_content.proofs.HasherInvariant.{IsAbsorbed_short, HasAbsorbed_from, HasAbsorbed_total, HasAbsorbed-IsAbsorbed, total_append, first_block, next_block, HasAbsorbed_tail}
use Rattle.jj_content.proofs.blake2b.Blake2b512.update.Goals as goal

pub returns-then-bytes-room : goal.returns-then-bytes-room
returns-then-bytes-room c = λ m held.
    let s = c.args.self.now in
    let d = c.args.bytes.now in
    let k = c.buffered_len-used.result in
    let a = HasAbsorbed-IsAbsorbed s m held in
    let absorbed = subst (λ (u : ℕ). IsAbsorbed s.h s.buffer u m a.0) (sym c.buffered_len-used.ensures.value) a.1 in
    HasAbsorbed_from _ _ (k + length d) a.0 refl (total_append s.total _ m d (HasAbsorbed_total s m held) refl)
    (IsAbsorbed_short s.h s.buffer _ m d k a.0 absorbed (omega arith)
    (rw c.copy_from_slice.ensures.after (take-put_mid k _ s.buffer d (k + length d) refl (omega arith))))

pub whole-init : goal.whole-init
whole-init c = record {
  total = refl;
  inside = omega arith;
  edge = λ m held.
      first_block c.args.self.now m c.args.bytes.now c.copy_from_slice-2.new.self _ c.compress.new.h c.buffered_len-used.result _ _ _ held (omega arith) c.buffered_len-used.ensures.value refl (omega arith)
      (omega arith) refl c.copy_from_slice-2.ensures.after refl refl c.compress.ensures;
}

pub whole-preserved : goal.whole-preserved
whole-preserved c =
    let start : ℕ = 128 - c.buffered_len-used.result in
    let a : ℕ = start + 128 * c.whole.i in
    let e : start + 128 * (c.whole.i + 1) ≡ a + 128 = omega arith in
    let width : a + 128 - a ≡ 128 = omega arith in
    record {
      total = c.whole.invariant.total;
      inside = omega arith;
      edge = λ m held.
          rw e (next_block c.whole.self.h m c.args.bytes.now _ c.compress-in-whole.new.h a c.whole.count _ (c.whole.invariant.edge m held) (omega arith) (rw width refl) refl c.compress-in-whole.ensures);
    }

pub returns : goal.returns
returns c = λ m held.
    let d : List ℕ = c.args.bytes.now in
    let edge = c.whole.invariant.edge m held in
    let a : ℕ = 128 - c.buffered_len-used.result + 128 * c.whole.i in
    let end : ℕ = 128 - c.buffered_len-used.result + 128 * ((length d - (128 - c.buffered_len-used.result) - 1) / 128) in
    let same : end ≡ a = omega arith in
    let copied = c.copy_from_slice-3.ensures.after in
    HasAbsorbed_tail c.args.self.now _ m d c.copy_from_slice-3.new.self c.whole.self.buffer a _ edge.0 held edge.1 (omega arith) (omega arith)
    (copied ∙ take_rest d end ∙ ap (λ (k : ℕ). drop k d) same) refl
    (ap (λ (t : ℕ). (t + length d) % 2 ^ 128) c.whole.invariant.total)
    (ap (λ (xs : List ℕ). eqb (length xs) 128) (sym copied))
