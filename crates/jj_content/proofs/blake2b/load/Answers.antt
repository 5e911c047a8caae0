use Rattle.std.proofs.Common.{◌≡◌, ◌+◌, ◌*◌, ◌++◌, ◌∷◌, [], List, ℕ, take, drop, refl, ap, sym, ◌∙◌, arith, add-one, rules}
use Rattle.std.proofs.lemmas.List.{take_all, take_more_set, length-set}
use Rattle.std.specs.Int.{w64, from_le_bytes}
use Rattle.jj_content.specs.Blake2b.{words}
use Rattle.jj_content.proofs.blake2b.load.Goals as goal

words_next : (block : List ℕ) (n : ℕ) → words block (n + 1) ≡ words block n ++ from_le_bytes w64 (take 8 (drop (8 * n) block)) ∷ []
unfolding words
words_next block n = rw add-one refl

pub load-init : goal.load-init
unfolding words
load-init c = search rules

pub load-preserved : goal.load-preserved
load-preserved c = (
  length-set _ _ _ ∙ c.load.invariant.0,
  take_more_set c.load.m c.load.i c.load_le.result (omega arith)
      ∙ ap (λ (l : List ℕ). l ++ c.load_le.result ∷ []) c.load.invariant.1
      ∙ ap (λ (w : ℕ). words c.args.block.now c.load.i ++ w ∷ []) c.load_le.ensures
      ∙ sym (words_next c.args.block.now c.load.i),
)

pub returns : goal.returns
returns c =
    let done : c.load.i ≡ 16 = omega arith in
    sym (take_all 16 c.load.m (omega arith)) ∙ rw done at c.load.invariant.1
