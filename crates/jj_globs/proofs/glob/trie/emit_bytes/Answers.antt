use Rattle.std.proofs.Common.{arith, ◌≡◌, ◌∙◌, ◌++◌, ◌∷◌, ◌+◌, ◌<◌, ap, sym, subst, reverse, length, [], List, ℕ, append-nil, append_assoc}
use Rattle.std.proofs.lemmas.List.{reverse-append}
use Rattle.jj_globs.specs.declared.glob.step.Step.{Step}
use Rattle.jj_globs.specs.declared.glob.step.Step.TheVariants.{Byte}
use Rattle.jj_globs.specs.GlobTrie.{JoinsBranch, EmitsBytes}
use Rattle.jj_globs.proofs.Tries.{puts_none, puts_byte}
use Rattle.jj_globs.proofs.glob.trie.emit_bytes.Goals as goal

pub loop-left-init : goal.loop-left-init
loop-left-init c = record {
  insert = puts_none c.args.word.now (reverse c.args.steps.now.items) (reverse c.args.branches.now.items)
      (reverse c.join_branch.new.steps.items) (reverse c.join_branch.new.branches.items) c.in_ok-join_branch.ensures;
  prefix = ([], sym (append-nil c.args.word.now));
  within = c.requires;
}

pub loop-left-preserved : goal.loop-left-preserved
loop-left-preserved c =
    let known = c.loop-left.invariant in
    let byte = c.in-Some.byte.now in
    let before = c.in-Some.before.now in
    let mid = reverse c.loop-left.steps.items in
    let rest = reverse c.loop-left.branches.items in
    let new = reverse c.join_branch-in-loop-left.new.steps.items in
    let left = reverse c.join_branch-in-loop-left.new.branches.items in
    let split : c.loop-left.left.now ≡ before ++ byte ∷ [] = c.in-Some.ensures.cases.0 in
    let shorter : length before + 1 ≡ length c.loop-left.left.now = c.in-Some.ensures.cases.1 in
    let more : c.args.from < length c.loop-left.left.now = c.loop-left-test.true in
    let (after, whole) = known.prefix in
    let word : c.args.word.now ≡ (before ++ byte ∷ []) ++ after =
    whole ∙ ap (λ l. l ++ after) split in
    let pushed : reverse c.push.new.self.items ≡ Byte byte ∷ mid =
    ap reverse c.in_ok-push.ensures.items ∙ reverse-append c.loop-left.steps.items (Byte byte ∷ []) in
    record {
      insert = puts_byte c.args.word.now before after byte (reverse c.args.steps.now.items) (reverse c.args.branches.now.items) mid rest new left word
          (subst (λ (l : List ℕ). EmitsBytes c.args.word.now (length l) (reverse c.args.steps.now.items) (reverse c.args.branches.now.items) mid rest) split known.insert)
          (subst (λ (ss : List Step). JoinsBranch (length before) ss rest new left) pushed c.in_ok-join_branch-2.ensures);
      prefix = (byte ∷ after, word ∙ append_assoc before (byte ∷ []) after);
      within = omega (arith, shorter, more);
    }
