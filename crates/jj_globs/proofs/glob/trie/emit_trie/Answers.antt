use Rattle.std.proofs.Common.{arith, ◌≡◌, ◌∙◌, ◌++◌, ◌∷◌, ◌-◌, ◌≤◌, ap, sym, subst, reverse, length, map, take, [], List, ℕ}
use Rattle.std.proofs.lemmas.List.{reverse-append, length-reverse, map-append, nil_from_length}
use Rattle.std.proofs.lemmas.Result.{on_ok_weaker}
use Rattle.jj_globs.specs.declared.glob.step.Step.{Step}
use Rattle.jj_globs.specs.declared.glob.step.Step.TheVariants.{Jump}
use Rattle.jj_globs.specs.declared.glob.trie.Branch.{Branch}
use Rattle.jj_globs.proofs.Tries.{HasPut, last_put, word_put, all_put}
use Rattle.jj_globs.proofs.glob.trie.emit_trie.Goals as goal

pub loop-word-init : goal.loop-word-init
loop-word-init c =
    let old = reverse c.args.steps.now.items in
    let words = map (λ word. word.items) c.args.words.now in
    let others = map (λ word. word.items) c.in-Some.others.now in
    let split : words ≡ others ++ c.in-Some.last.now.items ∷ [] =
    ap (map (λ word. word.items)) c.in-Some.ensures.cases.0
    ∙ map-append (λ word. word.items) c.in-Some.others.now (c.in-Some.last.now ∷ []) in
    record {
      insert = subst (λ (w : List ℕ). HasPut words old others w old (reverse c.new-branches.result.items)) (sym c.as_slice-current.ensures.value)
          (subst (λ (bs : List Branch). HasPut words old others c.in-Some.last.now.items old (reverse bs)) (sym c.new-branches.ensures.items)
          (last_put words others c.in-Some.last.now.items old split));
      after = omega (arith, c.len-after.ensures);
    }

pub loop-word-preserved : goal.loop-word-preserved
loop-word-preserved c =
    let known = c.loop-word.invariant in
    let old = reverse c.args.steps.now.items in
    let words = map (λ word. word.items) c.args.words.now in
    let left = map (λ word. word.items) c.loop-word.left.now in
    let others = map (λ word. word.items) c.in-Some-split_last.before.now in
    let word = c.in-Some-split_last.word.now.items in
    let mid = reverse c.emit_bytes.new.steps.items in
    let rest = reverse c.emit_bytes.new.branches.items in
    let common = c.common_prefix_len-common.result in
    let split : left ≡ others ++ word ∷ [] =
    ap (map (λ word. word.items)) c.in-Some-split_last.ensures.cases.0
    ∙ map-append (λ word. word.items) c.in-Some-split_last.before.now (c.in-Some-split_last.word.now ∷ []) in
    let both : take common c.loop-word.current.now ≡ take common word =
    c.common_prefix_len-common.ensures.same ∙ ap (take common) c.as_slice.ensures.value in
    let within : common ≤ length word =
    subst (λ (w : List ℕ). common ≤ length w) c.as_slice.ensures.value c.common_prefix_len-common.ensures.within.1 in
    let insert = word_put words old left others word c.loop-word.current.now (reverse c.loop-word.steps.items)
    (reverse c.loop-word.branches.items) common mid rest split known.insert c.in_ok-emit_bytes.ensures both within in
    let state : c.len.result ≡ length mid =
    omega (arith, c.len.ensures, length-reverse c.emit_bytes.new.steps.items) in
    let branches : reverse c.push.new.self.items ≡ record { depth = common; state = length mid } ∷ rest =
    ap reverse c.in_ok-push.ensures.items
    ∙ reverse-append c.emit_bytes.new.branches.items (record { depth = common; state = c.len.result } ∷ [])
    ∙ ap (λ n. record { depth = common; state = n } ∷ rest) state in
    let far : c.saturating_sub.result ≡ length mid - length old =
    omega (
      arith,
      c.saturating_sub.ensures,
      c.len-in-Some-split_last.ensures,
      length-reverse c.emit_bytes.new.steps.items,
      length-reverse c.args.steps.now.items,
      known.after,
    ) in
    let steps : reverse c.push-in-Some-split_last.new.self.items ≡ Jump (length mid - length old) ∷ mid =
    ap reverse c.in_ok-push-2.ensures.items
    ∙ reverse-append c.emit_bytes.new.steps.items (Jump c.saturating_sub.result ∷ [])
    ∙ ap (λ n. Jump n ∷ mid) far in
    record {
      insert = subst (λ (w : List ℕ). HasPut words old others w (reverse c.push-in-Some-split_last.new.self.items) (reverse c.push.new.self.items))
          (sym c.as_slice-current-in-Some-split_last.ensures.value)
          (subst (λ (bs : List Branch). HasPut words old others word (reverse c.push-in-Some-split_last.new.self.items) bs) (sym branches)
          (subst (λ (ss : List Step). HasPut words old others word ss (record { depth = common; state = length mid } ∷ rest)) (sym steps) insert));
      after = known.after;
    }

pub returns : goal.returns
returns c =
    let empty = nil_from_length c.loop-word.left.now c.in_default-split_last.ensures.cases in
    on_ok_weaker c.emit_bytes-2.result
    (all_put (map (λ word. word.items) c.args.words.now) (reverse c.args.steps.now.items)
    (map (λ word. word.items) c.loop-word.left.now) c.loop-word.current.now (reverse c.loop-word.steps.items)
    (reverse c.loop-word.branches.items) (reverse c.emit_bytes-2.new.steps.items) (reverse c.emit_bytes-2.new.branches.items)
    (ap (map (λ word. word.items)) empty) c.loop-word.invariant.insert)
    c.emit_bytes-2.ensures
