use Rattle.std.proofs.Common.{[], sym, subst}
use Rattle.std.proofs.lemmas.Result.{err_from_is_err_and}
use Rattle.jj_trees.specs.PathTries.{IsTrieOf}
use Rattle.jj_trees.specs.WrittenTrees.{IsPrefixFree, chosen_values, values_to_write}
use Rattle.jj_trees.proofs.TrieValues.{no_values, other_cause, prefix_before}
use Rattle.jj_trees.proofs.tree_merge.writing.values_trie.Goals as goal

pub returns-in_err-insert_resolved-clause-error : goal.returns-in_err-insert_resolved-clause-error
returns-in_err-insert_resolved-clause-error c =
    let start : IsTrieOf [] c.default-trie.result = no_values c.default-trie.result c.default-trie.ensures.value c.default-trie.ensures.alone in
    let p = err_from_is_err_and c.from_residual.result c.from_residual.ensures.1 in
    rw (p.1, p.2)
    (other_cause (λ h free. h [] start (subst IsPrefixFree (sym c.deref.ensures.value) (prefix_before c.args.merge.now.resolved.items (chosen_values c.args.merge.now.conflicts.items c.args.chosen.now) free)))
    c.in_err-insert_resolved.ensures.error)

pub returns-in_err-insert_chosen-clause-error : goal.returns-in_err-insert_chosen-clause-error
returns-in_err-insert_chosen-clause-error c =
    let start : IsTrieOf [] c.default-trie.result = no_values c.default-trie.result c.default-trie.ensures.value c.default-trie.ensures.alone in
    let resolved : IsTrieOf c.args.merge.now.resolved.items c.insert_resolved.new.trie =
    subst (λ l. IsTrieOf l c.insert_resolved.new.trie) c.deref.ensures.value (c.in_ok-insert_resolved.ensures.inserted [] start) in
    let p = err_from_is_err_and c.from_residual-in_err-insert_chosen.result c.from_residual-in_err-insert_chosen.ensures.1 in
    rw (p.1, p.2)
    (other_cause (λ h free. h c.args.merge.now.resolved.items resolved (subst (λ l. IsPrefixFree (values_to_write c.args.merge.now.resolved.items l c.args.chosen.now)) (sym c.deref-2.ensures.value) free))
    c.in_err-insert_chosen.ensures.error)

pub returns-clause-trie : goal.returns-clause-trie
returns-clause-trie c =
    let start : IsTrieOf [] c.default-trie.result = no_values c.default-trie.result c.default-trie.ensures.value c.default-trie.ensures.alone in
    let resolved : IsTrieOf c.args.merge.now.resolved.items c.insert_resolved.new.trie =
    subst (λ l. IsTrieOf l c.insert_resolved.new.trie) c.deref.ensures.value (c.in_ok-insert_resolved.ensures.inserted [] start) in
    subst (λ l. IsTrieOf (values_to_write c.args.merge.now.resolved.items l c.args.chosen.now) c.insert_chosen.new.trie) c.deref-2.ensures.value
    (c.in_ok-insert_chosen.ensures.inserted c.args.merge.now.resolved.items resolved)
