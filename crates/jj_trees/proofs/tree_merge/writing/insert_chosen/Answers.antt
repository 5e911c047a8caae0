use Rattle.std.proofs.Common.{◌≡◌, ◌∙◌, ◌++◌, ◌<◌, Some, None, take, length, get_or, sym, ap, subst, arith}
use Rattle.std.proofs.lemmas.Result.{err_from_is_err_and}
use Rattle.std.proofs.Math.Seq.{take-length}
use Rattle.jj_paths.specs.Names.{path_of}
use Rattle.jj_trees.specs.PathTries.{IsTrieOf}
use Rattle.jj_trees.specs.WrittenTrees.{chosen_values}
use Rattle.jj_trees.proofs.TrieValues.{other_cause}
use Rattle.jj_trees.proofs.ChosenValues.{absent_more, present_more, chosen_prefix}
use Rattle.jj_trees.proofs.tree_merge.writing.insert_chosen.Goals as goal
use Rattle.jj_trees.proofs.tree_merge.writing.insert_chosen.Goals.{in-Some+in_ok-insert_value, in_default}

pub returns-in_err-insert_value-clause-error : goal.returns-in_err-insert_value-clause-error
returns-in_err-insert_value-clause-error c =
    let lt : c.loop-i.i < length c.args.conflicts.now = omega arith in
    let is : get_or c.args.chosen.now c.loop-i.i c.index-chosen-i.result ≡ Some c.in-Some.value = sym c.index-chosen-i.is ∙ c.in-Some.is in
    let at : (get_or c.args.conflicts.now c.loop-i.i c.index-conflicts-i.result).0 ≡ path_of c.as_path.result = sym c.as_path.ensures in
    let p = err_from_is_err_and c.from_residual.result c.from_residual.ensures.1 in
    rw (p.1, p.2)
    (other_cause (λ h values of free. h (values ++ chosen_values (take c.loop-i.i c.args.conflicts.now) (take c.loop-i.i c.args.chosen.now)) (c.loop-i.invariant values of)
    (chosen_prefix values c.args.conflicts.now c.args.chosen.now c.loop-i.i c.in-Some.value (path_of c.as_path.result) c.index-conflicts-i.result c.index-chosen-i.result lt c.loop-i-test.true is at free)) c.in_err-insert_value.ensures.error)

pub loop-i-preserved : goal.loop-i-preserved
loop-i-preserved c =
    let lt : c.loop-i.i < length c.args.conflicts.now = omega arith in
    elim c.match-chosen-i.branch [
      | in-Some+in_ok-insert_value w ↦
          let is : get_or c.args.chosen.now c.loop-i.i c.index-chosen-i.result ≡ Some w.in-Some.value = sym c.index-chosen-i.is ∙ w.in-Some.is in
          let at : (get_or c.args.conflicts.now c.loop-i.i w.index-conflicts-i.result).0 ≡ path_of w.as_path.result = sym w.as_path.ensures in
          rw w.trie-is
          (λ values of. subst (λ l. IsTrieOf l w.insert_value.new.trie)
          (present_more values c.args.conflicts.now c.args.chosen.now c.loop-i.i w.in-Some.value (path_of w.as_path.result) w.index-conflicts-i.result c.index-chosen-i.result lt c.loop-i-test.true is at)
          (w.in_ok-insert_value.ensures.inserted (values ++ chosen_values (take c.loop-i.i c.args.conflicts.now) (take c.loop-i.i c.args.chosen.now)) (c.loop-i.invariant values of)))
      | in_default w ↦
          let is : get_or c.args.chosen.now c.loop-i.i c.index-chosen-i.result ≡ None = sym c.index-chosen-i.is ∙ w.in_default.is in
          rw w.trie-is
          (λ values of. subst (λ l. IsTrieOf l c.loop-i.trie) (sym (absent_more values c.args.conflicts.now c.args.chosen.now c.loop-i.i c.index-chosen-i.result c.loop-i-test.true is)) (c.loop-i.invariant values of))
    ]

pub returns-clause-inserted : goal.returns-clause-inserted
returns-clause-inserted c =
    let all : c.loop-i.i ≡ length c.args.chosen.now = omega arith in
    let every : c.loop-i.i ≡ length c.args.conflicts.now = omega arith in
    λ values of.
    subst (λ l. IsTrieOf (values ++ chosen_values c.args.conflicts.now l) c.loop-i.trie) (ap (λ n. take n c.args.chosen.now) all ∙ take-length c.args.chosen.now)
    (subst (λ l. IsTrieOf (values ++ chosen_values l (take c.loop-i.i c.args.chosen.now)) c.loop-i.trie) (ap (λ n. take n c.args.conflicts.now) every ∙ take-length c.args.conflicts.now)
    (c.loop-i.invariant values of))
