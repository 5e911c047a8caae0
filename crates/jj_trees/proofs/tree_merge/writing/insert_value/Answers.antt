use Rattle.std.proofs.Common.{◌≡◌, inl, inr, [], ◌∷◌, ◌++◌, true, false, sym, subst, ◌∙◌}
use Rattle.jj_paths.specs.Names.{path_of}
use Rattle.jj_paths.specs.Tree.{value_at}
use Rattle.jj_backend.specs.declared.backend.tree_value.TreeValue.{TreeValue}
use Rattle.jj_trees.specs.PathTries.{IsTrieOf}
use Rattle.jj_trees.proofs.TrieValues.{inserted, root_refused, taken_refused, value_there, no_value_there}
use Rattle.jj_trees.proofs.tree_merge.writing.insert_value.Goals as goal
use Rattle.jj_trees.proofs.tree_merge.writing.insert_value.Goals.{then-is_root-via-then-is_root, then-is_root-via-else-is_root+then-has_value}

pub returns-then-is_root-clause-error : goal.returns-then-is_root-clause-error
returns-then-is_root-clause-error c =
    elim c.path_error.ensures [
      | inl memory ↦ inl memory
      | inr other ↦ inr (
        other,
        λ values of. elim c.then-is_root.branch [
          | then-is_root-via-then-is_root w ↦ root_refused values (path_of c.args.path) c.args.value.now (c.is_root.ensures.0 w.if-is_root.true)
          | then-is_root-via-else-is_root+then-has_value w ↦
              let found = value_there (value_at c.args.trie.now (path_of c.args.path)) (sym w.has_value.ensures ∙ w.if-has_value.true) in
              taken_refused values c.args.trie.now (path_of c.args.path) c.args.value.now found.0 of found.1
        ],
      )
    ]

pub returns-clause-inserted : goal.returns-clause-inserted
returns-clause-inserted c = λ values of.
    subst (λ (v : TreeValue). IsTrieOf (values ++ (path_of c.args.path, v) ∷ []) c.set.new.self) c.in_ok-clone.ensures.cases
    (inserted values c.args.trie.now c.set.new.self (path_of c.args.path) c.in_ok-clone.field-0 of c.in_ok-set.ensures.as_map
    (λ e. let a : c.is_root.result ≡ true = c.is_root.ensures.1 e in let b : c.is_root.result ≡ false = c.if-is_root.false in absurd cc)
    (λ v. no_value_there (value_at c.args.trie.now (path_of c.args.path)) v (sym c.has_value.ensures ∙ c.if-has_value.false)))
