-- Runs of writes that a backend records.
use Rattle.std.proofs.Common.{◌≡◌, ◌∙◌, ℕ, List, [], ◌∷◌, ◌++◌, Some, map, sym, ap, append_assoc, append-nil, arith}
use Rattle.std.proofs.lemmas.List.{length-map, get_or-map}
use Rattle.std.proofs.lemmas.List.Elements.{All-head, All-map, All-tail, All-weaker}
use Rattle.std.specs.Prelude.{All, Any, IfOk, IsOkAnd, Result, Ok, Err}
use Rattle.jj_backend.specs.Objects.{ById, Object, tree_object}
use Rattle.jj_backend.specs.Trees.{Entries}
use Rattle.jj_backend.specs.declared.backend.errors.BackendError.{BackendError}
use Rattle.jj_backend.specs.declared.backend.tree_value.TreeValue.TheVariants.{Tree}
use Rattle.jj_paths.specs.Paths.{Path}
use Rattle.jj_trees.specs.TreeWrites.{TreeWrite, IsAtPath, IsDirectory, IsRun, WritesDirectories}
use Rattle.jj_trees.specs.WrittenTrees.{PathValues, stored_at}
use Rattle.jj_trees_tests.specs.Recorded.{Records}

abbrev pub pair_of : TreeWrite → Path × Entries
pair_of write = (write.0, write.1)

-- the recorded tree is the one at its path
abbrev pub IsRecordedAtPath : ById Entries → List ℕ → Path × Entries → Type 0
IsRecordedAtPath trees root write = (id : List ℕ) × (stored_at trees (Some (Tree root)) write.0 ≡ Some (Tree id)) × (trees id ≡ Some write.1)

any_map : {X Y : Type 0} (f : X → Y) (P : Y → Type 0) (xs : List X) → Any (λ x. P (f x)) xs → Any P (map f xs)
any_map f P xs h = (h.0, f h.1, omega (arith, length-map xs f, h.2), get_or-map f xs h.0 h.1 (f h.1) h.2 ∙ ap f h.3, h.4)

succeeded : (r : Result (List ℕ) BackendError) (Q : List ℕ → Type 0) (P : Type 0) → IsOkAnd r Q → IfOk r (λ _. P) → P
succeeded (Ok id) Q P ok p = p
succeeded (Err e) Q P ok p = absurd ok

stored : (trees : ById Entries) (root : List ℕ) (write : TreeWrite) → IsAtPath trees root write.0 write → IsRecordedAtPath trees root (pair_of write)
stored trees root (path, entries, Ok id) h = (id, h.0, h.1)
stored trees root (path, entries, Err e) h = absurd h

-- `written` is the record of a backend, and a write records its path and tree
module _ {B : Type 0} (written : B → List (Path × Entries)) (may_write : B → Path → Object → Result (List ℕ) BackendError → B → Type 0)
    (records : (old new : B) (path : Path) (object : Object) (r : Result (List ℕ) BackendError) → may_write old path object r new → IfOk r (λ _. Records (written old) path object (written new))) where
  recorded : (trees : ById Entries) (root : List ℕ) (ws : List TreeWrite) (old new : B) → IsRun may_write old ws new → All (λ write. IsAtPath trees root write.0 write) ws
      → written new ≡ written old ++ map pair_of ws
  recorded trees root [] old new run all = ap written run ∙ sym (append-nil (written old))
  recorded trees root (w ∷ ws) old new run all =
      let P : TreeWrite → Type 0 = λ write. IsAtPath trees root write.0 write in
      let first : written run.0 ≡ written old ++ pair_of w ∷ [] = succeeded w.2 _ _ (All-head P w ws all) (records old run.0 w.0 (tree_object w.1) w.2 run.1) in
      recorded trees root ws run.0 new run.2 (All-tail P w ws all) ∙ ap (λ l. l ++ map pair_of ws) first ∙ append_assoc (written old) (pair_of w ∷ []) (map pair_of ws)

  -- the recorded writes are those of the directories
  pub recorded_ok : (trees : ById Entries) (values : PathValues) (old new : B) (r : Result (List ℕ) BackendError) → WritesDirectories may_write trees values old new r
      → IfOk r (λ root. (more : List (Path × Entries)) × (written new ≡ written old ++ more) × All (IsRecordedAtPath trees root) more
      × ((path : Path) → IsDirectory values path → Any (λ write. write.0 ≡ path) more))
  recorded_ok trees values old new (Ok root) h = (
    map pair_of h.writes,
    recorded trees root h.writes old new h.run h.at_paths,
    All-map (IsRecordedAtPath trees root) pair_of h.writes
        (All-weaker (λ write. IsAtPath trees root write.0 write) (λ write. IsRecordedAtPath trees root (pair_of write)) (stored trees root) h.writes h.at_paths),
    λ path is. any_map pair_of (λ write. write.0 ≡ path) h.writes (h.all path is),
  )
  recorded_ok trees values old new (Err e) h = tt
