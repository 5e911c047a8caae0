-- The results of a walk over ancestors, with the commits apart from the errors.
use Rattle.std.proofs.Common.{◌≡◌, ◌⊎◌, inl, inr, ⊎_elim, ℕ, zero, suc, Ok, Err, Result, IfOk, List, [], ◌∷◌, map, sym, ◌∙◌, ap, subst}
use Rattle.std.specs.Prelude.{All}
use Rattle.std.specs.List.{AllZip, Contains}
use Rattle.std.proofs.lemmas.List.Elements.{Contains-get_or}
use Rattle.jj_backend.specs.Objects.{Objects}
use Rattle.jj_backend.specs.declared.backend.errors.BackendError.{BackendError}
use Rattle.jj_backend.specs.declared.backend.errors.BackendError.TheVariants.{Memory}
use Rattle.jj_dag.specs.FallibleGraphs.{ok_items}
use Rattle.jj_dag.specs.NodeGraph.{NodePath, ReachesNode}
use Rattle.jj_dag.proofs.FailingWalks.{Contains-from_ok_items}
use Rattle.jj_walks.proofs.DfsOkRuns.{map_back}
use Rattle.jj_walks.proofs.Expanding.{at_first, in_map, in_rest}
use Rattle.jj_store_walks.specs.Histories.{AreFoundAncestors, AreReadableAncestors, Completes, Parents, found_errors, found_ids}
use Rattle.jj_store_walks.specs.ReadCommits.{IsReadFailure}
use Rattle.jj_store_walks.proofs.FailedReads.{Failure, failures_in}
use Rattle.jj_store_walks.proofs.FoundAncestors.{id_back}
use Rattle.jj_store_walks.proofs.ReadResults.{Item}

-- two facts of a result make a third
pub if_both : {X E : Type 0} (r : Result X E) (P Q R : X → Type 0) → IfOk r P → IfOk r Q → ((x : X) → P x → Q x → R x) → IfOk r R
if_both (Ok x) P Q R p q join = join x p q
if_both (Err e) P Q R p q join = tt

all_of : {X : Type 0} (P : X → Type 0) (xs : List X) → ((x : X) → Contains xs x → P x) → All P xs
all_of P xs each n d within = each _ (Contains-get_or xs n d within)

module _ (store : Objects) (may_fail : BackendError → Type 0) where
  zipped : (failures : List Failure) → ((id : List ℕ) (e : BackendError) → Contains failures (id, e) → IsReadFailure may_fail store e id)
      → AllZip (IsReadFailure may_fail store) (map (λ (f : Failure). f.1) failures) (map (λ (f : Failure). f.0) failures)
  zipped [] each = tt
  zipped (f ∷ failures) each = (each f.0 f.1 (at_first f failures), zipped failures (λ id e at. each id e (in_rest f failures (id, e) at)))

  module _ (ids : List (List ℕ)) (found : List Item) (k : AreFoundAncestors store may_fail ids found) where
    abbrev lost_ids : List (List ℕ)
    lost_ids = map (λ (f : Failure). f.0) k.failures

    failure_of : (id : List ℕ) → Contains lost_ids id → (e : BackendError) × Contains k.failures (id, e)
    failure_of id h = let q = map_back (λ (f : Failure). f.0) k.failures id h in (q.0.1, subst (λ z. Contains k.failures (z, q.0.1)) q.2 q.1)

    -- an ancestor below a found one is found, or below a lost one
    on_path : (Contains (found_errors found) Memory → ⊥) → (parents : Parents) → Completes store parents → (n : ℕ) (a b : List ℕ) → Contains (found_ids found) a → NodePath parents a b n
        → Contains (found_ids found) b ⊎ ReachesNode parents lost_ids b
    on_path none parents complete zero a b h same = inl (subst (λ (y : List ℕ). Contains (found_ids found) y) same h)
    on_path none parents complete (suc n) a b h (c, edge, rest) =
        let back = id_back (ok_items found) a h in
        let at = Contains-from_ok_items found back.0 back.1 in
        let listed : parents a ≡ back.0.commit.parents = ap parents (sym back.2) ∙ complete back.0.id back.0.commit (k.stored back.0 at) in
        let inside : Contains back.0.commit.parents c = subst (λ (l : List (List ℕ)). Contains l c) listed edge in
        ⊎_elim (λ here. on_path none parents complete n c b here rest)
        (λ other. ⊎_elim (λ (e, failed). inr (c, in_map (λ (f : Failure). f.0) k.failures (c, e) failed, (n, rest))) (λ memory. absurd (none (failures_in found Memory memory))) other)
        (k.parents_read back.0 c at inside)

    pub readable : AreReadableAncestors store may_fail ids (ok_items found) (found_errors found)
    readable = record {
      stored = all_of _ (ok_items found) (λ c h. k.stored c (Contains-from_ok_items found c h));
      reached = λ parents complete. all_of _ (ok_items found) (λ c h. k.reached c (Contains-from_ok_items found c h) parents complete);
      once = k.once;
      lost = lost_ids;
      failed = subst (λ l. AllZip (IsReadFailure may_fail store) l lost_ids) k.errors (zipped k.failures (λ id e at. (k.failed id e at).0));
      lost_reached = λ parents complete. all_of _ lost_ids (λ id h. let q = failure_of id h in (k.failed id q.0 q.1).1 parents complete);
      others = λ none parents complete id (a, from, (n, path)).
          ⊎_elim (λ here. on_path none parents complete n a id here path)
          (λ other. ⊎_elim (λ (e, failed). inr (a, in_map (λ (f : Failure). f.0) k.failures (a, e) failed, (n, path))) (λ memory. absurd (none (failures_in found Memory memory))) other) (k.starts_read a from);
    }
