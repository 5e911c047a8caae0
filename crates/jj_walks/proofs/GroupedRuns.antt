-- Runs of the iterator over a grouped graph.
use Rattle.std.proofs.Common.{◌≡◌, Bool, List, [], ◌∷◌, ◌++◌, Option, Some, Result, Ok, map, refl, sym, subst}
use Rattle.std.specs.Fn.{Shared}
use Rattle.std.specs.Iterator.{Yields}
use Rattle.std.proofs.lemmas.List.{map-append}
use denote.Ref.{Bor}
use Rattle.jj_walks.specs.Grouped.{Entry, History, Read}
use Rattle.jj_walks.specs.GroupedSteps.{IsEntryOf, Item, ReadsTo, read_on}
use Rattle.jj_dag.proofs.Expanding.{zip-push}
use Rattle.jj_dag.proofs.FailingOrders.{Yields-push}

-- one node more was read
pub read_on-push : {N ID : Type 0} (es : List (Entry N ID)) (e : Entry N ID) (h : History N ID) → read_on (es ++ e ∷ []) h ≡ Read e ∷ read_on es h
read_on-push [] e h = refl
read_on-push (f ∷ es) e h = read_on-push es e (Read f ∷ h)

module _ {N ID F S E : Type 0} (ids : Shared F (Bor N × Unit {0}) (Bor ID)) (eq : ID → ID → Bool) (steps : S → Option (Result (Item N ID) E) → S → Type 0) where
  pub reads-push : (as_id : F) (s t u : S) (items : List (Item N ID)) (reads : List (Entry N ID)) (item : Item N ID) (e : Entry N ID) → ReadsTo ids eq steps as_id s items reads t
      → steps t (Some (Ok item)) u → IsEntryOf ids eq as_id item e → ReadsTo ids eq steps as_id s (items ++ item ∷ []) (reads ++ e ∷ []) u
  reads-push as_id s t u items reads item e k step entry = record {
    yielded = subst (λ (l : List (Result (Item N ID) E)). Yields steps s l u) (sym (map-append ok items (item ∷ []))) (Yields-push steps (map ok items) (Ok item) s t u k.yielded step);
    entries = zip-push (IsEntryOf ids eq as_id) items reads item e k.entries entry;
  }
    where
      ok : Item N ID → Result (Item N ID) E
      ok x = Ok x
