-- The refs of all remotes in one list, ordered by ref name and then by remote.
-- Cited by contracts of public items: YieldsRef.
use Rattle.std.specs.Prelude.{◌≡◌, ℕ, List, [], ◌∷◌, ◌++◌, false, cond, Option, Some, None}
use Rattle.std.specs.Borrow.{Bor}
use Rattle.std.specs.Cmp.Lexicographic.{slice_cmp}
use Rattle.std.specs.List.{AllByRecursion, filter_map}
use Rattle.std.specs.Ordering.{nat_cmp, is_gt}
use Rattle.std.specs.Str.{bytes_eq}
use Rattle.jj_ids.specs.Names.{name_bytes}
use Rattle.jj_ids.specs.declared.ref_name.symbols.RemoteRefSymbol.{RemoteRefSymbol}
use Rattle.jj_stores.specs.ViewJoins.{Named, IsAscending, remotes_with}

-- refs, each with its name and the name of its remote
abbrev pub AtRemotes : Type 0 → Type 0
AtRemotes R = List ((List ℕ × List ℕ) × R)

module _ {R : Type 0} where
  -- the names ascend, not necessarily strictly
  abbrev pub AreByName : AtRemotes R → Type 0
  AreByName [] = Unit {0}
  AreByName (r ∷ rs) =
      AllByRecursion (λ s. is_gt (slice_cmp nat_cmp r.0.0 s.0.0) ≡ false) rs × AreByName rs

  -- the refs of one name, each with its remote
  abbrev pub refs_at : AtRemotes R → List ℕ → Named R
  refs_at refs name =
      filter_map (λ r. cond (bytes_eq name r.0.0) (Some (r.0.1, r.1)) None) refs

  -- refs are all refs of the remotes, in order of names, and of one name in order of remotes
  pub record IsFlattened (remotes : Named (Named R)) (refs : AtRemotes R) : Type 0 where
    pub by_name : AreByName refs
    pub at_each : (name : List ℕ) → refs_at refs name ≡ remotes_with remotes name

  -- the ref of this name is removed from the first remote that has it
  pub record RemovesRef (name : List ℕ) (old : Named (Named R)) (found : List ℕ × R)
      (new : Named (Named R)) : Type 0 where
    pub before : Named (Named R)
    pub after : Named (Named R)
    pub others : Named R
    pub old_is : old ≡ before ++ (found.0, (name, found.1) ∷ others) ∷ after
    pub new_is : new ≡ before ++ (found.0, others) ∷ after
    pub none_before : remotes_with before name ≡ []
    pub ascending : IsAscending ((name, found.1) ∷ others)

  -- a remote ref with its name and the name of its remote
  abbrev pub symbol_ref_of : RemoteRefSymbol × Bor R → (List ℕ × List ℕ) × R
  symbol_ref_of item = ((name_bytes item.0.name, name_bytes item.0.remote), item.1.now)

  -- one step of the iterator: the first remaining ref is yielded, or none remains
  abbrev pub YieldsRef : Named (Named R) → Option (RemoteRefSymbol × Bor R)
      → Named (Named R) → Type 0
  YieldsRef old None new = IsFlattened old [] × IsFlattened new []
  YieldsRef old (Some item) new = (refs : AtRemotes R) → IsFlattened new refs
      → IsFlattened old (symbol_ref_of item ∷ refs)
