-- The merge of a directory, composed from the outcomes at its names.
use Rattle.std.proofs.Common.{◌≡◌, ◌<◌, ◌+◌, ℕ, suc, zero, Bool, true, false, ◌⊎◌, inl, inr, List, [], ◌∷◌, ◌++◌, length, get_or, map, Option, Some, None, unwrap_or, refl, sym, ap, subst, ◌∙◌, arith, true≢false}
use Rattle.std.specs.Prelude.{All, Any, Contains, ◌↔◌}
use Rattle.std.specs.Global.{Global}
use Rattle.std.specs.declared.string.String.{String}
use Rattle.std.proofs.lemmas.Option.{none-some}
use Rattle.std.proofs.lemmas.Int.{ints}
use Rattle.std.proofs.lemmas.Bool.{and_parts}
use Rattle.std.specs.Str.{bytes_eq}
use Rattle.std.proofs.lemmas.List.{map-append, append_assoc, append-nil}
use Rattle.std.proofs.lemmas.List.Elements.{Contains-push_cases}
use Rattle.std.specs.declared.cmp.Ordering.TheVariants.{Less}
use Rattle.jj_paths.specs.Paths.{Name, Path, name_cmp}
use Rattle.jj_merges.specs.declared.merge.SameChange.{SameChange}
use Rattle.jj_merges.specs.declared.merge.SameChange.TheVariants.{Keep, Accept}
use Rattle.jj_merges.specs.Resolution.{ResolvesTo}
use Rattle.jj_backend.specs.Objects.{ById}
use Rattle.std.specs.Option.{option_eq}
use Rattle.jj_backend.specs.contracts.backend.tree_value.TreeValuePartialEq.TheImpl as tree_values
use Rattle.jj_backend.specs.declared.backend.tree_value.TreeValue.{TreeValue}
use Rattle.jj_backend.specs.declared.backend.tree_value.TreeValue.TheVariants.{File, Symlink, Tree, GitSubmodule}
use Rattle.std.specs.Cmp.Lexicographic.{bytes_decides}
use Rattle.jj_backend.specs.declared.backend.errors.BackendError.{BackendError}
use Rattle.jj_backend.specs.declared.backend.errors.BackendError.TheVariants.{Memory, Unsupported}
use Rattle.jj_backend.specs.MergedTreeValues.{Values}
use Rattle.jj_trees.specs.TreeMerges.{child, values_at, IsOpen}
use Rattle.jj_trees.specs.DirectoryMerges.{MustRecurse, Conflict, IsListOf, IsConflictOf, AppendsOutcome, HasOutcomeFrom, IsResolvedBelow, IsConflictBelow, IsAppended, IsWithin, IsDirectoryError}
use Rattle.jj_trees.proofs.Joining.{under, below, same_list, Below, none, joined}

module _ {E : Type 0} where
  under_below : (dir : Path) (name : Name) (ys : List (Path × E)) → map (under (dir ++ name ∷ [])) ys ≡ map (under dir) (map (below name) ys)
  under_below dir name [] = refl
  under_below dir name (y ∷ ys) = λ i. (append_assoc dir (name ∷ []) y.0 i, y.1) ∷ under_below dir name ys i

  pub added : (dir : Path) (name : Name) (olds news lasts xs ys : List (Path × E)) → news ≡ olds ++ map (under dir) xs
      → lasts ≡ news ++ map (under (dir ++ name ∷ [])) ys → lasts ≡ olds ++ map (under dir) (xs ++ map (below name) ys)
  added dir name olds news lasts xs ys h k =
      k ∙ ap (λ l. l ++ map (under (dir ++ name ∷ [])) ys) h ∙ append_assoc olds (map (under dir) xs) (map (under (dir ++ name ∷ [])) ys)
      ∙ ap (λ l. olds ++ (map (under dir) xs ++ l)) (under_below dir name ys) ∙ ap (λ l. olds ++ l) (sym (map-append (under dir) xs (map (below name) ys)))

  pair_same : (p q : Path) (e f : E) → p ≡ q → e ≡ f → ◌≡◌ {A = Path × E} (p, e) (q, f)
  pair_same p q e f h k = λ i. (h i, k i)

  pub one_list : (P : Path → E → Type 0) (e : E) → P [] e → ((p : Path) (f : E) → P p f → (p ≡ []) × (f ≡ e)) → IsListOf P (([], e) ∷ [])
  one_list P e here only = record {
    in_order = λ i j d lt within. absurd (omega arith);
    exactly = λ p f. (λ c. to p f c.0 c.1 c.2, λ h. let r = only p f h in (0, omega arith, pair_same [] p e f (sym r.0) (sym r.1)));
  }
    where
      only_one : List (Path × E)
      only_one = ([], e) ∷ []

      to : (p : Path) (f : E) (k : ℕ) → k < 1 → ◌≡◌ {A = Path × E} (get_or only_one k (p, f)) (p, f) → P p f
      to p f zero lt is = subst (λ v. P v.0 v.1) is here
      to p f (suc k) lt is = absurd (omega arith)

  pub no_list : (P : Path → E → Type 0) → ((p : Path) (f : E) → P p f → ⊥) → IsListOf P []
  no_list P never = record {
    in_order = λ i j d lt within. absurd (omega arith);
    exactly = λ p f. (λ c. let lt = c.1 in absurd (omega arith), λ h. absurd (never p f h));
  }

module _ (eq : Option TreeValue → Option TreeValue → Bool) (same : (v w : Option TreeValue) → eq v w ≡ true → v ≡ w) where
  -- the outcome is unique
  pub decided_same : (same_change : SameChange) (m : Values) (v w : Option TreeValue) → ResolvesTo eq same_change m v → ResolvesTo eq same_change m w → v ≡ w
  decided_same Keep m v w a b = same v w (a.1 w (λ z. let one = b.0 in absurd (omega (arith, ints))))
  decided_same Accept m v w a b = same v w (a.1 w b.0)

  module _ (trees : ById (List (Name × TreeValue))) (same_change : SameChange) (labels : List (List ℕ))
      (is_read : Path → Option TreeValue → Type 0) (fails : Path → BackendError → Option TreeValue → Type 0) where
    abbrev pub ResolvedFrom : Values → Path → TreeValue → Type 0
    ResolvedFrom values p v = HasOutcomeFrom trees eq same_change values p × ResolvesTo eq same_change (values_at trees values p) (Some v)

    abbrev pub ConflictFrom : Values → Path → Conflict → Type 0
    ConflictFrom values p c = HasOutcomeFrom trees eq same_change values p × IsConflictOf eq same_change (values_at trees values p) labels c

    -- values that resolve have one entry, at the empty path
    pub resolved_here : (values : Values) (v : TreeValue) → (MustRecurse eq same_change values → ⊥) → ResolvesTo eq same_change values (Some v) → IsListOf (ResolvedFrom values) (([], v) ∷ [])
    resolved_here values v not_entered decided = one_list (ResolvedFrom values) v (not_entered, decided) only
      where
        only : (p : Path) (f : TreeValue) → ResolvedFrom values p f → (p ≡ []) × (f ≡ v)
        only [] f h = (refl, ap (λ o. unwrap_or o v) (decided_same same_change values (Some f) (Some v) h.1 decided))
        only (n ∷ p) f h = absurd (not_entered h.0.0)

    pub no_conflict_here : (values : Values) (v : Option TreeValue) → (MustRecurse eq same_change values → ⊥) → ResolvesTo eq same_change values v → IsListOf (ConflictFrom values) []
    no_conflict_here values v not_entered decided = no_list (ConflictFrom values) never
      where
        never : (p : Path) (f : Conflict) → ConflictFrom values p f → ⊥
        never [] f h = h.1.0 v decided
        never (n ∷ p) f h = not_entered h.0.0

    pub nothing_here : (values : Values) → (MustRecurse eq same_change values → ⊥) → ((v : TreeValue) → ResolvesTo eq same_change values (Some v) → ⊥) → IsListOf (ResolvedFrom values) []
    nothing_here values not_entered undecided = no_list (ResolvedFrom values) never
      where
        never : (p : Path) (f : TreeValue) → ResolvedFrom values p f → ⊥
        never [] f h = undecided f h.1
        never (n ∷ p) f h = not_entered h.0.0

    pub conflict_here : (values : Values) (c : Conflict) → (MustRecurse eq same_change values → ⊥) → IsConflictOf eq same_change values labels c → IsListOf (ConflictFrom values) (([], c) ∷ [])
    conflict_here values c not_entered conflict = one_list (ConflictFrom values) c (not_entered, conflict) only
      where
        only : (p : Path) (f : Conflict) → ConflictFrom values p f → (p ≡ []) × (f ≡ c)
        only [] f h = (refl, λ i. record { terms = (h.1.1 ∙ sym conflict.1) i; labels = (h.1.2 ∙ sym conflict.2) i })
        only (n ∷ p) f h = absurd (not_entered h.0.0)

    -- the entries of values that are merged entry by entry are those below them
    pub resolved_entered : (values : Values) (xs : List (Path × TreeValue)) → MustRecurse eq same_change values → IsListOf (IsResolvedBelow trees eq same_change values) xs → IsListOf (ResolvedFrom values) xs
    resolved_entered values xs entered = same_list (IsResolvedBelow trees eq same_change values) (ResolvedFrom values) xs both
      where
        both : (p : Path) (v : TreeValue) → IsResolvedBelow trees eq same_change values p v ↔ ResolvedFrom values p v
        both [] v = (λ h. absurd h.0, λ h. absurd (h.0 entered))
        both (n ∷ p) v = (λ h. ((entered, h.0), h.1), λ h. (h.0.1, h.1))

    pub conflict_entered : (values : Values) (xs : List (Path × Conflict)) → MustRecurse eq same_change values → IsListOf (IsConflictBelow trees eq same_change values labels) xs → IsListOf (ConflictFrom values) xs
    conflict_entered values xs entered = same_list (IsConflictBelow trees eq same_change values labels) (ConflictFrom values) xs both
      where
        both : (p : Path) (v : Conflict) → IsConflictBelow trees eq same_change values labels p v ↔ ConflictFrom values p v
        both [] v = (λ h. absurd h.0, λ h. absurd (h.0 entered))
        both (n ∷ p) v = (λ h. ((entered, h.0), h.1), λ h. (h.0.1, h.1))

    -- the loop invariant: the outcomes at the names processed so far are appended
    pub record Passed (levels : ℕ) (values : Values) (dir : Path) (names : List Name) (old_resolved new_resolved : List (Path × TreeValue)) (old_conflicts new_conflicts : List (Path × Conflict)) : Type 0 where
      pub resolved : List (Path × TreeValue)
      pub conflicts : List (Path × Conflict)
      pub resolves : IsListOf (Below (λ name. ResolvedFrom (map (child trees name) values)) names) resolved
      pub conflicted : IsListOf (Below (λ name. ConflictFrom (map (child trees name) values)) names) conflicts
      pub resolved_added : new_resolved ≡ old_resolved ++ map (under dir) resolved
      pub conflicts_added : new_conflicts ≡ old_conflicts ++ map (under dir) conflicts
      pub within : (name : Name) → Contains names name → MustRecurse eq same_change (map (child trees name) values) → IsWithin trees eq same_change is_read fails (dir ++ name ∷ []) (map (child trees name) values) levels

    module _ (levels : ℕ) (values : Values) (dir : Path) where
      pub passed_none : (rs : List (Path × TreeValue)) (cs : List (Path × Conflict)) → Passed levels values dir [] rs rs cs cs
      passed_none rs cs = record {
        resolved = [];
        conflicts = [];
        resolves = none (λ name. ResolvedFrom (map (child trees name) values));
        conflicted = none (λ name. ConflictFrom (map (child trees name) values));
        resolved_added = sym (append-nil rs);
        conflicts_added = sym (append-nil cs);
        within = λ name h. let lt = h.1 in absurd (omega arith);
      }

      module _ (names : List Name) (name : Name) (old_r new_r last_r : List (Path × TreeValue)) (old_c new_c last_c : List (Path × Conflict))
          (above : All (λ m. name_cmp m name ≡ Less) names) (passed : Passed levels values dir names old_r new_r old_c new_c) where
        pub step : (ys : List (Path × TreeValue)) (zs : List (Path × Conflict))
            → IsListOf (ResolvedFrom (map (child trees name) values)) ys → IsListOf (ConflictFrom (map (child trees name) values)) zs
            → last_r ≡ new_r ++ map (under (dir ++ name ∷ [])) ys → last_c ≡ new_c ++ map (under (dir ++ name ∷ [])) zs
            → (MustRecurse eq same_change (map (child trees name) values) → IsWithin trees eq same_change is_read fails (dir ++ name ∷ []) (map (child trees name) values) levels)
            → Passed levels values dir (names ++ name ∷ []) old_r last_r old_c last_c
        step ys zs r c r_added c_added inside = record {
          resolved = passed.resolved ++ map (below name) ys;
          conflicts = passed.conflicts ++ map (below name) zs;
          resolves = joined (λ n. ResolvedFrom (map (child trees n) values)) names name passed.resolved ys above passed.resolves r;
          conflicted = joined (λ n. ConflictFrom (map (child trees n) values)) names name passed.conflicts zs above passed.conflicted c;
          resolved_added = added dir name old_r new_r last_r passed.resolved ys passed.resolved_added r_added;
          conflicts_added = added dir name old_c new_c last_c passed.conflicts zs passed.conflicts_added c_added;
          within = λ n h. either n (Contains-push_cases names name n h);
        }
          where
            either : (n : Name) → Contains names n ⊎ (name ≡ n) → MustRecurse eq same_change (map (child trees n) values) → IsWithin trees eq same_change is_read fails (dir ++ n ∷ []) (map (child trees n) values) levels
            either n (inl a) = passed.within n a
            either n (inr is) = subst (λ m. MustRecurse eq same_change (map (child trees m) values) → IsWithin trees eq same_change is_read fails (dir ++ m ∷ []) (map (child trees m) values) levels) is inside

        pub step_entered : MustRecurse eq same_change (map (child trees name) values)
            → IsAppended trees eq same_change (map (child trees name) values) labels (dir ++ name ∷ []) new_r last_r new_c last_c
            → IsWithin trees eq same_change is_read fails (dir ++ name ∷ []) (map (child trees name) values) levels
            → Passed levels values dir (names ++ name ∷ []) old_r last_r old_c last_c
        step_entered entered a within =
            step a.resolved a.conflicts (resolved_entered (map (child trees name) values) a.resolved entered a.merge.resolves)
            (conflict_entered (map (child trees name) values) a.conflicts entered a.merge.conflicted) a.resolved_added a.conflicts_added (λ _. within)

        one_under : {E : Type 0} (e : E) (news lasts : List (Path × E)) → lasts ≡ news ++ (dir ++ name ∷ [], e) ∷ [] → lasts ≡ news ++ map (under (dir ++ name ∷ [])) (([], e) ∷ [])
        one_under e news lasts h = h ∙ λ i. news ++ (sym (append-nil (dir ++ name ∷ [])) i, e) ∷ []

        none_under : {E : Type 0} (news lasts : List (Path × E)) → lasts ≡ news → lasts ≡ news ++ []
        none_under news lasts h = h ∙ sym (append-nil news)

        pub step_here : AppendsOutcome eq same_change (map (child trees name) values) labels (dir ++ name ∷ []) new_r last_r new_c last_c
            → Passed levels values dir (names ++ name ∷ []) old_r last_r old_c last_c
        step_here h = by h.1
          where
            here : Values
            here = map (child trees name) values

            by : ((v : TreeValue) × ResolvesTo eq same_change here (Some v) × (last_r ≡ new_r ++ (dir ++ name ∷ [], v) ∷ []) × (last_c ≡ new_c))
                ⊎ (ResolvesTo eq same_change here None × (last_r ≡ new_r) × (last_c ≡ new_c))
                ⊎ ((conflict : Conflict) × IsConflictOf eq same_change here labels conflict × (last_r ≡ new_r) × (last_c ≡ new_c ++ (dir ++ name ∷ [], conflict) ∷ []))
                → Passed levels values dir (names ++ name ∷ []) old_r last_r old_c last_c
            by (inl d) = step (([], d.0) ∷ []) [] (resolved_here here d.0 h.0 d.1) (no_conflict_here here (Some d.0) h.0 d.1) (one_under d.0 new_r last_r d.2) (none_under new_c last_c d.3) (λ e. absurd (h.0 e))
            by (inr (inl d)) = step [] [] (nothing_here here h.0 (λ v s. none-some v (sym (decided_same same_change here (Some v) None s d.0)))) (no_conflict_here here None h.0 d.0) (none_under new_r last_r d.1) (none_under new_c last_c d.2) (λ e. absurd (h.0 e))
            by (inr (inr d)) = step [] (([], d.0) ∷ []) (nothing_here here h.0 (λ v s. d.1.0 (Some v) s)) (conflict_here here d.0 h.0 d.1) (none_under new_r last_r d.2) (one_under d.0 new_c last_c d.3) (λ e. absurd (h.0 e))

      module _ (names : List Name) (old_r new_r : List (Path × TreeValue)) (old_c new_c : List (Path × Conflict)) (passed : Passed levels values dir names old_r new_r old_c new_c)
          (every : (name : Name) → Contains names name ⊎ ResolvesTo eq same_change (map (child trees name) values) None) where
        -- the directory is merged once all names that occur in it are processed
        pub merged : IsAppended trees eq same_change values labels dir old_r new_r old_c new_c
        merged = record {
          resolved = passed.resolved;
          conflicts = passed.conflicts;
          merge = record {
            resolves = same_list (Below (λ n. ResolvedFrom (map (child trees n) values)) names) (IsResolvedBelow trees eq same_change values) passed.resolved both_r passed.resolves;
            conflicted = same_list (Below (λ n. ConflictFrom (map (child trees n) values)) names) (IsConflictBelow trees eq same_change values labels) passed.conflicts both_c passed.conflicted;
          };
          resolved_added = passed.resolved_added;
          conflicts_added = passed.conflicts_added;
        }
          where
            not_r : (n : Name) (p : Path) (v : TreeValue) → ResolvesTo eq same_change (map (child trees n) values) None → ResolvedFrom (map (child trees n) values) p v → ⊥
            not_r n [] v d h = none-some v (sym (decided_same same_change (map (child trees n) values) (Some v) None h.1 d))
            not_r n (m ∷ p) v d h = h.0.0.0 None d

            not_c : (n : Name) (p : Path) (c : Conflict) → ResolvesTo eq same_change (map (child trees n) values) None → ConflictFrom (map (child trees n) values) p c → ⊥
            not_c n [] c d h = h.1.0 None d
            not_c n (m ∷ p) c d h = h.0.0.0 None d

            passed_one : (n : Name) (X : Type 0) → (ResolvesTo eq same_change (map (child trees n) values) None → X → ⊥) → X → Contains names n
            passed_one n X not x = by (every n)
              where
                by : Contains names n ⊎ ResolvesTo eq same_change (map (child trees n) values) None → Contains names n
                by (inl c) = c
                by (inr d) = absurd (not d x)

            both_r : (p : Path) (v : TreeValue) → Below (λ n. ResolvedFrom (map (child trees n) values)) names p v ↔ IsResolvedBelow trees eq same_change values p v
            both_r [] v = (λ h. absurd h, λ h. absurd h.0)
            both_r (n ∷ p) v = (λ h. h.1, λ h. (passed_one n (ResolvedFrom (map (child trees n) values) p v) (not_r n p v) h, h))

            both_c : (p : Path) (c : Conflict) → Below (λ n. ConflictFrom (map (child trees n) values)) names p c ↔ IsConflictBelow trees eq same_change values labels p c
            both_c [] c = (λ h. absurd h, λ h. absurd h.0)
            both_c (n ∷ p) c = (λ h. h.1, λ h. (passed_one n (ConflictFrom (map (child trees n) values) p c) (not_c n p c) h, h))

        pub all_within : All (is_read dir) values → (upto : ℕ) → upto ≡ levels + 1 → IsWithin trees eq same_change is_read fails dir values upto
        all_within here upto is = record { read = read; not_deeper = not_deeper }
          where
            inside : (n : Name) → MustRecurse eq same_change (map (child trees n) values) → IsWithin trees eq same_change is_read fails (dir ++ n ∷ []) (map (child trees n) values) levels
            inside n e = by (every n)
              where
                by : Contains names n ⊎ ResolvesTo eq same_change (map (child trees n) values) None → IsWithin trees eq same_change is_read fails (dir ++ n ∷ []) (map (child trees n) values) levels
                by (inl c) = passed.within n c e
                by (inr d) = absurd (e.0 None d)

            read : (path : Path) → IsOpen trees eq same_change values path → All (is_read (dir ++ path)) (values_at trees values path)
            read [] o = subst (λ d. All (is_read d) values) (sym (append-nil dir)) here
            read (n ∷ p) o = subst (λ d. All (is_read d) (values_at trees (map (child trees n) values) p)) (append_assoc dir (n ∷ []) p)
                ((inside n (o.0, o.1)).read p o.2)

            not_deeper : (path : Path) → IsOpen trees eq same_change values path → length path < upto
            not_deeper [] o = omega arith
            not_deeper (n ∷ p) o = let lt = (inside n (o.0, o.1)).not_deeper p o.2 in omega arith

      -- an error of reading the directory is an error of merging it
      pub error_here : (upto : ℕ) (e : BackendError) → (e ≡ Memory) ⊎ Any (fails dir e) values → IsDirectoryError trees eq same_change is_read fails dir values upto e
      error_here upto e (inl m) = inl m
      error_here upto e (inr f) = inr (inl ([], tt, subst (λ d. Any (fails d e) values) (sym (append-nil dir)) f))

      -- a directory below the deepest level
      pub error_too_deep : (upto : ℕ) (e : BackendError) → upto ≡ 0 → (e ≡ Memory) ⊎ ((message : String Global) × (e ≡ Unsupported message)) → IsDirectoryError trees eq same_change is_read fails dir values upto e
      error_too_deep upto e zero_levels (inl m) = inl m
      error_too_deep upto e zero_levels (inr t) = inr (inr (t.0, [], t.1, tt, sym zero_levels))

      -- an error of merging a subdirectory is an error of merging the directory
      pub error_below : (name : Name) (upto : ℕ) (e : BackendError) → upto ≡ levels + 1 → MustRecurse eq same_change (map (child trees name) values)
          → IsDirectoryError trees eq same_change is_read fails (dir ++ name ∷ []) (map (child trees name) values) levels e → IsDirectoryError trees eq same_change is_read fails dir values upto e
      error_below name upto e is entered (inl m) = inl m
      error_below name upto e is entered (inr (inl t)) = inr (inl (
        name ∷ t.0,
        (entered.0, entered.1, t.1),
        subst (λ d. Any (fails d e) (values_at trees (map (child trees name) values) t.0)) (append_assoc dir (name ∷ []) t.0) t.2,
      ))
      error_below name upto e is entered (inr (inr t)) = inr (inr (t.0, name ∷ t.1, t.2, (entered.0, entered.1, t.3), (let l = t.4 in omega arith)))

-- equal tree values are identical
pub same_value : (v w : TreeValue) → tree_values.eq-value.it v w ≡ true → v ≡ w
same_value (Symlink a) (Symlink b) h = ap Symlink ((bytes_decides a b).0 h)
same_value (Tree a) (Tree b) h = ap Tree ((bytes_decides a b).0 h)
same_value (GitSubmodule a) (GitSubmodule b) h = ap GitSubmodule ((bytes_decides a b).0 h)
same_value (File a true c) (File b true d) h = let p = and_parts (bytes_eq a b) (bytes_eq c d) h in λ i. File ((bytes_decides a b).0 p.0 i) true ((bytes_decides c d).0 p.1 i)
same_value (File a false c) (File b false d) h = let p = and_parts (bytes_eq a b) (bytes_eq c d) h in λ i. File ((bytes_decides a b).0 p.0 i) false ((bytes_decides c d).0 p.1 i)
same_value (File a true c) (File b false d) h = let p = and_parts (bytes_eq a b) false h in absurd (true≢false (sym p.1))
same_value (File a false c) (File b true d) h = let p = and_parts (bytes_eq a b) false h in absurd (true≢false (sym p.1))
same_value (File a x c) (Symlink b) h = absurd (true≢false (sym h))
same_value (File a x c) (Tree b) h = absurd (true≢false (sym h))
same_value (File a x c) (GitSubmodule b) h = absurd (true≢false (sym h))
same_value (Symlink a) (File b y d) h = absurd (true≢false (sym h))
same_value (Symlink a) (Tree b) h = absurd (true≢false (sym h))
same_value (Symlink a) (GitSubmodule b) h = absurd (true≢false (sym h))
same_value (Tree a) (File b y d) h = absurd (true≢false (sym h))
same_value (Tree a) (Symlink b) h = absurd (true≢false (sym h))
same_value (Tree a) (GitSubmodule b) h = absurd (true≢false (sym h))
same_value (GitSubmodule a) (File b y d) h = absurd (true≢false (sym h))
same_value (GitSubmodule a) (Symlink b) h = absurd (true≢false (sym h))
same_value (GitSubmodule a) (Tree b) h = absurd (true≢false (sym h))

pub same_values : (v w : Option TreeValue) → option_eq tree_values.eq-value.it v w ≡ true → v ≡ w
same_values None None h = refl
same_values None (Some w) h = absurd (true≢false (sym h))
same_values (Some v) None h = absurd (true≢false (sym h))
same_values (Some v) (Some w) h = ap Some (same_value v w h)
