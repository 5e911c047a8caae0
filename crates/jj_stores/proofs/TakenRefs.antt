-- The loop that removes the refs of one name from all remotes.
use Rattle.std.proofs.Common.{◌≡◌, ◌⊎◌, inl, inr, ℕ, List, [], ◌∷◌, ◌++◌, Bool, cond, false, Option, Some, None, map, sym, refl, ap, subst, ◌∙◌}
use Rattle.std.specs.Cmp.Lexicographic.{nat_list_eq_equiv}
use Rattle.std.specs.List.{All, AllZip, cons_option}
use Rattle.std.specs.Map.{keys_of, lookup}
use Rattle.std.specs.Option.{option_map, option_to_list}
use Rattle.std.specs.Ordering.{is_gt}
use Rattle.std.specs.Str.{bytes_eq}
use Rattle.std.proofs.lemmas.List.{map-append, append_assoc}
use Rattle.std.proofs.lemmas.List.Elements.{All-cons, All-head, All-tail}
use Rattle.std.proofs.lemmas.Map.Keys.{sorted_head}
use Rattle.jj_stores.specs.ViewJoins.{Named, IsAscending, IsLeast, RemovesFirst, RemovesAt, remotes_with}
use Rattle.jj_stores.specs.FlatRefs.{RemovesRef}
use Rattle.jj_stores.proofs.FlatSteps.{one_more}
use Rattle.jj_stores.proofs.NamesLeft.{cmp, none_above}

changed : {X : Type 0} (P : X → Type 0) (before after : List X) (x y : X) → (P x → P y)
    → All P (before ++ x ∷ after) → All P (before ++ y ∷ after)
changed P [] after x y step h = All-cons P y after (step (All-head P x after h)) (All-tail P x after h)
changed P (b ∷ bs) after x y step h =
    All-cons P b (bs ++ y ∷ after) (All-head P b (bs ++ x ∷ after) h)
    (changed P bs after x y step (All-tail P b (bs ++ x ∷ after) h))

changed_at : {A X : Type 0} (P : A → X → Type 0) (xs : List A) (before after : List X) (x y : X)
    → ((a : A) → P a x → P a y) → AllZip P xs (before ++ x ∷ after) → AllZip P xs (before ++ y ∷ after)
changed_at P [] [] after x y step h = absurd h
changed_at P [] (b ∷ bs) after x y step h = absurd h
changed_at P (a ∷ xs) [] after x y step h = (step a h.0, h.1)
changed_at P (a ∷ xs) (b ∷ bs) after x y step h = (h.0, changed_at P xs bs after x y step h.1)

nothing_with : {A B : Type 0} (f : A → B) (o : Option A) (rest : List B) → cons_option (option_map f o) rest ≡ []
    → (None ≡ o) × (rest ≡ [])
nothing_with f None rest h = (refl, h)
nothing_with f (Some a) rest h = cc

not_both : {A : Type 0} (o : Option A) (a : A) → o ≡ Some a → None ≡ o → ⊥
not_both None a e h = cc
not_both (Some b) a e h = cc

module _ {R : Type 0} (name : List ℕ) where
  -- a remote is unchanged, or its ref of the name is removed
  abbrev pub IsUnchangedOrRemoved : List ℕ × Named R → List ℕ × Named R → Type 0
  IsUnchangedOrRemoved old now = (old ≡ now) ⊎ (RemovesAt name old now × (None ≡ lookup (bytes_eq name) now.1))

  here : (ref : R) (others : Named R) → lookup (bytes_eq name) ((name, ref) ∷ others) ≡ Some ref
  here ref others =
      let P : Bool → Type 0 = λ b. cond b (Some ref) (lookup (bytes_eq name) others) ≡ Some ref in
      subst P (sym (nat_list_eq_equiv.refl name)) refl

  -- the refs are that of the name, if there is one, and the others
  cut : (refs others : Named R) (o : Option R) → lookup (bytes_eq name) refs ≡ o
      → refs ≡ option_to_list (option_map (λ v. (name, v)) o) ++ others
      → RemovesFirst name refs (lookup (bytes_eq name) refs) others
  cut refs others o is same = (
    refl,
    same ∙ ap (λ p. option_to_list (option_map (λ v. (name, v)) p) ++ others) (sym is),
  )

  lost_first : (remote : List ℕ) (ref : R) (others : Named R) → IsAscending ((name, ref) ∷ others)
      → RemovesAt name (remote, (name, ref) ∷ others) (remote, others)
  lost_first remote ref others up = record {
    remote = refl;
    refs = cut ((name, ref) ∷ others) others (Some ref) (here ref others) refl;
    ascending = up;
  }

  lost_none : (remote : List ℕ × Named R) → None ≡ lookup (bytes_eq name) remote.1 → IsAscending remote.1
      → RemovesAt name remote remote
  lost_none remote none up = record {
    remote = refl;
    refs = cut remote.1 remote.1 None (sym none) refl;
    ascending = up;
  }

  loses : (old : List ℕ × Named R) (remote : List ℕ) (ref : R) (others : Named R) → IsAscending ((name, ref) ∷ others)
      → IsUnchangedOrRemoved old (remote, (name, ref) ∷ others) → IsUnchangedOrRemoved old (remote, others)
  loses old remote ref others up (inl same) = inr (
    subst (λ r. RemovesAt name r (remote, others)) (sym same) (lost_first remote ref others up),
    none_above name others (sorted_head cmp name (keys_of others) up),
  )
  loses old remote ref others up (inr lost) = absurd (not_both _ ref (here ref others) lost.1)

  pub losing_more : (initial old : Named (Named R)) (found : List ℕ × R) (new : Named (Named R))
      → RemovesRef name old found new → AllZip IsUnchangedOrRemoved initial old → AllZip IsUnchangedOrRemoved initial new
  losing_more initial old found new taken so_far =
      subst (AllZip IsUnchangedOrRemoved initial) (sym taken.new_is)
      (changed_at IsUnchangedOrRemoved initial taken.before taken.after (found.0, (name, found.1) ∷ taken.others) (found.0, taken.others)
      (λ o l. loses o found.0 found.1 taken.others taken.ascending l)
      (subst (AllZip IsUnchangedOrRemoved initial) taken.old_is so_far))

  pub losing_none : (remotes : Named (Named R)) → AllZip IsUnchangedOrRemoved remotes remotes
  losing_none [] = tt
  losing_none (r ∷ rs) = (inl refl, losing_none rs)

  lost_or : (old now : List ℕ × Named R) → None ≡ lookup (bytes_eq name) now.1 → IsAscending now.1 → IsUnchangedOrRemoved old now
      → RemovesAt name old now
  lost_or old now none up (inl same) = subst (λ r. RemovesAt name r now) (sym same) (lost_none now none up)
  lost_or old now none up (inr lost) = lost.0

  pub all_lost : (initial now : Named (Named R)) → remotes_with now name ≡ [] → All (λ r. IsAscending r.1) now
      → AllZip IsUnchangedOrRemoved initial now → AllZip (RemovesAt name) initial now
  all_lost [] [] none up h = tt
  all_lost [] (n ∷ ns) none up h = absurd h
  all_lost (o ∷ os) [] none up h = absurd h
  all_lost (o ∷ os) (n ∷ ns) none up h =
      let parts = nothing_with (λ (v : R). (n.0, v)) (lookup (bytes_eq name) n.1) (remotes_with ns name) none in (
        lost_or o n parts.0 (All-head (λ r. IsAscending r.1) n ns up) h.0,
        all_lost os ns parts.1 (All-tail (λ r. IsAscending r.1) n ns up) h.1,
      )

  pub still_least : (old : Named (Named R)) (found : List ℕ × R) (new : Named (Named R)) → RemovesRef name old found new
      → All (λ r. IsLeast name r.1) old → All (λ r. IsLeast name r.1) new
  still_least old found new taken least =
      subst (All (λ r. IsLeast name r.1)) (sym taken.new_is)
      (changed (λ r. IsLeast name r.1) taken.before taken.after (found.0, (name, found.1) ∷ taken.others) (found.0, taken.others)
      (λ h. All-tail (λ q. is_gt (cmp name q) ≡ false) name (keys_of taken.others) h)
      (subst (All (λ r. IsLeast name r.1)) taken.old_is least))

  pub refs_more : {A : Type 0} (shows : A → List ℕ × R) (old : Named (Named R)) (item : A) (new : Named (Named R)) (whole : Named R)
      (refs : List A) → RemovesRef name old (shows item) new → map shows refs ++ remotes_with old name ≡ whole
      → map shows (refs ++ item ∷ []) ++ remotes_with new name ≡ whole
  refs_more shows old item new whole refs taken so_far =
      ap (λ l. l ++ remotes_with new name) (map-append shows refs (item ∷ []))
      ∙ append_assoc (map shows refs) (shows item ∷ []) (remotes_with new name)
      ∙ ap (λ l. map shows refs ++ l) (sym (one_more name old (shows item) new taken)) ∙ so_far
