-- Hunks as the joiner appends them.
use Rattle.std.proofs.Common.{◌≡◌, ℕ, ◌+◌, ◌<◌, List, [], ◌∷◌, ◌++◌, length, take, get_or, Bor, refl, ap, sym, ◌∙◌, arith, append_assoc, append-nil, Vec, Global}
use Rattle.std.proofs.lemmas.List.{map_push, take_more}
use Rattle.jj_diff.specs.Inputs.{bytes_of}
use Rattle.jj_content_merges.specs.Hunks.{merge_contents, contents, joined_after, resolved_hunk}

abbrev pub Text : Type 0
Text = Bor (List ℕ)

-- one term more
pub terms_push : (row : List Text) (i : ℕ) (x : Text) (terms : List (Vec ℕ Global)) (t : Vec ℕ Global)
    → i < length row → x ≡ get_or row i x → merge_contents terms ≡ bytes_of (take i row)
    → t.items ≡ x.now → merge_contents (terms ++ t ∷ []) ≡ bytes_of (take (i + 1) row)
terms_push row i x terms t lt e before here =
    map_push (λ (v : Vec ℕ Global). v.items) terms t
    ∙ ap (λ v. v ++ t.items ∷ []) before
    ∙ ap (λ v. bytes_of (take i row) ++ v ∷ []) here
    ∙ sym (ap bytes_of (take_more row i x lt ∙ ap (λ y. take i row ++ y ∷ []) (sym e))
    ∙ map_push (λ (v : Text). v.now) (take i row) x)

resolved_empty : (text : List ℕ) → length text ≡ 0 → resolved_hunk text ≡ []
resolved_empty [] h = refl
resolved_empty (b ∷ bs) h = absurd (omega arith)

resolved_nonempty : (text : List ℕ) → (length text ≡ 0 → ⊥) → resolved_hunk text ≡ (text ∷ []) ∷ []
resolved_nonempty [] h = absurd (h refl)
resolved_nonempty (b ∷ bs) h = refl

hunks_push : (hunks : List (List (Vec ℕ Global))) (terms : List (Vec ℕ Global))
    → contents (hunks ++ terms ∷ []) ≡ contents hunks ++ merge_contents terms ∷ []
hunks_push hunks terms = map_push merge_contents hunks terms

pub resolved_kept : (hunks : List (List (Vec ℕ Global))) (text : List ℕ) → length text ≡ 0
    → contents hunks ≡ contents hunks ++ resolved_hunk text
resolved_kept hunks text h =
    sym (ap (λ r. contents hunks ++ r) (resolved_empty text h) ∙ append-nil (contents hunks))

pub resolved_pushed : (hunks : List (List (Vec ℕ Global))) (text : Vec ℕ Global)
    → (length text.items ≡ 0 → ⊥)
    → contents (hunks ++ (text ∷ []) ∷ []) ≡ contents hunks ++ resolved_hunk text.items
resolved_pushed hunks text h =
    hunks_push hunks (text ∷ [])
    ∙ ap (λ r. contents hunks ++ r) (sym (resolved_nonempty text.items h))

pub row_resolved : (before : List (List (List ℕ))) (resolved : List ℕ) (row : List Text) (x : Text)
    → length row ≡ 1 → x ≡ get_or row 0 x → (rest : List (List (List ℕ)))
    → before ++ joined_after (resolved ++ x.now) rest
    ≡ before ++ joined_after resolved (bytes_of row ∷ rest)
row_resolved before resolved [] x h e rest = absurd (omega arith)
row_resolved before resolved (y ∷ []) x h e rest =
    ap (λ (r : Text). before ++ joined_after (resolved ++ r.now) rest) e
row_resolved before resolved (y ∷ z ∷ row) x h e rest = absurd (omega arith)

conflict_joined : (resolved : List ℕ) (row : List Text) (rest : List (List (List ℕ)))
    → (length row ≡ 1 → ⊥)
    → joined_after resolved (bytes_of row ∷ rest)
    ≡ resolved_hunk resolved ++ bytes_of row ∷ joined_after [] rest
conflict_joined resolved [] rest h = refl
conflict_joined resolved (y ∷ []) rest h = absurd (h refl)
conflict_joined resolved (y ∷ z ∷ row) rest h = refl

pub row_conflict : (before : List (List (List ℕ))) (hunks : List (List (Vec ℕ Global)))
    (resolved : List ℕ) (row : List Text) (terms : List (Vec ℕ Global))
    → contents hunks ≡ before ++ resolved_hunk resolved
    → merge_contents terms ≡ bytes_of row → (length row ≡ 1 → ⊥)
    → (rest : List (List (List ℕ)))
    → contents (hunks ++ terms ∷ []) ++ joined_after [] rest
    ≡ before ++ joined_after resolved (bytes_of row ∷ rest)
row_conflict before hunks resolved row terms e f h rest =
    ap (λ x. x ++ joined_after [] rest)
    (hunks_push hunks terms ∙ ap (λ x. x ++ merge_contents terms ∷ []) e
    ∙ ap (λ x. (before ++ resolved_hunk resolved) ++ x ∷ []) f)
    ∙ append_assoc (before ++ resolved_hunk resolved) (bytes_of row ∷ []) (joined_after [] rest)
    ∙ append_assoc before (resolved_hunk resolved) (bytes_of row ∷ joined_after [] rest)
    ∙ sym (ap (λ x. before ++ x) (conflict_joined resolved row rest h))

pub ruleset terms_steps = (terms_push)

pub ruleset hunk_steps = (resolved_kept, resolved_pushed)

pub ruleset row_steps = (row_resolved, row_conflict)
