-- The lists of candidates of a grouped graph.
use Rattle.std.proofs.Common.{◌≡◌, ℕ, ◌+◌, ◌<◌, Bool, true, false, cond, ◌||◌, ◌&&◌, ◌⊎◌, Option, is_some, inl, inr, List, [], ◌∷◌, ◌++◌, map, filter, length, take, get_or, refl, sym, ◌∙◌, ap, subst, append-nil, append_assoc, true≢false}
use Rattle.std.proofs.lemmas.List.{take_more, map-append, same_from_push}
use Rattle.std.proofs.lemmas.List.Elements.{filter-append}
use Rattle.std.specs.List.{list_all}
use Rattle.jj_walks.specs.declared.graph.GraphEdge.{GraphEdge}
use Rattle.jj_walks.specs.declared.graph.GraphEdgeType.{GraphEdgeType}
use Rattle.jj_walks.specs.declared.graph.GraphEdgeType.TheVariants.{Missing, Direct, Indirect}
use Rattle.std.proofs.lemmas.List.Folds.{list_any-append}
use Rattle.jj_walks.specs.Candidates.{AreSameIds, AreToFollow, has_id, is_listed, is_positive}
use Rattle.jj_walks.specs.Grouped.{is_in_graph, targets_of}

-- the test of an edge
pub is_shown-missing : (t : GraphEdgeType) → t ≡ Missing → is_in_graph t ≡ false
is_shown-missing t e = ap is_in_graph e

pub is_shown-other : (t : GraphEdgeType) → (t ≡ Missing → ⊥) → is_in_graph t ≡ true
is_shown-other Missing n = absurd (n refl)
is_shown-other Direct n = refl
is_shown-other Indirect n = refl

pub and_left : (a b : Bool) → (a && b) ≡ true → a ≡ true
and_left true b e = refl
and_left false b e = absurd (true≢false (sym e))

pub and_right : (a b : Bool) → (a && b) ≡ true → b ≡ true
and_right true b e = e
and_right false b e = absurd (true≢false (sym e))

module _ {ID : Type 0} where
  targets-push : (edges : List (GraphEdge ID)) (edge : GraphEdge ID) → targets_of (edges ++ edge ∷ []) ≡ targets_of edges ++ cond (is_in_graph edge.edge_type) (edge.target ∷ []) []
  targets-push edges edge =
      ap (map (λ e. e.target)) (filter-append (λ e. is_in_graph e.edge_type) edges (edge ∷ []))
      ∙ map-append (λ e. e.target) (filter (λ e. is_in_graph e.edge_type) edges) (filter (λ e. is_in_graph e.edge_type) (edge ∷ []))
      ∙ ap (λ l. targets_of edges ++ l) (one (is_in_graph edge.edge_type))
    where
      one : (b : Bool) → map (λ e. e.target) (cond b (edge ∷ []) []) ≡ cond b (edge.target ∷ []) []
      one true = refl
      one false = refl

  -- the targets of one more edge
  pub targets-more : (edges : List (GraphEdge ID)) (i : ℕ) (edge : GraphEdge ID) → i < length edges → edge ≡ get_or edges i edge
      → targets_of (take (i + 1) edges) ≡ targets_of (take i edges) ++ cond (is_in_graph edge.edge_type) (edge.target ∷ []) []
  targets-more edges i edge h e = ap targets_of (take_more edges i edge h) ∙ ap (λ x. targets_of (take i edges ++ x ∷ [])) (sym e) ∙ targets-push (take i edges) edge

  pub last-or-none : (xs : List ID) → (xs ≡ []) ⊎ ((front : List ID) × (x : ID) × (xs ≡ front ++ x ∷ []))
  last-or-none [] = inl refl
  last-or-none (x ∷ xs) = inr (next (last-or-none xs))
    where
      next : (xs ≡ []) ⊎ ((front : List ID) × (y : ID) × (xs ≡ front ++ y ∷ [])) → (front : List ID) × (y : ID) × (x ∷ xs ≡ front ++ y ∷ [])
      next (inl e) = ([], x, ap (λ l. x ∷ l) e)
      next (inr (front, y, e)) = (x ∷ front, y, ap (λ l. x ∷ l) e)

  -- an id that is not that of the last candidate is listed without it
  pub listed-passed : (eq : ID → ID → Bool) (rest found heads : List ID) (x i : ID) → found ≡ rest ++ x ∷ [] → (eq x i ≡ true → ⊥) → is_listed eq found heads i ≡ true → is_listed eq rest heads i ≡ true
  listed-passed eq rest found heads x i e other k =
      go (eq x i) (has_id eq rest i) other (sym (ap (λ b. b || has_id eq heads i) (list_any-append (λ j. eq j i) rest (x ∷ []))) ∙ sym (ap (λ l. is_listed eq l heads i) e) ∙ k)
    where
      go : (b r : Bool) → (b ≡ true → ⊥) → ((r || (b || false)) || has_id eq heads i) ≡ true → (r || has_id eq heads i) ≡ true
      go true r n h = absurd (n refl)
      go false true n h = refl
      go false false n h = h

  pub list_all-append : (p : ID → Bool) (xs ys : List ID) → list_all p (xs ++ ys) ≡ (list_all p xs && list_all p ys)
  list_all-append p [] ys = refl
  list_all-append p (x ∷ xs) ys = ap (λ b. p x && b) (list_all-append p xs ys) ∙ sym (and_assoc (p x) (list_all p xs) (list_all p ys))
    where
      and_assoc : (a b d : Bool) → ((a && b) && d) ≡ (a && (b && d))
      and_assoc true b d = refl
      and_assoc false b d = refl

  nothing_appended : (xs ys : List ID) → xs ++ ys ≡ [] → ys ≡ []
  nothing_appended [] ys e = e
  nothing_appended (x ∷ xs) ys e = cc

  module _ (eq : ID → ID → Bool) (counts : ID → Option ℕ) (targets : List ID) where
    -- a candidate with a pending child is skipped
    pub follows-passed : (rest found : List ID) (x : ID) → found ≡ rest ++ x ∷ [] → (is_some (counts x) ≡ true → is_positive (counts x) ≡ true) → AreToFollow eq counts targets found → AreToFollow eq counts targets rest
    follows-passed rest found x e child k = go (last-or-none k.pending)
      where
        go : (k.pending ≡ []) ⊎ ((front : List ID) × (y : ID) × (k.pending ≡ front ++ y ∷ [])) → AreToFollow eq counts targets rest
        go (inl none) = record {
          older = rest;
          pending = [];
          passed = k.passed;
          candidates = sym (append-nil rest);
          targets = subst (λ (l : List ID). AreSameIds eq targets (l ++ k.passed)) none k.targets;
          known = refl;
          blocked = k.blocked;
        }
        go (inr (front, y, last)) =
            let both = same_from_push rest (k.older ++ front) x y (sym e ∙ k.candidates ∙ ap (λ l. k.older ++ l) last ∙ sym (append_assoc k.older front (y ∷ []))) in
            let all : (list_all (λ i. is_some (counts i)) front && (is_some (counts y) && true)) ≡ true =
            sym (list_all-append (λ i. is_some (counts i)) front (y ∷ [])) ∙ sym (ap (list_all (λ i. is_some (counts i))) last) ∙ k.known in
            let here : is_some (counts y) ≡ true = and_left (is_some (counts y)) true (and_right (list_all (λ i. is_some (counts i)) front) (is_some (counts y) && true) all) in
            let positive : is_positive (counts y) ≡ true = ap (λ z. is_positive (counts z)) (sym both.1) ∙ child (ap (λ z. is_some (counts z)) both.1 ∙ here) in
            record {
              older = k.older;
              pending = front;
              passed = y ∷ k.passed;
              candidates = both.0;
              targets = subst (λ (l : List ID). AreSameIds eq targets l) (ap (λ l. l ++ k.passed) last ∙ append_assoc front (y ∷ []) k.passed) k.targets;
              known = and_left (list_all (λ i. is_some (counts i)) front) (is_some (counts y) && true) all;
              blocked = ap (λ b. b && list_all (λ i. is_positive (counts i)) k.passed) positive ∙ k.blocked;
            }

    -- if no candidate is left, all targets have a pending child
    pub follows-none : (found more : List ID) → found ≡ [] → AreToFollow eq counts targets found → AreToFollow eq counts targets more
    follows-none found more none k = record {
      older = more;
      pending = [];
      passed = k.passed;
      candidates = sym (append-nil more);
      targets = subst (λ (l : List ID). AreSameIds eq targets (l ++ k.passed)) (nothing_appended k.older k.pending (sym k.candidates ∙ none)) k.targets;
      known = refl;
      blocked = k.blocked;
    }
