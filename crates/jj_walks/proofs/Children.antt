-- The children that the candidates of a grouped graph list at each id.
use Rattle.std.proofs.Common.{◌≡◌, ℕ, ◌+◌, ◌<◌, Bool, true, false, cond, ◌||◌, ◌&&◌, List, [], ◌∷◌, ◌++◌, length, take, get_or, refl, sym, ◌∙◌, ap}
use Rattle.std.proofs.lemmas.List.{take_more}
use Rattle.std.proofs.lemmas.List.Folds.{list_any-append}
use Rattle.std.specs.Cmp.{IsEquivalence}
use Rattle.std.specs.List.{list_any}
use Rattle.jj_walks.specs.declared.graph.GraphEdge.{GraphEdge}
use Rattle.jj_walks.specs.Candidates.{has_id}
use Rattle.jj_walks.specs.Grouped.{is_in_graph, leads_to}

or_false : (a : Bool) → (a || false) ≡ a
or_false true = refl
or_false false = refl

module _ {ID : Type 0} {eq : ID → ID → Bool} (laws : IsEquivalence eq) where
  leads-more : (edges : List (GraphEdge ID)) (n : ℕ) (edge : GraphEdge ID) (j : ID) → n < length edges → edge ≡ get_or edges n edge
      → list_any (leads_to eq j) (take (n + 1) edges) ≡ (list_any (leads_to eq j) (take n edges) || leads_to eq j edge)
  leads-more edges n edge j h e =
      ap (list_any (leads_to eq j)) (take_more edges n edge h) ∙ ap (λ x. list_any (leads_to eq j) (take n edges ++ x ∷ [])) (sym e)
      ∙ list_any-append (leads_to eq j) (take n edges) (edge ∷ []) ∙ ap (λ b. list_any (leads_to eq j) (take n edges) || b) (or_false (leads_to eq j edge))

  -- a child was appended to those of the target of an edge
  pub child-put : (edges : List (GraphEdge ID)) (n : ℕ) (edge : GraphEdge ID) (parent from child : ID) (first before after : ID → List ID) → n < length edges → edge ≡ get_or edges n edge
      → is_in_graph edge.edge_type ≡ true → eq edge.target parent ≡ true → eq from child ≡ true → ((q : ID) → after q ≡ cond (eq parent q) (before q ++ child ∷ []) (before q))
      → ((j i : ID) → has_id eq (before j) i ≡ (has_id eq (first j) i || (list_any (leads_to eq j) (take n edges) && eq from i)))
      → (j i : ID) → has_id eq (after j) i ≡ (has_id eq (first j) i || (list_any (leads_to eq j) (take (n + 1) edges) && eq from i))
  child-put edges n edge parent from child first before after h e shown target same put k j i =
      ap (λ l. has_id eq l i) (put j) ∙ one (eq parent j)
      ∙ ap (λ b. has_id eq (before j) i || (b && eq child i)) (sym (laws.congr edge.target parent j target))
      ∙ ap (λ b. has_id eq (before j) i || (eq edge.target j && b)) (sym (laws.congr from child i same))
      ∙ ap (λ b. b || (eq edge.target j && eq from i)) (k j i)
      ∙ turn (has_id eq (first j) i) (list_any (leads_to eq j) (take n edges)) (eq edge.target j) (eq from i)
      ∙ ap (λ b. has_id eq (first j) i || ((list_any (leads_to eq j) (take n edges) || (b && eq edge.target j)) && eq from i)) (sym shown)
      ∙ ap (λ b. has_id eq (first j) i || (b && eq from i)) (sym (leads-more edges n edge j h e))
    where
      one : (b : Bool) → has_id eq (cond b (before j ++ child ∷ []) (before j)) i ≡ (has_id eq (before j) i || (b && eq child i))
      one true = list_any-append (λ x. eq x i) (before j) (child ∷ []) ∙ ap (λ b. has_id eq (before j) i || b) (or_false (eq child i))
      one false = sym (or_false (has_id eq (before j) i))

      turn : (a l t d : Bool) → ((a || (l && d)) || (t && d)) ≡ (a || ((l || t) && d))
      turn true l t d = refl
      turn false true true true = refl
      turn false true true false = refl
      turn false true false true = refl
      turn false true false false = refl
      turn false false t d = refl

  -- an edge that is missing lists no child
  pub child-missing : (edges : List (GraphEdge ID)) (n : ℕ) (edge : GraphEdge ID) (from : ID) (first before : ID → List ID) → n < length edges → edge ≡ get_or edges n edge → is_in_graph edge.edge_type ≡ false
      → ((j i : ID) → has_id eq (before j) i ≡ (has_id eq (first j) i || (list_any (leads_to eq j) (take n edges) && eq from i)))
      → (j i : ID) → has_id eq (before j) i ≡ (has_id eq (first j) i || (list_any (leads_to eq j) (take (n + 1) edges) && eq from i))
  child-missing edges n edge from first before h e missing k j i =
      k j i ∙ ap (λ b. has_id eq (first j) i || (b && eq from i))
      (sym (or_false (list_any (leads_to eq j) (take n edges))) ∙ ap (λ b. list_any (leads_to eq j) (take n edges) || (b && eq edge.target j)) (sym missing) ∙ sym (leads-more edges n edge j h e))
