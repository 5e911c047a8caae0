use Rattle.std.proofs.Common.{◌≡◌, ◌++◌, ◌∷◌, [], List, cond, take, true, false, true≢false, sym, ◌∙◌, ap, subst, append-nil, append_assoc}
use Rattle.std.proofs.lemmas.List.Elements.{AllZip-push}
use Rattle.jj_walks.specs.Candidates.{AreSameIds}
use Rattle.jj_walks.specs.Grouped.{targets_of, is_in_graph}
use Rattle.jj_walks.proofs.CandidateLists.{targets-more, is_shown-missing, is_shown-other}
use Rattle.jj_walks.proofs.candidates.Candidates.push_targets.Goals as goal
use Rattle.jj_walks.proofs.candidates.Candidates.push_targets.Goals.{then-not-is_missing+in_ok-clone+in_ok-push, else-not-is_missing}

pub loop-edge-preserved : goal.loop-edge-preserved
loop-edge-preserved g c =
    let edge = c.edge-item.result in
    let before = c.loop-edge.invariant in
    let eq = g.ID.PartialEq.eq in
    let kept = targets_of (take c.loop-edge.edge-index c.args.edges.now) in
    let more = targets-more c.args.edges.now c.loop-edge.edge-index edge c.loop-edge-test.true c.edge-item.is in
    elim c.if-not-is_missing.branch [
      | then-not-is_missing+in_ok-clone+in_ok-push w ↦
          let shown : is_in_graph edge.edge_type ≡ true = is_shown-other edge.edge_type (λ e. absurd (true≢false (sym (c.is_missing.ensures.1 e) ∙ w.if-not-is_missing.true))) in
          record {
            heads = ap (λ s. s.heads) w.self-is ∙ before.heads;
            ids = (
              before.ids.0 ++ w.in_ok-clone.field-0 ∷ [],
              ap (λ s. s.ids.items) w.self-is ∙ w.in_ok-push.ensures.items ∙ ap (λ l. l ++ w.in_ok-clone.field-0 ∷ []) before.ids.1 ∙ append_assoc c.args.self.now.ids.items before.ids.0 (w.in_ok-clone.field-0 ∷ []),
              subst (λ (l : List g.row.ID.Denot). AreSameIds eq l (before.ids.0 ++ w.in_ok-clone.field-0 ∷ [])) (sym (more ∙ ap (λ b. kept ++ cond b (edge.target ∷ []) []) shown))
                  (AllZip-push (λ i j. eq i j ≡ true) kept before.ids.0 edge.target w.in_ok-clone.field-0 before.ids.2 (c.requires.clones edge.target w.in_ok-clone.field-0 w.in_ok-clone.ensures.cases)),
            );
          }
      | else-not-is_missing w ↦
          let shown : is_in_graph edge.edge_type ≡ false = is_shown-missing edge.edge_type (c.is_missing.ensures.0 w.if-not-is_missing.false) in
          record {
            heads = ap (λ s. s.heads) w.self-is ∙ before.heads;
            ids = (
              before.ids.0,
              ap (λ s. s.ids.items) w.self-is ∙ before.ids.1,
              subst (λ (l : List g.row.ID.Denot). AreSameIds eq l before.ids.0) (sym (more ∙ ap (λ b. kept ++ cond b (edge.target ∷ []) []) shown ∙ append-nil kept)) before.ids.2,
            );
          }
    ]
