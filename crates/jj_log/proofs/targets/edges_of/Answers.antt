use Rattle.std.proofs.Common.{◌∙◌, ◌++◌, ◌∷◌, [], List, ℕ, sym, ap, subst, ⊎_elim, map, take, get_or}
use Rattle.std.proofs.lemmas.List.{map-append, take_more}
use Rattle.std.proofs.lemmas.List.Elements.{Contains-get_or, Contains-push_cases}
use Rattle.std.specs.List.{Contains}
use Rattle.jj_log.specs.Edges.{IsOfType}
use Rattle.jj_log.specs.Numbers.{parents_of}
use Rattle.jj_log.specs.Targets.{AddsNew}
use Rattle.jj_log.proofs.NearTargets.{just_added, kept, same_type}
use Rattle.jj_log.proofs.targets.edges_of.Goals as goal

pub edge_to-requires : goal.edge_to-requires
edge_to-requires c =
    kept c.args.commits.now (get_or c.args.targets.now c.loop-target.target-index 0) c.args.number ((c.requires.all (get_or c.args.targets.now c.loop-target.target-index 0)).0 (Contains-get_or c.args.targets.now c.loop-target.target-index 0 c.loop-target-test.true))

pub loop-target-preserved : goal.loop-target-preserved
loop-target-preserved c =
    let commits = c.args.commits.now in
    let old = c.loop-target.edges.items in
    let edge = c.edge_to.result in
    let pushed = c.in_ok-push.ensures.items in
    let parents = parents_of commits c.args.number in
    let same = just_added parents c.insert_all.new.set (subst (λ (l : List ℕ). AddsNew l [] c.insert_all.new.set) c.parents_at.ensures (subst (λ (l : List ℕ). AddsNew c.parents_at.result.now l c.insert_all.new.set) c.clear.ensures c.in_ok-insert_all.ensures)) in
    let own = same_type commits c.insert_all.new.set parents edge.edge_type (get_or c.args.targets.now c.loop-target.target-index 0) same c.edge_to.ensures.edge_type in
    record {
      targets = ap (map (λ e. e.target)) pushed ∙ map-append (λ e. e.target) old (edge ∷ []) ∙ ap (λ l. l ++ edge.target ∷ []) c.loop-target.invariant.targets ∙ ap (λ t. take c.loop-target.target-index c.args.targets.now ++ t ∷ []) c.edge_to.ensures.target ∙ sym (take_more c.args.targets.now c.loop-target.target-index 0 c.loop-target-test.true);
      types = λ e at. ⊎_elim (c.loop-target.invariant.types e) (λ last. subst (λ x. IsOfType commits parents x.edge_type x.target) last (subst (IsOfType commits parents edge.edge_type) (sym c.edge_to.ensures.target) own))
          (Contains-push_cases old edge e (subst (λ l. Contains l e) pushed at));
    }
