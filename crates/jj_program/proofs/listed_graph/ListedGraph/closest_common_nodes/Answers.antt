use Rattle.std.proofs.Common.{◌≡◌, ◌∙◌, ◌<◌, All, List, ℕ, ap, length, map, subst, sym}
use Rattle.std.specs.List.Sorted.{IsStrictlyIncreasing}
use Rattle.std.proofs.lemmas.Result.{IfOk-weaker}
use Rattle.jj_dag.specs.CommonNodes.{AreClosestCommon, HasNoCommonCycle}
use Rattle.jj_dag.specs.Graph.{Graph}
use Rattle.jj_program.specs.ListedGraphs.{Represents, named_by, numbered_by}
use Rattle.jj_program.specs.Parts.{id_of}
use Rattle.jj_program.proofs.ListedGraphs.{common_shown, common_within, ids_ascend}
use Rattle.jj_program.proofs.listed_graph.ListedGraph.closest_common_nodes.Goals as goal

pub ids_of-requires : goal.ids_of-requires
ids_of-requires c =
    let listed = c.args.self.now in
    let first = c.in_ok-first.first.items in
    let second = c.in_ok-second.second.items in
    let common = c.in_ok-common.common.items in
    let none : HasNoCommonCycle (numbered_by listed) c.deref.result.now c.deref-2.result.now = λ a is cycle. c.requires.acyclic (a, cycle) in
    let found = subst (λ (l : List ℕ). AreClosestCommon (numbered_by listed) first l common) c.deref-2.ensures.value
    (subst (λ (l : List ℕ). AreClosestCommon (numbered_by listed) l c.deref-2.result.now common) c.deref.ensures.value (c.in_ok-common.ensures.closest none)) in
    subst (All (λ number. number < length (named_by listed))) (sym c.deref-3.ensures.value)
    (common_within listed first second common c.args.set1.now c.in_ok-first.ensures c.requires.named found)

pub returns-clause-closest : goal.returns-clause-closest
returns-clause-closest c =
    let listed = c.args.self.now in
    let first = c.in_ok-first.first.items in
    let second = c.in_ok-second.second.items in
    let common = c.in_ok-common.common.items in
    let name = id_of (named_by listed) in
    let none : HasNoCommonCycle (numbered_by listed) c.deref.result.now c.deref-2.result.now = λ a is cycle. c.requires.acyclic (a, cycle) in
    let found = subst (λ (l : List ℕ). AreClosestCommon (numbered_by listed) first l common) c.deref-2.ensures.value
    (subst (λ (l : List ℕ). AreClosestCommon (numbered_by listed) l c.deref-2.result.now common) c.deref.ensures.value (c.in_ok-common.ensures.closest none)) in
    IfOk-weaker c.ids_of.result (λ ids. ids.items ≡ map name c.deref-3.result.now)
    (λ ids. (shown : Graph) → Represents listed shown → AreClosestCommon shown c.args.set1.now c.args.set2.now ids.items)
    (λ ids named shown is_shown.
    subst (λ (l : List ℕ). AreClosestCommon shown c.args.set1.now c.args.set2.now l) (sym (named ∙ ap (map name) c.deref-3.ensures.value))
    (common_shown listed shown is_shown first second common c.args.set1.now c.args.set2.now c.in_ok-first.ensures c.in_ok-second.ensures c.requires.named c.requires.named_second found))
    c.ids_of.ensures

pub returns-clause-ascending : goal.returns-clause-ascending
returns-clause-ascending c =
    let listed = c.args.self.now in
    let common = c.in_ok-common.common.items in
    let name = id_of (named_by listed) in
    let none : HasNoCommonCycle (numbered_by listed) c.deref.result.now c.deref-2.result.now = λ a is cycle. c.requires.acyclic (a, cycle) in
    IfOk-weaker c.ids_of.result (λ ids. ids.items ≡ map name c.deref-3.result.now) (λ ids. IsStrictlyIncreasing ids.items)
    (λ ids named. subst IsStrictlyIncreasing (sym (named ∙ ap (map name) c.deref-3.ensures.value)) (ids_ascend listed common (c.in_ok-common.ensures.ascending none)))
    c.ids_of.ensures
