use Rattle.std.proofs.Common.{◌≡◌, ◌∙◌, ◌<◌, All, List, ℕ, ap, length, map, subst, sym}
use Rattle.std.specs.List.Sorted.{IsStrictlyIncreasing}
use Rattle.std.proofs.lemmas.Result.{IfOk-weaker}
use Rattle.jj_dag.specs.Graph.{Graph, AreMaximalElements}
use Rattle.jj_dag.proofs.ArrayGraphs.{none_reached}
use Rattle.jj_program.specs.ListedGraphs.{Represents, named_by, numbered_by}
use Rattle.jj_program.specs.Parts.{id_of}
use Rattle.jj_program.proofs.ListedGraphs.{heads_shown, heads_within, ids_ascend}
use Rattle.jj_program.proofs.listed_graph.ListedGraph.heads.Goals as goal

pub ids_of-requires : goal.ids_of-requires
ids_of-requires c =
    let listed = c.args.self.now in
    let starts = c.in_ok-starts.starts.items in
    let heads = c.in_ok-heads.heads.items in
    let none = none_reached (numbered_by listed) c.deref.result.now c.requires.acyclic in
    let found = subst (λ (l : List ℕ). AreMaximalElements (numbered_by listed) l heads) c.deref.ensures.value (c.in_ok-heads.ensures.maximal none) in
    subst (All (λ number. number < length (named_by listed))) (sym c.deref-2.ensures.value) (heads_within listed starts heads c.args.ids.now c.in_ok-starts.ensures c.requires.named found)

pub returns-clause-maximal : goal.returns-clause-maximal
returns-clause-maximal c =
    let listed = c.args.self.now in
    let starts = c.in_ok-starts.starts.items in
    let heads = c.in_ok-heads.heads.items in
    let name = id_of (named_by listed) in
    let none = none_reached (numbered_by listed) c.deref.result.now c.requires.acyclic in
    let found = subst (λ (l : List ℕ). AreMaximalElements (numbered_by listed) l heads) c.deref.ensures.value (c.in_ok-heads.ensures.maximal none) in
    IfOk-weaker c.ids_of.result (λ ids. ids.items ≡ map name c.deref-2.result.now)
    (λ ids. (shown : Graph) → Represents listed shown → AreMaximalElements shown c.args.ids.now ids.items)
    (λ ids named shown is_shown.
    subst (λ (l : List ℕ). AreMaximalElements shown c.args.ids.now l) (sym (named ∙ ap (map name) c.deref-2.ensures.value))
    (heads_shown listed shown is_shown starts heads c.args.ids.now c.in_ok-starts.ensures c.requires.named found))
    c.ids_of.ensures

pub returns-clause-ascending : goal.returns-clause-ascending
returns-clause-ascending c =
    let listed = c.args.self.now in
    let heads = c.in_ok-heads.heads.items in
    let name = id_of (named_by listed) in
    let none = none_reached (numbered_by listed) c.deref.result.now c.requires.acyclic in
    IfOk-weaker c.ids_of.result (λ ids. ids.items ≡ map name c.deref-2.result.now) (λ ids. IsStrictlyIncreasing ids.items)
    (λ ids named. subst IsStrictlyIncreasing (sym (named ∙ ap (map name) c.deref-2.ensures.value)) (ids_ascend listed heads (c.in_ok-heads.ensures.ascending none)))
    c.ids_of.ensures
