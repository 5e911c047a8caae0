use Rattle.std.proofs.Common.{◌≡◌, ◌<◌, ◌∙◌, All, ap, length, map, refl, subst, sym, true≢false}
use Rattle.std.specs.HashMap.{get}
use Rattle.std.specs.List.{Contains}
use Rattle.std.specs.Str.{bytes_eq}
use Rattle.jj_commit_graph.specs.CommitGraphs.{HasCommits}
use Rattle.jj_commit_graph.specs.Numberings.{id_at}
use Rattle.jj_commit_graph.proofs.Histories.{at_none, at_some, heads_found, heads_shown, heads_within}
use Rattle.jj_commit_graph.proofs.Numberings.{all_known}
use Rattle.jj_commit_graph.proofs.commit_graph.CommitGraph.heads.Goals as goal

pub returns-in_default-clause-found : goal.returns-in_default-clause-found
returns-in_default-clause-found c = (
  (λ no. absurd (true≢false (sym no))),
  λ all. absurd (at_none c.in_default.is c.in_ok-numbers.ensures.known (subst (λ graph. All (Contains graph.ids) c.args.ids.now) (sym c.self.view_is) all)),
)

pub ids_of-requires : goal.ids_of-requires
ids_of-requires c =
    let names = c.self.inside.numbering.ids.items in
    let edges = c.self.invariant.edges in
    let starts = c.in-Some.numbers.items in
    let heads = c.in_ok-heads.heads.items in
    let within = at_some (λ v. All (λ number. number < length names) v.items) c.in-Some.is c.in_ok-numbers.ensures.within in
    let found = heads_found names c.self.inside.parents edges starts _ heads c.deref.ensures.value c.in_ok-heads.ensures.maximal in
    subst (All (λ number. number < length names)) (sym c.deref-2.ensures.value) (heads_within names c.self.inside.parents edges starts heads within found)

pub returns-clause-found : goal.returns-clause-found
returns-clause-found c =
    let names = c.self.inside.numbering.ids.items in
    let given = c.args.ids.now in
    let within = at_some (λ v. All (λ number. number < length names) v.items) c.in-Some.is c.in_ok-numbers.ensures.within in
    let named = at_some (λ v. map (id_at names) v.items ≡ given) c.in-Some.is c.in_ok-numbers.ensures.named in (
      (λ yes. subst (λ graph. All (Contains graph.ids) given) c.self.view_is (all_known names given c.in-Some.numbers.items named within)),
      λ all. refl,
    )

pub returns-clause-heads : goal.returns-clause-heads
returns-clause-heads c = λ parents has.
    let names = c.self.inside.numbering.ids.items in
    let lists = c.self.inside.parents in
    let edges = c.self.invariant.edges in
    let given = c.args.ids.now in
    let starts = c.in-Some.numbers.items in
    let heads = c.in_ok-heads.heads.items in
    let within = at_some (λ v. All (λ number. number < length names) v.items) c.in-Some.is c.in_ok-numbers.ensures.within in
    let named = at_some (λ v. map (id_at names) v.items ≡ given) c.in-Some.is c.in_ok-numbers.ensures.named in
    let found = heads_found names lists edges starts _ heads c.deref.ensures.value c.in_ok-heads.ensures.maximal in
    heads_shown names lists edges (get bytes_eq c.self.inside.numbering.number_of) c.self.invariant.numbered parents (subst (λ graph. HasCommits graph parents) (sym c.self.view_is) has) starts heads given c.in_ok-ids.ids.items
    named (c.in_ok-ids.ensures ∙ ap (map (id_at names)) c.deref-2.ensures.value) within found
