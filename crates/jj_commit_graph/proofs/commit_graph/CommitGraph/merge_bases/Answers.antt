use Rattle.std.proofs.Common.{◌≡◌, ◌<◌, ◌∙◌, All, ap, length, map, refl, subst, sym, true≢false}
use Rattle.std.specs.HashMap.{get}
use Rattle.std.specs.List.{Contains}
use Rattle.std.specs.Str.{bytes_eq}
use Rattle.jj_commit_graph.specs.CommitGraphs.{HasCommits}
use Rattle.jj_commit_graph.specs.Numberings.{id_at}
use Rattle.jj_commit_graph.proofs.Histories.{at_none, at_some, closest_found, closest_shown, closest_within}
use Rattle.jj_commit_graph.proofs.Numberings.{all_known}
use Rattle.jj_commit_graph.proofs.commit_graph.CommitGraph.merge_bases.Goals as goal

pub returns-in_default-clause-found : goal.returns-in_default-clause-found
returns-in_default-clause-found c = (
  (λ no. absurd (true≢false (sym no))),
  λ all. absurd (at_none c.in_default.is c.in_ok-numbers1.ensures.known (subst (λ graph. All (Contains graph.ids) c.args.set1.now) (sym c.self.view_is) all.0)),
)

pub returns-in_default-2-clause-found : goal.returns-in_default-2-clause-found
returns-in_default-2-clause-found c = (
  (λ no. absurd (true≢false (sym no))),
  λ all. absurd (at_none c.in_default-2.is c.in_ok-numbers2.ensures.known (subst (λ graph. All (Contains graph.ids) c.args.set2.now) (sym c.self.view_is) all.1)),
)

pub ids_of-requires : goal.ids_of-requires
ids_of-requires c =
    let names = c.self.inside.numbering.ids.items in
    let edges = c.self.invariant.edges in
    let first = c.in-Some.numbers1.items in
    let second = c.in-Some-2.numbers2.items in
    let closest = c.in_ok-bases.bases.items in
    let within = at_some (λ v. All (λ number. number < length names) v.items) c.in-Some.is c.in_ok-numbers1.ensures.within in
    let found = closest_found names c.self.inside.parents edges first second _ _ closest c.deref.ensures.value c.deref-2.ensures.value c.in_ok-bases.ensures.closest in
    subst (All (λ number. number < length names)) (sym c.deref-3.ensures.value) (closest_within names c.self.inside.parents edges first second closest within found)

pub returns-clause-found : goal.returns-clause-found
returns-clause-found c =
    let names = c.self.inside.numbering.ids.items in
    let set1 = c.args.set1.now in
    let set2 = c.args.set2.now in
    let within1 = at_some (λ v. All (λ number. number < length names) v.items) c.in-Some.is c.in_ok-numbers1.ensures.within in
    let within2 = at_some (λ v. All (λ number. number < length names) v.items) c.in-Some-2.is c.in_ok-numbers2.ensures.within in
    let named1 = at_some (λ v. map (id_at names) v.items ≡ set1) c.in-Some.is c.in_ok-numbers1.ensures.named in
    let named2 = at_some (λ v. map (id_at names) v.items ≡ set2) c.in-Some-2.is c.in_ok-numbers2.ensures.named in (
      (λ yes. (
        subst (λ graph. All (Contains graph.ids) set1) c.self.view_is (all_known names set1 c.in-Some.numbers1.items named1 within1),
        subst (λ graph. All (Contains graph.ids) set2) c.self.view_is (all_known names set2 c.in-Some-2.numbers2.items named2 within2),
      )),
      λ all. refl,
    )

pub returns-clause-bases : goal.returns-clause-bases
returns-clause-bases c = λ parents has.
    let names = c.self.inside.numbering.ids.items in
    let lists = c.self.inside.parents in
    let edges = c.self.invariant.edges in
    let set1 = c.args.set1.now in
    let set2 = c.args.set2.now in
    let first = c.in-Some.numbers1.items in
    let second = c.in-Some-2.numbers2.items in
    let closest = c.in_ok-bases.bases.items in
    let within1 = at_some (λ v. All (λ number. number < length names) v.items) c.in-Some.is c.in_ok-numbers1.ensures.within in
    let within2 = at_some (λ v. All (λ number. number < length names) v.items) c.in-Some-2.is c.in_ok-numbers2.ensures.within in
    let named1 = at_some (λ v. map (id_at names) v.items ≡ set1) c.in-Some.is c.in_ok-numbers1.ensures.named in
    let named2 = at_some (λ v. map (id_at names) v.items ≡ set2) c.in-Some-2.is c.in_ok-numbers2.ensures.named in
    let found = closest_found names lists edges first second _ _ closest c.deref.ensures.value c.deref-2.ensures.value c.in_ok-bases.ensures.closest in
    closest_shown names lists edges (get bytes_eq c.self.inside.numbering.number_of) c.self.invariant.numbered parents (subst (λ graph. HasCommits graph parents) (sym c.self.view_is) has) first second closest set1 set2 c.in_ok-ids.ids.items
    named1 named2 (c.in_ok-ids.ensures ∙ ap (map (id_at names)) c.deref-3.ensures.value) within1 within2 found
