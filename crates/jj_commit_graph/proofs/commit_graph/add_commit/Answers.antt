use Rattle.std.proofs.Common.{◌≡◌, ◌++◌, ◌∷◌, ◌∙◌, [], All, ap, length, map, subst, sym}
use Rattle.std.specs.Prelude.{◌<◌}
use Rattle.std.proofs.lemmas.Result.{on_ok_weaker}
use Rattle.jj_dag.specs.PackedLists.{lists_of}
use Rattle.jj_commit_graph.specs.Numberings.{AreFallingEdges, id_at, named_lists}
use Rattle.jj_commit_graph.proofs.Histories.{at_some}
use Rattle.jj_commit_graph.proofs.Numberings.{edges_more, lists_more}
use Rattle.jj_commit_graph.proofs.commit_graph.add_commit.Goals as goal

pub returns-clause-edges : goal.returns-clause-edges
returns-clause-edges c =
    let names = c.args.numbering.now.ids.items in
    let lists = lists_of c.args.lists.now in
    let numbers = c.in-Some.numbers.items in
    let id = c.args.id.now in
    let within = at_some (λ v. All (λ number. number < length names) v.items) c.in-Some.is c.in_ok-numbers.ensures.within in
    let more = edges_more names lists c.requires.edges id numbers within in
    let grown : lists_of c.push_list.new.self ≡ lists ++ numbers ∷ [] = c.in_ok-push_list-in-Some.ensures.lists ∙ ap (λ l. lists ++ l ∷ []) c.deref.ensures.value in
    on_ok_weaker c.push.result
    (λ same. subst (AreFallingEdges c.push.new.self.ids.items) (sym grown) (subst (λ l. AreFallingEdges l (lists ++ numbers ∷ [])) (sym (same ∙ ap (λ i. names ++ i ∷ []) c.in_ok-clone.ensures.cases)) more)) c.push.ensures.ids

pub returns-clause-parents : goal.returns-clause-parents
returns-clause-parents c =
    let names = c.args.numbering.now.ids.items in
    let lists = lists_of c.args.lists.now in
    let numbers = c.in-Some.numbers.items in
    let id = c.args.id.now in
    let within = at_some (λ v. All (λ number. number < length names) v.items) c.in-Some.is c.in_ok-numbers.ensures.within in
    let named = at_some (λ v. map (id_at names) v.items ≡ c.args.parents.now) c.in-Some.is c.in_ok-numbers.ensures.named in
    let more = lists_more names lists c.requires.edges id numbers within c.args.parents.now named in
    let grown : lists_of c.push_list.new.self ≡ lists ++ numbers ∷ [] = c.in_ok-push_list-in-Some.ensures.lists ∙ ap (λ l. lists ++ l ∷ []) c.deref.ensures.value in
    on_ok_weaker c.push.result
    (λ same. ap (λ l. named_lists l (lists_of c.push_list.new.self)) (same ∙ ap (λ i. names ++ i ∷ []) c.in_ok-clone.ensures.cases) ∙ ap (named_lists (names ++ id ∷ [])) grown ∙ more) c.push.ensures.ids
