use Rattle.std.proofs.Common.{◌≡◌, ◌∙◌, ap, map, subst, sym}
use Rattle.std.specs.Cmp.Lexicographic.{slice_cmp}
use Rattle.std.specs.Ordering.{nat_cmp}
use Rattle.std.specs.declared.cmp.Ordering.TheVariants.{Less}
use Rattle.jj_dag.specs.NodeGraph.{IsChildFirstOrder, IsGreatestChildFirstOrder}
use Rattle.jj_store_walks.specs.ReadCommits.{id_of}
use Rattle.jj_store_walks.proofs.HeadsFirst.{heads_first}
use Rattle.jj_store_walks.proofs.ids.history_ids.Goals as goal

pub returns-clause-order : goal.returns-clause-order
returns-clause-order g c = λ parents complete.
    let same = c.in_ok-ids_of.ensures ∙ ap (map id_of) c.deref.ensures.value in
    subst (IsChildFirstOrder parents c.args.ids.now) (sym same) (c.in_ok-commits.ensures.order parents complete).1

pub returns-clause-greatest : goal.returns-clause-greatest
returns-clause-greatest g c = λ parents complete prefix rest id head split is_head differ.
    let same = c.in_ok-ids_of.ensures ∙ ap (map id_of) c.deref.ensures.value in
    heads_first (λ a b. slice_cmp nat_cmp a b ≡ Less) parents c.args.ids.now _
    (subst (IsGreatestChildFirstOrder (λ a b. slice_cmp nat_cmp a b ≡ Less) parents c.args.ids.now) (sym same) (c.in_ok-commits.ensures.greatest parents complete))
    prefix rest id head split is_head differ
