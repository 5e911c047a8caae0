use Rattle.std.proofs.Common.{◌≡◌, ◌+◌, ◌∷◌, ◌++◌, [], take, map, arith, sym, subst, ap, ◌∙◌}
use Rattle.std.specs.Prelude.{All}
use Rattle.std.proofs.lemmas.List.{take_more, map-append}
use Rattle.std.proofs.lemmas.List.Elements.{All-push}
use Rattle.jj_store_walks.specs.ReadCommits.{IsStored, id_of}
use Rattle.jj_store_walks.proofs.read_commit.read_all.Goals as goal

pub loop-id-preserved : goal.loop-id-preserved
loop-id-preserved g c =
    let ids = c.args.ids.now in
    let i = c.loop-id.id-index in
    let x = c.id-item.result in
    let commit = c.in_ok-commit.commit in
    let before = c.loop-id.commits.items in
    let more : take (i + 1) ids ≡ take i ids ++ x ∷ [] =
    take_more ids i x (omega arith) ∙ ap (λ y. take i ids ++ y ∷ []) (sym c.id-item.is) in
    let pushed : map id_of c.push.new.self.items ≡ map id_of before ++ id_of commit ∷ [] =
    ap (map id_of) c.in_ok-push.ensures.items ∙ map-append id_of before (commit ∷ []) in
    record {
      ids = pushed ∙ ap (λ l. l ++ id_of commit ∷ []) c.loop-id.invariant.ids ∙ ap (λ y. take i ids ++ y ∷ []) c.in_ok-commit.ensures.id ∙ sym more;
      stored = subst (All (IsStored (g.B.Backend.objects c.args.store.now))) (sym c.in_ok-push.ensures.items)
          (All-push (IsStored (g.B.Backend.objects c.args.store.now)) before commit c.loop-id.invariant.stored c.in_ok-commit.ensures.stored);
    }
