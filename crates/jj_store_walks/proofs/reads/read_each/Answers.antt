use Rattle.std.proofs.Common.{◌≡◌, ◌+◌, ◌∷◌, ◌++◌, [], List, ℕ, take, drop, Err, arith, sym, subst, ap, ◌∙◌}
use Rattle.std.proofs.lemmas.List.{append-nil, append_assoc, take_more, take-append-drop, take_all}
use Rattle.jj_backend.specs.declared.backend.errors.BackendError.TheVariants.{Memory}
use Rattle.jj_store_walks.specs.ReadResults.{AreReads, IsReadOf}
use Rattle.jj_store_walks.proofs.ReadResults.{all_read, cut_reads, one_read, zip_push}
use Rattle.jj_store_walks.proofs.reads.read_each.Goals as goal

pub returns-in-Err : goal.returns-in-Err
returns-in-Err g c =
    let may_fail = g.B.Backend.may_fail c.args.store.now in
    let objects = g.B.Backend.objects c.args.store.now in
    let ids = c.args.ids.now in
    let i = c.loop-id.id-index in
    let x = c.id-item.result in
    let more : take (i + 1) ids ≡ take i ids ++ x ∷ [] = take_more ids i x (omega arith) ∙ ap (λ y. take i ids ++ y ∷ []) (sym c.id-item.is) in
    let split : take i ids ++ x ∷ drop (i + 1) ids ≡ ids = sym (append_assoc (take i ids) (x ∷ []) (drop (i + 1) ids)) ∙ ap (λ l. l ++ drop (i + 1) ids) (sym more) ∙ take-append-drop (i + 1) ids in
    rw c.in-Err.ensures.items
    (subst (λ (l : List (List ℕ)). AreReads may_fail objects l (c.loop-id.results.items ++ Err Memory ∷ [])) split
    (cut_reads may_fail objects (take i ids) c.loop-id.results.items x (drop (i + 1) ids) c.loop-id.invariant.reads))

pub loop-id-preserved : goal.loop-id-preserved
loop-id-preserved g c =
    let may_fail = g.B.Backend.may_fail c.args.store.now in
    let objects = g.B.Backend.objects c.args.store.now in
    let ids = c.args.ids.now in
    let i = c.loop-id.id-index in
    let x = c.id-item.result in
    let more : take (i + 1) ids ≡ take i ids ++ x ∷ [] = take_more ids i x (omega arith) ∙ ap (λ y. take i ids ++ y ∷ []) (sym c.id-item.is) in
    record {
      reads = rw (more, c.in-Ok.ensures.items) (zip_push (IsReadOf may_fail objects) (take i ids) c.loop-id.results.items x c.read.result c.loop-id.invariant.reads
          (one_read may_fail objects x c.read.result c.read.ensures.stored c.read.ensures.id c.read.ensures.error));
    }

pub returns : goal.returns
returns g c =
    let may_fail = g.B.Backend.may_fail c.args.store.now in
    let objects = g.B.Backend.objects c.args.store.now in
    let ids = c.args.ids.now in
    let whole : take c.loop-id.id-index ids ≡ ids = take_all c.loop-id.id-index ids (omega arith) in
    let reads = rw whole at c.loop-id.invariant.reads in
    rw append-nil (all_read may_fail objects ids c.loop-id.results.items reads)
