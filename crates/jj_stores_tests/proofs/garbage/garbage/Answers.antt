use Rattle.std.proofs.Common.{◌≡◌, ◌++◌, ◌∷◌, [], ◌∙◌, ℕ, List, Bool, Bor, map, ap, sym, subst}
use Rattle.std.proofs.lemmas.List.{append-nil, append_assoc, map-append}
use Rattle.std.proofs.lemmas.Map.Iter.{rest_more}
use Rattle.jj_stores_tests.specs.MemoryStores.{by_id, is_kept}
use Rattle.jj_stores_tests.proofs.Sweeping.{Swept, all_swept, swept_kept, swept_more}
use Rattle.jj_stores_tests.proofs.garbage.garbage.Goals as goal

pub loop-id-preserved-in_ok-push : goal.loop-id-preserved-in_ok-push
loop-id-preserved-in_ok-push g c =
    let key = λ (k : Bor (List ℕ)). k.now in
    let x : List ℕ = c.in-Some.id.now in
    let left = rest_more key c.loop-id.id-iterator c.next.new.self c.next.result c.in-Some.id c.in-Some.is c.next.ensures.steps in
    let done : List (List ℕ) = map key c.loop-id.yielded in
    let more : map key (c.loop-id.yielded ++ c.in-Some.id ∷ []) ≡ done ++ x ∷ [] = map-append key c.loop-id.yielded (c.in-Some.id ∷ []) in
    let kept : List ℕ → Bool = is_kept c.args.marked.now (by_id c.args.times.now.entries) c.args.keep_newer in
    let pushed : c.push.new.self.items ≡ c.loop-id.ids.items ++ x ∷ [] = c.in_ok-push.ensures.items ∙ ap (λ v. c.loop-id.ids.items ++ v ∷ []) c.in_ok-clone.ensures.cases in
    record {
      can = tt;
      ends = tt;
      left = ap (λ (z : List (List ℕ)). z ++ c.next.new.self) more ∙ append_assoc done (x ∷ []) c.next.new.self ∙ ap (λ (z : List (List ℕ)). done ++ z) (sym left) ∙ c.loop-id.invariant.left;
      swept = subst (λ d. Swept kept d c.push.new.self.items) (sym more)
          (subst (λ l. Swept kept (done ++ x ∷ []) l) (sym pushed) (swept_more kept done c.loop-id.ids.items x (sym c.is_kept.ensures ∙ c.if-not-is_kept.true) c.loop-id.invariant.swept));
    }

pub loop-id-preserved : goal.loop-id-preserved
loop-id-preserved g c =
    let key = λ (k : Bor (List ℕ)). k.now in
    let x : List ℕ = c.in-Some.id.now in
    let left = rest_more key c.loop-id.id-iterator c.next.new.self c.next.result c.in-Some.id c.in-Some.is c.next.ensures.steps in
    let done : List (List ℕ) = map key c.loop-id.yielded in
    let more : map key (c.loop-id.yielded ++ c.in-Some.id ∷ []) ≡ done ++ x ∷ [] = map-append key c.loop-id.yielded (c.in-Some.id ∷ []) in
    let kept : List ℕ → Bool = is_kept c.args.marked.now (by_id c.args.times.now.entries) c.args.keep_newer in
    record {
      can = tt;
      ends = tt;
      left = ap (λ (z : List (List ℕ)). z ++ c.next.new.self) more ∙ append_assoc done (x ∷ []) c.next.new.self ∙ ap (λ (z : List (List ℕ)). done ++ z) (sym left) ∙ c.loop-id.invariant.left;
      swept = subst (λ d. Swept kept d c.loop-id.ids.items) (sym more) (swept_kept kept done c.loop-id.ids.items x (sym c.is_kept.ensures ∙ c.if-not-is_kept.false) c.loop-id.invariant.swept);
    }

pub returns : goal.returns
returns g c =
    let done : List (List ℕ) = map (λ (k : Bor (List ℕ)). k.now) c.loop-id.yielded in
    let kept : List ℕ → Bool = is_kept c.args.marked.now (by_id c.args.times.now.entries) c.args.keep_newer in
    all_swept kept c.args.objects.now.entries done c.loop-id.ids.items
    (sym (append-nil done) ∙ ap (λ (z : List (List ℕ)). done ++ z) (sym c.in-None.ensures.steps.0) ∙ c.loop-id.invariant.left) c.loop-id.invariant.swept
