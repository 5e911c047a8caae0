use Rattle.std.proofs.Common.{◌≡◌, ◌++◌, ◌∷◌, [], ◌∙◌, ℕ, List, map, ap, ap₂, sym, rules, of_calls, Bor}
use Rattle.std.specs.Map.Iter.{deref_pair}
use Rattle.std.proofs.lemmas.List.{map-append, append_assoc}
use Rattle.std.proofs.lemmas.Map.Iter.{rest_more}
use Rattle.jj_merges.proofs.CallLaws.{CallsReturn-push}
use Rattle.jj_stores.specs.declared.op_store.ref_target.RemoteRef.{RemoteRef}
use Rattle.jj_stores.specs.declared.op_store.view.RemoteView.{RemoteView}
use Rattle.jj_stores.specs.ViewJoins.{Named}
use Rattle.jj_stores.specs.JoinRows.{SelectsRefs}
use Rattle.jj_stores.proofs.op_store.remaining_remotes.select_refs.Goals as goal

pub loop-remote-preserved : goal.loop-remote-preserved
loop-remote-preserved g c =
    let x : Bor (List ℕ) × Bor RemoteView = (c.in-Some.remote, c.in-Some.view) in
    let before = c.loop-remote.invariant.callable in
    let left = rest_more deref_pair c.loop-remote.remote-iterator c.next.new.self c.next.result x c.in-Some.is c.next.ensures.steps in
    let done = map deref_pair c.loop-remote.yielded in
    let more : map deref_pair (c.loop-remote.yielded ++ x ∷ []) ≡ done ++ deref_pair x ∷ [] = map-append deref_pair c.loop-remote.yielded (x ∷ []) in
    let pair : List ℕ → Named RemoteRef → List ℕ × Named RemoteRef = λ name refs. (name, refs) in
    record {
      callable = search (of_calls, before);
      can = tt;
      ends = tt;
      left = ap (λ z. z ++ c.next.new.self) more ∙ append_assoc done (deref_pair x ∷ []) c.next.new.self
          ∙ ap (λ z. done ++ z) (sym left) ∙ c.loop-remote.invariant.left;
      shown = rw (more, c.in_ok-push.ensures.items) (CallsReturn-push (SelectsRefs g.F.FnMut) c.args.get_remote_refs done
          c.loop-remote.remotes.items c.loop-remote.get_remote_refs (deref_pair x) _ c.get_remote_refs.new.self
          c.loop-remote.invariant.shown
          (c.get_remote_refs.result, search rules, ap₂ pair c.as_name.ensures c.new-refs.ensures));
    }
