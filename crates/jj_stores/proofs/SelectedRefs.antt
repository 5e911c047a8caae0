-- The refs that a closure selects of each remote, if it is a function of the view.
use Rattle.std.proofs.Common.{◌≡◌, ℕ, List, [], ◌∷◌, map, refl, ap, ap₂, ◌∙◌, Bor}
use Rattle.std.specs.BTreeMap.{BTreeMap}
use Rattle.std.specs.Fn.{CalledAt}
use Rattle.jj_merges.specs.Calls.{CallsReturn}
use Rattle.jj_stores.specs.ViewJoins.{Named}
use Rattle.jj_stores.specs.JoinRows.{SelectsRefs}
use Rattle.jj_stores.specs.declared.op_store.ref_target.RemoteRef.{RemoteRef}
use Rattle.jj_stores.specs.declared.op_store.view.RemoteView.{RemoteView}
use denote.Param.Members.{Mut}

module _ {F : Type 0} (closure : Mut F (Bor RemoteView × Unit {0}) (Bor (BTreeMap (List ℕ) RemoteRef)))
    (refs_of : RemoteView → Named RemoteRef)
    (shows : (f : F) (view : RemoteView) (refs : Bor (BTreeMap (List ℕ) RemoteRef)) (next : F)
    → CalledAt closure f view refs next → refs.now.entries ≡ refs_of view) where
  pub remotes_shown : (f : F) (views : Named RemoteView) (remotes : Named (Named RemoteRef)) (last : F)
      → CallsReturn (SelectsRefs closure) f views remotes last
      → remotes ≡ map (λ view. (view.0, refs_of view.1)) views
  remotes_shown f [] [] last h = refl
  remotes_shown f [] (r ∷ rs) last h = absurd h
  remotes_shown f (v ∷ vs) [] last h = absurd h
  remotes_shown f (v ∷ vs) (r ∷ rs) last h =
      let at : Named RemoteRef → List ℕ × Named RemoteRef = λ refs. (v.0, refs) in
      let cons : List ℕ × Named RemoteRef → Named (Named RemoteRef) → Named (Named RemoteRef) = λ x xs. x ∷ xs in
      ap₂ cons (h.1.2 ∙ ap at (shows f v.1 h.1.0 h.0 h.1.1)) (remotes_shown h.0 vs rs last h.2)
