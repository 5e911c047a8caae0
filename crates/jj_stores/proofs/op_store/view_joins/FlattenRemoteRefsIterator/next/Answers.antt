use Rattle.std.proofs.Common.{◌∙◌, ◌∷◌, ℕ, List, None, sym, ap₂, subst}
use Rattle.std.specs.Option.{option_copied}
use Rattle.jj_stores.specs.ViewJoins.{IsLeast, IsFirstOfRemotes}
use Rattle.std.specs.List.{All}
use Rattle.jj_ids.specs.Names.{name_bytes}
use Rattle.jj_stores.specs.declared.op_store.ref_target.RemoteRef.{RemoteRef}
use Rattle.jj_stores.specs.FlatRefs.{YieldsRef, IsFlattened, RemovesRef}
use Rattle.jj_stores.proofs.FlatSteps.{no_refs, flat_first}
use Rattle.jj_stores.proofs.op_store.view_joins.FlattenRemoteRefsIterator.next.Goals as goal

pub returns-in_err-name-clause-steps : goal.returns-in_err-name-clause-steps
returns-in_err-name-clause-steps c =
    let left = c.args.self.now in
    let first = subst (λ f. IsFirstOfRemotes c.self.inside.remotes (option_copied f)) c.in_err-name.was c.first_name.ensures in
    let none = no_refs left (subst (λ v. IsFirstOfRemotes v None) c.self.view_is first) in
    subst (λ r. YieldsRef left r left) (sym c.from_residual.ensures) (none, none)

pub returns-clause-steps : goal.returns-clause-steps
returns-clause-steps c =
    let name = c.in_ok-name.name.now in
    let found : List ℕ × RemoteRef = (name_bytes c.in_ok-remote.remote, c.in_ok-remote.target.now) in
    let first = subst (λ f. IsFirstOfRemotes c.self.inside.remotes (option_copied f)) c.in_ok-name.was c.first_name.ensures in
    let least = subst (λ v. All (λ r. IsLeast name r.1) v) c.self.view_is first.2 in
    let shown : List ℕ → List ℕ → (List ℕ × List ℕ) × RemoteRef = λ n r. ((n, r), c.in_ok-remote.target.now) in
    let symbol = ap₂ shown (c.to_remote_symbol.ensures.name ∙ c.as_name.ensures) c.to_remote_symbol.ensures.remote in
    λ refs flat. subst (λ item. IsFlattened c.args.self.now (item ∷ refs)) (sym symbol)
    (flat_first name c.args.self.now found c.take_ref.new.self least
    (subst (λ v. RemovesRef name v found c.take_ref.new.self) c.self.view_is c.in_ok-remote.ensures)
    refs flat)
