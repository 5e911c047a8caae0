use Rattle.std.proofs.Common.{◌≡◌, ◌∙◌, None, Some, refl, ap, sym, subst, arith}
use Rattle.std.specs.List.{slice_get}
use Rattle.std.specs.Map.{keys_of}
use Rattle.std.specs.Option.{option_copied}
use Rattle.jj_ids.specs.Names.{name_bytes}
use Rattle.jj_stores.specs.FirstNameHeap.{name_and_index}
use Rattle.jj_stores.specs.ViewJoins.{IsFirstOfRemotes}
use Rattle.jj_stores.proofs.FirstNameHeap.{no_firsts, top_stands, top_earliest, first_of_remotes}
use Rattle.jj_stores.proofs.op_store.remaining_remotes.RemainingRemotes.first_name.Goals as goal

pub returns-in_err-remote_index : goal.returns-in_err-remote_index
returns-in_err-remote_index c =
    let remotes = c.self.inside.remotes.items in
    let none = no_firsts name_and_index remotes _ c.self.invariant.0 (omega (arith, c.in_err-remote_index.ensures.item.3)) in
    subst (λ r. IsFirstOfRemotes c.args.self.now (option_copied r)) (sym c.from_residual.ensures)
    (subst (λ v. IsFirstOfRemotes v None) c.self.view_is (refl, none))

pub index-requires : goal.index-requires
index-requires c = let below = (top_stands name_and_index c.self.inside.remotes.items _ c.self.invariant.0 c.in_ok-remote_index.field-0.now
    c.in_ok-remote_index.ensures.item.3.0 c.in_ok-remote_index.ensures.lookup).0 in omega (arith, below, c.self.inside.remotes.ok)

pub returns : goal.returns
returns c =
    let remotes = c.self.inside.remotes.items in
    let top = c.in_ok-remote_index.field-0.now in
    let stands = top_stands name_and_index remotes _ c.self.invariant.0 top c.in_ok-remote_index.ensures.item.3.0 c.in_ok-remote_index.ensures.lookup in
    let earliest = top_earliest name_and_index remotes _ c.self.invariant.0 top (c.in_ok-remote_index.ensures.greatest c.self.invariant.1) in
    let first = first_of_remotes (name_bytes top.0.0) top.0.1 remotes c.index.result.now stands earliest in
    let same : Some (name_bytes top.0.0) ≡ option_copied c.first_name.result =
    stands.1 c.index.result.now ∙ ap (λ r. slice_get (keys_of r.1) 0) (sym c.index.ensures) ∙ sym c.first_name.ensures.first in
    subst (λ v. IsFirstOfRemotes v (option_copied c.first_name.result)) c.self.view_is (subst (IsFirstOfRemotes remotes) same first)
