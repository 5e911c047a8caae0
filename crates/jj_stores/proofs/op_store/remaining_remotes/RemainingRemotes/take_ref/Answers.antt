use Rattle.std.proofs.Common.{◌≡◌, ◌∙◌, ◌<◌, None, Some, [], length, map, take, get_or, true, not, refl, ap, sym, subst, arith}
use Rattle.std.specs.BinaryHeap.{heap_items}
use Rattle.std.specs.List.{All}
use Rattle.std.specs.Map.{lookup}
use Rattle.std.specs.Option.{option_copied, option_map}
use Rattle.std.specs.Str.{bytes_eq}
use Rattle.std.proofs.lemmas.List.Elements.{All-get_or}
use Rattle.jj_ids.specs.Names.{name_bytes}
use Rattle.jj_stores.specs.FirstNameHeap.{first_name_at, name_and_index}
use Rattle.jj_stores.specs.ViewJoins.{IsAscending, IsLeast, RemovesAt, remotes_with}
use Rattle.jj_stores.specs.JoinRows.{ref_of}
use Rattle.jj_stores.proofs.FirstNameHeap.{no_firsts, top_stands, top_below, top_earliest, first_of_remotes, absent_name, named_top, never_missed, firsts_left, pushed, not_pushed}
use Rattle.jj_stores.proofs.FlatTaken.{ref_taken}
use Rattle.jj_stores.proofs.JoinSteps.{no_remotes}
use Rattle.jj_stores.proofs.op_store.remaining_remotes.RemainingRemotes.take_ref.Goals.{in-Some-first_name+in-Ok, in_default-first_name}
use Rattle.jj_stores.proofs.op_store.remaining_remotes.RemainingRemotes.take_ref.Goals as goal

pub returns-in_err-first : goal.returns-in_err-first
returns-in_err-first c =
    let none = no_firsts name_and_index c.self.inside.remotes.items _ c.self.invariant.0 (omega (arith, c.in_err-first.ensures.item.3)) in
    rw c.from_residual.ensures (ap (λ v. remotes_with v c.args.name.now) (sym c.self.view_is) ∙ no_remotes c.self.inside.remotes.items c.args.name.now none, refl, subst (All (λ r. IsAscending r.1)) c.self.view_is c.self.invariant.0.ascending)

pub returns-then-ne : goal.returns-then-ne
returns-then-ne c =
    let remotes = c.self.inside.remotes.items in
    let top = c.in_ok-first.field-0.now in
    let stands = top_stands name_and_index remotes _ c.self.invariant.0 top c.in_ok-first.ensures.item.3.0 c.in_ok-first.ensures.lookup in
    let earliest = top_earliest name_and_index remotes _ c.self.invariant.0 top (c.in_ok-first.ensures.greatest c.self.invariant.1) in
    let first = first_of_remotes (name_bytes top.0.0) top.0.1 remotes ([], []) stands earliest in
    let other = subst (λ n. true ≡ not (bytes_eq (name_bytes top.0.0) n)) c.as_name.ensures c.if-ne.ensures in (
      ap (λ v. remotes_with v c.args.name.now) (sym c.self.view_is)
          ∙ absent_name remotes (name_bytes top.0.0) c.args.name.now first (subst (λ v. All (λ r. IsLeast c.args.name.now r.1) v) (sym c.self.view_is) c.requires) other,
      refl,
      subst (All (λ r. IsAscending r.1)) c.self.view_is c.self.invariant.0.ascending,
    )

pub index_mut-requires : goal.index_mut-requires
index_mut-requires c =
    omega (arith, top_below name_and_index c.self.inside.remotes.items _ c.self.invariant.0 c.in_ok-remote_index.field-0 c.in_ok-first.ensures.item.3.0 c.in_ok-remote_index.ensures.top, c.self.inside.remotes.ok)

pub take_if_named-requires : goal.take_if_named-requires
take_if_named-requires c =
    let remotes = c.self.inside.remotes.items in
    let below = top_below name_and_index remotes _ c.self.invariant.0 c.in_ok-remote_index.field-0 c.in_ok-first.ensures.item.3.0 c.in_ok-remote_index.ensures.top in
    let least = subst (λ v. All (λ r. IsLeast c.args.name.now r.1) v) (sym c.self.view_is) c.requires in
    subst (λ r. IsLeast c.args.name.now r.1) (sym c.index_mut.ensures.value)
    (All-get_or (λ r. IsLeast c.args.name.now r.1) remotes c.in_ok-remote_index.field-0.0.1 c.index_mut.result.now below least)

pub index-requires : goal.index-requires
index-requires c =
    omega (arith, top_below name_and_index c.self.inside.remotes.items _ c.self.invariant.0 c.in_ok-remote_index.field-0 c.in_ok-first.ensures.item.3.0 c.in_ok-remote_index.ensures.top, c.self.inside.remotes.ok)

pub unreachable-requires : goal.unreachable-requires
unreachable-requires c =
    let named = named_top name_and_index c.self.inside.remotes.items _ c.self.invariant.0 c.in_ok-first.field-0.now c.in_ok-remote_index.field-0
    c.args.name.now (name_bytes c.as_name.result) c.in_ok-first.ensures.item.3.0 c.in_ok-first.ensures.lookup c.in_ok-remote_index.ensures.top
    c.as_name.ensures c.if-ne.ensures in
    never_missed c.args.name.now c.self.inside.remotes.items c.in_ok-remote_index.field-0.0.1 c.index_mut.result.now named.0 c.index_mut.ensures.value
    (sym (ap (option_map ref_of) c.in_default.is) ∙ c.take_if_named.ensures.found)

pub invariant_of-self-in-Ok : goal.invariant_of-self-in-Ok
invariant_of-self-in-Ok c =
    let top = c.in_ok-remote_index.field-0 in
    let remote_index = top.0.1 in
    let come : Some (name_bytes c.as_name-in-Some-first_name.result, remote_index) ≡ first_name_at remote_index c.index.result.now.1 =
    ap (λ n. Some (n, remote_index)) c.as_name-in-Some-first_name.ensures
    ∙ ap (option_map (λ n. (n, remote_index))) (sym (ap option_copied c.in-Some-first_name.is) ∙ c.first_name.ensures.first) in (
      firsts_left c.self.inside.remotes.items name_and_index _ _ top c.take_if_named.new.self c.index.result.now _ c.self.invariant.0 c.in_ok-first.ensures.item.3.0 c.in_ok-remote_index.ensures.top
          c.in_ok-remote_index.ensures.permutation c.index.ensures (pushed name_and_index _ _ _ c.in-Ok.ensures.permutation _ come) c.first_name.ensures.ascending,
      c.in-Ok.ensures.heap_order (c.in_ok-remote_index.ensures.heap_order c.self.invariant.1).0,
    )

pub invariant_of-self-in_default-first_name : goal.invariant_of-self-in_default-first_name
invariant_of-self-in_default-first_name c =
    let top = c.in_ok-remote_index.field-0 in
    let none : None ≡ first_name_at top.0.1 c.index.result.now.1 =
    ap (option_map (λ n. (n, top.0.1))) (sym (ap option_copied c.in_default-first_name.is) ∙ c.first_name.ensures.first) in (
      firsts_left c.self.inside.remotes.items name_and_index _ _ top c.take_if_named.new.self c.index.result.now _ c.self.invariant.0 c.in_ok-first.ensures.item.3.0 c.in_ok-remote_index.ensures.top
          c.in_ok-remote_index.ensures.permutation c.index.ensures (not_pushed _ none (map name_and_index (heap_items c.pop.new.self))) c.first_name.ensures.ascending,
      (c.in_ok-remote_index.ensures.heap_order c.self.invariant.1).0,
    )

pub returns : goal.returns
returns c =
    let remotes = c.self.inside.remotes.items in
    let old = c.args.self.now in
    let name = c.args.name.now in
    let top = c.in_ok-remote_index.field-0 in
    let remote_index = top.0.1 in
    let named = named_top name_and_index remotes _ c.self.invariant.0 c.in_ok-first.field-0.now top
    name (name_bytes c.as_name.result) c.in_ok-first.ensures.item.3.0 c.in_ok-first.ensures.lookup c.in_ok-remote_index.ensures.top
    c.as_name.ensures c.if-ne.ensures in
    let earliest = top_earliest name_and_index remotes _ c.self.invariant.0 top (c.in_ok-remote_index.ensures.heap_order c.self.invariant.1).1 in
    let none : remotes_with (take remote_index old) name ≡ [] = subst (λ v. remotes_with (take remote_index v) name ≡ []) c.self.view_is
    (subst (λ n. remotes_with (take remote_index remotes) n ≡ []) named.1 (earliest.1 remote_index (omega arith))) in
    let here : c.index_mut.result.now ≡ get_or remotes remote_index c.index_mut.result.now = c.index_mut.ensures.value in
    let taken = ref_taken name old remotes remote_index c.index_mut.result.now c.take_if_named.new.self (subst (λ v. remote_index < length v) c.self.view_is named.0.0)
    c.self.view_is none (subst (λ r. RemovesAt name r c.take_if_named.new.self) here c.take_if_named.ensures.left)
    (ref_of c.in-Some.found)
    (subst (λ r. Some (ref_of c.in-Some.found) ≡ option_map (λ v. (r.0, v)) (lookup (bytes_eq name) r.1)) here
    (sym (ap (option_map ref_of) c.in-Some.is) ∙ c.take_if_named.ensures.found)) in
    elim c.match-first_name.branch [
      | in-Some-first_name+in-Ok w ↦ rw w.self-is taken
      | in_default-first_name w ↦ rw w.self-is taken
    ]
