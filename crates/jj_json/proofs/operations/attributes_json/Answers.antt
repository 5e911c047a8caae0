use Rattle.std.proofs.Common.{◌≡◌, ◌∙◌, ap, ap₂, sym, rules, Bor, String as Text, Global, string_bytes}
use Rattle.std.specs.Prelude.{fold}
use Rattle.std.specs.Map.Iter.{deref_pair}
use Rattle.std.proofs.lemmas.Map.Iter.{rest_more}
use Rattle.serde_json.specs.Data.{Members, string, put}
use Rattle.serde_json.specs.View.{view, members_view}
use Rattle.serde_json.specs.declared.value.Value.{String, the_lemmas}
use Rattle.jj_json.specs.Operations.{with_attribute}
use Rattle.jj_json.proofs.operations.attributes_json.Goals as goal

view-String : (text : Text Global) → view (String text) ≡ string (string_bytes text)
view-String text = search (rules, the_lemmas)

pub loop-name-preserved : goal.loop-name-preserved
loop-name-preserved c =
    let x : Bor (Text Global) × Bor (Text Global) = (c.in-Some.name, c.in-Some.value) in
    let e : Text Global × Text Global = deref_pair x in
    let rest = c.next.new.self in
    let left = rest_more deref_pair c.loop-name.name-iterator rest c.next.result x c.in-Some.is
    c.next.ensures.steps in
    let before : Members = members_view c.loop-name.members.entries in
    let shown : view (String c.in_ok-clone.field-0) ≡ string (string_bytes e.1) =
    view-String c.in_ok-clone.field-0 ∙ ap string c.in_ok-clone.ensures.cases in
    let added : members_view c.put.new.map.entries ≡ with_attribute before e =
    c.in_ok-put.ensures.ok ∙ ap₂ (λ key d. put key d before) c.as_str.ensures.value shown in
    record {
      can = tt;
      ends = tt;
      whole = ap (λ members. fold with_attribute members rest) added
          ∙ sym (ap (fold with_attribute before) left)
          ∙ c.loop-name.invariant.whole;
    }
