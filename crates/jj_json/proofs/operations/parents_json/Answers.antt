use Rattle.std.proofs.Common.{◌≡◌, ℕ, List, ◌+◌, ◌∷◌, ◌++◌, [], take, map, arith, sym, ap, ap₂, ◌∙◌, rules, String as Text, Global, string_bytes}
use Rattle.std.proofs.lemmas.List.{take_more, take_all, map-append}
use Rattle.serde_json.specs.Data.{Data, string, array}
use Rattle.serde_json.specs.View.{view, items_of}
use Rattle.serde_json.proofs.Views.{view-Array}
use Rattle.serde_json.specs.declared.value.Value.{String, the_lemmas}
use Rattle.jj_content.specs.Hex.{hex}
use Rattle.jj_json.proofs.operations.parents_json.Goals as goal

abbrev hex_json : List ℕ → Data
hex_json id = string (hex id)

abbrev append_value : List Data → Data → List Data
append_value values value = values ++ value ∷ []

view-String : (text : Text Global) → view (String text) ≡ string (string_bytes text)
view-String text = search (rules, the_lemmas)

pub loop-parent-preserved : goal.loop-parent-preserved
loop-parent-preserved c =
    let ids = c.args.parents.now in
    let i = c.loop-parent.parent-index in
    let x = c.parent-item.result in
    let text = c.in_ok-hex.field-0 in
    let before = c.loop-parent.strings.items in
    let shown : view (String text) ≡ hex_json x = view-String text ∙ ap string c.in_ok-hex.ensures in
    let pushed : map view c.push.new.self.items ≡ map view before ++ view (String text) ∷ [] =
    ap (map view) c.in_ok-push.ensures.items ∙ map-append view before (String text ∷ []) in
    let more : take (i + 1) ids ≡ take i ids ++ x ∷ [] =
    take_more ids i x (omega arith) ∙ ap (λ y. take i ids ++ y ∷ []) (sym c.parent-item.is) in
    let mapped : map hex_json (take (i + 1) ids) ≡ map hex_json (take i ids) ++ hex_json x ∷ [] =
    ap (map hex_json) more ∙ map-append hex_json (take i ids) (x ∷ []) in
    pushed ∙ ap₂ append_value c.loop-parent.invariant shown ∙ sym mapped

pub returns : goal.returns
returns c =
    let ids = c.args.parents.now in
    let all : map hex_json (take c.loop-parent.parent-index ids) ≡ map hex_json ids =
    ap (map hex_json) (take_all c.loop-parent.parent-index ids (omega arith)) in
    view-Array c.loop-parent.strings
    ∙ ap (λ values. array (items_of values)) (c.loop-parent.invariant ∙ all)
