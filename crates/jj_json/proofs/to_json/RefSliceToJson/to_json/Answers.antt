use Rattle.std.proofs.Common.{◌≡◌, All, ◌+◌, ◌∷◌, ◌++◌, [], take, map, arith, sym, ap, ◌∙◌, subst}
use Rattle.std.specs.List.{AllZip}
use Rattle.std.proofs.lemmas.List.{take_more, take_all, map-append}
use Rattle.std.proofs.lemmas.List.Elements.{All-more}
use Rattle.std.proofs.lemmas.Slice.Zip.{all_zipped_more}
use Rattle.serde_json.specs.View.{view}
use Rattle.serde_json.proofs.Views.{view-Array}
use Rattle.jj_json.proofs.to_json.RefSliceToJson.to_json.Goals as goal

pub loop-item-preserved : goal.loop-item-preserved
loop-item-preserved g c =
    let items = c.args.self.now.now in
    let i = c.loop-item.item-index in
    let x = c.item-item.result in
    let value = c.in_ok-to_json.field-0 in
    let one = all_zipped_more g.T.ToJson.is_json (take i items) (map view c.loop-item.values.items) x (view value) c.loop-item.invariant.made c.in_ok-to_json.ensures.1 in
    let more : take (i + 1) items ≡ take i items ++ x ∷ [] = take_more items i x (omega arith) ∙ ap (λ y. take i items ++ y ∷ []) (sym c.item-item.is) in
    let pushed : map view c.push.new.self.items ≡ map view c.loop-item.values.items ++ view value ∷ [] =
    ap (map view) c.in_ok-push.ensures.items ∙ map-append view c.loop-item.values.items (value ∷ []) in
    record {
      in_range = All-more g.T.ToJson.is_in_range items i x (omega arith) c.loop-item.invariant.in_range (subst g.T.ToJson.is_in_range c.item-item.is c.in_ok-to_json.ensures.0);
      made = subst (λ ys. AllZip g.T.ToJson.is_json ys (map view c.push.new.self.items)) (sym more) (subst (AllZip g.T.ToJson.is_json (take i items ++ x ∷ [])) (sym pushed) one);
    }

pub returns : goal.returns
returns g c =
    let items = c.args.self.now.now in
    let whole = take_all c.loop-item.item-index items (omega arith) in (
      subst (All g.T.ToJson.is_in_range) whole c.loop-item.invariant.in_range,
      (map view c.loop-item.values.items, subst (λ ys. AllZip g.T.ToJson.is_json ys (map view c.loop-item.values.items)) whole c.loop-item.invariant.made, view-Array c.loop-item.values),
    )
