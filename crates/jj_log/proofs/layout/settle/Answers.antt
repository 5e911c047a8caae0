use Rattle.std.proofs.Common.{rules, ◌≡◌, ◌∙◌, ◌∷◌, ◌<◌, None, true, ℕ, List, get_or, length, subst, sym, ap}
use Rattle.std.specs.List.{Contains, remove}
use Rattle.jj_walks.specs.Grouped.{is_in_graph}
use Rattle.jj_log.specs.Columns.{Settles}
use Rattle.jj_log.proofs.Settling.{absent, found, present, settles_joined, settles_new}
use Rattle.jj_log.proofs.layout.settle.Goals as goal

pub returns-in-Some-index_of : goal.returns-in-Some-index_of
returns-in-Some-index_of c =
    let edge = c.args.edge.now in
    let old = c.args.right.now.items in
    let index = c.in-Some-index_of.index in
    let visible : is_in_graph edge.edge_type ≡ true = present edge.edge_type c.is_missing.result c.is_missing.ensures c.if-is_missing.false in
    let is_none : c.index_of.result ≡ None = search rules in
    let apart = absent c.args.left.now edge.target c.index_of.result is_none c.index_of.ensures in
    let both = found c.deref.result.now edge.target c.index_of-2.result index c.in-Some-index_of.is c.index_of-2.ensures in
    let less : index < length old = subst (λ (l : List ℕ). index < length l) c.deref.ensures.value both.0 in
    let is : get_or old index 0 ≡ edge.target = subst (λ (l : List ℕ). get_or l index 0 ≡ edge.target) c.deref.ensures.value both.1 in
    let whole : c.insert.new.self.items ≡ edge.target ∷ remove old index = c.in_ok-insert.ensures.items ∙ ap (λ l. edge.target ∷ l) c.remove-joined.ensures.items in
    subst (λ l. Settles c.args.left.now edge old l) (sym whole) (settles_joined c.args.left.now edge old visible apart index less is)

pub returns : goal.returns
returns c =
    let edge = c.args.edge.now in
    let old = c.args.right.now.items in
    let visible : is_in_graph edge.edge_type ≡ true = present edge.edge_type c.is_missing.result c.is_missing.ensures c.if-is_missing.false in
    let is_none : c.index_of.result ≡ None = search rules in
    let apart = absent c.args.left.now edge.target c.index_of.result is_none c.index_of.ensures in
    let no_index : c.index_of-2.result ≡ None = search rules in
    let new : Contains old edge.target → ⊥ = subst (λ (l : List ℕ). Contains l edge.target → ⊥) c.deref.ensures.value (absent c.deref.result.now edge.target c.index_of-2.result no_index c.index_of-2.ensures) in
    subst (λ l. Settles c.args.left.now edge old l) (sym c.in_ok-insert-2.ensures.items) (settles_new c.args.left.now edge old visible apart new)
