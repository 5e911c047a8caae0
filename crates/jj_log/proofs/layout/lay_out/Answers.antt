use Rattle.std.proofs.Common.{rules, arith, ◌≡◌, ◌∙◌, ◌++◌, ◌+◌, ◌<◌, ℕ, List, suc, length, take, drop, get_or, add-one, ap, subst}
use Rattle.std.proofs.lemmas.Slice.{between_to_end}
use Rattle.jj_walks.specs.declared.graph.GraphEdge.{GraphEdge}
use Rattle.jj_log.specs.Columns.{SettlesAll, opened}
use Rattle.jj_log.proofs.Settling.{row_once, row_pending}
use Rattle.jj_log.proofs.layout.lay_out.Goals as goal

pub returns-clause-row : goal.returns-clause-row
returns-clause-row c =
    let before = c.args.columns.now.items in
    let column = c.in_ok-column.column in
    let all = opened before c.args.node in
    let opens : c.open.new.columns.items ≡ all = c.in_ok-column.ensures.columns in
    let within : column < length all = subst (λ (l : List ℕ). column < length l) opens c.in_ok-column.ensures.column.0 in
    let is : get_or all column 0 ≡ c.args.node = subst (λ (l : List ℕ). get_or l column 0 ≡ c.args.node) opens c.in_ok-column.ensures.column.1 in
    let left : c.deref-3.result.now ≡ take column all = c.deref-3.ensures.value ∙ c.truncate.ensures.items ∙ ap (take column) opens in
    let edges : c.deref-4.result.now ≡ c.args.edges.items = c.deref-4.ensures.value in
    let right : c.in_ok-right.right.items ≡ drop (suc column) all =
    c.in_ok-right.ensures.items ∙ between_to_end c.deref.result.now (column + 1) (length c.deref.result.now) (omega arith) ∙ ap (λ l. drop (column + 1) l) (c.deref.ensures.value ∙ opens) ∙ ap (λ k. drop k all) (add-one column) in
    let settles : SettlesAll (take column all) c.args.edges.items (drop (suc column) all) c.settle_all.new.right.items =
    subst (λ (l : List ℕ). SettlesAll l c.args.edges.items (drop (suc column) all) c.settle_all.new.right.items) left
    (subst (λ (l : List (GraphEdge ℕ)). SettlesAll c.deref-3.result.now l (drop (suc column) all) c.settle_all.new.right.items) edges
    (subst (λ (l : List ℕ). SettlesAll c.deref-3.result.now c.deref-4.result.now l c.settle_all.new.right.items) right c.in_ok-settle_all.ensures)) in
    let whole : c.extend_from_slice.new.self.items ≡ take column all ++ c.settle_all.new.right.items =
    c.in_ok-extend_from_slice.ensures.items ∙ ap (λ l. l ++ c.deref-5.result.now) (c.truncate.ensures.items ∙ ap (take column) opens) ∙ ap (λ l. take column all ++ l) c.deref-5.ensures.value in
    record {
      width = first_of (omega (arith, ap length opens), search (rules, opens));
      within = omega (arith, c.in_ok-column.ensures.column.0);
      column = is;
      pending = row_pending before c.args.node column c.args.edges.items c.settle_all.new.right.items c.extend_from_slice.new.self.items within is settles whole;
      once = row_once before c.args.node column c.args.edges.items c.settle_all.new.right.items c.extend_from_slice.new.self.items within is settles whole;
      fits = omega (arith, ap length opens, c.len-width.ensures, c.len.ensures, c.saturating_sub.ensures, c.saturating_add.ensures, c.if-saturating_add-max_columns.false);
    }
