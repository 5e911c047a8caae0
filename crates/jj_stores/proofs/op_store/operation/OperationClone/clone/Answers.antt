use Rattle.std.proofs.lemmas.Bool.{and_from}
use Rattle.std.proofs.Common.{◌≡◌, true}
use Rattle.std.specs.Cmp.Lexicographic.{pointwise, nat_list_eq_equiv}
use Rattle.std.specs.Option.{option_eq}
use Rattle.std.specs.Str.{bytes_eq}
use Rattle.jj_stores.specs.OperationLaws.{predecessors_eq}
use Rattle.jj_stores.proofs.ClonedEntries.{equal_same, option_cloned, pointwise_cloned, predecessors_cloned}
use Rattle.jj_stores.proofs.op_store.operation.OperationClone.clone.Goals as goal

pub returns : goal.returns
returns c =
    let operation = c.args.self.now in
    let parents : pointwise bytes_eq c.in_ok-clone-2.field-0.items operation.parents.items ≡ true =
    pointwise_cloned _ bytes_eq (equal_same nat_list_eq_equiv) operation.parents.items
    c.in_ok-clone-2.field-0.items c.in_ok-clone-2.ensures.cases.0 in
    let known = operation.commit_predecessors in
    let predecessors : option_eq predecessors_eq c.in_ok-clone-4.field-0 known ≡ true =
    option_cloned _ predecessors_eq predecessors_cloned known
    c.in_ok-clone-4.field-0 c.in_ok-clone-4.ensures.cases in
    let view_id = equal_same nat_list_eq_equiv operation.view_id c.in_ok-clone.field-0
    c.in_ok-clone.ensures.cases in
    record {
      cases = and_from _ _ view_id (and_from _ _ parents (and_from _ _ c.in_ok-clone-3.ensures.cases predecessors));
    }
