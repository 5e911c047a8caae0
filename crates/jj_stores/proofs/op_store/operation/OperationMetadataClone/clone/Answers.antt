use Rattle.std.proofs.lemmas.Bool.{and_from}
use Rattle.std.proofs.Common.{◌≡◌, true}
use Rattle.std.specs.Cmp.{bool_eq_equiv}
use Rattle.std.specs.Cmp.Lexicographic.{nat_list_eq_equiv}
use Rattle.std.specs.Option.{option_eq}
use Rattle.std.specs.Str.{bytes_eq}
use Rattle.jj_stores.specs.contracts.op_store.operation.TimestampRangeEq.TheImpl.Laws.{laws-law}
use Rattle.jj_stores.proofs.ClonedEntries.{equal_same, option_cloned, strings_cloned}
use Rattle.jj_stores.proofs.op_store.operation.OperationMetadataClone.clone.Goals as goal

pub returns : goal.returns
returns c =
    let metadata = c.args.self.now in
    let description = equal_same nat_list_eq_equiv _ _ c.in_ok-clone.ensures.cases in
    let hostname = equal_same nat_list_eq_equiv _ _ c.in_ok-clone-2.ensures.cases in
    let username = equal_same nat_list_eq_equiv _ _ c.in_ok-clone-3.ensures.cases in
    let name : option_eq bytes_eq c.in_ok-clone-4.field-0 metadata.workspace_name ≡ true =
    option_cloned (λ name c. c ≡ name) bytes_eq (equal_same nat_list_eq_equiv)
    metadata.workspace_name c.in_ok-clone-4.field-0 c.in_ok-clone-4.ensures.cases in
    let attributes = strings_cloned metadata.attributes.entries c.in_ok-clone-5.field-0.entries
    c.in_ok-clone-5.ensures.cases in
    record {
      cases = and_from _ _ (laws-law.refl metadata.time) (and_from _ _ description (and_from _ _ hostname (and_from _ _ username
          (and_from _ _ (bool_eq_equiv.refl metadata.is_snapshot) (and_from _ _ name attributes)))));
    }
