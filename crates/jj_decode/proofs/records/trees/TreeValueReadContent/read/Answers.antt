use Rattle.std.proofs.Common.{arith}
use Rattle.std.proofs.lemmas.Result.{err_from_is_err_and}
use Rattle.jj_decode.specs.declared.error.Malformation.TheVariants.{UnknownTag}
use Rattle.jj_decode.proofs.Variants.{variant_error, unknown_variant_error}
use Rattle.jj_decode.specs.TreeContents.{FieldsContents}
use Rattle.jj_decode.proofs.records.trees.TreeValueReadContent.read.Goals as goal

pub returns-in_err-id-in-0-clause-malformed : goal.returns-in_err-id-in-0-clause-malformed
returns-in_err-id-in-0-clause-malformed c =
    let p = err_from_is_err_and c.from_residual-in_err-id-in-0.result c.from_residual-in_err-id-in-0.ensures.1 in
    rw (p.1, p.2) (variant_error 4 FieldsContents (omega arith) c.args.bytes.now c.args.start c.requires c.in_ok-tag.tag c.in_ok-tag.mid c.in_ok-tag.ensures.decoded 0 c.in_err-id-in-0.field-0.0 c.in-0.is c.in_err-id-in-0.ensures.malformed)

pub returns-in_err-link-in-1-clause-malformed : goal.returns-in_err-link-in-1-clause-malformed
returns-in_err-link-in-1-clause-malformed c =
    let p = err_from_is_err_and c.from_residual-in_err-link-in-1.result c.from_residual-in_err-link-in-1.ensures.1 in
    rw (p.1, p.2) (variant_error 4 FieldsContents (omega arith) c.args.bytes.now c.args.start c.requires c.in_ok-tag.tag c.in_ok-tag.mid c.in_ok-tag.ensures.decoded 1 c.in_err-link-in-1.field-0.0 c.in-1.is c.in_err-link-in-1.ensures.malformed)

pub returns-in_err-tree-in-2-clause-malformed : goal.returns-in_err-tree-in-2-clause-malformed
returns-in_err-tree-in-2-clause-malformed c =
    let p = err_from_is_err_and c.from_residual-in_err-tree-in-2.result c.from_residual-in_err-tree-in-2.ensures.1 in
    rw (p.1, p.2) (variant_error 4 FieldsContents (omega arith) c.args.bytes.now c.args.start c.requires c.in_ok-tag.tag c.in_ok-tag.mid c.in_ok-tag.ensures.decoded 2 c.in_err-tree-in-2.field-0.0 c.in-2.is c.in_err-tree-in-2.ensures.malformed)

pub returns-in_err-commit-in-3-clause-malformed : goal.returns-in_err-commit-in-3-clause-malformed
returns-in_err-commit-in-3-clause-malformed c =
    let p = err_from_is_err_and c.from_residual-in_err-commit-in-3.result c.from_residual-in_err-commit-in-3.ensures.1 in
    rw (p.1, p.2) (variant_error 4 FieldsContents (omega arith) c.args.bytes.now c.args.start c.requires c.in_ok-tag.tag c.in_ok-tag.mid c.in_ok-tag.ensures.decoded 3 c.in_err-commit-in-3.field-0.0 c.in-3.is c.in_err-commit-in-3.ensures.malformed)

pub returns-in_default-clause-malformed : goal.returns-in_default-clause-malformed
returns-in_default-clause-malformed c =
    rw c.unknown_tag.ensures (unknown_variant_error 4 FieldsContents (omega arith) c.args.bytes.now c.args.start c.requires c.in_ok-tag.tag c.in_ok-tag.mid c.in_ok-tag.ensures.decoded UnknownTag (omega arith))
