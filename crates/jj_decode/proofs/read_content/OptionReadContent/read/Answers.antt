use Rattle.std.proofs.Common.{arith}
use Rattle.std.proofs.lemmas.Result.{err_from_is_err_and}
use Rattle.jj_content.specs.Content.{IsOptionOf, option_content}
use Rattle.jj_decode.specs.declared.error.DecodeError.TheVariants.{Malformed}
use Rattle.jj_decode.specs.declared.error.Malformation.TheVariants.{UnknownTag}
use Rattle.jj_decode.proofs.ContentAt.{error_image}
use Rattle.jj_decode.proofs.Variants.{option_truncated, none_decoded, some_decoded, option_tag_error, option_some_error}
use Rattle.jj_decode.proofs.read_content.OptionReadContent.read.Goals as goal

pub returns-in_err-tag-clause-malformed : goal.returns-in_err-tag-clause-malformed
returns-in_err-tag-clause-malformed g c =
    let p = err_from_is_err_and c.from_residual.result c.from_residual.ensures.1 in
    let n = option_truncated g.T.ReadContent.is_content (λ b. b) c.args.bytes.now c.args.start
    c.in_err-tag.field-0.0 c.in_err-tag.ensures.malformed in
    rw (p.1, p.2) (error_image (IsOptionOf g.T.ReadContent.is_content) (option_content (λ b. b))
    c.args.bytes.now c.args.start c.in_err-tag.field-0.0 n)

pub returns-in_err-value-in-1-clause-malformed : goal.returns-in_err-value-in-1-clause-malformed
returns-in_err-value-in-1-clause-malformed g c =
    let p = err_from_is_err_and c.from_residual-in_err-value-in-1.result
    c.from_residual-in_err-value-in-1.ensures.1 in
    let n = option_some_error g.T.ReadContent.is_content (λ b. b) c.args.bytes.now c.args.start
    c.in_ok-tag.tag c.in_ok-tag.mid c.requires c.in_ok-tag.ensures.decoded
    c.in_err-value-in-1.field-0.0 c.in-1.is c.in_err-value-in-1.ensures.malformed in
    rw (p.1, p.2) (error_image (IsOptionOf g.T.ReadContent.is_content) (option_content (λ b. b))
    c.args.bytes.now c.args.start c.in_err-value-in-1.field-0.0 n)

pub returns-in-0-clause-decoded : goal.returns-in-0-clause-decoded
returns-in-0-clause-decoded g c = none_decoded g.T.ContentHash.is_value g.T.ContentHash.content
    c.args.bytes.now c.args.start c.in_ok-tag.tag c.in_ok-tag.mid c.requires
    c.in_ok-tag.ensures.decoded c.in-0.is

pub returns-in_ok-value-in-1-clause-decoded : goal.returns-in_ok-value-in-1-clause-decoded
returns-in_ok-value-in-1-clause-decoded g c = some_decoded g.T.ContentHash.is_value
    g.T.ContentHash.content c.args.bytes.now c.args.start c.in_ok-tag.tag c.in_ok-tag.mid c.requires
    c.in_ok-tag.ensures.decoded c.in_ok-value-in-1.value c.in_ok-value-in-1.end c.in-1.is
    c.in_ok-value-in-1.ensures.decoded

pub returns-in_default-clause-malformed : goal.returns-in_default-clause-malformed
returns-in_default-clause-malformed g c =
    let n = option_tag_error g.T.ReadContent.is_content (λ b. b) c.args.bytes.now c.args.start
    c.in_ok-tag.tag c.in_ok-tag.mid c.requires c.in_ok-tag.ensures.decoded UnknownTag
    (omega arith) in
    rw c.unknown_tag.ensures
    (error_image (IsOptionOf g.T.ReadContent.is_content) (option_content (λ b. b)) c.args.bytes.now
    c.args.start (Malformed UnknownTag c.args.start) n)
