use Rattle.std.proofs.Common.{◌≡◌, ◌∙◌, List, Ok, ap, sym}
use Rattle.jj_content.specs.Blake2b.{blake2b}
use Rattle.jj_content.specs.Content.{string_content, list_content}
use Rattle.jj_program.specs.declared.hash_command.HashInput.{HashInput}
use Rattle.jj_program.specs.HashCommand.{hashed}
use Rattle.jj_program.specs.Lines.{Text, texts_of}
use Rattle.jj_program.proofs.HashContent.{content_of_texts}
use Rattle.jj_program.proofs.hash_command.input_digest.Goals as goal

pub returns-in_ok-blake2b_hash-in-List : goal.returns-in_ok-blake2b_hash-in-List
returns-in_ok-blake2b_hash-in-List c =
    let fields : List Text = c.args.fields.now in
    let content : hashed c.args.input (texts_of fields) ≡ Ok (blake2b (list_content (λ (text : Text). string_content text.now) fields)) =
    ap (λ (input : HashInput). hashed input (texts_of fields)) c.in-List.is ∙ ap (λ bytes. Ok (blake2b bytes)) (content_of_texts fields) in
    content ∙ ap Ok (sym c.in_ok-blake2b_hash-in-List.ensures.digest)

pub returns-in_ok-blake2b_hash-in-Merge : goal.returns-in_ok-blake2b_hash-in-Merge
returns-in_ok-blake2b_hash-in-Merge c =
    let fields : List Text = c.args.fields.now in
    let content : hashed c.args.input (texts_of fields) ≡ Ok (blake2b (list_content (λ (text : Text). string_content text.now) fields)) =
    ap (λ (input : HashInput). hashed input (texts_of fields)) c.in-Merge.is ∙ ap (λ bytes. Ok (blake2b bytes)) (content_of_texts fields) in
    let same = ap (λ (terms : List Text). blake2b (list_content (λ (text : Text). string_content text.now) terms)) c.in_ok-terms-in-Merge.ensures in
    content ∙ ap Ok (sym (c.in_ok-blake2b_hash-in-Merge.ensures.digest ∙ same))
