use Rattle.std.proofs.Common.{ℕ, ◌<◌, ◌^◌, length, Global}
use Rattle.std.specs.Prelude.{string_bytes, string_cmp}
use Rattle.std.specs.Str.{IsUtf8}
use Rattle.std.specs.declared.string.String.{String}
use Rattle.jj_content.specs.Content.{u64_content, string_content, entry_content}
use Rattle.jj_decode.specs.Errors.{EntryErrors, IntegerErrors, StringErrors}
use Rattle.jj_decode_tests.proofs.DecodeErrors.{list_length, short_result}
use Rattle.jj_decode_tests.proofs.callers.load_sizes.Goals as goal

pub returns-clause-short : goal.returns-clause-short
returns-clause-short c = λ lt.
    let name : String Global → Type 0 =
    λ s. IsUtf8 (string_bytes s) × (length (string_bytes s) < 2 ^ 64) in
    short_result _ _ (EntryErrors {K = String Global} {V = ℕ} string_cmp name
    (λ s. string_content (string_bytes s)) StringErrors (λ n. n < 2 ^ 64) u64_content
    (IntegerErrors 8))
    (λ m _. list_length (entry_content {K = String Global} {V = ℕ}
    (λ s. string_content (string_bytes s)) u64_content) m.entries)
    c.args.bytes.now lt c.decode_content.result c.decode_content.ensures.canonical
    c.decode_content.ensures.error
