-- Command lines, word by word.
use Rattle.std.proofs.Common.{◌≡◌, ◌∙◌, ℕ, ◌+◌, ◌<◌, List, Result, Ok, String, Global, drop, get_or, length, map, ap, sym, subst}
use Rattle.std.specs.Prelude.{string_bytes}
use Rattle.std.proofs.lemmas.List.{at_drop_more, get_or-map, length-map}
use Rattle.jj_log.specs.declared.arguments.CommandLine.{CommandLine}
use Rattle.jj_log.specs.declared.arguments.UsageError.{UsageError}
use Rattle.jj_log.specs.CommandLines.{after_word, after_words, command_line}

-- the word at an index is read
pub next_word : (words : List (String Global)) (index : ℕ) (word : String Global) (bytes : List ℕ) (line : CommandLine) (result : Result CommandLine UsageError)
    → index < length words → word ≡ get_or words index word → bytes ≡ string_bytes word → result ≡ after_word line index bytes
    → after_words (Ok line) index (drop index (map (λ word. string_bytes word) words)) ≡ command_line (map (λ word. string_bytes word) words)
    → after_words result (index + 1) (drop (index + 1) (map (λ word. string_bytes word) words)) ≡ command_line (map (λ word. string_bytes word) words)
next_word words index word bytes line result below at is read so =
    let all : List (List ℕ) = map (λ (word : String Global). string_bytes word) words in
    let within : index < length all = subst (λ n. index < n) (sym (length-map words (λ (word : String Global). string_bytes word))) below in
    let same : get_or all index (string_bytes word) ≡ bytes = get_or-map (λ (word : String Global). string_bytes word) words index word (string_bytes word) below ∙ ap (λ (word : String Global). string_bytes word) (sym at) ∙ sym is in
    ap (λ r. after_words r (index + 1) (drop (index + 1) all)) (read ∙ ap (after_word line index) (sym same))
    ∙ sym (at_drop_more (after_words (Ok line) index) all index (string_bytes word) within) ∙ so
