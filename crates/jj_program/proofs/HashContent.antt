-- The content of borrowed strings is that of their bytes.
use Rattle.std.proofs.Common.{◌≡◌, ◌∙◌, ◌++◌, List, length, ap}
use Rattle.std.specs.Prelude.{flat_map}
use Rattle.std.proofs.lemmas.List.Folds.{flat_map-map}
use Rattle.std.proofs.Math.ListN.{length-map}
use Rattle.jj_content.specs.Content.{string_content, list_content, u64_content}
use Rattle.jj_program.specs.Lines.{Text, texts_of}

pub content_of_texts : (texts : List Text) → list_content string_content (texts_of texts) ≡ list_content (λ (text : Text). string_content text.now) texts
unfolding list_content
content_of_texts texts =
    ap (λ n. u64_content n ++ flat_map string_content (texts_of texts)) (length-map texts (λ text. text.now))
    ∙ ap (λ bytes. u64_content (length texts) ++ bytes) (flat_map-map string_content (λ (text : Text). text.now) texts)
