-- Proof that the content of a review is injective and prefix-free, from the same of its notes.
-- Cited by contracts of public items: review_lawful.
use Rattle.std.specs.Prelude.{string_bytes}
use Rattle.jj_content.specs.Content.{IsLawful}
use Rattle.jj_content.specs.PrefixFreeProofs.{both_lawful, on_lawful, string_lawful, list_lawful, u32_lawful}
use Rattle.jj_content_tests.specs.Notes.{note_content, IsNote}
use Rattle.jj_content_tests.specs.Reviews.{review_content, IsReview}
use Rattle.jj_content_tests.specs.declared.records.Note.{Note}
use Rattle.jj_content_tests.specs.declared.records.Review.{Review}
use Rattle.jj_content_tests.specs.contracts.records.NotePartialEq.TheImpl.{ghosts as notes}
use Rattle.jj_content_tests.specs.contracts.records.ReviewPartialEq.TheImpl.{ghosts as reviews}

note_lawful : IsLawful IsNote notes.eq note_content
note_lawful = both_lawful (on_lawful (λ (note : Note). string_bytes note.text) string_lawful)
    (on_lawful (λ (note : Note). note.lines.items) (list_lawful u32_lawful))

pub review_lawful : IsLawful IsReview reviews.eq review_content
review_lawful = both_lawful (on_lawful (λ (review : Review). review.summary) note_lawful)
    (on_lawful (λ (review : Review). review.notes.items) (list_lawful note_lawful))
