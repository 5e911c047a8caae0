-- Content and equality of reviews.
-- Cited by contracts of public items: AreSameReviews, IsReview, review_content.
use Rattle.std.specs.Prelude.{ℕ, ◌++◌, List, [], ◌∷◌, ⊤}
use Rattle.jj_content.specs.Content.{AreValues, list_content}
use Rattle.jj_content_tests.specs.declared.records.Note.{Note}
use Rattle.jj_content_tests.specs.declared.records.Review.{Review}
use Rattle.jj_content_tests.specs.Notes.{note_content, IsNote, AreSame}

-- the summary and all notes are within their limits
abbrev pub IsReview : Review → Type 0
IsReview review = IsNote review.summary × AreValues IsNote review.notes.items

-- the summary, then the list of notes
abbrev pub review_content : Review → List ℕ
review_content review = note_content review.summary ++ list_content note_content review.notes.items

-- the lists have equal notes in the same order
abbrev pub AreSameNotes : List Note → List Note → Type 0
AreSameNotes [] [] = ⊤
AreSameNotes (x ∷ xs) (y ∷ ys) = AreSame x y × AreSameNotes xs ys
AreSameNotes xs ys = ⊥

-- the summaries are equal, and so are the notes
abbrev pub AreSameReviews : Review → Review → Type 0
AreSameReviews first second = AreSame first.summary second.summary
    × AreSameNotes first.notes.items second.notes.items
