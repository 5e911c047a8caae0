-- Reviews with equal digests.
use Rattle.std.proofs.Common.{◌≡◌, ◌∙◌, ◌↔◌, ◌⊎◌, ◌&&◌, ◌++◌, ℕ, List, [], ◌∷◌, Bool, true, false, IsTrue, Decides, length, ap, inl, inr, refl, sym, true≢false, bytes_eq, string_bytes, arith}
use Rattle.std.specs.Prelude.{flat_map}
use lib.Pointwise.{pointwise}
use Rattle.std.proofs.lemmas.Bool.{and_parts}
use Rattle.std.proofs.lemmas.Slice.Eq.{bytes_eq-Decides}
use Rattle.jj_content.specs.Blake2b.{blake2b}
use Rattle.jj_content.specs.Content.{list_content, string_content, u32_content, u64_content}
use Rattle.jj_content_tests.specs.declared.records.Note.{Note}
use Rattle.jj_content_tests.specs.declared.records.Review.{Review}
use Rattle.jj_content_tests.specs.Notes.{note_content, AreSame, Collide}
use Rattle.jj_content_tests.specs.Reviews.{review_content, AreSameNotes, AreSameReviews}
use Rattle.jj_content_tests.specs.contracts.records.NotePartialEq.TheImpl.{ghosts as notes}
use Rattle.jj_content_tests.specs.contracts.records.ReviewPartialEq.TheImpl.{ghosts as reviews}

same_note : (x y : Note) → notes.eq x y ≡ true → AreSame x y
same_note x y equal =
    let parts = and_parts _ _ equal in
    ((bytes_eq-Decides _ _).0 parts.0, (bytes_eq-Decides _ _).0 parts.1)

content_of_same : (x y : Note) → AreSame x y → note_content x ≡ note_content y
content_of_same x y (texts, lines) = λ i. string_content (texts i) ++ list_content u32_content (lines i)

same_notes : (xs ys : List Note) → pointwise notes.eq xs ys ≡ true → AreSameNotes xs ys
same_notes [] [] equal = tt
same_notes [] (y ∷ ys) equal = absurd (true≢false (sym equal))
same_notes (x ∷ xs) [] equal = absurd (true≢false (sym equal))
same_notes (x ∷ xs) (y ∷ ys) equal =
    let parts = and_parts _ _ equal in
    (same_note x y parts.0, same_notes xs ys parts.1)

length_of_same : (xs ys : List Note) → AreSameNotes xs ys → length xs ≡ length ys
length_of_same [] [] same = refl
length_of_same [] (y ∷ ys) same = absurd same
length_of_same (x ∷ xs) [] same = absurd same
length_of_same (x ∷ xs) (y ∷ ys) same = let e = length_of_same xs ys same.1 in omega arith

contents_of_same : (xs ys : List Note) → AreSameNotes xs ys → flat_map note_content xs ≡ flat_map note_content ys
contents_of_same [] [] same = refl
contents_of_same [] (y ∷ ys) same = absurd same
contents_of_same (x ∷ xs) [] same = absurd same
contents_of_same (x ∷ xs) (y ∷ ys) same = λ i. content_of_same x y same.0 i ++ contents_of_same xs ys same.1 i

list_of_same : (xs ys : List Note) → AreSameNotes xs ys → list_content note_content xs ≡ list_content note_content ys
unfolding list_content
list_of_same xs ys same = λ i. u64_content (length_of_same xs ys same i) ++ contents_of_same xs ys same i

module _ (first second : Review) where
  same_from_eq : reviews.eq first second ≡ true → AreSameReviews first second
  same_from_eq equal =
      let parts = and_parts _ _ equal in
      (same_note first.summary second.summary parts.0, same_notes first.notes.items second.notes.items parts.1)

  content_of_reviews : AreSameReviews first second → review_content first ≡ review_content second
  content_of_reviews same = λ i. content_of_same first.summary second.summary same.0 i ++ list_of_same first.notes.items second.notes.items same.1 i

  digest_of_cause : AreSameReviews first second ⊎ Collide (review_content first) (review_content second) → blake2b (review_content first) ≡ blake2b (review_content second)
  digest_of_cause (inl same) = ap blake2b (content_of_reviews same)
  digest_of_cause (inr collide) = collide.1

  module _ (law : review_content first ≡ review_content second → reviews.eq first second ≡ true) where
    same_or_collide : (alike : Bool) → Decides alike (review_content first ≡ review_content second) → blake2b (review_content first) ≡ blake2b (review_content second)
        → AreSameReviews first second ⊎ Collide (review_content first) (review_content second)
    same_or_collide true decides digests = inl (same_from_eq (law (decides.0 refl)))
    same_or_collide false decides digests = inr ((λ e. true≢false (sym (decides.1 e))), digests)

    -- the digests are equal if and only if the reviews are, or their contents collide
    pub equal_digests : (result : Bool) (k l : List ℕ) → k ≡ blake2b (review_content first) → l ≡ blake2b (review_content second) → result ≡ bytes_eq k l
        → IsTrue result ↔ (AreSameReviews first second ⊎ Collide (review_content first) (review_content second))
    equal_digests result k l is_first is_second is =
        let decides = bytes_eq-Decides k l in (
          λ holds. same_or_collide _ (bytes_eq-Decides (review_content first) (review_content second)) (sym is_first ∙ decides.0 (sym is ∙ holds) ∙ is_second),
          λ cause. is ∙ decides.1 (is_first ∙ digest_of_cause cause ∙ sym is_second),
        )
