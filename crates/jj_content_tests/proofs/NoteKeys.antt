-- Notes with equal keys.
use Rattle.std.proofs.Common.{◌≡◌, ◌∙◌, ◌↔◌, ◌⊎◌, ◌&&◌, ◌++◌, ℕ, List, Bool, true, false, IsTrue, Decides, inl, inr, refl, sym, true≢false, bytes_eq, string_bytes}
use Rattle.std.proofs.lemmas.Bool.{and_parts}
use Rattle.std.proofs.lemmas.Slice.Eq.{bytes_eq-Decides}
use Rattle.jj_content.specs.Blake2b.{blake2b}
use Rattle.jj_content.specs.Content.{string_content, list_content, u32_content}
use Rattle.jj_content_tests.specs.declared.records.Note.{Note}
use Rattle.jj_content_tests.specs.Notes.{note_content, AreSame, Collide}

module _ (first second : Note) where
  same_from_eq : (bytes_eq (string_bytes first.text) (string_bytes second.text) && bytes_eq first.lines.items second.lines.items) ≡ true → AreSame first second
  same_from_eq equal =
      let parts = and_parts _ _ equal in
      ((bytes_eq-Decides _ _).0 parts.0, (bytes_eq-Decides _ _).0 parts.1)

  equal_digests : AreSame first second ⊎ Collide (note_content first) (note_content second) → blake2b (note_content first) ≡ blake2b (note_content second)
  equal_digests (inl (texts, lines)) = λ i. blake2b (string_content (texts i) ++ list_content u32_content (lines i))
  equal_digests (inr collide) = collide.1

  module _ (law : note_content first ≡ note_content second → (bytes_eq (string_bytes first.text) (string_bytes second.text) && bytes_eq first.lines.items second.lines.items) ≡ true) where
    same_or_collide : (alike : Bool) → Decides alike (note_content first ≡ note_content second) → blake2b (note_content first) ≡ blake2b (note_content second)
        → AreSame first second ⊎ Collide (note_content first) (note_content second)
    same_or_collide true decides digests = inl (same_from_eq (law (decides.0 refl)))
    same_or_collide false decides digests = inr ((λ e. true≢false (sym (decides.1 e))), digests)

    -- the keys are equal if and only if the notes are, or their contents collide
    pub equal_keys : (answer : Bool) (k l : List ℕ) → k ≡ blake2b (note_content first) → l ≡ blake2b (note_content second) → answer ≡ bytes_eq k l
        → IsTrue answer ↔ (AreSame first second ⊎ Collide (note_content first) (note_content second))
    equal_keys answer k l is_first is_second is =
        let decides = bytes_eq-Decides k l in (
          λ holds. same_or_collide _ (bytes_eq-Decides (note_content first) (note_content second)) (sym is_first ∙ decides.0 (sym is ∙ holds) ∙ is_second),
          λ cause. is ∙ decides.1 (is_first ∙ equal_digests cause ∙ sym is_second),
        )
