-- Content and equality of notes, and collisions.
-- Cited by contracts of public items: AreSame, Collide, IsNote, note_content.
use Rattle.std.specs.Prelude.{◌≡◌, ◌≢◌, ℕ, ◌<◌, ◌^◌, ◌++◌, List, length, string_bytes}
use Rattle.jj_content.specs.Blake2b.{blake2b}
use Rattle.jj_content.specs.Content.{AreValues, u32_content, string_content, list_content}
use Rattle.jj_content_tests.specs.declared.records.Note.{Note}

-- the string and the list have fewer than 2 ^ 64 elements
abbrev pub IsNote : Note → Type 0
IsNote note = (length (string_bytes note.text) < 2 ^ 64)
    × AreValues (λ n. n < 2 ^ 32) note.lines.items

-- the string, then the lines
abbrev pub note_content : Note → List ℕ
note_content note = string_content (string_bytes note.text)
    ++ list_content u32_content note.lines.items

-- equal strings and equal lists of lines
abbrev pub AreSame : Note → Note → Type 0
AreSame first second = (string_bytes first.text ≡ string_bytes second.text)
    × (first.lines.items ≡ second.lines.items)

-- two contents collide if they differ but have the same digest
abbrev pub Collide : List ℕ → List ℕ → Type 0
Collide first second = (first ≢ second) × (blake2b first ≡ blake2b second)
