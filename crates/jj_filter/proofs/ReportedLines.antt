-- A line written in parts.
use Rattle.std.proofs.Common.{◌≡◌, ◌≢◌, ◌==◌, Bool, codes, refl, ◌∙◌, ◌+◌, ◌<◌, ℕ, suc, List, [], ◌∷◌, ◌++◌, length, take, drop, get_or, flat_map, Option, Result, Ok, Err, OnOk, is_err, true, false, sym, ap, subst, append_assoc, append-nil, take-append-drop, arith}
use Rattle.std.proofs.Math.Seq.{take-suc}
use Rattle.std.proofs.lemmas.Grind.{common_steps, flat_map-append}
use Rattle.std.specs.Io.KnownBytes.{Appends}
use Rattle.std.proofs.KnownBytes.{Appends-trans}
use Rattle.jj_files.specs.Streams.{AppendsPrefixOf}
use Rattle.jj_filter.specs.Reports.{Reports, WritesLine, report_line}
use denote.Ref.{Bor}

abbrev pub line_of : List (Bor (List ℕ)) → List ℕ
line_of parts = flat_map (λ part. part.now) parts

next_index : (n : ℕ) → suc n ≡ n + 1
next_index n = omega arith

-- one more part
pub line_more : (parts : List (Bor (List ℕ))) (index : ℕ) (d : Bor (List ℕ)) → index < length parts
    → line_of (take (index + 1) parts) ≡ line_of (take index parts) ++ (get_or parts index d).now
line_more parts index d within =
    ap (λ n. line_of (take n parts)) (sym (next_index index)) ∙ ap line_of (take-suc parts index d within)
    ∙ flat_map-append (λ part. part.now) (take index parts) (get_or parts index d ∷ [])
    ∙ ap (λ l. line_of (take index parts) ++ l) (append-nil (get_or parts index d).now)

-- a prefix of a part, after the earlier parts, is a prefix of the line
pub line_prefix : (parts : List (Bor (List ℕ))) (index : ℕ) (d : Bor (List ℕ)) (bytes : List ℕ) → bytes ≡ (get_or parts index d).now → index < length parts
    → (old middle new : Option (List ℕ)) → Appends old middle (line_of (take index parts)) → AppendsPrefixOf middle new bytes → AppendsPrefixOf old new (line_of parts)
line_prefix parts index d bytes is within old middle new before (written, rest, appended, joined) =
    let split = joined ∙ is in
    let earlier = line_of (take index parts) in
    let later = line_of (drop (index + 1) parts) in
    let whole = ap line_of (sym (take-append-drop (index + 1) parts)) ∙ flat_map-append (λ part. part.now) (take (index + 1) parts) (drop (index + 1) parts)
    ∙ ap (λ l. l ++ later) (line_more parts index d within) in (
      earlier ++ written,
      rest ++ later,
      Appends-trans _ _ _ _ _ before appended,
      append_assoc earlier written (rest ++ later) ∙ ap (λ l. earlier ++ l) (sym (append_assoc written rest later) ∙ ap (λ l. l ++ later) split)
          ∙ sym (append_assoc earlier (get_or parts index d).now later) ∙ sym whole,
    )

-- the parts so far and the next one are written
pub line_next : (parts : List (Bor (List ℕ))) (index : ℕ) (d : Bor (List ℕ)) (bytes : List ℕ) → bytes ≡ (get_or parts index d).now → index < length parts
    → (old middle new : Option (List ℕ)) → Appends old middle (line_of (take index parts)) → Appends middle new bytes → Appends old new (line_of (take (index + 1) parts))
line_next parts index d bytes is within old middle new before appended =
    subst (λ l. Appends old new l) (ap (λ l. line_of (take index parts) ++ l) is ∙ sym (line_more parts index d within)) (Appends-trans _ _ _ _ _ before appended)

pub written_all : {A E : Type 0} (r : Result A E) (P : Type 0) → OnOk r P → false ≡ is_err r → P
written_all (Ok x) P h e = h
written_all (Err x) P h e = let g : false ≡ true = e in cc g

-- a part after empty ones is the line so far
line_after_empty : (parts : List (Bor (List ℕ))) (index : ℕ) (d : Bor (List ℕ)) → index < length parts → line_of (take index parts) ≡ []
    → line_of (take (index + 1) parts) ≡ (get_or parts index d).now
line_after_empty parts index d within none = line_more parts index d within ∙ ap (λ l. l ++ (get_or parts index d).now) none

-- an empty part after empty ones
pub empty_next : (parts : List (Bor (List ℕ))) (index : ℕ) (d : Bor (List ℕ)) → index < length parts → line_of (take index parts) ≡ []
    → (get_or parts index d).now ≡ [] → line_of (take (index + 1) parts) ≡ []
empty_next parts index d within none is = line_after_empty parts index d within none ∙ is

-- no part of an empty line is nonempty
pub part_of_empty : (parts : List (Bor (List ℕ))) (index : ℕ) (d : Bor (List ℕ)) → index < length parts → line_of (take index parts) ≡ []
    → line_of parts ≡ [] → (get_or parts index d).now ≡ []
part_of_empty parts index d within none empty =
    sym (line_after_empty parts index d within none)
    ∙ left_empty (line_of (take (index + 1) parts)) (line_of (drop (index + 1) parts))
    (sym (flat_map-append (λ part. part.now) (take (index + 1) parts) (drop (index + 1) parts)) ∙ ap line_of (take-append-drop (index + 1) parts) ∙ empty)
  where
    left_empty : (xs ys : List ℕ) → xs ++ ys ≡ [] → xs ≡ []
    left_empty [] ys h = refl
    left_empty (x ∷ xs) ys h = cc h

-- so parts one of which is nonempty are no empty line
pub has_part : (parts : List (Bor (List ℕ))) (index : ℕ) (d : Bor (List ℕ)) (b : Bool) → index < length parts → line_of (take index parts) ≡ []
    → b ≡ false → b ≡ (length (get_or parts index d).now == 0) → line_of parts ≢ []
has_part parts index d b within none some is empty =
    let h : true ≡ false = sym (ap (λ l. length l == 0) (part_of_empty parts index d within none empty)) ∙ sym is ∙ some in cc h

-- so four parts
pub four_parts : (f s t u : List ℕ) (b : Bool) → (f ++ (s ++ (t ++ (u ++ []))) ≡ [] → b ≡ true) → b ≡ false → f ++ s ++ t ++ u ≢ []
four_parts f s t u b all some none =
    let joined : f ++ (s ++ (t ++ (u ++ []))) ≡ f ++ s ++ t ++ u = grind (arith, common_steps) in
    let h : true ≡ false = sym (all (joined ∙ none)) ∙ some in cc h

pub message_line : (p f s t u : List ℕ) → p ++ (58 ∷ 32 ∷ (f ++ (s ++ (t ++ (u ++ 10 ∷ []))))) ≡ p ++ codes ": " ++ (f ++ s ++ t ++ u) ++ 10 ∷ []
message_line p f s t u = grind (arith, common_steps)

-- the line of a message that is not empty is reported
pub reported : (program text line : List ℕ) (old new : Option (List ℕ)) (failed : Bool) → (text ≢ []) → line ≡ program ++ codes ": " ++ text ++ 10 ∷ []
    → WritesLine old new failed line → Reports old new failed (report_line program text)
reported program [] line old new failed some is h = absurd (some refl)
reported [] (b ∷ bs) line old new failed some is h = subst (WritesLine old new failed) is h
reported (p ∷ ps) (b ∷ bs) line old new failed some is h = subst (WritesLine old new failed) is h
