-- Tokens of hunks, and their marks.
use Rattle.std.proofs.Common.{◌≡◌, ℕ, ◌+◌, ◌<◌, ◌≤◌, List, [], ◌∷◌, ◌++◌, length, map, drop, take, subst, get_or, refl, sym, ap, ◌∙◌, arith, append_assoc, append-nil}
use Rattle.std.proofs.lemmas.List.{at_drop_more, drop_all, take_all, take_more}
use Rattle.std.specs.List.{AllZip}
use Rattle.jj_diff.specs.Tokens.{is_word_end}
use Rattle.jj_diff.specs.Inputs.{side}
use Rattle.jj_diff.specs.Hunks.{row_of, AreTrimmed, IsDiff}
use Rattle.jj_diff.specs.declared.diff.hunks.DiffHunk.{DiffHunk}
use Rattle.jj_diff_presentation.specs.Words.{left_text, right_text, AreComparedWords, IsTokenOf, marked, token_text, tokens_text}
use Rattle.jj_diff_presentation.specs.declared.unified.words.DiffToken.{DiffToken}

left-push : (ts : List DiffToken) (t : DiffToken) → left_text (ts ++ t ∷ []) ≡ left_text ts ++ t.left.now
left-push [] t = append-nil t.left.now
left-push (u ∷ ts) t =
    ap (λ x. u.left.now ++ x) (left-push ts t)
    ∙ sym (append_assoc u.left.now (left_text ts) t.left.now)

right-push : (ts : List DiffToken) (t : DiffToken)
    → right_text (ts ++ t ∷ []) ≡ right_text ts ++ t.right.now
right-push [] t = append-nil t.right.now
right-push (u ∷ ts) t =
    ap (λ x. u.right.now ++ x) (right-push ts t)
    ∙ sym (append_assoc u.right.now (right_text ts) t.right.now)

side_next : (i : ℕ) (hunks : List DiffHunk) (k : ℕ) (h : DiffHunk) (before part after total : List ℕ)
    → k < length hunks → h ≡ get_or hunks k h → part ≡ get_or (row_of h) i []
    → after ≡ before ++ part → before ++ side i (map row_of (drop k hunks)) ≡ total
    → after ++ side i (map row_of (drop (k + 1) hunks)) ≡ total
side_next i hunks k h before part after total lt e f g inv =
    let rest : List ℕ = side i (map row_of (drop (k + 1) hunks)) in
    ap (λ x. x ++ rest) (g ∙ ap (λ p. before ++ p) f)
    ∙ append_assoc before (get_or (row_of h) i []) rest
    ∙ ap (λ x. before ++ x)
    (sym (at_drop_more (λ hs. side i (map row_of hs)) hunks k h lt
    ∙ ap (λ (d : DiffHunk). get_or (row_of d) i [] ++ rest) (sym e)))
    ∙ inv

pub left_token : (hunks : List DiffHunk) (k : ℕ) (h : DiffHunk) (ts : List DiffToken) (t : DiffToken)
    (total : List ℕ) → k < length hunks → h ≡ get_or hunks k h
    → t.left.now ≡ get_or (row_of h) 0 []
    → left_text ts ++ side 0 (map row_of (drop k hunks)) ≡ total
    → left_text (ts ++ t ∷ []) ++ side 0 (map row_of (drop (k + 1) hunks)) ≡ total
left_token hunks k h ts t total lt e f inv =
    side_next 0 hunks k h (left_text ts) t.left.now (left_text (ts ++ t ∷ [])) total lt e f
    (left-push ts t) inv

pub right_token : (hunks : List DiffHunk) (k : ℕ) (h : DiffHunk) (ts : List DiffToken)
    (t : DiffToken) (total : List ℕ) → k < length hunks → h ≡ get_or hunks k h
    → t.right.now ≡ get_or (row_of h) 1 []
    → right_text ts ++ side 1 (map row_of (drop k hunks)) ≡ total
    → right_text (ts ++ t ∷ []) ++ side 1 (map row_of (drop (k + 1) hunks)) ≡ total
right_token hunks k h ts t total lt e f inv =
    side_next 1 hunks k h (right_text ts) t.right.now (right_text (ts ++ t ∷ [])) total lt e f
    (right-push ts t) inv

pub side_end : (i : ℕ) (hunks : List DiffHunk) (k : ℕ) (text total : List ℕ) → length hunks ≤ k
    → text ++ side i (map row_of (drop k hunks)) ≡ total → text ≡ total
side_end i hunks k text total le inv =
    sym (ap (λ hs. text ++ side i (map row_of hs)) (drop_all k hunks le) ∙ append-nil text) ∙ inv

zip_push : (R : DiffHunk → DiffToken → Type 0) (hs : List DiffHunk) (ts : List DiffToken) (h : DiffHunk) (t : DiffToken)
    → AllZip R hs ts → R h t → AllZip R (hs ++ h ∷ []) (ts ++ t ∷ [])
zip_push R [] [] h t z r = (r, tt)
zip_push R [] (u ∷ ts) h t z r = absurd z
zip_push R (g ∷ hs) [] h t z r = absurd z
zip_push R (g ∷ hs) (u ∷ ts) h t z r = (z.0, zip_push R hs ts h t z.1 r)

pub each_token : (hunks : List DiffHunk) (k : ℕ) (h : DiffHunk) (ts : List DiffToken) (t : DiffToken)
    → k < length hunks → h ≡ get_or hunks k h → AllZip IsTokenOf (take k hunks) ts → IsTokenOf h t
    → AllZip IsTokenOf (take (k + 1) hunks) (ts ++ t ∷ [])
each_token hunks k h ts t lt e before here =
    let taken : take (k + 1) hunks ≡ take k hunks ++ h ∷ [] =
    take_more hunks k h lt ∙ ap (λ x. take k hunks ++ x ∷ []) (sym e) in
    subst (λ hs. AllZip IsTokenOf hs (ts ++ t ∷ [])) (sym taken)
    (zip_push IsTokenOf (take k hunks) ts h t before here)

pub each_end : (hunks : List DiffHunk) (k : ℕ) (ts : List DiffToken) → length hunks ≤ k
    → AllZip IsTokenOf (take k hunks) ts → AllZip IsTokenOf hunks ts
each_end hunks k ts le each = subst (λ hs. AllZip IsTokenOf hs ts) (take_all k hunks le) each

pub compared_words : (left right : List ℕ) (hunks : List DiffHunk) (tokens : List DiffToken)
    → IsDiff is_word_end (left ∷ right ∷ []) hunks → AreTrimmed is_word_end hunks → AllZip IsTokenOf hunks tokens
    → AreComparedWords left right tokens
compared_words left right hunks tokens diff trimmed each =
    record { hunks = hunks; diff = diff; trimmed = trimmed; each = each }

pub ruleset token_steps = (left_token, right_token, side_end, each_token, each_end)

-- ---- marks

pub marked_none : (first content last before : List ℕ) → length content ≡ 0
    → before ≡ before ++ marked first content last
marked_none first [] last before e = sym (append-nil before)
marked_none first (b ∷ bs) last before e = absurd (omega arith)

pub marked_some : (first content last before : List ℕ) → (length content ≡ 0 → ⊥)
    → ((before ++ first) ++ content) ++ last ≡ before ++ marked first content last
marked_some first [] last before n = absurd (n refl)
marked_some first (b ∷ bs) last before n =
    append_assoc (before ++ first) (b ∷ bs) last
    ∙ append_assoc before first ((b ∷ bs) ++ last)
    ∙ ap (λ x. before ++ x) (sym (append_assoc first (b ∷ bs) last))

pub ruleset marked_steps = (marked_none, marked_some)

pub ruleset append_steps = (append_assoc)

pub text_next : (tokens : List DiffToken) (k : ℕ) (t : DiffToken) (before after total : List ℕ)
    → k < length tokens → t ≡ get_or tokens k t
    → after ≡ before ++ token_text t.token_type t.left.now t.right.now
    → before ++ tokens_text (drop k tokens) ≡ total
    → after ++ tokens_text (drop (k + 1) tokens) ≡ total
text_next tokens k t before after total lt e f inv =
    let rest : List ℕ = tokens_text (drop (k + 1) tokens) in
    ap (λ x. x ++ rest) f
    ∙ append_assoc before (token_text t.token_type t.left.now t.right.now) rest
    ∙ ap (λ x. before ++ x)
    (sym (at_drop_more tokens_text tokens k t lt
    ∙ ap (λ (u : DiffToken). token_text u.token_type u.left.now u.right.now ++ rest) (sym e)))
    ∙ inv

pub text_end : (tokens : List DiffToken) (k : ℕ) (text total : List ℕ) → length tokens ≤ k
    → text ++ tokens_text (drop k tokens) ≡ total → text ≡ total
text_end tokens k text total le inv =
    sym (ap (λ ts. text ++ tokens_text ts) (drop_all k tokens le) ∙ append-nil text) ∙ inv

pub ruleset text_steps = (text_next, text_end)
