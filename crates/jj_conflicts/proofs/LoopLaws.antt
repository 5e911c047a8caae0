-- Steps of loops over hunks and terms.
use Rattle.std.proofs.Common.{◌≡◌, ℕ, ◌+◌, ◌<◌, ◌≤◌, List, [], ◌∷◌, ◌++◌, length, get_or, drop, refl, sym, ap, ◌∙◌, subst, arith, append-nil, append_assoc, Vec, Global}
use Rattle.std.proofs.lemmas.List.{at_drop_more, at_drop_all}
use Rattle.jj_conflicts.specs.Contents.{contents, merge_contents}
use Rattle.jj_conflicts.specs.Rendering.{label_at, term_byte, section, sections, snapshot_text, git_text, conflict_text, conflict_count, IsConflictText, IsRenderedFrom}
use Rattle.jj_conflicts.specs.declared.conflicts.ConflictMarkerStyle.{ConflictMarkerStyle}
use Rattle.jj_conflicts.specs.declared.conflicts.ConflictMarkerStyle.TheVariants.{Git}

-- a function of the suffix that begins at index i, applied to the item at i
pub at_item : {X Y : Type 0} (F : List X → Y) (xs : List X) (i : ℕ) (x : X) → i < length xs
    → x ≡ get_or xs i x → F (drop i xs) ≡ F (x ∷ drop (i + 1) xs)
at_item F xs i x h e =
    at_drop_more F xs i x h ∙ ap (λ y. F (y ∷ drop (i + 1) xs)) (sym e)

pub sections_step : (n : ℕ) (labels : List (List ℕ)) (terms : List (Vec ℕ Global)) (i : ℕ)
    (x : Vec ℕ Global) (before : List ℕ) → i < length terms → x ≡ get_or terms i x
    → before ++ section n (term_byte i) (label_at labels i) x.items
    ++ sections n labels (i + 1) (merge_contents (drop (i + 1) terms))
    ≡ before ++ sections n labels i (merge_contents (drop i terms))
sections_step n labels terms i x before h e =
    append_assoc before (section n (term_byte i) (label_at labels i) x.items)
    (sections n labels (i + 1) (merge_contents (drop (i + 1) terms)))
    ∙ ap (λ text. before ++ text)
    (sym (at_item (λ ts. sections n labels i (merge_contents ts)) terms i x h e))

pub appended_three : (a b c d : List ℕ) → ((a ++ b) ++ c) ++ d ≡ a ++ ((b ++ c) ++ d)
appended_three a b c d = ap (λ x. x ++ d) (append_assoc a b c) ∙ append_assoc a (b ++ c) d

-- ---- one term, or another number

pub count_one : (terms : List (Vec ℕ Global)) (hunks : List (List (Vec ℕ Global)))
    → length terms ≡ 1 → conflict_count (contents (terms ∷ hunks)) ≡ conflict_count (contents hunks)
count_one [] hunks h = absurd (omega arith)
count_one (t ∷ []) hunks h = refl
count_one (t ∷ u ∷ ts) hunks h = absurd (omega arith)

pub count_more : (terms : List (Vec ℕ Global)) (hunks : List (List (Vec ℕ Global)))
    → (length terms ≡ 1 → ⊥)
    → conflict_count (contents (terms ∷ hunks)) ≡ conflict_count (contents hunks) + 1
count_more [] hunks h = refl
count_more (t ∷ []) hunks h = absurd (h refl)
count_more (t ∷ u ∷ ts) hunks h = refl

pub rendered_one : (style : ConflictMarkerStyle) (n : ℕ) (labels : List (List ℕ))
    (number count : ℕ) (terms : List (Vec ℕ Global)) (x : Vec ℕ Global) (before : List ℕ)
    → length terms ≡ 1 → x ≡ get_or terms 0 x → (rest : List (List (List ℕ))) (tail : List ℕ)
    → IsRenderedFrom style n labels number count rest tail
    → (whole : List ℕ) × (IsRenderedFrom style n labels number count (merge_contents terms ∷ rest) whole
    × ((before ++ x.items) ++ tail ≡ before ++ whole))
rendered_one style n labels number count [] x before h e rest tail r = absurd (omega arith)
rendered_one style n labels number count (t ∷ []) x before h e rest tail r = (
  t.items ++ tail,
  (
    (tail, (r, refl)),
    append_assoc before x.items tail ∙ ap (λ (y : Vec ℕ Global). before ++ (y.items ++ tail)) e,
  ),
)
rendered_one style n labels number count (t ∷ u ∷ ts) x before h e rest tail r = absurd (omega arith)

pub rendered_more : (style : ConflictMarkerStyle) (n : ℕ) (labels : List (List ℕ))
    (number count : ℕ) (terms : List (Vec ℕ Global)) (first before : List ℕ)
    → (length terms ≡ 1 → ⊥)
    → IsConflictText style n labels (number + 1) count (merge_contents terms) first
    → (rest : List (List (List ℕ))) (tail : List ℕ)
    → IsRenderedFrom style n labels (number + 1) count rest tail
    → (whole : List ℕ) × (IsRenderedFrom style n labels number count (merge_contents terms ∷ rest) whole
    × ((before ++ first) ++ tail ≡ before ++ whole))
rendered_more style n labels number count [] first before h c rest tail r =
    (first ++ tail, ((first, (tail, (c, r, refl))), append_assoc before first tail))
rendered_more style n labels number count (t ∷ []) first before h c rest tail r = absurd (h refl)
rendered_more style n labels number count (t ∷ u ∷ ts) first before h c rest tail r =
    (first ++ tail, ((first, (tail, (c, r, refl))), append_assoc before first tail))

-- followed by a rendering of the rest, the bytes so far are a rendering of all hunks
abbrev pub Renders : ConflictMarkerStyle → ℕ → List (List ℕ) → ℕ → List (List (List ℕ)) → List ℕ
    → ℕ → List (List (List ℕ)) → Type 0
Renders style n labels count all text number rest = (tail : List ℕ)
    → IsRenderedFrom style n labels number count rest tail
    → IsRenderedFrom style n labels 0 count all (text ++ tail)

pub renders_more : (style : ConflictMarkerStyle) (n : ℕ) (labels : List (List ℕ)) (count : ℕ)
    (all : List (List (List ℕ))) (old new : List ℕ) (number next : ℕ)
    (hunks : List (List (Vec ℕ Global))) (i : ℕ) (terms : List (Vec ℕ Global))
    → i < length hunks → terms ≡ get_or hunks i terms
    → Renders style n labels count all old number (contents (drop i hunks))
    → ((rest : List (List (List ℕ))) (tail : List ℕ)
    → IsRenderedFrom style n labels next count rest tail
    → (whole : List ℕ) × (IsRenderedFrom style n labels number count (merge_contents terms ∷ rest) whole
    × (new ++ tail ≡ old ++ whole)))
    → Renders style n labels count all new next (contents (drop (i + 1) hunks))
renders_more style n labels count all old new number next hunks i terms lt e before push = λ tail r.
    let made : (whole : List ℕ) × (IsRenderedFrom style n labels number count (merge_contents terms ∷ contents (drop (i + 1) hunks)) whole
    × (new ++ tail ≡ old ++ whole)) = push (contents (drop (i + 1) hunks)) tail r in
    subst (IsRenderedFrom style n labels 0 count all) (sym made.1.1)
    (before made.0 (subst (λ hs. IsRenderedFrom style n labels number count hs made.0)
    (sym (at_item contents hunks i terms lt e)) made.1.0))

pub renders_end : (style : ConflictMarkerStyle) (n : ℕ) (labels : List (List ℕ)) (count : ℕ)
    (all : List (List (List ℕ))) (text : List ℕ) (number : ℕ)
    (hunks : List (List (Vec ℕ Global))) (i : ℕ) → length hunks ≤ i
    → Renders style n labels count all text number (contents (drop i hunks))
    → IsRenderedFrom style n labels 0 count all text
renders_end style n labels count all text number hunks i le before =
    subst (IsRenderedFrom style n labels 0 count all) (append-nil text)
    (before [] (subst (λ hs. IsRenderedFrom style n labels number count hs [])
    (sym (at_drop_all contents hunks i le)) refl))

pub renders_start : (style : ConflictMarkerStyle) (n : ℕ) (labels : List (List ℕ)) (count : ℕ)
    (all : List (List (List ℕ))) → Renders style n labels count all [] 0 all
renders_start style n labels count all = λ tail r. r

pub git_three : (n : ℕ) (labels : List (List ℕ)) (number count : ℕ)
    (terms : List (Vec ℕ Global)) (a b c : Vec ℕ Global) → length terms ≡ 3
    → a ≡ get_or terms 0 a → b ≡ get_or terms 1 b → c ≡ get_or terms 2 c
    → git_text n labels a.items b.items c.items
    ≡ conflict_text Git n labels number count (merge_contents terms)
git_three n labels number count [] a b c h e f g = absurd (omega arith)
git_three n labels number count (x ∷ []) a b c h e f g = absurd (omega arith)
git_three n labels number count (x ∷ y ∷ []) a b c h e f g = absurd (omega arith)
git_three n labels number count (x ∷ y ∷ z ∷ []) a b c h e f g =
    ap (λ (v : Vec ℕ Global). git_text n labels v.items b.items c.items) e
    ∙ ap (λ (v : Vec ℕ Global). git_text n labels x.items v.items c.items) f
    ∙ ap (λ (v : Vec ℕ Global). git_text n labels x.items y.items v.items) g
git_three n labels number count (x ∷ y ∷ z ∷ w ∷ ts) a b c h e f g = absurd (omega arith)

pub git_other : (n : ℕ) (labels : List (List ℕ)) (number count : ℕ)
    (terms : List (Vec ℕ Global)) → (length terms ≡ 3 → ⊥)
    → snapshot_text n labels number count (merge_contents terms)
    ≡ conflict_text Git n labels number count (merge_contents terms)
git_other n labels number count [] h = refl
git_other n labels number count (x ∷ []) h = refl
git_other n labels number count (x ∷ y ∷ []) h = refl
git_other n labels number count (x ∷ y ∷ z ∷ []) h = absurd (h refl)
git_other n labels number count (x ∷ y ∷ z ∷ w ∷ ts) h = refl

pub ruleset hunk_steps = (rendered_one, rendered_more)

pub ruleset hunks_steps = (renders_more, renders_end, renders_start)

pub ruleset git_steps = (git_three, git_other)
