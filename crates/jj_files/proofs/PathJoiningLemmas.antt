-- Proofs about joining path components.
use Rattle.std.proofs.Common.{◌≡◌, ◌∙◌, ◌+◌, ◌<◌, ℕ, suc, map, take, get_or, ap, true, false, List, [], ◌∷◌, ◌++◌, eqb, eqb-true, length, refl, sym, subst, cond, arith}
use Rattle.std.proofs.Math.Seq.{take-suc}
use Rattle.std.proofs.lemmas.List.{map-append}
use Rattle.std.specs.List.{slice_index}
use denote.Ref.{Bor}
use Rattle.std.specs.Path.{path_join, cur_dir, slash}
use Rattle.jj_files.specs.PathJoining.{or_dot, join_all}

-- appending to the empty path
pub path_join-empty : (text : List ℕ) → path_join [] text ≡ text
unfolding path_join
path_join-empty text = elim (eqb (slice_index text 0) slash) as (λ b. cond b text text ≡ text) [ true ↦ refl | false ↦ refl ]

-- appending `.` to a path whose string is empty yields `.`
pub or_dot-empty : (shown text : List ℕ) → shown ≡ text → true ≡ eqb (length shown) 0 → path_join text cur_dir ≡ or_dot text
or_dot-empty shown [] e h = path_join-empty cur_dir
or_dot-empty shown (b ∷ bs) e h =
    let f : true ≡ eqb (length (b ∷ bs)) 0 = subst (λ t. true ≡ eqb (length t) 0) e h in
    let none : length (b ∷ bs) ≡ 0 = eqb-true (length (b ∷ bs)) 0 (sym f) in absurd (omega arith)

-- a nonempty path is unchanged
pub or_dot-same : (shown text : List ℕ) → shown ≡ text → false ≡ eqb (length shown) 0 → text ≡ or_dot text
or_dot-same shown [] e h = let f : false ≡ true = subst (λ t. false ≡ eqb (length t) 0) e h in cc f
or_dot-same shown (b ∷ bs) e h = refl

-- one more component
pub appended-last : (base : List ℕ) (parts : List (List ℕ)) (part : List ℕ) → join_all base (parts ++ part ∷ []) ≡ path_join (join_all base parts) part
appended-last base [] part = refl
appended-last base (first ∷ parts) part = appended-last (path_join base first) parts part

-- the components before an index, and the one at it
pub appended-index : (texts : List (Bor (List ℕ))) (index : ℕ) (d : Bor (List ℕ)) (old new : List ℕ) → index < length texts
    → new ≡ path_join old (get_or texts index d).now → old ≡ join_all [] (map (λ text. text.now) (take index texts))
    → new ≡ join_all [] (map (λ text. text.now) (take (index + 1) texts))
appended-index texts index d old new within pushed so_far =
    let next : suc index ≡ index + 1 = omega arith in
    pushed ∙ ap (λ text. path_join text (get_or texts index d).now) so_far
    ∙ sym (appended-last [] (map (λ text. text.now) (take index texts)) (get_or texts index d).now)
    ∙ ap (join_all []) (sym (map-append (λ text. text.now) (take index texts) (get_or texts index d ∷ [])))
    ∙ ap (λ l. join_all [] (map (λ text. text.now) l)) (sym (take-suc texts index d within))
    ∙ ap (λ n. join_all [] (map (λ text. text.now) (take n texts))) next

-- appending a concatenation
pub appended-append : (base : List ℕ) (parts others : List (List ℕ)) → join_all base (parts ++ others) ≡ join_all (join_all base parts) others
appended-append base [] others = refl
appended-append base (first ∷ parts) others = appended-append (path_join base first) parts others
