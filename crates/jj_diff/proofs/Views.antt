-- Hunks as kinds and rows of parts, and adjacent matching ones joined.
use Rattle.std.proofs.Common.{◌≡◌, ℕ, suc, zero, List, [], ◌∷◌, ◌++◌, length, map, get_or, refl, ap, sym, ◌∙◌, arith, append_assoc, append-nil, All}
use Rattle.std.proofs.lemmas.List.Elements.{All-nil, All-cons}
use Rattle.jj_diff.specs.declared.diff.hunks.DiffHunk.{DiffHunk}
use Rattle.jj_diff.specs.declared.diff.hunks.DiffHunkKind.{DiffHunkKind}
use Rattle.jj_diff.specs.declared.diff.hunks.DiffHunkKind.TheVariants.{Matching, Different}
use Rattle.jj_diff.specs.Inputs.{side}
use Rattle.jj_diff.specs.Hunks.{row_of}
use Rattle.jj_diff.specs.Refined.{View, view_of, view_side, append_rows, join_kinds, join_first, joined, Each}

pub view_side_of : (i : ℕ) (hs : List DiffHunk) → side i (map row_of hs) ≡ view_side i (map view_of hs)
view_side_of i [] = refl
view_side_of i (h ∷ hs) = ap (λ xs. get_or (row_of h) i [] ++ xs) (view_side_of i hs)

pub side-append : (i : ℕ) (vs ws : List View) → view_side i (vs ++ ws) ≡ view_side i vs ++ view_side i ws
side-append i [] ws = refl
side-append i (v ∷ vs) ws =
    ap (λ xs. get_or v.1 i [] ++ xs) (side-append i vs ws)
    ∙ sym (append_assoc (get_or v.1 i []) (view_side i vs) (view_side i ws))

pub get-append_rows : (xs ys : List (List ℕ)) (i : ℕ)
    → get_or (append_rows xs ys) i [] ≡ get_or xs i [] ++ get_or ys i []
get-append_rows [] ys i = refl
get-append_rows (x ∷ xs) [] i = sym (append-nil (get_or (x ∷ xs) i []))
get-append_rows (x ∷ xs) (y ∷ ys) zero = refl
get-append_rows (x ∷ xs) (y ∷ ys) (suc i) = get-append_rows xs ys i

pub length-append_rows : (n : ℕ) (xs ys : List (List ℕ)) → length xs ≡ n → length ys ≡ n
    → length (append_rows xs ys) ≡ n
length-append_rows n [] ys e f = f
length-append_rows n (x ∷ xs) [] e f = e
length-append_rows n (x ∷ xs) (y ∷ ys) e f =
    let m : length ys ≡ length xs = omega (arith, e, f) in
    omega (arith, e, length-append_rows (length xs) xs ys refl m)

side_kinds : (i : ℕ) (k l : DiffHunkKind) (v w : View) (vs : List View)
    → view_side i (join_kinds k l v w vs) ≡ get_or v.1 i [] ++ (get_or w.1 i [] ++ view_side i vs)
side_kinds i Matching Matching v w vs =
    ap (λ xs. xs ++ view_side i vs) (get-append_rows v.1 w.1 i)
    ∙ append_assoc (get_or v.1 i []) (get_or w.1 i []) (view_side i vs)
side_kinds i Matching Different v w vs = refl
side_kinds i Different Matching v w vs = refl
side_kinds i Different Different v w vs = refl

side_first : (i : ℕ) (v : View) (vs : List View)
    → view_side i (join_first v vs) ≡ get_or v.1 i [] ++ view_side i vs
side_first i v [] = refl
side_first i v (w ∷ vs) = side_kinds i v.0 w.0 v w vs

pub side_joined : (i : ℕ) (vs : List View) → view_side i (joined vs) ≡ view_side i vs
side_joined i [] = refl
side_joined i (v ∷ vs) = side_first i v (joined vs) ∙ ap (λ xs. get_or v.1 i [] ++ xs) (side_joined i vs)

-- a property that two matching hunks have only if the joined one has it
abbrev pub Joins : (View → Type 0) → Type 0
Joins P = (v w : View) → v.0 ≡ Matching → w.0 ≡ Matching → P v → P w
    → P (Matching, append_rows v.1 w.1)

each_kinds : (P : View → Type 0) → Joins P → (k l : DiffHunkKind) (v w : View) (vs : List View)
    → v.0 ≡ k → w.0 ≡ l → P v → P w → Each P vs → Each P (join_kinds k l v w vs)
each_kinds P joins Matching Matching v w vs e f p q ps = (joins v w e f p q, ps)
each_kinds P joins Matching Different v w vs e f p q ps = (p, (q, ps))
each_kinds P joins Different Matching v w vs e f p q ps = (p, (q, ps))
each_kinds P joins Different Different v w vs e f p q ps = (p, (q, ps))

each_first : (P : View → Type 0) → Joins P → (v : View) (vs : List View) → P v → Each P vs
    → Each P (join_first v vs)
each_first P joins v [] p ps = (p, tt)
each_first P joins v (w ∷ vs) p ps = each_kinds P joins v.0 w.0 v w vs refl refl p ps.0 ps.1

pub each_joined : (P : View → Type 0) → Joins P → (vs : List View) → Each P vs → Each P (joined vs)
each_joined P joins [] ps = tt
each_joined P joins (v ∷ vs) ps = each_first P joins v (joined vs) ps.0 (each_joined P joins vs ps.1)

pub each-append : (P : View → Type 0) (vs ws : List View) → Each P vs → Each P ws → Each P (vs ++ ws)
each-append P [] ws ps qs = qs
each-append P (v ∷ vs) ws ps qs = (ps.0, each-append P vs ws ps.1 qs)

pub each_of_all : (P : View → Type 0) (hs : List DiffHunk) → All (λ h. P (view_of h)) hs
    → Each P (map view_of hs)
each_of_all P [] all = tt
each_of_all P (h ∷ hs) all =
    (all zero h (omega arith), each_of_all P hs (λ k d lt. all (suc k) d (omega arith)))

pub all_of_each : (P : View → Type 0) (hs : List DiffHunk) → Each P (map view_of hs)
    → All (λ h. P (view_of h)) hs
all_of_each P [] each = All-nil (λ h. P (view_of h))
all_of_each P (h ∷ hs) each = All-cons (λ h. P (view_of h)) h hs each.0 (all_of_each P hs each.1)

pub joins_width : (n : ℕ) → Joins (λ v. length v.1 ≡ n)
joins_width n v w e f p q = length-append_rows n v.1 w.1 p q

-- the kind of the first hunk, if there is one
abbrev pub StartsWith : DiffHunkKind → List View → Type 0
StartsWith k [] = Unit {0}
StartsWith k (v ∷ vs) = v.0 ≡ k

starts_kinds : (j k l : DiffHunkKind) (v w : View) (vs : List View) → v.0 ≡ k → w.0 ≡ l → v.0 ≡ j
    → StartsWith j (join_kinds k l v w vs)
starts_kinds j Matching Matching v w vs e f s = sym e ∙ s
starts_kinds j Matching Different v w vs e f s = s
starts_kinds j Different Matching v w vs e f s = s
starts_kinds j Different Different v w vs e f s = s

pub starts_first : (j : DiffHunkKind) (v : View) (vs : List View) → v.0 ≡ j → StartsWith j (join_first v vs)
starts_first j v [] s = s
starts_first j v (w ∷ vs) s = starts_kinds j v.0 w.0 v w vs refl refl s

pub starts_joined : (j : DiffHunkKind) (vs : List View) → StartsWith j vs → StartsWith j (joined vs)
starts_joined j [] s = tt
starts_joined j (v ∷ vs) s = starts_first j v (joined vs) s
