-- Parts and sides of hunks, as loops over the hunks find them.
use Rattle.std.proofs.Common.{◌≡◌, ℕ, zero, suc, ◌+◌, ◌<◌, ◌≤◌, true, false, ◌==◌, ◌&&◌, List, [], ◌∷◌, ◌++◌, length, map, drop, get_or, Bor, refl, ap, sym, ◌∙◌, arith, ne_eqb, append_assoc, append-nil, Vec, Global}
use Rattle.std.proofs.lemmas.List.{at_drop_more, at_drop_all, map_push}
use Rattle.std.proofs.lemmas.List.FromFn.{map-range_with_len_more}
use Rattle.std.specs.List.{range_with_len}
use Rattle.jj_diff.specs.Inputs.{bytes_of}
use Rattle.jj_content_merges.specs.declared.files.hunks.MergeHunk.{MergeHunk}
use Rattle.jj_content_merges.specs.Hunks.{merge_contents, is_resolved, all_resolved, part, merged_side, joined_after, resolved_hunk}
use Rattle.jj_content_merges.specs.Files.{terms_of}

abbrev pub Text : Type 0
Text = Bor (List ℕ)

-- ---- the parts of a row

pub resolved_row : (row : List Text) → (length row == 1) ≡ is_resolved (bytes_of row)
resolved_row [] = refl
resolved_row (x ∷ []) = refl
resolved_row (x ∷ y ∷ row) = ne_eqb (length (x ∷ y ∷ row)) 1 (λ e. omega arith)

pub part_single : (row : List Text) (x : Text) (i : ℕ) → length row ≡ 1 → x ≡ get_or row 0 x
    → x.now ≡ part i (bytes_of row)
part_single [] x i h e = absurd (omega arith)
part_single (y ∷ []) x i h e = ap (λ (r : Text). r.now) e
part_single (y ∷ z ∷ row) x i h e = absurd (omega arith)

pub get_or-bytes : (row : List Text) (x : Text) (i : ℕ) → i < length row → x ≡ get_or row i x
    → x.now ≡ get_or (bytes_of row) i []
get_or-bytes [] x i lt e = absurd (omega arith)
get_or-bytes (y ∷ row) x zero lt e = ap (λ (r : Text). r.now) e
get_or-bytes (y ∷ row) x (suc i) lt e = get_or-bytes row x i (omega arith) e

pub part_within : (row : List Text) (x : Text) (i : ℕ) → (length row ≡ 1 → ⊥) → i < length row
    → x ≡ get_or row i x → x.now ≡ part i (bytes_of row)
part_within [] x i h lt e = absurd (omega arith)
part_within (y ∷ []) x i h lt e = absurd (h refl)
part_within (y ∷ z ∷ row) x i h lt e = get_or-bytes (y ∷ z ∷ row) x i lt e

get_or-past : (row : List Text) (i : ℕ) → length row ≤ i → [] ≡ get_or (bytes_of row) i []
get_or-past [] i le = refl
get_or-past (y ∷ row) zero le = absurd (omega arith)
get_or-past (y ∷ row) (suc i) le = get_or-past row i (omega arith)

pub part_past : (row : List Text) (i : ℕ) → (length row ≡ 1 → ⊥) → length row ≤ i
    → [] ≡ part i (bytes_of row)
part_past [] i h le = refl
part_past (y ∷ []) i h le = absurd (h refl)
part_past (y ∷ z ∷ row) i h le = get_or-past (y ∷ z ∷ row) i le

-- ---- one hunk more

-- a function of the suffix of hunks that begins at index i, applied to the hunk at i
pub at_hunk : {Y : Type 0} (F : List MergeHunk → Y) (hs : List MergeHunk) (i : ℕ) (h : MergeHunk)
    → i < length hs → h ≡ get_or hs i h → F (drop i hs) ≡ F (h ∷ drop (i + 1) hs)
at_hunk F hs i h lt e =
    at_drop_more F hs i h lt ∙ ap (λ x. F (x ∷ drop (i + 1) hs)) (sym e)

pub resolved_step : (hs : List MergeHunk) (i : ℕ) (h : MergeHunk) → i < length hs → h ≡ get_or hs i h
    → is_resolved (terms_of h) ≡ true
    → all_resolved (map terms_of (drop (i + 1) hs)) ≡ all_resolved (map terms_of (drop i hs))
resolved_step hs i h lt e r =
    sym (at_hunk (λ x. all_resolved (map terms_of x)) hs i h lt e
    ∙ ap (λ b. b && all_resolved (map terms_of (drop (i + 1) hs))) r)

pub unresolved_step : (hs : List MergeHunk) (i : ℕ) (h : MergeHunk) → i < length hs
    → h ≡ get_or hs i h → is_resolved (terms_of h) ≡ false
    → all_resolved (map terms_of (drop i hs)) ≡ false
unresolved_step hs i h lt e r =
    at_hunk (λ x. all_resolved (map terms_of x)) hs i h lt e
    ∙ ap (λ b. b && all_resolved (map terms_of (drop (i + 1) hs))) r

pub resolved_end : (hs : List MergeHunk) (i : ℕ) → length hs ≤ i
    → all_resolved (map terms_of (drop i hs)) ≡ true
resolved_end hs i le = at_drop_all (λ x. all_resolved (map terms_of x)) hs i le

pub side_step : (k : ℕ) (hs : List MergeHunk) (i : ℕ) (h : MergeHunk) (before : List ℕ)
    → i < length hs → h ≡ get_or hs i h
    → (before ++ part k (terms_of h)) ++ merged_side k (map terms_of (drop (i + 1) hs))
    ≡ before ++ merged_side k (map terms_of (drop i hs))
side_step k hs i h before lt e =
    append_assoc before (part k (terms_of h)) (merged_side k (map terms_of (drop (i + 1) hs)))
    ∙ ap (λ x. before ++ x) (sym (at_hunk (λ x. merged_side k (map terms_of x)) hs i h lt e))

pub side_end : (k : ℕ) (hs : List MergeHunk) (i : ℕ) (before : List ℕ) → length hs ≤ i
    → before ++ merged_side k (map terms_of (drop i hs)) ≡ before
side_end k hs i before le =
    ap (λ x. before ++ x) (at_drop_all (λ x. merged_side k (map terms_of x)) hs i le)
    ∙ append-nil before

pub joined_step : (hs : List MergeHunk) (i : ℕ) (h : MergeHunk) (before : List (List (List ℕ)))
    (resolved : List ℕ) → i < length hs → h ≡ get_or hs i h
    → before ++ joined_after resolved (terms_of h ∷ map terms_of (drop (i + 1) hs))
    ≡ before ++ joined_after resolved (map terms_of (drop i hs))
joined_step hs i h before resolved lt e =
    sym (at_hunk (λ x. before ++ joined_after resolved (map terms_of x)) hs i h lt e)

pub joined_end : (hs : List MergeHunk) (i : ℕ) (before : List (List (List ℕ))) (resolved : List ℕ)
    → length hs ≤ i
    → before ++ joined_after resolved (map terms_of (drop i hs)) ≡ before ++ resolved_hunk resolved
joined_end hs i before resolved le =
    at_drop_all (λ x. before ++ joined_after resolved (map terms_of x)) hs i le

-- one side more
pub sides_push : (hunks : List (List (List ℕ))) (i : ℕ) (sides : List (Vec ℕ Global)) (t : Vec ℕ Global)
    → merge_contents sides ≡ map (λ k. merged_side k hunks) (range_with_len 0 i)
    → t.items ≡ merged_side i hunks
    → merge_contents (sides ++ t ∷ []) ≡ map (λ k. merged_side k hunks) (range_with_len 0 (i + 1))
sides_push hunks i sides t before here =
    map_push (λ (x : Vec ℕ Global). x.items) sides t
    ∙ ap (λ x. x ++ t.items ∷ []) before
    ∙ ap (λ x. map (λ k. merged_side k hunks) (range_with_len 0 i) ++ x ∷ []) here
    ∙ sym (map-range_with_len_more (λ k. merged_side k hunks) 0 i i (omega arith))

pub ruleset row_steps = (resolved_row, part_single, part_within, part_past)

pub ruleset loop_steps = (resolved_step, unresolved_step, resolved_end, side_step, side_end, joined_step, joined_end)

pub ruleset sides_steps = (sides_push)
