-- The lexicographic order of copy histories by path, parents and salt, with its laws, and the hash
-- input of a copy history.
-- Cited by contracts of public items: copy_history_cmp, copy_history_cmp_total, copy_history_hash,
-- copy_history_hash-respects_eq, copy_history_po, copy_history_ties.
use Rattle.std.specs.Prelude.{◌≡◌, ◌++◌, ◌&&◌, Bool, true, false, Some}
use Rattle.std.proofs.Common.{ap, ap₂, sym, refl, true≢false, ◌∙◌}
use Rattle.std.specs.Cmp.{IsTotalOrder, IsPartialOrder, on_total, then_total, po}
use Rattle.std.specs.Cmp.Lexicographic.{slice_cmp, pointwise_decides, bytes_decides, lists_total, lists_ties, nat_list_cmp_total, texts_ties}
use Rattle.std.specs.Hash as fed
use Rattle.std.specs.Hash.{HashWrites}
use Rattle.std.specs.Ordering.{nat_cmp, then_cmp, on, eq_by_cmp, is_eq, ordering_then}
use Rattle.std.specs.declared.cmp.Ordering.{Ordering}
use Rattle.std.specs.declared.cmp.Ordering.TheVariants.{Less, Equal, Greater}
use Rattle.jj_paths.specs.Orders.{path_eq, path_cmp_total, path_ties, path_hash, path_hash-respects_eq}
use Rattle.jj_paths.specs.Paths.{path_cmp}
use Rattle.jj_backend.specs.Records.{CopyHistoryValue, copy_history_eq}

-- compares the paths, then the lists of parents, then the salts
abbrev pub copy_history_cmp : CopyHistoryValue → CopyHistoryValue → Ordering
copy_history_cmp = then_cmp (on (λ h. h.current_path) path_cmp)
    (then_cmp (on (λ h. h.parents) (slice_cmp (slice_cmp nat_cmp)))
    (on (λ h. h.salt) (slice_cmp nat_cmp)))

pub copy_history_cmp_total : IsTotalOrder copy_history_cmp
copy_history_cmp_total = then_total (on_total (λ h. h.current_path) path_cmp_total)
    (then_total (on_total (λ h. h.parents) (lists_total nat_list_cmp_total))
    (on_total (λ h. h.salt) nat_list_cmp_total))

then_is_eq : (r s : Ordering) → (is_eq r && is_eq s) ≡ is_eq (ordering_then r s)
then_is_eq Less s = refl
then_is_eq Equal s = refl
then_is_eq Greater s = refl

both : (a b : Bool) (r s : Ordering) → a ≡ is_eq r → b ≡ is_eq s
    → (a && b) ≡ is_eq (ordering_then r s)
both a b r s p q = ap₂ (λ x y. x && y) p q ∙ then_is_eq r s

pub copy_history_ties : (a b : CopyHistoryValue)
    → copy_history_eq a b ≡ eq_by_cmp copy_history_cmp a b
copy_history_ties a b =
    let parents = lists_ties (slice_cmp nat_cmp) texts_ties a.parents b.parents in
    both _ _ _ _ (path_ties a.current_path b.current_path)
    (both _ _ _ _ parents (texts_ties a.salt b.salt))

pub copy_history_po : IsPartialOrder copy_history_eq (λ a b. Some (copy_history_cmp a b))
copy_history_po = po copy_history_cmp_total copy_history_ties

-- ---- hash

-- the hash input of a copy history: of its path, its parents and its salt
abbrev pub copy_history_hash : CopyHistoryValue → HashWrites
copy_history_hash h = path_hash h.current_path ++ fed.slice (fed.slice fed.u8) h.parents
    ++ fed.slice fed.u8 h.salt

first_true : (a b : Bool) → (a && b) ≡ true → a ≡ true
first_true true b h = refl
first_true false b h = h

second_true : (a b : Bool) → (a && b) ≡ true → b ≡ true
second_true true b h = h
second_true false b h = absurd (true≢false (sym h))

pub copy_history_hash-respects_eq : (a b : CopyHistoryValue) → copy_history_eq a b ≡ true
    → copy_history_hash a ≡ copy_history_hash b
copy_history_hash-respects_eq a b same =
    let path = first_true (path_eq a.current_path b.current_path) _ same in
    let others = second_true (path_eq a.current_path b.current_path) _ same in
    let parents = (pointwise_decides bytes_decides a.parents b.parents).0 (first_true _ _ others) in
    let salt = (bytes_decides a.salt b.salt).0 (second_true _ _ others) in
    let join : HashWrites → HashWrites → HashWrites = λ x y. x ++ y in
    let paths = path_hash-respects_eq a.current_path b.current_path path in
    ap₂ join (ap₂ join paths (ap (fed.slice (fed.slice fed.u8)) parents))
    (ap (fed.slice fed.u8) salt)
