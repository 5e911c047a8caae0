-- Equality, lexicographic order and hash of paths, with their laws.
-- Cited by contracts of public items: path_cmp_total, path_eq, path_eq_equiv, path_hash,
-- path_hash-respects_eq, path_po, path_ties.
use Rattle.std.specs.Prelude.{◌≡◌, ◌==◌, ℕ, Bool, true, Some, if◌then◌else◌}
use Rattle.std.proofs.Common.{ap}
use Rattle.std.specs.Str.{bytes_eq}
use Rattle.std.specs.Bool.{Decides}
use Rattle.std.specs.Cmp.{IsEquivalence, IsTotalOrder, IsPartialOrder, po}
use Rattle.std.specs.Cmp.Lexicographic.{pointwise, pointwise_decides, bytes_decides, lists_equiv, lists_total, lists_ties, nat_list_eq_equiv, nat_list_cmp_total, texts_ties}
use Rattle.std.specs.declared.cmp.Ordering.{Ordering}
use Rattle.std.specs.declared.cmp.Ordering.TheVariants.{Less, Equal, Greater}
use Rattle.std.specs.Ordering.{nat_cmp, eq_by_cmp}
use Rattle.std.specs.Hash as fed
use Rattle.std.specs.Hash.{HashWrites}
use Rattle.jj_paths.specs.Paths.{Path, name_cmp, path_cmp, path_string}

-- equality, component by component
abbrev pub path_eq : Path → Path → Bool
path_eq = pointwise bytes_eq

pub path_eq-Decides : (a b : Path) → Decides (path_eq a b) (a ≡ b)
path_eq-Decides = pointwise_decides bytes_decides

pub path_eq_equiv : IsEquivalence path_eq
path_eq_equiv = lists_equiv nat_list_eq_equiv

pub path_cmp_total : IsTotalOrder path_cmp
path_cmp_total = lists_total nat_list_cmp_total

pub path_ties : (a b : Path) → path_eq a b ≡ eq_by_cmp path_cmp a b
path_ties = lists_ties name_cmp texts_ties

pub path_po : IsPartialOrder path_eq (λ a b. Some (path_cmp a b))
path_po = po path_cmp_total path_ties

-- the bytes that a path writes to a hasher: those of its string
abbrev pub path_hash : Path → HashWrites
path_hash path = fed.str (path_string path)

pub path_hash-respects_eq : (a b : Path) → path_eq a b ≡ true → path_hash a ≡ path_hash b
path_hash-respects_eq a b same = ap path_hash ((path_eq-Decides a b).0 same)

-- the order of bytes in which a slash (byte 47) is least
abbrev pub slash_cmp : ℕ → ℕ → Ordering
slash_cmp x y = if x == 47 then (if y == 47 then Equal else Less) else
    (if y == 47 then Greater else nat_cmp x y)
