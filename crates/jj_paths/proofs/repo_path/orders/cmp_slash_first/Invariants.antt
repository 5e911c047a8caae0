use Rattle.std.proofs.Common.{◌≡◌, drop}
use Rattle.std.specs.Cmp.Lexicographic.{slice_cmp}
use Rattle.jj_paths.specs.Orders.{slash_cmp}
use Rattle.jj_paths.proofs.repo_path.orders.cmp_slash_first.Given as goal

-- the bytes so far are equal, so the rest determines the order
abbrev pub invariant-loop-i : goal.invariant-loop-i
invariant-loop-i l = slice_cmp slash_cmp l.mine l.theirs ≡ slice_cmp slash_cmp (drop l.i l.mine) (drop l.i l.theirs)
