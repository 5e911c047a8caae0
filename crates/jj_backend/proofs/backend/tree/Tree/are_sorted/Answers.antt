use Rattle.std.proofs.Common.{◌≡◌, ◌∙◌, ◌-◌, suc, get_or, sym, subst, arith}
use Rattle.jj_backend.proofs.SortedEntries.{sorted, unsorted}
use Rattle.jj_backend.proofs.backend.tree.Tree.are_sorted.Goals as goal

pub returns-then-not-precedes : goal.returns-then-not-precedes
returns-then-not-precedes c =
    let es = c.args.entries.now in
    let i = c.loop-i.i in
    let after = c.index-entries-i-in-loop-i.result in
    let next : i ≡ suc (i - 1) = omega arith in
    let at : after ≡ get_or es (suc (i - 1)) after = subst (λ n. after ≡ get_or es n after) next c.index-entries-i-in-loop-i.is in
    sym (unsorted es (i - 1) c.index-entries-i.result after (omega arith) c.index-entries-i.is at (sym c.precedes.ensures ∙ c.if-not-precedes.true))

pub returns : goal.returns
returns c = sym (sorted c.args.entries.now (λ k d lt. c.loop-i.invariant k d (omega arith)))
