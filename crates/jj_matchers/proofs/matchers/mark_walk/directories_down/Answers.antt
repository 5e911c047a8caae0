use Rattle.std.proofs.Common.{◌≡◌, inl, inr, length, get_or, ap, sym, ◌∙◌, ◌-◌, ◌++◌, arith}
use Rattle.jj_matchers.specs.MarkWalkInvariants.{dir_of}
use Rattle.jj_matchers.proofs.MarkWalks.{got}
use Rattle.jj_matchers.proofs.matchers.mark_walk.directories_down.Goals as goal

pub returns-in_default-strip_prefix : goal.returns-in_default-strip_prefix
returns-in_default-strip_prefix c = λ some at.
    let parent = c.in-Some.directory.now in
    let last : parent ≡ get_or c.args.stack.now (length c.args.stack.now - 1) parent = got c.args.stack.now (length c.args.stack.now - 1) parent parent c.in-Some.ensures.value in
    absurd (elim at [
      | inl none ↦ omega (arith, some, none)
      | inr below ↦ let (rest, is) = below parent in c.in_default-strip_prefix.ensures rest (is ∙ ap (λ o. dir_of o ++ rest) (sym last))
    ])
