use Rattle.std.proofs.Common.{subst}
use Rattle.std.specs.Ordering.{nat_cmp}
use Rattle.std.specs.List.Sorted.{IsBinarySearchResult}
use Rattle.std.specs.Prelude.{Err}
use Rattle.jj_program.proofs.Numberings.{none_missed}
use Rattle.jj_program.proofs.numbering.Numbering.number.Goals as goal

pub returns-in-Err : goal.returns-in-Err
returns-in-Err c = λ among.
    let ids = c.args.self.now.ids.items in
    absurd (none_missed ids c.args.id c.in-Err.index c.args.self.now.ascending (subst (λ xs. IsBinarySearchResult (λ y. nat_cmp y c.args.id) xs (Err c.in-Err.index)) c.deref.ensures.value c.in-Err.ensures.position) among)
