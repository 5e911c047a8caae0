use Rattle.jj_diff.specs.Inputs.{bytes_of}
use Rattle.jj_diff.proofs.Progress.{gap_after}
use Rattle.jj_diff.proofs.diff.hunks.push_region.Goals as goal

pub advance-requires-clause-ranges : goal.advance-requires-clause-ranges
advance-requires-clause-ranges g c = rw c.deref.ensures.value at (c.in_ok-fits.ensures c.if-not-fits.false).before

pub advance-requires-clause-cuts : goal.advance-requires-clause-cuts
advance-requires-clause-cuts g c = (c.in_ok-fits.ensures c.if-not-fits.false).cuts

pub advance-requires-clause-next : goal.advance-requires-clause-next
advance-requires-clause-next g c = (c.in_ok-fits.ensures c.if-not-fits.false).next

pub returns-clause-gap : goal.returns-clause-gap
returns-clause-gap g c =
    gap_after g.C.CompareBytes.canonical (g.T.Tokenizer.is_end c.args.tokenizer.now) (bytes_of c.args.inputs.now) c.advance.new.self.hunks.items c.advance.new.self.from.items c.advance.new.self.at.items
    c.as_slice-starts.result.now c.as_slice-ends.result.now c.in_ok-advance.ensures.from
    (c.in_ok-fits.ensures c.if-not-fits.false).gap c.in_ok-advance.ensures.at

pub returns-clause-ranges : goal.returns-clause-ranges
returns-clause-ranges g c = rw c.in_ok-advance.ensures.at (c.in_ok-fits.ensures c.if-not-fits.false).after
