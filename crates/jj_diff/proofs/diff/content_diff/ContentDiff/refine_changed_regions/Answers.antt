use Rattle.jj_diff.specs.Inputs.{bytes_of}
use Rattle.jj_diff.specs.Refined.{AreHunksOf, IsRefined}
use Rattle.jj_diff.proofs.Refined.{diff_of, trimmed_of, matching_of}
use Rattle.jj_diff.proofs.Kept.{keeps_of, ends_of}
use Rattle.jj_diff.proofs.diff.content_diff.ContentDiff.refine_changed_regions.Goals as goal

pub returns-clause-refined : goal.returns-clause-refined
returns-clause-refined g c = rw (c.deref.ensures.value, c.deref-2.ensures.value) at c.in_ok-hunks.ensures

pub returns-clause-diff : goal.returns-clause-diff
returns-clause-diff g c =
    let r : AreHunksOf (bytes_of c.args.self.now.inputs.items) c.args.self.now.hunks.items → IsRefined g.C.CompareBytes.canonical (g.T.Tokenizer.is_end c.args.tokenizer.now) c.args.self.now.hunks.items c.in_ok-hunks.hunks.items =
    rw (c.deref.ensures.value, c.deref-2.ensures.value) at c.in_ok-hunks.ensures in
    diff_of g.C.CompareBytes.canonical (g.T.Tokenizer.is_end c.args.tokenizer.now) (bytes_of c.args.self.now.inputs.items) c.args.self.now.hunks.items c.in_ok-hunks.hunks.items r (g.met.T.Tokenizer.tokens c.args.tokenizer.now) g.met.C.CompareBytes.joins

pub returns-clause-kept : goal.returns-clause-kept
returns-clause-kept g c =
    let r : AreHunksOf (bytes_of c.args.self.now.inputs.items) c.args.self.now.hunks.items → IsRefined g.C.CompareBytes.canonical (g.T.Tokenizer.is_end c.args.tokenizer.now) c.args.self.now.hunks.items c.in_ok-hunks.hunks.items =
    rw (c.deref.ensures.value, c.deref-2.ensures.value) at c.in_ok-hunks.ensures in
    keeps_of g.C.CompareBytes.canonical (g.T.Tokenizer.is_end c.args.tokenizer.now) (bytes_of c.args.self.now.inputs.items) c.args.self.now.hunks.items c.in_ok-hunks.hunks.items r

pub returns-clause-ends : goal.returns-clause-ends
returns-clause-ends g c =
    let r : AreHunksOf (bytes_of c.args.self.now.inputs.items) c.args.self.now.hunks.items → IsRefined g.C.CompareBytes.canonical (g.T.Tokenizer.is_end c.args.tokenizer.now) c.args.self.now.hunks.items c.in_ok-hunks.hunks.items =
    rw (c.deref.ensures.value, c.deref-2.ensures.value) at c.in_ok-hunks.ensures in
    ends_of g.C.CompareBytes.canonical (g.T.Tokenizer.is_end c.args.tokenizer.now) (bytes_of c.args.self.now.inputs.items) c.args.self.now.hunks.items c.in_ok-hunks.hunks.items r

pub returns-clause-trimmed : goal.returns-clause-trimmed
returns-clause-trimmed g c =
    let r : AreHunksOf (bytes_of c.args.self.now.inputs.items) c.args.self.now.hunks.items → IsRefined g.C.CompareBytes.canonical (g.T.Tokenizer.is_end c.args.tokenizer.now) c.args.self.now.hunks.items c.in_ok-hunks.hunks.items =
    rw (c.deref.ensures.value, c.deref-2.ensures.value) at c.in_ok-hunks.ensures in
    trimmed_of g.C.CompareBytes.canonical (g.T.Tokenizer.is_end c.args.tokenizer.now) (bytes_of c.args.self.now.inputs.items) c.args.self.now.hunks.items c.in_ok-hunks.hunks.items r

pub returns-clause-identity : goal.returns-clause-identity
returns-clause-identity g c =
    let r : AreHunksOf (bytes_of c.args.self.now.inputs.items) c.args.self.now.hunks.items → IsRefined g.C.CompareBytes.canonical (g.T.Tokenizer.is_end c.args.tokenizer.now) c.args.self.now.hunks.items c.in_ok-hunks.hunks.items =
    rw (c.deref.ensures.value, c.deref-2.ensures.value) at c.in_ok-hunks.ensures in
    matching_of g.C.CompareBytes.canonical (g.T.Tokenizer.is_end c.args.tokenizer.now) (bytes_of c.args.self.now.inputs.items) c.args.self.now.hunks.items c.in_ok-hunks.hunks.items r
