use Rattle.jj_diff.specs.Tokens.{is_line_end, is_word_end}
use Rattle.jj_diff.specs.Tokenizers.{lines_end_words, word_tokens}
use Rattle.jj_diff.specs.Inputs.{bytes_of}
use Rattle.jj_diff.specs.Compare.{joins_exactly}
use Rattle.jj_diff.specs.Refined.{AreHunksOf, IsRefined}
use Rattle.jj_diff.proofs.Refined.{diff_of, trimmed_of, matching_of, hunks_of_diff}
use Rattle.jj_diff.proofs.Kept.{lines_refined, lines_ends}
use Rattle.jj_diff.proofs.diff.content_diff.diff.Goals as goal

pub returns-clause-diff : goal.returns-clause-diff
returns-clause-diff c =
    let r : AreHunksOf (bytes_of c.args.inputs.now) c.in_ok-lines.lines.items → IsRefined (λ text. text) is_word_end c.in_ok-lines.lines.items c.in_ok-hunks.hunks.items = rw c.deref.ensures.value at c.in_ok-hunks.ensures in
    diff_of (λ text. text) is_word_end (bytes_of c.args.inputs.now) c.in_ok-lines.lines.items c.in_ok-hunks.hunks.items r word_tokens joins_exactly is_line_end lines_end_words c.in_ok-lines.ensures.diff

pub returns-clause-refined : goal.returns-clause-refined
returns-clause-refined c =
    let r : AreHunksOf (bytes_of c.args.inputs.now) c.in_ok-lines.lines.items → IsRefined (λ text. text) is_word_end c.in_ok-lines.lines.items c.in_ok-hunks.hunks.items = rw c.deref.ensures.value at c.in_ok-hunks.ensures in
    lines_refined (bytes_of c.args.inputs.now) c.in_ok-lines.lines.items c.in_ok-hunks.hunks.items c.in_ok-lines.ensures.diff r c.in_ok-lines.ensures.ends c.in_ok-lines.ensures.trimmed

pub returns-clause-ends : goal.returns-clause-ends
returns-clause-ends c =
    let r : AreHunksOf (bytes_of c.args.inputs.now) c.in_ok-lines.lines.items → IsRefined (λ text. text) is_word_end c.in_ok-lines.lines.items c.in_ok-hunks.hunks.items = rw c.deref.ensures.value at c.in_ok-hunks.ensures in
    lines_ends (bytes_of c.args.inputs.now) c.in_ok-lines.lines.items c.in_ok-hunks.hunks.items c.in_ok-lines.ensures.diff r c.in_ok-lines.ensures.ends

pub returns-clause-trimmed : goal.returns-clause-trimmed
returns-clause-trimmed c =
    let r : AreHunksOf (bytes_of c.args.inputs.now) c.in_ok-lines.lines.items → IsRefined (λ text. text) is_word_end c.in_ok-lines.lines.items c.in_ok-hunks.hunks.items = rw c.deref.ensures.value at c.in_ok-hunks.ensures in
    trimmed_of (λ text. text) is_word_end (bytes_of c.args.inputs.now) c.in_ok-lines.lines.items c.in_ok-hunks.hunks.items r
    (hunks_of_diff (λ text. text) is_line_end (bytes_of c.args.inputs.now) c.in_ok-lines.lines.items c.in_ok-lines.ensures.diff)

pub returns-clause-identity : goal.returns-clause-identity
returns-clause-identity c = λ equal.
    let r : AreHunksOf (bytes_of c.args.inputs.now) c.in_ok-lines.lines.items → IsRefined (λ text. text) is_word_end c.in_ok-lines.lines.items c.in_ok-hunks.hunks.items = rw c.deref.ensures.value at c.in_ok-hunks.ensures in
    matching_of (λ text. text) is_word_end (bytes_of c.args.inputs.now) c.in_ok-lines.lines.items c.in_ok-hunks.hunks.items r
    (hunks_of_diff (λ text. text) is_line_end (bytes_of c.args.inputs.now) c.in_ok-lines.lines.items c.in_ok-lines.ensures.diff)
    (c.in_ok-lines.ensures.identity equal)
