use Rattle.std.proofs.Common.{◌≡◌, ℕ, ◌<◌, ◌≤◌, List, length, get_or, arith, ap, subst, sym}
use Rattle.std.proofs.lemmas.Result.{on_ok_weaker}
use Rattle.jj_diff.specs.Inputs.{bytes_of, AreParts, AreRanges}
use Rattle.jj_diff.specs.Hunks.{IsTrimmedGap, AreSums}
use Rattle.jj_diff.specs.Anchors.{IsAnchor, HasFewTokens, IsCommonTokenBy}
use Rattle.jj_diff.proofs.Rows.{length-bytes_of}
use Rattle.jj_diff.proofs.Progress.{gap_after}
use Rattle.jj_diff.proofs.AnchorRegions.{anchor_first_within, anchor_last_within, anchor_before, anchor_cuts, anchor_match, anchor_gap, anchor_after, anchor_longer, anchor_shorter}
use Rattle.jj_diff.proofs.diff.progress.Progress.+advance.Goals as goal

pub anchor_region-requires-clause-starts_within : goal.anchor_region-requires-clause-starts_within
anchor_region-requires-clause-starts_within g t c = λ i lt.
    let gap : IsTrimmedGap (g.T.Tokenizer.is_end c.args.tokenizer.now) (bytes_of c.args.inputs.now) c.args.self.now.at.items c.args.starts.now c.in_ok-gap.gap.starts.items c.in_ok-gap.gap.ends.items = rw c.deref.ensures.value at c.in_ok-gap.ensures in
    let row : AreParts (bytes_of c.args.inputs.now) c.in_ok-gap.gap.starts.items c.in_ok-gap.gap.ends.items (bytes_of c.in_ok-row.row.items) = rw c.deref-2.ensures.value at (rw c.deref-3.ensures.value at c.in_ok-row.ensures) in
    let anchor : IsAnchor g.C.CompareBytes.canonical (g.T.Tokenizer.is_end c.args.tokenizer.now) (bytes_of c.in_ok-row.row.items) c.in-Some.anchor.starts.items c.in-Some.anchor.ends.items = rw c.deref-4.ensures.value at (rw c.in-Some.is at c.in_ok-found.ensures.anchor) in
    anchor_first_within g.C.CompareBytes.canonical (g.T.Tokenizer.is_end c.args.tokenizer.now) (bytes_of c.args.inputs.now) (bytes_of c.in_ok-row.row.items) c.args.self.now.at.items c.args.starts.now c.in_ok-gap.gap.starts.items c.in_ok-gap.gap.ends.items c.in-Some.anchor.starts.items c.in-Some.anchor.ends.items gap row anchor i (omega (arith, length-bytes_of c.args.inputs.now))

pub anchor_region-requires-clause-ends_within : goal.anchor_region-requires-clause-ends_within
anchor_region-requires-clause-ends_within g t c = λ i lt.
    let gap : IsTrimmedGap (g.T.Tokenizer.is_end c.args.tokenizer.now) (bytes_of c.args.inputs.now) c.args.self.now.at.items c.args.starts.now c.in_ok-gap.gap.starts.items c.in_ok-gap.gap.ends.items = rw c.deref.ensures.value at c.in_ok-gap.ensures in
    let row : AreParts (bytes_of c.args.inputs.now) c.in_ok-gap.gap.starts.items c.in_ok-gap.gap.ends.items (bytes_of c.in_ok-row.row.items) = rw c.deref-2.ensures.value at (rw c.deref-3.ensures.value at c.in_ok-row.ensures) in
    let anchor : IsAnchor g.C.CompareBytes.canonical (g.T.Tokenizer.is_end c.args.tokenizer.now) (bytes_of c.in_ok-row.row.items) c.in-Some.anchor.starts.items c.in-Some.anchor.ends.items = rw c.deref-4.ensures.value at (rw c.in-Some.is at c.in_ok-found.ensures.anchor) in
    anchor_last_within g.C.CompareBytes.canonical (g.T.Tokenizer.is_end c.args.tokenizer.now) (bytes_of c.args.inputs.now) (bytes_of c.in_ok-row.row.items) c.args.self.now.at.items c.args.starts.now c.in_ok-gap.gap.starts.items c.in_ok-gap.gap.ends.items c.in-Some.anchor.starts.items c.in-Some.anchor.ends.items gap row anchor i (omega (arith, length-bytes_of c.args.inputs.now))

pub advance-requires : goal.advance-requires
advance-requires g t c κs within =
    let gap : IsTrimmedGap (g.T.Tokenizer.is_end c.args.tokenizer.now) (bytes_of c.args.inputs.now) c.args.self.now.at.items c.args.starts.now c.in_ok-gap.gap.starts.items c.in_ok-gap.gap.ends.items = rw c.deref.ensures.value at c.in_ok-gap.ensures in
    let row : AreParts (bytes_of c.args.inputs.now) c.in_ok-gap.gap.starts.items c.in_ok-gap.gap.ends.items (bytes_of c.in_ok-row.row.items) = rw c.deref-2.ensures.value at (rw c.deref-3.ensures.value at c.in_ok-row.ensures) in
    let anchor : IsAnchor g.C.CompareBytes.canonical (g.T.Tokenizer.is_end c.args.tokenizer.now) (bytes_of c.in_ok-row.row.items) c.in-Some.anchor.starts.items c.in-Some.anchor.ends.items = rw c.deref-4.ensures.value at (rw c.in-Some.is at c.in_ok-found.ensures.anchor) in
    let firsts : AreSums (bytes_of c.args.inputs.now) c.in_ok-gap.gap.starts.items c.in-Some.anchor.starts.items c.as_slice-first.result.now =
    subst (AreSums (bytes_of c.args.inputs.now) c.in_ok-gap.gap.starts.items c.in-Some.anchor.starts.items) (sym c.as_slice-first.ensures.value) c.in_ok-region-in-Some.ensures.starts in
    let lasts : AreSums (bytes_of c.args.inputs.now) c.in_ok-gap.gap.starts.items c.in-Some.anchor.ends.items c.as_slice-last.result.now =
    subst (AreSums (bytes_of c.args.inputs.now) c.in_ok-gap.gap.starts.items c.in-Some.anchor.ends.items) (sym c.as_slice-last.ensures.value) c.in_ok-region-in-Some.ensures.ends in
    let some : 0 < length (bytes_of c.args.inputs.now) = omega (arith, c.requires.some, length-bytes_of c.args.inputs.now) in
    let shorter : get_or c.as_slice-first.result.now 0 0 < get_or c.args.starts.now 0 0 = anchor_shorter g.C.CompareBytes.canonical (g.T.Tokenizer.is_end c.args.tokenizer.now) (bytes_of c.args.inputs.now) (bytes_of c.in_ok-row.row.items) c.args.self.now.at.items c.args.starts.now c.in_ok-gap.gap.starts.items c.in_ok-gap.gap.ends.items c.in-Some.anchor.starts.items c.in-Some.anchor.ends.items gap row anchor c.as_slice-first.result.now c.as_slice-last.result.now firsts lasts some in
    let after : get_or c.args.self.now.at.items 0 0 ≤ get_or c.as_slice-first.result.now 0 0 = (anchor_before g.C.CompareBytes.canonical (g.T.Tokenizer.is_end c.args.tokenizer.now) (bytes_of c.args.inputs.now) (bytes_of c.in_ok-row.row.items) c.args.self.now.at.items c.args.starts.now c.in_ok-gap.gap.starts.items c.in_ok-gap.gap.ends.items c.in-Some.anchor.starts.items c.in-Some.anchor.ends.items gap row anchor c.as_slice-first.result.now c.as_slice-last.result.now firsts lasts).ordered 0 some in (
      omega arith,
      (
        within.0,
        (
          within.1,
          (
            c.requires.some,
            (
              c.requires.progress,
              (
                c.requires.gap,
                (
                  anchor_before g.C.CompareBytes.canonical (g.T.Tokenizer.is_end c.args.tokenizer.now) (bytes_of c.args.inputs.now) (bytes_of c.in_ok-row.row.items) c.args.self.now.at.items c.args.starts.now c.in_ok-gap.gap.starts.items c.in_ok-gap.gap.ends.items c.in-Some.anchor.starts.items c.in-Some.anchor.ends.items gap row anchor c.as_slice-first.result.now c.as_slice-last.result.now firsts lasts,
                  (anchor_cuts g.C.CompareBytes.canonical (g.T.Tokenizer.is_end c.args.tokenizer.now) (bytes_of c.args.inputs.now) (bytes_of c.in_ok-row.row.items) c.args.self.now.at.items c.args.starts.now c.in_ok-gap.gap.starts.items c.in_ok-gap.gap.ends.items c.in-Some.anchor.starts.items c.in-Some.anchor.ends.items gap row anchor c.as_slice-first.result.now c.as_slice-last.result.now firsts lasts (g.met.T.Tokenizer.tokens c.args.tokenizer.now), anchor_match g.C.CompareBytes.canonical (g.T.Tokenizer.is_end c.args.tokenizer.now) (bytes_of c.args.inputs.now) (bytes_of c.in_ok-row.row.items) c.args.self.now.at.items c.args.starts.now c.in_ok-gap.gap.starts.items c.in_ok-gap.gap.ends.items c.in-Some.anchor.starts.items c.in-Some.anchor.ends.items gap row anchor c.as_slice-first.result.now c.as_slice-last.result.now firsts lasts (g.met.T.Tokenizer.tokens c.args.tokenizer.now)),
                ),
              ),
            ),
          ),
        ),
      ),
    )

pub advance-requires-in-Some : goal.advance-requires-in-Some
advance-requires-in-Some g t c κs within =
    let gap : IsTrimmedGap (g.T.Tokenizer.is_end c.args.tokenizer.now) (bytes_of c.args.inputs.now) c.args.self.now.at.items c.args.starts.now c.in_ok-gap.gap.starts.items c.in_ok-gap.gap.ends.items = rw c.deref.ensures.value at c.in_ok-gap.ensures in
    let row : AreParts (bytes_of c.args.inputs.now) c.in_ok-gap.gap.starts.items c.in_ok-gap.gap.ends.items (bytes_of c.in_ok-row.row.items) = rw c.deref-2.ensures.value at (rw c.deref-3.ensures.value at c.in_ok-row.ensures) in
    let anchor : IsAnchor g.C.CompareBytes.canonical (g.T.Tokenizer.is_end c.args.tokenizer.now) (bytes_of c.in_ok-row.row.items) c.in-Some.anchor.starts.items c.in-Some.anchor.ends.items = rw c.deref-4.ensures.value at (rw c.in-Some.is at c.in_ok-found.ensures.anchor) in
    let firsts : AreSums (bytes_of c.args.inputs.now) c.in_ok-gap.gap.starts.items c.in-Some.anchor.starts.items c.as_slice-first.result.now =
    subst (AreSums (bytes_of c.args.inputs.now) c.in_ok-gap.gap.starts.items c.in-Some.anchor.starts.items) (sym c.as_slice-first.ensures.value) c.in_ok-region-in-Some.ensures.starts in
    let lasts : AreSums (bytes_of c.args.inputs.now) c.in_ok-gap.gap.starts.items c.in-Some.anchor.ends.items c.as_slice-last.result.now =
    subst (AreSums (bytes_of c.args.inputs.now) c.in_ok-gap.gap.starts.items c.in-Some.anchor.ends.items) (sym c.as_slice-last.ensures.value) c.in_ok-region-in-Some.ensures.ends in
    let some : 0 < length (bytes_of c.args.inputs.now) = omega (arith, c.requires.some, length-bytes_of c.args.inputs.now) in
    let after : get_or c.args.self.now.at.items 0 0 ≤ get_or c.as_slice-first.result.now 0 0 = (anchor_before g.C.CompareBytes.canonical (g.T.Tokenizer.is_end c.args.tokenizer.now) (bytes_of c.args.inputs.now) (bytes_of c.in_ok-row.row.items) c.args.self.now.at.items c.args.starts.now c.in_ok-gap.gap.starts.items c.in_ok-gap.gap.ends.items c.in-Some.anchor.starts.items c.in-Some.anchor.ends.items gap row anchor c.as_slice-first.result.now c.as_slice-last.result.now firsts lasts).ordered 0 some in
    let longer : get_or c.as_slice-first.result.now 0 0 < get_or c.as_slice-last.result.now 0 0 = anchor_longer g.C.CompareBytes.canonical (g.T.Tokenizer.is_end c.args.tokenizer.now) (bytes_of c.args.inputs.now) (bytes_of c.in_ok-row.row.items) c.args.self.now.at.items c.args.starts.now c.in_ok-gap.gap.starts.items c.in_ok-gap.gap.ends.items c.in-Some.anchor.starts.items c.in-Some.anchor.ends.items gap row anchor c.as_slice-first.result.now c.as_slice-last.result.now firsts lasts some in
    let before : get_or c.as_slice-last.result.now 0 0 ≤ get_or c.args.starts.now 0 0 = (anchor_after g.C.CompareBytes.canonical (g.T.Tokenizer.is_end c.args.tokenizer.now) (bytes_of c.args.inputs.now) (bytes_of c.in_ok-row.row.items) c.args.self.now.at.items c.args.starts.now c.in_ok-gap.gap.starts.items c.in_ok-gap.gap.ends.items c.in-Some.anchor.starts.items c.in-Some.anchor.ends.items gap row anchor c.as_slice-first.result.now c.as_slice-last.result.now firsts lasts).ordered 0 some in
    let moved : get_or c.advance.new.self.at.items 0 0 ≡ get_or c.as_slice-last.result.now 0 0 = ap (λ xs. get_or xs 0 0) c.in_ok-advance-in-Some.ensures.at in (
      omega arith,
      (
        within.0,
        (
          within.1,
          (
            c.requires.some,
            (
              c.in_ok-advance-in-Some.ensures.progress,
              (
                gap_after g.C.CompareBytes.canonical (g.T.Tokenizer.is_end c.args.tokenizer.now) (bytes_of c.args.inputs.now) c.advance.new.self.hunks.items c.advance.new.self.from.items c.advance.new.self.at.items
                    c.as_slice-first.result.now c.as_slice-last.result.now c.in_ok-advance-in-Some.ensures.from (anchor_gap g.C.CompareBytes.canonical (g.T.Tokenizer.is_end c.args.tokenizer.now) (bytes_of c.args.inputs.now) (bytes_of c.in_ok-row.row.items) c.args.self.now.at.items c.args.starts.now c.in_ok-gap.gap.starts.items c.in_ok-gap.gap.ends.items c.in-Some.anchor.starts.items c.in-Some.anchor.ends.items gap row anchor c.as_slice-first.result.now c.as_slice-last.result.now firsts lasts some) c.in_ok-advance-in-Some.ensures.at,
                (
                  subst (λ xs. AreRanges (bytes_of c.args.inputs.now) xs c.args.starts.now) (sym c.in_ok-advance-in-Some.ensures.at) (anchor_after g.C.CompareBytes.canonical (g.T.Tokenizer.is_end c.args.tokenizer.now) (bytes_of c.args.inputs.now) (bytes_of c.in_ok-row.row.items) c.args.self.now.at.items c.args.starts.now c.in_ok-gap.gap.starts.items c.in_ok-gap.gap.ends.items c.in-Some.anchor.starts.items c.in-Some.anchor.ends.items gap row anchor c.as_slice-first.result.now c.as_slice-last.result.now firsts lasts),
                  (c.requires.cuts, c.requires.next),
                ),
              ),
            ),
          ),
        ),
      ),
    )

pub pass-requires-clause-once : goal.pass-requires-clause-once
pass-requires-clause-once g t c =
    subst (λ xs. HasFewTokens (g.T.Tokenizer.is_end c.args.tokenizer.now) (bytes_of xs) → (token : List ℕ) → ¬ (IsCommonTokenBy g.C.CompareBytes.canonical (g.T.Tokenizer.is_end c.args.tokenizer.now) (bytes_of xs) token))
    c.deref-4.ensures.value (c.in_ok-found.ensures.none c.in-None.is)

pub returns-in_ok-advance-in-Some-clause-start : goal.returns-in_ok-advance-in-Some-clause-start
returns-in_ok-advance-in-Some-clause-start g t c =
    on_ok_weaker c.advance-in-Some.result (λ later n starts. later n (c.in_ok-advance-in-Some.ensures.start n starts)) c.advance-in-Some.ensures.start
