use Rattle.std.proofs.Common.{◌≡◌, ◌∙◌, ap, sym, List, ℕ, ◌++◌, ◌∷◌, [], append_assoc, true, false, arith}
use Rattle.std.proofs.lemmas.List.Elements.{All-push}
use Rattle.jj_strings.specs.Lines.{lines, without_line_feed}
use Rattle.jj_strings.specs.StringMatchers.{InMatcher}
use Rattle.jj_strings.specs.Searchers.{searcher_matcher}
use Rattle.jj_strings.proofs.str_util.match_lines.MatchLinesIterator.next.Goals as goal

pub returns-in-Ok-true-clause-steps : goal.returns-in-Ok-true-clause-steps
returns-in-Ok-true-clause-steps g c =
    let inv = c.loop-line.invariant in
    let here = rw (c.strip_line_feed.ensures, inv.0) at (c.in-Ok-true.ensures.matches.0 c.in-Ok-true.field-0-test) in
    ((inv.1.0, inv.1.1, here, inv.1.2 ∙ ap (λ l. inv.1.0 ++ l) c.split_line.ensures.lines), c.is_match_bytes.ensures.unchanged ∙ inv.0)

pub loop-line-preserved : goal.loop-line-preserved
loop-line-preserved g c =
    let inv = c.loop-line.invariant in
    let not_here = λ (h : InMatcher (searcher_matcher c.args.self.now.searcher) (without_line_feed c.split_line.result.0.now)).
    (let back : InMatcher (searcher_matcher c.loop-line.self.searcher) c.strip_line_feed.result.now = rw (c.strip_line_feed.ensures, inv.0) h in
    let yes : c.in-Ok-false.field-0 ≡ true = c.in-Ok-false.ensures.matches.1 back in
    let no : c.in-Ok-false.field-0 ≡ false = c.in-Ok-false.field-0-test in
    let clash : ⊥ = cc in clash) in (
      c.is_match_bytes.ensures.unchanged ∙ inv.0,
      (
        inv.1.0 ++ c.split_line.result.0.now ∷ [],
        All-push (λ (x : List ℕ). InMatcher (searcher_matcher c.args.self.now.searcher) (without_line_feed x) → ⊥) inv.1.0 c.split_line.result.0.now inv.1.1 not_here,
        inv.1.2 ∙ ap (λ l. inv.1.0 ++ l) c.split_line.ensures.lines ∙ sym (append_assoc inv.1.0 (c.split_line.result.0.now ∷ []) (lines c.split_line.result.1.now)),
      ),
      omega (arith, c.split_line.ensures.shorter, inv.2),
    )
