use Rattle.std.proofs.Common.{◌≡◌, ◌∙◌, ◌||◌, [], true, false, sym, ap, subst, append-nil}
use Rattle.std.proofs.lemmas.List.{take_all}
use Rattle.std.specs.Io.KnownBytes.{Appends}
use Rattle.jj_filter.proofs.ReportedLines.{line_of, line_next, line_prefix, written_all}
use Rattle.jj_filter.proofs.report.write_parts.Goals as goal

pub loop-index-preserved : goal.loop-index-preserved
loop-index-preserved g c =
    line_next c.args.parts.now c.loop-index.index _ _ c.as_bytes.ensures.value c.loop-index-test.true _ _ _ c.loop-index.invariant
    (written_all c.write_all.result _ c.write_all.ensures.ok c.if-is_err.ensures.value)

pub returns-then-is_err : goal.returns-then-is_err
returns-then-is_err g c =
    let failed = c.write_all.ensures.failure ∙ ap (λ b. b || g.E.Sink.has_failed c.loop-index.errors) (sym c.if-is_err.ensures.value) in (
      line_prefix c.args.parts.now c.loop-index.index _ _ c.as_bytes.ensures.value c.loop-index-test.true _ _ _ c.loop-index.invariant c.write_all.ensures.prefix,
      λ works. let h : true ≡ false = sym failed ∙ works in cc h,
    )

pub returns : goal.returns
returns g c =
    let all = ap line_of (take_all c.loop-index.index c.args.parts.now c.loop-index-test.false) in
    let whole = subst (λ l. Appends (g.E.Sink.contents c.args.errors.now) (g.E.Sink.contents c.loop-index.errors) l) all c.loop-index.invariant in
    ((line_of c.args.parts.now, [], whole, append-nil (line_of c.args.parts.now)), λ _. whole)
