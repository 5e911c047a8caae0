use Rattle.std.proofs.Common.{◌∙◌, sym}
use Rattle.std.proofs.lemmas.Slice.Eq.{bytes_eq-Decides}
use Rattle.jj_backend_tests.proofs.callers.have_equal_content.Goals as goal

pub returns : goal.returns
returns c =
    let law = c.content_decides.ensures c.args.a.now c.args.b.now c.in_ok-first.ensures.value c.in_ok-second.ensures.value in
    let decides = bytes_eq-Decides c.in_ok-first.first.items c.in_ok-second.second.items in (
      λ same. law.0 (sym c.in_ok-first.ensures.bytes ∙ (decides.0 (sym c.eq.ensures ∙ same) ∙ c.in_ok-second.ensures.bytes)),
      λ equal. c.eq.ensures ∙ decides.1 (c.in_ok-first.ensures.bytes ∙ (law.1 equal ∙ sym c.in_ok-second.ensures.bytes)),
    )
