use Rattle.std.proofs.Common.{ℕ, List, sym, ap, ◌∙◌, refl, Ok}
use Rattle.jj_diff_presentation.specs.Lines.{split_lines}
use Rattle.jj_diff_presentation.specs.Applying.{Applying, run, patch_lines}
use Rattle.jj_diff_presentation.specs.Views.{state_view}
use Rattle.jj_diff_presentation.specs.declared.unified.patch.PatchPart.TheVariants.{Preamble}
use Rattle.jj_diff_presentation.proofs.Applying.{applied_whole}
use Rattle.jj_diff_presentation.proofs.unified.patch.apply_patch.Goals as goal

pub returns-in-Ok-extend_from_slice : goal.returns-in-Ok-extend_from_slice
returns-in-Ok-extend_from_slice c =
    let first : List ℕ → Applying = λ output. record {
      part = Preamble;
      rest = split_lines c.args.left.now;
      position = 0;
      output = output;
      left = 0;
      right = 0;
    } in
    applied_whole c.args.left.now c.args.patch.now (state_view c.push_lines.new.state) c.in-Ok.number
    c.push_lines.new.state.rest.now
    (ap (λ o. run (first o) (patch_lines 1 (split_lines c.args.patch.now)))
    (sym c.new.ensures.items) ∙ c.in-Ok.ensures.0)
    c.in-Ok.ensures.1 (sym c.missing_at_end.ensures ∙ c.in-None.is) refl
    ∙ ap (λ b. Ok b) (sym c.in-Ok-extend_from_slice.ensures.items)
