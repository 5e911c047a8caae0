use Rattle.std.proofs.Common.{◌≡◌, ◌∙◌, ◌+◌, ◌<◌, ℕ, List, Bool, true, false, cond, ap, sym, arith, drop, get_or, length}
use Rattle.jj_program.specs.Lines.{Text, texts_of}
use Rattle.jj_program.specs.Messages.{first_wrong, is_wrong}
use Rattle.jj_program.proofs.Steps.{drop_map_next}
use Rattle.jj_program.proofs.message.first_wrong.Goals as goal

-- the next field is the first wrong one, or that is among those after it
next_field : (wrong : ℕ → List ℕ → Bool) (fields : List Text) (i : ℕ) (d : Text) → i < length fields → (found : Bool) → found ≡ wrong i (get_or fields i d).now
    → (whole : ℕ) → first_wrong wrong i (drop i (texts_of fields)) ≡ whole → cond found i (first_wrong wrong (i + 1) (drop (i + 1) (texts_of fields))) ≡ whole
next_field wrong fields i d within found is whole so_far =
    ap (λ b. cond b i (first_wrong wrong (i + 1) (drop (i + 1) (texts_of fields)))) is
    ∙ sym (ap (first_wrong wrong i) (drop_map_next (λ (field : Text). field.now) fields i d within)) ∙ so_far

pub returns-then-branch-clause-place : goal.returns-then-branch-clause-place
returns-then-branch-clause-place c =
    let i = c.loop-index.index in
    let within : i < length c.args.fields.now = omega arith in
    next_field (is_wrong c.args.shape c.args.kind) c.args.fields.now i _ within true (sym c.if-branch.true ∙ c.in_ok-is_wrong.ensures) _ c.loop-index.invariant

pub loop-index-preserved : goal.loop-index-preserved
loop-index-preserved c =
    let i = c.loop-index.index in
    let within : i < length c.args.fields.now = omega arith in
    next_field (is_wrong c.args.shape c.args.kind) c.args.fields.now i _ within false (sym c.if-branch.false ∙ c.in_ok-is_wrong.ensures) _ c.loop-index.invariant
