use Rattle.std.proofs.Common.{◌≡◌, ◌∙◌, ◌<◌, ◌/◌, ◌%◌, ◌↔◌, ℕ, List, length, arith, ap, subst, sym, refl, rules}
use Rattle.jj_globs.specs.GlobNfa.{HasBit}
use Rattle.jj_globs.specs.GlobTables.{Takes}
use Rattle.jj_globs.proofs.BitTables.{no_bit, tables_built}
use Rattle.jj_globs.proofs.glob.bit_tables.BitTables.build.Goals as goal

pub insert_steps-requires-clause-none : goal.insert_steps-requires-clause-none
insert_steps-requires-clause-none c = no_bit _ 256 refl

pub returns : goal.returns
returns c =
    let same : c.in_ok-to_vec.field-0.items ≡ c.insert_steps.new.takes = c.in_ok-to_vec.ensures.items_if_clones_equal (search rules) in
    tables_built c.args.options c.args.steps.now _ c.requires.size (ap (λ (ws : List ℕ). length ws) same ∙ c.insert_steps.ensures.len)
    (subst (λ (ws : List ℕ). (j : ℕ) → j / 64 < 256 → HasBit ws j ↔ Takes c.args.options c.args.steps.now (j / 64) (j % 64)) (sym same) c.insert_steps.ensures.live)
    c.in_ok-follow_of.ensures.0 c.in_ok-follow_of.ensures.1 (c.find_closures.ensures.closed 0 (omega arith))
