use Rattle.std.proofs.Common.{rules, ◌≡◌, ◌∙◌, ◌∷◌, ◌||◌, Bool, true, false, ap, sym}
use Rattle.std.specs.List.{list_any}
use Rattle.jj_backend.specs.MergedTreeValues.{Values}
use Rattle.jj_file_merges.specs.Markings.{is_executable}
use Rattle.jj_file_merges.proofs.marking.has_executable_side.Goals as goal

pub loop-value-preserved : goal.loop-value-preserved
loop-value-preserved c =
    let left = c.next.new.self in
    let next : c.loop-value.value-iterator ≡ c.in-Some.value.now ∷ left = search rules in
    let plain : is_executable c.in-Some.value.now ≡ false = search rules in
    record {
      can = search rules;
      ends = search rules;
      left = sym (ap (λ (b : Bool). b || list_any is_executable left) plain) ∙ ap (λ (l : Values). list_any is_executable l) (sym next) ∙ c.loop-value.invariant.left;
    }

pub returns-then-is_executable : goal.returns-then-is_executable
returns-then-is_executable c =
    let left = c.next.new.self in
    let next : c.loop-value.value-iterator ≡ c.in-Some.value.now ∷ left = search rules in
    let has : is_executable c.in-Some.value.now ≡ true = search rules in
    sym (ap (λ (b : Bool). b || list_any is_executable left) has) ∙ ap (λ (l : Values). list_any is_executable l) (sym next) ∙ c.loop-value.invariant.left
