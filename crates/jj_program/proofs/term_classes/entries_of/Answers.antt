use Rattle.std.proofs.Common.{◌≡◌, ◌∙◌, ◌+◌, ◌<◌, ◌++◌, ◌∷◌, [], All, add-one, ap, arith, get_or, length, map, subst, sym}
use Rattle.std.specs.List.{range_with_len}
use Rattle.std.proofs.lemmas.List.{get_or_default, map_push}
use Rattle.std.proofs.lemmas.List.Elements.{All-push}
use Rattle.std.proofs.lemmas.List.FromFn.{get_or-range_with_len, length-range_with_len}
use Rattle.jj_merges.proofs.SideAppend.{range_with_len-push}
use Rattle.jj_program.specs.TermClasses.{Entry, IsEntryOf, index_of}
use Rattle.jj_program.specs.TextKeys.{IsKeyOf}
use Rattle.jj_program.proofs.ClassedTerms.{no_text}
use Rattle.jj_program.proofs.term_classes.entries_of.Goals as goal

pub loop-index-preserved : goal.loop-index-preserved
loop-index-preserved c =
    let terms = c.args.terms.now in
    let index = c.loop-index.index in
    let before = c.loop-index.entries.items in
    let term = get_or terms index no_text in
    let entry : Entry = (c.key_of.result, term, index) in
    let key : IsKeyOf term.now c.key_of.result = subst (λ bytes. IsKeyOf bytes c.key_of.result) c.as_bytes.ensures.value c.key_of.ensures in
    let is : IsEntryOf terms entry = (key, c.loop-index-test.true, λ d. ap (λ t. t.now) (get_or_default terms index d no_text c.loop-index-test.true)) in
    let items : c.push.new.self.items ≡ before ++ entry ∷ [] = c.in_ok-push.ensures.items in
    let at : 0 + index ≡ index = omega arith in (
      subst (All (IsEntryOf terms)) (sym items) (All-push (IsEntryOf terms) before entry c.loop-index.invariant.0 is),
      ap (map index_of) items ∙ map_push index_of before entry ∙ ap (λ xs. xs ++ index ∷ []) c.loop-index.invariant.1
          ∙ sym (ap (range_with_len 0) (add-one index) ∙ range_with_len-push 0 index ∙ ap (λ k. range_with_len 0 index ++ k ∷ []) at),
    )

pub returns : goal.returns
returns c =
    let entries = c.loop-index.entries.items in
    let end = c.loop-index.index in
    let size = ap length c.loop-index.invariant.1 ∙ length-range_with_len 0 end in (
      c.loop-index.invariant.0,
      λ index within.
          let inside : index < end = omega arith in
          let at : 0 + index ≡ index = omega arith in
          (index, omega (arith, size), ap (λ xs. get_or xs index index) c.loop-index.invariant.1 ∙ get_or-range_with_len 0 end index index inside ∙ at),
    )
