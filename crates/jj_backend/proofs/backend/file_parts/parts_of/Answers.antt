use Rattle.std.proofs.Common.{◌≡◌, ◌∙◌, ◌++◌, Some, length, map, sym, ap, subst, arith}
use Rattle.std.proofs.lemmas.List.{at_drop_all, length_push, append-nil}
use Rattle.std.specs.Option.{option_map}
use Rattle.jj_merges.specs.Merge.{IsOdd}
use Rattle.jj_backend.specs.MergedTreeValues.{parts}
use Rattle.jj_backend.proofs.MergedTreeValues.{parts-start, parts-next_at, parts-missing_at}
use Rattle.jj_backend.proofs.backend.file_parts.parts_of.Goals as goal

pub loop-term-init : goal.loop-term-init
loop-term-init g c =
    let seen = option_map g.T.AsTreeValue.value_of in record {
      made = rw c.new-images.ensures.items (parts-start g.P.FilePart.part_of (map seen c.as_slice-values.result.now));
      counted = ap length c.new-images.ensures.items;
    }

pub loop-term-preserved : goal.loop-term-preserved
loop-term-preserved g c = record {
  made = rw c.in_ok-push-in-Some.ensures.ok (parts-next_at g.P.FilePart.part_of (option_map g.T.AsTreeValue.value_of) c.as_slice-values.result.now c.loop-term.term-index c.term-item.result c.loop-term-test.true c.term-item.is c.loop-term.images.items _ c.loop-term.invariant.made c.in-Some.part (sym c.in-Some.is ∙ c.in_ok-part.ensures));
  counted = omega (arith, ap length c.in_ok-push-in-Some.ensures.ok, length_push c.loop-term.images.items c.in-Some.part, c.loop-term.invariant.counted);
}

pub returns-in-None-clause-parts : goal.returns-in-None-clause-parts
returns-in-None-clause-parts g c =
    sym (parts-missing_at g.P.FilePart.part_of (option_map g.T.AsTreeValue.value_of) c.as_slice-values.result.now c.loop-term.term-index c.term-item.result c.loop-term-test.true c.term-item.is c.loop-term.images.items _ c.loop-term.invariant.made (sym c.in-None.is ∙ c.in_ok-part.ensures))
    ∙ ap (λ ts. parts g.P.FilePart.part_of (map (option_map g.T.AsTreeValue.value_of) ts)) c.as_slice-values.ensures.terms

pub returns : goal.returns
returns g c =
    let part_of = g.P.FilePart.part_of in
    let seen = option_map g.T.AsTreeValue.value_of in
    let xs = c.as_slice-values.result.now in
    let done = c.loop-term.images.items in
    let end = at_drop_all (λ ts. option_map (λ rest. done ++ rest) (parts part_of (map seen ts))) xs c.loop-term.term-index c.loop-term-test.false in
    let long : length done ≡ length c.args.terms.now = omega (arith, c.loop-term.invariant.counted, ap length c.as_slice-values.ensures.terms) in record {
      parts = ap Some (sym (append-nil done)) ∙ sym (c.loop-term.invariant.made ∙ end) ∙ ap (λ ts. parts part_of (map seen ts)) c.as_slice-values.ensures.terms;
      odd = subst IsOdd (sym long) c.as_slice-values.ensures.odd;
    }
