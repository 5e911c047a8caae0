use Rattle.std.proofs.Common.{[], ◌∷◌, map, arith, length-append}
use Rattle.jj_content_merges.specs.Files.{terms_of}
use Rattle.jj_content_merges.proofs.Parts.{sides_push}
use Rattle.jj_content_merges.proofs.files.hunks.sides_of.Goals as goal

pub loop-index-preserved : goal.loop-index-preserved
loop-index-preserved c = record {
  sides = rw c.in_ok-push.ensures.items (sides_push (map terms_of c.args.hunks.now) c.loop-index.index
      c.loop-index.sides.items c.in_ok-side_of.field-0 c.loop-index.invariant.sides c.in_ok-side_of.ensures);
  count = rw c.in_ok-push.ensures.items (omega (
    arith,
    length-append c.loop-index.sides.items (c.in_ok-side_of.field-0 ∷ []),
    c.loop-index.invariant.count,
  ));
}
