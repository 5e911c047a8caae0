use Rattle.std.proofs.Common.{◌≡◌, map}
use Rattle.jj_diff.specs.Inputs.{bytes_of}
use Rattle.jj_diff.specs.Refined.{AreHunksOf, joined, view_of}
use Rattle.jj_diff.proofs.Refined.{hunks_of_parts}
use Rattle.jj_diff.proofs.diff.refine.refine_hunks.Goals as goal

pub returns : goal.returns
returns g c = λ of.
    let join : AreHunksOf (bytes_of c.args.inputs.now) c.in_ok-parts.parts.items
    → map view_of c.in_ok-refined.refined.items ≡ joined (map view_of c.in_ok-parts.parts.items) = rw c.deref.ensures.value at c.in_ok-refined.ensures in (
      c.in_ok-parts.parts.items,
      c.in_ok-parts.ensures,
      join (hunks_of_parts g.C.CompareBytes.canonical (g.T.Tokenizer.is_end c.args.tokenizer.now) (bytes_of c.args.inputs.now) c.args.hunks.now c.in_ok-parts.parts.items c.in_ok-parts.ensures of),
    )
