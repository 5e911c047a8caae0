use Rattle.std.proofs.Common.{◌∙◌, ◌&&◌, ◌||◌, sym, ap, arith}
use Rattle.jj_globs.specs.GlobMeaning.{same_byte}
use Rattle.jj_globs.specs.GlobBacktracking.{one, many, any_byte}
use Rattle.jj_globs.proofs.glob.simulation.skip_to_byte.Goals as goal

pub loop-byte-preserved : goal.loop-byte-preserved
loop-byte-preserved c =
    let own = same_byte c.args.options c.args.own in
    let rest = c.in-Some.rest.now in
    record {
      same = λ t.
          c.loop-byte.invariant.same t ∙ ap (many any_byte (one own t)) c.in-Some.ensures.cases.0
          ∙ ap (λ v. (v && t rest) || many any_byte (one own t) rest) (sym c.same_byte.ensures ∙ c.if-same_byte.false);
      shorter = let one_less = c.in-Some.ensures.cases.1 in let shorter = c.loop-byte.invariant.shorter in omega (arith, one_less, shorter);
    }
