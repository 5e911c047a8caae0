use Rattle.std.proofs.Common.{subst, sym}
use Rattle.std.proofs.lemmas.Result.{IfOk-weaker}
use Rattle.jj_files.specs.PathComponents.{IsNormalized}
use Rattle.jj_paths_tests.proofs.RelativeWays.{below_way}
use Rattle.jj_paths_tests.proofs.fs_callers.way_to.Goals as goal

pub returns : goal.returns
returns c = IfOk-weaker c.relative_path.result _ _ (λ way relative. record {
  from = c.as_str.result.now;
  to = c.as_str-2.result.now;
  from_dir = subst (IsNormalized c.args.dir.now) (sym c.as_str.ensures.value) c.in_ok-from.ensures;
  to_path = subst (IsNormalized c.args.path.now) (sym c.as_str-2.ensures.value) c.in_ok-to.ensures;
  relative = relative;
  below = λ names some is. below_way _ _ names some is _ relative;
}) c.relative_path.ensures
