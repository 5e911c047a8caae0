use Rattle.std.proofs.Common.{◌≡◌, ◌∙◌, ◌<◌, ◌-◌, ℕ, Bool, suc, ap, sym, arith, drop, false, length}
use Rattle.jj_paths.specs.Names.{path_of}
use Rattle.jj_program.specs.SetCode.{pass_over}
use Rattle.jj_program.proofs.SetCode.{after-few, pass_next, pass_none}
use Rattle.jj_program.proofs.file_set.evaluate.Goals as goal

pub loop-left-init : goal.loop-left-init
loop-left-init c =
    let code = c.args.code.now in
    record {
      few = omega arith;
      is = pass_none (path_of c.args.file) code (0, false) (length code) (omega arith);
    }

pub loop-left-preserved : goal.loop-left-preserved
loop-left-preserved c =
    let code = c.args.code.now in
    let path = path_of c.args.file in
    let left = c.loop-left.left - 1 in
    let op = c.index-code-left.result in
    let few = c.loop-left.invariant.few in
    let more = c.loop-left-test.true in
    let within : left < length code = omega (arith, few, more) in
    let next : suc left ≡ c.loop-left.left = omega (arith, more) in
    let so_far : c.loop-left.pass ≡ pass_over path (drop (suc left) code) (0, false) = c.loop-left.invariant.is ∙ ap (λ n. pass_over path (drop n code) (0, false)) (sym next) in
    let is = c.after_step-pass.ensures in
    let one_more = after-few path op c.loop-left.pass.0 c.loop-left.pass.1 in
    let counted = ap (λ (p : ℕ × Bool). p.0) is in
    record {
      few = omega (arith, few, more, one_more, counted);
      is = is ∙ pass_next path code (0, false) c.loop-left.pass left op within c.index-code-left.is so_far;
    }
