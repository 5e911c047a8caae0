use Rattle.std.proofs.Common.{◌∙◌, ◌++◌, ap, sym, reverse}
use Rattle.jj_program.specs.SetCode.{code_along}
use Rattle.jj_program.proofs.SetCode.{reverse_more}
use Rattle.jj_program.proofs.file_set.compile.Goals as goal

pub loop-op-preserved : goal.loop-op-preserved
loop-op-preserved c =
    c.in_ok-emit.ensures (reverse c.pop.new.self.items)
    ∙ sym (ap (λ l. c.loop-op.code.items ++ code_along (reverse c.loop-op.pending.items) l) (ap reverse c.in-Some.ensures.items ∙ reverse_more c.pop.new.self.items c.in-Some.op))
    ∙ c.loop-op.invariant
