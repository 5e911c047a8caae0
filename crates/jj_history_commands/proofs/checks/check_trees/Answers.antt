use Rattle.std.proofs.Common.{◌∙◌, ℕ, List, ap, arith, get_or, sym}
use Rattle.jj_history_commands.proofs.KnownObjects.{prefix_more, whole_step}
use Rattle.jj_history_commands.proofs.checks.check_trees.Goals as goal
use Rattle.jj_history_commands.proofs.checks.check_trees.Goals.{else-loop-index-test, then-loop-index-test+then-index-len}

pub loop-index-preserved : goal.loop-index-preserved
loop-index-preserved g c =
    let before = c.loop-index.trees.items in
    let after = c.check_tree.new.trees.items in
    let ens = c.in_ok-check_tree.ensures in
    let same = c.in_ok-id.ensures.cases in
    record {
      known = ens.known;
      read = ens.read;
      prefix = prefix_more c.args.trees.now.items before after c.loop-index.invariant.prefix ens.prefix;
      whole = whole_step (g.B.Backend.objects c.args.store.now) before after c.loop-index.index c.in_ok-id.id ens.prefix
          (omega (arith, c.if-index-len.false, c.len.ensures, c.loop-index.trees.ok.0))
          (same ∙ c.index.ensures ∙ ap (λ (d : List ℕ). get_or before c.loop-index.index d) (sym same)) c.loop-index.invariant.whole ens.whole;
    }

pub returns-clause-whole : goal.returns-clause-whole
returns-clause-whole g c =
    elim c.loop-index-test.branch [
      | else-loop-index-test w ↦ λ k d within. c.loop-index.invariant.whole k d (omega (arith, within, w.loop-index-test.false, c.loop-index.trees.ok.0, c.loop-index.trees.small)) within
      | then-loop-index-test+then-index-len w ↦ λ k d within. c.loop-index.invariant.whole k d (omega (arith, within, w.if-index-len.true, w.len.ensures, c.loop-index.trees.ok.0)) within
    ]
