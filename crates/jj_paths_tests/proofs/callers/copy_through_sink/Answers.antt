use Rattle.std.proofs.Common.{◌++◌, ap, ◌∙◌}
use Rattle.jj_paths_tests.proofs.callers.copy_through_sink.Goals as goal

pub returns-clause-same : goal.returns-clause-same
returns-clause-same c =
    ap (λ v. v.items) c.into_inner.ensures ∙ c.in_ok-send.ensures.all
    ∙ ap (λ l. l ++ c.args.bytes.now) (ap (λ v. v.items) c.new-sink.ensures.inner ∙ c.new.ensures.items)
