use Rattle.std.proofs.Common.{ap, sym, ◌∙◌}
use Rattle.std.specs.Cmp.Lexicographic.{slice_cmp}
use Rattle.jj_paths.specs.Orders.{slash_cmp}
use Rattle.jj_paths.proofs.StringOrders.{path_cmp-components}
use Rattle.jj_paths.proofs.repo_path.orders.RepoPathOrd.cmp.Goals as goal

pub returns : goal.returns
returns c =
    c.cmp_slash_first.ensures
    ∙ ap (λ text. slice_cmp slash_cmp text c.as_bytes-2.result.now) c.as_bytes.ensures.value
    ∙ ap (slice_cmp slash_cmp c.args.self.now.value.now) c.as_bytes-2.ensures.value
    ∙ sym (path_cmp-components c.args.self.now.value.now c.args.other.now.value.now)
