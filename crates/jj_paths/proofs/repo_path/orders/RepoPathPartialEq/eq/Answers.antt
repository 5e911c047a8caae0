use Rattle.std.proofs.Common.{◌∙◌}
use Rattle.jj_paths.proofs.StringEquality.{bytes_eq-components}
use Rattle.jj_paths.proofs.repo_path.orders.RepoPathPartialEq.eq.Goals as goal

pub returns : goal.returns
returns c = c.eq.ensures ∙ bytes_eq-components c.args.self.now.value.now c.args.other.now.value.now
