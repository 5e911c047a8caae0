use Rattle.std.proofs.Common.{ap}
use Rattle.jj_merges.specs.Options.{present}
use Rattle.jj_merges.proofs.merge.options.Merge+Option+T.present_removes.Goals as goal

pub returns : goal.returns
returns g c = ap present c.removes.ensures
