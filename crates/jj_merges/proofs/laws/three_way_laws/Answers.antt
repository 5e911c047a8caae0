use Rattle.jj_merges.proofs.ThreeWay.{accepted, accepting, kept, keeping}
use Rattle.jj_merges.proofs.laws.three_way_laws.Goals as goal

pub returns-clause-keep : goal.returns-clause-keep
returns-clause-keep g c left base right v =
    (kept g.T.PartialEq.eq g.met.T.Eq.laws left base right v, keeping g.T.PartialEq.eq g.met.T.Eq.laws left base right v)

pub returns-clause-accept : goal.returns-clause-accept
returns-clause-accept g c left base right v =
    (accepted g.T.PartialEq.eq g.met.T.Eq.laws left base right v, accepting g.T.PartialEq.eq g.met.T.Eq.laws left base right v)
