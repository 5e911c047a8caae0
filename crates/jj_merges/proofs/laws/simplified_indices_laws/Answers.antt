use Rattle.jj_merges.proofs.SimplifiedIndices.{HaveSameCounts-simplified, IsDisjoint-simplified}
use Rattle.jj_merges.proofs.SimplifiedLaws.{is_cancellation, simplified_whole}
use Rattle.jj_merges.proofs.TermwiseLaws.{length-at_indices, aligned}
use Rattle.jj_merges.proofs.laws.simplified_indices_laws.Goals as goal

pub returns : goal.returns
returns g c =
    let eq = g.T.PartialEq.eq in
    record {
      cancellation = λ m odd. is_cancellation eq m odd;
      len = λ m odd. length-at_indices eq m odd;
      counts = λ m odd. HaveSameCounts-simplified eq g.met.T.PartialEq.laws m odd;
      disjoint = λ m odd. IsDisjoint-simplified eq m odd;
      idempotent = λ m odd disjoint. simplified_whole eq m odd disjoint;
      aligned = λ m labels odd same k hk. aligned eq m labels odd same k hk;
    }
