use Rattle.contracts_walks.proofs.acyclic.maximal_starts.Goals as goal

pub returns : goal.returns
returns g c =
    c.heads_ok_are_maximal.ensures c.args.start c.args.id_fn c.args.neighbors_fn c.heads_ok-heads.result
    c.heads_ok-heads.ensures.heads c.heads_ok-heads.ensures.error
