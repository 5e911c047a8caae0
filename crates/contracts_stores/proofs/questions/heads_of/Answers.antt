use Rattle.contracts_stores.proofs.questions.heads_of.Goals as goal

pub returns-in-Ok : goal.returns-in-Ok
returns-in-Ok g c = λ parents complete. c.in-Ok.ensures parents (c.in_ok-graph.ensures.graph parents complete).0
