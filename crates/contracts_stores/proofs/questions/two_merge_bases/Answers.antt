use Rattle.std.proofs.Common.{◌∙◌, All, subst}
use Rattle.std.specs.List.{Contains}
use Rattle.contracts_stores.proofs.questions.two_merge_bases.Goals as goal

pub both_bases_in-requires : goal.both_bases_in-requires
both_bases_in-requires g c = subst (All (Contains c.in_ok-graph.graph.ids)) (c.deref.ensures.value ∙ c.in_ok-starts.ensures) c.in_ok-graph.ensures.starts

pub returns-in-Ok-clause-first : goal.returns-in-Ok-clause-first
returns-in-Ok-clause-first g c = λ parents complete. c.in-Ok.ensures.first parents (c.in_ok-graph.ensures.graph parents complete).0

pub returns-in-Ok-clause-second : goal.returns-in-Ok-clause-second
returns-in-Ok-clause-second g c = λ parents complete. c.in-Ok.ensures.second parents (c.in_ok-graph.ensures.graph parents complete).0
