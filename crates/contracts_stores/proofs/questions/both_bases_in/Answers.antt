use Rattle.std.proofs.Common.{[], arith, subst, sym}
use Rattle.std.specs.List.{Contains}
use Rattle.jj_commit_graph.specs.CommitGraphs.{HasCommits}
use Rattle.contracts_stores.proofs.questions.both_bases_in.Goals as goal

pub bases_in-requires-clause-left : goal.bases_in-requires-clause-left
bases_in-requires-clause-left c = c.requires 0 [] (omega arith)

pub bases_in-requires-clause-right : goal.bases_in-requires-clause-right
bases_in-requires-clause-right c = c.requires 1 [] (omega arith)

pub bases_in-requires-2-clause-left : goal.bases_in-requires-2-clause-left
bases_in-requires-2-clause-left c = subst (λ graph. Contains graph.ids c.args.left.now) (sym c.in_ok-first.ensures.unchanged) (c.requires 2 [] (omega arith))

pub bases_in-requires-2-clause-right : goal.bases_in-requires-2-clause-right
bases_in-requires-2-clause-right c = subst (λ graph. Contains graph.ids c.args.right.now) (sym c.in_ok-first.ensures.unchanged) (c.requires 3 [] (omega arith))

pub returns-clause-second : goal.returns-clause-second
returns-clause-second c = λ parents has. c.in_ok-second.ensures.bases parents (subst (λ graph. HasCommits graph parents) (sym c.in_ok-first.ensures.unchanged) has)
