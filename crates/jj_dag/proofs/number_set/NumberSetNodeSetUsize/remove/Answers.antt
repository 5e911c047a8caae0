use Rattle.std.proofs.Common.{ℕ, subst, sym}
use Rattle.std.specs.List.{Contains}
use Rattle.jj_dag.specs.NumberSets.{keys_of}
use Rattle.jj_dag.specs.declared.number_set.NumberSet.{NumberSet}
use Rattle.jj_dag.proofs.number_set.NumberSetNodeSetUsize.remove.Goals as goal

pub returns-in-Dense-clause-keys : goal.returns-in-Dense-clause-keys
returns-in-Dense-clause-keys c = subst (λ (s : NumberSet). (x : ℕ) → Contains c.remove.new.self x → Contains (keys_of s) x) (sym c.in-Dense.is) c.remove.ensures.keys

pub returns-in-Hashed-clause-keys : goal.returns-in-Hashed-clause-keys
returns-in-Hashed-clause-keys c = subst (λ (s : NumberSet). (x : ℕ) → Contains c.remove-in-Hashed.new.self.keys x → Contains (keys_of s) x) (sym c.in-Hashed.is) c.remove-in-Hashed.ensures.keys
