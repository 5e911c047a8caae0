-- The graph of closures after a call, and the reasons why a walk stops.
use Rattle.jj_dag.specs.declared.forward.Stop.{Stop}
use Rattle.jj_dag.specs.declared.forward.Stop.TheVariants.{Memory, Failed, Cycle}
use Rattle.jj_dag.specs.Stops.{IfCycle, IfFailed}

pub failed_weaker : {T E : Type 0} (stop : Stop T E) (P Q : E → Type 0) → ((e : E) → P e → Q e) → IfFailed stop P → IfFailed stop Q
failed_weaker Memory P Q f h = tt
failed_weaker (Failed e) P Q f h = f e h
failed_weaker (Cycle x) P Q f h = tt

pub cycle_weaker : {T E : Type 0} (stop : Stop T E) (P Q : T → Type 0) → ((x : T) → P x → Q x) → IfCycle stop P → IfCycle stop Q
cycle_weaker Memory P Q f h = tt
cycle_weaker (Failed e) P Q f h = tt
cycle_weaker (Cycle x) P Q f h = f x h
