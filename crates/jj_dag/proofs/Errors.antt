-- Lemmas about the error of a walk.
use Rattle.std.proofs.Common.{◌≡◌, subst, Result, IfOk}
use Rattle.std.proofs.lemmas.Result.{IfOk-weaker, IfErr-weaker}
use Rattle.jj_dag.specs.Outcomes.{IfFails}
use Rattle.jj_dag.specs.declared.walk_error.WalkError.{WalkError}
use Rattle.jj_dag.specs.declared.walk_error.WalkError.TheVariants.{Memory, Node}
use Rattle.jj_dag.specs.Errors.{IfNode}

-- a property of the error of a node holds of the error in `Node`
pub node_says : {E : Type 0} (P : E → Type 0) (failure : WalkError E) (error : E) → failure ≡ Node error → IfNode failure P → P error
node_says P failure error node h = subst (λ e. IfNode e P) node h

pub node_weaker : {E : Type 0} (failure : WalkError E) (P Q : E → Type 0) → ((e : E) → P e → Q e) → IfNode failure P → IfNode failure Q
node_weaker Memory P Q f h = tt
node_weaker (Node e) P Q f h = f e h

-- from a property of each success, and of each error of a node, to one that follows
pub if_ok : {V E : Type 0} {P Q : V → Type 0} (r : Result V E) → IfOk r P → ((v : V) → P v → Q v) → IfOk r Q
if_ok r h f = IfOk-weaker r _ _ f h

pub if_fails : {V E : Type 0} {P Q : E → Type 0} (r : Result V (WalkError E)) → IfFails r P → ((e : E) → P e → Q e) → IfFails r Q
if_fails r h f = IfErr-weaker r _ _ (λ failure. node_weaker failure _ _ f) h
