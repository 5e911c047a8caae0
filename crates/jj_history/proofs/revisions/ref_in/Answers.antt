use Rattle.std.proofs.Common.{◌≡◌, ◌∙◌, ℕ, List, subst}
use Rattle.std.specs.BTreeMap.{get_by_text}
use Rattle.jj_history.proofs.revisions.ref_in.Goals as goal

pub returns : goal.returns
returns c = subst (λ (name : List ℕ). c.in_ok-named.named ≡ get_by_text c.args.refs.now name) (c.as_str.ensures.value ∙ c.in_ok-full.ensures) c.in_ok-named.ensures
