-- A clone that equals its source serves a set as the source does.
use Rattle.std.proofs.Common.{◌≡◌, Bool, List, true, cond, sym, ◌∙◌, ap}
use Rattle.std.proofs.lemmas.Map.Steps.{list_any_congr}
use Rattle.std.specs.Cmp.{IsEquivalence}
use Rattle.std.specs.Set.{is_member}
use Rattle.jj_dag.specs.NodeSets.{Updates}

module _ {K : Type 0} {eq : K → K → Bool} (laws : IsEquivalence eq) where
  -- a set has both or neither
  pub is_member-clone : (keys : List K) (k copy : K) → eq k copy ≡ true → is_member eq keys k ≡ is_member eq keys copy
  is_member-clone keys k copy same = list_any_congr laws k copy keys same

  -- a set into which the clone was inserted has the source
  pub Updates-clone : (old new : List K) (k copy : K) → eq k copy ≡ true → Updates eq old new copy true → Updates eq old new k true
  Updates-clone old new k copy same puts q = puts q ∙ ap (λ b. cond b true (is_member eq old q)) (sym (laws.congr k copy q same))
