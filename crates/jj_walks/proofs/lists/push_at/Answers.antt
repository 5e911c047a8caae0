use Rattle.jj_walks.proofs.Listing.{items_of-lent, items_of-put}
use Rattle.std.proofs.Common.{rules, arith, ◌≡◌, ◌++◌, ◌∷◌, [], ◌∙◌, ap}
use Rattle.std.proofs.lemmas.Grind.{common_steps}
use Rattle.jj_walks.specs.ListsByKey.{items_at}
use Rattle.jj_walks.proofs.lists.push_at.Goals as goal

pub returns : goal.returns
returns g c =
    let lent = items_of-lent _ _ (rw c.in_ok-lists.ensures.value at c.or_default.ensures.value) in
    let pushed : c.push.new.self.items ≡ c.or_default.result.now.items ++ c.args.value ∷ [] = c.in_ok-push.ensures.items in
    let more : c.push.new.self.items ≡ items_at g.K.PartialEq.eq c.args.lists.now c.args.key ++ c.args.value ∷ [] = pushed ∙ ap (λ l. l ++ c.args.value ∷ []) lent in
    let puts = (c.in_ok-lists.ensures.update.0 c.push.new.self).0 in
    λ q. first_of (search (rules, items_of-put g.met.K.Eq.laws c.args.lists.now c.args.key q, more, puts q), grind (arith, common_steps, items_of-put g.met.K.Eq.laws c.args.lists.now c.args.key q, more, puts q))
