use Rattle.std.proofs.Common.{rules, ◌≡◌, ◌∙◌, ◌++◌, ◌∷◌, [], ℕ, List, ap, length, sym}
use Rattle.jj_core_c.specs.GraphBatches.{ends_of}
use Rattle.jj_core_c.proofs.JoinedResults.{ends_next, joined_next}
use Rattle.jj_core_c.proofs.joined_lists.JoinedLists.push.Goals as goal

pub returns : goal.returns
returns c = λ found joins.
    let end : c.len-end.result ≡ length c.extend_from_slice.new.self.items = search rules in
    let list = c.args.list.now in
    let grown = c.in_ok-extend_from_slice.ensures.items ∙ ap (λ (l : List ℕ). l ++ list) joins.0 in
    let more = c.in_ok-push.ensures.items ∙ ap (λ (l : List ℕ). l ++ c.len-end.result ∷ []) joins.1 in (
      grown ∙ sym (joined_next found list),
      more ∙ ap (λ (n : ℕ). ends_of 0 found ++ n ∷ []) (end ∙ ap length grown) ∙ sym (ends_next found list),
    )
