use Rattle.std.proofs.Common.{◌∙◌, subst, sym, true≢false, refl}
use Rattle.std.specs.List.{Contains}
use Rattle.std.proofs.lemmas.List.{take_all}
use Rattle.std.proofs.lemmas.List.Elements.{All-get_or}
use Rattle.jj_commit_graph.proofs.Numberings.{all_known}
use Rattle.jj_commit_graph.proofs.numbering.Numbering.numbers_of.Goals as goal

pub returns-in-None-clause-known : goal.returns-in-None-clause-known
returns-in-None-clause-known c =
    let names = c.args.self.now.ids.items in
    let id = c.id-item.result in (
      (λ no. absurd (true≢false (sym no))),
      λ all. absurd (c.in-None.ensures (subst (Contains names) (sym c.id-item.is) (All-get_or (Contains names) c.args.ids.now c.loop-id.id-index id c.loop-id-test.true all))),
    )

pub returns-clause-known : goal.returns-clause-known
returns-clause-known c =
    let names = c.args.self.now.ids.items in
    let given = c.args.ids.now in (
      (λ yes. all_known names given c.loop-id.numbers.items (c.loop-id.invariant.named ∙ take_all c.loop-id.id-index given c.loop-id-test.false) c.loop-id.invariant.within),
      λ all. refl,
    )
