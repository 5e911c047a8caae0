use Rattle.std.proofs.Common.{◌∙◌, ◌++◌, ◌∷◌, [], ap, append-nil, append_assoc, arith, rules, length, length-append, take, sym}
use Rattle.std.proofs.lemmas.List.{take_at}
use Rattle.jj_merges.proofs.merge.builder.MergeBuilder.extend.Goals as goal

pub loop-term-init : goal.loop-term-init
loop-term-init g c = (c.self.invariant, c.self.view_is ∙ sym (append-nil c.args.self.now))

pub push-requires : goal.push-requires
push-requires g c = (search rules, c.loop-term.invariant.0)

pub loop-term-preserved : goal.loop-term-preserved
loop-term-preserved g c = (
  c.in_default.ensures.inline_has_one,
  c.in_default.ensures.ok
      ∙ (ap (λ xs. xs ++ c.in-Some.term ∷ []) c.loop-term.invariant.1 ∙ append_assoc c.args.self.now c.loop-term.yielded (c.in-Some.term ∷ [])),
)

pub truncate-requires : goal.truncate-requires
truncate-requires g c =
    let before = ap length c.as_slice-len.ensures in
    let now = ap length c.loop-term.invariant.1 in (
      search rules,
      (
        c.in-Err.ensures.inline_has_one,
        omega (arith, before, now, ap length c.self.view_is, ap length c.in-Err.ensures.err, length-append c.args.self.now c.loop-term.yielded),
      ),
    )

pub invariant_of-self-in-Err : goal.invariant_of-self-in-Err
invariant_of-self-in-Err g c = c.truncate.ensures.inline_has_one

pub returns-in-Err-clause-err : goal.returns-in-Err-clause-err
returns-in-Err-clause-err g c =
    let len = length c.as_slice-len.result.now in
    c.truncate.ensures.items
    ∙ (ap (take len) (c.in-Err.ensures.err ∙ c.loop-term.invariant.1)
    ∙ take_at c.args.self.now c.loop-term.yielded len (sym (ap length c.as_slice-len.ensures ∙ ap length c.self.view_is)))

pub invariant_of-self : goal.invariant_of-self
invariant_of-self g c = c.loop-term.invariant.0

pub returns-clause-ok : goal.returns-clause-ok
returns-clause-ok g c = (
  c.loop-term.yielded,
  (c.into_iter-term-iterator.result, c.into_iter-term-iterator.ensures.into_iter_gives, search rules),
  c.loop-term.invariant.1,
)
