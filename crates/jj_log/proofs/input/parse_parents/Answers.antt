use Rattle.std.proofs.Common.{rules, lit<, map, string_bytes}
use Rattle.jj_log.specs.InputLines.{one_word, words_of}
use Rattle.jj_log.proofs.ReadLines.{cut_at, uncut, next_read, last_read, next_words, last_word}
use Rattle.jj_log.proofs.input.parse_parents.Goals as goal

pub loop-name-preserved : goal.loop-name-preserved
loop-name-preserved c =
    let rest = c.loop-name.rest.now in
    let cut = cut_at 32 rest c.split_once.result (c.in-Some.name, c.in-Some.later) (lit< tt) c.split_once.ensures.cases c.in-Some.is in (
      search rules,
      next_read (map (λ s. string_bytes s) c.loop-name.parents.items) (map (λ s. string_bytes s) c.push_name.new.names.items) (one_word c.in-Some.name.now) (words_of rest) (words_of c.in-Some.later.now) (words_of c.args.field.now)
          c.loop-name.invariant.1 c.in_ok-push_name.ensures (next_words rest c.in-Some.name.now c.in-Some.later.now cut),
    )

pub returns : goal.returns
returns c =
    let rest = c.loop-name.rest.now in
    last_read (map (λ s. string_bytes s) c.loop-name.parents.items) (map (λ s. string_bytes s) c.push_name-2.new.names.items) (one_word rest) (words_of rest) (words_of c.args.field.now)
    c.loop-name.invariant.1 c.in_ok-push_name-2.ensures (last_word rest (uncut 32 rest c.split_once.result (lit< tt) c.split_once.ensures.cases c.in_default.is))
