use Rattle.std.proofs.Common.{◌+◌, ◌*◌, arith, refl}
use Rattle.jj_globs.proofs.SummaryBits.{none_held, word_within, summary_taken, first_taken, first_of_all}
use Rattle.jj_globs.proofs.glob.state_set.StateSet.pop_first.Goals as goal

pub returns-in_err-word-clause-none : goal.returns-in_err-word-clause-none
returns-in_err-word-clause-none g c = λ e. rw (← c.self.view_is) (none_held c.self.inside.words c.self.inside.summary c.self.invariant (c.in_err-word.ensures.none refl))

pub returns-in_err-word-clause-left : goal.returns-in_err-word-clause-left
returns-in_err-word-clause-left g c = λ e. rw (← c.self.view_is) (none_held c.self.inside.words c.self.inside.summary c.self.invariant (c.in_err-word.ensures.none refl))

pub invariant_of-self : goal.invariant_of-self
invariant_of-self g c =
    summary_taken c.self.inside.words c.self.inside.summary c.clear_if_zero.new.summary c.in_ok-word.word c.lowest_bit-low.result
    c.self.invariant c.in_ok-word.ensures.first.0 c.lowest_bit-low.ensures.0 c.clear_if_zero.ensures.emptied c.clear_if_zero.ensures.kept c.clear_if_zero.ensures.len

pub returns-clause-taken : goal.returns-clause-taken
returns-clause-taken g c =
    rw (← c.self.view_is) (first_taken c.self.inside.words c.self.inside.summary c.in_ok-word.word c.lowest_bit-low.result
    c.self.invariant c.in_ok-word.ensures.first.0 c.lowest_bit-low.ensures.0 c.lowest_bit-low.ensures.1)

pub returns-clause-first : goal.returns-clause-first
returns-clause-first g c =
    let index = c.in_ok-word.word * 64 + c.lowest_bit-low.result in
    let taken = first_taken c.self.inside.words c.self.inside.summary c.in_ok-word.word c.lowest_bit-low.result
    c.self.invariant c.in_ok-word.ensures.first.0 c.lowest_bit-low.ensures.0 c.lowest_bit-low.ensures.1 in (
      c.requires.from index (rw (← c.self.view_is) taken.0),
      rw (← c.self.view_is) (first_of_all c.self.inside.words c.self.inside.summary c.in_ok-word.word c.lowest_bit-low.result
          c.self.invariant c.in_ok-word.ensures.first.1 c.lowest_bit-low.ensures.0 c.lowest_bit-low.ensures.2),
    )

pub offset_bounds-self-inside-word : goal.offset_bounds-self-inside-word
offset_bounds-self-inside-word g c =
    let within = word_within c.self.inside.words c.in_ok-word.word ((c.self.invariant.tells c.in_ok-word.word).0 c.in_ok-word.ensures.first.0) in
    omega arith

pub bounds-self-inside-word : goal.bounds-self-inside-word
bounds-self-inside-word g c =
    let within = word_within c.self.inside.words c.in_ok-word.word ((c.self.invariant.tells c.in_ok-word.word).0 c.in_ok-word.ensures.first.0) in
    omega arith

pub overflow_mul-index : goal.overflow_mul-index
overflow_mul-index g c =
    let within = word_within c.self.inside.words c.in_ok-word.word ((c.self.invariant.tells c.in_ok-word.word).0 c.in_ok-word.ensures.first.0) in
    omega arith

pub overflow_add-index : goal.overflow_add-index
overflow_add-index g c =
    let within = word_within c.self.inside.words c.in_ok-word.word ((c.self.invariant.tells c.in_ok-word.word).0 c.in_ok-word.ensures.first.0) in
    omega arith

pub offset_bounds-self-inside-word-2 : goal.offset_bounds-self-inside-word-2
offset_bounds-self-inside-word-2 g c =
    let within = word_within c.self.inside.words c.in_ok-word.word ((c.self.invariant.tells c.in_ok-word.word).0 c.in_ok-word.ensures.first.0) in
    omega arith

pub bounds-self-inside-word-2 : goal.bounds-self-inside-word-2
bounds-self-inside-word-2 g c =
    let within = word_within c.self.inside.words c.in_ok-word.word ((c.self.invariant.tells c.in_ok-word.word).0 c.in_ok-word.ensures.first.0) in
    omega arith

pub clear_if_zero-requires : goal.clear_if_zero-requires
clear_if_zero-requires g c =
    let within = word_within c.self.inside.words c.in_ok-word.word ((c.self.invariant.tells c.in_ok-word.word).0 c.in_ok-word.ensures.first.0) in
    record { room = omega (arith, c.self.invariant.room) }
