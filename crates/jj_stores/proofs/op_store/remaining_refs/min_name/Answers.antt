use Rattle.jj_stores.proofs.NamesLeft.{not_above_itself, not_above_from_not_below}
use Rattle.jj_stores.proofs.op_store.remaining_refs.min_name.Goals as goal

pub returns-then-lt-clause-second : goal.returns-then-lt-clause-second
returns-then-lt-clause-second c = not_above_itself c.args.other.now

pub returns-else-lt-clause-first : goal.returns-else-lt-clause-first
returns-else-lt-clause-first c = not_above_itself c.args.name.now

pub returns-else-lt-clause-second : goal.returns-else-lt-clause-second
returns-else-lt-clause-second c = not_above_from_not_below c.args.name.now c.args.other.now c.if-lt.ensures
