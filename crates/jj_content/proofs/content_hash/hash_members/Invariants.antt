use Rattle.std.proofs.Common.{◌≡◌, ◌++◌, length, map}
use Rattle.std.specs.Prelude.{All}
use Rattle.std.specs.List.{flat_map}
use Rattle.std.specs.Map.Iter.{deref}
use Rattle.std.specs.Vec.Iter.{into_iter_items, into_iter_len}
use Rattle.jj_content.specs.Content.{Absorbs, u64_content}
use Rattle.jj_content.proofs.content_hash.hash_members.Given as goal

abbrev pub invariant-loop-member : goal.invariant-loop-member
invariant-loop-member g l = record {
  can : (goal.iterator-loop-member g).can_next l.member-iterator;
  ends : (goal.iterator-loop-member g).is_finite l.member-iterator;
  split : l.yielded ++ into_iter_items l.member-iterator ≡ into_iter_items l.fn.members;
  len : into_iter_len l.member-iterator ≡ length (into_iter_items l.member-iterator);
  taken : Absorbs g.D.DigestUpdate.absorbed l.fn.state l.state
      (u64_content (length (into_iter_items l.fn.members)) ++ flat_map g.K.ContentHash.content (map deref l.yielded));
  values : All g.K.ContentHash.is_value (map deref l.yielded);
}
