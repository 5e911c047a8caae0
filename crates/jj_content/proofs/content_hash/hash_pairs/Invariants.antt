use Rattle.std.proofs.Common.{◌≡◌, ◌++◌, length, map}
use Rattle.std.specs.Prelude.{All}
use Rattle.std.specs.List.{flat_map}
use Rattle.std.specs.Map.Iter.{deref_pair}
use Rattle.std.specs.Vec.Iter.{into_iter_items, into_iter_len}
use Rattle.jj_content.specs.Content.{Absorbs, u64_content, entry_content}
use Rattle.jj_content.proofs.content_hash.hash_pairs.Given as goal

abbrev pub invariant-loop-key : goal.invariant-loop-key
invariant-loop-key g l = record {
  can : (goal.iterator-loop-key g).can_next l.key-iterator;
  ends : (goal.iterator-loop-key g).is_finite l.key-iterator;
  split : l.yielded ++ into_iter_items l.key-iterator ≡ into_iter_items l.fn.pairs;
  len : into_iter_len l.key-iterator ≡ length (into_iter_items l.key-iterator);
  taken : Absorbs g.D.DigestUpdate.absorbed l.fn.state l.state
      (u64_content (length (into_iter_items l.fn.pairs)) ++ flat_map (entry_content g.K.ContentHash.content g.V.ContentHash.content) (map deref_pair l.yielded));
  values : All (λ e. g.K.ContentHash.is_value e.0 × g.V.ContentHash.is_value e.1) (map deref_pair l.yielded);
}
