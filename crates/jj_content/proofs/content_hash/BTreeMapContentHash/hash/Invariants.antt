use Rattle.std.proofs.Common.{◌≡◌, ◌++◌, length, map}
use Rattle.std.specs.Prelude.{All}
use Rattle.std.specs.List.{flat_map}
use Rattle.std.specs.Map.Iter.{deref_pair}
use Rattle.jj_content.specs.Content.{Absorbs, u64_content, entry_content}
use Rattle.jj_content.proofs.content_hash.BTreeMapContentHash.hash.Given as goal

abbrev pub invariant-loop-key : goal.invariant-loop-key
invariant-loop-key g l = record {
  can : (goal.iterator-loop-key g).can_next l.key-iterator;
  ends : (goal.iterator-loop-key g).is_finite l.key-iterator;
  left : map deref_pair l.yielded ++ l.key-iterator ≡ l.self.entries;
  taken : Absorbs g.D.DigestUpdate.absorbed l.fn.state l.state (u64_content (length l.self.entries) ++ flat_map (entry_content g.K.ContentHash.content g.V.ContentHash.content) (map deref_pair l.yielded));
  values : All (λ e. g.K.ContentHash.is_value e.0 × g.V.ContentHash.is_value e.1) (map deref_pair l.yielded);
}
