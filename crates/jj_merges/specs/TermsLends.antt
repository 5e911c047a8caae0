-- The value of the storage after its terms were written through a returned `&mut`.
-- Machinery of private functions and fields.
use Rattle.std.specs.Prelude.{List}
use Rattle.std.specs.Borrow.{Lends, Fml, RattleType, MutBor, Array}
use Rattle.jj_merges.specs.Terms.{terms_with_items}
use Rattle.jj_merges.specs.contracts.merge.storage.Terms.{the_row}

module _ (T : RattleType) (d : MutBor (the_row T).Denot) where
  -- when the slice's borrow r ends, the stored terms are the slice's last values
  abbrev pub terms_lends_slice : MutBor (List T.Denot) → Fml
  terms_lends_slice r = Lends (the_row T) (Array T 0) d r (terms_with_items d.now)
