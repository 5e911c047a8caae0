-- Steps of a search that expands only nodes above a rank.
-- Machinery of private functions and fields.
use Rattle.std.specs.Prelude.{◌≡◌, ◌<◌, ◌⊎◌, ◌&&◌, ℕ, List, eqb, not}
use Rattle.std.specs.List.{Contains}
use Rattle.std.specs.Set.{is_member}

-- these neighbors of a node were removed from the keys, and those that rank above `least` are
-- pending
pub record VisitsList (rank : ℕ → ℕ) (least : ℕ) (neighbors keys keys2 pending pending2 : List ℕ)
    : Type 0 where
  pub removed : (x : ℕ) → is_member eqb keys2 x
      ≡ (is_member eqb keys x && not (is_member eqb neighbors x))
  pub kept : (x : ℕ) → Contains pending x → Contains pending2 x
  pub added : (x : ℕ) → Contains pending2 x → Contains pending x ⊎ Contains neighbors x
  pub above : (x : ℕ) → Contains neighbors x → least < rank x → Contains pending2 x
