-- Adjacency lists as parts of one array: the part of one more line; the array has all neighbors.
use Rattle.std.proofs.Common.{rules, Equal, Greater, Less, nat_lt, ◌≡◌, ◌∙◌, ◌==◌, ◌-◌, ◌<◌, ◌≤◌, ℕ, Bool, true, false, cond, List, [], ◌++◌, length, length-append, get_or, take, drop, Option, Some, None, refl, sym, ap, arith}
use Rattle.std.specs.Prelude.{All, unwrap_or}
use Rattle.std.specs.BTreeMap.{BTreeMap, get, is_at}
use Rattle.std.specs.List.{Contains, slice_range}
use Rattle.std.specs.Option.{option_map}
use Rattle.std.specs.Ordering.{is_eq, nat_cmp}
use Rattle.std.proofs.lemmas.Bool.{ne_eqb}
use Rattle.std.proofs.Math.Seq.{drop-append_seam}
use Rattle.std.proofs.lemmas.List.{drop-append-le, length-drop, take-append-drop, take-append-le, take_all}
use Rattle.std.proofs.lemmas.List.Elements.{All-contains, Contains-append_left, Contains-append_right, Contains-get_or}
use Rattle.jj_program.specs.GraphViews.{listed_by, part_at}
use Rattle.jj_program.specs.GraphCommand.{graph_of}
use Rattle.jj_program.specs.Parts.{AreParts, entry_part, part_in, Part}
use Rattle.jj_program.specs.declared.edges.Edges.{Edges}

-- ---- parts

-- the part of an array between two indices
abbrev part_of : List ℕ → Part → List ℕ
part_of targets part = slice_range targets part.0 part.1

-- a part of the array before it grew
part_kept : (targets more : List ℕ) (a b : ℕ) → a ≤ b → b ≤ length targets → slice_range (targets ++ more) a b ≡ slice_range targets a b
part_kept targets more a b le within =
    ap (take (b - a)) (drop-append-le a targets more (omega (arith, le, within)))
    ∙ take-append-le (b - a) (drop a targets) more (omega (arith, le, within, length-drop a targets))

-- the part that was appended
part_added : (targets more : List ℕ) → slice_range (targets ++ more) (length targets) (length (targets ++ more)) ≡ more
part_added targets more =
    ap (take (length (targets ++ more) - length targets)) (drop-append_seam targets more)
    ∙ take_all (length (targets ++ more) - length targets) more (omega (arith, length-append targets more))

at_same : (a b : ℕ) → is_at (nat_cmp a) b ≡ (a == b)
at_same a b = by_less (nat_lt a b) refl
  where
    by_same : (t : Bool) → is_eq (cond t Equal Greater) ≡ t
    by_same true = refl
    by_same false = refl

    by_less : (t : Bool) → nat_lt a b ≡ t → is_eq (cond t Less (cond (a == b) Equal Greater)) ≡ (a == b)
    by_less true is = let less : a < b = search rules in sym (ne_eqb a b (λ e. omega (arith, less, e)))
    by_less false is = by_same (a == b)

-- the parts after one was put
abbrev pub PutsPart : (ℕ → Option Part) → (ℕ → Option Part) → ℕ → Part → Type 0
PutsPart old new id part = (q : ℕ) → new q ≡ cond (id == q) (Some part) (old q)

-- the entry of an id below the limit was set
pub puts_entry : (limit : ℕ) (table grown : List Part) (others : BTreeMap ℕ Part) (id : ℕ) (part : Part) → id < limit → part.0 ≤ part.1
    → ((q : ℕ) → get_or grown q (1, 0) ≡ cond (id == q) part (get_or table q (1, 0)))
    → PutsPart (part_in limit table others) (part_in limit grown others) id part
puts_entry limit table grown others id part below le puts q = by_test (nat_lt q limit) refl
  where
    by_same : (t : Bool) → entry_part (cond t part (get_or table q (1, 0))) ≡ cond t (Some part) (entry_part (get_or table q (1, 0)))
    by_same true = let no : nat_lt part.1 part.0 ≡ false = search rules in ap (λ t. cond t None (Some part)) no
    by_same false = refl

    by_test : (t : Bool) → nat_lt q limit ≡ t → cond t (entry_part (get_or grown q (1, 0))) (get nat_cmp others q) ≡ cond (id == q) (Some part) (cond t (entry_part (get_or table q (1, 0))) (get nat_cmp others q))
    by_test true is = ap entry_part (puts q) ∙ by_same (id == q)
    by_test false is =
        let above : limit ≤ q = search rules in
        sym (ap (λ t. cond t (Some part) (get nat_cmp others q)) (ne_eqb id q (λ e. omega (arith, below, above, e))))

-- the map was updated
abbrev pub UpdatesMap : BTreeMap ℕ Part → BTreeMap ℕ Part → ℕ → Part → Type 0
UpdatesMap m m2 id part = (q : ℕ) → get nat_cmp m2 q ≡ cond (is_at (nat_cmp id) q) (Some part) (get nat_cmp m q)

pub puts_other : (limit : ℕ) (table : List Part) (m m2 : BTreeMap ℕ Part) (id : ℕ) (part : Part) → limit ≤ id → UpdatesMap m m2 id part
    → PutsPart (part_in limit table m) (part_in limit table m2) id part
puts_other limit table m m2 id part above puts q = by_test (nat_lt q limit) refl
  where
    by_test : (t : Bool) → nat_lt q limit ≡ t → cond t (entry_part (get_or table q (1, 0))) (get nat_cmp m2 q) ≡ cond (id == q) (Some part) (cond t (entry_part (get_or table q (1, 0))) (get nat_cmp m q))
    by_test true is =
        let below : q < limit = search rules in
        sym (ap (λ t. cond t (Some part) (entry_part (get_or table q (1, 0)))) (ne_eqb id q (λ e. omega (arith, below, above, e))))
    by_test false is = puts q ∙ ap (λ t. cond t (Some part) (get nat_cmp m q)) (at_same id q)

-- one more line
module _ (old new : ℕ → Option Part) (targets : List ℕ) (id start end : ℕ) (within : AreParts old (length targets)) (first : start ≡ length targets) where
  pub lists_more : (more grown : List ℕ) → end ≡ length grown → grown ≡ targets ++ more → PutsPart old new id (start, end)
      → ◌≡◌ {A = ℕ → Option (List ℕ)} (λ q. option_map (part_of grown) (new q)) (λ q. cond (id == q) (Some more) (option_map (part_of targets) (old q)))
  lists_more more grown last grows puts i q = at q i
    where
      kept : (o : Option Part) → ((part : ℕ × ℕ) → o ≡ Some part → (part.0 ≤ part.1) × (part.1 ≤ length targets)) → option_map (part_of grown) o ≡ option_map (part_of targets) o
      kept None h = refl
      kept (Some part) h =
          let (le, inside) = h part refl in
          ap Some (ap (λ l. part_of l part) grows ∙ part_kept targets more part.0 part.1 le inside)

      added : part_of grown (start, end) ≡ more
      added = ap (λ l. slice_range l start end) grows ∙ ap (λ a. slice_range (targets ++ more) a end) first ∙ ap (λ b. slice_range (targets ++ more) (length targets) b) (last ∙ ap length grows) ∙ part_added targets more

      by_test : (q : ℕ) (t : Bool) → option_map (part_of grown) (cond t (Some (start, end)) (old q)) ≡ cond t (Some more) (option_map (part_of targets) (old q))
      by_test q true = ap Some added
      by_test q false = kept (old q) (within q)

      at : (q : ℕ) → option_map (part_of grown) (new q) ≡ cond (id == q) (Some more) (option_map (part_of targets) (old q))
      at q = ap (option_map (part_of grown)) (puts q) ∙ by_test q (id == q)

-- ---- all neighbors

-- a member of a part is a member of the list
part_among : (targets : List ℕ) (a b x : ℕ) → Contains (slice_range targets a b) x → Contains targets x
part_among targets a b x among =
    rw (← take-append-drop a targets) (Contains-append_right (take a targets) (drop a targets) x
    (rw (← take-append-drop (b - a) (drop a targets)) (Contains-append_left (take (b - a) (drop a targets)) (drop (b - a) (drop a targets)) x among)))

-- each neighbor is in the array
neighbors_among : (edges : Edges) (a b : ℕ) → Contains (graph_of (listed_by edges) a) b → Contains edges.targets.items b
neighbors_among edges a b = by_part (part_in edges.limit edges.table.items edges.others a)
  where
    by_part : (o : Option Part) → Contains (unwrap_or (option_map (part_of edges.targets.items) o) []) b → Contains edges.targets.items b
    by_part None (k, within, e) = absurd (omega arith)
    by_part (Some part) among = part_among edges.targets.items part.0 part.1 b among

-- ids that contain the array contain each neighbor
pub neighbors_named : (edges : Edges) (ids : List ℕ) → All (Contains ids) edges.targets.items → (a b : ℕ) → Contains (graph_of (listed_by edges) a) b → Contains ids b
neighbors_named edges ids named a b among = All-contains (Contains ids) edges.targets.items b named (neighbors_among edges a b among)

-- and so do the neighbors of an id
pub row_named : (edges : Edges) (ids : List ℕ) (id : ℕ) → All (Contains ids) edges.targets.items → All (Contains ids) (graph_of (listed_by edges) id)
row_named edges ids id named k d within =
    let row = graph_of (listed_by edges) id in
    neighbors_named edges ids named id (get_or row k d) (Contains-get_or row k d within)

-- the part of an id has its neighbors
pub part_listed : (edges : Edges) (id : ℕ) (part : Part) → part ≡ part_at edges id → slice_range edges.targets.items part.0 part.1 ≡ graph_of (listed_by edges) id
part_listed edges id part at = ap (part_of edges.targets.items) at ∙ by_part (part_in edges.limit edges.table.items edges.others id)
  where
    by_part : (o : Option Part) → part_of edges.targets.items (unwrap_or o (0, 0)) ≡ unwrap_or (option_map (part_of edges.targets.items) o) []
    by_part None = refl
    by_part (Some p) = refl

-- the part of an id is in range
pub part_within : (edges : Edges) (id : ℕ) (part : Part) → part ≡ part_at edges id → (part.0 ≤ part.1) × (part.1 ≤ length edges.targets.items)
part_within edges id part at = rw at (by_part (part_in edges.limit edges.table.items edges.others id) refl)
  where
    by_part : (o : Option Part) → part_in edges.limit edges.table.items edges.others id ≡ o → ((unwrap_or o (0, 0)).0 ≤ (unwrap_or o (0, 0)).1) × ((unwrap_or o (0, 0)).1 ≤ length edges.targets.items)
    by_part None is = (omega arith, omega arith)
    by_part (Some p) is = edges.within id p is
