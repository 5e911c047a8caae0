-- Values of a tree after one is set, read by a function for which a new node is like a missing one.
use Rattle.std.proofs.Common.{◌≡◌, ◌≢◌, Option, Some, None, refl, ap, sym, ◌∙◌}
use Rattle.std.specs.Option.{option_map}
use Rattle.jj_paths.specs.Paths.{Path}
use Rattle.jj_paths.specs.Tree.{Tree, tree_of, value_at, AddsDefaults, WritesAt, SetsValue}

module _ {V : Type 0} where
  module _ {W : Type 0} (is_new : V → Type 0) (reading : Option V → W) (blank : (v : V) → is_new v → reading (Some v) ≡ reading None) where
    -- an unchanged value, or a new one where there was none, is read as before
    read_again : (old new : Option V) → ((v : V) → old ≡ Some v → new ≡ Some v) → ((v : V) → old ≡ None → new ≡ Some v → is_new v) → reading new ≡ reading old
    read_again (Some v) new keeps makes = ap reading (keeps v refl)
    read_again None None keeps makes = refl
    read_again None (Some v) keeps makes = blank v (makes v refl refl)

    -- after missing nodes are inserted, every path is read as before
    pub extended_reads : (old new : Tree V) (path : Path) → AddsDefaults is_new old path new → (any : Path) → reading (value_at new any) ≡ reading (value_at old any)
    extended_reads old new path e any = read_again (value_at old any) (value_at new any) (e.keeps any) (λ v was is. (e.makes any v was is).0)

    -- after a value is set, every other path is read as before
    pub set_reads : (old new : Tree V) (path : Path) (value : V) → SetsValue is_new old path value new → (other : Path) → other ≢ path → reading (value_at new other) ≡ reading (value_at old other)
    set_reads old new path value s other off = read_again (value_at old other) (value_at new other) (λ v. s.keeps other v off) (λ v was is. (s.makes other v off was is).0)

  module _ {W : Type 0} (is_new : V → Type 0) (reading : Option V → W) (blank : (v : V) → is_new v → reading (Some v) ≡ reading None) (old new : Tree V) (path : Path) (node : Tree V) (value : V) (e : WritesAt is_new old path node (tree_of value node.branches) new) where
    -- the value of the borrowed node is the one that was read at its path
    pub borrowed_before : reading (Some node.value) ≡ reading (value_at old path)
    borrowed_before = ap (λ o. reading (option_map (λ (n : Tree V). n.value) o)) (sym e.at_path) ∙ extended_reads is_new reading blank old e.tree path e.extended path

    -- the value that is written to the node is the one that is read there now
    pub borrowed_after : reading (value_at new path) ≡ reading (Some value)
    borrowed_after = ap reading (e.sets value refl).here

    -- every other path is read as before
    pub borrowed_others : (other : Path) → other ≢ path → reading (value_at new other) ≡ reading (value_at old other)
    borrowed_others = set_reads is_new reading blank old new path value (e.sets value refl)
