-- Content bytes determine a tree value.
-- Cited by contracts of public items: tree_value_lawful.
use Rattle.std.proofs.Common.{◌≡◌, ℕ, List, ◌++◌, ◌<◌, ◌^◌, true, refl, Bool, arith}
use Rattle.jj_content.specs.Content.{IsLawful}
use Rattle.jj_content.specs.PrefixFreeProofs.{enum_lawful, both_lawful, on_lawful, bool_lawful}
use Rattle.jj_backend.specs.RecordLaws.{bytes_lawful}
use Rattle.jj_backend.specs.TreeValues.{variant_of, fields_content, tree_value_content, IsTreeValue}
use Rattle.jj_backend.specs.declared.backend.tree_value.TreeValue.{TreeValue}
use Rattle.jj_backend.specs.declared.backend.tree_value.TreeValue.TheVariants.{File, Symlink, Tree, GitSubmodule}
use Rattle.jj_backend.specs.contracts.backend.tree_value.TreeValuePartialEq.TheImpl.{ghosts}

variant_small : (x : TreeValue) → variant_of x < 2 ^ 32
variant_small (File a b c) = omega arith
variant_small (Symlink a) = omega arith
variant_small (Tree a) = omega arith
variant_small (GitSubmodule a) = omega arith

same_content : (x y : TreeValue) → IsTreeValue x → IsTreeValue y → ghosts.eq x y ≡ true
    → (variant_of x ≡ variant_of y) × (fields_content x ≡ fields_content y)
same_content (File a b c) (File d e f) p q h =
    let file = both_lawful (on_lawful (λ (v : List ℕ × Bool × List ℕ). v.0) bytes_lawful)
    (both_lawful (on_lawful (λ (v : List ℕ × Bool × List ℕ). v.1) bool_lawful)
    (on_lawful (λ (v : List ℕ × Bool × List ℕ). v.2) bytes_lawful)) in
    (refl, file.same (a, b, c) (d, e, f) p q h)
same_content (Symlink a) (Symlink b) p q h = (refl, bytes_lawful.same a b p q h)
same_content (Tree a) (Tree b) p q h = (refl, bytes_lawful.same a b p q h)
same_content (GitSubmodule a) (GitSubmodule b) p q h = (refl, bytes_lawful.same a b p q h)
same_content x y p q h = cc

equal_values : (x y : TreeValue) (s t : List ℕ) → IsTreeValue x → IsTreeValue y
    → variant_of x ≡ variant_of y → fields_content x ++ s ≡ fields_content y ++ t
    → ghosts.eq x y ≡ true
equal_values (File a b c) (File d e f) s t p q n h =
    let file = both_lawful (on_lawful (λ (v : List ℕ × Bool × List ℕ). v.0) bytes_lawful)
    (both_lawful (on_lawful (λ (v : List ℕ × Bool × List ℕ). v.1) bool_lawful)
    (on_lawful (λ (v : List ℕ × Bool × List ℕ). v.2) bytes_lawful)) in
    file.decides (a, b, c) (d, e, f) s t p q h
equal_values (Symlink a) (Symlink b) s t p q n h = bytes_lawful.decides a b s t p q h
equal_values (Tree a) (Tree b) s t p q n h = bytes_lawful.decides a b s t p q h
equal_values (GitSubmodule a) (GitSubmodule b) s t p q n h = bytes_lawful.decides a b s t p q h
equal_values x y s t p q n h = absurd (omega arith)

pub tree_value_lawful : IsLawful IsTreeValue ghosts.eq tree_value_content
tree_value_lawful = enum_lawful variant_of fields_content variant_small same_content equal_values
