-- Proof that the content of a Kind is injective and prefix-free.
-- Cited by contracts of public items: kind_lawful.
use Rattle.std.proofs.Common.{◌≡◌, ℕ, List, ◌++◌, ◌<◌, ◌^◌, true, refl, Bool, arith}
use Rattle.std.proofs.Common.{Vec, Global}
use Rattle.jj_content.specs.Content.{IsLawful}
use Rattle.jj_content.specs.PrefixFreeProofs.{enum_lawful, both_lawful, on_lawful, list_lawful, u8_lawful, u64_lawful, bool_lawful}
use Rattle.jj_content_tests.specs.KindContent.{kind_content, kind_variant, kind_fields, IsKind}
use Rattle.jj_content_tests.specs.declared.records.Kind.{Kind}
use Rattle.jj_content_tests.specs.declared.records.Kind.TheVariants.{File, Symlink, Absent}
use Rattle.jj_content_tests.specs.contracts.records.KindPartialEq.TheImpl.{ghosts}

kind_small : (x : Kind) → kind_variant x < 2 ^ 32
kind_small (File a b) = omega arith
kind_small (Symlink a) = omega arith
kind_small Absent = omega arith

kind_alike : (x y : Kind) → IsKind x → IsKind y → ghosts.eq x y ≡ true
    → (kind_variant x ≡ kind_variant y) × (kind_fields x ≡ kind_fields y)
kind_alike (File a b) (File c d) p q h =
    let file = both_lawful (on_lawful (λ (f : Vec ℕ Global × Bool). f.0.items)
    (list_lawful u8_lawful)) (on_lawful (λ (f : Vec ℕ Global × Bool). f.1) bool_lawful) in
    (refl, file.same (a, b) (c, d) p q h)
kind_alike (Symlink a) (Symlink b) p q h = (refl, u64_lawful.same a b p q h)
kind_alike Absent Absent p q h = (refl, refl)
kind_alike x y p q h = cc

kind_decides : (x y : Kind) (s t : List ℕ) → IsKind x → IsKind y → kind_variant x ≡ kind_variant y
    → kind_fields x ++ s ≡ kind_fields y ++ t → ghosts.eq x y ≡ true
kind_decides (File a b) (File c d) s t p q n h =
    let file = both_lawful (on_lawful (λ (f : Vec ℕ Global × Bool). f.0.items)
    (list_lawful u8_lawful)) (on_lawful (λ (f : Vec ℕ Global × Bool). f.1) bool_lawful) in
    file.decides (a, b) (c, d) s t p q h
kind_decides (Symlink a) (Symlink b) s t p q n h = u64_lawful.decides a b s t p q h
kind_decides Absent Absent s t p q n h = refl
kind_decides x y s t p q n h = absurd (omega arith)

pub kind_lawful : IsLawful IsKind ghosts.eq kind_content
kind_lawful = enum_lawful kind_variant kind_fields kind_small kind_alike kind_decides
