-- Proof that the content of a Maybe is injective and prefix-free.
-- Cited by contracts of public items: maybe_lawful.
use Rattle.std.proofs.Common.{◌≡◌, ℕ, List, ◌++◌, ◌<◌, ◌^◌, true, refl, arith}
use Rattle.jj_content.specs.Content.{IsLawful}
use Rattle.jj_content.specs.PrefixFreeProofs.{enum_lawful, i32_lawful}
use Rattle.jj_content_tests.specs.MaybeContent.{maybe_content, maybe_variant, maybe_fields, IsMaybe}
use Rattle.jj_content_tests.specs.declared.records.Maybe.{Maybe}
use Rattle.jj_content_tests.specs.declared.records.Maybe.TheVariants.{Nothing, Just}
use Rattle.jj_content_tests.specs.contracts.records.MaybePartialEq.TheImpl.{ghosts}

maybe_small : (x : Maybe) → maybe_variant x < 2 ^ 32
maybe_small Nothing = omega arith
maybe_small (Just a) = omega arith

maybe_alike : (x y : Maybe) → IsMaybe x → IsMaybe y → ghosts.eq x y ≡ true
    → (maybe_variant x ≡ maybe_variant y) × (maybe_fields x ≡ maybe_fields y)
maybe_alike Nothing Nothing p q h = (refl, refl)
maybe_alike (Just a) (Just b) p q h = (refl, i32_lawful.same a b p q h)
maybe_alike x y p q h = cc

maybe_decides : (x y : Maybe) (s t : List ℕ) → IsMaybe x → IsMaybe y
    → maybe_variant x ≡ maybe_variant y → maybe_fields x ++ s ≡ maybe_fields y ++ t
    → ghosts.eq x y ≡ true
maybe_decides Nothing Nothing s t p q n h = refl
maybe_decides (Just a) (Just b) s t p q n h = i32_lawful.decides a b s t p q h
maybe_decides x y s t p q n h = absurd (omega arith)

pub maybe_lawful : IsLawful IsMaybe ghosts.eq maybe_content
maybe_lawful = enum_lawful maybe_variant maybe_fields maybe_small maybe_alike maybe_decides
