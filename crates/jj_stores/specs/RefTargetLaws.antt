-- Content bytes determine a target and a remote ref, and their equality is an equivalence.
-- Cited by contracts of public items: remote_ref_lawful, state_lawful.
use Rattle.std.proofs.Common.{◌≡◌, ℕ, ◌++◌, List, Bool, true, refl, lit<, arith}
use Rattle.jj_content.specs.Content.{IsLawful}
use Rattle.jj_content.specs.PrefixFreeProofs.{on_lawful, both_lawful, option_lawful, u32_prefix_free}
use Rattle.jj_merges.specs.Contents.{merge_lawful}
use Rattle.jj_backend.specs.RecordLaws.{bytes_lawful}
use Rattle.std.specs.Cmp.{IsEquivalence, and_equiv, on_equiv}
use Rattle.std.specs.Cmp.Lexicographic.{pointwise, nat_list_eq_equiv, lists_equiv, options_equiv}
use Rattle.std.specs.Option.{option_eq}
use Rattle.std.specs.Ordering.{eq_of_both, on}
use Rattle.std.specs.Str.{bytes_eq}
use Rattle.jj_stores.specs.RefTargets.{IsTarget, target_content, state_content, IsRemoteRef, remote_ref_content, Target}
use Rattle.jj_stores.specs.contracts.op_store.ref_target.RemoteRefStatePartialEq.TheImpl.{ghosts}
use Rattle.jj_stores.specs.contracts.op_store.ref_target.RemoteRefStateEq.TheImpl.Laws.{laws-law}
use Rattle.jj_stores.specs.declared.op_store.ref_target.RemoteRef.{RemoteRef}
use Rattle.jj_stores.specs.declared.op_store.ref_target.RemoteRefState.{RemoteRefState}
use Rattle.jj_stores.specs.declared.op_store.ref_target.RemoteRefState.TheVariants.{New, Tracked}

-- equality of targets: the same terms in the same order
abbrev pub target_eq : Target → Target → Bool
target_eq = pointwise (option_eq bytes_eq)

pub target_lawful : IsLawful IsTarget target_eq target_content
target_lawful = merge_lawful (option_lawful bytes_lawful)

same_content : (x y : RemoteRefState) → Unit {0} → Unit {0} → ghosts.eq x y ≡ true
    → state_content x ≡ state_content y
same_content New New p q h = refl
same_content Tracked Tracked p q h = refl
same_content x y p q h = cc

equal_states : (x y : RemoteRefState) (s t : List ℕ) → Unit {0} → Unit {0}
    → state_content x ++ s ≡ state_content y ++ t → ghosts.eq x y ≡ true
equal_states New New s t p q h = refl
equal_states Tracked Tracked s t p q h = refl
equal_states New Tracked s t p q h = let same : 0 ≡ 1 =
    u32_prefix_free 0 1 s t (lit< tt) (lit< tt) h in absurd (omega (arith, same))
equal_states Tracked New s t p q h = let same : 1 ≡ 0 =
    u32_prefix_free 1 0 s t (lit< tt) (lit< tt) h in absurd (omega (arith, same))

pub state_lawful : IsLawful (λ _. Unit {0}) ghosts.eq state_content
state_lawful = record { same = same_content; decides = equal_states }

-- equality of remote refs: the same target and state
abbrev pub remote_ref_eq : RemoteRef → RemoteRef → Bool
remote_ref_eq = eq_of_both (on (λ r. r.target) target_eq) (on (λ r. r.state) ghosts.eq)

pub remote_ref_lawful : IsLawful IsRemoteRef remote_ref_eq remote_ref_content
remote_ref_lawful = both_lawful (on_lawful (λ r. r.target) target_lawful)
    (on_lawful (λ r. r.state) state_lawful)

pub remote_ref_equiv : IsEquivalence remote_ref_eq
remote_ref_equiv = and_equiv (on_equiv (λ r. r.target)
    (lists_equiv (options_equiv nat_list_eq_equiv))) (on_equiv (λ r. r.state) laws-law)
