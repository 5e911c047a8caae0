-- The states of remote refs, by their numbers.
use Rattle.std.proofs.Common.{◌≡◌, ℕ, ◌<◌, ◌≤◌, ◌^◌, List, ◌++◌, length, drop, sym, ap, ◌∙◌, arith, lit<}
use Rattle.jj_content.specs.Content.{u32_content}
use Rattle.jj_content.specs.PrefixFreeProofs.{u32_prefix_free}
use Rattle.jj_decode.specs.declared.error.DecodeError.{DecodeError}
use Rattle.jj_decode.specs.Contents.{IsContentOf}
use Rattle.jj_decode.specs.Decoding.{IsContentAt, NoContentAt, IsMalformedAt}
use Rattle.jj_decode.proofs.ContentAt.{error_narrow}
use Rattle.jj_stores.specs.RefTargets.{state_number, state_content}
use Rattle.jj_stores.specs.declared.op_store.ref_target.RemoteRefState.{RemoteRefState}
use Rattle.jj_stores.specs.declared.op_store.ref_target.RemoteRefState.TheVariants.{New, Tracked}
use Rattle.jj_decode.specs.ViewContents.{StateContents, small_number}

pub state_error : (bytes : List ℕ) (start : ℕ) (e : DecodeError) → IsMalformedAt (IsContentOf (λ n. n < 2 ^ 32) u32_content) bytes start e → IsMalformedAt StateContents bytes start e
state_error bytes start e = error_narrow (IsContentOf (λ n. n < 2 ^ 32) u32_content) StateContents (λ b. b) bytes start e
    (λ b q. record { value = state_number q.value; valid = small_number q.value; bytes_are = q.bytes_are })

module _ (bytes : List ℕ) (start tag end : ℕ) (s : IsContentAt (λ n. n < 2 ^ 32) u32_content bytes start tag end) where
  pub state_decoded : (state : RemoteRefState) → tag ≡ state_number state → IsContentAt (λ (_ : RemoteRefState). Unit {0}) state_content bytes start state end
  state_decoded state is = record { valid = tt; split = s.split ∙ ap (λ (n : ℕ). u32_content n ++ drop end bytes) is; within = s.within }

  known_number : (state : RemoteRefState) → state_number state < 2
  known_number New = lit< tt
  known_number Tracked = lit< tt

  pub none_if_unknown : start ≤ length bytes → 2 ≤ tag → NoContentAt StateContents (λ b. b) bytes start start
  none_if_unknown le unknown = record {
    none = λ b rest q h.
        let h' : u32_content tag ++ drop end bytes ≡ u32_content (state_number q.value) ++ rest = sym s.split ∙ h ∙ ap (λ (z : List ℕ). z ++ rest) q.bytes_are in
        let same : tag ≡ state_number q.value = u32_prefix_free tag (state_number q.value) (drop end bytes) rest s.valid (small_number q.value) h' in
        omega (arith, same, unknown, known_number q.value);
    from = omega arith;
    within = le;
  }
