-- Results of decoding a whole byte string.
use Rattle.std.proofs.Common.{◌≡◌, ℕ, ◌<◌, Bool, List, [], length, drop, Err, arith, sym, ap, ◌∙◌}
use Rattle.std.proofs.lemmas.List.{append-nil, length-drop}
use Rattle.jj_content.specs.Content.{IsLawful}
use Rattle.jj_decode.specs.declared.error.DecodeError.{DecodeError}
use Rattle.jj_decode.specs.declared.error.DecodeError.TheVariants.{Memory, Malformed}
use Rattle.jj_decode.specs.Decoding.{IsContentAt, IsErrorAt, DecodesTo}
use Rattle.jj_decode.proofs.ContentAt.{rest_equal}

-- a value's content is not malformed
pub decodes_to_error : {X : Type 0} (v : X → Type 0) (c : X → List ℕ) (bytes : List ℕ)
    (same : X → Bool) (e : DecodeError) (x : X) → v x → bytes ≡ c x → IsErrorAt v c bytes 0 e
    → DecodesTo same (Err e)
decodes_to_error v c bytes same Memory x valid is n = tt
decodes_to_error v c bytes same (Malformed reason offset) x valid is n = n.none x [] valid
    (is ∙ sym (append-nil (c x)))

-- bytes after a content are no content
pub no_trailing_bytes : {X : Type 0} {v : X → Type 0} {e : X → X → Bool} {c : X → List ℕ}
    (l : IsLawful v e c) (bytes : List ℕ) (end : ℕ) (y : X) → IsContentAt v c bytes 0 y end
    → end < length bytes
    → (x : X) → v x → bytes ≡ c x → ⊥
no_trailing_bytes {c = c} l bytes end y s lt x valid is =
    let rest : drop end bytes ≡ [] = rest_equal l y x (drop end bytes) [] s.valid valid
    (sym s.split ∙ is ∙ sym (append-nil (c x))) in
    omega (arith, ap length rest, length-drop end bytes)
