use Rattle.std.proofs.Common.{◌≡◌, ◌∙◌, refl}
use Rattle.std.specs.Prelude.{codes}
use Rattle.std.specs.Str.{str_to_ascii_lowercase}
use Rattle.jj_ids.specs.HexPrefixes.{to_forward_hex}
use Rattle.jj_ids_tests.proofs.callers.lookup.hex_of_mlp.Goals as goal

forward_mlp : to_forward_hex (str_to_ascii_lowercase (codes "mlp")) ≡ codes "dea"
unfolding to_forward_hex
forward_mlp = refl

pub returns-in_ok-hex-in-Some : goal.returns-in_ok-hex-in-Some
returns-in_ok-hex-in-Some c =
    let read = rw c.in-Some.is at c.in_ok-try_from_reverse_hex.ensures.hex in
    c.in_ok-hex-in-Some.ensures ∙ read ∙ forward_mlp
