-- The content of a list of bytes is that of a byte string.
use Rattle.std.proofs.Common.{◌≡◌, ℕ, List, [], ◌∷◌, ◌++◌, length, ap, sym, refl}
use Rattle.std.specs.List.{flat_map}
use Rattle.jj_content.specs.Content.{list_content, string_content, u64_content}
use Rattle.jj_backend.specs.Contents.{bytes_content}

flat_map-single : (xs : List ℕ) → flat_map (λ (x : ℕ). x ∷ []) xs ≡ xs
flat_map-single [] = refl
flat_map-single (x ∷ xs) = ap (λ ys. x ∷ ys) (flat_map-single xs)

pub bytes_content-is : (xs : List ℕ) → string_content xs ≡ bytes_content xs
unfolding list_content string_content
bytes_content-is xs = ap (λ ys. u64_content (length xs) ++ ys) (sym (flat_map-single xs))
