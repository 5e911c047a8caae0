-- Words of a line.
use Rattle.std.specs.Prelude.{ℕ, ◌+◌, ◌*◌, ◌-◌, ◌^◌, ◌==◌, ◌&&◌, nat_eq, nat_lt, if◌then◌else◌, List, [], ◌∷◌, length, drop, Option, Some, None}
use Rattle.std.specs.Char.{is_ascii_digit}
use Rattle.std.specs.List.{starts_with}
use Rattle.std.specs.Option.{option_map}

-- the first of two byte strings with one more byte before it
abbrev pub with_byte : ℕ → Option (List ℕ × List ℕ) → Option (List ℕ × List ℕ)
with_byte b None = None
with_byte b (Some parts) = Some (b ∷ parts.0, parts.1)

-- the bytes before the first `byte`, and those after it
abbrev pub split_once : ℕ → List ℕ → Option (List ℕ × List ℕ)
split_once byte [] = None
split_once byte (b ∷ bs) = if b == byte then Some ([], bs) else with_byte b (split_once byte bs)

-- the bytes after a prefix
abbrev pub strip : List ℕ → List ℕ → Option (List ℕ)
strip word bytes = if starts_with nat_eq bytes word then Some (drop (length word) bytes) else None

-- a number of 64 bits with one more digit
abbrev pub push_digit : ℕ → ℕ → Option ℕ
push_digit n c =
    if is_ascii_digit c && nat_lt (10 * n + (c - 48)) (2 ^ 64) then Some (10 * n + (c - 48))
    else None

abbrev pub and_then : {A B : Type 0} → Option A → (A → Option B) → Option B
and_then None f = None
and_then (Some x) f = f x

-- the number that more digits make of n
abbrev pub digits_after : ℕ → List ℕ → Option ℕ
digits_after n [] = Some n
digits_after n (c ∷ cs) = and_then (push_digit n c) (λ m. digits_after m cs)

-- the number that at least one digit and nothing else represents, below 2 ^ 64
abbrev pub number_of : List ℕ → Option ℕ
number_of [] = None
number_of (c ∷ cs) = digits_after 0 (c ∷ cs)
