-- Lines of people: `NAME <EMAIL> SECONDS +hhmm`.
use Rattle.std.specs.Prelude.{ℕ, ◌+◌, ◌-◌, ◌*◌, ◌/◌, ◌%◌, Bool, ◌==◌, ◌&&◌, ◌||◌, if◌then◌else◌, List, [], ◌∷◌, ◌++◌, length, take, get_or, nat_lt, Option, Some, None, codes, decimal}
use Rattle.std.specs.Char.{is_ascii_digit}
use Rattle.jj_fast_import.specs.declared.command.Zone.{Zone}
use Rattle.jj_fast_import.specs.Words.{and_then, number_of, split_once, strip}
use Rattle.jj_fast_import.specs.Values.{PersonValue}

-- a number of two digits
abbrev pub two_digits : ℕ → ℕ → Option ℕ
two_digits a b =
    if is_ascii_digit a && is_ascii_digit b then Some ((a - 48) * 10 + (b - 48)) else None

-- whether the byte is `+` or `-`
abbrev pub is_sign : ℕ → Bool
is_sign b = b == 43 || b == 45

-- `+hhmm` or `-hhmm`
abbrev pub zone_of : List ℕ → Option Zone
zone_of (sign ∷ a ∷ b ∷ c ∷ d ∷ []) =
    if is_sign sign then and_then (two_digits a b) (λ hours. and_then (two_digits c d) (λ minutes.
    Some (record { is_west = sign == 45; hours = hours; minutes = minutes })))
    else None
zone_of bytes = None

-- the bytes before a space at the end
abbrev pub without_last_space : List ℕ → Option (List ℕ)
without_last_space bytes =
    if nat_lt 0 (length bytes) && get_or bytes (length bytes - 1) 0 == 32
    then Some (take (length bytes - 1) bytes) else None

-- the bytes before `<`: nothing, or a name and a space
abbrev pub name_of : List ℕ → Option (Option (List ℕ))
name_of [] = Some None
name_of (b ∷ bs) = and_then (without_last_space (b ∷ bs)) (λ name. Some (Some name))

-- the bytes after `>`: a space, the seconds, a space and the offset
abbrev pub time_of : List ℕ → Option (ℕ × Zone)
time_of text =
    and_then (strip (32 ∷ []) text) (λ date.
    and_then (split_once 32 date) (λ parts.
    and_then (number_of parts.0) (λ seconds.
    and_then (zone_of parts.1) (λ zone. Some (seconds, zone)))))

-- a person after the first word of the line and a space
abbrev pub person_of : List ℕ → Option PersonValue
person_of text =
    and_then (split_once 60 text) (λ at.
    and_then (name_of at.0) (λ name.
    and_then (split_once 62 at.1) (λ mail.
    and_then (time_of mail.1) (λ time.
    Some (record { name = name; email = mail.0; seconds = time.0; zone = time.1 })))))
