-- Membership of ids in longer lists and in parts of a list.
use Rattle.std.proofs.Common.{◌≡◌, ◌++◌, ℕ, List, get_or, subst, sym}
use Rattle.std.specs.Prelude.{All}
use Rattle.std.specs.List.{Contains}
use Rattle.std.proofs.lemmas.List.Elements.{All-contains, All-weaker, Contains-append_left, Contains-append_right, Contains-get_or}

-- membership is preserved when ids are appended
pub still_held : (old added new requested : List ℕ) → new ≡ old ++ added → All (Contains old) requested → All (Contains new) requested
still_held old added new requested grown held = All-weaker (Contains old) (Contains new) (λ id among. subst (λ ids. Contains ids id) (sym grown) (Contains-append_left old added id among)) requested held

-- appended ids are members
pub added_held : (old added new : List ℕ) → new ≡ old ++ added → All (Contains new) added
added_held old added new grown k d within = subst (λ ids. Contains ids (get_or added k d)) (sym grown) (Contains-append_right old added (get_or added k d) (Contains-get_or added k d within))

pub front_held : (ids xs ys : List ℕ) → All (Contains ids) (xs ++ ys) → All (Contains ids) xs
front_held ids xs ys held k d within = All-contains (Contains ids) (xs ++ ys) (get_or xs k d) held (Contains-append_left xs ys (get_or xs k d) (Contains-get_or xs k d within))

pub back_held : (ids xs ys : List ℕ) → All (Contains ids) (xs ++ ys) → All (Contains ids) ys
back_held ids xs ys held k d within = All-contains (Contains ids) (xs ++ ys) (get_or ys k d) held (Contains-append_right xs ys (get_or ys k d) (Contains-get_or ys k d within))
