-- Results for earlier states of the closures hold for later ones.

pub of_collected : {A : Type 0} {P Q : A → Type 0} (k : (filled : A) × P filled) → (P k.0 → Q k.0) → (filled : A) × Q filled
of_collected k f = (k.0, f k.1)
