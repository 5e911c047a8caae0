-- Soundness of the visits of unions, differences and intersections, from that of both operands.
use Rattle.std.proofs.Common.{◌≡◌, Bool, true, false, not, ◌&&◌, ◌||◌, List, [], ◌∷◌, ◌++◌, refl, ap, sym, ◌∙◌, inl, inr, if◌then◌else◌}
use mathlib.Core.Bool.{false≢true}
use Rattle.std.proofs.Math.Bool.{and-false}
use Rattle.std.proofs.lemmas.Bool.{and_from, and_parts, false_from_ne_true, or_cases, or_left, or_right}
use Rattle.jj_paths.specs.Paths.{Name, Path}
use Rattle.jj_matchers.specs.VisitSpecs.{VisitSpec, all_recursively, specific, nothing, IsSound, NamesAll}
use Rattle.jj_matchers.specs.MentionedNames.{IsAllOrAmong, MentionsOnly, mentions_any}
use Rattle.jj_matchers.specs.Combined.{union_spec, difference_spec, spec_of_names, intersection_spec}
use Rattle.jj_matchers.proofs.MentionedNames.{passes_some, both_listed}

-- union, intersection and difference of sets of paths
abbrev pub either : (Path → Bool) → (Path → Bool) → Path → Bool
either f g path = f path || g path

abbrev pub both : (Path → Bool) → (Path → Bool) → Path → Bool
both f g path = f path && g path

abbrev pub less : (Path → Bool) → (Path → Bool) → Path → Bool
less f g path = f path && not (g path)

or_false : (a b : Bool) → a ≡ false → b ≡ false → (a || b) ≡ false
or_false a b e f = rw (e, f)

and_false : (a b : Bool) → b ≡ false → (a && b) ≡ false
and_false a b e = ap (λ t. a && t) e ∙ and-false a

false_and : (a b : Bool) → a ≡ false → (a && b) ≡ false
false_and a b e = ap (λ t. t && b) e

only_left : (a b : Bool) → b ≡ false → (a || b) ≡ true → a ≡ true
only_left true b e whole = refl
only_left false b e whole = sym e ∙ whole

only_right : (a b : Bool) → a ≡ false → (a || b) ≡ true → b ≡ true
only_right a b e whole = ap (λ t. t || b) (sym e) ∙ whole

module _ (f g o p : Path → Bool) (dir : Path) where
  -- union with `nothing`
  nothing_left : (b : VisitSpec) → IsSound f o dir nothing → IsSound g p dir b → IsSound (either f g) (either o p) dir b
  nothing_left all_recursively none sound = λ name rest. (or_right _ _ (sound name rest).0, or_right _ _ (sound name rest).1)
  nothing_left (specific dirs files) none sound = record {
    files_named = λ name e. sound.files_named name (only_right _ _ (none name []) e);
    dirs_named = λ name next rest e. sound.dirs_named name next rest (only_right _ _ (none name (next ∷ rest)) e);
    dirs_open = λ name e. or_right _ _ (sound.dirs_open name e);
  }
  nothing_left nothing none sound = λ name rest. or_false _ _ (none name rest) (sound name rest)

  pub union_sound : (a b : VisitSpec) → IsSound f o dir a → IsSound g p dir b → IsSound (either f g) (either o p) dir (union_spec a b)
  union_sound all_recursively b sound more = λ name rest. (or_left _ _ (sound name rest).0, or_left _ _ (sound name rest).1)
  union_sound nothing b sound more = nothing_left b sound more
  union_sound (specific dirs files) all_recursively sound more = λ name rest. (or_right _ _ (more name rest).0, or_right _ _ (more name rest).1)
  union_sound (specific dirs files) nothing sound more = record {
    files_named = λ name e. sound.files_named name (only_left _ _ (more name []) e);
    dirs_named = λ name next rest e. sound.dirs_named name next rest (only_left _ _ (more name (next ∷ rest)) e);
    dirs_open = λ name e. or_left _ _ (sound.dirs_open name e);
  }
  union_sound (specific dirs files) (specific more_dirs more_files) sound more = record {
    files_named = λ name e. elim (or_cases _ _ e) [ inl h ↦ or_left _ _ (sound.files_named name h) | inr h ↦ or_right _ _ (more.files_named name h) ];
    dirs_named = λ name next rest e. elim (or_cases _ _ e) [ inl h ↦ or_left _ _ (sound.dirs_named name next rest h) | inr h ↦ or_right _ _ (more.dirs_named name next rest h) ];
    dirs_open = λ name e. elim (or_cases _ _ e) [ inl h ↦ or_left _ _ (sound.dirs_open name h) | inr h ↦ or_right _ _ (more.dirs_open name h) ];
  }

  -- `all_recursively` as the specific visit of all children
  pub all_names : IsSound f o dir all_recursively → NamesAll (less f g) o dir (λ name. true) (λ name. true)
  all_names sound = record { files_named = λ name e. refl; dirs_named = λ name next rest e. refl; dirs_open = λ name e. (sound name []).1 }

  less_names : (dirs files : Name → Bool) → NamesAll f o dir dirs files → NamesAll (less f g) o dir dirs files
  less_names dirs files sound = record {
    files_named = λ name e. sound.files_named name (and_parts _ _ e).0;
    dirs_named = λ name next rest e. sound.dirs_named name next rest (and_parts _ _ e).0;
    dirs_open = sound.dirs_open;
  }

  -- difference with `all_recursively`
  pub none_left : IsSound g p dir all_recursively → IsSound (less f g) o dir nothing
  none_left more = λ name rest. and_false (f (dir ++ name ∷ rest)) (not (g (dir ++ name ∷ rest))) (ap not (more name rest).0)

  -- intersection with `nothing`
  pub none_common : IsSound f o dir nothing → IsSound (both f g) (both o p) dir nothing
  none_common sound = λ name rest. false_and (f (dir ++ name ∷ rest)) (g (dir ++ name ∷ rest)) (sound name rest)

  pub difference_sound : (a b : VisitSpec) → IsSound f o dir a → IsSound g p dir b → IsSound (less f g) o dir (difference_spec a b)
  difference_sound a all_recursively sound more = none_left more
  difference_sound all_recursively nothing sound more = λ name rest. (and_from (f (dir ++ name ∷ rest)) (not (g (dir ++ name ∷ rest))) (sound name rest).0 (ap not (more name rest)), (sound name rest).1)
  difference_sound (specific wanted_dirs wanted_files) nothing sound more = less_names wanted_dirs wanted_files sound
  difference_sound nothing nothing sound more = λ name rest. false_and (f (dir ++ name ∷ rest)) _ (sound name rest)
  difference_sound all_recursively (specific dirs files) sound more = all_names sound
  difference_sound (specific wanted_dirs wanted_files) (specific dirs files) sound more = less_names wanted_dirs wanted_files sound
  difference_sound nothing (specific dirs files) sound more = λ name rest. false_and (f (dir ++ name ∷ rest)) _ (sound name rest)

  -- intersection with `all_recursively`
  all_left : (b : VisitSpec) → IsSound f o dir all_recursively → IsSound g p dir b → IsSound (both f g) (both o p) dir b
  all_left all_recursively all sound = λ name rest. (and_from _ _ (all name rest).0 (sound name rest).0, and_from _ _ (all name rest).1 (sound name rest).1)
  all_left (specific dirs files) all sound = record {
    files_named = λ name e. sound.files_named name (and_parts _ _ e).1;
    dirs_named = λ name next rest e. sound.dirs_named name next rest (and_parts _ _ e).1;
    dirs_open = λ name e. and_from _ _ (all name []).1 (sound.dirs_open name e);
  }
  all_left nothing all sound = λ name rest. and_false (f (dir ++ name ∷ rest)) (g (dir ++ name ∷ rest)) (sound name rest)

  both_names : (dirs files other_dirs other_files : Name → Bool) → NamesAll f o dir dirs files → NamesAll g p dir other_dirs other_files →
      NamesAll (both f g) (both o p) dir (λ name. dirs name && other_dirs name) (λ name. files name && other_files name)
  both_names dirs files other_dirs other_files sound more = record {
    files_named = λ name e. and_from _ _ (sound.files_named name (and_parts _ _ e).0) (more.files_named name (and_parts _ _ e).1);
    dirs_named = λ name next rest e. and_from _ _ (sound.dirs_named name next rest (and_parts _ _ e).0) (more.dirs_named name next rest (and_parts _ _ e).1);
    dirs_open = λ name e. and_from _ _ (sound.dirs_open name (and_parts _ _ e).0) (more.dirs_open name (and_parts _ _ e).1);
  }

-- a specific visit without names may be replaced by `nothing`
pub named_sound : (accepts opens : Path → Bool) (dir : Path) (names : List Name) (dirs files : Name → Bool) → NamesAll accepts opens dir dirs files → IsAllOrAmong names dirs → IsAllOrAmong names files →
    IsSound accepts opens dir (spec_of_names names dirs files)
named_sound accepts opens dir names dirs files sound d f = by_cases (mentions_any names dirs || mentions_any names files) refl
  where
    by_cases : (t : Bool) → (mentions_any names dirs || mentions_any names files) ≡ t → IsSound accepts opens dir (if t then specific dirs files else nothing)
    by_cases true e = sound
    by_cases false e = refused
      where
        refused : (name : Name) (rest : Path) → accepts (dir ++ name ∷ rest) ≡ false
        refused name [] = false_from_ne_true _ (λ h. false≢true (sym e ∙ or_right (mentions_any names dirs) (mentions_any names files) (passes_some names files f name (sound.files_named name h))))
        refused name (next ∷ rest) = false_from_ne_true _ (λ h. false≢true (sym e ∙ or_left (mentions_any names dirs) (mentions_any names files) (passes_some names dirs d name (sound.dirs_named name next rest h))))

module _ (f g o p : Path → Bool) (dir : Path) (names : List Name) where
  pub intersection_sound : (a b : VisitSpec) → IsSound f o dir a → IsSound g p dir b → MentionsOnly names a → MentionsOnly names b → IsSound (both f g) (both o p) dir (intersection_spec names a b)
  intersection_sound all_recursively b sound more one other = all_left f g o p dir b sound more
  intersection_sound nothing b sound more one other = none_common f g o p dir sound
  intersection_sound (specific dirs files) all_recursively sound more one other = record {
    files_named = λ name e. sound.files_named name (and_parts _ _ e).0;
    dirs_named = λ name next rest e. sound.dirs_named name next rest (and_parts _ _ e).0;
    dirs_open = λ name e. and_from _ _ (sound.dirs_open name e) (more name []).1;
  }
  intersection_sound (specific dirs files) nothing sound more one other = λ name rest. and_false (f (dir ++ name ∷ rest)) (g (dir ++ name ∷ rest)) (more name rest)
  intersection_sound (specific dirs files) (specific other_dirs other_files) sound more one other =
      named_sound (both f g) (both o p) dir names (λ name. dirs name && other_dirs name) (λ name. files name && other_files name) (both_names f g o p dir dirs files other_dirs other_files sound more)
      (both_listed names dirs other_dirs one.0 other.0) (both_listed names files other_files one.1 other.1)

-- specific visits of the same names are equal
pub same_specific : (dirs files dirs' files' : Name → Bool) → ((name : Name) → dirs name ≡ dirs' name) → ((name : Name) → files name ≡ files' name) → specific dirs files ≡ specific dirs' files'
same_specific dirs files dirs' files' d f = λ i. specific (λ name. d name i) (λ name. f name i)
