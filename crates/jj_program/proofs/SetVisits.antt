-- Visits of a directory by the sets of a stack: they are sound, and combine.
use Rattle.std.proofs.Common.{◌≡◌, ◌∙◌, List, [], ◌∷◌, ◌++◌, refl, ap, sym, subst, map, reverse, get_or}
use Rattle.jj_paths.specs.Paths.{Name, Path}
use Rattle.jj_matchers.specs.VisitSpecs.{VisitSpec, IsSound}
use Rattle.jj_matchers.specs.MentionedNames.{MentionsOnly}
use Rattle.jj_matchers.specs.Combined.{intersection_spec}
use Rattle.jj_matchers.specs.PathLists.{files_spec, prefix_spec}
use Rattle.jj_matchers.specs.declared.matchers.sorted_visits.SortedVisit.{SortedVisit}
use Rattle.jj_matchers.specs.declared.matchers.sorted_visits.SortedVisit.TheVariants.{Nothing}
use Rattle.jj_matchers.specs.SortedVisits.{sorted_visit_spec}
use Rattle.jj_matchers.proofs.Combined.{union_sound, difference_sound, intersection_sound}
use Rattle.jj_matchers.proofs.MentionedNames.{chosen_left, chosen_right, union_chooses, difference_chooses, intersection_chooses, files_visit, prefixes_visit}
use Rattle.jj_matchers.proofs.PatternSound.{patterns_sound, patterns_choose}
use Rattle.jj_program.specs.declared.file_set.Combination.{Combination}
use Rattle.jj_program.specs.declared.file_set.Combination.TheVariants.{Union, Difference, Intersection}
use Rattle.jj_program.specs.declared.file_set.CodeStep.{CodeStep}
use Rattle.jj_program.specs.declared.file_set.CodeStep.TheVariants.{Combine}
use Rattle.jj_program.specs.declared.file_set.matcher.FileSet.{FileSet}
use Rattle.jj_program.specs.declared.file_set.matcher.FileSet.TheVariants.{Everything, Nothing as Nothing', Files, Prefix, Globs}
use Rattle.jj_program.specs.SetCode.{made_by, visits_at, left_by}
use Rattle.jj_program.specs.WalkCommand.{SetTree, one, both, combined_stack, MatcherSpec, combined_spec, leaf_spec, spec_of}
use Rattle.jj_program.proofs.SetCode.{reverse_more}

-- the visit of a directory is sound, and lists only the names
abbrev pub Visited : Path → MatcherSpec → Type 0
Visited dir spec = IsSound spec.accepts spec.opens dir (spec.visits dir) × MentionsOnly spec.names (spec.visits dir)

module _ (dir : Path) where
  leaf_visited : (set : FileSet) → Visited dir (leaf_spec set)
  leaf_visited Everything = ((λ name rest. (refl, refl)), tt)
  leaf_visited Nothing' = ((λ name rest. refl), tt)
  leaf_visited (Files paths) = let (is, sound, only) = files_visit paths paths dir (files_spec paths dir) refl refl in (sound, only)
  leaf_visited (Prefix paths) = let (is, sound, only) = prefixes_visit paths paths dir (prefix_spec paths dir) refl refl in (sound, only)
  leaf_visited (Globs patterns) = (patterns_sound patterns dir, patterns_choose patterns dir)

  combined_visited : (k : Combination) (a b : MatcherSpec) → Visited dir a → Visited dir b → Visited dir (combined_spec k a b)
  combined_visited k a b (sound_a, only_a) (sound_b, only_b) = by k
    where
      from_first : MentionsOnly (a.names ++ b.names) (a.visits dir)
      from_first = chosen_left a.names b.names (a.visits dir) only_a

      from_second : MentionsOnly (a.names ++ b.names) (b.visits dir)
      from_second = chosen_right a.names b.names (b.visits dir) only_b

      by : (k : Combination) → Visited dir (combined_spec k a b)
      by Union = (union_sound a.accepts b.accepts a.opens b.opens dir (a.visits dir) (b.visits dir) sound_a sound_b, union_chooses (a.names ++ b.names) (a.visits dir) (b.visits dir) from_first from_second)
      by Difference = (difference_sound a.accepts b.accepts a.opens b.opens dir (a.visits dir) (b.visits dir) sound_a sound_b, difference_chooses a.names (a.visits dir) (b.visits dir) only_a)
      by Intersection = (
        intersection_sound a.accepts b.accepts a.opens b.opens dir (a.names ++ b.names) (a.visits dir) (b.visits dir) sound_a sound_b from_first from_second,
        intersection_chooses (a.names ++ b.names) (a.visits dir) (b.visits dir) from_first from_second,
      )

  pub visited : (set : SetTree FileSet) → Visited dir (spec_of set)
  visited (one set) = leaf_visited set
  visited (both k first second) = combined_visited k (spec_of first) (spec_of second) (visited first) (visited second)

  -- the visit of an intersection, from those of its operands
  pub met : (a b : SetTree FileSet) (first second visit : VisitSpec) → first ≡ (spec_of a).visits dir → second ≡ (spec_of b).visits dir
      → ((names : List Name) → MentionsOnly names first → MentionsOnly names second → visit ≡ intersection_spec names first second) → visit ≡ (spec_of (both Intersection a b)).visits dir
  met a b first second visit is_first is_second combined =
      let ours = (spec_of a).names in
      let theirs = (spec_of b).names in
      combined (ours ++ theirs) (subst (MentionsOnly (ours ++ theirs)) (sym is_first) (chosen_left ours theirs ((spec_of a).visits dir) (visited a).1))
      (subst (MentionsOnly (ours ++ theirs)) (sym is_second) (chosen_right ours theirs ((spec_of b).visits dir) (visited b).1))
      ∙ (λ i. intersection_spec (ours ++ theirs) (is_first i) (is_second i))

abbrev at : Path → List (SetTree FileSet) → List VisitSpec
at dir sets = map (λ set. (spec_of set).visits dir) sets

-- the top two are combined
pub combine_two : (dir : Path) (k : Combination) (earlier : List CodeStep) (second first visit : SortedVisit) (old mid rest new : List SortedVisit) → old ≡ mid ++ second ∷ [] → mid ≡ rest ++ first ∷ [] → new ≡ rest ++ visit ∷ [] →
    ((dir : Path) (a b : SetTree FileSet) → sorted_visit_spec first ≡ (spec_of a).visits dir → sorted_visit_spec second ≡ (spec_of b).visits dir → sorted_visit_spec visit ≡ (spec_of (both k a b)).visits dir) →
    map sorted_visit_spec (reverse old) ≡ visits_at dir earlier → map sorted_visit_spec (reverse new) ≡ visits_at dir (Combine k ∷ earlier)
combine_two dir k earlier second first visit old mid rest new e f g combined h =
    let before : reverse old ≡ second ∷ first ∷ reverse rest = ap reverse e ∙ reverse_more mid second ∙ ap (λ l. second ∷ l) (ap reverse f ∙ reverse_more rest first) in
    ap (map sorted_visit_spec) (ap reverse g ∙ reverse_more rest visit) ∙ two (left_by earlier) (sym (ap (map sorted_visit_spec) before) ∙ h)
  where
    two : (stack : List (SetTree FileSet)) → sorted_visit_spec second ∷ sorted_visit_spec first ∷ map sorted_visit_spec (reverse rest) ≡ at dir stack → sorted_visit_spec visit ∷ map sorted_visit_spec (reverse rest) ≡ at dir (combined_stack k stack)
    two [] e = cc
    two (b ∷ []) e = cc
    two (b ∷ a ∷ stack) e =
        let is_first : sorted_visit_spec first ≡ (spec_of a).visits dir = cc in
        let is_second : sorted_visit_spec second ≡ (spec_of b).visits dir = cc in
        let others : map sorted_visit_spec (reverse rest) ≡ at dir stack = cc in
        (λ i. combined dir a b is_first is_second i ∷ others i)

-- the top visit is that of the top set; an empty stack visits nothing
pub visit_top : (dir : Path) (code : List CodeStep) (visits rest : List SortedVisit) (visit : SortedVisit) → visits ≡ rest ++ visit ∷ [] → map sorted_visit_spec (reverse visits) ≡ visits_at dir code → sorted_visit_spec visit ≡ (spec_of (made_by code)).visits dir
visit_top dir code visits rest visit is h = top (left_by code) (sym (ap (map sorted_visit_spec) (ap reverse is ∙ reverse_more rest visit)) ∙ h)
  where
    top : (stack : List (SetTree FileSet)) → sorted_visit_spec visit ∷ map sorted_visit_spec (reverse rest) ≡ at dir stack → sorted_visit_spec visit ≡ (spec_of (get_or stack 0 (one Nothing'))).visits dir
    top [] e = cc
    top (set ∷ others) e = cc

pub visit_none : (dir : Path) (code : List CodeStep) (visits : List SortedVisit) → visits ≡ [] → map sorted_visit_spec (reverse visits) ≡ visits_at dir code → sorted_visit_spec Nothing ≡ (spec_of (made_by code)).visits dir
visit_none dir code visits is h = top (left_by code) (sym (ap (λ l. map sorted_visit_spec (reverse l)) is) ∙ h)
  where
    top : (stack : List (SetTree FileSet)) → [] ≡ at dir stack → sorted_visit_spec Nothing ≡ (spec_of (get_or stack 0 (one Nothing'))).visits dir
    top [] e = refl
    top (set ∷ others) e = cc
