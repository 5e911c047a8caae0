-- A walk finds exactly the marked paths in its set.
use Rattle.std.proofs.Common.{◌≡◌, ◌⊎◌, List, Bool, true, false, not, ◌&&◌, ◌||◌, Decides, refl, ap, sym, ◌∙◌, inl, inr, true≢false}
use Rattle.std.proofs.lemmas.List.Folds.{Any-from_list_any, list_any_at}
use Rattle.jj_paths.specs.Paths.{Path}
use Rattle.jj_matchers.specs.PathLists.{is_at_or_below}
use Rattle.jj_matchers.specs.MarkWalk.{WalksMarks}
use Rattle.jj_matchers.proofs.PathLists.{Decides-is_listed, below_base, is_at_or_below-append}
use Rattle.jj_matchers.proofs.PatternSound.{Decides-is_accepted}
use Rattle.jj_program.specs.declared.file_set.Combination.TheVariants.{Union, Difference, Intersection}
use Rattle.jj_program.specs.declared.file_set.matcher.FileSet.{FileSet}
use Rattle.jj_program.specs.declared.file_set.matcher.FileSet.TheVariants.{Everything, Nothing, Files, Prefix, Globs}
use Rattle.jj_program.specs.FoundFiles.{IsNamed, IsIn, AreFound, FindsItsFiles}
use Rattle.jj_program.specs.WalkCommand.{SetTree, one, both, leaf_spec, spec_of, WalkRequest}

-- 1. A set's test is its meaning.

named : (set : FileSet) (path : Path) → Decides ((leaf_spec set).accepts path) (IsNamed set path)
named Everything path = ((λ h. tt), (λ h. refl))
named Nothing path = ((λ h. absurd (true≢false (sym h))), (λ h. absurd h))
named (Files paths) path = Decides-is_listed paths path
named (Prefix paths) path = (
  (λ h. let found = Any-from_list_any (λ base. is_at_or_below base path) paths h in
      let rest = below_base found.1 path found.4 in
      (found.1, rest.0, (found.0, found.2, found.3), rest.1)),
  (λ h. list_any_at (λ base. is_at_or_below base path) paths h.2.0 h.0 h.2.1
      (ap (λ base. is_at_or_below base path) h.2.2 ∙ (ap (is_at_or_below h.0) h.3 ∙ is_at_or_below-append h.0 h.1))),
)
named (Globs patterns) path = Decides-is_accepted patterns path

either : (a b : Bool) (A B : Type 0) → Decides a A → Decides b B → Decides (a || b) (A ⊎ B)
either true b A B h k = ((λ e. inl (h.0 refl)), (λ e. refl))
either false b A B h k = ((λ e. inr (k.0 e)), (λ e. second e))
  where
    second : A ⊎ B → b ≡ true
    second (inl x) = absurd (true≢false (sym (h.1 x)))
    second (inr y) = k.1 y

alone : (a b : Bool) (A B : Type 0) → Decides a A → Decides b B → Decides (a && not b) (A × (B → ⊥))
alone false b A B h k = ((λ e. absurd (true≢false (sym e))), (λ e. absurd (true≢false (sym (h.1 e.0)))))
alone true true A B h k = ((λ e. absurd (true≢false (sym e))), (λ e. absurd (e.1 (k.0 refl))))
alone true false A B h k = ((λ e. (h.0 refl, λ y. true≢false (sym (k.1 y)))), (λ e. refl))

in_both : (a b : Bool) (A B : Type 0) → Decides a A → Decides b B → Decides (a && b) (A × B)
in_both false b A B h k = ((λ e. absurd (true≢false (sym e))), (λ e. absurd (true≢false (sym (h.1 e.0)))))
in_both true b A B h k = ((λ e. (h.0 refl, k.0 e)), (λ e. k.1 e.1))

is_in : (set : SetTree FileSet) (path : Path) → Decides ((spec_of set).accepts path) (IsIn set path)
is_in (one set) path = named set path
is_in (both Union first second) path = either _ _ _ _ (is_in first path) (is_in second path)
is_in (both Difference first second) path = alone _ _ _ _ (is_in first path) (is_in second path)
is_in (both Intersection first second) path = in_both _ _ _ _ (is_in first path) (is_in second path)

-- 2. The files of a walk.

are_found : (request : WalkRequest) (files entered : List Path) → WalksMarks (spec_of request.set).accepts (spec_of request.set).visits request.marks files entered → AreFound request files
are_found request files entered walks = record {
  exact = λ path.
      let found = walks.found path in
      let within = is_in request.set path in (
        (λ h. let file = found.0 h in (file.0, file.1, within.0 file.2)),
        (λ h. found.1 (h.0, h.1, within.1 h.2)),
      );
  ordered = walks.files_ordered;
}

pub finds_its_files : FindsItsFiles
finds_its_files text output (request, requested, (files, entered, walks, is)) = (request, files, entered, requested, are_found request files entered walks, is)
