-- The command `walk`: its input marks paths and builds one file set on a stack, in postfix
-- notation; its output has the marked files in the set, and the directories that a pruned walk
-- enters.
-- Cited by contracts of public items through FoundFiles, LineFaults, Program.
use Rattle.std.specs.Prelude.{ℕ, Bool, true, false, List, [], ◌∷◌, ◌++◌, if◌then◌else◌, length, is_ok, nat_lt, Result, Ok, Err, ◌≡◌, not, ◌&&◌, ◌||◌, codes, flat_map}
use Rattle.std.specs.List.{zip}
use Rattle.jj_paths.specs.Paths.{Path, components, is_path_string, Name, path_string}
use Rattle.jj_globs.specs.GlobSyntax.{tokens_of}
use Rattle.jj_globs.specs.GlobMeaning.{GlobSpec}
use Rattle.jj_program.specs.declared.file_set.matcher.FileSet.{FileSet}
use Rattle.jj_program.specs.declared.file_set.matcher.FileSet.TheVariants.{Everything, Nothing, Files, Prefix, Globs}
use Rattle.jj_program.specs.declared.fault.LineFault.{LineFault}
use Rattle.jj_program.specs.declared.fault.LineFault.TheVariants.{BadPath, BadGlob, EmptyStack}
use Rattle.jj_program.specs.declared.fault.Fault.{Fault}
use Rattle.jj_program.specs.declared.fault.Fault.TheVariants.{Matchers}
use Rattle.jj_program.specs.declared.file_set.SetWord.{SetWord}
use Rattle.jj_program.specs.declared.file_set.SetWord.TheVariants.{Everything as Everything', Nothing as Nothing', Files as Files', Prefix as Prefix', Globs as Globs', PrefixGlobs}
use Rattle.jj_program.specs.declared.walk_command.WalkForm.{WalkForm}
use Rattle.jj_program.specs.declared.walk_command.WalkForm.TheVariants.{Mark, Push, Combine}
use Rattle.jj_program.specs.declared.walk_command.TheConstants.{WALK_FORMS}
use Rattle.jj_program.specs.Forms.{Kind, line_of, table}
use Rattle.jj_program.specs.Lines.{lines_of, after_lines, result_and_then, line_text}
use Rattle.jj_program.specs.declared.file_set.Combination.{Combination}
use Rattle.jj_matchers.specs.VisitSpecs.{VisitSpec, all_recursively, nothing}
use Rattle.jj_matchers.specs.Combined.{union_spec, difference_spec, intersection_spec}
use Rattle.jj_matchers.specs.PathLists.{is_listed, leads_to_listed, files_spec, has_prefix, leads_to_prefix, prefix_spec}
use Rattle.jj_matchers.specs.MentionedNames.{names_of}
use Rattle.jj_matchers.specs.Patterns.{is_accepted, opens_to_patterns, pattern_dirs, patterns_spec}
use Rattle.jj_matchers.specs.MarkWalk.{WalksMarks}
use Rattle.jj_program.specs.declared.file_set.Combination.TheVariants.{Union, Difference, Intersection}

-- 1. Combined sets.

-- a leaf, or a combination of two sets
pub data SetTree (A : Type 0) : Type 0 where
  one : A → SetTree A
  both : Combination → SetTree A → SetTree A → SetTree A

-- combines the top two sets; empty for a stack of fewer sets
abbrev pub combined_stack : {A : Type 0} → Combination → List (SetTree A) → List (SetTree A)
combined_stack combination [] = []
combined_stack combination (alone ∷ []) = []
combined_stack combination (second ∷ first ∷ stack) = both combination first second ∷ stack

-- 2. The input.

-- the marked paths, and the stack with its top first
pub record WalkState : Type 0 where
  pub marks : List Path
  pub stack : List (SetTree FileSet)

-- paths
abbrev pub path_kind : Kind Path
path_kind = record { is_one = is_path_string; value_of = components; otherwise = BadPath }

-- globs; `*` does not match `/`
unfoldable pub is_glob_text : List ℕ → Bool
is_glob_text text = is_ok (tokens_of text)

abbrev pub glob_kind : Kind GlobSpec
glob_kind = record {
  is_one = is_glob_text;
  value_of = λ text.
      record { text = text; options = record { separator = true; icase = false } };
  otherwise = BadGlob;
}

-- the set of a word and its fields; globs are in their directories
abbrev pub named_set : SetWord → List Path → List GlobSpec → FileSet
named_set Everything' paths globs = Everything
named_set Nothing' paths globs = Nothing
named_set Files' paths globs = Files paths
named_set Prefix' paths globs = Prefix paths
named_set Globs' paths globs = Globs (record { prefix_paths = false; patterns = zip paths globs })
named_set PrefixGlobs paths globs =
    Globs (record { prefix_paths = true; patterns = zip paths globs })

-- the transition by an action
abbrev pub walk_act : WalkState → WalkForm → List Path → List GlobSpec → Result WalkState LineFault
walk_act state Mark paths globs =
    Ok (record { marks = state.marks ++ paths; stack = state.stack })
walk_act state (Push word) paths globs = Ok (record
    { marks = state.marks; stack = one (named_set word paths globs) ∷ state.stack })
walk_act state (Combine combination) paths globs =
    if nat_lt (length state.stack) 2 then Err EmptyStack else Ok (record
    { marks = state.marks; stack = combined_stack combination state.stack })

-- the action, the paths and the globs of a line
abbrev pub walk_line : List (List ℕ) → Result (WalkForm × List Path × List GlobSpec) LineFault
walk_line = line_of path_kind glob_kind (table WALK_FORMS)

-- the transition at a line
abbrev pub walk_step : WalkState → List (List ℕ) → Result WalkState LineFault
walk_step state fields =
    result_and_then (walk_line fields) (λ line. walk_act state line.0 line.1 line.2)

-- the meaning of a whole input: the marked paths and one set
pub record WalkRequest : Type 0 where
  pub marks : List Path
  pub set : SetTree FileSet

-- the only set left on the stack; any other number of sets is a fault
abbrev pub only_set : List Path → List (SetTree FileSet) → Result WalkRequest Fault
only_set marks [] = Err (Matchers 0)
only_set marks (set ∷ []) = Ok (record { marks = marks; set = set })
only_set marks (set ∷ other ∷ stack) = Err (Matchers (length (set ∷ other ∷ stack)))

-- the request of an input, or its first fault
abbrev pub walk_request : List ℕ → Result WalkRequest Fault
walk_request text = result_and_then
    (after_lines walk_step 1 (record { marks = []; stack = [] }) (lines_of text))
    (λ state. only_set state.marks state.stack)

-- 3. The output.

-- a set of files as its matcher represents it: its members, the directories that a walk may enter,
-- the visits of directories, and the names that these may list
pub record MatcherSpec : Type 0 where
  pub accepts : Path → Bool
  pub opens : Path → Bool
  pub visits : Path → VisitSpec
  pub names : List Name

-- the matcher of a set of files that a line names
abbrev pub leaf_spec : FileSet → MatcherSpec
leaf_spec Everything = record {
  accepts = λ path. true;
  opens = λ dir. true;
  visits = λ dir. all_recursively;
  names = [];
}
leaf_spec Nothing = record {
  accepts = λ path. false;
  opens = λ dir. false;
  visits = λ dir. nothing;
  names = [];
}
leaf_spec (Files paths) = record {
  accepts = is_listed paths;
  opens = leads_to_listed paths;
  visits = files_spec paths;
  names = names_of paths;
}
leaf_spec (Prefix paths) = record {
  accepts = has_prefix paths;
  opens = λ dir. has_prefix paths dir || leads_to_prefix paths dir;
  visits = prefix_spec paths;
  names = names_of paths;
}
leaf_spec (Globs patterns) = record {
  accepts = is_accepted patterns;
  opens = opens_to_patterns patterns;
  visits = patterns_spec patterns;
  names = names_of (pattern_dirs patterns);
}

-- a combination by its operands; a walk by a difference ignores the second
abbrev pub combined_spec : Combination → MatcherSpec → MatcherSpec → MatcherSpec
combined_spec Union first second = record {
  accepts = λ path. first.accepts path || second.accepts path;
  opens = λ dir. first.opens dir || second.opens dir;
  visits = λ dir. union_spec (first.visits dir) (second.visits dir);
  names = first.names ++ second.names;
}
combined_spec Difference first second = record {
  accepts = λ path. first.accepts path && not (second.accepts path);
  opens = first.opens;
  visits = λ dir. difference_spec (first.visits dir) (second.visits dir);
  names = first.names;
}
combined_spec Intersection first second = record {
  accepts = λ path. first.accepts path && second.accepts path;
  opens = λ dir. first.opens dir && second.opens dir;
  visits = λ dir. intersection_spec (first.names ++ second.names)
      (first.visits dir) (second.visits dir);
  names = first.names ++ second.names;
}

-- the matcher of a tree of sets, by the matchers of its operands
abbrev pub spec_of : SetTree FileSet → MatcherSpec
spec_of (one set) = leaf_spec set
spec_of (both combination first second) = combined_spec combination (spec_of first) (spec_of second)

-- a line with this name for each path
abbrev pub path_lines : List ℕ → List Path → List ℕ
path_lines name paths = flat_map (λ path. line_text name (path_string path ∷ [])) paths

-- the output of a walk of the marks by the set: the files, then the directories entered
abbrev pub IsWalkOutput : List Path → SetTree FileSet → List ℕ → Type 0
IsWalkOutput marks set output = (files entered : List Path)
    × WalksMarks (spec_of set).accepts (spec_of set).visits marks files entered
    × (output ≡ path_lines (codes "file") files ++ path_lines (codes "enter") entered)

-- the output of an input is that of a walk of its marks by its set; or the input has this fault
abbrev pub IsWalkResult : List ℕ → Result (List ℕ) Fault → Type 0
IsWalkResult text (Ok output) = (request : WalkRequest) × (walk_request text ≡ Ok request)
    × IsWalkOutput request.marks request.set output
IsWalkResult text (Err fault) = walk_request text ≡ Err fault
