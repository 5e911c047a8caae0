-- The commits, the blobs and the marks of imported commands.
use Rattle.std.proofs.Common.{◌≡◌, ◌==◌, ◌^◌, ◌-◌, ◌⊎◌, ◌∙◌, inl, inr, ℕ, Bool, true, false, List, [], ◌∷◌, ◌++◌, Option, Some, None, Result, Ok, Err, refl, sym, ap, subst}
use Rattle.std.proofs.lemmas.Bool.Decides.{Decides-eqb}
use Rattle.jj_backend.specs.Objects.{Objects}
use Rattle.jj_fast_import.specs.Streams.{AreReadFrom, HasNoCommand, ends_in_done}
use Rattle.jj_fast_import.specs.Values.{CommandValue, Blobs, Commits, CommitValue, Tags, Resets, Features, Options, Progresses, Checkpoints, Ends}
use Rattle.jj_import.specs.AppliedChanges.{MarkTable, with_mark}
use Rattle.jj_import.specs.ImportStates.{ImportState, IsReference, IsStoredCommit}
use Rattle.jj_import.specs.ImportedCommands.{AreCommandsImported, AreCommandsRead, HasEnded, IsCommandImported, IsTagged, IsWithinLimit, commits_in}
use Rattle.jj_import.specs.declared.marks.Marked.{Marked}
use Rattle.jj_import.specs.declared.marks.Marked.TheVariants as marked
use Rattle.jj_import_tests.specs.Streams.{AreStreamCommands, IsBlobFile, IsMarkedCommit, IsMarkedTag, IsNextAfter, IsReached, IsStreamStored, no_names}

-- 1. The commands of a stream.

read_from : {E : Type 0} (stream : List ℕ) (after : Option (List ℕ)) (is_done : Bool) (r : Result Bool E) (commands : List CommandValue) → AreCommandsRead false is_done (Some stream) after r commands
    → IsWithinLimit (2 ^ 64 - 1) (commits_in commands) r → AreStreamCommands stream r commands
read_from stream None is_done (Ok true) commands h limit = absurd h.0
read_from stream (Some rest) is_done (Ok true) commands h limit = (rest, h.0, of_end h.1)
  where
    of_end : HasEnded false commands (Some rest) → (ends_in_done commands ≡ true) ⊎ HasNoCommand (Some rest)
    of_end (inl (inl ends)) = inl ends
    of_end (inl (inr was)) = let both : false ≡ true = was.0 in absurd cc
    of_end (inr none) = inr none
read_from stream None is_done (Ok false) commands h limit = absurd h.0
read_from stream (Some rest) is_done (Ok false) commands h limit = (rest, h.0, limit)
read_from stream after is_done (Err error) commands h limit = of_bytes h.0 h.1
  where
    of_bytes : (between : Option (List ℕ)) → AreReadFrom (Some stream) between commands → AreStreamCommands stream (Err error) commands
    of_bytes None k = absurd k
    of_bytes (Some rest) k = (rest, k)

pub stream_read : {E : Type 0} (stream : List ℕ) (before after : Option (List ℕ)) (was_done is_done : Bool) (r : Result Bool E) (commands : List CommandValue) → before ≡ Some stream
    → was_done ≡ false → AreCommandsRead was_done is_done before after r commands → IsWithinLimit (2 ^ 64 - 1) (commits_in commands) r → AreStreamCommands stream r commands
stream_read stream before after was_done is_done r commands e f h limit =
    read_from stream after is_done r commands
    (subst (λ (known : Option (List ℕ)). AreCommandsRead false is_done known after r commands) e (subst (λ (b : Bool). AreCommandsRead b is_done before after r commands) f h)) limit

-- 2. Marks.

-- the object of a mark is that of an earlier command, or the new one
marked_by : (marks : MarkTable) (new : Option ℕ) (object found : Marked) (mark : ℕ) → with_mark marks new object mark ≡ Some found → (marks mark ≡ Some found) ⊎ ((new ≡ Some mark) × (object ≡ found))
marked_by marks None object found mark h = inl h
marked_by marks (Some new) object found mark h = by_test (new == mark) refl
  where
    by_test : (t : Bool) → (new == mark) ≡ t → (marks mark ≡ Some found) ⊎ ((Some new ≡ Some mark) × (object ≡ found))
    by_test true is = let same : Some object ≡ Some found = rw is at h in inr (ap Some ((Decides-eqb new mark).0 is), cc)
    by_test false is = let other : marks mark ≡ Some found = rw is at h in inl other

-- a mark of a state that is another
marks_at : (a b : ImportState) (mark : ℕ) (found : Option Marked) → b ≡ a → b.marks mark ≡ found → a.marks mark ≡ found
marks_at a b mark found e h = ap (λ (s : ImportState). s.marks mark) (sym e) ∙ h

module _ (objects : Objects) (root : List ℕ) where
  -- the command sets the mark of the object, in this state
  SetsMark : CommandValue → ImportState → ℕ → Marked → Type 0
  SetsMark (Blobs blob) old mark (marked.File id) = (blob.mark ≡ Some mark) × (objects.files id ≡ Some blob.content)
  SetsMark (Commits commit) old mark (marked.Commit id) = (commit.mark ≡ Some mark) × IsStoredCommit objects root old commit id
  SetsMark (Tags tag) old mark (marked.Commit id) = (tag.mark ≡ Some mark) × IsReference old tag.from id
  SetsMark command old mark found = ⊥

  mark_set : (command : CommandValue) (old new : ImportState) (mark : ℕ) (found : Marked) → IsCommandImported objects root command old new → new.marks mark ≡ Some found
      → (old.marks mark ≡ Some found) ⊎ SetsMark command old mark found
  unfolding SetsMark
  mark_set (Blobs blob) old new mark found h k = of_cases (marked_by old.marks blob.mark (marked.File h.1.0) found mark (ap (λ (s : ImportState). s.marks mark) (sym h.1.2) ∙ k))
    where
      of_cases : (old.marks mark ≡ Some found) ⊎ ((blob.mark ≡ Some mark) × (marked.File h.1.0 ≡ found)) → (old.marks mark ≡ Some found) ⊎ SetsMark (Blobs blob) old mark found
      of_cases (inl e) = inl e
      of_cases (inr e) = inr (subst (SetsMark (Blobs blob) old mark) e.1 (e.0, h.1.1))
  mark_set (Commits commit) old new mark found h k = of_cases (marked_by old.marks commit.mark (marked.Commit h.1.0) found mark (ap (λ (s : ImportState). s.marks mark) (sym h.1.2) ∙ k))
    where
      of_cases : (old.marks mark ≡ Some found) ⊎ ((commit.mark ≡ Some mark) × (marked.Commit h.1.0 ≡ found)) → (old.marks mark ≡ Some found) ⊎ SetsMark (Commits commit) old mark found
      of_cases (inl e) = inl e
      of_cases (inr e) = inr (subst (SetsMark (Commits commit) old mark) e.1 (e.0, h.1.1))
  mark_set (Tags tag) old new mark found h k = of_tag h.1
    where
      of_tag : IsTagged tag old new → (old.marks mark ≡ Some found) ⊎ SetsMark (Tags tag) old mark found
      of_tag (inr t) = inl (marks_at old new mark (Some found) t.1 k)
      of_tag (inl t) = of_cases (marked_by old.marks tag.mark (marked.Commit t.0) found mark (ap (λ (s : ImportState). s.marks mark) (sym t.2) ∙ k))
        where
          of_cases : (old.marks mark ≡ Some found) ⊎ ((tag.mark ≡ Some mark) × (marked.Commit t.0 ≡ found)) → (old.marks mark ≡ Some found) ⊎ SetsMark (Tags tag) old mark found
          of_cases (inl e) = inl e
          of_cases (inr e) = inr (subst (SetsMark (Tags tag) old mark) e.1 (e.0, t.1))
  mark_set (Resets ref_name None) old new mark found h k = inl (ap (λ (s : ImportState). s.marks mark) (sym h) ∙ k)
  mark_set (Resets ref_name (Some from)) old new mark found h k = inl (ap (λ (s : ImportState). s.marks mark) (sym h.2) ∙ k)
  mark_set (Features feature) old new mark found h k = inl (marks_at old new mark (Some found) h.1 k)
  mark_set (Options option) old new mark found h k = inl (marks_at old new mark (Some found) h k)
  mark_set (Progresses progress) old new mark found h k = inl (marks_at old new mark (Some found) h k)
  mark_set Checkpoints old new mark found h k = inl (marks_at old new mark (Some found) h k)
  mark_set Ends old new mark found h k = inl (marks_at old new mark (Some found) h k)

  -- one of the commands sets the mark of the object
  IsSetIn : List CommandValue → ImportState → ℕ → Marked → Type 0
  IsSetIn commands old mark found = (earlier : List CommandValue) × (command : CommandValue) × IsNextAfter commands earlier command
      × ((state : ImportState) × AreCommandsImported objects root earlier old state × SetsMark command state mark found)

  mark_found : (commands : List CommandValue) (old new : ImportState) (mark : ℕ) (found : Marked) → AreCommandsImported objects root commands old new → new.marks mark ≡ Some found
      → (old.marks mark ≡ Some found) ⊎ IsSetIn commands old mark found
  unfolding IsSetIn
  mark_found [] old new mark found h k = inl (marks_at old new mark (Some found) h k)
  mark_found (command ∷ commands) old new mark found h k = of_rest (mark_found commands h.0 new mark found h.2 k)
    where
      of_command : (old.marks mark ≡ Some found) ⊎ SetsMark command old mark found → (old.marks mark ≡ Some found) ⊎ IsSetIn (command ∷ commands) old mark found
      of_command (inl e) = inl e
      of_command (inr e) = inr ([], command, (commands, refl), (old, refl, e))

      of_rest : (h.0.marks mark ≡ Some found) ⊎ IsSetIn commands h.0 mark found → (old.marks mark ≡ Some found) ⊎ IsSetIn (command ∷ commands) old mark found
      of_rest (inl e) = of_command (mark_set command old h.0 mark found h.1 e)
      of_rest (inr e) = inr (command ∷ e.0, e.1, (e.2.0, ap (λ (cs : List CommandValue). command ∷ cs) e.2.1), (e.3.0, (h.0, h.1, e.3.1), e.3.2))

  -- 3. Streams.

  blob_file : (commands earlier : List CommandValue) (command : CommandValue) (state : ImportState) (mark : ℕ) (id : List ℕ) → IsNextAfter commands earlier command
      → SetsMark command state mark (marked.File id) → IsBlobFile objects root commands mark id
  unfolding SetsMark
  blob_file commands earlier (Blobs blob) state mark id is given = (earlier, blob, is, given.0, given.1)
  blob_file commands earlier (Commits commit) state mark id is given = absurd given
  blob_file commands earlier (Tags tag) state mark id is given = absurd given
  blob_file commands earlier (Resets ref_name from) state mark id is given = absurd given
  blob_file commands earlier (Features feature) state mark id is given = absurd given
  blob_file commands earlier (Options option) state mark id is given = absurd given
  blob_file commands earlier (Progresses progress) state mark id is given = absurd given
  blob_file commands earlier Checkpoints state mark id is given = absurd given
  blob_file commands earlier Ends state mark id is given = absurd given

  marked_commit : (commands earlier : List CommandValue) (command : CommandValue) (state : ImportState) (mark : ℕ) (id : List ℕ) → IsNextAfter commands earlier command
      → IsReached objects root earlier state → SetsMark command state mark (marked.Commit id) → IsMarkedCommit objects root commands mark id ⊎ IsMarkedTag objects root commands mark id
  unfolding SetsMark
  marked_commit commands earlier (Blobs blob) state mark id is reached given = absurd given
  marked_commit commands earlier (Commits commit) state mark id is reached given = inl (earlier, commit, is, given.0, (state, reached, given.1))
  marked_commit commands earlier (Tags tag) state mark id is reached given = inr (earlier, tag, is, given.0, (state, reached, given.1))
  marked_commit commands earlier (Resets ref_name from) state mark id is reached given = absurd given
  marked_commit commands earlier (Features feature) state mark id is reached given = absurd given
  marked_commit commands earlier (Options option) state mark id is reached given = absurd given
  marked_commit commands earlier (Progresses progress) state mark id is reached given = absurd given
  marked_commit commands earlier Checkpoints state mark id is reached given = absurd given
  marked_commit commands earlier Ends state mark id is reached given = absurd given

  -- the state before a commit, and its id
  commit_stored : (earlier later : List CommandValue) (commit : CommitValue) (old new : ImportState) → AreCommandsImported objects root (earlier ++ Commits commit ∷ later) old new
      → (state : ImportState) × (id : List ℕ) × AreCommandsImported objects root earlier old state × IsStoredCommit objects root state commit id
  commit_stored [] later commit old new h = (old, h.1.1.0, refl, h.1.1.1)
  commit_stored (command ∷ earlier) later commit old new h =
      let r = commit_stored earlier later commit h.0 new h.2 in (r.0, r.1, (h.0, h.1, r.2), r.3)

  pub stream_stored : (commands : List CommandValue) (state : ImportState) → IsReached objects root commands state → IsStreamStored objects root commands
  unfolding IsSetIn
  stream_stored commands state run = record {
    commits = λ earlier commit is. commit_stored earlier is.0 commit no_names state (subst (λ (cs : List CommandValue). IsReached objects root cs state) is.1 run);
    blobs = λ earlier between mark id reached there. of_file earlier mark id (mark_found earlier no_names between mark (marked.File id) reached there);
    marks = λ earlier between mark id reached there. of_commit earlier mark id (mark_found earlier no_names between mark (marked.Commit id) reached there);
  }
    where
      of_file : (earlier : List CommandValue) (mark : ℕ) (id : List ℕ) → (None ≡ Some (marked.File id)) ⊎ IsSetIn earlier no_names mark (marked.File id) → IsBlobFile objects root earlier mark id
      of_file earlier mark id (inl impossible) = absurd cc
      of_file earlier mark id (inr given) = blob_file earlier given.0 given.1 given.3.0 mark id given.2 given.3.2

      of_commit : (earlier : List CommandValue) (mark : ℕ) (id : List ℕ) → (None ≡ Some (marked.Commit id)) ⊎ IsSetIn earlier no_names mark (marked.Commit id)
          → IsMarkedCommit objects root earlier mark id ⊎ IsMarkedTag objects root earlier mark id
      of_commit earlier mark id (inl impossible) = absurd cc
      of_commit earlier mark id (inr given) = marked_commit earlier given.0 given.1 given.3.0 mark id given.2 given.3.1 given.3.2
