-- The targets of local and remote refs, and their content bytes.
-- Cited by contracts of public items: IsRemoteRef, absent_ref, absent_target, remote_ref_content,
-- state_content, tracked_target.
use Rattle.std.specs.Prelude.{ℕ, List, [], ◌∷◌, ◌++◌, Option, Some, None}
use Rattle.jj_content.specs.Content.{IsOptionOf, u32_content, list_content, option_content}
use Rattle.jj_backend.specs.Contents.{AreBytes, bytes_content}
use Rattle.jj_merges.specs.Contents.{IsMergeOf}
use Rattle.jj_stores.specs.declared.op_store.ref_target.RemoteRef.{RemoteRef}
use Rattle.jj_stores.specs.declared.op_store.ref_target.RemoteRefState.{RemoteRefState}
use Rattle.jj_stores.specs.declared.op_store.ref_target.RemoteRefState.TheVariants.{New, Tracked}

-- the terms of a ref's target, adds and removes alternating; None is an absent commit
abbrev pub Target : Type 0
Target = List (Option (List ℕ))

-- the target of a ref that does not exist
abbrev pub absent_target : Target
absent_target = None ∷ []

-- the remote ref without a target, which is not tracked
abbrev pub absent_ref : RemoteRef
absent_ref = record { target = absent_target; state = New }

-- the target of a tracked ref
abbrev pub tracked_of : RemoteRefState → Target → Option Target
tracked_of New target = None
tracked_of Tracked target = Some target

-- the target of a remote ref if it is tracked
abbrev pub tracked_target : RemoteRef → Option Target
tracked_target remote = tracked_of remote.state remote.target

-- ---- content

-- the target is a valid one: a merge of ids or absent terms
abbrev pub IsTarget : Target → Type 0
IsTarget = IsMergeOf (IsOptionOf AreBytes)

-- the content of a target: the list of its terms
abbrev pub target_content : Target → List ℕ
target_content = list_content (option_content bytes_content)

-- the number of a state in its content
abbrev pub state_number : RemoteRefState → ℕ
state_number New = 0
state_number Tracked = 1

-- the content of a state: its number in four bytes
abbrev pub state_content : RemoteRefState → List ℕ
state_content state = u32_content (state_number state)

-- the remote ref is a valid one
abbrev pub IsRemoteRef : RemoteRef → Type 0
IsRemoteRef remote = IsTarget remote.target × Unit {0}

-- the content of a remote ref: its target, then its state
abbrev pub remote_ref_content : RemoteRef → List ℕ
remote_ref_content remote = target_content remote.target ++ state_content remote.state
