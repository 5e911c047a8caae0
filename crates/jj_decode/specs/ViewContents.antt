-- The contents of refs and views, composed of those of their fields.
-- Cited by contracts of public items: RemoteRefContents, RemoteViewContents, StateContents,
-- ViewContents, remote_ref_contents, remote_view_contents, state_contents, view_contents.
use Rattle.std.proofs.Common.{ℕ, Bool, List, ◌<◌, ◌^◌, lit<}
use Rattle.std.specs.Ordering.{nat_cmp}
use Rattle.std.specs.Cmp.Lexicographic.{slice_cmp, nat_list_cmp_total, texts_ties}
use Rattle.jj_content.specs.Content.{string_content}
use Rattle.jj_decode.specs.Contents.{AreContents, IsContentOf, BothContents, OptionContents, MapContents, SetContents}
use Rattle.jj_decode.specs.ContentsProofs.{contents_of, contents_on, both_contents, option_contents, map_contents}
use Rattle.jj_decode.specs.HashTableProofs.{hash_set_contents}
use Rattle.jj_decode.specs.NonemptyProofs.{u32_nonempty}
use Rattle.jj_backend.specs.Contents.{AreBytes, bytes_content, IsText}
use Rattle.jj_backend.specs.RecordLaws.{bytes_lawful, text_lawful}
use Rattle.jj_decode.specs.MergeContents.{MergeContents, merge_contents}
use Rattle.jj_decode.specs.RecordContents.{BytesContents, bytes_contents}
use Rattle.jj_stores.specs.RefTargets.{IsTarget, target_content, state_number, state_content, IsRemoteRef, remote_ref_content}
use Rattle.jj_stores.specs.RefTargetLaws.{target_lawful, state_lawful, remote_ref_lawful}
use Rattle.jj_stores.specs.Views.{AreNamed, named_content, IsRemoteView, remote_view_content, IsLocal, local_content, IsView, view_content}
use Rattle.jj_stores.specs.ViewLaws.{remote_view_lawful}
use Rattle.jj_stores.specs.declared.op_store.ref_target.RemoteRefState.{RemoteRefState}
use Rattle.jj_stores.specs.declared.op_store.ref_target.RemoteRefState.TheVariants.{New, Tracked}
use Rattle.jj_content.specs.Content.{IsLawful}

-- ---- refs

-- the contents of targets of refs
abbrev pub TargetContents : List ℕ → Type 0
TargetContents = MergeContents (OptionContents BytesContents)

pub target_contents : AreContents IsTarget target_content TargetContents
target_contents = merge_contents (option_contents bytes_contents)

-- the contents of states of remote refs
abbrev pub StateContents : List ℕ → Type 0
StateContents = IsContentOf (λ (_ : RemoteRefState). Unit {0}) state_content

pub small_number : (state : RemoteRefState) → state_number state < 2 ^ 32
small_number New = lit< tt
small_number Tracked = lit< tt

pub state_contents : AreContents (λ _. Unit {0}) state_content StateContents
state_contents = contents_of state_lawful
    (λ state _. u32_nonempty (state_number state) (small_number state))

-- the contents of remote refs
abbrev pub RemoteRefContents : List ℕ → Type 0
RemoteRefContents = BothContents TargetContents StateContents

pub remote_ref_contents : AreContents IsRemoteRef remote_ref_content RemoteRefContents
remote_ref_contents = contents_on (λ remote. (remote.target, remote.state))
    (both_contents target_contents state_contents)

-- ---- maps from names

module _ {V : Type 0} where
  -- the contents of maps by names
  abbrev pub NamedContents : (V → Type 0) → (V → List ℕ) → List ℕ → Type 0
  NamedContents is_value content = MapContents (slice_cmp nat_cmp) IsText string_content
      is_value content

  pub named_contents : {v : V → Type 0} {e : V → V → Bool} {c : V → List ℕ} → IsLawful v e c
      → AreContents (AreNamed v) (named_content c) (NamedContents v c)
  named_contents laws = map_contents (slice_cmp nat_cmp) text_lawful laws

-- the contents of the refs of a remote
abbrev pub RemoteViewContents : List ℕ → Type 0
RemoteViewContents = BothContents (NamedContents IsRemoteRef remote_ref_content)
    (NamedContents IsRemoteRef remote_ref_content)

pub remote_view_contents : AreContents IsRemoteView remote_view_content RemoteViewContents
remote_view_contents = contents_on (λ view. (view.bookmarks.entries, view.tags.entries))
    (both_contents (named_contents remote_ref_lawful) (named_contents remote_ref_lawful))

-- ---- views: heads and local refs; remote and Git refs; Git heads and working-copy commits

-- the contents of the heads and the local bookmarks and tags of views
abbrev pub LocalContents : List ℕ → Type 0
LocalContents = BothContents (SetContents (slice_cmp nat_cmp) AreBytes bytes_content)
    (BothContents (NamedContents IsTarget target_content) (NamedContents IsTarget target_content))

local_contents : AreContents IsLocal local_content LocalContents
local_contents =
    contents_on (λ view. (view.head_ids, (view.local_bookmarks.entries, view.local_tags.entries)))
    (both_contents (hash_set_contents nat_list_cmp_total texts_ties bytes_lawful)
    (both_contents (named_contents target_lawful) (named_contents target_lawful)))

-- the contents of views
abbrev pub ViewContents : List ℕ → Type 0
ViewContents = BothContents LocalContents
    (BothContents (BothContents (NamedContents IsRemoteView remote_view_content)
    (NamedContents IsTarget target_content))
    (BothContents (NamedContents IsTarget target_content) (NamedContents AreBytes bytes_content)))

pub view_contents : AreContents IsView view_content ViewContents
view_contents =
    contents_on (λ view. (
      view,
      (
        (view.remote_views.entries, view.git_refs.entries),
        (view.git_heads.entries, view.wc_commit_ids.entries),
      ),
    ))
    (both_contents local_contents
    (both_contents (both_contents (named_contents remote_view_lawful)
    (named_contents target_lawful))
    (both_contents (named_contents target_lawful) (named_contents bytes_lawful))))
