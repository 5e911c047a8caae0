-- The content bytes of views, field by field, and the root view.
-- Cited by contracts of public items: IsRemoteView, IsRootView, IsView, remote_view_content,
-- view_content.
use Rattle.std.specs.Prelude.{◌≡◌, ℕ, List, [], ◌∷◌, ◌++◌}
use Rattle.std.specs.HashSet as set
use Rattle.std.specs.List.Sorted.{IsStrictlySortedBy}
use Rattle.std.specs.Map.{keys_of}
use Rattle.std.specs.Ordering.{nat_cmp}
use Rattle.std.specs.Cmp.Lexicographic.{slice_cmp}
use Rattle.std.specs.Str.{bytes_eq}
use Rattle.jj_content.specs.Content.{AreValues, list_content, string_content, set_content, entry_content}
use Rattle.jj_backend.specs.Contents.{AreBytes, bytes_content, IsText}
use Rattle.jj_stores.specs.RefTargets.{IsTarget, target_content, IsRemoteRef, remote_ref_content}
use Rattle.jj_stores.specs.declared.op_store.view.RemoteView.{RemoteView}
use Rattle.jj_stores.specs.declared.op_store.view.View.{View}

-- association lists from names, whose keys ascend strictly
module _ {V : Type 0} where
  -- the entries of a map by names, which strictly ascend, are valid
  abbrev pub AreNamed : (V → Type 0) → List (List ℕ × V) → Type 0
  AreNamed is_value entries = IsStrictlySortedBy (slice_cmp nat_cmp) (keys_of entries)
      × AreValues (λ e. IsText e.0 × is_value e.1) entries

  -- the content of a map by names: the list of its entries
  abbrev pub named_content : (V → List ℕ) → List (List ℕ × V) → List ℕ
  named_content value = list_content (entry_content string_content value)

-- ---- remote views

-- the bookmarks and tags of a remote are valid
abbrev pub IsRemoteView : RemoteView → Type 0
IsRemoteView view = AreNamed IsRemoteRef view.bookmarks.entries
    × AreNamed IsRemoteRef view.tags.entries

-- the content of a remote's refs: its bookmarks, then its tags
abbrev pub remote_view_content : RemoteView → List ℕ
remote_view_content view = named_content remote_ref_content view.bookmarks.entries
    ++ named_content remote_ref_content view.tags.entries

-- ---- views: heads and local refs; remote and Git refs; Git heads and working-copy commits

-- the heads and the local bookmarks and tags of the view are valid
abbrev pub IsLocal : View → Type 0
IsLocal view =
    (set.IsUnique bytes_eq view.head_ids × AreValues AreBytes view.head_ids.keys)
    × (AreNamed IsTarget view.local_bookmarks.entries × AreNamed IsTarget view.local_tags.entries)

-- the content of the heads and the local bookmarks and tags of a view
abbrev pub local_content : View → List ℕ
local_content view =
    set_content (slice_cmp nat_cmp) bytes_content view.head_ids.keys
    ++ (named_content target_content view.local_bookmarks.entries
    ++ named_content target_content view.local_tags.entries)

-- the view is a valid one
abbrev pub IsView : View → Type 0
IsView view = IsLocal view
    × ((AreNamed IsRemoteView view.remote_views.entries × AreNamed IsTarget view.git_refs.entries)
    × (AreNamed IsTarget view.git_heads.entries × AreNamed AreBytes view.wc_commit_ids.entries))

-- the content of a view: its fields in the order of their declaration
abbrev pub view_content : View → List ℕ
view_content view = local_content view
    ++ ((named_content remote_view_content view.remote_views.entries
    ++ named_content target_content view.git_refs.entries)
    ++ (named_content target_content view.git_heads.entries
    ++ named_content bytes_content view.wc_commit_ids.entries))

-- ---- the root view: the root commit is its only head, and it has no refs and no workspaces

-- the view of the root operation: its only head is the root commit, and it has no refs
pub record IsRootView (root : List ℕ) (view : View) : Type 0 where
  pub heads : view.head_ids.keys ≡ root ∷ []
  pub local_bookmarks : view.local_bookmarks.entries ≡ []
  pub local_tags : view.local_tags.entries ≡ []
  pub remote_views : view.remote_views.entries ≡ []
  pub git_refs : view.git_refs.entries ≡ []
  pub git_heads : view.git_heads.entries ≡ []
  pub wc_commit_ids : view.wc_commit_ids.entries ≡ []
