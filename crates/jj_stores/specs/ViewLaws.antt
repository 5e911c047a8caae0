-- Equality of views, field by field, and that content bytes determine a view.
-- Cited by contracts of public items: remote_view_eq, remote_view_lawful, view_eq, view_lawful.
use Rattle.std.specs.Prelude.{ℕ, List, Bool}
use Rattle.std.specs.Cmp.{IsEquivalence, and_equiv, on_equiv}
use Rattle.std.specs.Cmp.Lexicographic.{pointwise, nat_list_eq_equiv, nat_list_cmp_total, texts_ties, lists_equiv, options_equiv}
use Rattle.std.specs.HashSet.{hash_set_eq}
use Rattle.std.specs.Ordering.{eq_of_both, on}
use Rattle.std.specs.Str.{bytes_eq}
use Rattle.jj_content.specs.Content.{IsLawful}
use Rattle.jj_content.specs.PrefixFreeProofs.{on_lawful, both_lawful, two_then_lawful, three_then_lawful, list_lawful, narrow_lawful}
use Rattle.jj_content.specs.HashTableProofs.{hash_set_lawful}
use Rattle.jj_backend.specs.RecordLaws.{bytes_lawful, text_lawful}
use Rattle.jj_stores.specs.RefTargetLaws.{target_eq, target_lawful, remote_ref_eq, remote_ref_lawful}
use Rattle.jj_stores.specs.Views.{AreNamed, named_content, IsRemoteView, remote_view_content, IsView, view_content}
use Rattle.jj_stores.specs.declared.op_store.view.RemoteView.{RemoteView}
use Rattle.jj_stores.specs.declared.op_store.view.View.{View}

-- ---- association lists from names

module _ {V : Type 0} where
  -- equality of lists of named values: the same names with equal values, in order
  abbrev pub named_eq : (V → V → Bool) → List (List ℕ × V) → List (List ℕ × V) → Bool
  named_eq eq = pointwise (eq_of_both (on (λ e. e.0) bytes_eq) (on (λ e. e.1) eq))

  pub named_equiv : {eq : V → V → Bool} → IsEquivalence eq → IsEquivalence (named_eq eq)
  named_equiv laws = lists_equiv (and_equiv (on_equiv (λ e. e.0) nat_list_eq_equiv)
      (on_equiv (λ e. e.1) laws))

  pub named_lawful : {v : V → Type 0} {eq : V → V → Bool} {c : V → List ℕ} → IsLawful v eq c
      → IsLawful (AreNamed v) (named_eq eq) (named_content c)
  named_lawful laws = narrow_lawful (λ _ value. value.1) (list_lawful
      (both_lawful (on_lawful (λ e. e.0) text_lawful) (on_lawful (λ e. e.1) laws)))

target_equiv : IsEquivalence target_eq
target_equiv = lists_equiv (options_equiv nat_list_eq_equiv)

-- ---- remote views

-- equality of remote views: the same bookmarks and tags
abbrev pub remote_view_eq : RemoteView → RemoteView → Bool
remote_view_eq = eq_of_both (on (λ v. v.bookmarks.entries) (named_eq remote_ref_eq))
    (on (λ v. v.tags.entries) (named_eq remote_ref_eq))

pub remote_view_lawful : IsLawful IsRemoteView remote_view_eq remote_view_content
remote_view_lawful = both_lawful (on_lawful (λ v. v.bookmarks.entries)
    (named_lawful remote_ref_lawful)) (on_lawful (λ v. v.tags.entries)
    (named_lawful remote_ref_lawful))

-- ---- views

-- equality of views: all fields are equal
abbrev pub view_eq : View → View → Bool
view_eq =
    eq_of_both (on (λ v. v.head_ids) (hash_set_eq bytes_eq))
    (eq_of_both (on (λ v. v.local_bookmarks.entries) (named_eq target_eq))
    (eq_of_both (on (λ v. v.local_tags.entries) (named_eq target_eq))
    (eq_of_both (on (λ v. v.remote_views.entries) (named_eq remote_view_eq))
    (eq_of_both (on (λ v. v.git_refs.entries) (named_eq target_eq))
    (eq_of_both (on (λ v. v.git_heads.entries) (named_eq target_eq))
    (on (λ v. v.wc_commit_ids.entries) (named_eq bytes_eq)))))))

pub view_lawful : IsLawful IsView view_eq view_content
view_lawful =
    three_then_lawful (on_lawful (λ v. v.head_ids)
    (hash_set_lawful nat_list_cmp_total nat_list_eq_equiv texts_ties bytes_lawful))
    (on_lawful (λ v. v.local_bookmarks.entries) (named_lawful target_lawful))
    (on_lawful (λ v. v.local_tags.entries) (named_lawful target_lawful))
    (two_then_lawful (on_lawful (λ v. v.remote_views.entries) (named_lawful remote_view_lawful))
    (on_lawful (λ v. v.git_refs.entries) (named_lawful target_lawful))
    (both_lawful (on_lawful (λ v. v.git_heads.entries) (named_lawful target_lawful))
    (on_lawful (λ v. v.wc_commit_ids.entries) (named_lawful bytes_lawful))))
