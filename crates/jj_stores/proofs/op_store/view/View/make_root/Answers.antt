use Rattle.std.proofs.Common.{◌≡◌, true, ◌∷◌, []}
use Rattle.std.specs.List.Sorted.{IsPermutation}
use Rattle.jj_stores.proofs.OnlyMember.{only_member}
use Rattle.jj_stores.proofs.op_store.view.View.make_root.Goals as goal

pub returns : goal.returns
returns c =
    let added : c.in_ok-insert.field-0 ≡ true = rw c.new-head_ids.ensures.empty at c.in_ok-insert.ensures.added in
    let puts : IsPermutation (c.args.root_commit_id ∷ []) c.insert.new.self.keys = rw (added, c.new-head_ids.ensures.empty) at c.in_ok-insert.ensures.keys in record {
      heads = only_member c.args.root_commit_id c.insert.new.self.keys puts;
      local_bookmarks = c.new.ensures.empty;
      local_tags = c.new-2.ensures.empty;
      remote_views = c.new-3.ensures.empty;
      git_refs = c.new-4.ensures.empty;
      git_heads = c.new-5.ensures.empty;
      wc_commit_ids = c.new-6.ensures.empty;
    }
