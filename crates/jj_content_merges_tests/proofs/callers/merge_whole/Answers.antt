use Rattle.std.proofs.Common.{ℕ, List, [], ◌∷◌, ◌∙◌, ap, length, subst, sym}
use Rattle.jj_content_merges.specs.Files.{IsContentMerge}
use Rattle.jj_content_merges.proofs.Resolving.{length-bytes_of}
use Rattle.jj_content_merges_tests.proofs.Merges.{three_sides}
use Rattle.jj_content_merges_tests.proofs.callers.merge_whole.Goals as goal

pub returns : goal.returns
returns c =
    let hunks : List (List (List ℕ)) = c.in_ok-merged.ensures.merge.0 in
    let merge : IsContentMerge c.args.options.now.hunk_level c.args.options.now.same_change
    (c.args.left.now ∷ c.args.base.now ∷ c.args.right.now ∷ []) hunks =
    subst (λ terms. IsContentMerge c.args.options.now.hunk_level c.args.options.now.same_change terms hunks)
    c.in_ok-inputs.ensures c.in_ok-merged.ensures.merge.1 in (
      hunks,
      merge,
      λ some none. c.in_ok-merged.ensures.merge.2
          ∙ three_sides _ c.args.left.now c.args.base.now c.args.right.now hunks
          (sym (length-bytes_of c.in_ok-inputs.inputs) ∙ ap length c.in_ok-inputs.ensures)
          (c.side_laws.ensures.unresolved c.args.options.now.hunk_level c.args.options.now.same_change
          (c.args.left.now ∷ c.args.base.now ∷ c.args.right.now ∷ []) hunks merge none)
          some none,
    )
