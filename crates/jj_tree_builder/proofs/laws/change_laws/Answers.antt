use Rattle.std.proofs.Common.{None, [], ◌∙◌, ap, sym, append-nil}
use Rattle.jj_tree_builder.specs.Changes.{put}
use Rattle.jj_tree_builder.proofs.ChangedFiles.{files_at-none, put-above, put-elsewhere, put-there}
use Rattle.jj_tree_builder.proofs.laws.change_laws.Goals as goal

pub returns-clause-there : goal.returns-clause-there
returns-clause-there c = put-there

pub returns-clause-removed : goal.returns-clause-removed
returns-clause-removed c = λ trees path rest files. put-there trees path rest None files ∙ files_at-none trees rest

pub returns-clause-above : goal.returns-clause-above
returns-clause-above c = put-above

pub returns-clause-elsewhere : goal.returns-clause-elsewhere
returns-clause-elsewhere c = put-elsewhere

pub returns-clause-here : goal.returns-clause-here
returns-clause-here c = λ trees path value files. ap (put trees path value files) (sym (append-nil path)) ∙ put-there trees path [] value files
