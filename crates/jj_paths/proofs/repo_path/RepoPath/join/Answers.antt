use Rattle.std.proofs.Common.{string_bytes, ap, ◌∙◌, ◌++◌, lit<}
use Rattle.std.proofs.lemmas.Str.{encode_ascii}
use Rattle.jj_paths.proofs.PathStrings.{IsJoined, not_empty, joined_after_slash, joined_at_root}
use Rattle.jj_paths.proofs.repo_path.RepoPath.join.Goals as goal
use Rattle.jj_paths.proofs.repo_path.RepoPath.join.Goals.{then-not-is_empty+in_ok-push, else-not-is_empty}

joined : (c : goal.In_ok-push_str) → IsJoined c.args.self.value.now c.args.name.value.now (string_bytes c.push_str.new.self)
joined c = elim c.if-not-is_empty.branch [
  | then-not-is_empty+in_ok-push w ↦ joined_after_slash _ _ (string_bytes c.in_ok-value.value) (string_bytes w.push.new.self) (string_bytes c.if-not-is_empty.value) _ c.in_ok-value.ensures (w.in_ok-push.ensures.bytes ∙ ap (λ l. string_bytes c.in_ok-value.value ++ l) (encode_ascii 47 (lit< tt))) (ap string_bytes w.value-is) c.in_ok-push_str.ensures.bytes (not_empty _ w.if-not-is_empty.ensures) c.args.self.valid c.args.name.valid
  | else-not-is_empty w ↦ joined_at_root _ _ (string_bytes c.in_ok-value.value) (string_bytes c.if-not-is_empty.value) _ c.in_ok-value.ensures (ap string_bytes w.value-is) c.in_ok-push_str.ensures.bytes w.if-not-is_empty.ensures c.args.self.valid c.args.name.valid
]

pub invariant_of-result : goal.invariant_of-result
invariant_of-result c = (joined c).valid

pub returns : goal.returns
returns c = (joined c).is
