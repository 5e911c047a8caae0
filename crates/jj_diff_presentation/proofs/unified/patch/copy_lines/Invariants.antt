use Rattle.std.proofs.Common.{◌≡◌, ◌+◌, ◌≤◌, ◌++◌, length, take, drop}
use Rattle.std.specs.List.{concat}
use Rattle.jj_diff_presentation.specs.Lines.{split_lines}
use Rattle.jj_diff_presentation.specs.Views.{IsBounded}
use Rattle.jj_diff_presentation.proofs.unified.patch.copy_lines.Given as goal

abbrev pub invariant-loop : goal.invariant-loop
invariant-loop l = record {
  rest : split_lines l.state.rest.now ≡ drop l.counter (split_lines l.fn.state.rest.now);
  within : l.counter ≤ length (split_lines l.fn.state.rest.now);
  output : l.state.output.items
      ≡ l.fn.state.output.items ++ concat (take l.counter (split_lines l.fn.state.rest.now));
  position : l.state.position ≡ l.fn.state.position + l.counter;
  part : l.state.part ≡ l.fn.state.part;
  left : l.state.left ≡ l.fn.state.left;
  right : l.state.right ≡ l.fn.state.right;
  bounded : IsBounded l.state;
}
