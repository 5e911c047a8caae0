use Rattle.std.proofs.Common.{rules, ◌≡◌, refl}
use Rattle.jj_diff.specs.declared.diff.hunks.DiffHunkKind.TheVariants.{Matching}
use Rattle.jj_diff.specs.Inputs.{bytes_of}
use Rattle.jj_diff.proofs.Joining.{pushed_joined}
use Rattle.jj_diff.proofs.diff.refine.push_joined.Goals as goal

pub returns-then-eq-2 : goal.returns-then-eq-2
returns-then-eq-2 c =
    let first : c.args.hunk.now.kind ≡ Matching = search rules in
    let second : c.in-Some.next.kind ≡ Matching = search rules in
    pushed_joined (bytes_of c.args.inputs.now) c.args.starts.now c.args.hunk.now c.in-Some.next c.args.reversed.now.items c.pop.new.self.items c.push.new.self.items
    (record { kind = Matching; contents = c.in_ok-contents.contents }) c.in-Some.ensures.items c.in_ok-push.ensures.items first second refl
    (rw (c.deref.ensures.value, c.deref-then-eq-2.ensures.value) at c.in_ok-contents.ensures)
