use Rattle.std.proofs.Common.{rules, ◌≡◌, ◌+◌, ◌∙◌, ℕ, List, sym, subst}
use Rattle.jj_temp_files.specs.TempNames.{PassesOverTaken, IsTaken, none, more, numbered_path}
use Rattle.jj_temp_files.proofs.temp_file.NamedTempFile.new_in.Goals as goal

pub loop-count-init : goal.loop-count-init
loop-count-init g c = none

pub loop-count-preserved : goal.loop-count-preserved
loop-count-preserved g c =
    let at : c.as_str.result.now ≡ numbered_path c.args.dir.now c.loop-count.names =
    c.as_str.ensures.value ∙ c.in_ok-path.ensures.path in
    let P : List ℕ → Type 0 = λ p. g.A.FileAccess.may_create c.loop-count.files p c.create_new-created.result c.create_new-created.new.self in
    let taken : IsTaken c.create_new-created.result = search rules in
    let Q : ℕ → Type 0 = λ n. PassesOverTaken g.A.FileAccess.may_create c.args.dir.now (c.loop-count._count + 1) c.args.names.now c.args.files.now n c.create_new-created.new.self in
    subst Q (sym c.in_ok-path.ensures.next)
    (more c.loop-count.invariant (subst P at c.create_new-created.ensures) taken)
