use Rattle.jj_temp_files.proofs.CrashLemmas.{created_elsewhere}
use Rattle.jj_temp_files.proofs.whole_files.create_empty.Goals as goal

pub returns-clause-others : goal.returns-clause-others
returns-clause-others g c = λ other no.
    let law = g.met.A.CrashSafe.creates in
    created_elsewhere g.A.CrashSafe.moment g.A.CrashSafe.left_since g.A.CrashSafe.contents
    g.A.FileAccess.may_create
    (λ old new path created done other' apart. (law old new path created done).1 other' apart)
    c.args.dir.now other no c.args.names.now c.new_in.new.names c.args.files.now c.new_in.new.files
    c.new_in.result c.new_in.ensures
