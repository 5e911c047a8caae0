use Rattle.jj_temp_files_tests.proofs.ExecutableBits.{has_flipped}
use Rattle.jj_temp_files_tests.proofs.callers.keeps_scripts.Goals as goal

pub returns : goal.returns
returns g c =
    let A = g.A.FileAccess in
    has_flipped A.may_stat A.may_set_mode A.may_create A.may_remove c.args.dir.now c.args.names.now c.args.files.now c.check_executable_bit_support.new.files
    c.check_executable_bit_support.new.names c.check_executable_bit_support.result c.check_executable_bit_support.ensures
