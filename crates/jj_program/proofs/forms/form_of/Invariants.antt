-- No row so far has the word.
use Rattle.std.proofs.Common.{◌≡◌, drop}
use Rattle.jj_program.specs.Forms.{borrowed_table, form_named}
use Rattle.jj_program.proofs.forms.form_of.Given as goal

abbrev pub invariant-loop-own : goal.invariant-loop-own
invariant-loop-own g l = form_named (borrowed_table (drop l.own-index l.forms)) l.word ≡ form_named (borrowed_table l.forms) l.word
