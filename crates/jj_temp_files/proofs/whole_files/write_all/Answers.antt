use Rattle.std.proofs.Common.{rules, refl, ◌≡◌, ◌∙◌, ◌++◌, ℕ, Ok, Some, Result, OnOk, ap, sym, subst}
use Rattle.std.specs.declared.io.Error.{Error}
use Rattle.jj_temp_files.proofs.CrashLemmas.{adds_next, untouched_now, untouched_twice}
use Rattle.jj_temp_files.specs.WriteErrors.{no_piece, one_more}
use Rattle.jj_temp_files.proofs.whole_files.write_all.Goals as goal

pub returns-in_err-count-clause-others : goal.returns-in_err-count-clause-others
returns-in_err-count-clause-others g c = λ other apart.
    let law = g.met.A.CrashSafe.writes c.loop-rest.files c.write.new.files c.loop-rest.temp_file.file c.write.new.self.file c.loop-rest.rest.now c.write.result c.write.ensures.written in
    untouched_twice g.A.CrashSafe.moment g.A.CrashSafe.left_since g.A.CrashSafe.contents
    c.args.files.now c.loop-rest.files c.write.new.files other (c.loop-rest.invariant.others other apart)
    (law.3 other (λ equal. apart (equal ∙ c.loop-rest.invariant.created)))

pub returns-then-count-eq0-clause-others : goal.returns-then-count-eq0-clause-others
returns-then-count-eq0-clause-others g c = λ other apart.
    let law = g.met.A.CrashSafe.writes c.loop-rest.files c.write.new.files c.loop-rest.temp_file.file c.write.new.self.file c.loop-rest.rest.now c.write.result c.write.ensures.written in
    untouched_twice g.A.CrashSafe.moment g.A.CrashSafe.left_since g.A.CrashSafe.contents
    c.args.files.now c.loop-rest.files c.write.new.files other (c.loop-rest.invariant.others other apart)
    (law.3 other (λ equal. apart (equal ∙ c.loop-rest.invariant.created)))

pub loop-rest-preserved : goal.loop-rest-preserved
loop-rest-preserved g c =
    let law = g.met.A.CrashSafe.writes c.loop-rest.files c.write.new.files c.loop-rest.temp_file.file c.write.new.self.file c.loop-rest.rest.now c.write.result c.write.ensures.written in
    let ok : c.write.result ≡ Ok c.in_ok-count.count = search rules in
    record {
      created = law.0 ∙ c.loop-rest.invariant.created;
      path = c.write.ensures.path ∙ c.loop-rest.invariant.path;
      bytes = adds_next (g.A.CrashSafe.written c.loop-rest.temp_file.file) c.loop-rest.rest.now (g.A.CrashSafe.written c.write.new.self.file) c.suffix_from-rest.result.now (g.A.CrashSafe.written c.args.temp_file.now.file ++ c.args.bytes.now) c.write.result c.in_ok-count.count ok law.1 c.suffix_from-rest.ensures c.loop-rest.invariant.bytes;
      contents = λ before.
          let at = c.loop-rest.invariant.created in
          let now : g.A.CrashSafe.contents c.loop-rest.files (g.A.CrashSafe.created_at c.loop-rest.temp_file.file) ≡ Some (g.A.CrashSafe.written c.loop-rest.temp_file.file) =
          ap (λ p. g.A.CrashSafe.contents c.loop-rest.files p) at ∙ c.loop-rest.invariant.contents before in
          let P : Result ℕ Error → Type 0 = λ r. OnOk r (g.A.CrashSafe.contents c.write.new.files (g.A.CrashSafe.created_at c.loop-rest.temp_file.file) ≡ Some (g.A.CrashSafe.written c.write.new.self.file)) in
          ap (λ p. g.A.CrashSafe.contents c.write.new.files p) (sym at) ∙ subst P ok (law.2 now);
      others = λ other apart.
          untouched_twice g.A.CrashSafe.moment g.A.CrashSafe.left_since g.A.CrashSafe.contents
          c.args.files.now c.loop-rest.files c.write.new.files other (c.loop-rest.invariant.others other apart)
          (law.3 other (λ equal. apart (equal ∙ c.loop-rest.invariant.created)));
      pieces =
          let P : Result ℕ Error → Type 0 = λ r. g.A.FileAccess.may_write c.loop-rest.files c.loop-rest.temp_file.file c.loop-rest.rest.now r c.write.new.files c.write.new.self.file in
          rw c.suffix_from-rest.ensures (one_more c.loop-rest.invariant.pieces (subst P ok c.write.ensures.written) c.if-count-eq0.false);
    }

pub loop-rest-init : goal.loop-rest-init
loop-rest-init g c = record {
  created = refl;
  path = refl;
  bytes = refl;
  contents = λ before. before;
  others = λ other apart. untouched_now g.A.CrashSafe.moment g.A.CrashSafe.left_since g.A.CrashSafe.contents c.args.files.now other;
  pieces = no_piece;
}
