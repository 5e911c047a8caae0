use Rattle.std.proofs.Common.{◌≡◌, ◌∙◌, ◌<◌, false, true, sym, arith}
use Rattle.jj_globs.specs.GlobNfa.{accepts_from}
use Rattle.jj_globs.proofs.BitTables.{hits_within, over_byte, none_live, is_false}
use Rattle.jj_globs.proofs.glob.bit_tables.BitTables.accept.Goals as goal

pub union-live-requires : goal.union-live-requires
union-live-requires c = record {
  inside = hits_within c.args.self.now c.requires.ranges c.as_slice-takes.result.now c.as_slice-follow.result.now c.as_slice-takes.ensures.value c.as_slice-follow.ensures.value
      c.loop-byte.live c.in-Some.byte.now (omega arith) (omega arith);
}

pub returns-then-live-eq0 : goal.returns-then-live-eq0
returns-then-live-eq0 c = λ o steps known.
    let below = c.args.below in
    let byte : c.in-Some.byte.now < 256 = omega arith in
    let over = over_byte o below steps c.args.self.now known c.as_slice-takes.result.now c.as_slice-follow.result.now c.as_slice-takes.ensures.value c.as_slice-follow.ensures.value
    c.loop-byte.live c.union-live.result c.in-Some.byte.now c.in-Some.rest.now c.loop-byte.left.now c.in-Some.ensures.cases.0 byte (omega arith)
    (λ h. let no : false ≡ true = sym c.if-accepts_here.false ∙ c.accepts_here.ensures.1 h in cc) c.union-live.ensures in
    is_false (accepts_from o below steps 0 c.args.bytes.now)
    (λ t. none_live o below steps c.in-Some.rest.now
    (rw c.if-live-eq0.true at (over.1 ((c.loop-byte.invariant.same o steps known).1 t))))

pub loop-byte-preserved : goal.loop-byte-preserved
loop-byte-preserved c = record {
  same = λ o steps known.
      let below = c.args.below in
      let byte : c.in-Some.byte.now < 256 = omega arith in
      let over = over_byte o below steps c.args.self.now known c.as_slice-takes.result.now c.as_slice-follow.result.now c.as_slice-takes.ensures.value c.as_slice-follow.ensures.value
      c.loop-byte.live c.union-live.result c.in-Some.byte.now c.in-Some.rest.now c.loop-byte.left.now c.in-Some.ensures.cases.0 byte (omega arith)
      (λ h. let no : false ≡ true = sym c.if-accepts_here.false ∙ c.accepts_here.ensures.1 h in cc) c.union-live.ensures in
      let before = c.loop-byte.invariant.same o steps known in
      ((λ a. before.0 (over.0 a)), (λ t. over.1 (before.1 t)));
}
