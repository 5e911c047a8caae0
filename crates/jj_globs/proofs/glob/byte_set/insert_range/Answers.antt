use Rattle.std.proofs.Common.{◌≡◌, ◌≤◌, length, arith, inl, inr}
use Rattle.jj_globs.proofs.ByteSets.{range_tells, no_byte_yet, one_more_byte}
use Rattle.jj_globs.proofs.glob.byte_set.insert_range.Goals as goal

pub loop-byte-init : goal.loop-byte-init
loop-byte-init c = record { live = no_byte_yet c.args.words.now c.args.range; room = c.requires.room }

pub loop-byte-preserved : goal.loop-byte-preserved
loop-byte-preserved c =
    let least : c.args.range.first ≤ c.loop-byte.byte = c.loop-byte.auto.byte in
    record {
      live = one_more_byte c.args.words.now c.loop-byte.words c.insert.new.words c.args.range c.loop-byte.byte least c.loop-byte-test.true
          c.insert.ensures.live c.loop-byte.invariant.live;
      room = (let kept = c.insert.ensures.len in let room : length c.loop-byte.words ≡ 4 = c.loop-byte.invariant.room in cc);
    }

pub returns-clause-live : goal.returns-clause-live
returns-clause-live c = λ b.
    let known = c.loop-byte.invariant.live b in
    let end = c.loop-byte-test.false in (
      (λ h. elim (known.0 h) [ inl p ↦ inl p | inr q ↦ inr q.1 ]),
      (λ h. known.1 (elim h [
        | inl p ↦ inl p
        | inr q ↦ inr ((let high = ((range_tells c.args.range b).0 q).1 in omega (arith, high, end)), q)
      ])),
    )
