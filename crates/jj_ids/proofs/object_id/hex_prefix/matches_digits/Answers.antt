use Rattle.std.proofs.Common.{◌≡◌, ◌+◌, ◌-◌, ◌∙◌, sym, length, arith}
use Rattle.std.proofs.lemmas.Bool.{eqb-true, eq-eqb, false_from_ne_true}
use Rattle.std.proofs.lemmas.Bool.Decides.{same_from_decides}
use Rattle.jj_ids.proofs.HexPrefixDigits.{matches-whole, matches-half, front-Decides}
use Rattle.jj_ids.proofs.object_id.hex_prefix.matches_digits.Goals as goal
use Rattle.jj_ids.proofs.object_id.hex_prefix.matches_digits.Goals.{then-id_bytes-whole-via-then-id_bytes-whole, then-id_bytes-whole-via-else-id_bytes-whole+then-not-starts_with}

pub returns-then-not-has_odd_byte : goal.returns-then-not-has_odd_byte
returns-then-not-has_odd_byte c = matches-whole c.args.id_bytes.now c.args.bytes.now c.args.has_odd_byte c.starts_with.result c.if-not-has_odd_byte.true (λ i. omega (arith, c.type_inv.id_bytes i)) c.requires c.starts_with.ensures.value

pub returns-then-id_bytes-whole : goal.returns-then-id_bytes-whole
returns-then-id_bytes-whole c =
    let some = c.requires.nonempty c.if-not-has_odd_byte.false in
    let size : length c.args.bytes.now ≡ length c.args.bytes.now - 1 + 1 = omega arith in
    let half = matches-half c.args.id_bytes.now c.args.bytes.now (length c.args.bytes.now - 1) c.args.has_odd_byte c.if-not-has_odd_byte.false (λ i. omega (arith, c.type_inv.id_bytes i)) c.requires size in
    sym (false_from_ne_true _ (λ is. let facts = half.0 is in
    elim c.then-id_bytes-whole.branch [
      | then-id_bytes-whole-via-then-id_bytes-whole w ↦ omega (arith, facts.0)
      | then-id_bytes-whole-via-else-id_bytes-whole+then-not-starts_with w ↦
          let front = front-Decides c.args.id_bytes.now c.args.bytes.now (length c.args.bytes.now - 1) (omega arith) in
          let value = w.starts_with-else-id_bytes-whole.ensures.value in
          let begins = front.1 facts.1 in
          let not_begins = w.if-not-starts_with.true in
          cc
    ]))

pub returns : goal.returns
returns c =
    let some = c.requires.nonempty c.if-not-has_odd_byte.false in
    let size : length c.args.bytes.now ≡ length c.args.bytes.now - 1 + 1 = omega arith in
    let half = matches-half c.args.id_bytes.now c.args.bytes.now (length c.args.bytes.now - 1) c.args.has_odd_byte c.if-not-has_odd_byte.false (λ i. omega (arith, c.type_inv.id_bytes i)) c.requires size in
    let front = front-Decides c.args.id_bytes.now c.args.bytes.now (length c.args.bytes.now - 1) (omega arith) in
    let begins = front.0 (sym c.starts_with-else-id_bytes-whole.ensures.value ∙ c.if-not-starts_with.false) in
    same_from_decides _ _ (λ high. (c.if-id_bytes-whole.false, begins, eqb-true _ _ high), λ facts. eq-eqb _ _ facts.2) half
