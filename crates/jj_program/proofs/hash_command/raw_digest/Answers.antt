use Rattle.std.proofs.Common.{◌≡◌, ◌∙◌, ◌%◌, ◌++◌, [], Ok, ap, length, sym}
use Rattle.jj_content.specs.Blake2b.{blake2b}
use Rattle.std.specs.Prelude.{ok_or, option_map}
use Rattle.jj_program.specs.declared.fault.LineFault.TheVariants.{BadHex}
use Rattle.jj_program.specs.HashCommand.{bytes_of_hex}
use Rattle.jj_program.proofs.HexBytes.{after_none, all_found, all_lost, part_found, part_lost}
use Rattle.jj_program.proofs.hash_command.raw_digest.Goals as goal

pub loop-rest-init : goal.loop-rest-init
loop-rest-init c = ([], c.new-hasher.ensures, ap bytes_of_hex (sym c.as_bytes-rest.ensures.value) ∙ sym (after_none (bytes_of_hex c.as_bytes-rest.result.now)))

pub returns-then-not-branch : goal.returns-then-not-branch
returns-then-not-branch c =
    let (message, absorbed, so_far) = c.loop-rest.invariant in
    let part = c.split_at.ensures in
    let even : length c.split_at.result.0.now % 2 ≡ 0 = ap (λ n. n % 2) part.front_len in
    let lost = c.in_ok-hash_hex.ensures.none c.if-not-branch.true in
    ap (λ found. ok_or (option_map blake2b found) BadHex)
    (part_lost c.args.text.now message c.loop-rest.rest.now so_far c.split_at.result.0.now c.split_at.result.1.now part.by_index.0 even lost)

pub loop-rest-preserved : goal.loop-rest-preserved
loop-rest-preserved c =
    let (message, absorbed, so_far) = c.loop-rest.invariant in
    let (bytes, found, hashes) = c.in_ok-hash_hex.ensures.bytes c.if-not-branch.false in (
      message ++ bytes,
      hashes message absorbed,
      part_found c.args.text.now message c.loop-rest.rest.now so_far c.split_at.result.0.now c.split_at.result.1.now bytes c.split_at.ensures.by_index.0 found,
    )

pub returns-then-not-branch-2 : goal.returns-then-not-branch-2
returns-then-not-branch-2 c =
    let (message, absorbed, so_far) = c.loop-rest.invariant in
    let lost = c.in_ok-hash_hex-2.ensures.none c.if-not-branch-2.true in
    ap (λ found. ok_or (option_map blake2b found) BadHex) (all_lost c.args.text.now message c.loop-rest.rest.now so_far lost)

pub returns : goal.returns
returns c =
    let (message, absorbed, so_far) = c.loop-rest.invariant in
    let (bytes, found, hashes) = c.in_ok-hash_hex-2.ensures.bytes c.if-not-branch-2.false in
    ap (λ found. ok_or (option_map blake2b found) BadHex) (all_found c.args.text.now message c.loop-rest.rest.now so_far bytes found)
    ∙ ap Ok (sym (c.finalize.ensures _ (hashes message absorbed)))
