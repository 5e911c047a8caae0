use Rattle.std.proofs.Common.{rules, ◌≡◌, ◌<◌, ◌≤◌, ◌++◌, Ok, Err, Result, length, length-append, ap, arith}
use Rattle.std.specs.Prelude.{IfOk, MatchResult}
use Rattle.jj_program.specs.Parts.{Part, part_in}
use Rattle.jj_program.proofs.ListedEdges.{lists_more, puts_entry, puts_other}
use Rattle.jj_program.proofs.edges.Edges.list.Goals as goal

-- a property of each successful result
if_ok : {V E : Type 0} (r : Result V E) (P Q : Type 0) (G : V → Type 0) → MatchResult r (λ _. P) (λ _. Q) → (P → (v : V) → G v) → IfOk r G
if_ok (Ok v) P Q G held implies = implies held v
if_ok (Err e) P Q G held implies = tt

pub returns-then-id-self-clause-listed : goal.returns-then-id-self-clause-listed
returns-then-id-self-clause-listed c =
    let old = c.args.self.now in
    let grown = c.extend_from_slice.new.self.items in
    let id = c.args.id in
    let part : Part = (c.len-start.result, c.len.result) in
    let first : c.len-start.result ≡ length old.targets.items = search rules in
    let last : c.len.result ≡ length grown = search rules in
    let more : grown ≡ old.targets.items ++ c.args.neighbors.now = c.in_ok-extend_from_slice.ensures.items in
    let below : id < old.limit = search rules in
    if_ok c.put.result _ _ _ c.put.ensures.entries (λ puts first_time yes.
    lists_more (part_in old.limit old.table.items old.others) (part_in old.limit c.put.new.table.items old.others) old.targets.items id c.len-start.result c.len.result old.within first c.args.neighbors.now grown last more
    (puts_entry old.limit old.table.items c.put.new.table.items old.others id part below (omega (arith, first, last, ap length more, length-append old.targets.items c.args.neighbors.now)) puts))

pub returns-clause-listed : goal.returns-clause-listed
returns-clause-listed c = λ yes.
    let old = c.args.self.now in
    let grown = c.extend_from_slice.new.self.items in
    let id = c.args.id in
    let part : Part = (c.len-start.result, c.len.result) in
    let first : c.len-start.result ≡ length old.targets.items = search rules in
    let last : c.len.result ≡ length grown = search rules in
    let more : grown ≡ old.targets.items ++ c.args.neighbors.now = c.in_ok-extend_from_slice.ensures.items in
    let above : old.limit ≤ id = search rules in
    lists_more (part_in old.limit old.table.items old.others) (part_in old.limit old.table.items c.insert.new.self) old.targets.items id c.len-start.result c.len.result old.within first c.args.neighbors.now grown last more
    (puts_other old.limit old.table.items old.others c.insert.new.self id part above c.in_ok-old.ensures.updates.0)
