use Rattle.std.proofs.Common.{rules, ◌≡◌, ◌++◌, ◌∷◌, [], List, Some, None, is_some, not, ◌==◌, true, false, true≢false, inr, refl, sym, ◌∙◌, ap, subst, append-nil}
use Rattle.std.specs.HashMap.{get}
use Rattle.std.specs.HashMap.Eq.{lookup_congr}
use Rattle.std.specs.VecDeque.{deque_items}
use Rattle.jj_walks.specs.declared.candidates.Candidates.{Candidates}
use Rattle.jj_walks.specs.Branches.{IsFirstBranch}
use Rattle.jj_walks.specs.Candidates.{AreToFollow, is_listed, is_positive, is_zero}
use Rattle.jj_walks.proofs.Branches.{branch-blocked, branch-candidate, branch-counted, branch-ended, branch-heads, branch-refilled, untaken-none, untaken-refilled}
use Rattle.jj_walks.proofs.CandidateLists.{follows-passed, follows-none, listed-passed}
use Rattle.jj_walks.proofs.candidates.Candidates.take.Goals as goal

pub returns-then-not-branch-clause-follows : goal.returns-then-not-branch-clause-follows
returns-then-not-branch-clause-follows g c =
    let none : c.turns.self.ids.items ≡ [] = c.in_default.ensures.items ∙ append-nil c.pop.new.self.items ∙ search rules in
    λ targets k. follows-none g.ID.PartialEq.eq _ targets c.turns.self.ids.items (c.refill.new.self.ids.items ++ []) none (c.turns.invariant.follows targets k)

pub turns-preserved-in_default : goal.turns-preserved-in_default
turns-preserved-in_default g c =
    let left : c.pop.new.self.items ≡ [] = search rules in
    let same : c.pop.new.self.items ≡ c.turns.self.ids.items = sym (append-nil c.pop.new.self.items) ∙ sym c.in_default.ensures.items in
    let none : c.turns.self.ids.items ≡ [] = sym same ∙ left in
    let s : Candidates g.row.ID.Denot = record c.turns.self { ids = c.pop.new.self } in
    let more = c.in_ok-refill.ensures.more c.if-not-branch.false in
    record {
      listed = λ i zero k.
          let before : is_listed g.ID.PartialEq.eq c.turns.self.ids.items (deque_items c.turns.self.heads) i ≡ true = c.turns.invariant.listed i zero k in
          c.in_ok-refill.ensures.listed i (rw none at before);
      follows = λ targets k. follows-none g.ID.PartialEq.eq _ targets c.turns.self.ids.items c.refill.new.self.ids.items none (c.turns.invariant.follows targets k);
      begun = λ u. let k = c.turns.invariant.begun u in untaken-refilled s c.refill.new.self more (record { ids = left; blocked = k.blocked; heads = k.heads; children = k.children });
      branch = λ edge required counts k.
          let before : IsFirstBranch g.ID.PartialEq.eq edge required s = branch-heads g.met.ID.Eq.laws edge required c.turns.self s [] same refl refl (sym (append-nil (deque_items c.turns.self.heads))) (c.turns.invariant.branch edge required counts k) in
          inr (branch-refilled g.met.ID.Eq.laws edge required _ counts s c.refill.new.self left more before);
    }

pub turns-preserved-in-None-get : goal.turns-preserved-in-None-get
turns-preserved-in-None-get g c =
    let top : c.turns.self.ids.items ≡ c.pop.new.self.items ++ c.in-Some.id ∷ [] = c.in-Some.ensures.items in
    let none : None ≡ get g.ID.PartialEq.eq c.args.counts.now c.in-Some.id = c.in-None.ensures.value in
    let pending_nodes : is_zero (get g.ID.PartialEq.eq c.args.counts.now c.in-Some.id) ≡ false = ap is_zero (sym none) in
    record {
      listed = λ i zero k. listed-passed g.ID.PartialEq.eq c.pop.new.self.items c.turns.self.ids.items (deque_items c.turns.self.heads) c.in-Some.id i top
          (λ same. absurd (true≢false (sym zero ∙ ap is_zero (sym (lookup_congr g.ID.PartialEq.eq g.met.ID.Eq.laws.congr c.args.counts.now.entries c.in-Some.id i same)) ∙ pending_nodes)))
          (c.turns.invariant.listed i zero k);
      follows = λ targets k. follows-passed g.ID.PartialEq.eq _ targets c.pop.new.self.items c.turns.self.ids.items c.in-Some.id top (λ known. absurd (true≢false (sym known ∙ ap is_some (sym none)))) (c.turns.invariant.follows targets k);
      begun = λ u. untaken-none c.turns.self c.pop.new.self.items c.in-Some.id top (c.turns.invariant.begun u);
      branch = λ edge required counts k. absurd (true≢false (sym (branch-counted g.met.ID.Eq.laws edge required _ counts c.turns.self c.pop.new.self.items c.in-Some.id top (c.turns.invariant.branch edge required counts k)) ∙ ap is_some (sym none)));
    }

pub returns-in-Some-eq0-clause-follows : goal.returns-in-Some-eq0-clause-follows
returns-in-Some-eq0-clause-follows g c =
    let top : c.turns.self.ids.items ≡ c.pop.new.self.items ++ c.in-Some.id ∷ [] = c.in-Some.ensures.items in
    λ targets k. subst (λ (l : List g.row.ID.Denot). AreToFollow g.ID.PartialEq.eq (get g.ID.PartialEq.eq c.args.counts.now) targets l) top (c.turns.invariant.follows targets k)

pub returns-in-Some-eq0-clause-begun : goal.returns-in-Some-eq0-clause-begun
returns-in-Some-eq0-clause-begun g c = λ u. untaken-none c.turns.self c.pop.new.self.items c.in-Some.id c.in-Some.ensures.items (c.turns.invariant.begun u)

pub returns-in-Some-eq0-clause-branch : goal.returns-in-Some-eq0-clause-branch
returns-in-Some-eq0-clause-branch g c = λ edge required counts k.
    (refl, branch-candidate g.met.ID.Eq.laws edge required c.turns.self c.pop.new.self.items c.in-Some.id c.in-Some.ensures.items (c.turns.invariant.branch edge required counts k))

pub turns-preserved : goal.turns-preserved
turns-preserved g c =
    let top : c.turns.self.ids.items ≡ c.pop.new.self.items ++ c.in-Some.id ∷ [] = c.in-Some.ensures.items in
    let value : Some c.in-Some-get.field-0.now ≡ get g.ID.PartialEq.eq c.args.counts.now c.in-Some.id = c.in-Some-get.ensures.value in
    let test = c.in-Some-get.field-0-test in
    let held_zero : (c.in-Some-get.field-0.now == 0) ≡ false = search (rules, test) in
    let pending_nodes : is_zero (get g.ID.PartialEq.eq c.args.counts.now c.in-Some.id) ≡ false = ap is_zero (sym value) ∙ held_zero in
    let positive : is_positive (get g.ID.PartialEq.eq c.args.counts.now c.in-Some.id) ≡ true = ap is_positive (sym value) ∙ ap not held_zero in
    let alike = λ (j : g.row.ID.Denot). lookup_congr g.ID.PartialEq.eq g.met.ID.Eq.laws.congr c.args.counts.now.entries c.in-Some.id j in
    record {
      listed = λ i zero k. listed-passed g.ID.PartialEq.eq c.pop.new.self.items c.turns.self.ids.items (deque_items c.turns.self.heads) c.in-Some.id i top
          (λ same. absurd (true≢false (sym zero ∙ ap is_zero (sym (alike i same)) ∙ pending_nodes)))
          (c.turns.invariant.listed i zero k);
      follows = λ targets k. follows-passed g.ID.PartialEq.eq _ targets c.pop.new.self.items c.turns.self.ids.items c.in-Some.id top (λ known. positive) (c.turns.invariant.follows targets k);
      begun = λ u. untaken-none c.turns.self c.pop.new.self.items c.in-Some.id top (c.turns.invariant.begun u);
      branch = λ edge required counts k.
          branch-blocked g.met.ID.Eq.laws edge required c.turns.self (record c.turns.self { ids = c.pop.new.self; blocked = c.push.new.self }) c.in-Some.id top c.in_ok-push-in-Some-get.ensures.items refl
          (λ j same. counts.child j (ap is_positive (sym (alike j same)) ∙ positive)) (c.turns.invariant.branch edge required counts k);
    }

pub returns-then-not-branch-clause-branch : goal.returns-then-not-branch-clause-branch
returns-then-not-branch-clause-branch g c =
    let left : c.pop.new.self.items ≡ [] = search rules in
    let none : c.turns.self.ids.items ≡ [] = c.in_default.ensures.items ∙ append-nil c.pop.new.self.items ∙ left in
    let ended = c.in_ok-refill.ensures.none c.if-not-branch.true in
    λ edge required counts k. absurd (branch-ended g.met.ID.Eq.laws edge required _ counts c.turns.self none ended.1 ended.3 (c.turns.invariant.branch edge required counts k))
