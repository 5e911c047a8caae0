use Rattle.std.proofs.Common.{rules, ◌∙◌, ◌+◌, ℕ, List, [], take, get_or, length, ◌≤◌, sym, subst}
use Rattle.std.proofs.lemmas.List.{take_all, take_more}
use Rattle.std.proofs.lemmas.Result.{IfOk-weaker}
use Rattle.jj_log.specs.Edges.{AreTargets}
use Rattle.jj_log.specs.Numbers.{parents_of}
use Rattle.jj_log.specs.Targets.{HasVia}
use Rattle.std.proofs.lemmas.List.Elements.{Contains-get_or}
use Rattle.std.specs.List.{Contains}
use Rattle.jj_log.proofs.NearTargets.{elided_listed, targets_via, via_more, via_none}
use Rattle.jj_log.proofs.targets.targets_of.Goals as goal

pub loop-parent-init : goal.loop-parent-init
loop-parent-init c = subst (HasVia c.args.commits.now []) (sym c.clear.ensures) (via_none c.args.commits.now)

pub insert_via-requires : goal.insert_via-requires
insert_via-requires c =
    λ elided.
    let raw = c.parents_at-parent-items.result.now in
    let p : ℕ = get_or raw c.loop-parent.parent-index 0 in
    c.requires p (subst (λ (l : List ℕ). Contains l p) c.parents_at-parent-items.ensures (Contains-get_or raw c.loop-parent.parent-index 0 c.loop-parent-test.true))
    (elided_listed c.args.commits.now p elided)

pub loop-parent-preserved : goal.loop-parent-preserved
loop-parent-preserved c =
    let commits = c.args.commits.now in
    let same = c.parents_at-parent-items.ensures in
    let raw = c.parents_at-parent-items.result.now in
    let i = c.loop-parent.parent-index in
    subst (λ (l : List ℕ). HasVia commits (take (i + 1) l) c.insert_via.new.targets) same
    (via_more commits (take (i + 1) raw) (take i raw) c.loop-parent.found c.insert_via.new.targets (get_or raw i 0) (take_more raw i 0 c.loop-parent-test.true)
    (subst (λ (l : List ℕ). HasVia commits (take i l) c.loop-parent.found) (sym same) c.loop-parent.invariant) c.in_ok-insert_via.ensures)

pub returns : goal.returns
returns c =
    let commits = c.args.commits.now in
    let all = parents_of commits c.args.number in
    let found = targets_via commits c.args.number c.loop-parent.found
    (subst (λ (l : List ℕ). HasVia commits l c.loop-parent.found) (take_all c.loop-parent.parent-index all (subst (λ (l : List ℕ). length l ≤ c.loop-parent.parent-index) c.parents_at-parent-items.ensures c.loop-parent-test.false)) c.loop-parent.invariant) in
    IfOk-weaker c.to_vec.result _ (λ targets. AreTargets commits c.args.number targets.items) (λ targets clones. subst (AreTargets commits c.args.number) (sym (clones (search rules) ∙ c.as_slice.ensures)) found)
    c.to_vec.ensures.items_if_clones_equal
