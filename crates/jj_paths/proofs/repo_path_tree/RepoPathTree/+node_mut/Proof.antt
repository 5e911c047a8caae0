-- `node_mut` returns the node at a path mutably, and writes to it go to the tree: by recursion on the path. Assumes `Logic`.
use Rattle.std.proofs.Common.{◌≡◌, ℕ, ◌<◌, List, [], ◌∷◌, length, refl, sym, ap, ◌∙◌, subst, Bool, true, false, not, ◌≢◌, IsSome, IsTrue, ◌↔◌, Some, MutBor, arith}
use seplogic.Ra.Ura.{Ura}
use base.Logic.{ent, emp, id⊢, via, ex_e, snd∗}
use base.Fml.{Fml, ftrue, flft}
use mir.Syntax.{Fn, a_type, named}
use mir.MapTy.{inst_fn}
use mir.Val.{Val, vptr, vbool}
use prog.Model.{Model}
use prog.Wired.{Wired}
use prog.Wp.{Calls, Loops, WpFn}
use sound.WpLaws.{WpFn-mono}
use contract.BorrowLft.{◌⊑◌}
use contract.Lifetimes.{Lfts, Shares, AllOutlive}
use contract.Monad.{fact, fact_i}
use contract.Running.{Running, tables, tables_of}
use types.Logic.{Logic, sem}
use types.Kit.{‵, raw, ◌⊛◌, some, later, prop, at_ret, Sq, ◌$◌, ◌∵◌, !, qed, done, move, keep, drop, use0, use1, use2, split, join, pick, await, rewrite, group, by, ⋆, mean}
use types.Run.{enter, of_opd, addr, stop, no_more, and_then, first, branches, skips, exec, returns, returns_within}
use types.ByLocal.{alloc_all, pass_all, free_all, look_at, get, through, sets, lands_as, env}
use denote.Builtin.{bool}
use denote.Exit.{yes, no}
use denote.Follow.{follows, follows_then}
use denote.Laws.{Is, Typed, shows}
use denote.Param as param
use denote.Param.Laws.{Laws}
use denote.Plain.{bool_Tells}
use denote.RattleType.{RattleType}
use denote.Ref.{MutRef, mut_vals, mut_Tells}
use denote.Signature.{plain, mut_ref_to, named_lft}
use denote.Steps.{nothing, heard, peeks, only}
use denote.Struct.Laws as structs
use denote.Struct.Declared.{Declared, row}
use denote.Struct.Loose.{loose_lawful}
use denote.Triple.Call.{calls_at, calls_from}
use denote.Triple.Clauses.{Clauses, ensured, lasts}
use denote.Triple.Cycle.{measured, mutual_elim}
use denote.Triple.Spec.{triple_of}
use denote.Triple.Statement.{Contract}
use denote.Triple.Table.{framed}
use denote.Triple.Walked.{Stays, walk_of, stay_dropped, Goes-dropped, Goes-spent_ref, walked_at, walk_meets_at}
use Rattle.std.proofs.raw_atomic.Walks.{leaves}
use lib.Dec.{T}
use mathlib.Core.Bool.{false≢true}
use lib.WfN.{lt-wf_rel}
use Rattle.std.proofs.VecSteps.Shapes.{after}
use Rattle.jj_paths.specs.Paths.{rest_of}
use Rattle.jj_paths.specs.Names.{path_of}
use Rattle.jj_paths.specs.Tree.{Tree, get as node_of, put, put_below}
use Rattle.jj_paths.specs.contracts.repo_path_tree.RepoPathTree as tree
use Rattle.jj_paths.specs.contracts.repo_path_tree.RepoPathNode as node
use Rattle.jj_paths.specs.contracts.repo_path.RepoPath as path
use Rattle.jj_paths.proofs.repo_path.RepoPath.TheLaws as path_laws
use Rattle.jj_paths.specs.contracts.repo_path_tree.RepoPathTree.node_mut as f
use Rattle.jj_paths.specs.contracts.repo_path_tree.RepoPathTree.node_mut.Key as key
use Rattle.jj_paths.specs.contracts.repo_path_tree.RepoPathTree.own_node as own
use Rattle.jj_paths.specs.contracts.repo_path_tree.RepoPathNode.step_mut as step
use Rattle.jj_paths.specs.contracts.repo_path.RepoPath.is_root as is_root
use Rattle.jj_paths.specs.contracts.repo_path.RepoPath.rest as rest
use Rattle.jj_paths.proofs.repo_path_tree.RepoPathTree.own_node.Met as own_thm
use Rattle.jj_paths.proofs.repo_path_tree.RepoPathNode.step_mut.Met as step_thm
use Rattle.jj_paths.proofs.repo_path.RepoPath.is_root.Met as is_root_thm
use Rattle.jj_paths.proofs.repo_path.RepoPath.rest.Met as rest_thm
use Rattle.jj_paths.proofs.repo_path_tree.RepoPathTree.+node_mut as cycle
use Rattle.jj_paths.proofs.repo_path_tree.RepoPathTree.+node_mut.Code as code

is_true : (b : Bool) → T b → IsTrue b
is_true true t = refl
is_true false t = absurd t

is_false : (b : Bool) → T (not b) → IsTrue b → ⊥
is_false true t e = t
is_false false t e = false≢true e

shorter : (q q' : List (List ℕ)) → q' ≡ rest_of q → (q ≢ []) → length q' < length q
shorter [] q' e long = absurd (long refl)
shorter (name ∷ rest) q' e long = omega (arith, ap length e)

module _ (V : RattleType) (L : Laws V) where
  -- the rows of a tree and of a node
  abbrev Tr : RattleType
  Tr = tree.the_row (param.param 0 V)

  abbrev Nd : RattleType
  Nd = node.the_row (param.param 0 V)

  abbrev stayed : Stays (f.ended V).signature.params (f.ended V).kept
  stayed = (stay_dropped (mut_ref_to (0 ∷ []) tt (plain (λ _. Tr))) no, (stay_dropped (plain (λ κs. path.the_row (named_lft 3 1 tt κs))) yes, tt))

  abbrev fn' : Fn
  fn' = inst_fn (param.layouts (a_type ∷ []) (V, tt)) code.node_mut-function

  module _ {M : Type 1} {𝓤 : Ura M} (𝓛 : Logic 𝓤) (𝓜 : Model 𝓤 𝓛.H) (𝓡 : Running 𝓤 𝓛.H 𝓜) (wired : Wired 𝓡.env code.code) where
    open 𝓛 use {H}

    abbrev C : Calls 𝓤 H
    C = (tables 𝓤 H 𝓜 𝓡 𝓡.env).C

    abbrev Λ : Loops 𝓤 H
    Λ = (tables 𝓤 H 𝓜 𝓡 𝓡.env).Λ

    abbrev c : Clauses 𝓤 (f.ended V)
    c = f.clauses V 𝓛 𝓜.mem 𝓡.returns

    abbrev W : Contract 𝓤
    W = walk_of 𝓛 (f.ended V) stayed c

    abbrev F : Contract 𝓤
    F = triple_of 𝓛 (f.signature V) (f.spec V 𝓛 𝓜.mem 𝓡.returns)

    abbrev μ : F.Ghost → ℕ
    μ y = length (path_of y.0.3.1.0)

    -- the recursive call, at a shorter path
    abbrev Below : ℕ → Type 1
    Below t = (z : F.Ghost) → μ z < t → ent 𝓤 (F.pre z) (C (key.name (param.layouts (a_type ∷ []) (V, tt))) (F.args z) (F.post z))

    -- the function at one choice of lifetimes, shares and arguments
    module _ (κs : Lfts 3) (qs : Shares 3) (bounds : AllOutlive 3 (f.signature V).outlives κs) (s : MutBor Tr.Denot) (p : (path.the_row (named_lft 3 1 tt κs)).Denot) (lives : κs.1.1.0 ⊑ V.lives) where
      abbrev Path : Declared
      Path = path.the_type (named_lft 3 1 tt κs)

      abbrev ps : List Val
      ps = structs.vals Path (path_laws.the_laws (named_lft 3 1 tt κs)) p

      abbrev vs : List Val
      vs = mut_vals s

      abbrev y : W.Ghost
      y = ((κs, qs, bounds, (s, (p, tt)), (vs, (ps, tt))), tt)

      abbrev T₀ : Fml
      T₀ = flft κs.0 qs.0

      abbrev T₁ : Fml
      T₁ = flft κs.1.0 qs.1.0

      abbrev T₂ : Fml
      T₂ = flft κs.1.1.0 qs.1.1.0

      abbrev Self : Fml
      Self = (MutRef (named 0) κs.0 Tr).own_val s vs

      abbrev At : Fml
      At = (row Path).own_val p ps

      abbrev Ref : (R : RattleType) → MutBor R.Denot → Fml
      Ref R r = (MutRef (named 0) κs.0 R).own_val r (mut_vals r)

      -- the end of the function, at the returned node
      ends : (r : MutBor Nd.Denot) → node_of s.now (path_of p) ≡ Some r.now
          → ent 𝓤 (⋆ 𝓛 (‵ T₀ ∷ ‵ T₁ ∷ ‵ T₂ ∷ ‵ (Ref Nd r) ∷ ‵ (follows Tr Nd s.ghost_name r.ghost_name (put s.now (path_of p))) ∷ [])) (W.post y (vptr r.ref_ptr.0 r.ref_ptr.1))
      ends r value =
          qed 𝓛 (‵ T₀ ∷ ‵ T₁ ∷ ‵ T₂ ∷ ‵ (Ref Nd r) ∷ ‵ (follows Tr Nd s.ghost_name r.ghost_name (put s.now (path_of p))) ∷ []) ∵
          use0 𝓛 (raw (fact 𝓤 (node_of s.now (path_of p) ≡ Some r.now))) (fact_i 𝓤 (node_of s.now (path_of p) ≡ Some r.now) (emp 𝓤) value) $ move ! (5 ∷ 0 ∷ []) $ join ! $ move ! (4 ∷ 0 ∷ []) $ join ! $
          nothing ! $ nothing ! $ join ! $ nothing ! $ join ! $ join ! $ nothing ! $ move ! (4 ∷ 0 ∷ []) $ join ! $ move ! (3 ∷ 0 ∷ []) $ join ! $ move ! (2 ∷ 0 ∷ []) $ join ! $ join ! $
          by ! (leaves 𝓛 (f.ended V) stayed c y (vptr r.ref_ptr.0 r.ref_ptr.1) r (tt, (tt, tt)) (tt, (tt, tt)))

      -- the callees
      abbrev Own : Contract 𝓤
      Own = triple_of 𝓛 (own.signature V) (own.spec V 𝓛 𝓜.mem 𝓡.returns)

      abbrev Root : Contract 𝓤
      Root = triple_of 𝓛 is_root.signature (is_root.spec 𝓛 𝓜.mem 𝓡.returns)

      abbrev Rest : Contract 𝓤
      Rest = triple_of 𝓛 rest.signature (rest.spec 𝓛 𝓜.mem 𝓡.returns)

      abbrev Step : Contract 𝓤
      Step = triple_of 𝓛 (step.signature V) (step.spec V 𝓛 𝓜.mem 𝓡.returns)

      abbrev at_own : Own.Ghost
      at_own = (((κs.0, (κs.1.1.0, tt)), (qs.0, (qs.1.1.0, tt)), (bounds.0, tt), (s, tt), (vs, tt)), tt)

      abbrev at_root : Root.Ghost
      at_root = (((κs.1.0, tt), (qs.1.0, tt), tt, (p, tt), (ps, tt)), tt)

      abbrev at_rest : Rest.Ghost
      at_rest = (((κs.1.0, tt), (qs.1.0, tt), tt, (p, tt), (ps, tt)), tt)

      abbrev at_step : MutBor Nd.Denot → Step.Ghost
      at_step r = ((κs, qs, bounds, (r, (p, tt)), (mut_vals r, (ps, tt))), tt)

      own_pre : ent 𝓤 (⋆ 𝓛 (‵ T₀ ∷ ‵ T₂ ∷ ‵ Self ∷ [])) (Own.pre at_own)
      own_pre =
          qed 𝓛 (‵ T₀ ∷ ‵ T₂ ∷ ‵ Self ∷ []) ∵ nothing ! $ move ! (3 ∷ 0 ∷ []) $ join ! $ nothing ! $ move ! (3 ∷ 0 ∷ []) $ join ! $ move ! (2 ∷ 0 ∷ []) $ join ! $ join ! $
          nothing ! $ use0 𝓛 (raw (fact 𝓤 (κs.1.1.0 ⊑ V.lives))) (fact_i 𝓤 (κs.1.1.0 ⊑ V.lives) (emp 𝓤) lives) $ join ! $ move ! (1 ∷ 0 ∷ []) $ done !

      abbrev at_self : MutBor Tr.Denot → (row Path).Denot → F.Ghost
      at_self r q = ((κs, qs, bounds, (r, (q, tt)), (mut_vals r, (structs.vals Path (path_laws.the_laws (named_lft 3 1 tt κs)) q, tt))), tt)

      rest_pre : ent 𝓤 (⋆ 𝓛 (‵ T₁ ∷ ‵ At ∷ [])) (Rest.pre at_rest)
      rest_pre = qed 𝓛 (‵ T₁ ∷ ‵ At ∷ []) ∵ nothing ! $ move ! (2 ∷ 0 ∷ []) $ join ! $ nothing ! $ move ! (2 ∷ 0 ∷ []) $ join ! $ join ! $ nothing ! $ move ! (1 ∷ 0 ∷ []) $ done !

      root_pre : ent 𝓤 (⋆ 𝓛 (‵ T₁ ∷ ‵ At ∷ [])) (Root.pre at_root)
      root_pre = qed 𝓛 (‵ T₁ ∷ ‵ At ∷ []) ∵ nothing ! $ move ! (2 ∷ 0 ∷ []) $ join ! $ nothing ! $ move ! (2 ∷ 0 ∷ []) $ join ! $ join ! $ nothing ! $ move ! (1 ∷ 0 ∷ []) $ done !

      -- three tokens, two arguments and two facts
      gather : (S A : Fml) (φ ψ : Type 0) → φ → ψ
          → ent 𝓤 (⋆ 𝓛 (‵ T₀ ∷ ‵ T₁ ∷ ‵ T₂ ∷ ‵ S ∷ ‵ A ∷ [])) (mean 𝓛 (((‵ T₀ ⊛ ‵ T₁ ⊛ ‵ T₂ ⊛ ‵ ftrue) ⊛ ‵ S ⊛ ‵ A ⊛ ‵ ftrue) ⊛ raw (fact 𝓤 φ) ⊛ raw (fact 𝓤 ψ)))
      gather S A φ ψ a b =
          qed 𝓛 (‵ T₀ ∷ ‵ T₁ ∷ ‵ T₂ ∷ ‵ S ∷ ‵ A ∷ []) ∵ nothing ! $ move ! (5 ∷ 0 ∷ []) $ join ! $ move ! (4 ∷ 0 ∷ []) $ join ! $
          nothing ! $ move ! (4 ∷ 0 ∷ []) $ join ! $ move ! (3 ∷ 0 ∷ []) $ join ! $ move ! (2 ∷ 0 ∷ []) $ join ! $ join ! $
          use0 𝓛 (raw (fact 𝓤 ψ)) (fact_i 𝓤 ψ (emp 𝓤) b) $ use0 𝓛 (raw (fact 𝓤 φ)) (fact_i 𝓤 φ (emp 𝓤) a) $ join ! $ move ! (1 ∷ 0 ∷ []) $ done !

      goes : Typed (row Path).mir ps → IsSome (node_of s.now (path_of p)) → Below (μ y) → Sq 𝓛 (‵ T₀ ∷ ‵ T₁ ∷ ‵ T₂ ∷ ‵ Self ∷ ‵ At ∷ []) (prop (WpFn 𝓤 H C Λ fn' (W.args y) (W.post y)))
      goes ok there below =
          let fm = framed 𝓤 H 𝓜 (tables 𝓤 H 𝓜 𝓡 𝓡.env) in
          enter ! _ _ _ _ _ $ alloc_all ! (λ l. pass_all ! refl ((tt, tt), (ok.0, tt)) $
          -- the tree's own node
          sets ! (addr ! (through ! refl (stop !))) refl (tt, tt) $
          move ! (0 ∷ 2 ∷ 3 ∷ []) $ group ! 3 $ use1 𝓛 (raw (Own.pre at_own)) own_pre $
          calls_at ! fm Own (own_thm.met 𝓤 𝓛 𝓜 𝓡 (code.calls-jj_paths::repo_path_tree::RepoPathTree::own_node 𝓡.env wired) V L) at_own (and_then ! (get ! refl) (no_more !)) (λ v₁.
          use1 𝓛 (later (some (λ (r : MutBor Nd.Denot). ((‵ T₀ ⊛ ‵ T₂ ⊛ ‵ ftrue) ⊛ ‵ ((MutRef (named 0) κs.0 Nd).own_val r (v₁ ∷ []))) ⊛ raw (ensured 𝓛 (own.ended V) (own.clauses V 𝓛 𝓜.mem 𝓡.returns) at_own.0.0 at_own.0.3 tt r)))) (id⊢ 𝓤 _) $
          await ! tt $ pick ! (λ r. split ! $ split ! $ split ! $ move ! (1 ∷ []) $ split ! $ move ! (1 ∷ []) $ drop ! $ move ! (3 ∷ []) $
          use1 𝓛 (‵ (follows Tr Nd s.ghost_name r.ghost_name (λ w. w)) ⊛ raw (fact 𝓤 (r.now ≡ s.now))) (ex_e 𝓤 _ (λ ws. snd∗ 𝓤 (sem 𝓛 (lasts (own.ended V) at_own.0.0 at_own.0.3 ws)) _)) $
          split ! $ move ! (1 ∷ []) $ heard ! _ (λ same.
          -- [the tree follows its node; two tokens; the node; the token of the path; the path]
          move ! (3 ∷ []) $ peeks ! (MutRef (named 0) κs.0 Nd) (Is (MutRef (named 0) κs.0 Nd)) (shows 𝓛 (MutRef (named 0) κs.0 Nd)) r (v₁ ∷ []) (λ is₁.
          let e₁ : v₁ ∷ [] ≡ mut_vals r = mut_Tells (named 0) κs.0 Nd r (v₁ ∷ []) is₁ in
          rewrite ! 0 (λ (ws : List Val). ‵ ((MutRef (named 0) κs.0 Nd).own_val r ws)) e₁ refl $
          lands_as ! (ap only e₁) refl (tt, tt) $
          -- whether the path is at its end
          sets ! (of_opd ! (get ! refl)) refl ok.0 $
          move ! (5 ∷ []) $ use1 𝓛 (‵ At ⊛ ‵ At) ((structs.copy Path (path_laws.the_copy (named_lft 3 1 tt κs)) 𝓛).twice p ps) $ split ! $
          move ! (6 ∷ 0 ∷ []) $ group ! 2 $ use1 𝓛 (raw (Root.pre at_root)) root_pre $
          calls_at ! fm Root (is_root_thm.met 𝓤 𝓛 𝓜 𝓡 (code.calls-jj_paths::repo_path::RepoPath::is_root 𝓡.env wired)) at_root (and_then ! (get ! refl) (no_more !)) (λ v₂.
          use1 𝓛 (later (some (λ (b : Bool). ((‵ T₁ ⊛ ‵ ftrue) ⊛ ‵ (bool.own_val b (v₂ ∷ []))) ⊛ raw (ensured 𝓛 is_root.ended (is_root.clauses 𝓛 𝓜.mem 𝓡.returns) at_root.0.0 at_root.0.3 tt b)))) (id⊢ 𝓤 _) $
          await ! tt $ pick ! (λ b. split ! $ split ! $ split ! $ move ! (1 ∷ []) $ drop ! $ move ! (2 ∷ []) $
          use1 𝓛 (raw (fact 𝓤 (IsTrue b ↔ (path_of p ≡ [])))) (ex_e 𝓤 _ (λ ws. snd∗ 𝓤 (sem 𝓛 (lasts is_root.ended at_root.0.0 at_root.0.3 ws)) _)) $ heard ! _ (λ at_end.
          -- [the token of the path; the result; the path; the node; the tree follows it; two tokens]
          move ! (1 ∷ []) $ peeks ! bool (Is bool) (shows 𝓛 bool) b (v₂ ∷ []) (λ is₂.
          let e₂ : v₂ ∷ [] ≡ vbool b ∷ [] = bool_Tells b (v₂ ∷ []) is₂ in
          drop ! $ lands_as ! (ap only e₂) refl (tt, tt) $
          first ! $ branches ! (get ! refl)
          (λ yes_root.
          let empty : path_of p ≡ [] = at_end.0 (is_true b yes_root) in
          sets ! (addr ! (through ! refl (stop !))) refl (tt, tt) $ returns_within ! (W.post y) refl (look_at ! 0 refl) $ free_all ! refl $
          move ! (5 ∷ 0 ∷ 4 ∷ 2 ∷ 3 ∷ []) $ rewrite ! 4 (λ (q : List (List ℕ)). ‵ (follows Tr Nd s.ghost_name r.ghost_name (put s.now q))) (sym empty) refl $
          keep ! (0 ∷ 1 ∷ 2 ∷ 3 ∷ 4 ∷ []) $ by ! (ends r (ap (node_of s.now) empty ∙ ap Some (sym same))))
          (λ no_root.
          let long : path_of p ≢ [] = λ e. is_false b no_root (at_end.1 e) in
          skips ! $ exec ! C Λ (env fn'.locals l) (after 5 fn'.body) (at_ret _ (W.post y)) $
          sets ! (addr ! (through ! refl (stop !))) refl (tt, tt) $
          sets ! (of_opd ! (get ! refl)) refl ok.0 $
          let there₁ : IsSome (node_of r.now (path_of p)) = subst (λ t. IsSome (node_of t (path_of p))) (sym same) there in
          -- the tree below, at the path's first name
          move ! (1 ∷ []) $ use1 𝓛 (‵ At ⊛ ‵ At) ((structs.copy Path (path_laws.the_copy (named_lft 3 1 tt κs)) 𝓛).twice p ps) $ split ! $
          move ! (6 ∷ 2 ∷ 5 ∷ 3 ∷ 0 ∷ []) $ group ! 5 $
          use1 𝓛 (raw (Step.pre (at_step r))) (gather (Ref Nd r) At (κs.1.1.0 ⊑ V.lives) (IsSome (node_of r.now (path_of p)) × (path_of p ≢ [])) lives (there₁, long)) $
          calls_at ! fm Step (step_thm.met 𝓤 𝓛 𝓜 𝓡 (code.calls-jj_paths::repo_path_tree::RepoPathNode::step_mut 𝓡.env wired) V L) (at_step r) (and_then ! (get ! refl) (and_then ! (get ! refl) (no_more !))) (λ v₃.
          use1 𝓛 (later (some (λ (r' : MutBor Tr.Denot). ((‵ T₀ ⊛ ‵ T₁ ⊛ ‵ T₂ ⊛ ‵ ftrue) ⊛ ‵ ((MutRef (named 0) κs.0 Tr).own_val r' (v₃ ∷ []))) ⊛ raw (ensured 𝓛 (step.ended V) (step.clauses V 𝓛 𝓜.mem 𝓡.returns) κs (r, (p, tt)) tt r')))) (id⊢ 𝓤 _) $
          await ! tt $ pick ! (λ r'. split ! $ split ! $ split ! $ move ! (1 ∷ []) $ split ! $ move ! (1 ∷ []) $ split ! $ move ! (1 ∷ []) $ drop ! $ move ! (4 ∷ []) $
          use1 𝓛 (‵ (follows Nd Tr r.ghost_name r'.ghost_name (put_below r.now (path_of p))) ⊛ raw (fact 𝓤 ((node_of r.now (path_of p) ≡ node_of r'.now (rest_of (path_of p))) × ((w : Tree V.Denot) → put_below r.now (path_of p) (put r'.now (rest_of (path_of p)) w) ≡ put r.now (path_of p) w))))
          (ex_e 𝓤 _ (λ ws. snd∗ 𝓤 (sem 𝓛 (lasts (step.ended V) κs (r, (p, tt)) ws)) _)) $ split ! $ move ! (1 ∷ []) $ heard ! _ (λ down.
          move ! (4 ∷ []) $ peeks ! (MutRef (named 0) κs.0 Tr) (Is (MutRef (named 0) κs.0 Tr)) (shows 𝓛 (MutRef (named 0) κs.0 Tr)) r' (v₃ ∷ []) (λ is₃.
          let e₃ : v₃ ∷ [] ≡ mut_vals r' = mut_Tells (named 0) κs.0 Tr r' (v₃ ∷ []) is₃ in
          rewrite ! 0 (λ (ws : List Val). ‵ ((MutRef (named 0) κs.0 Tr).own_val r' ws)) e₃ refl $
          lands_as ! (ap only e₃) refl (tt, tt) $
          -- the rest of the path
          sets ! (of_opd ! (get ! refl)) refl ok.0 $
          move ! (3 ∷ 5 ∷ []) $ group ! 2 $ use1 𝓛 (raw (Rest.pre at_rest)) rest_pre $
          calls_at ! fm Rest (rest_thm.met 𝓤 𝓛 𝓜 𝓡 (code.calls-jj_paths::repo_path::RepoPath::rest 𝓡.env wired)) at_rest (and_then ! (get ! refl) (no_more !)) (λ v₄.
          use1 𝓛 (later (some (λ (p' : (row Path).Denot). ((‵ T₁ ⊛ ‵ ftrue) ⊛ ‵ ((row Path).own_val p' (v₄ ∷ []))) ⊛ raw (ensured 𝓛 rest.ended (rest.clauses 𝓛 𝓜.mem 𝓡.returns) at_rest.0.0 at_rest.0.3 tt p')))) (id⊢ 𝓤 _) $
          await ! tt $ pick ! (λ p'. split ! $ split ! $ split ! $ move ! (1 ∷ []) $ drop ! $ move ! (2 ∷ []) $
          use1 𝓛 (raw (fact 𝓤 (path_of p' ≡ rest_of (path_of p)))) (ex_e 𝓤 _ (λ ws. snd∗ 𝓤 (sem 𝓛 (lasts rest.ended at_rest.0.0 at_rest.0.3 ws)) _)) $ heard ! _ (λ later_names.
          move ! (1 ∷ []) $ peeks ! (row Path) (Is (row Path)) (shows 𝓛 (row Path)) p' (v₄ ∷ []) (λ is₄.
          let e₄ : v₄ ∷ [] ≡ structs.vals Path (path_laws.the_laws (named_lft 3 1 tt κs)) p' = structs.tells Path (path_laws.the_laws (named_lft 3 1 tt κs)) p' (v₄ ∷ []) is₄ in
          let ok' : Typed (row Path).mir (structs.vals Path (path_laws.the_laws (named_lft 3 1 tt κs)) p') = (loose_lawful Path (path_laws.the_loose (named_lft 3 1 tt κs)) 𝓛).typed p' _ (subst (λ ws. Is (row Path) p' ws) e₄ is₄) in
          rewrite ! 0 (λ (ws : List Val). ‵ ((row Path).own_val p' ws)) e₄ refl $
          lands_as ! (ap only e₄) refl ok'.0 $
          -- the node there, by a shorter path
          let there₂ : IsSome (node_of r'.now (path_of p')) = subst IsSome (down.0 ∙ ap (node_of r'.now) (sym later_names)) there₁ in
          move ! (5 ∷ 1 ∷ 4 ∷ 2 ∷ 0 ∷ []) $ group ! 5 $
          use1 𝓛 (raw (F.pre (at_self r' p'))) (gather (Ref Tr r') ((row Path).own_val p' (structs.vals Path (path_laws.the_laws (named_lft 3 1 tt κs)) p')) (κs.1.1.0 ⊑ V.lives) (IsSome (node_of r'.now (path_of p'))) lives there₂) $
          calls_from ! fm (raw (F.pre (at_self r' p'))) (F.args (at_self r' p')) (F.post (at_self r' p')) (below (at_self r' p') (shorter (path_of p) (path_of p') later_names long)) (and_then ! (get ! refl) (and_then ! (get ! refl) (no_more !))) (λ v₅.
          use1 𝓛 (later (some (λ (n : MutBor Nd.Denot). ((‵ T₀ ⊛ ‵ T₁ ⊛ ‵ T₂ ⊛ ‵ ftrue) ⊛ ‵ ((MutRef (named 0) κs.0 Nd).own_val n (v₅ ∷ []))) ⊛ raw (ensured 𝓛 (f.ended V) c κs (r', (p', tt)) tt n)))) (id⊢ 𝓤 _) $
          await ! tt $ pick ! (λ n. split ! $ split ! $ split ! $ move ! (1 ∷ []) $ split ! $ move ! (1 ∷ []) $ split ! $ move ! (1 ∷ []) $ drop ! $ move ! (4 ∷ []) $
          use1 𝓛 (‵ (follows Tr Nd r'.ghost_name n.ghost_name (put r'.now (path_of p'))) ⊛ raw (fact 𝓤 (node_of r'.now (path_of p') ≡ Some n.now)))
          (ex_e 𝓤 _ (λ ws. snd∗ 𝓤 (sem 𝓛 (lasts (f.ended V) κs (r', (p', tt)) ws)) _)) $ split ! $ move ! (1 ∷ []) $ heard ! _ (λ found.
          move ! (4 ∷ []) $ peeks ! (MutRef (named 0) κs.0 Nd) (Is (MutRef (named 0) κs.0 Nd)) (shows 𝓛 (MutRef (named 0) κs.0 Nd)) n (v₅ ∷ []) (λ is₅.
          let e₅ : v₅ ∷ [] ≡ mut_vals n = mut_Tells (named 0) κs.0 Nd n (v₅ ∷ []) is₅ in
          rewrite ! 0 (λ (ws : List Val). ‵ ((MutRef (named 0) κs.0 Nd).own_val n ws)) e₅ refl $
          lands_as ! (ap only e₅) refl (tt, tt) $
          returns ! (look_at ! 0 refl) $ free_all ! refl $
          -- the tree follows its node, that the tree below, and that the node there
          let whole : (λ w. put_below r.now (path_of p) (put r'.now (path_of p') w)) ≡ put s.now (path_of p) = λ i w. (ap (λ q. put_below r.now (path_of p) (put r'.now q w)) later_names ∙ down.1 w ∙ ap (λ t. put t (path_of p) w) same) i in
          move ! (6 ∷ 5 ∷ []) $ use2 𝓛 (‵ (follows Tr Tr s.ghost_name r'.ghost_name (put_below r.now (path_of p)))) (follows_then 𝓛 Tr Nd Tr (λ w. w) (put_below r.now (path_of p)) s.ghost_name r.ghost_name r'.ghost_name) $
          move ! (0 ∷ 2 ∷ []) $ use2 𝓛 (‵ (follows Tr Nd s.ghost_name n.ghost_name (λ w. put_below r.now (path_of p) (put r'.now (path_of p') w)))) (follows_then 𝓛 Tr Tr Nd (put_below r.now (path_of p)) (put r'.now (path_of p')) s.ghost_name r'.ghost_name n.ghost_name) $
          rewrite ! 0 (λ (g : Tree V.Denot → Tree V.Denot). ‵ (follows Tr Nd s.ghost_name n.ghost_name g)) whole refl $
          keep ! (4 ∷ 3 ∷ 2 ∷ 1 ∷ 0 ∷ []) $ by ! (ends n (ap (λ t. node_of t (path_of p)) (sym same) ∙ down.0 ∙ ap (node_of r'.now) (sym later_names) ∙ found))))))))))))))))))))))))

    walk : (z : W.Ghost) → Below (μ z) → ent 𝓤 (W.pre z) (WpFn 𝓤 H C Λ fn' (W.args z) (W.post z))
    walk z below =
        let κs = z.0.0 in let qs = z.0.1 in let s = z.0.3.0 in let p = z.0.3.1.0 in let Path = path.the_type (named_lft 3 1 tt κs) in let laws = path_laws.the_laws (named_lft 3 1 tt κs) in
        walked_at 𝓛 (f.ended V) stayed c (WpFn 𝓤 H C Λ fn') z (mut_vals, (structs.vals Path laws, tt)) (mut_Tells (named 0) κs.0 Tr, (structs.tells Path laws, tt))
        (λ are. qed 𝓛 (((‵ (flft κs.0 qs.0) ⊛ ‵ (flft κs.1.0 qs.1.0) ⊛ ‵ (flft κs.1.1.0 qs.1.1.0) ⊛ ‵ ftrue) ⊛ ‵ ((MutRef (named 0) κs.0 Tr).own_val s (mut_vals s)) ⊛ ‵ ((row Path).own_val p (structs.vals Path laws p)) ⊛ ‵ ftrue)
        ∷ (raw (fact 𝓤 (κs.1.1.0 ⊑ V.lives)) ⊛ raw (fact 𝓤 (IsSome (node_of s.now (path_of p))))) ∷ []) ∵
        move ! (1 ∷ []) $ split ! $ heard ! _ (λ lives. heard ! _ (λ there.
        split ! $ split ! $ move ! (1 ∷ []) $ split ! $ move ! (1 ∷ []) $ split ! $ move ! (1 ∷ []) $ drop ! $ move ! (3 ∷ []) $ split ! $ move ! (1 ∷ []) $ split ! $ move ! (1 ∷ []) $ drop ! $
        move ! (4 ∷ 3 ∷ 2 ∷ 1 ∷ 0 ∷ []) $ goes κs qs z.0.2 s p lives ((loose_lawful Path (path_laws.the_loose (named_lft 3 1 tt κs)) 𝓛).typed p _ are.1.0) there below)))

    method : (t : ℕ) → Below t → (y : F.Ghost) → μ y ≡ t → ent 𝓤 (F.pre y) (C (key.name (param.layouts (a_type ∷ []) (V, tt))) (F.args y) (F.post y))
    unfolding tables_of
    method t below y e =
        via 𝓤 _
        (walk_meets_at 𝓛 (f.ended V) stayed (Goes-spent_ref 𝓛 3 (0 ∷ []) tt (plain (λ _. Tr)), (Goes-dropped 𝓛 3 (plain (λ κs. path.the_row (named_lft 3 1 tt κs))) yes (λ κs x w. refl), tt)) c
        (WpFn 𝓤 H C Λ fn') (WpFn-mono 𝓤 H 𝓛.laws (tables_of 𝓤 H 𝓜 (tables 𝓤 H 𝓜 𝓡 𝓡.env)) fn') y (walk y (λ z lt. below z (subst (λ n. μ z < n) e lt))))
        (code.node_mut-unfolded 𝓤 H 𝓜 𝓡 wired (V, tt) (F.args y) (F.post y))

pub +node_mut_spec : {M : Type 1} → cycle.statement M
unfolding tables_of
+node_mut_spec 𝓤 𝓛 𝓜 𝓡 wired V L =
    mutual_elim 𝓛 (cycle.functions 𝓛 V 𝓜.mem 𝓡.run 𝓡.returns 𝓡.env) ◌<◌ lt-wf_rel.wf
    (measured 𝓛 (record { signature = f.signature V; run = 𝓡.run (𝓡.env (key.name (param.layouts (a_type ∷ []) (V, tt)))); spec = f.spec V 𝓛 𝓜.mem 𝓡.returns }) (μ V L 𝓛 𝓜 𝓡 wired))
    (λ t smaller. method V L 𝓛 𝓜 𝓡 wired t (λ z lt. smaller (μ V L 𝓛 𝓜 𝓡 wired z) lt z refl))
