-- Faults of inputs from errors of their logs, and the options that a command line asks for.
use Rattle.std.proofs.Common.{◌≡◌, ◌∙◌, ℕ, List, String, Global, Option, None, Some, Ok, inl, inr, get_or, map, ap, subst, sym}
use Rattle.std.specs.Prelude.{string_bytes}
use Rattle.jj_log.specs.CommandLines.{Asks, IsMost}
use Rattle.jj_log.specs.InputLines.{AreCommitsOf}
use Rattle.jj_log.specs.Labels.{name_of}
use Rattle.jj_log.specs.LogDrawings.{IsLogError}
use Rattle.jj_log.specs.Reports.{IsFaultAt}
use Rattle.jj_log.specs.Runs.{IsLinesFault}
use Rattle.jj_log.specs.declared.arguments.LogOptions.{LogOptions}
use Rattle.jj_log.specs.declared.commits.Commit.{Commit}
use Rattle.jj_log.specs.declared.fault.Fault.{Fault}
use Rattle.jj_log.specs.declared.fault.Fault.TheVariants.{NotUtf8, Fields, Line}
use Rattle.jj_log.specs.declared.fault.LineFault.{LineFault}
use Rattle.jj_log.specs.declared.fault.LineFault.TheVariants.{RepeatedName, Cycle, TooWide}
use Rattle.jj_log.specs.declared.fault.LogError.TheVariants.{RepeatedName as repeated_name, Cycle as cycle, TooWide as too_wide}

module _ (most : ℕ) (input : List ℕ) (commits : List Commit) (numbers : List ℕ) (are : AreCommitsOf input commits numbers) (i : ℕ) where
  abbrev IsOfCommit : LineFault → Fault → Type 0
  IsOfCommit kind = IsFaultAt (get_or numbers i 0) kind (name_of commits i)

  pub repeated : IsLogError most commits (repeated_name i) → (fault : Fault) → IsOfCommit RepeatedName fault → IsLinesFault most input fault
  repeated error NotUtf8 at = absurd at
  repeated error (Fields offset) at = absurd at
  repeated error (Line number kind quoted) at = inr (inl (commits, numbers, are, i, error, at))

  pub cyclic : IsLogError most commits (cycle i) → (fault : Fault) → IsOfCommit Cycle fault → IsLinesFault most input fault
  cyclic error NotUtf8 at = absurd at
  cyclic error (Fields offset) at = absurd at
  cyclic error (Line number kind quoted) at = inr (inr (inl (commits, numbers, are, i, error, at)))

  pub wide : IsLogError most commits (too_wide i) → (fault : Fault) → IsOfCommit TooWide fault → IsLinesFault most input fault
  wide error NotUtf8 at = absurd at
  wide error (Fields offset) at = absurd at
  wide error (Line number kind quoted) at = inr (inr (inr (commits, numbers, are, i, error, at)))

pub most_once : (words : List (List ℕ)) (columns : Option ℕ) (a b : ℕ) → IsMost words columns a → IsMost words columns b → a ≡ b
most_once words None a b h k = h ∙ sym k
most_once words (Some index) a b (_, _, h) (_, _, k) = h ∙ sym k

pub asked_once : (words : List (String Global)) (a b : LogOptions) → Asks words a → Asks words b → a ≡ b
asked_once words a b h k =
    let twice : Ok h.line ≡ Ok k.line = sym h.parsed ∙ k.parsed in
    let same : h.line ≡ k.line = cc in
    let most = most_once (map string_bytes words) h.line.columns a.max_columns b.max_columns h.most (subst (λ line. IsMost (map string_bytes words) line.columns b.max_columns) (sym same) k.most) in
    let style = h.style ∙ ap (λ line. line.style) same ∙ sym k.style in
    let nul = h.nul ∙ ap (λ line. line.nul) same ∙ sym k.nul in
    λ i. record { max_columns = most i; style = style i; nul = nul i }
