-- A query of a log whose rows are read one at a time: the connection shows what it showed before.
use Rattle.std.proofs.Common.{◌≡◌, inl, inr, ◌≤◌, IsSome, List, [], None, Option, Ok, sym, subst}
use Rattle.sqlite.specs.Effect.{Database, RefusesToRead}
use Rattle.sqlite.specs.Listing.{understood, reads_listing, IsSourceOf}
use Rattle.sqlite.specs.Clock.{timed}
use Rattle.sqlite.specs.Order.{Row}
use Rattle.sqlite.specs.State.{State, CommitsShowing, FailsToQuery, FailsToShow, IsNotRun, IsStatement, IsUnchanged, Shown, ShowsRows}
use Rattle.sqlite.specs.declared.error.Error.{Error}
use Rattle.sqlite.proofs.Callers.{unchanged_then}
use Rattle.sqlite.proofs.StreamLemmas.{fails_since}
use Rattle.sqlite_resolve.specs.declared.compiled.Compiled.{Compiled}
use Rattle.jj_sqlite.specs.Tables.{select_statement}
use Rattle.sqlite.specs.Given.{HasBegun, HasGiven}
use Rattle.sqlite.specs.Held.{Held, state}
use Rattle.sqlite.specs.Store.{Ghosts}
use Rattle.sqlite.specs.Tree.{Trees}
use Rattle.sqlite_schema.specs.declared.command.Returning.{Returning}
use Rattle.jj_sqlite.proofs.Selects.{never_returns, never_some, returns_nothing}

module _ (old mid new : State) (same : IsUnchanged old mid) where
  abbrev since : (c : Compiled) → IsStatement mid select_statement [] c → IsStatement old select_statement [] c
  since c h = record { is = subst (λ (d : Database). understood d.schema select_statement ≡ Ok c) same.0.now_is h.is; whole = h.whole; given = h.given; now = h.now }

  source_since : (db : Database) → IsSourceOf (reads_listing mid.now.schema select_statement) mid.now db → IsSourceOf (reads_listing old.now.schema select_statement) old.now db
  source_since db = subst (λ (d : Database). IsSourceOf (reads_listing d.schema select_statement) d db) same.0.now_is

  pub shown_since : (rows : List Row) → Shown select_statement [] mid new rows → Shown select_statement [] old new rows
  unfolding Shown
  shown_since rows h =
      let none = returns_nothing old.now.schema h.0 (since h.0 h.1).is in
      let full = timed [] h.0.formats h.1.now in
      let it = subst (ShowsRows mid new select_statement h.0 full rows) none h.2 in
      (h.0, since h.0 h.1, subst (ShowsRows old new select_statement h.0 full rows) (sym none) (it.0, source_since it.0 it.1, it.2, unchanged_then old mid new same it.3))

  module _ (counts : old.faults ≤ mid.faults) (limit : mid.step_limit ≡ old.step_limit) where
    pub fails_to_query_since : (e : Error) → FailsToQuery select_statement [] mid new e → FailsToQuery select_statement [] old new e
    unfolding FailsToQuery IsNotRun
    fails_to_query_since e (inl (inl h)) = inl (inl (rw (← same.0.now_is) h.0, unchanged_then old mid new same h.1))
    fails_to_query_since e (inl (inr h)) = inl (inr (fails_since old mid new same counts e h))
    fails_to_query_since e (inr h) =
        let none = returns_nothing old.now.schema h.0 (since h.0 h.1).is in
        let full = timed [] h.0.formats h.1.now in
        let it = subst (FailsToShow mid new select_statement h.0 full e) none h.2 in
        inr (
          h.0,
          since h.0 h.1,
          subst (FailsToShow old new select_statement h.0 full e) (sym none)
              (it.0, source_since it.0 it.1, subst (λ l. RefusesToRead l h.0.command it.0 full e) limit it.2, unchanged_then old mid new same it.3),
        )

none_shown : (r : Option Returning) → r ≡ None → ¬ (IsSome r)
none_shown r is some = never_some (subst (λ (o : Option Returning). IsSome o) is some)

-- a query commits nothing
pub commits_nothing : (s : State) (db : Trees) → ¬ CommitsShowing select_statement [] s db
unfolding CommitsShowing
commits_nothing s db h = none_shown h.0.returning (returns_nothing s.now.schema h.0 h.1.is) h.2

pub begun : {S : Type 0} (g : Ghosts S) (old new : Held S) → HasBegun g select_statement [] old new → HasGiven g select_statement [] new [] × IsUnchanged (state g old) (state g new)
begun g old new (inl h) = h
begun g old new (inr h) = absurd (never_returns old.schema h.0)
