use Rattle.std.proofs.Common.{◌≡◌, inl, Result, Ok, IfOk, subst}
use Rattle.jj_sqlite_tests.proofs.callers.load_commit.Goals as goal

of_ok : {A E : Type 0} (result : Result A E) (value : A) (P : A → Type 0) → result ≡ Ok value → IfOk result P → P value
of_ok result value P is holds = subst (λ (r : Result _ _). IfOk r P) is holds

pub returns-clause-value : goal.returns-clause-value
returns-clause-value g c = λ clean entries saved.
    of_ok c.read_stored-read.result.0 c.in_ok-read.field-0 _ c.in_ok-read.was (c.read_stored-read.ensures.value clean) entries
    (λ clean_then is_open. inl (saved c.in-Ok.conn clean_then (c.in-Ok.ensures.found clean_then) (c.in-Ok.ensures.opened clean_then) clean_then is_open))

pub returns-clause-found : goal.returns-clause-found
returns-clause-found g c = λ clean.
    let read = of_ok c.read_stored-read.result.0 c.in_ok-read.field-0 _ c.in_ok-read.was (c.read_stored-read.ensures.found clean) in
    let before = of_ok c.read_stored-read.result.0 c.in_ok-read.field-0 _ c.in_ok-read.was c.read_stored-read.ensures.clean clean in
    record {
      opened = c.in-Ok.conn;
      backend = read.0;
      finds = c.in-Ok.ensures.found before;
      is_open = c.in-Ok.ensures.opened before;
      is_replay = read.1;
      found = read.2;
    }
