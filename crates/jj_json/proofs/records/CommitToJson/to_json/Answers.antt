use Rattle.std.proofs.Common.{subst}
use Rattle.serde_json.specs.View.{view}
use Rattle.jj_json.specs.Records.{IsSignatureJson}
use Rattle.jj_backend.specs.Records.{CommitValue}
use Rattle.jj_dates.specs.Times.{IsDate}
use Rattle.jj_json.proofs.records.CommitToJson.to_json.Goals as goal

pub returns : goal.returns
returns c =
    let author_json = view c.in_ok-author.author in
    let committer_json = view c.in_ok-committer.committer in
    let Authored : CommitValue → Type 0 =
    λ k. IsDate k.author.timestamp × IsSignatureJson k.author author_json in
    let Committed : CommitValue → Type 0 =
    λ k. IsDate k.committer.timestamp × IsSignatureJson k.committer committer_json in
    let author = subst Authored c.self.view_is
    (c.in_ok-author.ensures.0, c.in_ok-author.ensures.1) in
    let committer = subst Committed c.self.view_is
    (c.in_ok-committer.ensures.0, c.in_ok-committer.ensures.1) in (
      (author.0, committer.0),
      (
        author_json,
        committer_json,
        author.1,
        committer.1,
        c.in_ok-commit_object.ensures,
      ),
    )
