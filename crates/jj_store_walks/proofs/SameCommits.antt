-- Commits that are equal part by part are the same.
use Rattle.std.proofs.Common.{◌≡◌, ◌&&◌, Bool, true, false, Option, None, Some, refl}
use Rattle.std.specs.Cmp.Lexicographic.{bytes_decides, pointwise_decides}
use Rattle.std.specs.Option.{option_eq}
use Rattle.std.specs.Ordering.{int_eq}
use Rattle.std.proofs.lemmas.Bool.Decides.{Decides-int_eq}
use Rattle.jj_backend.specs.Records.{CommitValue, SecureSigValue, SignatureValue, commit_eq, message_eq, origin_eq, secure_sig_eq, signature_eq, signers_eq, timestamp_eq}
use Rattle.jj_backend.specs.declared.backend.timestamp.Timestamp.{Timestamp}

both : (a b : Bool) → (a && b) ≡ true → (a ≡ true) × (b ≡ true)
both true b h = (refl, h)
both false b h = absurd cc

same_timestamp : (a b : Timestamp) → timestamp_eq a b ≡ true → a ≡ b
same_timestamp a b h =
    let (first, second) = both (int_eq a.timestamp.0 b.timestamp.0) (int_eq a.tz_offset b.tz_offset) h in
    let time = (Decides-int_eq a.timestamp.0 b.timestamp.0).0 first in
    let offset = (Decides-int_eq a.tz_offset b.tz_offset).0 second in
    λ i. record { timestamp = record { 0 = time i }; tz_offset = offset i }

same_signature : (a b : SignatureValue) → signature_eq a b ≡ true → a ≡ b
same_signature a b h =
    let (first, others) = both _ _ h in
    let (second, third) = both _ _ others in
    let name = (bytes_decides a.name b.name).0 first in
    let email = (bytes_decides a.email b.email).0 second in
    let time = same_timestamp a.timestamp b.timestamp third in
    λ i. record { name = name i; email = email i; timestamp = time i }

same_secure_sig : (a b : Option SecureSigValue) → option_eq secure_sig_eq a b ≡ true → a ≡ b
same_secure_sig None None h = refl
same_secure_sig None (Some b) h = absurd cc
same_secure_sig (Some a) None h = absurd cc
same_secure_sig (Some a) (Some b) h =
    let (first, second) = both _ _ h in
    let signed = (bytes_decides a.signed_data b.signed_data).0 first in
    let sig = (bytes_decides a.sig b.sig).0 second in
    λ i. Some (record { signed_data = signed i; sig = sig i })

pub same_commit : (a b : CommitValue) → commit_eq a b ≡ true → a ≡ b
same_commit a b h =
    let (origin, others) = both (origin_eq a b) _ h in
    let (message, signers) = both (message_eq a b) (signers_eq a b) others in
    let (o1, o23) = both _ _ origin in
    let (o2, o3) = both _ _ o23 in
    let (m1, m23) = both _ _ message in
    let (m2, m3) = both _ _ m23 in
    let (s1, s23) = both _ _ signers in
    let (s2, s3) = both _ _ s23 in
    let parents = (pointwise_decides bytes_decides a.parents b.parents).0 o1 in
    let predecessors = (pointwise_decides bytes_decides a.predecessors b.predecessors).0 o2 in
    let root_tree = (pointwise_decides bytes_decides a.root_tree b.root_tree).0 o3 in
    let labels = (pointwise_decides bytes_decides a.conflict_labels b.conflict_labels).0 m1 in
    let change = (bytes_decides a.change_id b.change_id).0 m2 in
    let description = (bytes_decides a.description b.description).0 m3 in
    let author = same_signature a.author b.author s1 in
    let committer = same_signature a.committer b.committer s2 in
    let sig = same_secure_sig a.secure_sig b.secure_sig s3 in
    λ i. record {
      parents = parents i;
      predecessors = predecessors i;
      root_tree = root_tree i;
      conflict_labels = labels i;
      change_id = change i;
      description = description i;
      author = author i;
      committer = committer i;
      secure_sig = sig i;
    }
