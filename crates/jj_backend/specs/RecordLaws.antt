-- Equality of records is an equivalence, and content bytes determine a record: laws of records,
-- composed of those of their fields.
-- Cited by contracts of public items: commit_equiv, commit_lawful, copy_history_equiv,
-- copy_history_lawful, secure_sig_equiv, secure_sig_lawful, signature_equiv, signature_lawful.
use Rattle.std.specs.Cmp.{IsEquivalence, and_equiv, on_equiv, int_eq_equiv}
use Rattle.std.specs.Cmp.Lexicographic.{nat_list_eq_equiv, lists_equiv, options_equiv}
use Rattle.jj_content.specs.Content.{IsLawful, string_content}
use Rattle.jj_content.specs.PrefixFreeProofs.{on_lawful, both_lawful, narrow_lawful, string_lawful, list_lawful, option_lawful, u8_lawful, i32_lawful, i64_lawful}
use Rattle.jj_merges.specs.Contents.{merge_lawful}
use Rattle.jj_paths.specs.Contents.{path_lawful}
use Rattle.jj_paths.specs.Orders.{path_eq_equiv}
use Rattle.jj_backend.specs.Records.{timestamp_eq, signature_eq, secure_sig_eq, copy_history_eq, origin_eq, message_eq, signers_eq, commit_eq}
use Rattle.jj_backend.specs.Contents.{AreBytes, bytes_content, IsText, IsTimestamp, timestamp_content, IsSignature, signature_content, IsSecureSig, secure_sig_content, IsCopyHistory, copy_history_content, IsOrigin, origin_content, IsMessage, message_content, AreSigners, signers_content, IsCommit, commit_content}
use Rattle.std.specs.Str.{bytes_eq}

pub timestamp_equiv : IsEquivalence timestamp_eq
timestamp_equiv = and_equiv (on_equiv (λ time. time.timestamp.0) int_eq_equiv)
    (on_equiv (λ time. time.tz_offset) int_eq_equiv)

pub signature_equiv : IsEquivalence signature_eq
signature_equiv =
    and_equiv (on_equiv (λ s. s.name) nat_list_eq_equiv)
    (and_equiv (on_equiv (λ s. s.email) nat_list_eq_equiv)
    (on_equiv (λ s. s.timestamp) timestamp_equiv))

pub secure_sig_equiv : IsEquivalence secure_sig_eq
secure_sig_equiv = and_equiv (on_equiv (λ s. s.signed_data) nat_list_eq_equiv)
    (on_equiv (λ s. s.sig) nat_list_eq_equiv)

pub copy_history_equiv : IsEquivalence copy_history_eq
copy_history_equiv =
    and_equiv (on_equiv (λ h. h.current_path) path_eq_equiv)
    (and_equiv (on_equiv (λ h. h.parents) (lists_equiv nat_list_eq_equiv))
    (on_equiv (λ h. h.salt) nat_list_eq_equiv))

origin_equiv : IsEquivalence origin_eq
origin_equiv =
    and_equiv (on_equiv (λ c. c.parents) (lists_equiv nat_list_eq_equiv))
    (and_equiv (on_equiv (λ c. c.predecessors) (lists_equiv nat_list_eq_equiv))
    (on_equiv (λ c. c.root_tree) (lists_equiv nat_list_eq_equiv)))

message_equiv : IsEquivalence message_eq
message_equiv =
    and_equiv (on_equiv (λ c. c.conflict_labels) (lists_equiv nat_list_eq_equiv))
    (and_equiv (on_equiv (λ c. c.change_id) nat_list_eq_equiv)
    (on_equiv (λ c. c.description) nat_list_eq_equiv))

signers_equiv : IsEquivalence signers_eq
signers_equiv =
    and_equiv (on_equiv (λ c. c.author) signature_equiv)
    (and_equiv (on_equiv (λ c. c.committer) signature_equiv)
    (on_equiv (λ c. c.secure_sig) (options_equiv secure_sig_equiv)))

pub commit_equiv : IsEquivalence commit_eq
commit_equiv = and_equiv origin_equiv (and_equiv message_equiv signers_equiv)

-- ---- content

pub bytes_lawful : IsLawful AreBytes bytes_eq bytes_content
bytes_lawful = list_lawful u8_lawful

pub text_lawful : IsLawful IsText bytes_eq string_content
text_lawful = narrow_lawful (λ _ value. value.1) string_lawful

pub timestamp_lawful : IsLawful IsTimestamp timestamp_eq timestamp_content
timestamp_lawful = both_lawful (on_lawful (λ time. time.timestamp.0) i64_lawful)
    (on_lawful (λ time. time.tz_offset) i32_lawful)

pub signature_lawful : IsLawful IsSignature signature_eq signature_content
signature_lawful =
    both_lawful (on_lawful (λ s. s.name) text_lawful)
    (both_lawful (on_lawful (λ s. s.email) text_lawful)
    (on_lawful (λ s. s.timestamp) timestamp_lawful))

pub secure_sig_lawful : IsLawful IsSecureSig secure_sig_eq secure_sig_content
secure_sig_lawful = both_lawful (on_lawful (λ s. s.signed_data) bytes_lawful)
    (on_lawful (λ s. s.sig) bytes_lawful)

pub copy_history_lawful : IsLawful IsCopyHistory copy_history_eq copy_history_content
copy_history_lawful =
    both_lawful (on_lawful (λ h. h.current_path) path_lawful)
    (both_lawful (on_lawful (λ h. h.parents) (list_lawful bytes_lawful))
    (on_lawful (λ h. h.salt) bytes_lawful))

origin_lawful : IsLawful IsOrigin origin_eq origin_content
origin_lawful =
    both_lawful (on_lawful (λ c. c.parents) (list_lawful bytes_lawful))
    (both_lawful (on_lawful (λ c. c.predecessors) (list_lawful bytes_lawful))
    (on_lawful (λ c. c.root_tree) (merge_lawful bytes_lawful)))

message_lawful : IsLawful IsMessage message_eq message_content
message_lawful =
    both_lawful (on_lawful (λ c. c.conflict_labels) (merge_lawful text_lawful))
    (both_lawful (on_lawful (λ c. c.change_id) bytes_lawful)
    (on_lawful (λ c. c.description) text_lawful))

signers_lawful : IsLawful AreSigners signers_eq signers_content
signers_lawful =
    both_lawful (on_lawful (λ c. c.author) signature_lawful)
    (both_lawful (on_lawful (λ c. c.committer) signature_lawful)
    (on_lawful (λ c. c.secure_sig) (option_lawful secure_sig_lawful)))

pub commit_lawful : IsLawful IsCommit commit_eq commit_content
commit_lawful = both_lawful origin_lawful (both_lawful message_lawful signers_lawful)
