use Rattle.std.proofs.Common.{◌≡◌, ℕ, [], ◌∷◌, arith}
use Rattle.std.proofs.lemmas.List.Elements.{All-cons, All-nil}
use Rattle.jj_history_cli.proofs.merging.record_merge.Goals as goal

-- `MERGE` has no line feed
pub set_ref-requires : goal.set_ref-requires
set_ref-requires g c =
    let no_line_feed = λ (byte : ℕ). byte ≡ 10 → ⊥ in record {
      line =
          All-cons no_line_feed 77 (69 ∷ 82 ∷ 71 ∷ 69 ∷ []) (λ e. absurd (omega (arith, e)))
          (All-cons no_line_feed 69 (82 ∷ 71 ∷ 69 ∷ []) (λ e. absurd (omega (arith, e)))
          (All-cons no_line_feed 82 (71 ∷ 69 ∷ []) (λ e. absurd (omega (arith, e)))
          (All-cons no_line_feed 71 (69 ∷ []) (λ e. absurd (omega (arith, e)))
          (All-cons no_line_feed 69 [] (λ e. absurd (omega (arith, e))) (All-nil no_line_feed)))));
    }
