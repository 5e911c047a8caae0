-- Removal of the ref of a name from the first remote that has it.
use Rattle.std.proofs.Common.{◌≡◌, ◌<◌, ℕ, suc, List, [], ◌∷◌, ◌++◌, Option, Some, None, length, take, drop, get_or, set, sym, ap, subst, ◌∙◌, arith}
use Rattle.std.specs.Map.{lookup}
use Rattle.std.specs.Option.{option_map, option_to_list}
use Rattle.std.specs.Str.{bytes_eq}
use Rattle.std.proofs.Math.Seq.{split_at}
use Rattle.std.proofs.lemmas.List.{take-set, drop-set-lt, get_or-set_same, length-set}
use Rattle.std.proofs.lemmas.Option.{same_Some}
use Rattle.jj_stores.specs.ViewJoins.{Named, IsAscending, RemovesAt, remotes_with}
use Rattle.jj_stores.specs.FlatRefs.{RemovesRef}

abbrev pub at_remote : {R : Type 0} → List ℕ → R → List ℕ × R
at_remote remote ref = (remote, ref)

module _ {R : Type 0} where
  -- the removed ref is the one that is returned
  found_first : (name : List ℕ) (remote new : List ℕ × Named R) (o : Option R) (found : List ℕ × R)
      → Some found ≡ option_map (λ r. (remote.0, r)) o → remote.1 ≡ option_to_list (option_map (λ v. (name, v)) o) ++ new.1
      → remote ≡ (found.0, (name, found.1) ∷ new.1)
  found_first name remote new (Some v) found is cut =
      let same : found ≡ (remote.0, v) = same_Some _ _ is in
      let shown : List ℕ × R → List ℕ × Named R = λ f. (f.0, (name, f.1) ∷ new.1) in
      let pair : Named R → List ℕ × Named R = λ refs. (remote.0, refs) in
      ap pair cut ∙ sym (ap shown same)
  found_first name remote new None found is cut = cc

  new_first : (remote new : List ℕ × Named R) (found : List ℕ × R) (refs : Named R) → new.0 ≡ remote.0 → remote ≡ (found.0, refs)
      → new ≡ (found.0, new.1)
  new_first remote new found refs named is =
      let pair : List ℕ → List ℕ × Named R = λ n. (n, new.1) in
      ap pair (named ∙ ap (λ r. r.0) is)

  module _ (name : List ℕ) (old now : Named (Named R)) (i : ℕ) (d : List ℕ × Named R) (new : List ℕ × Named R)
      (below : i < length old) (same : now ≡ old) (none : remotes_with (take i old) name ≡ [])
      (lost : RemovesAt name (get_or now i d) new) where
    pub ref_taken : (found : List ℕ × R)
        → Some found ≡ option_map (λ r. ((get_or now i d).0, r)) (lookup (bytes_eq name) (get_or now i d).1)
        → RemovesRef name old found (set now i new)
    ref_taken found is =
        let remote : List ℕ × Named R = get_or now i d in
        let here : remote ≡ (found.0, (name, found.1) ∷ new.1) = found_first name remote new _ found is lost.refs.1 in
        let long : i < length now = subst (λ l. i < length l) (sym same) below in
        let after : i < suc i = omega arith in
        let join : Named (Named R) → List ℕ × Named R → Named (Named R) → Named (Named R) = λ a x b. a ++ x ∷ b in
        record {
          before = take i old;
          after = drop (suc i) old;
          others = new.1;
          old_is = sym same ∙ split_at now i d long
              ∙ ap (λ v. take i v ++ remote ∷ drop (suc i) v) same
              ∙ ap (λ x. take i old ++ x ∷ drop (suc i) old) here;
          new_is = split_at (set now i new) i d (subst (λ n. i < n) (sym (length-set now i new)) long)
              ∙ ap (λ x. take i (set now i new) ++ x ∷ drop (suc i) (set now i new)) (get_or-set_same now i new d long)
              ∙ ap (λ l. l ++ new ∷ drop (suc i) (set now i new)) (take-set now i new)
              ∙ ap (λ l. take i now ++ new ∷ l) (drop-set-lt (suc i) now i new after)
              ∙ ap (λ v. take i v ++ new ∷ drop (suc i) v) same
              ∙ ap (λ x. take i old ++ x ∷ drop (suc i) old) (new_first remote new found _ lost.remote here);
          none_before = none;
          ascending = subst (λ r. IsAscending r.1) here lost.ascending;
        }
