-- The directories between the last open one and the next mark are listed, and then opened.
use Rattle.std.proofs.Common.{◌≡◌, ◌⊎◌, inl, inr, ℕ, ◌+◌, ◌-◌, ◌<◌, ◌≤◌, List, [], ◌∷◌, ◌++◌, length, take, drop, get_or, Bool, refl, ap, sym, subst, ◌∙◌, arith, append_assoc, append-nil}
use Rattle.std.proofs.lemmas.List.{length-append, get_or_push, take-append-le, take-append-drop, length-take-le}
use Rattle.std.proofs.Math.ListN.{get_or-append}
use Rattle.std.proofs.Math.Seq.{take-length}
use Rattle.jj_paths.specs.Names.{name_of, path_of}
use Rattle.jj_paths.specs.Paths.{Name, Path}
use Rattle.jj_paths.specs.declared.repo_path.RepoPath.{RepoPath}
use Rattle.jj_paths.specs.declared.repo_path.RepoPathComponent.{RepoPathComponent}
use Rattle.jj_paths.proofs.PathLaws.{last_name_laws}
use Rattle.jj_matchers.specs.VisitSpecs.{VisitSpec}
use Rattle.jj_matchers.specs.MarkWalkInvariants.{IsClosed, IsFull, IsListedDown, IsNextDirectory, IsOnWay, dir_of, top}
use Rattle.jj_matchers.specs.declared.matchers.mark_walk.OpenDirectory.{OpenDirectory}
use Rattle.jj_matchers.proofs.MarkWalks.{lt_cases}
use Rattle.jj_matchers.proofs.PathSpans.{take_prefix}

abbrev Pending : Type 0
Pending = RepoPath × RepoPathComponent

-- 1. Listing.

-- the directories down to a path, from the one that ends with `rest`, are still to be listed
pub record IsListing (path from dir rest : Path) (pending : List Pending) : Type 0 where
  pub is : dir ≡ take (length path - length pending) path
  pub below : dir ≡ from ++ rest
  pub within : length pending ≤ length path
  pub each : (i : ℕ) (d : Pending) → i < length pending
      → (path_of (get_or pending i d).0 ≡ take (length path - i) path)
      × (take (length path - i) path ≡ take (length path - i - 1) path ++ name_of (get_or pending i d).1 ∷ [])

pub listing_first : (path from below : Path) (pending : List Pending) → pending ≡ [] → path ≡ from ++ below → IsListing path from path below pending
listing_first path from below pending none whole = subst (IsListing path from path below) (sym none) (record {
  is = sym (take-length path) ∙ ap (λ k. take k path) (omega arith);
  below = whole;
  within = omega arith;
  each = λ i d lt. absurd (omega (arith, lt));
})

module _ (path from dir rest : Path) (pending : List Pending) (listing : IsListing path from dir rest pending) where
  abbrev tail : Path
  tail = drop (length path - length pending) path

  left : length dir ≡ length path - length pending
  left = ap length listing.is ∙ length-take-le (length path - length pending) path (omega arith)

  module _ (further : Path) (name : Name) (split : rest ≡ further ++ name ∷ []) where
    shape : dir ≡ (from ++ further) ++ name ∷ []
    shape = listing.below ∙ ap (λ q. from ++ q) split ∙ sym (append_assoc from further (name ∷ []))

    pub listing_not_root : dir ≡ [] → ⊥
    listing_not_root root = not_empty (from ++ further) (sym shape ∙ root)
      where
        not_empty : (q : Path) → q ++ name ∷ [] ≡ [] → ⊥
        not_empty [] e = cc
        not_empty (n ∷ q) e = cc

    pub listing_next : (parent : Path) (last : Name) (x : Pending) (new : List Pending) → dir ≡ parent ++ last ∷ [] → path_of x.0 ≡ dir → name_of x.1 ≡ name → new ≡ pending ++ x ∷ [] → IsListing path from parent further new
    listing_next parent last x new up at named adds = subst (IsListing path from parent further) (sym adds) (record {
      is = parent_is;
      below = parts.0;
      within = omega (arith, longer, left, deeper);
      each = each;
    })
      where
        parts : (parent ≡ from ++ further) × (last ≡ name)
        parts = last_name_laws parent (from ++ further) last name (sym up ∙ shape)

        longer : length (pending ++ x ∷ []) ≡ length pending + 1
        longer = length-append pending (x ∷ [])

        deeper : length dir ≡ length parent + 1
        deeper = ap length up ∙ length-append parent (last ∷ [])

        whole : path ≡ parent ++ (last ∷ tail)
        whole = sym (take-append-drop (length path - length pending) path) ∙ ap (λ q. q ++ tail) (sym listing.is ∙ up) ∙ append_assoc parent (last ∷ []) tail

        parent_is : parent ≡ take (length path - length (pending ++ x ∷ [])) path
        parent_is = sym (take_prefix parent (last ∷ tail) path whole) ∙ ap (λ k. take k path) (omega (arith, longer, left, deeper))

        each : (i : ℕ) (d : Pending) → i < length (pending ++ x ∷ [])
            → (path_of (get_or (pending ++ x ∷ []) i d).0 ≡ take (length path - i) path)
            × (take (length path - i) path ≡ take (length path - i - 1) path ++ name_of (get_or (pending ++ x ∷ []) i d).1 ∷ [])
        each i d lt = by_case (lt_cases i (length pending) (omega (arith, lt, longer)))
          where
            by_case : (i < length pending) ⊎ (i ≡ length pending) → (path_of (get_or (pending ++ x ∷ []) i d).0 ≡ take (length path - i) path)
                × (take (length path - i) path ≡ take (length path - i - 1) path ++ name_of (get_or (pending ++ x ∷ []) i d).1 ∷ [])
            by_case (inl old) = subst (λ (y : Pending). (path_of y.0 ≡ take (length path - i) path) × (take (length path - i) path ≡ take (length path - i - 1) path ++ name_of y.1 ∷ [])) (sym (get_or-append pending (x ∷ []) d i old)) (listing.each i d old)
            by_case (inr last_one) =
                let here : take (length path - i) path ≡ dir = ap (λ k. take (length path - k) path) last_one ∙ sym listing.is in
                let above : take (length path - i - 1) path ≡ parent = ap (λ k. take k path) (omega (arith, last_one, longer)) ∙ sym parent_is in
                subst (λ (y : Pending). (path_of y.0 ≡ take (length path - i) path) × (take (length path - i) path ≡ take (length path - i - 1) path ++ name_of y.1 ∷ [])) (sym (get_or_push pending x d i (sym last_one)))
                (at ∙ sym here, here ∙ up ∙ ap (λ q. q ++ last ∷ []) (sym above) ∙ ap (λ n. take (length path - i - 1) path ++ n ∷ []) (parts.1 ∙ sym named))

  pub listing_all : rest ≡ [] → IsListedDown path (length from) pending
  listing_all none = record {
    count = omega (arith, left, listing.within, ap length (listing.below ∙ ap (λ q. from ++ q) none ∙ append-nil from));
    each = listing.each;
  }

-- 2. Opening.

module _ (accepts opens : Path → Bool) (visit : Path → VisitSpec) (done : List Path) (path : Path) (name : Name) where
  -- the pending directories are the next to be opened, unless no more are opened
  pub record IsOpening (entered : List Path) (stack : List OpenDirectory) (pending : List Pending) : Type 0 where
    pub way : IsOnWay accepts opens visit done (path ++ name ∷ []) entered stack
    pub some : 0 < length stack
    pub left : IsClosed stack ⊎ IsListedDown path (length stack - 1) pending

  path_longer : length (path ++ name ∷ []) ≡ length path + 1
  path_longer = length-append path (name ∷ [])

  pub opening_first : (entered : List Path) (stack : List OpenDirectory) (pending : List Pending) → IsOnWay accepts opens visit done (path ++ name ∷ []) entered stack → 0 < length stack
      → IsClosed stack ⊎ ((d : OpenDirectory) → IsListedDown path (length (dir_of (top stack d))) pending) → IsOpening entered stack pending
  opening_first entered stack pending way some listed = record { way = way; some = some; left = by_case listed }
    where
      by_case : IsClosed stack ⊎ ((d : OpenDirectory) → IsListedDown path (length (dir_of (top stack d))) pending) → IsClosed stack ⊎ IsListedDown path (length stack - 1) pending
      by_case (inl closed) = inl closed
      by_case (inr down) =
          let d = some_directory stack some in
          let long : length (dir_of (top stack d)) ≡ length stack - 1 =
          ap length (way.to.chain (length stack - 1) d (omega (arith, some))) ∙ length-take-le (length stack - 1) (path ++ name ∷ []) (omega (arith, way.to.within)) in
          inr (subst (λ k. IsListedDown path k pending) long (down d))
        where
          some_directory : (xs : List OpenDirectory) → 0 < length xs → OpenDirectory
          some_directory [] lt = absurd (omega (arith, lt))
          some_directory (x ∷ xs) lt = x

  module _ (entered : List Path) (stack : List OpenDirectory) (pending more : List Pending) (x : Pending) (pops : pending ≡ more ++ x ∷ []) (opening : IsOpening entered stack pending) where
    one_more : length pending ≡ length more + 1
    one_more = ap length pops ∙ length-append more (x ∷ [])

    pub next_directory : IsClosed stack ⊎ IsNextDirectory (path ++ name ∷ []) (length stack) (path_of x.0) (name_of x.1)
    next_directory = by_left opening.left
      where
        by_left : IsClosed stack ⊎ IsListedDown path (length stack - 1) pending → IsClosed stack ⊎ IsNextDirectory (path ++ name ∷ []) (length stack) (path_of x.0) (name_of x.1)
        by_left (inl closed) = inl closed
        by_left (inr down) =
            let at = down.each (length more) x (omega (arith, one_more)) in
            let is : get_or pending (length more) x ≡ x = ap (λ l. get_or l (length more) x) pops ∙ get_or_push more x x (length more) refl in
            let count : length path - length more ≡ length stack = omega (arith, down.count, one_more, opening.some) in
            let short : length stack ≤ length path = omega (arith, down.count, one_more, opening.some) in
            let here : path_of x.0 ≡ take (length stack) path = ap (λ (y : Pending). path_of y.0) (sym is) ∙ at.0 ∙ ap (λ k. take k path) count in
            let ends : take (length path - length more) path ≡ take (length path - length more - 1) path ++ name_of x.1 ∷ [] =
            at.1 ∙ ap (λ (y : Pending). take (length path - length more - 1) path ++ name_of y.1 ∷ []) is in
            inr (record {
              below = omega (arith, short, path_longer);
              is = here ∙ sym (take-append-le (length stack) path (name ∷ []) short);
              ends = here ∙ ap (λ k. take k path) (sym count) ∙ ends
                  ∙ ap (λ q. q ++ name_of x.1 ∷ []) (ap (λ k. take (k - 1) path) count ∙ sym (take-append-le (length stack - 1) path (name ∷ []) (omega (arith, short))));
            })

    pub opening_next : (new_entered : List Path) (new : List OpenDirectory) → 0 < length new → (IsClosed stack → IsClosed new) → IsClosed new ⊎ (length new ≡ length stack + 1)
        → IsOnWay accepts opens visit done (path ++ name ∷ []) new_entered new → IsOpening new_entered new more
    opening_next new_entered new some stays grows way = record { way = way; some = some; left = by_left opening.left grows }
      where
        by_left : IsClosed stack ⊎ IsListedDown path (length stack - 1) pending → IsClosed new ⊎ (length new ≡ length stack + 1) → IsClosed new ⊎ IsListedDown path (length new - 1) more
        by_left (inl closed) either = inl (stays closed)
        by_left (inr down) (inl closed) = inl closed
        by_left (inr down) (inr longer) = inr (record {
          count = omega (arith, down.count, one_more, longer, opening.some);
          each = λ i d lt. subst (λ (y : Pending). (path_of y.0 ≡ take (length path - i) path) × (take (length path - i) path ≡ take (length path - i - 1) path ++ name_of y.1 ∷ []))
              (ap (λ l. get_or l i d) pops ∙ get_or-append more (x ∷ []) d i lt) (down.each i d (omega (arith, lt, one_more)));
        })

  pub opening_done : (entered : List Path) (stack : List OpenDirectory) (pending : List Pending) → length pending ≡ 0 → IsOpening entered stack pending
      → IsOnWay accepts opens visit done (path ++ name ∷ []) entered stack × IsFull (path ++ name ∷ []) stack
  opening_done entered stack pending none opening = (opening.way, by_left opening.left)
    where
      by_left : IsClosed stack ⊎ IsListedDown path (length stack - 1) pending → IsFull (path ++ name ∷ []) stack
      by_left (inl closed) = inr closed
      by_left (inr down) = inl (omega (arith, down.count, none, opening.some, path_longer))
