-- What is sound stays so however its weak run wears; and what shows pages that tell the changes is sound.
use Rattle.std.proofs.Common.{◌≡◌, ◌⊎◌, ℕ, ◌≤◌, Bool, List, [], ◌∷◌, take, Option, Some, None, refl, sym, subst, ◌∙◌, inl, inr, arith}
use Rattle.std.specs.Prelude.{IsTrue, IfSome, option_and_then, Contains}
use Rattle.std.specs.List.{list_any, last_or}
use Rattle.std.proofs.lemmas.Bool.{or_left, or_right}
use Rattle.volume_layout.specs.declared.layout.Layout.{Layout}
use Rattle.fsd_formats.specs.declared.anchor.Anchor.{Anchor}
use Rattle.fsd_formats.specs.Anchors.{read_anchor}
use Rattle.sector_disk.specs.declared.sector.WeakRun.{WeakRun}
use Rattle.sector_disk.specs.declared.sector.Sector.{Sector}
use Rattle.sector_disk.specs.declared.sector.Sector.TheVariants.{Whole, Damaged}
use Rattle.fsd_files.specs.Disk.{Image, bytes_of, Sectors, in_runs, Within, SectorWorn}
use Rattle.sector_disk.specs.Image.{weak as in_window, sector_at, in_weak_run, IsWorn}
use Rattle.fsd_files.specs.Files.{Change, after}
use Rattle.fsd_sound.specs.Anchors.{EachAnchor}
use Rattle.fsd_table.specs.Table.{Telling, told_in}
use Rattle.fsd_sound.specs.Saved.{SavesPages}
use Rattle.fsd_sound.specs.Shown.{shown}
use Rattle.fsd_sound.specs.Sound.{IfWhole, HasRoots, HasAnchors, IsRootAt, IsRootOf, Tells, weak_of, IsReadable, IsSound, ShowsOne, ShowsPages, is_twin, AllLieIn, LiesIn}
use Rattle.fsd_sound.specs.Windows.{IsNarrow}
use Rattle.sector_disk.proofs.Wear.{worn_trans, worn_whole}
use Rattle.fsd_files.proofs.WearLaws.{kept_still}
use Rattle.fsd_sound.proofs.SaidLaws.{says_worn}
use Rattle.fsd_sound.proofs.SavedLaws.{saves_worn, stays_open, worn_closes}
use Rattle.fsd_sound.proofs.SectorFacts.{whole_or_damaged}

-- ---- roots

-- a sector that was Whole is so still, or it lies in a weak place
still_or_weak : (b : Bool) (x y : Sector) (bytes : List ℕ) → SectorWorn b x y → x ≡ Whole bytes → (y ≡ Whole bytes) ⊎ IsTrue b
still_or_weak b x y bytes (inl e) w = inl (e ∙ w)
still_or_weak b x y bytes (inr d) w = inr d.0

module _ (l : Layout) (weak : Sectors) (narrow : IsNarrow weak) (i j : Image) (w : IsWorn weak i j) where
  -- the other root serves where this one is weak
  other_root : (s : ℕ) → (IsTrue (weak s) → ⊥) → IsTrue (is_twin l s) → (o : Layout) → IfWhole i s (IsRootOf l o) → (IsTrue (is_twin l s) → sector_at i s ≡ Damaged → IsTrue (weak s)) → IsRootAt l o j s
  other_root s strong twin o each damaged =
      elim (whole_or_damaged (sector_at i s)) [
        | inl x ↦ elim (still_or_weak (weak s) (sector_at i s) (sector_at j s) x.0 (w.each s) x.1) [
          | inl e ↦ (x.0, e, each x.0 x.1)
          | inr d ↦ absurd (strong d)
        ]
        | inr d ↦ absurd (strong (damaged twin d))
      ]

  some_root : (h : HasRoots l weak i) → IsRootAt l h.other i 0 ⊎ IsRootAt l h.other i 4 → IsRootAt l h.other j 0 ⊎ IsRootAt l h.other j 4
  some_root h (inl e) =
      elim (still_or_weak (weak 0) (sector_at i 0) (sector_at j 0) e.0 (w.each 0) e.1) [
        | inl f ↦ inl (e.0, f, e.2)
        | inr d ↦ inr (other_root 4 (λ d4. narrow 0 4 (omega arith) d d4) refl h.other h.second (h.twins 4))
      ]
  some_root h (inr e) =
      elim (still_or_weak (weak 4) (sector_at i 4) (sector_at j 4) e.0 (w.each 4) e.1) [
        | inl f ↦ inr (e.0, f, e.2)
        | inr d ↦ inl (other_root 0 (λ d0. narrow 0 4 (omega arith) d0 d) refl h.other h.first (h.twins 0))
      ]

  damaged_before_or_weak : (s : ℕ) (twins : sector_at i s ≡ Damaged → IsTrue (weak s)) → SectorWorn (weak s) (sector_at i s) (sector_at j s) → sector_at j s ≡ Damaged → IsTrue (weak s)
  damaged_before_or_weak s twins (inl e) d = twins (sym e ∙ d)
  damaged_before_or_weak s twins (inr c) d = c.0

  pub roots_still : HasRoots l weak i → HasRoots l weak j
  roots_still h = record {
    planned = h.planned;
    other = h.other;
    beside = h.beside;
    some = some_root h h.some;
    first = λ bytes e. h.first bytes (worn_whole weak i j 0 bytes w e);
    second = λ bytes e. h.second bytes (worn_whole weak i j 4 bytes w e);
    fits = subst (λ n. l.sectors ≤ n) (sym w.size) h.fits;
    twins = λ s twin d. damaged_before_or_weak s (h.twins s twin) (w.each s) d;
  }

  -- and the other layout is the same
  pub still_other : (h : HasRoots l weak i) → (roots_still h).other ≡ h.other
  unfolding roots_still
  still_other h = refl

-- ---- anchors

-- an anchor that is there afterwards was there before
anchor_after : (weak : Bool) (x y : Sector) (P Q : Anchor → Type 0) → SectorWorn weak x y → ((a : Anchor) → P a → Q a)
    → IfSome (option_and_then read_anchor (bytes_of x)) P → IfSome (option_and_then read_anchor (bytes_of y)) Q
anchor_after weak x y P Q (inl e) h p = subst (λ (z : Sector). IfSome (option_and_then read_anchor (bytes_of z)) Q) (sym e) (if_some (option_and_then read_anchor (bytes_of x)) p)
  where
    if_some : (o : Option Anchor) → IfSome o P → IfSome o Q
    if_some None q = tt
    if_some (Some a) q = h a q
anchor_after weak x y P Q (inr d) h p = subst (λ (z : Sector). IfSome (option_and_then read_anchor (bytes_of z)) Q) (sym d.1) tt

pub each_anchor_after : (weak : Sectors) (i j : Image) → IsWorn weak i j → (P Q : Anchor → Type 0) → ((a : Anchor) → P a → Q a) → EachAnchor i P → EachAnchor j Q
each_anchor_after weak i j w P Q h e =
    (anchor_after (weak 8) (sector_at i 8) (sector_at j 8) P Q (w.each 8) h e.0, anchor_after (weak 12) (sector_at i 12) (sector_at j 12) P Q (w.each 12) h e.1)

anchors_still : (l : Layout) (weak : Sectors) (i j : Image) → IsWorn weak i j → HasAnchors l i → HasAnchors l j
anchors_still l weak i j w h = record {
  first = λ bytes e. h.first bytes (worn_whole weak i j 8 bytes w e);
  second = λ bytes e. h.second bytes (worn_whole weak i j 12 bytes w e);
  epochs = each_anchor_after weak i j w _ _ (λ a stamps s in_log bytes e. stamps s in_log bytes (worn_whole weak i j s bytes w e)) h.epochs;
}

-- ---- the whole

readable_still : (l : Layout) (windows : List WeakRun) → IsNarrow (weak_of windows) → (i j : Image) → IsWorn (weak_of windows) i j → IsReadable l windows i → IsReadable l windows j
readable_still l windows narrow i j w h = record {
  borne = h.borne;
  roots = roots_still l (weak_of windows) narrow i j w h.roots;
  either = λ o beside says.
      let was = h.either o beside (says_worn o i j (weak_of windows) w says) in
      record { borne = was.borne; fits = omega (arith, was.fits, w.size); empty = λ is k v. was.empty is k (worn_trans (weak_of windows) i j k w v); opened = λ sized. stays_open i j (worn_closes (weak_of windows) i j w) (was.opened sized) };
  anchors = anchors_still l (weak_of windows) i j w h.anchors;
  log = λ k v. h.log k (worn_trans (weak_of windows) i j k w v);
  homes = λ k v. h.homes k (worn_trans (weak_of windows) i j k w v);
}

pub sound_still : (l : Layout) (windows : List WeakRun) → IsNarrow (weak_of windows) → (h : List Change) (f : ℕ) (i j : Image)
    → IsWorn (weak_of windows) i j → IsSound l windows h f i → IsSound l windows h f j
sound_still l windows narrow h f i j w s = record {
  readable = readable_still l windows narrow i j w s.readable;
  tells = λ k v. s.tells k (worn_trans (weak_of windows) i j k w v);
  within = λ o beside says k v. s.within o beside (says_worn o i j (weak_of windows) w says) k (worn_trans (weak_of windows) i j k w v);
  saved = λ k v pages is. saves_worn l (weak_of windows) i j pages w (s.saved k (worn_trans (weak_of windows) i j k w v) pages is);
}

pub shows_still : (l : Layout) (windows : List WeakRun) → IsNarrow (weak_of windows) → (choices : List (List (List ℕ))) (i j : Image)
    → IsWorn (weak_of windows) i j → ShowsPages l windows choices i → ShowsPages l windows choices j
shows_still l windows narrow choices i j w s = record {
  readable = readable_still l windows narrow i j w s.readable;
  within = λ o beside says. s.within o beside (says_worn o i j (weak_of windows) w says);
  shows = λ k v. s.shows k (worn_trans (weak_of windows) i j k w v);
}

-- ---- soundness from the pages

-- the weak run is one of those where damage may have come
last_is_among : (r : WeakRun) (windows : List WeakRun) (o : Option WeakRun) → last_or o windows ≡ Some r → (windows ≡ []) ⊎ ((s : ℕ) → IsTrue (in_weak_run r s) → IsTrue (in_runs windows s))
last_is_among r [] o e = inl refl
last_is_among r (q ∷ windows) o e =
    elim (last_is_among r windows (Some q) e) [
      | inl empty ↦ inr (λ s t. or_left (in_weak_run q s) (list_any (λ r. in_weak_run r s) windows) (subst (λ (x : WeakRun). IsTrue (in_weak_run x s)) (sym (same_last windows empty e)) t))
      | inr among ↦ inr (λ s t. or_right (in_weak_run q s) (list_any (λ r. in_weak_run r s) windows) (among s t))
    ]
  where
    same_last : (ws : List WeakRun) → ws ≡ [] → last_or (Some q) ws ≡ Some r → q ≡ r
    same_last [] empty e = cc
    same_last (w ∷ ws) empty e = absurd cc

weak_is_hurt : (windows : List WeakRun) (o : Option WeakRun) → last_or None windows ≡ o → (s : ℕ) → IsTrue (in_window o None s) → IsTrue (in_runs windows s)
weak_is_hurt windows None e s weak = absurd cc
weak_is_hurt [] (Some r) e s weak = absurd cc
weak_is_hurt (q ∷ windows) (Some r) e s weak =
    elim (last_is_among r (q ∷ windows) None e) [
      | inl empty ↦ absurd cc
      | inr among ↦ among s weak
    ]

pub weak_within_hurt : (windows : List WeakRun) → Within (weak_of windows) (in_runs windows)
weak_within_hurt windows s weak = weak_is_hurt windows (last_or None windows) refl s weak

-- what the pages tell is a prefix of the changes, and is kept in i
abbrev pub PagesTell : Layout → Sectors → Image → List Change → ℕ → List (List ℕ) → Type 0
PagesTell l hurt i h f pages = Tells l hurt i h f (told_in pages)

tells_still : (l : Layout) (weak hurt : Sectors) (i j : Image) (h : List Change) (f : ℕ) (o : Option Telling) → Within weak hurt → IsWorn weak i j → Tells l hurt i h f o → Tells l hurt j h f o
tells_still l weak hurt i j h f None within w t = t
tells_still l weak hurt i j h f (Some x) within w t =
    (t.0, t.1, record { lists = t.2.lists; apart = t.2.apart; kept = kept_still weak hurt i j (after (take t.0 h)) x.entries within w t.2.kept })

shown_tells : (l : Layout) (hurt : Sectors) (j : Image) (h : List Change) (f : ℕ) (choices : List (List (List ℕ))) (o : Option (List (List ℕ)))
    → ShowsOne choices o → ((pages : List (List ℕ)) → Contains choices pages → PagesTell l hurt j h f pages) → Tells l hurt j h f (option_and_then told_in o)
shown_tells l hurt j h f choices None shows each = absurd shows
shown_tells l hurt j h f choices (Some pages) shows each = each pages shows

-- one that is shown is one of the choices
shown_chosen : (choices : List (List (List ℕ))) (o : Option (List (List ℕ))) (pages : List (List ℕ)) → ShowsOne choices o → o ≡ Some pages → Contains choices pages
shown_chosen choices o pages shows is = subst (ShowsOne choices) is shows

shown_within : (k : Layout) (choices : List (List (List ℕ))) (o : Option (List (List ℕ))) → AllLieIn k choices → ShowsOne choices o → LiesIn k (option_and_then told_in o)
shown_within k choices None each shows = tt
shown_within k choices (Some pages) each shows = each pages shows

pub sound_from_pages : (l : Layout) (windows : List WeakRun) (h : List Change) (f : ℕ) (choices : List (List (List ℕ))) (i : Image)
    → ShowsPages l windows choices i → ((pages : List (List ℕ)) → Contains choices pages → PagesTell l (in_runs windows) i h f pages)
    → ((pages : List (List ℕ)) → Contains choices pages → SavesPages l i pages) → IsSound l windows h f i
sound_from_pages l windows h f choices i shows each saves = record {
  readable = shows.readable;
  tells = λ j w. shown_tells l (in_runs windows) j h f choices (shown l j) (shows.shows j w)
      (λ pages c. tells_still l (weak_of windows) (in_runs windows) i j h f (told_in pages) (weak_within_hurt windows) w (each pages c));
  within = λ k beside says j w. shown_within k choices (shown l j) (shows.within k beside says) (shows.shows j w);
  saved = λ j w pages is. saves pages (shown_chosen choices (shown l j) pages (shows.shows j w) is);
}
