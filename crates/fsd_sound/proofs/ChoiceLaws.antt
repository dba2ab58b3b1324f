-- A sound disk shows, however its run wears, one of some page lists, each of which tells a prefix of the changes: the run has
-- finitely many sectors, so it leaves finitely many images, and what they show lies in front of the map.
use Rattle.std.proofs.Common.{◌≡◌, inl, inr, ⊎_elim, ℕ, zero, suc, ◌+◌, ◌≤◌, ◌&&◌, List, [], ◌∷◌, ◌++◌, length, set, Option, Some, None, nat_le, nat_lt, refl, sym, ap, subst, ◌∙◌, arith}
use Rattle.std.specs.Prelude.{IsTrue, Contains, option_and_then}
use Rattle.std.specs.List.{last_or}
use Rattle.std.proofs.lemmas.Bool.{cases_lt, and_parts, and_from, leb-true, ltb-true, le-leb, lt-ltb}
use Rattle.std.proofs.lemmas.List.{length-set, get_or_past, get_or-set_same, get_or-set_other}
use Rattle.std.proofs.lemmas.List.Elements.{Contains-append_left, Contains-append_right, Contains-append_cases}
use Rattle.volume_layout.specs.declared.layout.Layout.{Layout}
use Rattle.volume_layout.specs.Layout.{map_start}
use Rattle.sector_disk.specs.declared.sector.Sector.TheVariants.{Damaged}
use Rattle.sector_disk.specs.declared.sector.WeakRun.{WeakRun}
use Rattle.sector_disk.specs.Image.{sector_at, IsWorn, weak as in_window}
use Rattle.sector_disk.proofs.Calm.{worn_not}
use Rattle.sector_disk.proofs.Wear.{worn_refl}
use Rattle.fsd_table.specs.Table.{Telling, told_in}
use Rattle.fsd_files.specs.Disk.{Image, Sectors, in_runs}
use Rattle.fsd_files.specs.Files.{Change, after}
use Rattle.fsd_sound.specs.Saved.{SavesPages}
use Rattle.fsd_sound.specs.Shown.{shown}
use Rattle.fsd_sound.specs.Sound.{EachBeside, LiesIn, Tells, weak_of, IsSound, ShowsOne}
use Rattle.fsd_sound.specs.Choices.{TellsChoices}
use Rattle.fsd_sound.proofs.CommuteLaws.{same_or}
use Rattle.fsd_sound.proofs.FrontLaws.{SameFront, graft, graft_same, graft_worn, graft_rest, shown_same}
use Rattle.fsd_sound.proofs.MountedLaws.{describes_data, one_of}

-- ---- finitely many images

-- a sector among so many from a first one on
abbrev among : (first count : ℕ) → Sectors
among first count s = nat_le first s && nat_lt s (first + count)

-- the lists, of which P holds, are all that is shown of the images that may be worn so
record Choices (l : Layout) (weak : Sectors) (P : List (List ℕ) → Type 0) (i : Image) : Type 0 where
  lists : List (List (List ℕ))
  each : (pages : List (List ℕ)) → Contains lists pages → P pages
  shows : (j : Image) → IsWorn weak i j → ShowsOne lists (shown l j)

one_more : (xs : List (List (List ℕ))) (ys : List (List (List ℕ))) (o : Option (List (List ℕ))) → ShowsOne xs o → ShowsOne (xs ++ ys) o
one_more xs ys None shows = shows
one_more xs ys (Some pages) shows = Contains-append_left xs ys pages shows

one_behind : (xs : List (List (List ℕ))) (ys : List (List (List ℕ))) (o : Option (List (List ℕ))) → ShowsOne ys o → ShowsOne (xs ++ ys) o
one_behind xs ys None shows = shows
one_behind xs ys (Some pages) shows = Contains-append_right xs ys pages shows

module _ (l : Layout) (P : List (List ℕ) → Type 0) (first : ℕ) where
  none_among : (s : ℕ) → IsTrue (among first 0 s) → ⊥
  none_among s h =
      let parts = and_parts (nat_le first s) (nat_lt s (first + 0)) h in
      let low = leb-true first s parts.0 in
      let high = ltb-true s (first + 0) parts.1 in
      omega arith

  more_among : (n s : ℕ) → IsTrue (among first n s) → IsTrue (among first (suc n) s)
  more_among n s h =
      let parts = and_parts (nat_le first s) (nat_lt s (first + n)) h in
      let high = ltb-true s (first + n) parts.1 in
      and_from _ _ parts.0 (lt-ltb s (first + suc n) (omega arith))

  less_among : (n s : ℕ) → (s ≡ first + n → ⊥) → IsTrue (among first (suc n) s) → IsTrue (among first n s)
  less_among n s other h =
      let parts = and_parts (nat_le first s) (nat_lt s (first + suc n)) h in
      let high = ltb-true s (first + suc n) parts.1 in
      elim (cases_lt s (first + n)) [ inl lt ↦ and_from _ _ parts.0 (lt-ltb s (first + n) lt) | inr ge ↦ absurd (other (omega arith)) ]

  last_among : (n : ℕ) → IsTrue (among first (suc n) (first + n))
  last_among n = and_from _ _ (le-leb first (first + n) (omega arith)) (lt-ltb (first + n) (first + suc n) (omega arith))

  module _ (n : ℕ) (i : Image) where
    at_last : sector_at (set i (first + n) Damaged) (first + n) ≡ Damaged
    at_last = elim (cases_lt (first + n) (length i)) [
      | inl lt ↦ get_or-set_same i (first + n) Damaged Damaged lt
      | inr ge ↦ get_or_past (set i (first + n) Damaged) (first + n) Damaged (omega (arith, length-set i (first + n) Damaged, ge))
    ]

    -- wear of one sector more begins with it whole or damaged
    whole_first : (j : Image) → IsWorn (among first (suc n)) i j → sector_at j (first + n) ≡ sector_at i (first + n) → IsWorn (among first n) i j
    whole_first j w same = record {
      size = w.size;
      each = λ s. ⊎_elim
          (λ here. inl (ap (sector_at j) here ∙ same ∙ ap (sector_at i) (sym here)))
          (λ other. ⊎_elim (λ still. inl still) (λ worn. inr (less_among n s other worn.0, worn.1)) (w.each s)) (same_or s (first + n));
    }

    hurt_first : (j : Image) → IsWorn (among first (suc n)) i j → sector_at j (first + n) ≡ Damaged → IsWorn (among first n) (set i (first + n) Damaged) j
    hurt_first j w damaged = record {
      size = w.size ∙ sym (length-set i (first + n) Damaged);
      each = λ s. ⊎_elim
          (λ here. inl (ap (sector_at j) here ∙ damaged ∙ sym at_last ∙ ap (sector_at (set i (first + n) Damaged)) (sym here)))
          (λ other. ⊎_elim (λ still. inl (still ∙ sym (get_or-set_other i (first + n) s Damaged Damaged other))) (λ worn. inr (less_among n s other worn.0, worn.1)) (w.each s)) (same_or s (first + n));
    }

    worn_whole : (j : Image) → IsWorn (among first n) i j → IsWorn (among first (suc n)) i j
    worn_whole j w = record { size = w.size; each = λ s. ⊎_elim (λ still. inl still) (λ worn. inr (more_among n s worn.0, worn.1)) (w.each s) }

    worn_hurt : (j : Image) → IsWorn (among first n) (set i (first + n) Damaged) j → IsWorn (among first (suc n)) i j
    worn_hurt j w = record {
      size = w.size ∙ length-set i (first + n) Damaged;
      each = λ s. ⊎_elim
          (λ here. inr (
            subst (λ (p : ℕ). IsTrue (among first (suc n) p)) (sym here) (last_among n),
            ap (sector_at j) here ∙ ⊎_elim (λ still. still ∙ at_last) (λ worn. worn.1) (w.each (first + n)),
          ))
          (λ other. ⊎_elim (λ still. inl (still ∙ get_or-set_other i (first + n) s Damaged Damaged other)) (λ worn. inr (more_among n s worn.0, worn.1)) (w.each s)) (same_or s (first + n));
    }

  -- where each image shows pages of which P holds, so many lists are all
  choices_of : (n : ℕ) (i : Image) → ((j : Image) → IsWorn (among first n) i j → (pages : List (List ℕ)) × (shown l j ≡ Some pages) × P pages) → Choices l (among first n) P i
  choices_of zero i each =
      let here = each i (worn_refl (among first 0) i) in
      record {
        lists = here.0 ∷ [];
        each = λ pages chosen. one_of P here.0 pages here.2 chosen;
        shows = λ j w. subst (λ (k : Image). ShowsOne (here.0 ∷ []) (shown l k)) (sym (worn_not (among first 0) i j none_among w)) (subst (ShowsOne (here.0 ∷ [])) (sym here.1) (0, omega arith, refl));
      }
  choices_of (suc n) i each =
      let left = choices_of n i (λ j w. each j (worn_whole n i j w)) in
      let right = choices_of n (set i (first + n) Damaged) (λ j w. each j (worn_hurt n i j w)) in
      record {
        lists = left.lists ++ right.lists;
        each = λ pages chosen. ⊎_elim (left.each pages) (right.each pages) (Contains-append_cases left.lists right.lists pages chosen);
        shows = λ j w. ⊎_elim
            (λ same. one_more left.lists right.lists (shown l j) (left.shows j (whole_first n i j w same)))
            (λ worn. one_behind left.lists right.lists (shown l j) (right.shows j (hurt_first n i j w worn.1))) (w.each (first + n));
      }

-- of the last window's run, if there is one
choices_in : (l : Layout) (P : List (List ℕ) → Type 0) (o : Option WeakRun) (i : Image) → ((j : Image) → IsWorn (in_window o None) i j → (pages : List (List ℕ)) × (shown l j ≡ Some pages) × P pages) → Choices l (in_window o None) P i
choices_in l P (Some run) i each = choices_of l P run.first run.count i each
choices_in l P None i each =
    let here = each i (worn_refl (in_window None None) i) in
    record {
      lists = here.0 ∷ [];
      each = λ pages chosen. one_of P here.0 pages here.2 chosen;
      shows = λ j w. subst (λ (k : Image). ShowsOne (here.0 ∷ []) (shown l k)) (sym (worn_not (in_window None None) i j (λ s h. absurd (cc h)) w)) (subst (ShowsOne (here.0 ∷ [])) (sym here.1) (0, omega arith, refl));
    }

-- ---- what each of them tells of the one image

module _ (l : Layout) (windows : List WeakRun) (h : List Change) (f : ℕ) (i : Image) (room : map_start l ≤ l.sectors) (sound : IsSound l windows h f i) where
  tells_data : (k : Image) → ((s : ℕ) → map_start l ≤ s → sector_at i s ≡ sector_at k s) → (o : Option Telling) → Tells l (in_runs windows) k h f o → Tells l (in_runs windows) i h f o
  tells_data k same None tells = tells
  tells_data k same (Some telling) tells = (tells.0, tells.1, describes_data l (in_runs windows) (after (Rattle.std.specs.Prelude.take tells.0 h)) telling.entries k i (λ s ge. inl (same s ge)) tells.2)

  -- what is told of the one image, and lies in the data area of each layout that a root says
  abbrev IsToldOf : Option Telling → Type 0
  IsToldOf o = Tells l (in_runs windows) i h f o × EachBeside l i (λ k. LiesIn k o)

  -- and what the saved map says
  abbrev IsChosen : List (List ℕ) → Type 0
  IsChosen pages = IsToldOf (told_in pages) × SavesPages l i pages

  shown_of : (j : Image) (o : Option (List (List ℕ))) → IsWorn (weak_of windows) i j → shown l j ≡ o → IsToldOf (option_and_then told_in o) → (pages : List (List ℕ)) × (shown l j ≡ Some pages) × IsChosen pages
  shown_of j None w is tells = absurd tells.0
  shown_of j (Some pages) w is tells = (pages, is, (tells, sound.saved j w pages is))

  -- the front of a worn image before the data of this one
  each_shown : (j : Image) → IsWorn (weak_of windows) i j → (pages : List (List ℕ)) × (shown l j ≡ Some pages) × IsChosen pages
  each_shown j w =
      let long = sound.readable.roots.fits in
      let still : SameFront l i i = λ s lt. refl in
      let k : Image = graft l j i in
      let grafted = graft_worn l (weak_of windows) i i j still (omega arith) long room w in
      let same = shown_same l (graft l j i) j (graft_same l (weak_of windows) i i j still (omega arith) long room w) in
      let tells = tells_data (graft l j i) (λ s ge. sym (graft_rest l (weak_of windows) i i j still (omega arith) long room w s ge)) (option_and_then told_in (shown l (graft l j i))) (sound.tells (graft l j i) grafted) in
      let within : EachBeside l i (λ k. LiesIn k (option_and_then told_in (shown l (graft l j i)))) = λ k beside says. sound.within k beside says (graft l j i) grafted in
      shown_of j (shown l j) w refl (subst (λ (o : Option (List (List ℕ))). IsToldOf (option_and_then told_in o)) (sym same) (tells, within))

  pub shows_choices : TellsChoices l windows h f i
  shows_choices =
      let all = choices_in l IsChosen (last_or None windows) i each_shown in
      record {
        choices = all.lists;
        shows = record { readable = sound.readable; within = λ k beside says pages one. (all.each pages one).0.1 k beside says; shows = all.shows };
        tells = λ pages one. (all.each pages one).0.0;
        saved = λ pages one. (all.each pages one).1;
      }
