-- Where nothing wears: what the homes have of the pages that an image shows, while they are mended.
use Rattle.std.proofs.Common.{◌≡◌, ◌≢◌, inl, inr, ⊎_elim, ℕ, ◌+◌, ◌<◌, ◌≤◌, List, length, Option, Some, None, refl, sym, ap, subst, ◌∙◌, arith}
use Rattle.std.proofs.lemmas.Option.{same_Some}
use Rattle.std.specs.Option.{option_or}
use Rattle.volume_layout.specs.declared.layout.Layout.{Layout}
use Rattle.volume_layout.specs.Layout.{home_a, home_b}
use Rattle.sector_disk.specs.declared.sector.Sector.TheVariants.{Whole}
use Rattle.sector_disk.specs.Image.{sector_at, with_sector, stand}
use Rattle.sector_disk.specs.Machine.{Moment, Holds}
use Rattle.sector_disk.proofs.Calm.{stand_one}
use Rattle.fsd_log.specs.Images.{last_image}
use Rattle.fsd_log.specs.Scan.{Placed}
use Rattle.fsd_files.specs.Disk.{Image}
use Rattle.fsd_sound.specs.Homes.{home_of}
use Rattle.fsd_sound.specs.declared.fault.MountFault.{MountFault}
use Rattle.fsd_sound.specs.declared.fault.MountFault.TheVariants.{Lost}
use Rattle.fsd_sound.proofs.CommuteLaws.{same_or, with_same, with_other}
use Rattle.log_thirds.specs.Append.{IsCalmNow}
use Rattle.log_thirds.specs.LogValue.{LogValue}
use Rattle.mount_recover.specs.Mending.{IsHomeOf, StaysBut}
use Rattle.mount_recover.specs.Showing.{shows_of, ChangesHome, HasNoRoot, IsShowing, LosesNone, LosesHome}
use Rattle.mount_recover.proofs.CalmLaws.{still_holds, home_same, first_home}
use Rattle.mount_recover.proofs.MendingLaws.{here_or, home_same_page, home_other}

some_none : (x : List ℕ) → Some x ≡ None → ⊥
some_none x is = absurd (cc is)

pub showing_none : (l : Layout) (records : List Placed) (i : Image) (a : ℕ) → a ≡ home_a l 0 → IsShowing l records i a i
showing_none l records i a start = record { front = λ s lt. refl; written = λ page bytes within is before. absurd (omega (arith, before, start)); others = λ page within none. refl }

module _ (l : Layout) (records : List Placed) (first : Image) where
  pub showing_further : (end to : ℕ) (i : Image) → ((page : ℕ) → page < l.pages → home_a l page < to → home_a l page < end) → IsShowing l records first end i → IsShowing l records first to i
  showing_further end to i before at = record { front = at.front; written = λ page bytes within is lt. at.written page bytes within is (before page within lt); others = at.others }

  module _ (page : ℕ) (lt : page < l.pages) (place : ℕ) (home : IsHomeOf l page place) (i : Image) (at : IsShowing l records first place i) where
    -- a home of a page was written
    pub showing_put : (j : Image) (bytes : List ℕ) → last_image page records ≡ Some bytes → ((s : ℕ) → s ≢ place → sector_at j s ≡ sector_at i s) → sector_at j place ≡ Whole bytes → IsShowing l records first (place + 1) j
    showing_put j bytes logged others here = record {
      front = λ s inside. others s (λ is. ⊎_elim (λ a. omega (arith, is, a, inside)) (λ b. omega (arith, is, b, inside)) home) ∙ at.front s inside;
      written = λ p b within is before. ⊎_elim
          (λ less. others (home_a l p) (λ same. omega (arith, same, less)) ∙ at.written p b within is less)
          (λ same.
          let page_is : p ≡ page = home_same_page l p page place within lt (inl (sym same)) home in
          let bytes_is : b ≡ bytes = same_Some b bytes (sym is ∙ ap (λ (k : ℕ). last_image k records) page_is ∙ logged) in
          ap (sector_at j) same ∙ here ∙ ap (λ (x : List ℕ). Whole x) (sym bytes_is))
          (here_or (home_a l p) place before);
      others = λ p within none.
          let other : p ≢ page = λ is. some_none bytes (sym logged ∙ ap (λ (k : ℕ). last_image k records) (sym is) ∙ none) in
          home_same l i j p (others (home_a l p) (home_other l p page place (home_a l p) within lt other (inl refl) home)) (others (home_b l p) (home_other l p page place (home_b l p) within lt other (inr refl) home))
          ∙ at.others p within none;
    }

    -- no record has the page
    pub showing_skip : last_image page records ≡ None → IsShowing l records first (place + 1) i
    showing_skip none = record {
      front = at.front;
      written = λ p b within is before. ⊎_elim (λ less. at.written p b within is less)
          (λ same. absurd (some_none b (sym is ∙ ap (λ (k : ℕ). last_image k records) (home_same_page l p page place within lt (inl (sym same)) home) ∙ none)))
          (here_or (home_a l p) place before);
      others = at.others;
    }

  module _ (n : ℕ) (lt : n < l.pages) (end : ℕ) (i : Image) (at : IsShowing l records first end i) (none : last_image n records ≡ None) where
    -- the page was healed
    pub showing_heal : (j : Image) → ChangesHome l n i j (home_of l i n) → IsShowing l records first end j
    showing_heal j changes = record {
      front = λ s inside. changes.others s (λ e. omega (arith, e, inside)) (λ e. omega (arith, e, inside)) ∙ at.front s inside;
      written = λ p b within is before.
          changes.others (home_a l p) (λ e. some_none b (sym is ∙ ap (λ (k : ℕ). last_image k records) (home_same_page l p n (home_a l p) within lt (inl refl) (inl e)) ∙ none)) (λ e. omega (arith, e, within))
          ∙ at.written p b within is before;
      others = λ p within free. ⊎_elim
          (λ is. subst (λ (k : ℕ). home_of l j k ≡ home_of l first k) (sym is) (changes.is ∙ at.others n lt none))
          (λ other.
          home_same l i j p (changes.others (home_a l p) (λ e. other (omega (arith, e))) (λ e. omega (arith, e, within))) (changes.others (home_b l p) (λ e. omega (arith, e, lt)) (λ e. other (omega (arith, e))))
          ∙ at.others p within free)
          (same_or p n);
    }

    pub loses_so : (fault : MountFault) → LosesHome l n i fault → LosesNone l records first fault
    loses_so (Lost a b) lost = record {
      page = n;
      within = lt;
      first = lost.0.0;
      second = lost.0.1;
      none = ap (λ (o : Option (List ℕ)). option_or o (home_of l first n)) none ∙ sym (at.others n lt none) ∙ lost.1;
    }
    loses_so other lost = tt

  -- all homes are written
  pub shows_all : (i : Image) → IsShowing l records first (home_b l l.pages) i → (page : ℕ) → page < l.pages → home_of l i page ≡ shows_of l records first page
  shows_all i at page lt = by_last (last_image page records) refl
    where
      by_last : (o : Option (List ℕ)) → last_image page records ≡ o → home_of l i page ≡ option_or o (home_of l first page)
      by_last None is = at.others page lt is
      by_last (Some bytes) is = first_home l i page bytes (at.written page bytes lt is (omega (arith, lt)))

-- ---- a write

-- a sector was written, and nothing is worn
module _ (old new : Moment) (still : IsCalmNow old) (place : ℕ) (bytes : List ℕ) (size : length bytes ≡ 512) (holds : Holds old (stand old.image place bytes 1) new) where
  put_is : new.image ≡ with_sector old.image place bytes
  put_is = still_holds old (stand old.image place bytes 1) new still holds ∙ stand_one old.image place bytes size

  pub put_others : (s : ℕ) → s ≢ place → sector_at new.image s ≡ sector_at old.image s
  put_others s other = ap (λ (i : Image). sector_at i s) put_is ∙ with_other old.image place s bytes other

  pub put_here : place < length old.image → sector_at new.image place ≡ Whole bytes
  put_here room = ap (λ (i : Image). sector_at i place) put_is ∙ with_same old.image place bytes room

-- ---- pages and roots

module _ (l : Layout) (log : LogValue) (records : List Placed) (old mid : Moment) (at : IsShowing l records old.image (home_b l l.pages) mid.image) where
  pub roots_kept : HasNoRoot mid.image → HasNoRoot old.image
  roots_kept none = (sym (at.front 0 (omega arith)) ∙ none.0, sym (at.front 4 (omega arith)) ∙ none.1)

  pub all_shown : (new : Moment) → IsCalmNow mid → StaysBut 0 4 mid new → (page : ℕ) → page < l.pages → home_of l new.image page ≡ shows_of l records old.image page
  all_shown new still kept page lt = home_same l mid.image new.image page (same (home_a l page) (omega arith)) (same (home_b l page) (omega arith)) ∙ shows_all l records old.image mid.image at page lt
    where
      same : (s : ℕ) → 8 ≤ s → sector_at new.image s ≡ sector_at mid.image s
      same s from = ⊎_elim (λ is. is) (λ hurt. absurd (cc (still s, hurt.0))) (kept s (λ e. omega (arith, e, from)) (λ e. omega (arith, e, from)))
