-- A mount from `healing` on: pages are written home from the log, one home after another, and the others are healed.
use Rattle.std.proofs.Common.{◌≡◌, ◌≢◌, ◌⊎◌, inl, inr, ⊎_elim, ℕ, zero, suc, ◌+◌, ◌*◌, ◌<◌, ◌≤◌, ◌/◌, List, [], length, get_or, Option, Some, None, refl, sym, ap, subst, ◌∙◌, arith}
use Rattle.std.proofs.lemmas.List.{length-set}
use Rattle.std.proofs.lemmas.Bool.{cases_lt}
use Rattle.volume_layout.specs.declared.layout.Layout.{Layout}
use Rattle.volume_layout.specs.Layout.{home_a, home_b, IsPlanned}
use Rattle.volume_layout.specs.Root.{root_bytes}
use Rattle.volume_layout.proofs.RootLaws.{planned_bounds}
use Rattle.sector_disk.specs.declared.sector.Sector.TheVariants.{Whole}
use Rattle.sector_disk.specs.declared.sector.WeakRun.{WeakRun}
use Rattle.sector_disk.specs.Image.{sector_at, with_sector, stand, IsWorn, open_damage}
use Rattle.sector_disk.specs.Machine.{Moment, Holds, Wears}
use Rattle.sector_disk.proofs.Calm.{stand_one}
use Rattle.sector_disk.proofs.Holding.{holds_now, holds_wears, over_two, holds_on}
use Rattle.sector_disk.proofs.Wear.{worn_whole, stand_other, length-stand, AllWorn-worn}
use Rattle.fsd_log.specs.Images.{last_image}
use Rattle.fsd_files.specs.Disk.{Image, bytes_of}
use Rattle.fsd_sound.specs.Anchors.{EachAnchor}
use Rattle.fsd_sound.specs.Saved.{ClosesNone}
use Rattle.fsd_sound.specs.Shown.{records_by}
use Rattle.fsd_sound.specs.Sound.{ShowsPages, weak_of}
use Rattle.fsd_sound.proofs.SaidLaws.{says_same}
use Rattle.fsd_sound.proofs.SavedLaws.{closes_none}
use Rattle.fsd_sound.proofs.SoundLaws.{shows_still}
use Rattle.fsd_sound.proofs.WindowLaws.{open_is_weak}
use Rattle.log_thirds.specs.LogValue.{LogValue}
use Rattle.twin_home.specs.Home.{WritesPart}
use Rattle.twin_home.specs.Heal.{Mends, Heals, Mended, Healed, HealsRoots, NeedsRoot, RootsHealed}
use Rattle.fsd_sound.specs.Homes.{AreTwins, IsAtHome}
use Rattle.fsd_sound.specs.Logged.{IsLogged}
use Rattle.fsd_sound.specs.Windows.{IsNarrow}
use Rattle.fsd_sound.proofs.CommuteLaws.{with_same, with_other, all_over}
use Rattle.fsd_sound.proofs.WritesLaws.{elsewhere}
use Rattle.fsd_sound.proofs.MendLaws.{logged_shows, mended_shows, rooted_shows, says_rooted}
use Rattle.fsd_sound.proofs.PagesLaws.{home_is, logged_is}
use Rattle.fsd_sound.proofs.AlikeLaws.{each_same, records_same}
use Rattle.mount_recover.specs.Mending.{IsHomeOf, IsCompleted, IsMending, IsMended, SameElsewhere, SaysBut, StaysShown}
use Rattle.volume_layout.proofs.KindLaws.{gap_most}

-- ---- homes

pub home_from : (l : Layout) (page s : ℕ) → IsHomeOf l page s → s < home_a l 0 → ⊥
home_from l page s (inl a) before = omega (arith, a, before)
home_from l page s (inr b) before = omega (arith, b, before)

-- a home is one page's
pub home_same_page : (l : Layout) (page n s : ℕ) → page < l.pages → n < l.pages → IsHomeOf l page s → IsHomeOf l n s → page ≡ n
home_same_page l page n s within lt (inl a) (inl b) = omega (arith, a, b)
home_same_page l page n s within lt (inl a) (inr b) = absurd (omega (arith, a, b, within, lt))
home_same_page l page n s within lt (inr a) (inl b) = absurd (omega (arith, a, b, within, lt))
home_same_page l page n s within lt (inr a) (inr b) = omega (arith, a, b)

-- so another page's home is another sector
pub home_other : (l : Layout) (page n s p : ℕ) → page < l.pages → n < l.pages → page ≢ n → IsHomeOf l page p → IsHomeOf l n s → p ≢ s
home_other l page n s p within lt other at place same = other (home_same_page l page n s within lt (subst (IsHomeOf l page) same at) place)

-- the homes of the pages follow each other
pub home_next : (l : Layout) (start page : ℕ) → IsHomeOf l 0 start → IsHomeOf l page (start + page)
home_next l start page (inl a) = inl (omega (arith, a))
home_next l start page (inr b) = inr (omega (arith, b))

-- between the first homes and the second lies no home
pub no_home_between : (l : Layout) (a b page s : ℕ) → a ≡ home_a l 0 → b ≡ home_b l 0 → page < l.pages → IsHomeOf l page s → s < b → s < a + l.pages
no_home_between l a b page s is_a is_b within (inl here) before = omega (arith, here, is_a, within)
no_home_between l a b page s is_a is_b within (inr here) before = absurd (omega (arith, here, is_b, before))

-- a home lies on the disk
pub home_inside : (l : Layout) (page s : ℕ) → IsPlanned l → page < l.pages → IsHomeOf l page s → s < l.sectors
home_inside l page s planned lt home = let bounds = planned_bounds l planned in ⊎_elim (λ a. omega (arith, a, lt, bounds.sectors_least)) (λ b. omega (arith, b, lt, bounds.sectors_least)) home

-- what is written of a page is one sector
pub one_sector : (bytes : List ℕ) → length bytes ≡ 512 → length bytes / 512 ≡ 1
one_sector bytes size = omega (arith, size)

-- a sector that is no home of a page
pub not_home : (l : Layout) (n s p : ℕ) → IsHomeOf l n s → p ≢ home_a l n → p ≢ home_b l n → p ≢ s
not_home l n s p place a b same = ⊎_elim (λ here. a (same ∙ here)) (λ here. b (same ∙ here)) place

-- what is before the next sector is before this one, or it is it
pub here_or : (p s : ℕ) → p < s + 1 → (p < s) ⊎ (p ≡ s)
here_or p s lt = ⊎_elim (λ before. inl before) (λ past. inr (omega (arith, past, lt))) (cases_lt p s)

-- ---- moments

-- where the anchors are as they were none has closed
pub closes_same : (i j : Image) → sector_at j 8 ≡ sector_at i 8 → sector_at j 12 ≡ sector_at i 12 → ClosesNone i j
closes_same i j first second = closes_none i j (λ bytes there. ap bytes_of (sym first) ∙ there) (λ bytes there. ap bytes_of (sym second) ∙ there)

closes_front : (i j : Image) (end : ℕ) → ((s : ℕ) → s < 16 + end → sector_at j s ≡ sector_at i s) → ClosesNone i j
closes_front i j end front = closes_same i j (front 8 (omega arith)) (front 12 (omega arith))

-- and the roots
says_front : (l : Layout) (i j : Image) (end : ℕ) → ((s : ℕ) → s < 16 + end → sector_at j s ≡ sector_at i s) → SaysBut l i j
says_front l i j end front k says = inl (says_same k i j (λ s low. front s (omega (arith, low))) says)

-- a home is written, so the log stays
pub logged_on : (l : Layout) (weak : ℕ → Rattle.std.specs.Prelude.Bool) (page s : ℕ) (bytes : List ℕ) (i : Image) → s < length i → 16 + 3 * l.third ≤ s → IsLogged l weak page i → IsLogged l weak page (with_sector i s bytes)
logged_on l weak page s bytes i room behind logged =
    all_over weak (λ k. EachAnchor k (λ a. last_image page (records_by l k a) ≡ None → ⊥)) i s bytes room logged
    (λ k worn there each. each_same l k (with_sector k s bytes) (λ p from lt. with_other k s p bytes (λ e. omega (arith, e, lt, behind)))
    (λ a. last_image page (records_by l k a) ≡ None → ⊥) (λ a. last_image page (records_by l (with_sector k s bytes) a) ≡ None → ⊥)
    (λ a low out none. out (ap (last_image page) (sym (records_same l k (with_sector k s bytes) (λ p from lt. with_other k s p bytes (λ e. omega (arith, e, lt, behind))) a low)) ∙ none)) each)

pub not_none : (o : Option (List ℕ)) (x : List ℕ) → o ≡ Some x → o ≡ None → ⊥
not_none o x is none = absurd (cc (is, none))

module _ (l : Layout) (windows : List WeakRun) (choices : List (List (List ℕ))) (log : LogValue) (first : Moment) (c : IsCompleted l windows choices log first) where
  pub narrow : IsNarrow (weak_of windows)
  narrow s t far a b = c.apart s t (omega (arith, far, gap_most l)) a b

  pub weaker : (i j : Image) → IsWorn (open_damage first.windows) i j → IsWorn (weak_of windows) i j
  weaker i j w = open_is_weak first.windows windows i j c.ends w

  pub stays_show : (left : Moment) → StaysShown l windows choices first left → ShowsPages l windows choices left.image
  stays_show left at = shows_still l windows narrow choices at.image left.image (weaker at.image left.image at.holds.worn) at.shows

  begin : IsMending l windows choices log first c (home_a l 0) 0 first
  begin = record {
    image = first.image;
    holds = holds_now first;
    shows = shows_still l windows narrow choices c.clean first.image c.worn c.shows;
    logged = λ page h. AllWorn-worn (weak_of windows) (λ k. EachAnchor k (λ a. last_image page (records_by l k a) ≡ None → ⊥)) c.clean first.image c.worn (c.logged page h);
    written = λ page s within has home before. absurd (home_from l page s home before);
    healed = λ page lt. absurd (omega (arith, lt));
    front = λ s lt. refl;
    left = λ page le lt none. (refl, refl);
    rest = λ s out. refl;
  }

  pub logged_same : (n : ℕ) → n < l.pages → (bytes : List ℕ) → last_image n (records_by l c.clean log.anchor) ≡ Some bytes → bytes ≡ get_or c.pages n []
  logged_same n lt bytes last = logged_is l c.clean log.anchor c.taken c.pages c.shown n lt bytes last

  -- how many pages are mended may be told otherwise
  pub further : (end to n : ℕ) (now : Moment) → ((page s : ℕ) → page < l.pages → IsHomeOf l page s → s < to → s < end) → IsMending l windows choices log first c end n now → IsMending l windows choices log first c to n now
  further end to n now before at = record {
    image = at.image;
    holds = at.holds;
    shows = at.shows;
    logged = at.logged;
    written = λ page s within has home lt. at.written page s within has home (before page s within home lt);
    healed = at.healed;
    front = at.front;
    left = at.left;
    rest = at.rest;
  }

  pub begin_at : (a : ℕ) → a ≡ home_a l 0 → IsMending l windows choices log first c a 0 first
  begin_at a is = subst (λ (k : ℕ). IsMending l windows choices log first c k 0 first) (sym is) begin

  -- all first homes are written, so it goes on with the second
  pub to_second : (a b : ℕ) (now : Moment) → a ≡ home_a l 0 → b ≡ home_b l 0 → IsMending l windows choices log first c (a + l.pages) 0 now → IsMending l windows choices log first c b 0 now
  to_second a b now is_a is_b at = further (a + l.pages) b 0 now (λ page s within home before. no_home_between l a b page s is_a is_b within home before) at

  -- all homes are written
  pub to_others : (b : ℕ) (now : Moment) → b ≡ home_b l 0 → IsMending l windows choices log first c (b + l.pages) 0 now → IsMending l windows choices log first c (home_b l l.pages) 0 now
  to_others b now is at = further (b + l.pages) (home_b l l.pages) 0 now (λ page s within home before. omega (arith, is, before)) at

  module _ (end n : ℕ) (now : Moment) (at : IsMending l windows choices log first c end n now) where
    pub still : (left : Moment) → Wears now left → IsMending l windows choices log first c end n left
    still left wears = record {
      image = at.image;
      holds = holds_wears first at.image now left at.holds wears;
      shows = at.shows;
      logged = at.logged;
      written = at.written;
      healed = at.healed;
      front = at.front;
      left = at.left;
      rest = at.rest;
    }

    pub stays : (left : Moment) → Wears now left → StaysShown l windows choices first left
    stays left wears = record { image = at.image; holds = holds_wears first at.image now left at.holds wears; shows = at.shows; log = λ s from inside. at.front s inside; closes = closes_front first.image at.image (3 * l.third) at.front; says = says_front l first.image at.image (3 * l.third) at.front; rest = at.rest }

    long : home_b l l.pages ≤ length at.image
    long = let bounds = planned_bounds l c.planned in omega (arith, bounds.third_least, bounds.sectors_least, at.shows.readable.roots.fits)

    holds_same : (left : Moment) → Holds now now.image left → Holds first at.image left
    holds_same left holds = holds_wears first at.image now left at.holds (record { image = holds.worn; windows = holds.windows; said = holds.said })

    whole_at : (s : ℕ) (bytes : List ℕ) → sector_at now.image s ≡ Whole bytes → sector_at at.image s ≡ Whole bytes
    whole_at s bytes whole = worn_whole (open_damage first.windows) at.image now.image s bytes at.holds.worn whole

    -- ---- of a page a home was written, and nothing else

    module _ (page : ℕ) (lt : page < l.pages) (s : ℕ) (place : IsHomeOf l page s) where
      record Part (e : Image) : Type 0 where
        size : length e ≡ length at.image
        shows : ShowsPages l windows choices e
        logged : (p : ℕ) → (last_image p (records_by l c.clean log.anchor) ≡ None → ⊥) → IsLogged l (weak_of windows) p e
        others : (p : ℕ) → p ≢ s → sector_at e p ≡ sector_at at.image p

      part_here : Part at.image
      part_here = record { size = refl; shows = at.shows; logged = at.logged; others = λ p other. refl }

      home_room : (s < length at.image) × (16 + 3 * l.third ≤ s)
      home_room = ⊎_elim (λ here. (omega (arith, long, here, lt), omega (arith, here))) (λ here. (omega (arith, long, here, lt), omega (arith, here))) place

      part_on : (bytes : List ℕ) → ShowsPages l windows choices (with_sector at.image s bytes) → Part (with_sector at.image s bytes)
      part_on bytes shows = record {
        size = length-set at.image s (Whole bytes);
        shows = shows;
        logged = λ p h. logged_on l (weak_of windows) p s bytes at.image home_room.0 home_room.1 (at.logged p h);
        others = λ p other. with_other at.image s p bytes other;
      }

      part_stood : (bytes : List ℕ) → length bytes ≡ 512 → Part (with_sector at.image s bytes) → (k : ℕ) → k ≤ 1 → Part (stand at.image s bytes k)
      part_stood bytes size part zero once = part_here
      part_stood bytes size part (suc zero) once = subst Part (sym (stand_one at.image s bytes size)) part
      part_stood bytes size part (suc (suc k)) once = absurd (omega (arith, once))

      part_stays : (e : Image) → Part e → (left : Moment) → Holds first e left → StaysShown l windows choices first left
      part_stays e part left holds = record {
        image = e;
        holds = holds;
        shows = part.shows;
        log = λ p from inside. part.others p (λ is. omega (arith, is, inside, home_room.1)) ∙ at.front p inside;
        closes = closes_front first.image e (3 * l.third) (λ p inside. part.others p (λ is. omega (arith, is, inside, home_room.1)) ∙ at.front p inside);
        says = says_front l first.image e (3 * l.third) (λ p inside. part.others p (λ is. omega (arith, is, inside, home_room.1)) ∙ at.front p inside);
        rest = λ p out. let is = elsewhere l p out in part.others p (not_home l page s p place (is.home page lt) (is.home_copy page lt)) ∙ at.rest p out;
      }

      -- another page's homes are as they were
      part_home : (e : Image) → Part e → (p q : ℕ) → p < l.pages → p ≢ page → IsHomeOf l p q → sector_at e q ≡ sector_at at.image q
      part_home e part p q within other home = part.others q (home_other l p page s q within lt other home place)

      part_front : (e : Image) → Part e → (p : ℕ) → p < 16 + 3 * l.third → sector_at e p ≡ sector_at first.image p
      part_front e part p inside = part.others p (λ is. omega (arith, is, inside, home_room.1)) ∙ at.front p inside

      part_rest : (e : Image) → Part e → SameElsewhere l first.image e
      part_rest e part p out = let is = elsewhere l p out in part.others p (not_home l page s p place (is.home page lt) (is.home_copy page lt)) ∙ at.rest p out

      -- ---- from the log

      module _ (bytes : List ℕ) (size : length bytes ≡ 512) (has : last_image page (records_by l c.clean log.anchor) ≡ None → ⊥) where
        put_part : Part (with_sector at.image s bytes)
        put_part = part_on bytes (logged_shows l (weak_of windows) choices page s bytes lt place windows refl narrow at.image home_room.0 (at.logged page has) at.shows)

        pub put_stays : (left : Moment) → WritesPart s bytes now left → StaysShown l windows choices first left
        put_stays left part = part_stays (stand at.image s bytes part.stood) (part_stood bytes size put_part part.stood part.within) left (holds_on first now left at.image s bytes part.stood at.holds part.holds)

        -- another page is one that the log does not have
        other_page : (p : ℕ) → last_image p (records_by l c.clean log.anchor) ≡ None → p ≢ page
        other_page p none same = has (ap (λ (k : ℕ). last_image k (records_by l c.clean log.anchor)) (sym same) ∙ none)

        pub put_next : end ≡ s → bytes ≡ get_or c.pages page [] → (new : Moment) → Holds now (stand now.image s bytes 1) new → IsMending l windows choices log first c (s + 1) n new
        put_next here same new holds =
            let e : Image = with_sector at.image s bytes in
            let last : Holds first (stand at.image s bytes 1) new = holds_on first now new at.image s bytes 1 at.holds holds in
            record {
              image = with_sector at.image s bytes;
              holds = subst (λ (i : Image). Holds first i new) (stand_one at.image s bytes size) last;
              shows = put_part.shows;
              logged = put_part.logged;
              written = λ p q within logged home before. ⊎_elim
                  (λ less. put_part.others q (λ is. omega (arith, is, less)) ∙ at.written p q within logged home (omega (arith, less, here)))
                  (λ is.
                  let page_is : p ≡ page = home_same_page l p page s within lt (subst (IsHomeOf l p) is home) place in
                  ap (sector_at (with_sector at.image s bytes)) is ∙ with_same at.image s bytes home_room.0 ∙ ap (λ (b : List ℕ). Whole b) same ∙ ap (λ (k : ℕ). Whole (get_or c.pages k [])) (sym page_is))
                  (here_or q s before);
              healed = λ p le within none. let old = at.healed p le within none in (
                part_home e put_part p (home_a l p) within (other_page p none) (inl refl) ∙ old.0,
                part_home e put_part p (home_b l p) within (other_page p none) (inr refl) ∙ old.1,
              );
              front = part_front e put_part;
              left = λ p le within none. let old = at.left p le within none in (
                part_home e put_part p (home_a l p) within (other_page p none) (inl refl) ∙ old.0,
                part_home e put_part p (home_b l p) within (other_page p none) (inr refl) ∙ old.1,
              );
              rest = part_rest e put_part;
            }

      -- a page that no record has is not written
      pub put_none : end ≡ s → last_image page (records_by l c.clean log.anchor) ≡ None → IsMending l windows choices log first c (s + 1) n now
      put_none here none = record {
        image = at.image;
        holds = at.holds;
        shows = at.shows;
        logged = at.logged;
        written = λ p q within logged home before. ⊎_elim
            (λ less. at.written p q within logged home (omega (arith, less, here)))
            (λ is. absurd (logged (ap (λ (k : ℕ). last_image k (records_by l c.clean log.anchor)) (home_same_page l p page s within lt (subst (IsHomeOf l p) is home) place) ∙ none)))
            (here_or q s before);
        healed = at.healed;
        front = at.front;
        left = at.left;
        rest = at.rest;
      }

      -- ---- from its twin

      module _ (twin : ℕ) (twins : AreTwins l page s twin) (bytes : List ℕ) (whole : sector_at at.image twin ≡ Whole bytes) where
        twin_room : twin < length at.image
        twin_room = ⊎_elim (λ is. omega (arith, long, is.1, lt)) (λ is. omega (arith, long, is.1, lt)) twins

        mended_part : Part (with_sector at.image s bytes)
        mended_part = part_on bytes (mended_shows l windows narrow choices page s twin lt twins at.image bytes whole home_room.0 twin_room at.shows)

    mends_stay : (page : ℕ) → page < l.pages → (place twin : ℕ) → IsHomeOf l page place → AreTwins l page place twin → (left : Moment) → Mends place twin now left → StaysShown l windows choices first left
    mends_stay page lt place twin home twins left mends =
        part_stays page lt place home (stand at.image place mends.bytes mends.part.stood)
        (part_stood page lt place home mends.bytes mends.long (mended_part page lt place home twin twins mends.bytes (whole_at twin mends.bytes mends.whole)) mends.part.stood mends.part.within) left
        (holds_on first now left at.image place mends.bytes mends.part.stood at.holds mends.part.holds)

    pub heals_stay : (page : ℕ) → page < l.pages → (left : Moment) → Heals (home_a l page) (home_b l page) now left → StaysShown l windows choices first left
    heals_stay page lt left (inl holds) = part_stays page lt (home_a l page) (inl refl) at.image (part_here page lt (home_a l page) (inl refl)) left (holds_same left holds)
    heals_stay page lt left (inr (inl mends)) = mends_stay page lt (home_a l page) (home_b l page) (inl refl) (inl (refl, refl)) left mends
    heals_stay page lt left (inr (inr mends)) = mends_stay page lt (home_b l page) (home_a l page) (inr refl) (inr (refl, refl)) left mends

    -- a page that the log has is not healed
    pub heal_skips : (last_image n (records_by l c.clean log.anchor) ≡ None → ⊥) → IsMending l windows choices log first c end (n + 1) now
    heal_skips has = record {
      image = at.image;
      holds = at.holds;
      shows = at.shows;
      logged = at.logged;
      written = at.written;
      healed = λ p le within none. ⊎_elim (λ before. at.healed p before within none) (λ is. absurd (has (ap (λ (k : ℕ). last_image k (records_by l c.clean log.anchor)) (sym is) ∙ none))) (here_or p n le);
      front = at.front;
      left = λ p le within none. at.left p (omega (arith, le)) within none;
      rest = at.rest;
    }

    -- a page that no record has is shown by each home
    module _ (lt : n < l.pages) (none : last_image n (records_by l c.clean log.anchor) ≡ None) where
      home_bytes : (bytes : List ℕ) → (sector_at at.image (home_a l n) ≡ Whole bytes) ⊎ (sector_at at.image (home_b l n) ≡ Whole bytes) → bytes ≡ get_or c.pages n []
      home_bytes bytes stands =
          let same = at.left n (omega arith) lt none in
          home_is l c.clean log.anchor c.taken c.pages c.shown n lt windows choices c.shows none bytes
          (⊎_elim (λ a. inl (worn_whole (weak_of windows) c.clean first.image (home_a l n) bytes c.worn (sym same.0 ∙ a))) (λ b. inr (worn_whole (weak_of windows) c.clean first.image (home_b l n) bytes c.worn (sym same.1 ∙ b))) stands)

      -- one home was written at most, and both have the page
      healed_next : (s : ℕ) (place : IsHomeOf l n s) (e : Image) → Part n lt s place e → (new : Moment) → Holds first e new → IsAtHome l e n (get_or c.pages n []) → IsMending l windows choices log first c end (n + 1) new
      healed_next s place e part new holds home = record {
        image = e;
        holds = holds;
        shows = part.shows;
        logged = part.logged;
        written = λ p q within logged at_home before.
            part_home n lt s place e part p q within (λ is. logged (ap (λ (k : ℕ). last_image k (records_by l c.clean log.anchor)) is ∙ none)) at_home ∙ at.written p q within logged at_home before;
        healed = λ p le within free. ⊎_elim
            (λ before. let old = at.healed p before within free in (
              part_home n lt s place e part p (home_a l p) within (λ is. omega (arith, is, before)) (inl refl) ∙ old.0,
              part_home n lt s place e part p (home_b l p) within (λ is. omega (arith, is, before)) (inr refl) ∙ old.1,
            ))
            (λ is. subst (λ (k : ℕ). IsAtHome l e k (get_or c.pages k [])) (sym is) home)
            (here_or p n le);
        front = part_front n lt s place e part;
        left = λ p le within free. let old = at.left p (omega (arith, le)) within free in (
          part_home n lt s place e part p (home_a l p) within (λ is. omega (arith, is, le)) (inl refl) ∙ old.0,
          part_home n lt s place e part p (home_b l p) within (λ is. omega (arith, is, le)) (inr refl) ∙ old.1,
        );
        rest = part_rest n lt s place e part;
      }

      mended_next : (place twin : ℕ) → IsHomeOf l n place → (twins : AreTwins l n place twin) (new : Moment) → Mended place twin now new → IsMending l windows choices log first c end (n + 1) new
      mended_next place twin at_home twins new mended =
          let whole = whole_at twin mended.bytes mended.whole in
          let holds : Holds first (stand at.image place mended.bytes 1) new = holds_on first now new at.image place mended.bytes 1 at.holds mended.stands in
          healed_next place at_home (with_sector at.image place mended.bytes) (mended_part n lt place at_home twin twins mended.bytes whole) new (subst (λ (i : Image). Holds first i new) (stand_one at.image place mended.bytes mended.long) holds)
          (by_twins place twin mended.bytes at_home whole twins)
        where
          by_twins : (place twin : ℕ) (bytes : List ℕ) → IsHomeOf l n place → sector_at at.image twin ≡ Whole bytes → AreTwins l n place twin → IsAtHome l (with_sector at.image place bytes) n (get_or c.pages n [])
          by_twins place twin bytes at_home whole (inl is) =
              let here : sector_at at.image (home_b l n) ≡ Whole bytes = ap (sector_at at.image) (sym is.1) ∙ whole in
              let same : bytes ≡ get_or c.pages n [] = home_bytes bytes (inr here) in
              let room = home_room n lt place at_home in
              subst (λ (b : List ℕ). IsAtHome l (with_sector at.image place bytes) n b) same
              (ap (sector_at (with_sector at.image place bytes)) (sym is.0) ∙ with_same at.image place bytes room.0, with_other at.image place (home_b l n) bytes (λ e. omega (arith, e, is.0, lt)) ∙ here)
          by_twins place twin bytes at_home whole (inr is) =
              let here : sector_at at.image (home_a l n) ≡ Whole bytes = ap (sector_at at.image) (sym is.1) ∙ whole in
              let same : bytes ≡ get_or c.pages n [] = home_bytes bytes (inl here) in
              let room = home_room n lt place at_home in
              subst (λ (b : List ℕ). IsAtHome l (with_sector at.image place bytes) n b) same
              (with_other at.image place (home_a l n) bytes (λ e. omega (arith, e, is.0, lt)) ∙ here, ap (sector_at (with_sector at.image place bytes)) (sym is.0) ∙ with_same at.image place bytes room.0)

      pub heals_next : (count : ℕ) (new : Moment) → Healed (home_a l n) (home_b l n) count now new → IsMending l windows choices log first c end (n + 1) new
      heals_next count new (inl (zero_is, a, b, holds)) =
          let first_is = whole_at (home_a l n) a.0 a.1 in
          let second_is = whole_at (home_b l n) b.0 b.1 in
          healed_next (home_a l n) (inl refl) at.image (part_here n lt (home_a l n) (inl refl)) new (holds_same new holds)
          (first_is ∙ ap (λ (x : List ℕ). Whole x) (home_bytes a.0 (inl first_is)), second_is ∙ ap (λ (x : List ℕ). Whole x) (home_bytes b.0 (inr second_is)))
      heals_next count new (inr (one_is, inl mended)) = mended_next (home_a l n) (home_b l n) (inl refl) (inl (refl, refl)) new mended
      heals_next count new (inr (one_is, inr mended)) = mended_next (home_b l n) (home_a l n) (inr refl) (inr (refl, refl)) new mended

-- ---- the roots

module _ (l : Layout) (windows : List WeakRun) (choices : List (List (List ℕ))) (log : LogValue) (first : Moment) (c : IsCompleted l windows choices log first) (now : Moment) (at : IsMending l windows choices log first c (home_b l l.pages) l.pages now) where
  -- each page has its homes, from the log or from a twin
  all_home : (page : ℕ) → page < l.pages → IsAtHome l at.image page (get_or c.pages page [])
  all_home page lt = by_last (last_image page (records_by l c.clean log.anchor)) refl
    where
      by_last : (o : Option (List ℕ)) → last_image page (records_by l c.clean log.anchor) ≡ o → IsAtHome l at.image page (get_or c.pages page [])
      by_last None is = at.healed page lt lt is
      by_last (Some bytes) is = (at.written page (home_a l page) lt (not_none _ bytes is) (inl refl) (omega (arith, lt)), at.written page (home_b l page) lt (not_none _ bytes is) (inr refl) (omega (arith, lt)))

  root_long : length (root_bytes l) ≡ 512
  root_long = refl

  root_room : 16 + 3 * l.third ≤ length at.image
  root_room = let bounds = planned_bounds l c.planned in omega (arith, bounds.third_least, bounds.sectors_least, at.shows.readable.roots.fits)

  record Rooted (e : Image) : Type 0 where
    size : length e ≡ length at.image
    shows : ShowsPages l windows choices e
    others : (p : ℕ) → p ≢ 0 → p ≢ 4 → sector_at e p ≡ sector_at at.image p
    says : SaysBut l first.image e

  rooted_here : Rooted at.image
  rooted_here = record { size = refl; shows = at.shows; others = λ p a b. refl; says = says_front l first.image at.image (3 * l.third) at.front }

  rooted_on : (e : Image) → Rooted e → (s : ℕ) → (s ≡ 0) ⊎ (s ≡ 4) → Rooted (with_sector e s (root_bytes l))
  rooted_on e rooted s place =
      let room : s < length e = ⊎_elim (λ is. omega (arith, is, root_room, rooted.size)) (λ is. omega (arith, is, root_room, rooted.size)) place in
      record {
        size = length-set e s (Whole (root_bytes l)) ∙ rooted.size;
        shows = rooted_shows l windows (narrow l windows choices log first c) choices s e place room rooted.shows;
        others = λ p a b. with_other e s p (root_bytes l) (λ is. ⊎_elim (λ here. a (is ∙ here)) (λ here. b (is ∙ here)) place) ∙ rooted.others p a b;
        says = λ k says. ⊎_elim (rooted.says k) inr (says_rooted e s (root_bytes l) room k says);
      }

  rooted_some : (e : Image) → Rooted e → (s : ℕ) → (s ≡ 0) ⊎ (s ≡ 4) → (k : ℕ) → k ≤ 1 → Rooted (stand e s (root_bytes l) k)
  rooted_some e rooted s place zero once = rooted
  rooted_some e rooted s place (suc zero) once = subst Rooted (sym (stand_one e s (root_bytes l) root_long)) (rooted_on e rooted s place)
  rooted_some e rooted s place (suc (suc k)) once = absurd (omega (arith, once))

  rooted_two : (j k : ℕ) → j ≤ 1 → k ≤ 1 → Rooted (stand (stand at.image 0 (root_bytes l) j) 4 (root_bytes l) k)
  rooted_two j k once twice = rooted_some (stand at.image 0 (root_bytes l) j) (rooted_some at.image rooted_here 0 (inl refl) j once) 4 (inr refl) k twice

  pub roots_stay : (left : Moment) → HealsRoots (root_bytes l) now left → StaysShown l windows choices first left
  roots_stay left roots =
      let is = rooted_two roots.first roots.second roots.once roots.once_more in
      record {
        image = stand (stand at.image 0 (root_bytes l) roots.first) 4 (root_bytes l) roots.second;
        holds = over_two first now left at.image 0 4 (root_bytes l) roots.first roots.second at.holds roots.holds;
        shows = is.shows;
        log = λ s from inside. is.others s (λ e. omega (arith, e, from)) (λ e. omega (arith, e, from)) ∙ at.front s inside;
        closes = closes_same first.image (stand (stand at.image 0 (root_bytes l) roots.first) 4 (root_bytes l) roots.second)
            (is.others 8 (λ e. omega (arith, e)) (λ e. omega (arith, e)) ∙ at.front 8 (omega arith)) (is.others 12 (λ e. omega (arith, e)) (λ e. omega (arith, e)) ∙ at.front 12 (omega arith));
        says = is.says;
        rest = λ s out. let other = elsewhere l s out in is.others s other.root other.root_copy ∙ at.rest s out;
      }

  -- a root that needs nothing stands
  root_stands : (s k : ℕ) → s < length at.image → NeedsRoot k s (root_bytes l) now → (k ≤ 1) × (sector_at (stand at.image s (root_bytes l) k) s ≡ Whole (root_bytes l))
  root_stands s k room (inl is) = (
    omega (arith, is.0),
    (λ u. sector_at (stand at.image s (root_bytes l) (is.0 u)) s) ∙ worn_whole (open_damage first.windows) at.image now.image s (root_bytes l) at.holds.worn is.1,
  )
  root_stands s k room (inr is) = (
    omega (arith, is.0),
    (λ u. sector_at (stand at.image s (root_bytes l) (is.0 u)) s) ∙ ap (λ (i : Image). sector_at i s) (stand_one at.image s (root_bytes l) root_long) ∙ with_same at.image s (root_bytes l) room,
  )

  pub roots_done : (count : ℕ) (new : Moment) → RootsHealed (root_bytes l) count now new → IsMended l windows choices log first c new
  roots_done count new healed =
      let one = root_stands 0 healed.first (omega (arith, root_room)) healed.needs_first in
      let two = root_stands 4 healed.second (omega (arith, root_room)) healed.needs_second in
      let is = rooted_two healed.first healed.second one.0 two.0 in
      let e : Image = stand (stand at.image 0 (root_bytes l) healed.first) 4 (root_bytes l) healed.second in
      record {
        image = stand (stand at.image 0 (root_bytes l) healed.first) 4 (root_bytes l) healed.second;
        holds = over_two first now new at.image 0 4 (root_bytes l) healed.first healed.second at.holds healed.holds;
        shows = is.shows;
        done = λ page lt. let old = all_home page lt in (
          is.others (home_a l page) (λ e. omega (arith, e)) (λ e. omega (arith, e)) ∙ old.0,
          is.others (home_b l page) (λ e. omega (arith, e)) (λ e. omega (arith, e)) ∙ old.1,
        );
        root = stand_other (stand at.image 0 (root_bytes l) healed.first) 4 (root_bytes l) healed.second 0 (inl (omega arith)) ∙ one.1;
        root_copy = by_second healed.second healed.needs_second two.1;
        body = λ s from inside. is.others s (λ e. omega (arith, e, from)) (λ e. omega (arith, e, from)) ∙ at.front s inside;
        rest = λ s out. let other = elsewhere l s out in is.others s other.root other.root_copy ∙ at.rest s out;
      }
    where
      by_second : (k : ℕ) → NeedsRoot k 4 (root_bytes l) now → sector_at (stand at.image 4 (root_bytes l) k) 4 ≡ Whole (root_bytes l)
          → sector_at (stand (stand at.image 0 (root_bytes l) healed.first) 4 (root_bytes l) k) 4 ≡ Whole (root_bytes l)
      by_second k (inl none) stands =
          (λ u. sector_at (stand (stand at.image 0 (root_bytes l) healed.first) 4 (root_bytes l) (none.0 u)) 4)
          ∙ stand_other at.image 0 (root_bytes l) healed.first 4 (inr (omega (arith, (root_stands 0 healed.first (omega (arith, root_room)) healed.needs_first).0)))
          ∙ worn_whole (open_damage first.windows) at.image now.image 4 (root_bytes l) at.holds.worn none.1
      by_second k (inr some) stands =
          (λ u. sector_at (stand (stand at.image 0 (root_bytes l) healed.first) 4 (root_bytes l) (some.0 u)) 4)
          ∙ ap (λ (i : Image). sector_at i 4) (stand_one (stand at.image 0 (root_bytes l) healed.first) 4 (root_bytes l) root_long)
          ∙ with_same (stand at.image 0 (root_bytes l) healed.first) 4 (root_bytes l) (omega (arith, root_room, length-stand at.image 0 (root_bytes l) healed.first))
