-- What is loaded of a page.
use Rattle.std.proofs.Common.{◌≡◌, ◌⊎◌, inl, inr, ℕ, ◌<◌, Bool, cond, List, [], length, get_or, Option, Some, None, refl, sym, ap, subst, ◌∙◌}
use Rattle.std.specs.Prelude.{IsSome, slice_index_or}
use Rattle.std.specs.Option.{option_or}
use Rattle.std.proofs.lemmas.Bool.{lt-ltb}
use Rattle.volume_layout.specs.declared.layout.Layout.{Layout}
use Rattle.volume_layout.specs.Layout.{home_a, home_b}
use Rattle.sector_disk.specs.declared.sector.Sector.{Sector}
use Rattle.sector_disk.specs.declared.sector.Sector.TheVariants.{Whole, Damaged}
use Rattle.sector_disk.specs.declared.machine.LoadFault.{LoadFault}
use Rattle.sector_disk.specs.declared.machine.LoadFault.TheVariants.{Device, Lost}
use Rattle.sector_disk.specs.Damage.{IsDevice, LostCause}
use Rattle.sector_disk.specs.Image.{IsWorn, open_damage, sector_at}
use Rattle.sector_disk.specs.Machine.{Moment, Wears}
use Rattle.sector_disk.proofs.Damage.{cause_as}
use Rattle.sector_disk.proofs.Holding.{wears_on}
use Rattle.sector_disk.proofs.Wear.{worn_refl, worn_whole}
use Rattle.fsd_log.specs.Scan.{Walked}
use Rattle.fsd_files.specs.Disk.{Image, bytes_of, first_whole}
use Rattle.fsd_sound.specs.Homes.{AreHomesOf, home_of}
use Rattle.fsd_sound.specs.Laid.{AllLaid}
use Rattle.fsd_sound.specs.Shown.{newest, records_by}
use Rattle.fsd_sound.specs.Sound.{weak_of}
use Rattle.fsd_sound.proofs.WindowLaws.{open_is_weak}
use Rattle.log_thirds.specs.Images.{AreLogged, StandsInSlot, IsUnlogged}
use Rattle.log_thirds.specs.LogValue.{LogValue}
use Rattle.fsd_log.specs.Slots.{last_slot}
use Rattle.fsd_log.specs.declared.slot.Slot.{Slot}
use Rattle.log_thirds.proofs.ImageLaws.{no_last_image}
use Rattle.group_commit.specs.KnownLaws.{known_newest, knows_worn, newest_worn}
use Rattle.group_commit.specs.Newest.{AreCopiesIn, KnowsPages, StandsAtHome, StandsByLog, newest_by}
use Rattle.group_commit.proofs.GivenLaws.{given_is, never_lost}

-- ---- at home

-- the first whole home is one of the two
either_whole : (x y : Sector) (bytes : List ℕ) → first_whole (bytes_of x) (bytes_of y) ≡ Some bytes → (x ≡ Whole bytes) ⊎ (y ≡ Whole bytes)
either_whole (Whole b) y bytes is = let same : b ≡ bytes = cc in inl (ap (λ (z : List ℕ). Whole z) same)
either_whole Damaged (Whole b) bytes is = let same : b ≡ bytes = cc in inr (ap (λ (z : List ℕ). Whole z) same)
either_whole Damaged Damaged bytes is = absurd (cc)

pub home_stands : (l : Layout) (page : ℕ) (i : Image) (bytes : List ℕ) → home_of l i page ≡ Some bytes → StandsAtHome l page i bytes
home_stands l page i bytes is = either_whole (sector_at i (home_a l page)) (sector_at i (home_b l page)) bytes is

-- wear makes nothing whole
pub stood_at_home : (may : ℕ → Bool) (l : Layout) (page : ℕ) (i j : Image) (bytes : List ℕ) → IsWorn may i j → StandsAtHome l page j bytes → StandsAtHome l page i bytes
stood_at_home may l page i j bytes worn (inl first) = inl (worn_whole may i j (home_a l page) bytes worn first)
stood_at_home may l page i j bytes worn (inr second) = inr (worn_whole may i j (home_b l page) bytes worn second)

-- where both are damaged there is none
no_home : (l : Layout) (page : ℕ) (i : Image) → sector_at i (home_a l page) ≡ Damaged → sector_at i (home_b l page) ≡ Damaged → home_of l i page ≡ None
no_home l page i first second = λ k. first_whole (bytes_of (first k)) (bytes_of (second k))

-- ---- a page that is lost

none_some : {A : Type 0} (o : Option A) → o ≡ None → IsSome o → ⊥
none_some None is some = absurd (cc some)
none_some (Some x) is some = absurd (cc is)

pub lost_home : (l : Layout) (page : ℕ) (i : Image) (fault : LoadFault) → LostCause (AreHomesOf l page) i fault → IsSome (home_of l i page) → IsDevice fault
lost_home l page i (Device s) lost some = tt
lost_home l page i (Lost a b) lost some =
    absurd (none_some (home_of l i page) (no_home l page i (ap (sector_at i) (sym lost.copies.first) ∙ lost.first) (ap (sector_at i) (sym lost.copies.second) ∙ lost.second)) some)

-- ---- of a disk that the log knows

module _ (log : LogValue) (page : ℕ) (lt : page < log.layout.pages) where
  pub in_layout : (i : Image) → newest_by log i page ≡ newest log.layout i (records_by log.layout i log.anchor) page
  in_layout i = ap (λ (b : Bool). cond b (newest log.layout i (records_by log.layout i log.anchor) page) None) (lt-ltb page log.layout.pages lt)

  module _ (at : Moment) (knows : KnowsPages log at) where
    records_are : records_by log.layout at.image log.anchor ≡ knows.records
    records_are = ap (λ (w : Walked). w.records) knows.over.own.log.scanned

    laid : AllLaid log.layout log.anchor (weak_of knows.windows) at.image (records_by log.layout at.image log.anchor)
    laid = subst (AllLaid log.layout log.anchor (weak_of knows.windows) at.image) (sym records_are) knows.over.own.laid

    -- the page's slot is that in the last record that has it
    found : (slot : Option Slot) → slice_index_or log.slots page None ≡ slot → last_slot log.layout log.anchor.third page (records_by log.layout at.image log.anchor) ≡ slot
    found slot is =
        let long : page < length log.slots = subst (λ (n : ℕ). page < n) (sym knows.shape.table) lt in
        ap (last_slot log.layout log.anchor.third page) records_are ∙ sym (knows.over.indexed.slots page long) ∙ is

    pub logged_newest : (bytes : List ℕ) → StandsInSlot (slice_index_or log.slots page None) at.image bytes → newest_by log at.image page ≡ Some bytes
    logged_newest bytes s =
        let slot : Slot = record { place = s.a; copy = s.b; number = s.lies.number } in
        let last = given_is log.layout log.anchor knows.shape.third (weak_of knows.windows) knows.apart at.image at.image (worn_refl (weak_of knows.windows) at.image) laid page slot (found (Some slot) s.lies.is) bytes s.stands in
        in_layout at.image ∙ ap (λ (o : Option (List ℕ)). option_or o (home_of log.layout at.image page)) last

    pub logged_lost : (new : Image) → IsWorn (open_damage at.windows) at.image new → (fault : LoadFault) → LostCause (AreLogged log page) new fault → IsDevice fault
    logged_lost new worn (Device s) lost = tt
    logged_lost new worn (Lost a b) lost =
        let slot : Slot = record { place = a; copy = b; number = lost.copies.lies.number } in
        absurd (never_lost log.layout log.anchor knows.shape.third (weak_of knows.windows) knows.apart at.image new (open_is_weak at.windows knows.windows at.image new knows.ends worn) laid page slot (found (Some slot) lost.copies.lies.is) lost.first lost.second)

    -- where the log has none it is that at home
    home_is : IsUnlogged log page → newest_by log at.image page ≡ home_of log.layout at.image page
    home_is none = in_layout at.image ∙ ap (λ (o : Option (List ℕ)). option_or o (home_of log.layout at.image page)) (no_last_image log.layout log.anchor.third page (records_by log.layout at.image log.anchor) (found None none))

    some_home : IsUnlogged log page → IsSome (home_of log.layout at.image page)
    some_home none = subst IsSome (home_is none) (subst IsSome (sym (known_newest log at knows page ∙ ap (λ (b : Bool). cond b (Some (get_or knows.disk page [])) None) (lt-ltb page log.layout.pages lt))) refl)

-- ---- where the log has no image

module _ (log : LogValue) (page : ℕ) (none : IsUnlogged log page) (l : Layout) (same : l ≡ log.layout) (old mid new : Moment) (first : Wears old mid) (second : Wears mid new) where
  pub copy_stands : (bytes : List ℕ) → home_of l new.image page ≡ Some bytes → StandsByLog log page old.image bytes
  copy_stands bytes is =
      let at_end : StandsAtHome log.layout page new.image bytes = home_stands log.layout page new.image bytes (subst (λ (k : Layout). home_of k new.image page ≡ Some bytes) same is) in
      inr (none, stood_at_home (open_damage old.windows) log.layout page old.image mid.image bytes first.image (stood_at_home (open_damage mid.windows) log.layout page mid.image new.image bytes second.image at_end))

  pub copies_lost : (fault : LoadFault) → LostCause (AreHomesOf l page) new.image fault → LostCause (AreCopiesIn log page) new.image fault
  copies_lost fault lost = cause_as (AreHomesOf l page) (AreCopiesIn log page) new.image fault (λ a b homes. inr (none, subst (λ (k : Layout). AreHomesOf k page a b) same homes)) lost

  module _ (lt : page < log.layout.pages) (knows : KnowsPages log old) where
    worn : Wears old new
    worn = wears_on old mid new first second

    known : KnowsPages log new
    known = knows_worn log old new worn.image worn.windows knows

    pub home_newest : (bytes : List ℕ) → home_of l new.image page ≡ Some bytes → newest_by log old.image page ≡ Some bytes
    home_newest bytes is =
        sym (newest_worn log old new page worn.image worn.windows knows) ∙ home_is log page lt new known none ∙ subst (λ (k : Layout). home_of k new.image page ≡ Some bytes) same is

    pub home_lost : (fault : LoadFault) → LostCause (AreHomesOf l page) new.image fault → IsDevice fault
    home_lost fault lost = lost_home l page new.image fault lost (subst (λ (k : Layout). IsSome (home_of k new.image page)) (sym same) (some_home log page lt new known none))
