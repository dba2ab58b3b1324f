-- What a call tells of the image, by its cause.
use Rattle.std.proofs.Common.{◌≡◌, inl, inr, ℕ, ◌<◌, List, [], Option, Some, None, refl, sym, ◌∙◌, ap, subst, arith}
use Rattle.std.specs.Prelude.{IfSome, map, option_map}
use Rattle.std.specs.List.{range_with_len}
use Rattle.std.specs.Option.{unwrap_or}
use Rattle.std.proofs.lemmas.List.FromFn.{get_or-map-range_with_len, length-map-range_with_len}
use Rattle.volume_layout.specs.declared.layout.Layout.{Layout}
use Rattle.fsd_bytes.specs.declared.refusal.Refusal.{Refusal}
use Rattle.fsd_bytes.specs.declared.refusal.Refusal.TheVariants as Why
use Rattle.sector_disk.specs.Damage.{AreLost}
use Rattle.sector_disk.specs.Machine.{Moment}
use Rattle.sector_disk.proofs.Damage.{lost_as}
use Rattle.fsd_files.specs.Disk.{Image}
use Rattle.fsd_sound.specs.Mounted.{image_at}
use Rattle.volume_contract.specs.Causes.{AreSomeCopies, AreCopiesOfPage, HasCallCause, HaveRead, IsRead, ShowsBreak}
use Rattle.volume_contract.specs.Healing.{LosesTwins}
use Rattle.volume_contract.specs.Order.{Comes, IsDeviceRefusal, IsLookUp, IsLoss, heal_steps, next_steps, single_steps}
use Rattle.volume_contract.specs.State.{State}
use Rattle.scrub.specs.Telling.{AreOfPage, IsHomeOfPage, StandTwice, TellsOn}
use Rattle.scrub.specs.Walk.{IsFromOutside}

-- ---- by its cause

of_copies : (s : State) (page a b : ℕ) → page < s.layout.pages → AreCopiesOfPage s page a b → AreOfPage s.layout a b
of_copies s page a b within (inl slot) = inl slot.in_record
of_copies s page a b within (inr home) = inr (record { page = page; within = within; homes = home.1 })

-- what stands twice for a page stands twice
pub page_twice : (l : Layout) (a b : ℕ) → AreOfPage l a b → StandTwice l a b
page_twice l a b (inl placed) = inl placed
page_twice l a b (inr homes) = inr (inr (inr homes))

module _ (old new : State) (resident : ℕ → Option (List ℕ)) (before now : Moment) (same : new.layout ≡ old.layout) where
  of_page : (a b : ℕ) → AreSomeCopies old new a b → AreOfPage old.layout a b
  of_page a b c = elim c.copies [
    | inl was ↦ of_copies old c.page a b c.within was
    | inr is ↦ subst (λ (l : Layout). AreOfPage l a b) same (of_copies new c.page a b (subst (λ (l : Layout). c.page < l.pages) (sym same) c.within) is)
  ]

  pub told_lost : (a b : ℕ) → AreLost (AreSomeCopies old new) now.image a b → AreLost (AreOfPage old.layout) now.image a b
  told_lost a b lost = record { copies = of_page a b lost.copies; first = lost.first; second = lost.second }

  -- some pages are as they were read, and a page of them breaks the table
  pub told_unsound : (s : ℕ) → ShowsBreak old new resident before now s → IsHomeOfPage old.layout s
  told_unsound s shows = let breaks = shows.is pages have in (breaks.visit.page, breaks.within, breaks.home)
    where
      bytes_at : ℕ → List ℕ
      bytes_at page = unwrap_or (shows.read page) []

      pages : List (List ℕ)
      pages = map bytes_at (range_with_len 0 old.layout.pages)

      read_at : (page : ℕ) (o : Option (List ℕ)) → shows.read page ≡ o → IfSome o (IsRead old new resident before now page) → IfSome o (λ bytes. image_at pages page ≡ bytes)
      read_at page None is read = tt
      read_at page (Some bytes) is read = get_or-map-range_with_len bytes_at 0 old.layout.pages page page [] read.within (omega arith) ∙ ap (λ (o : Option (List ℕ)). unwrap_or o []) is

      have : HaveRead old shows.read pages
      have = record { size = length-map-range_with_len bytes_at 0 old.layout.pages; same = λ page. read_at page (shows.read page) refl (shows.are_read page) }

  pub told_by : (why : Refusal) → HasCallCause old new resident before now why → TellsOn old.layout now.image why
  told_by (Why.Lost a b) cause = lost_as (AreOfPage old.layout) a b (StandTwice old.layout) now.image (page_twice old.layout a b) (told_lost a b cause)
  told_by (Why.Unsound s) cause = told_unsound s cause
  told_by why cause = tt

-- ---- by the call

-- a volume that is up is not told as down
not_down : (s : State) → s.down ≡ None → (why : Refusal) → option_map Why.Down s.down ≡ Some why → ⊥
not_down s up why here = let none : option_map Why.Down s.down ≡ None = ap (λ (o : Option ℕ). option_map Why.Down o) up in cc (none, here)

-- over one a look-up alone refuses the next entry
pub next_refuses : (s : State) → s.down ≡ None → (why : Refusal) → Comes (next_steps s) why → IsLookUp why
next_refuses s up why (inl here) = absurd (not_down s up why here)
next_refuses s up why (inr (passes, inl looks)) = looks
next_refuses s up why (inr (passes, inr later)) = absurd later.1

module _ (l : Layout) (i : Image) where
  pub outside_told : (why : Refusal) → IsFromOutside why → TellsOn l i why
  outside_told (Why.Device s) is = tt
  outside_told Why.Memory is = tt
  outside_told why is = absurd is

  loss_told : (why : Refusal) → IsLoss why → LosesTwins l i why → TellsOn l i why
  loss_told (Why.Lost a b) is lost = record { copies = inr lost.copies; first = lost.first; second = lost.second }
  loss_told (Why.Device s) is lost = tt
  loss_told why is lost = absurd is

  module _ (s : State) (up : s.down ≡ None) (why : Refusal) where
    pub heal_told : Comes (heal_steps s) why → LosesTwins l i why → TellsOn l i why
    heal_told (inl here) lost = absurd (not_down s up why here)
    heal_told (inr (passes, inl loss)) lost = loss_told why loss lost
    heal_told (inr (passes, inr later)) lost = absurd later.1

    pub single_told : Comes (single_steps s) why → TellsOn l i why
    single_told (inl here) = absurd (not_down s up why here)
    single_told (inr (passes, inl device)) = by why device
      where
        by : (w : Refusal) → IsDeviceRefusal w → TellsOn l i w
        by (Why.Device n) is = tt
        by w is = absurd is
    single_told (inr (passes, inr later)) = absurd later.1
