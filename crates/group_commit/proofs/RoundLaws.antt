-- A force that makes room before it writes its record.
use Rattle.std.specs.Prelude.{Ok}
use Rattle.std.proofs.Common.{◌≡◌, ◌⊎◌, ⊎_elim, ℕ, ◌≤◌, List, refl, sym, subst, ◌∙◌, arith, inl, inr}
use Rattle.volume_layout.specs.declared.layout.Layout.{Layout}
use Rattle.volume_layout.specs.Layout.{map_start, IsPlanned}
use Rattle.fsd_formats.specs.Record.{Stamp}
use Rattle.sector_disk.specs.declared.sector.Sector.{Sector}
use Rattle.sector_disk.specs.declared.sector.Sector.TheVariants.{Whole}
use Rattle.volume_layout.specs.Root.{root_bytes}
use Rattle.sector_disk.specs.declared.sector.WeakRun.{WeakRun}
use Rattle.sector_disk.specs.Image.{Windows, open_damage, sector_at}
use Rattle.sector_disk.specs.Machine.{Moment}
use Rattle.sector_disk.proofs.Wear.{worn_twice}
use Rattle.fsd_log.specs.Scan.{Placed}
use Rattle.fsd_files.specs.Disk.{SectorWorn}
use Rattle.fsd_sound.specs.Shown.{shown}
use Rattle.fsd_sound.specs.Sound.{EndIn, BearsLast, Says, weak_of}
use Rattle.fsd_sound.proofs.SaidLaws.{own_alone}
use Rattle.log_thirds.specs.LogValue.{LogValue}
use Rattle.log_thirds.specs.Append.{stamp_now}
use Rattle.fsd_sound.proofs.WindowLaws.{borne_apart}
use Rattle.log_thirds.specs.LogValue.{FitsLayout}
use Rattle.group_commit.specs.Entering.{ShowsDisk, OwnsLog, HasRoomNow, MayHome}
use Rattle.group_commit.specs.Force.{KeepsOutside, MayWrite, StandsOverDisk, Commits}
use Rattle.group_commit.specs.Newest.{KnowsImages}
use Rattle.group_commit.specs.Resident.{ResidentValue, stamped}
use Rattle.group_commit.proofs.CommitLaws.{shows_more}
use Rattle.group_commit.proofs.StandsLaws.{knows_images}

-- the map and the data lie outside of what a force writes
data_outside : (l : Layout) (s : ℕ) → map_start l ≤ s → MayWrite l s → ⊥
data_outside l s from (inl log) = let below = log.1 in absurd (omega (arith, from, below))
data_outside l s from (inr (inl (inl first))) = absurd (omega (arith, from, first))
data_outside l s from (inr (inl (inr second))) = absurd (omega (arith, from, second))
data_outside l s from (inr (inr (page, lt, inl home))) = absurd (omega (arith, from, lt, home))
data_outside l s from (inr (inr (page, lt, inr home))) = absurd (omega (arith, from, lt, home))

root_outside : (l : Layout) (s : ℕ) → (s ≡ 0) ⊎ (s ≡ 4) → MayWrite l s → ⊥
root_outside l s at (inl log) = let from = log.0 in ⊎_elim (λ e. omega (arith, from, e)) (λ e. omega (arith, from, e)) at
root_outside l s at (inr (inl (inl first))) = ⊎_elim (λ e. omega (arith, first, e)) (λ e. omega (arith, first, e)) at
root_outside l s at (inr (inl (inr second))) = ⊎_elim (λ e. omega (arith, second, e)) (λ e. omega (arith, second, e)) at
root_outside l s at (inr (inr (page, lt, inl home))) = ⊎_elim (λ e. omega (arith, home, e)) (λ e. omega (arith, home, e)) at
root_outside l s at (inr (inr (page, lt, inr home))) = ⊎_elim (λ e. omega (arith, home, e)) (λ e. omega (arith, home, e)) at

-- what a root says that is not written, it said before
says_outside : (l k : Layout) (old left : Moment) → KeepsOutside l old left → Says k left.image → Says k old.image
says_outside l k old left outside = ⊎_elim (λ is. inl (at_place 0 (inl refl) is)) (λ is. inr (at_place 4 (inr refl) is))
  where
    at_place : (s : ℕ) → (s ≡ 0) ⊎ (s ≡ 4) → sector_at left.image s ≡ Whole (root_bytes k) → sector_at old.image s ≡ Whole (root_bytes k)
    at_place s at is = ⊎_elim (λ same. sym same ∙ is) (λ hurt. absurd (cc (is, hurt.1))) (outside.others s (root_outside l s at))

pub may_home : (log : LogValue) (layout : Layout) (windows : List WeakRun) (old : Moment) → layout ≡ log.layout → IsPlanned layout → FitsLayout log → BearsLast log.layout windows → EndIn old.windows windows → MayHome log windows old
may_home log layout windows old same planned shape borne ends = record {
  planned = subst (λ (l : Layout). IsPlanned l) same planned;
  shape = shape;
  apart = borne_apart log.layout windows borne;
  ends = ends;
}

module _ (log : LogValue) (s : ResidentValue) (records : List Placed) (disk : List (List ℕ)) (windows : List WeakRun) (old : Moment) (over : StandsOverDisk log records disk s windows old.image) where
  pub owns : KnowsImages log old.image → OwnsLog log records disk windows old.image
  owns known = record { shows = over.shows; own = over.own; indexed = (knows_images log log.head records disk s.pages s.dirty windows old.image over).0 known }

  -- while room is made the old pages are shown
  pub making : (now : List (List ℕ)) (left : Moment) → ShowsDisk log.layout windows disk old left → Commits log.layout windows disk now old left
  making now left is = record {
    shows = record { readable = is.shows.readable; within = λ k beside says. absurd (own_alone log.layout k (weak_of windows) old.image over.shows.readable.roots.planned over.own.roots beside (says_outside log.layout k old left is.outside says)); shows = λ j worn. shows_more disk now (shown log.layout j) (is.shows.shows j worn) };
    kept = λ t from. is.outside.others t (data_outside log.layout t from);
    outside = is.outside;
    opened = is.opened;
    windows = is.windows;
    said = is.said;
  }

  module _ (after : LogValue) (mid : Moment) (room : HasRoomNow after disk windows old mid) (layout : after.layout ≡ log.layout) (stamp : stamp_now after ≡ stamp_now log) (same : mid.windows ≡ old.windows) (said : mid.said ≡ old.said) where
    pub stands : StandsOverDisk after room.records disk s windows mid.image
    stands = record { shows = room.over.shows; own = room.over.own; clean = over.clean }

    on : (t : ℕ) (left : Sector) → (MayWrite after.layout t → ⊥) → SectorWorn (open_damage mid.windows t) (sector_at mid.image t) left → SectorWorn (open_damage old.windows t) (sector_at old.image t) left
    on t left out then = worn_twice (open_damage old.windows t) (sector_at old.image t) (sector_at mid.image t) left (room.outside.others t out)
        (subst (λ (w : Windows). SectorWorn (open_damage w t) (sector_at mid.image t) left) same then)

    here : (left : Moment) → Commits after.layout windows disk (stamped (stamp_now after) s.dirty s.pages) mid left → Commits after.layout windows disk (stamped (stamp_now after) s.dirty s.pages) old left
    here left is = record {
      shows = is.shows;
      kept = λ t from. on t (sector_at left.image t) (data_outside after.layout t from) (is.kept t from);
      outside = record { size = is.outside.size ∙ room.outside.size; others = λ t out. on t (sector_at left.image t) out (is.outside.others t out) };
      opened = is.opened;
      windows = is.windows ∙ same;
      said = is.said ∙ said;
    }

    -- and while the record is written, as they were or as they are now
    pub commits_on : (left : Moment) → Commits after.layout windows disk (stamped (stamp_now after) s.dirty s.pages) mid left → Commits log.layout windows disk (stamped (stamp_now log) s.dirty s.pages) old left
    commits_on left is =
        subst (λ (l : Layout). Commits l windows disk (stamped (stamp_now log) s.dirty s.pages) old left) layout
        (subst (λ (t : Stamp). Commits after.layout windows disk (stamped t s.dirty s.pages) old left) stamp (here left is))

    pub ends_then : EndIn old.windows windows → EndIn mid.windows windows
    ends_then ends = subst (λ (w : Windows). EndIn w windows) (sym same) ends
