-- What a log knows of its pages lasts while the disk wears.
-- The laws stand here since the `impl` of a source rests on them.
use Rattle.std.proofs.Common.{◌≡◌, ℕ, ◌+◌, ◌<◌, Bool, true, false, cond, nat_lt, List, [], ◌∷◌, get_or, Option, Some, None, refl, sym, ap, subst, ◌∙◌, arith}
use Rattle.std.specs.Prelude.{IfSome, option_and_then}
use Rattle.std.proofs.lemmas.Bool.{ltb-true}
use Rattle.volume_layout.specs.declared.layout.Layout.{Layout}
use Rattle.sector_disk.specs.declared.sector.WeakRun.{WeakRun}
use Rattle.sector_disk.specs.Image.{Windows, IsWorn, open_damage}
use Rattle.sector_disk.specs.Machine.{Moment}
use Rattle.sector_disk.proofs.Wear.{worn_refl}
use Rattle.fsd_formats.specs.declared.anchor.Anchor.{Anchor}
use Rattle.fsd_files.specs.Disk.{Image}
use Rattle.fsd_sound.specs.Anchors.{EachAnchor, anchor_at, anchor_of}
use Rattle.fsd_sound.specs.Shown.{newest, records_by, shown_by}
use Rattle.fsd_sound.specs.Sound.{EndIn, ShowsOne, ShowsPages, weak_of}
use Rattle.fsd_sound.proofs.AnchorFacts.{newer_one}
use Rattle.fsd_sound.proofs.EachLaws.{each_at}
use Rattle.fsd_sound.proofs.LaidLaws.{own_worn}
use Rattle.fsd_sound.proofs.SoundLaws.{shows_still}
use Rattle.fsd_sound.proofs.WindowLaws.{apart_narrow, open_is_weak}
use Rattle.log_thirds.specs.LogValue.{LogValue}
use Rattle.group_commit.specs.Newest.{KnowsPages, newest_by}

-- ---- the pages that a disk shows by the log's own anchor

module _ (l : Layout) (a : Anchor) (windows : List WeakRun) (disk : List (List ℕ)) (i : Image) (shows : ShowsPages l windows (disk ∷ []) i) (own : EachAnchor i (λ b. b ≡ a)) where
  only : (o : Option (List (List ℕ))) → ShowsOne (disk ∷ []) o → o ≡ Some disk
  only None one = absurd one
  only (Some pages) one = ap (λ (x : List (List ℕ)). Some x) (sym one.2 ∙ ap (λ (k : ℕ). get_or (disk ∷ []) k pages) (let first = one.1 in let e : one.0 ≡ 0 = omega (arith, first) in e))

  by_taken : (o : Option Anchor) → IfSome o (λ b. b ≡ a) → ShowsOne (disk ∷ []) (option_and_then (shown_by l i) o) → (o ≡ Some a) × (shown_by l i a ≡ Some disk)
  by_taken None mine one = absurd one
  by_taken (Some b) mine one = (ap (λ (x : Anchor). Some x) mine, ap (shown_by l i) (sym mine) ∙ only (shown_by l i b) one)

  pub own_shown : (anchor_of i ≡ Some a) × (shown_by l i a ≡ Some disk)
  own_shown = by_taken (anchor_of i) (newer_one (λ b. b ≡ a) (anchor_at i 8) (anchor_at i 12) own.0 own.1) (shows.shows i (worn_refl (weak_of windows) i))

  own_newest : (page : ℕ) → page < l.pages → newest l i (records_by l i a) page ≡ Some (get_or disk page [])
  own_newest page lt = ap (newest l i (records_by l i a)) (let e : page ≡ 0 + page = omega arith in e) ∙ each_at (newest l i (records_by l i a)) 0 l.pages disk [] own_shown.1 page lt

-- ---- what a log knows

module _ (log : LogValue) (at : Moment) (knows : KnowsPages log at) where
  within : (page : ℕ) → (t : Bool) → nat_lt page log.layout.pages ≡ t → cond t (newest log.layout at.image (records_by log.layout at.image log.anchor) page) None ≡ cond t (Some (get_or knows.disk page [])) None
  within page true is = own_newest log.layout log.anchor knows.windows knows.disk at.image knows.over.shows knows.over.own.own page (ltb-true page log.layout.pages is)
  within page false is = refl

  -- of each page the newest image is that of the list
  pub known_newest : (page : ℕ) → newest_by log at.image page ≡ cond (nat_lt page log.layout.pages) (Some (get_or knows.disk page [])) None
  known_newest page = within page (nat_lt page log.layout.pages) refl

module _ (log : LogValue) (old new : Moment) (worn : IsWorn (open_damage old.windows) old.image new.image) (same : new.windows ≡ old.windows) (knows : KnowsPages log old) where
  weak : IsWorn (weak_of knows.windows) old.image new.image
  weak = open_is_weak old.windows knows.windows old.image new.image knows.ends worn

  -- the same pages, by the same records
  pub knows_worn : KnowsPages log new
  knows_worn =
      let shape = knows.shape in
      record {
        windows = knows.windows;
        ends = subst (λ (w : Windows). EndIn w knows.windows) (sym same) knows.ends;
        apart = knows.apart;
        shape = shape;
        records = knows.records;
        disk = knows.disk;
        over = record {
          shows = shows_still log.layout knows.windows (apart_narrow log.layout knows.windows knows.apart) (knows.disk ∷ []) old.image new.image weak knows.over.shows;
          own = own_worn log.layout (omega (arith, shape.pages)) log.anchor shape.epoch shape.third (weak_of knows.windows) knows.apart old.image new.image weak knows.records log.head knows.over.own;
          indexed = knows.over.indexed;
        };
      }

pub newest_worn : (log : LogValue) (old new : Moment) (page : ℕ) → IsWorn (open_damage old.windows) old.image new.image → new.windows ≡ old.windows → KnowsPages log old → newest_by log new.image page ≡ newest_by log old.image page
unfolding knows_worn
newest_worn log old new page worn same knows =
    known_newest log new (knows_worn log old new worn same knows) page ∙ sym (known_newest log old knows page)
