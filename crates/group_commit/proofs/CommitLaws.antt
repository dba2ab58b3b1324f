-- What a force makes of a disk where no page waits.
use Rattle.std.proofs.Common.{◌≡◌, ℕ, List, [], ◌∷◌, get_or, Option, Some, None, refl, sym, ap, subst, ◌∙◌, arith, inl}
use Rattle.std.proofs.lemmas.List.{ext_get_or}
use Rattle.sector_disk.specs.declared.sector.WeakRun.{WeakRun}
use Rattle.sector_disk.specs.Machine.{Moment}
use Rattle.fsd_log.specs.Scan.{Placed}
use Rattle.fsd_files.specs.Disk.{Image}
use Rattle.fsd_sound.specs.Shown.{shown}
use Rattle.fsd_sound.specs.Sound.{ShowsOne, ShowsPages, weak_of}
use Rattle.fsd_sound.proofs.SaidLaws.{own_alone}
use Rattle.log_thirds.specs.LogValue.{LogValue}
use Rattle.fsd_sound.specs.Mounted.{AgreeOutside}
use Rattle.group_commit.specs.Resident.{ResidentValue}
use Rattle.group_commit.specs.Force.{StandsOverDisk, Commits, Committed}

agree_same : (x y : List (List ℕ)) → AgreeOutside [] x y → x ≡ y
agree_same x y agree = ext_get_or [] x y agree.size (λ k lt. agree.each k refl)

pub shows_more : (disk now : List (List ℕ)) (o : Option (List (List ℕ))) → ShowsOne (disk ∷ []) o → ShowsOne (disk ∷ now ∷ []) o
shows_more disk now None one = absurd one
shows_more disk now (Some pages) one =
    let first : one.0 ≡ 0 = omega (arith, one.1) in
    (0, omega arith, sym (ap (λ (k : ℕ). get_or (disk ∷ []) k pages) first) ∙ one.2)

pub idle_commits : (log : LogValue) (s : ResidentValue) (records : List Placed) (disk now : List (List ℕ)) (windows : List WeakRun) (old : Moment) → StandsOverDisk log records disk s windows old.image → Commits log.layout windows disk now old old
idle_commits log s records disk now windows old over = record {
  shows = record { readable = over.shows.readable; within = λ k beside says. absurd (own_alone log.layout k (weak_of windows) old.image over.shows.readable.roots.planned over.own.roots beside says); shows = λ j worn. shows_more disk now (shown log.layout j) (over.shows.shows j worn) };
  kept = λ t ge. inl refl;
  outside = record { size = refl; others = λ t out. inl refl };
  opened = over.own.opened;
  windows = refl;
  said = refl;
}

pub idle_committed : (log : LogValue) (s : ResidentValue) (records : List Placed) (disk : List (List ℕ)) (windows : List WeakRun) (i : Image) → s.dirty ≡ [] → StandsOverDisk log records disk s windows i → Committed log s windows i
idle_committed log s records disk windows i none over =
    let clean : AgreeOutside [] disk s.pages = subst (λ (d : List ℕ). AgreeOutside d disk s.pages) none over.clean in
    record {
      records = records;
      stands = record {
        shows = subst (λ (x : List (List ℕ)). ShowsPages log.layout windows (x ∷ []) i) (agree_same disk s.pages clean) over.shows;
        own = over.own;
        clean = record { size = refl; each = λ page out. refl };
      };
    }
