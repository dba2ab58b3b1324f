-- A mount settles: the next window begins, and the disk shows its one page list there.
use Rattle.std.proofs.Common.{◌≡◌, ℕ, List, [], ◌∷◌, ◌++◌, Option, Some, None, sym, ap, subst, ◌∙◌}
use Rattle.std.specs.Prelude.{IsTrue}
use Rattle.std.proofs.lemmas.Bool.{and_parts}
use Rattle.volume_layout.specs.declared.layout.Layout.{Layout}
use Rattle.sector_disk.specs.declared.sector.WeakRun.{WeakRun}
use Rattle.sector_disk.specs.Image.{Windows, open_damage, settled, in_weak_run, IsWorn, weak as in_window}
use Rattle.sector_disk.specs.Machine.{Moment, Holds, Settles}
use Rattle.sector_disk.proofs.Wear.{worn_trans, worn_more}
use Rattle.fsd_files.specs.Disk.{Image, Sectors}
use Rattle.fsd_sound.specs.Sound.{weak_of, BearsLast}
use Rattle.fsd_sound.proofs.SoundLaws.{shows_still}
use Rattle.fsd_sound.specs.Begun.{IsBegun, IsMountedIn}
use Rattle.fsd_sound.proofs.WindowLaws.{last_snoc, borne_narrow}
use Rattle.fsd_sound.proofs.BegunLaws.{begun_shows}

-- what both open windows may wear, the named one may
pub open_in_next : (now : Windows) (windows : List WeakRun) (run : WeakRun) → now.next ≡ Some run → (s : ℕ) → IsTrue (open_damage now s) → IsTrue (weak_of (windows ++ run ∷ []) s)
open_in_next now windows run named s hurt =
    subst (λ (o : Option WeakRun). IsTrue (in_window o None s)) (sym (last_snoc None windows run))
    (by_present now.present (subst (λ (o : Option WeakRun). IsTrue (in_window now.present o s)) named hurt))
  where
    by_present : (o : Option WeakRun) → IsTrue (in_window o (Some run) s) → IsTrue (in_weak_run run s)
    by_present None h = h
    by_present (Some w) h = (and_parts (in_weak_run w s) (in_weak_run run s) h).1

settled_run : (present next : Option WeakRun) (run : WeakRun) → next ≡ Some run → settled present next ≡ record { present = Some run; next = None }
settled_run present None run named = absurd cc
settled_run present (Some r) run named = ap (λ (x : WeakRun). record { present = Some x; next = None }) (same r named)
  where
    same : (x : WeakRun) → Some x ≡ Some run → x ≡ run
    same x e = cc

pub settles : (l : Layout) (windows : List WeakRun) (run : WeakRun) (epoch : ℕ) (pages : List (List ℕ)) (first now new : Moment) (e : Image) → BearsLast l (windows ++ run ∷ []) → first.windows.next ≡ Some run
    → IsBegun l epoch pages e → Holds first e now → Settles now new → IsMountedIn l windows run pages new
settles l windows run epoch pages first now new e borne named begun holds done =
    let may : Sectors = open_damage first.windows in
    let last : IsWorn (open_damage first.windows) now.image new.image = subst (λ (w : Windows). IsWorn (open_damage w) now.image new.image) holds.windows done.image in
    let worn : IsWorn (open_damage first.windows) e new.image = worn_trans (open_damage first.windows) e now.image new.image holds.worn last in
    record {
      settled = done.windows ∙ ap (λ (w : Windows). settled w.present w.next) holds.windows ∙ settled_run first.windows.present first.windows.next run named;
      shows = shows_still l (windows ++ run ∷ []) (borne_narrow l (windows ++ run ∷ []) borne) (pages ∷ []) e new.image (worn_more (open_damage first.windows) (weak_of (windows ++ run ∷ [])) e new.image (open_in_next first.windows windows run named) worn)
          (begun_shows l epoch pages e begun (windows ++ run ∷ []) borne);
    }
