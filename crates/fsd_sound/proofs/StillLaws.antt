-- Where nothing wears, a sound disk shows one list of pages.
use Rattle.std.proofs.Common.{◌≡◌, ℕ, List, [], ◌∷◌, Option, Some, None, refl, sym, ap, subst, arith}
use Rattle.std.specs.Prelude.{Contains, option_and_then}
use Rattle.volume_layout.specs.declared.layout.Layout.{Layout}
use Rattle.sector_disk.specs.declared.sector.WeakRun.{WeakRun}
use Rattle.sector_disk.proofs.Calm.{worn_not}
use Rattle.sector_disk.proofs.Wear.{worn_refl}
use Rattle.fsd_files.specs.Disk.{Image, in_runs}
use Rattle.fsd_files.specs.Files.{Change}
use Rattle.fsd_table.specs.Table.{Telling, told_in}
use Rattle.fsd_sound.specs.Saved.{SavesPages}
use Rattle.fsd_sound.specs.Shown.{shown}
use Rattle.fsd_sound.proofs.MountedLaws.{one_of}
use Rattle.fsd_sound.specs.Sound.{IsSound, IsStill, LiesIn, ShowsOne, ShowsPages, Tells, TellsPrefix, weak_of}

first_of : (pages : List (List ℕ)) → Contains (pages ∷ []) pages
first_of pages = (0, omega arith, refl)

shows_alone : (l : Layout) (windows : List WeakRun) (h : List Change) (f : ℕ) (i : Image) (pages : List (List ℕ)) → IsStill windows → IsSound l windows h f i → shown l i ≡ Some pages → ShowsPages l windows (pages ∷ []) i
shows_alone l windows h f i pages still sound is = record {
  readable = sound.readable;
  within = λ k beside says ps one. one_of (λ qs. LiesIn k (told_in qs)) pages ps (subst (LiesIn k) (ap (option_and_then told_in) is) (sound.within k beside says i (worn_refl (weak_of windows) i))) one;
  shows = λ j worn. subst (λ (k : Image). ShowsOne (pages ∷ []) (shown l k)) (sym (worn_not (weak_of windows) i j still worn)) (subst (ShowsOne (pages ∷ [])) (sym is) (first_of pages));
}

pub tells_prefix : (l : Layout) (windows : List WeakRun) (h : List Change) (f : ℕ) (i : Image) → IsStill windows → IsSound l windows h f i → TellsPrefix l windows h f i
tells_prefix l windows h f i still sound = by_shown (shown l i) refl (sound.tells i (worn_refl (weak_of windows) i))
  where
    by_told : (pages : List (List ℕ)) (o : Option Telling) → shown l i ≡ Some pages → told_in pages ≡ o → Tells l (in_runs windows) i h f o → TellsPrefix l windows h f i
    by_told pages None is told tells = absurd tells
    by_told pages (Some telling) is told tells =
        record { pages = pages; shows = shows_alone l windows h f i pages still sound is; telling = telling; told = told; count = tells.0; prefix = tells.1; described = tells.2; saved = sound.saved i (worn_refl (weak_of windows) i) pages is }

    by_shown : (o : Option (List (List ℕ))) → shown l i ≡ o → Tells l (in_runs windows) i h f (option_and_then told_in o) → TellsPrefix l windows h f i
    by_shown None is tells = absurd tells
    by_shown (Some pages) is tells = by_told pages (told_in pages) is refl tells

-- and the other way round
pub prefix_sound : (l : Layout) (windows : List WeakRun) (h : List Change) (f : ℕ) (i : Image) → TellsPrefix l windows h f i → IsSound l windows h f i
prefix_sound l windows h f i t =
    Rattle.fsd_sound.proofs.SoundLaws.sound_from_pages l windows h f (t.pages ∷ []) i t.shows
    (λ pages one. one_of (λ pages. Tells l (in_runs windows) i h f (told_in pages)) t.pages pages
    (subst (λ (o : Option Telling). Tells l (in_runs windows) i h f o) (sym t.told) (t.count, t.prefix, t.described)) one)
    (λ pages one. Rattle.fsd_sound.proofs.MountedLaws.one_of (SavesPages l i) t.pages pages t.saved one)
