-- What is sound is so for more changes, with fewer of them forced, and as the machine's windows wear it.
use Rattle.std.proofs.Common.{◌≡◌, ℕ, ◌≤◌, List, ◌++◌, take, Option, Some, None, refl, sym, subst, arith, length-append}
use Rattle.std.specs.Prelude.{IfSome}
use Rattle.std.specs.List.{last_or}
use Rattle.std.proofs.lemmas.List.{take-append-le}
use Rattle.volume_layout.specs.declared.layout.Layout.{Layout}
use Rattle.sector_disk.specs.declared.sector.WeakRun.{WeakRun}
use Rattle.sector_disk.specs.Image.{AreShort, IsShort, IsWorn, Windows, open_damage}
use Rattle.fsd_table.specs.Table.{Telling}
use Rattle.fsd_files.specs.Disk.{Image, Sectors, in_runs}
use Rattle.fsd_files.specs.Files.{Change, after}
use Rattle.fsd_files.specs.Kept.{Describes}
use Rattle.fsd_sound.specs.Shown.{told}
use Rattle.fsd_sound.specs.Sound.{EndIn, IsSound, Tells}
use Rattle.fsd_sound.proofs.SoundLaws.{sound_still}
use Rattle.fsd_sound.proofs.WindowLaws.{open_is_weak, windows_are_narrow}

-- ---- more changes, and fewer that are forced

tells_more : (l : Layout) (hurt : Sectors) (i : Image) (h c : List Change) (f : ℕ) (o : Option Telling) → Tells l hurt i h f o → Tells l hurt i (h ++ c) f o
tells_more l hurt i h c f None tells = absurd tells
tells_more l hurt i h c f (Some t) tells =
    let made = tells.1.made in
    let same : take tells.0 (h ++ c) ≡ take tells.0 h = take-append-le tells.0 h c made in
    (tells.0, record { forced = tells.1.forced; made = omega (arith, made, length-append h c) }, subst (λ (g : List Change). Describes l hurt i (after g) t.entries) (sym same) tells.2)

tells_fewer : (l : Layout) (hurt : Sectors) (i : Image) (h : List Change) (f g : ℕ) (o : Option Telling) → f ≤ g → Tells l hurt i h g o → Tells l hurt i h f o
tells_fewer l hurt i h f g None le tells = absurd tells
tells_fewer l hurt i h f g (Some t) le tells = let forced = tells.1.forced in (tells.0, record { forced = omega (arith, le, forced); made = tells.1.made }, tells.2)

pub sound_more : (l : Layout) (windows : List WeakRun) (h c : List Change) (f : ℕ) (i : Image) → IsSound l windows h f i → IsSound l windows (h ++ c) f i
sound_more l windows h c f i sound = record { readable = sound.readable; tells = λ j worn. tells_more l (in_runs windows) j h c f (told l j) (sound.tells j worn); within = sound.within; saved = sound.saved }

pub sound_fewer : (l : Layout) (windows : List WeakRun) (h : List Change) (f g : ℕ) (i : Image) → f ≤ g → IsSound l windows h g i → IsSound l windows h f i
sound_fewer l windows h f g i le sound = record { readable = sound.readable; tells = λ j worn. tells_fewer l (in_runs windows) j h f g (told l j) le (sound.tells j worn); within = sound.within; saved = sound.saved }

-- ---- wear

-- a short run has three sectors or fewer
narrow_run : (o : Option WeakRun) → IfSome o IsShort → IfSome o (λ r. r.count ≤ 3)
narrow_run None short = tt
narrow_run (Some r) short = omega (arith, short)

pub wear_sound : (l : Layout) (windows : List WeakRun) (h : List Change) (f : ℕ) (now : Windows) (i j : Image) → AreShort now → EndIn now windows → IsWorn (open_damage now) i j → IsSound l windows h f i → IsSound l windows h f j
wear_sound l windows h f now i j short ends worn sound =
    let run = narrow_run (last_or None windows) (subst (λ (o : Option WeakRun). IfSome o IsShort) (sym ends.last) short.present) in
    sound_still l windows (windows_are_narrow windows (last_or None windows) refl run) h f i j (open_is_weak now windows i j ends worn) sound
