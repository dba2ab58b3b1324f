-- A format on a new image, and its line.
use Rattle.std.proofs.Common.{◌≡◌, inl, inr, ℕ, zero, suc, ◌≤◌, List, [], ◌∷◌, ◌++◌, take, replicate, refl, ap, subst, sym, ◌∙◌}
use Rattle.std.specs.Prelude.{Result, Ok, Err, OnOk}
use Rattle.sector_disk.specs.declared.sector.Sector.{Sector}
use Rattle.sector_disk.specs.declared.sector.Sector.TheVariants.{Damaged}
use Rattle.sector_disk.specs.declared.sector.WeakRun.{WeakRun}
use Rattle.sector_disk.specs.Image.{IsWorn, Windows, in_weak_run, open_damage, sector_at}
use Rattle.sector_disk.specs.declared.machine.Machine.{Ghosts}
use Rattle.sector_disk.specs.Calls.{IsHeld, IsTimed, Since}
use Rattle.sector_disk.specs.Machine.{IsSynced, LeavesOnly, Makes, Moment, Utters}
use Rattle.sector_disk.proofs.Lags.{held_by, held_synced}
use Rattle.sector_disk.proofs.Wear.{worn_trans}
use Rattle.volume_layout.specs.declared.layout.Layout.{Layout}
use Rattle.volume_layout.specs.Kinds.{longest_of}
use Rattle.fsd_sound.specs.Format.{IsFormattedIn}
use Rattle.fsd_sound.specs.Sound.{IsSound}
use Rattle.fsd_sound.proofs.FormatSoundLaws.{format_is_sound}
use Rattle.fsd_sound.proofs.SoundLaws.{sound_still}
use Rattle.fsd_sound.proofs.WindowLaws.{borne_narrow}
use Rattle.volume_format.specs.Formatting.{Formats, IsNewImage}
use Rattle.volume_layout.specs.declared.fault.LayoutFault.{LayoutFault}
use Rattle.fsd_texts.specs.declared.line.Line.{Line}
use Rattle.fsd_texts.specs.Text.{text}
use Rattle.volume_contract.specs.State.{Ages}
use Rattle.volume_turns.specs.Line.{EndsLast, IsStatusAs}
use Rattle.cfs_program.specs.Formatting.{HoldsVolume, IsFormatStatus, MakesVolume, MaySay, SaysFor, SaysFormat}

sector_at-replicate : (count s : ℕ) → sector_at (replicate count Damaged) s ≡ Damaged
sector_at-replicate zero s = refl
sector_at-replicate (suc count) zero = refl
sector_at-replicate (suc count) (suc s) = sector_at-replicate count s

formatted_sound : (l : Layout) (run : WeakRun) (i : List Sector) → run.count ≤ longest_of l.kind → IsFormattedIn l run i → IsSound l (run ∷ []) [] 0 i
formatted_sound l run i short f = sound_still l (run ∷ []) (borne_narrow l (run ∷ []) short) [] 0 f.written i f.worn (format_is_sound l (run ∷ []) short f.written f.formatted)

pub volume_made : (l : Layout) (count : ℕ) (old mid new : Moment) → Makes count old mid → (IsNewImage mid → Formats l mid new) → IsSynced new → MakesVolume l old new
volume_made l count old mid new made done synced =
    let formats = done (record {
      damaged = λ s. ap (λ (i : List Sector). sector_at i s) made.image ∙ sector_at-replicate count s;
      windows = made.windows;
    }) in
    record {
      holds = record { run = formats.run; short = formats.short; formatted = formats.formatted; sound = formatted_sound l formats.run new.image formats.short formats.formatted; windows = formats.windows };
      synced = synced;
      said = formats.said ∙ made.said;
    }

-- an empty volume in its own window is still one after what that window may wear
pub holds_on : (l : Layout) (between after : Moment) → HoldsVolume l between → Ages between after → HoldsVolume l after
holds_on l between after holds still =
    let may = λ (w : Windows). IsWorn (open_damage w) between.image after.image in
    let formatted : IsFormattedIn l holds.run after.image = record {
      written = holds.formatted.written;
      formatted = holds.formatted.formatted;
      worn = worn_trans (in_weak_run holds.run) holds.formatted.written between.image after.image holds.formatted.worn (subst may holds.windows still.image);
    } in
    record {
      run = holds.run;
      short = holds.short;
      formatted = formatted;
      sound = formatted_sound l holds.run after.image holds.short formatted;
      windows = still.windows ∙ holds.windows;
    }

pub made_of : {E : Type 0} (l : Layout) (count : ℕ) (old mid new : Moment) (H : Type 0) (result : Result (Unit {0}) E) → (H → Makes count old mid)
    → OnOk result (H → IsNewImage mid → Formats l mid new) → OnOk result (H → IsSynced new) → OnOk result (H → MakesVolume l old new)
made_of l count old mid new H (Ok x) makes done synced = λ h. volume_made l count old mid new (makes h) (done h) (synced h)
made_of l count old mid new H (Err e) makes done synced = tt

-- ---- its line

pub untouched_by : (line : Line) (old new : Moment) → Utters (text line) old new → Ages old new
untouched_by line old new utters = record { image = utters.image; windows = utters.windows }

-- whichever of the moments since the last sync is on the disk behind it, the volume stands
pub holds_behind : {D : Type 0} (M : Ghosts D) (l : Layout) (line : Line) (m b : D) → IsTimed M m → IsTimed M b → Since M m b → LeavesOnly M.moment M.left_since m b (Utters (text line) (M.now m)) → IsSynced (M.now m) → HoldsVolume l (M.now m) → IsHeld M b (λ c. HoldsVolume l c)
holds_behind M l line m b at_m at_b since run synced holds =
    held_by M m b (Utters (text line) (M.now m)) (λ c. HoldsVolume l c) at_m at_b since run (held_synced M m (λ c. HoldsVolume l c) at_m synced holds)
    (λ c. HoldsVolume l c) (λ c was. was) (λ c utters. holds_on l (M.now m) c holds (untouched_by line (M.now m) c utters))

may_say : (planned : Result Layout LayoutFault) (place status : ℕ) (bytes : List ℕ) → SaysFor planned place status bytes → MaySay planned place bytes
may_say planned place status bytes (inl (is, all)) = inl all
may_say planned place status bytes (inr (is, all)) = inr all

pub format_said : (planned : Result Layout LayoutFault) (place : ℕ) (line : Line) (status : ℕ) (old mid new : Moment) (result : ℕ) → mid.said ≡ old.said → SaysFor planned place status (text line) → Utters (text line) mid new
    → EndsLast line status mid new result → SaysFormat planned place old new result
format_said planned place line status old mid new result quiet for utters (inl six) =
    inl (six, (text line, may_say planned place status (text line) for, utters.heard, utters.said ∙ ap (λ (s : List ℕ). s ++ take utters.heard (text line)) quiet))
format_said planned place line status old mid new result quiet for utters (inr (is, all)) =
    inr (text line, subst (λ (n : ℕ). SaysFor planned place n (text line)) (sym is) for, all.said ∙ ap (λ (s : List ℕ). s ++ text line) quiet)

-- ---- its status, by that of its line

pub made_status : (l : Layout) (result : ℕ) → IsStatusAs 0 result → IsFormatStatus (Ok l) result
made_status l result (inl is) = inl is
made_status l result (inr six) = inr (inr six)

pub failed_status : (l : Layout) (result : ℕ) → IsStatusAs 4 result → IsFormatStatus (Ok l) result
failed_status l result (inl four) = inr (inl four)
failed_status l result (inr six) = inr (inr six)

pub unplanned_status : (why : LayoutFault) (result : ℕ) → IsStatusAs 1 result → IsFormatStatus (Err why) result
unplanned_status why result (inl one) = inl one
unplanned_status why result (inr six) = inr six
