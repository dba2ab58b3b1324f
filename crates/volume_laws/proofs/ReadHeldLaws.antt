-- What a read of a version that is held gives.
use Rattle.std.proofs.Common.{◌≡◌, inl, inr, ℕ, zero, suc, true, List, [], ◌∷◌, Option, Some, None, Result, Ok, Err, sym, ap, subst, ◌∙◌, option_map}
use Rattle.std.specs.Prelude.{IfErr, slice_index_or}
use Rattle.std.specs.List.{AllByRecursion}
use Rattle.run_table.specs.declared.run.Run.{Run}
use Rattle.fsd_bytes.specs.declared.refusal.Refusal.{Refusal}
use Rattle.fsd_bytes.specs.declared.refusal.Refusal.TheVariants as Why
use Rattle.sector_disk.specs.Machine.{Moment}
use Rattle.fsd_files.specs.Disk.{in_runs}
use Rattle.fsd_files.specs.Kept.{KeptIn}
use Rattle.volume_contract.specs.declared.token.Held.{Held}
use Rattle.volume_contract.specs.Order.{Data, Follows, IsData, Test, held_steps, is_idle}
use Rattle.volume_contract.specs.State.{Known, HeldVersion, Stands, State, readings}
use Rattle.volume_laws.specs.State.{IsMemoryOf, state}
use Rattle.volume_laws.specs.Volume.{VolumeValue}
use Rattle.volume_laws.proofs.OpenedLaws.{zip_each}
use Rattle.volume_laws.proofs.PieceLaws.{mounted_opened}
use Rattle.volume_laws.proofs.ReaderLaws.{some_at}

-- ---- the steps

pub held_follows : (s : State) (r : Result ℕ Refusal) → option_map Why.Down s.down ≡ None → IfErr r IsData → Follows (held_steps s) r
held_follows s (Ok n) up cause = (up, (tt, tt))
held_follows s (Err why) up cause = inr (up, inl cause)

busy : (down : Option ℕ) → option_map Why.Down down ≡ None → is_idle (Test (option_map Why.Down down) ∷ Data ∷ []) ≡ true → ⊥
busy None up idle = absurd (cc idle)
busy (Some s) up idle = absurd (cc up)

pub busy_held : (s : State) → option_map Why.Down s.down ≡ None → is_idle (held_steps s) ≡ true → ⊥
busy_held s up idle = busy s.down up idle

-- ---- its bytes

read_there : (P : HeldVersion → Type 0) (places : List (Option HeldVersion)) (p : ℕ) (x : HeldVersion) → slice_index_or places p None ≡ Some x → AllByRecursion P (readings places) → P x
read_there P [] p x is all = absurd (cc is)
read_there P (None ∷ places) zero x is all = absurd (cc is)
read_there P (None ∷ places) (suc p) x is all = read_there P places p x is all
read_there P (Some y ∷ places) zero x is all = let same : y ≡ x = cc is in subst P same all.0
read_there P (Some y ∷ places) (suc p) x is all = read_there P places p x is all.1

-- the disk keeps them in the sectors of the version
pub held_kept : (v : VolumeValue) (k : Known) (now : Moment) (h : Held) (x : HeldVersion) → Stands state IsMemoryOf v k now → slice_index_or (state v).readers h.place None ≡ Some h.entry.runs → slice_index_or k.opened.readers h.place None ≡ Some x
    → KeptIn now.image (in_runs k.windows) x.bytes h.entry.runs
held_kept v k now h x stands there is =
    let all = zip_each (KeptIn now.image (in_runs k.windows)) (λ y. y.bytes) (λ y. y.runs) (readings k.opened.readers) (mounted_opened v k now stands).open_ones.held in
    let kept : KeptIn now.image (in_runs k.windows) x.bytes x.runs = read_there (λ y. KeptIn now.image (in_runs k.windows) y.bytes y.runs) k.opened.readers h.place x is all in
    let found = some_at k.opened.readers h.place h.entry.runs (ap (λ (readers : List (Option (List Run))). slice_index_or readers h.place None) (sym stands.opened.places) ∙ there) in
    let same : found.0 ≡ x = (let e = sym found.1 ∙ is in cc e) in
    subst (λ (runs : List Run). KeptIn now.image (in_runs k.windows) x.bytes runs) (ap (λ (y : HeldVersion). y.runs) (sym same) ∙ found.2) kept
