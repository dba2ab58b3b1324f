-- A version's leader is written: the volume stays mounted, since nothing but a scrub looks at leaders.
use Rattle.std.proofs.Common.{◌≡◌, ◌≢◌, inl, ℕ, ◌≤◌, List, [], ◌∷◌, length, take, arith}
use Rattle.std.specs.Prelude.{IsTrue, nat_le, nat_lt}
use Rattle.std.specs.List.{AllByRecursion, AllZip}
use Rattle.std.proofs.lemmas.Bool.{and_parts, leb-true}
use Rattle.volume_layout.specs.declared.layout.Layout.{Layout}
use Rattle.volume_layout.specs.Layout.{data_start}
use Rattle.run_table.specs.Space.{contains}
use Rattle.run_table.proofs.SectorLaws.{first_there, rest_there}
use Rattle.fsd_formats.specs.declared.entry.Entry.{Entry}
use Rattle.sector_disk.specs.declared.sector.WeakRun.{WeakRun}
use Rattle.sector_disk.specs.Image.{sector_at}
use Rattle.fsd_files.specs.Disk.{Has, Image, Sectors, in_runs}
use Rattle.fsd_files.specs.Files.{Change, Files, after}
use Rattle.fsd_files.specs.Kept.{Describes, Kept, data_sectors, filled_slices}
use Rattle.fsd_files.specs.Volume.{is_in, plans_of}
use Rattle.fsd_files.specs.Waiting.{is_leader}
use Rattle.fsd_files.proofs.KeptLaws.{has_on}
use Rattle.fsd_files.proofs.LeaderLaws.{data_differs, leader_in_area}
use Rattle.fsd_sound.specs.Mounted.{HasOpen, IsMounted, Mounted}
use Rattle.fsd_sound.specs.Sound.{weak_of}
use Rattle.fsd_sound.proofs.FrontLaws.{SameFront, front_shows}
use Rattle.fsd_sound.proofs.MountedLaws.{own_same}

-- ---- the data of versions

zip_same : (hurt : Sectors) (i j : Image) (bs : List (List ℕ)) (ys : List ℕ) → ((t : ℕ) → IsTrue (contains ys t) → sector_at j t ≡ sector_at i t) → AllZip (Has hurt i) bs ys → AllZip (Has hurt j) bs ys
zip_same hurt i j [] [] agree kept = tt
zip_same hurt i j [] (y ∷ ys) agree kept = absurd kept
zip_same hurt i j (b ∷ bs) [] agree kept = absurd kept
zip_same hurt i j (b ∷ bs) (y ∷ ys) agree kept =
    (has_on hurt i j b y (inl (agree y (first_there y ys))) kept.0, zip_same hurt i j bs ys (λ t there. agree t (rest_there y t ys there)) kept.1)

module _ (i j : Image) (s : ℕ) (same : (t : ℕ) → t ≢ s → sector_at j t ≡ sector_at i t) where
  kept_beside : (hurt : Sectors) (files : Files) (entries : List Entry) → AllByRecursion (λ e. (t : ℕ) → IsTrue (contains (data_sectors e.runs) t) → t ≡ s → ⊥) entries → Kept i files entries hurt → Kept j files entries hurt
  kept_beside hurt [] [] differ kept = tt
  kept_beside hurt [] (e ∷ entries) differ kept = absurd kept
  kept_beside hurt (f ∷ files) [] differ kept = absurd kept
  kept_beside hurt (f ∷ files) (e ∷ entries) differ kept = (
    zip_same hurt i j (filled_slices f.1.bytes) (data_sectors e.runs) (λ t there. same t (differ.0 t there)) kept.0,
    kept_beside hurt files entries differ.1 kept.1,
  )

  described_beside : (l : Layout) (hurt : Sectors) (files : Files) (entries : List Entry) → (IsTrue (is_in (plans_of entries) s) → IsTrue (is_leader entries s)) → Describes l hurt i files entries → Describes l hurt j files entries
  described_beside l hurt files entries leads d = record { lists = d.lists; apart = d.apart; kept = kept_beside hurt files entries (data_differs l entries d.apart s leads) d.kept }

-- ---- the volume

-- the sector is a leader of the volume's, and what is open stands
pub leader_mounted : (m : Mounted) (windows : List WeakRun) (h : List Change) (f : ℕ) (i j : Image) (s : ℕ) → length j ≡ length i → IsTrue (is_leader m.volume.entries s) → ((t : ℕ) → t ≢ s → sector_at j t ≡ sector_at i t)
    → HasOpen (in_runs windows) j m → IsMounted m windows h f i → IsMounted m windows h f j
leader_mounted m windows h f i j s size leads same stands is =
    let inside = leader_in_area m.volume.layout m.volume.entries is.described.apart s leads in
    let from : data_start m.volume.layout ≤ s = leb-true (data_start m.volume.layout) s (and_parts (nat_le (data_start m.volume.layout) s) (nat_lt s m.volume.layout.sectors) inside).0 in
    let front : SameFront m.volume.layout i j = λ t lt. same t (λ e. omega (arith, lt, e, from)) in
    record {
      files = is.files;
      described = described_beside i j s same m.volume.layout (in_runs windows) m.volume.files m.volume.entries (λ planned. leads) is.described;
      count = is.count;
      few = is.few;
      epoch = is.epoch;
      third = is.third;
      room = is.room;
      in_memory = is.in_memory;
      spaced = is.spaced;
      open_ones = stands;
      disk = is.disk;
      records = is.records;
      over = record {
        shows = front_shows m.volume.layout windows (is.disk ∷ []) i j is.room front (omega (arith, size)) is.over.shows;
        own = own_same m.volume.layout m.anchor (weak_of windows) i j front is.third is.records m.head is.over.own;
        clean = is.over.clean;
      };
      forced = record {
        telling = is.forced.telling;
        told = is.forced.told;
        described = described_beside i j s same m.volume.layout (in_runs windows) (after (take f h)) is.forced.telling.entries (λ planned. is.forced.leaders s planned leads) is.forced.described;
        taken = is.forced.taken;
        leaders = is.forced.leaders;
      };
    }
