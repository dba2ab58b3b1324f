-- What look-ups in a volume's table leave of the volume, and what they tell, over any machine.
use Rattle.std.specs.Prelude.{◌≡◌, ◌<◌, ◌≤◌, ℕ, true, Contains, IfErr, IfOk, IfSome, IsTrue, List, Option, Result}
use Rattle.std.specs.List.{AllByRecursion}
use Rattle.run_table.specs.declared.run.Run.{Run}
use Rattle.run_table.specs.RunTable.{sectors_of}
use Rattle.run_table.specs.Space.{contains}
use Rattle.sector_disk.specs.declared.machine.Machine.{Ghosts}
use Rattle.sector_disk.specs.declared.sector.Sector.TheVariants.{Damaged}
use Rattle.sector_disk.specs.Calls.{OnlyReads, device_in}
use Rattle.sector_disk.specs.Image.{sector_at}
use Rattle.fsd_bytes.specs.declared.key.Key.{Key}
use Rattle.fsd_bytes.specs.declared.refusal.Refusal.{Refusal}
use Rattle.fsd_formats.specs.declared.entry.Entry.{Entry}
use Rattle.fsd_formats.specs.NamePage.{is_entry}
use Rattle.fsd_files.specs.Disk.{Image}
use Rattle.fsd_files.specs.Kept.{IsWhole, range_sectors}
use Rattle.name_btree.specs.declared.lookup.FoundEntry.{FoundEntry}
use Rattle.volume_contract.specs.Causes.{Causes, IsTaken}
use Rattle.volume_contract.specs.Ends.{count_in, device_of}
use Rattle.volume_contract.specs.Healing.{IsMet}
use Rattle.volume_contract.specs.Order.{IsLookUp}
use Rattle.volume_contract.specs.State.{Known, Stands, volume_of}
use Rattle.volume_contract.specs.Telling.{TellsEntry}
use Rattle.volume_laws.specs.Behind.{IsBehind}
use Rattle.volume_laws.specs.State.{IsMemoryOf, resident, state}
use Rattle.volume_laws.specs.Taken.{are_taken, met_entry}
use Rattle.volume_laws.specs.Volume.{VolumeValue}

-- ---- entries

-- Pages are read into the cache, and nothing else is changed: the volume stands as it stood. A refusal is one of a look-up,
-- and has its cause; what is in memory then was there before, or stood in a copy. What is found is an entry by the grammar,
-- in a page of the table; where its sectors are not taken, that is the page's fault. The entries of a volume that stands
-- are all taken, and what is taken is told so.
pub record LooksInto {D : Type 0} (M : Ghosts D) (old new : VolumeValue) (before now : D) (result : Result (Option FoundEntry) Refusal) : Type 0 where
  pub disk : OnlyReads M (device_in device_of result) before now
  pub cache : new ≡ record old { cache = new.cache }
  pub dirty : new.cache.dirty ≡ old.cache.dirty
  pub stands : M.honest now → (k : Known) → Stands state IsMemoryOf old k (M.now before) → Stands state IsMemoryOf new k (M.now now)
  pub cause : IfErr result IsLookUp
  pub causes : Causes M (resident old) (state old) (state new) before now result
  pub behind : M.honest now → IsBehind (state old) (state new) (resident old) (resident new) (M.now before) (M.now now)
  pub page : IfOk result (λ found. IfSome found (λ f. f.page < old.layout.pages))
  pub entry : IfOk result (λ found. IfSome found (λ f. is_entry f.entry ≡ true))
  pub met : IfOk result (λ found. IfSome found (λ f. Causes M (resident old) (state old) (state new) before now (met_entry new f.page f.entry)))
  pub taken : M.honest now → (k : Known) → Stands state IsMemoryOf old k (M.now before) → (e : Entry) → Contains (volume_of k).entries e → IsTrue (are_taken new e.runs)
  pub told : (e : Entry) → IsTrue (are_taken new e.runs) → IsTaken (state new) e

-- It is told as the calls of a volume tell an entry; it was met in the table, and its sectors are taken then.
pub record GivesEntry {D : Type 0} (M : Ghosts D) (old new : VolumeValue) (before now : D) (key : Key) (result : Result Entry Refusal) : Type 0 where
  pub tells : TellsEntry M (resident old) (state old) (state new) before now key (λ e. e) result
  pub met : IfOk result (IsMet (state old))
  pub here : IfOk result (λ e. IsTrue (are_taken new e.runs))

-- ---- bytes

-- The sector is one of the runs, and damaged in the image.
pub record IsDamagedOf (runs : List Run) (i : Image) (s : ℕ) : Type 0 where
  pub there : IsTrue (contains (sectors_of runs) s)
  pub damaged : sector_at i s ≡ Damaged

-- So many bytes are read as the entry has from a place on, up to the buffer's room. The range's sectors were whole.
pub record CountsRange {D : Type 0} (M : Ghosts D) (e : Entry) (from room : ℕ) (before now : D) (result : Result ℕ Refusal) : Type 0 where
  pub most : IfOk result (λ n. n ≤ room)
  pub count : IfOk result (λ n. n ≡ count_in e.length from room)
  pub whole : IfOk result (λ n. M.honest now → AllByRecursion (IsWhole (M.now before).image) (range_sectors e.runs from n))
