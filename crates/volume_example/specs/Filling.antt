-- What a version that is made and read back tells its caller.
use Rattle.std.specs.Prelude.{◌≡◌, ⊤, ℕ, List, [], ◌∷◌, ◌++◌, Some, None, IsTrue, Result, Ok, Err}
use Rattle.std.specs.FinMap.{find}
use Rattle.fsd_bytes.specs.declared.key.Key.{Key}
use Rattle.fsd_bytes.specs.declared.refusal.Refusal.{Refusal}
use Rattle.fsd_bytes.specs.declared.refusal.Refusal.TheVariants as Why
use Rattle.fsd_bytes.specs.Keys.{key_cmp}
use Rattle.sector_disk.specs.declared.sector.Sector.TheVariants.{Damaged}
use Rattle.sector_disk.specs.Image.{open_damage, sector_at}
use Rattle.sector_disk.specs.Machine.{Moment}
use Rattle.fsd_log.specs.Scan.{Placed}
use Rattle.fsd_files.specs.Answers.{put_outcome}
use Rattle.fsd_files.specs.Files.{Change, File}
use Rattle.fsd_sound.specs.Mounted.{Mounted}
use Rattle.volume_contract.specs.Ends.{EndsRefused}
use Rattle.volume_contract.specs.State.{State, Known, Stands, volume_of}
use Rattle.volume_example.specs.declared.fault.ExampleFault.{ExampleFault}
use Rattle.volume_example.specs.declared.fault.ExampleFault.TheVariants.{Behind, Put, Unsynced}

-- The volume has a version of this key with these bytes.
pub record HasBytes (key : Key) (bytes : List ℕ) (k : Known) : Type 0 where
  pub file : File
  pub there : find key_cmp key (volume_of k).files ≡ Some file
  pub same : file.bytes ≡ bytes

-- where a sector reads damaged it is so, and the open window may wear it; else the disk failed, or memory was refused
abbrev pub IsUnreadCause : Moment → Refusal → Type 0
IsUnreadCause now (Why.Damaged s) = (sector_at now.image s ≡ Damaged) × IsTrue (open_damage now.windows s)
IsUnreadCause now (Why.Device s) = ⊤
IsUnreadCause now Why.Memory = ⊤
IsUnreadCause now other = ⊥

module _ {S : Type 0} (state : S → State) (has : S → Mounted → List Placed → Type 0) where
  -- The volume stands; its changes are those before and this put; its version of the key has the bytes.
  pub record HasPut (name bytes : List ℕ) (k : Known) (new : S) (now : Moment) (key : Key) : Type 0 where
    pub after : Known
    pub stands : Stands state has new after now
    pub changes : after.changes ≡ k.changes ++ Change.Put name None bytes ∷ []
    pub version : HasBytes key bytes after

  -- a put that is refused, and what stands then
  abbrev pub IsNotPut : (name bytes : List ℕ) → Known → S → Moment → Refusal → Type 0
  IsNotPut name bytes k new now why = EndsRefused state has (λ met. put_outcome met (volume_of k) name bytes None) k new now why

  -- what is read is what was put
  abbrev pub EndsRead : (name bytes : List ℕ) → Known → S → Moment → (buf : List ℕ) → Result Key ExampleFault → Type 0
  EndsRead name bytes k new now buf (Ok key) = HasPut name bytes k new now key × (buf ≡ bytes)
  EndsRead name bytes k new now buf (Err (Put why)) = IsNotPut name bytes k new now why
  EndsRead name bytes k new now buf (Err (Behind key why)) = HasPut name bytes k new now key × IsUnreadCause now why
  EndsRead name bytes k new now buf (Err (Unsynced key place)) = ⊥
