-- The volume of a sound disk that is mounted by its saved map: it is that of the table that its pages are.
use Rattle.std.proofs.Common.{◌≡◌, ℕ, ◌-◌, List, Option, Some, None, Ok, Err, refl, sym, subst, ◌∙◌}
use Rattle.std.specs.Prelude.{IfSome, Result}
use Rattle.std.proofs.lemmas.Option.{same_Some}
use Rattle.volume_layout.specs.declared.layout.Layout.{Layout}
use Rattle.sector_disk.specs.declared.machine.Machine.{Ghosts}
use Rattle.sector_disk.specs.declared.sector.WeakRun.{WeakRun}
use Rattle.sector_disk.specs.Image.{AreShort}
use Rattle.sector_disk.specs.Machine.{Moment}
use Rattle.fsd_formats.specs.SavedMap.{MapCounts}
use Rattle.fsd_table.specs.Table.{Telling}
use Rattle.fsd_files.specs.Files.{Change}
use Rattle.fsd_files.specs.Space.{Apart}
use Rattle.fsd_files.specs.Volume.{plans_of}
use Rattle.fsd_sound.specs.Choices.{TellsChoices}
use Rattle.fsd_sound.specs.Saved.{AreSaved}
use Rattle.fsd_sound.specs.declared.fault.MountFault.{MountFault}
use Rattle.log_thirds.specs.LogValue.{LogValue}
use Rattle.mount_recover.specs.Replay.{IsReplayed}
use Rattle.saved_map.specs.declared.believing.SavedMap.{SavedMap}
use Rattle.saved_map.specs.Reading.{Believes, IsOfMap}
use Rattle.cached_table.specs.Opening.{IsNoTable, IsTableOf, home_pages, opened_by}
use Rattle.cached_table.proofs.SavedLaws.{saved_table}
use Rattle.volume_contract.specs.Mount.{IsSoundAt}
use Rattle.volume_laws.specs.Volume.{VolumeValue}
use Rattle.table_volume.specs.Mounting.{OpensKnown, OpensSaved}
use Rattle.table_volume.proofs.BelievedLaws.{are_saved}
use Rattle.table_volume.proofs.SettledLaws.{files_settled, later, one_size, pages_home}
use Rattle.table_volume.proofs.UnbrokenLaws.{told_unbroken}

module _ (sectors : ℕ) (l : Layout) (windows : List WeakRun) (h : List Change) (f : ℕ) (old : Moment) (begun : IsSoundAt sectors l windows h f old) (lists : TellsChoices l windows h f old.image)
    (log : LogValue) (mid : Moment) (done : IsReplayed l windows lists.choices log.anchor.epoch mid) (short : AreShort mid.windows) where
  module _ (saved : SavedMap) (counts : MapCounts) (marked : List (List ℕ)) (are : AreSaved l counts marked done.after.pages) (of : IsOfMap l counts marked saved) where
    -- the sectors of the versions that the pages tell lie apart
    apart_saved : Apart l (plans_of are.telling.entries)
    apart_saved =
        let files = files_settled sectors l windows h f old begun lists log mid done short in
        let same : are.telling ≡ files.telling = same_Some are.telling files.telling (sym are.told ∙ files.told) in
        subst (λ (t : Telling). Apart l (plans_of t.entries)) (sym same) files.described.apart

    -- what is opened is the table that stands at home
    table_opened : IsTableOf l (home_pages l mid.image) (opened_by saved)
    table_opened =
        let pages = done.after.pages in
        subst (λ (ps : List (List ℕ)). IsTableOf l ps (opened_by saved)) (sym (pages_home sectors l windows h f old begun lists log mid done short))
        (saved_table l counts marked pages are (one_size l (later sectors l windows h f old begun lists log mid done short) pages mid.image done.after.shows) (opened_by saved) apart_saved
        (told_unbroken l begun.planned pages are.telling are.told apart_saved) refl of.versions of.map of.pages of.flags)

    opens_table : (r : Result VolumeValue MountFault) → OpensSaved saved r → OpensKnown l mid r
    opens_table (Ok v) opened = subst (IsTableOf l (home_pages l mid.image)) (sym opened) table_opened
    opens_table (Err fault) memory = subst (λ (x : MountFault). IsNoTable l (home_pages l mid.image) x) (sym memory) tt

-- so the volume is made as if the table had been walked
pub opens_sound : (sectors : ℕ) (l : Layout) (windows : List WeakRun) (h : List Change) (f : ℕ) {D : Type 0} (M : Ghosts D) (a b : D) (begun : IsSoundAt sectors l windows h f (M.now a)) (lists : TellsChoices l windows h f (M.now a).image)
    → (log : LogValue) (mid : Moment) (done : IsReplayed l windows lists.choices log.anchor.epoch mid) (short : AreShort mid.windows) → M.honest b → (saved : Option SavedMap) → IfSome saved (Believes M l (log.anchor.epoch - 1) a b)
    → (r : Result VolumeValue MountFault) → IfSome saved (λ x. OpensSaved x r) → (saved ≡ None → OpensKnown l mid r) → OpensKnown l mid r
opens_sound sectors l windows h f M a b begun lists log mid done short honest None believes r opens walked = walked refl
opens_sound sectors l windows h f M a b begun lists log mid done short honest (Some saved) believes r opens walked =
    let pages = done.after.pages in
    let are = are_saved M l (log.anchor.epoch - 1) a b saved believes honest pages (lists.saved pages done.after.chosen) in
    opens_table sectors l windows h f (M.now a) begun lists log mid done short saved believes.counts believes.sectors are believes.is r opens
