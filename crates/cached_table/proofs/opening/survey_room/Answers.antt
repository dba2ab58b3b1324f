use Rattle.std.proofs.Common.{◌≡◌, ◌<◌, ℕ, Bool, false, not, None, List, length, sym, ap, subst, ◌∙◌, arith}
use Rattle.std.specs.Prelude.{drop, slice_index_or}
use Rattle.volume_layout.specs.declared.layout.Layout.{Layout}
use Rattle.page_cache.specs.Cache.{CacheValue}
use Rattle.sector_disk.specs.Calls.{OnlyReads}
use Rattle.name_btree.specs.Fault.{outer_of}
use Rattle.fsd_sound.specs.Lost.{AreHomes, LostIn}
use Rattle.fsd_sound.specs.Mounting.{device_of_mount}
use Rattle.fsd_sound.specs.declared.fault.MountFault.{MountFault}
use Rattle.fsd_table.specs.Breaks.{Breaks}
use Rattle.table_pages.specs.Bringing.{IsTrusted, given_by}
use Rattle.table_pages.specs.Reads.{LosesFor}
use Rattle.table_pages.specs.Table.{fresh_step}
use Rattle.cached_table.specs.Looking.{images_by}
use Rattle.table_survey.specs.Survey.{IsSurveyed}
use Rattle.cached_table.specs.Opening.{IsNoTable, IsOpenFault, home_pages}
use Rattle.cached_table.specs.Surveying.{SurveyFails, SurveysOnly}
use Rattle.cached_table.specs.contracts.homes.HomesPageSource.TheImpl as at_home
use Rattle.cached_table.proofs.OpeningLaws.{as_many, clear_marks, still_marks, lost_told, no_table, opens_fault, reads_told, table_of}
use Rattle.cached_table.proofs.opening.survey_room.Goals as goal

pub survey_in-counts-requires-clause-clear : goal.survey_in-counts-requires-clause-clear
survey_in-counts-requires-clause-clear g c = clear_marks c.as_mut_slice.result.now c.args.l.now.pages (c.as_mut_slice.ensures.value ∙ c.requires.room.marks)

pub returns-in-Ok-clause-opened : goal.returns-in-Ok-clause-opened
returns-in-Ok-clause-opened g c =
    let only = c.in-Ok.ensures.only in
    let fresh = c.requires.room in
    let marks = c.survey_in-counts.new.marks in
    let many : c.args.room.marks.len ≡ length marks = omega (arith, c.as_mut_slice.ensures.len, c.in-Ok.ensures.long) in
    let same : c.as_slice.result.now ≡ marks = c.as_slice.ensures.value ∙ still_marks marks (drop (length marks) c.args.room.marks.items) c.args.room.marks.len many in
    record {
      frames_are = only.frames ∙ ap (λ (x : CacheValue). x.frames) fresh.cache;
      dirty = only.dirty ∙ ap (λ (x : CacheValue). x.dirty) fresh.cache;
      unpinned = only.unpinned;
      pages = c.free_unmarked.ensures.count ∙ ap (λ (xs : List Bool). length xs) same ∙ c.in-Ok.ensures.long ∙ as_many c.as_mut_slice.result.now c.args.l.now.pages (c.as_mut_slice.ensures.value ∙ fresh.marks);
      map = c.in-Ok.ensures.told.area_is;
    }

pub returns-in-Ok-clause-table : goal.returns-in-Ok-clause-table
returns-in-Ok-clause-table g c honest knows =
    let M = g.M.Machine in
    let l = c.args.l.now in
    let room = c.args.room in
    let fresh = c.requires.room in
    let m = c.args.m.now in let m' = c.survey_in-counts.new.m in
    let of_l = c.by-source.ensures in
    let marks = c.survey_in-counts.new.marks in
    let many : c.args.room.marks.len ≡ length marks = omega (arith, c.as_mut_slice.ensures.len, c.in-Ok.ensures.long) in
    let same : c.as_slice.result.now ≡ marks = c.as_slice.ensures.value ∙ still_marks marks (drop (length marks) c.args.room.marks.items) c.args.room.marks.len many in
    let long = c.in-Ok.ensures.long ∙ as_many c.as_mut_slice.result.now l.pages (c.as_mut_slice.ensures.value ∙ fresh.marks) in
    table_of M l c.requires.planned m m' room.cache c.survey_in-counts.new.cache fresh.cache room.free_pages fresh.free_pages c.home_a-home_a.result c.home_a-home_a.ensures.place honest knows None
    (subst (λ (k : Layout). SurveysOnly M at_home.ghosts k None m m' room.cache c.survey_in-counts.new.cache (length room.free_pages)) of_l c.in-Ok.ensures.only)
    c.survey_in-counts.new.map marks c.free_unmarked.new.free c.in-Ok.counts
    (subst (λ (k : Layout). IsTrusted M at_home.ghosts k m room.cache m' → IsSurveyed l (fresh_step (given_by M at_home.ghosts k m) room.cache room.free_pages c.home_a-home_a.result) c.survey_in-counts.new.map marks c.in-Ok.counts) of_l c.in-Ok.ensures.told.surveyed)
    (subst (λ (k : Layout). IsTrusted M at_home.ghosts k m room.cache m' → (page : ℕ) → Breaks l (images_by M at_home.ghosts k m room.cache (length room.free_pages)) page → ⊥) of_l c.in-Ok.ensures.told.unbroken)
    c.in-Ok.ensures.told.counted long (c.free_unmarked.ensures.count ∙ ap (λ (xs : List Bool). length xs) same) (subst (λ (xs : List Bool). (page : ℕ) → page < length xs → slice_index_or c.free_unmarked.new.free page false ≡ not (slice_index_or xs page false)) same c.free_unmarked.ensures.free)

pub returns-in-Err-clause-cause : goal.returns-in-Err-clause-cause
returns-in-Err-clause-cause g c = subst IsOpenFault (sym c.survey_fault.ensures) (opens_fault c.home_a-home_a.result c.in-Err.fault)

pub returns-in-Err-clause-reads : goal.returns-in-Err-clause-reads
returns-in-Err-clause-reads g c =
    let M = g.M.Machine in
    let m = c.args.m.now in let m' = c.survey_in-counts.new.m in
    subst (λ (told : MountFault). OnlyReads M (device_of_mount told) m m') (sym c.survey_fault.ensures) (reads_told M c.args.l.now m m' c.home_a-home_a.result c.in-Err.fault c.in-Err.ensures.only.reads)

pub returns-in-Err-clause-lost : goal.returns-in-Err-clause-lost
returns-in-Err-clause-lost g c honest =
    let M = g.M.Machine in
    let l = c.args.l.now in
    subst (λ (told : MountFault). LostIn (AreHomes l) (M.now c.survey_in-counts.new.m).image told) (sym c.survey_fault.ensures)
    (lost_told M l c.survey_in-counts.new.m c.home_a-home_a.result c.in-Err.fault (subst (λ (k : Layout). LosesFor M at_home.ghosts k (outer_of c.in-Err.fault) c.survey_in-counts.new.m) c.by-source.ensures c.in-Err.ensures.only.loses) honest)

pub returns-in-Err-clause-no_table : goal.returns-in-Err-clause-no_table
returns-in-Err-clause-no_table g c honest knows =
    let M = g.M.Machine in
    let l = c.args.l.now in
    let room = c.args.room in
    let fresh = c.requires.room in
    let m = c.args.m.now in let m' = c.survey_in-counts.new.m in
    let of_l = c.by-source.ensures in
    subst (IsNoTable l (home_pages l (M.now m).image)) (sym c.survey_fault.ensures)
    (no_table M l c.requires.planned m m' room.cache c.survey_in-counts.new.cache fresh.cache room.free_pages fresh.free_pages c.home_a-home_a.result c.home_a-home_a.ensures.place honest knows c.in-Err.fault
    (subst (λ (k : Layout). SurveysOnly M at_home.ghosts k (outer_of c.in-Err.fault) m m' room.cache c.survey_in-counts.new.cache (length room.free_pages)) of_l c.in-Err.ensures.only)
    (subst (λ (k : Layout). SurveyFails M at_home.ghosts k l m m' room.cache room.free_pages c.home_a-home_a.result c.in-Err.fault) of_l c.in-Err.ensures.fault))
