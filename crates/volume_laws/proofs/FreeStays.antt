-- Free sectors behind a force: they are free still, and a version that was written there stands.
use Rattle.std.proofs.Common.{◌≡◌, ℕ, ◌<◌, ◌≤◌, Bool, true, ◌||◌, List, [], ◌∷◌, sym, ap, subst, ◌∙◌, arith}
use Rattle.std.specs.Prelude.{IsFalse, IsTrue, IfSome, nat_le, nat_lt, slice_get, ◌&&◌, ◌==◌}
use Rattle.std.proofs.lemmas.Bool.{and_parts, and_right, le-ltb, leb-true, ne_eqb, or_from, or_left}
use Rattle.volume_layout.specs.declared.layout.Layout.{Layout}
use Rattle.volume_layout.specs.Layout.{data_start, home_a, home_b, is_data}
use Rattle.volume_layout.proofs.GrownLaws.{most_least}
use Rattle.run_table.specs.declared.run.Run.{Run}
use Rattle.run_table.specs.RunTable.{sectors_of}
use Rattle.run_table.specs.Space.{contains, runs_of}
use Rattle.run_table.proofs.SectorLaws.{first_there}
use Rattle.sector_set.proofs.FreeLaws.{contains_where}
use Rattle.shadow_frees.specs.Readers.{unheld}
use Rattle.sector_disk.specs.Image.{Windows, open_damage, sector_at}
use Rattle.sector_disk.specs.Machine.{Moment, Wears}
use Rattle.fsd_formats.specs.declared.entry.Entry.{Entry}
use Rattle.fsd_formats.specs.Leader.{leader_bytes, leader_of}
use Rattle.fsd_files.specs.Answers.{HasVersion}
use Rattle.fsd_files.specs.Disk.{Has, Image, SectorWorn, Sectors, Touches}
use Rattle.fsd_files.specs.Volume.{is_free}
use Rattle.fsd_files.proofs.CountLaws.{contains_occurs, occurs, occurs_contains, runs_same}
use Rattle.fsd_files.proofs.KeptLaws.{has_on, kept_in_worn}
use Rattle.fsd_sound.specs.Sound.{is_home}
use Rattle.fsd_sound.specs.Writes.{force_writes}
use Rattle.table_survey.proofs.DataLaws.{of_data_within}
use Rattle.volume_contract.specs.State.{IsForced, Known, Stands, State}
use Rattle.volume_laws.specs.State.{IsMemoryOf, freed_sectors, state}
use Rattle.volume_laws.specs.Volume.{IsWholeVolume, VolumeValue}
use Rattle.volume_laws.proofs.ForcedLaws.{from_is, to_is}

-- ---- free still

-- what has the same runs has the same sectors
same_runs_have : (xs ys : List ℕ) → runs_of xs ≡ runs_of ys → (s : ℕ) → IsTrue (contains xs s) → IsTrue (contains ys s)
same_runs_have xs ys same s there =
    let some : 0 < occurs s xs = contains_occurs s xs there in
    let one = runs_same s xs in
    let two = runs_same s ys in
    let both : occurs s (sectors_of (runs_of xs)) ≡ occurs s (sectors_of (runs_of ys)) = ap (λ (runs : List Run). occurs s (sectors_of runs)) same in
    occurs_contains s ys (omega (arith, some, one, two, both))

-- what is free is free behind a force
pub freed_has : (v w : VolumeValue) → IsWholeVolume v → IsForced (state v) (state w) → (s : ℕ) → IsTrue (contains v.map.sectors s) → IsTrue (contains w.map.sectors s)
freed_has v w whole is s there =
    let bounds = of_data_within v.layout v.map whole.map s there in
    let low : v.map.from ≤ s = omega (arith, from_is v whole, bounds.0) in
    let high : s < v.map.to = omega (arith, to_is v whole, bounds.1, most_least v.layout whole.planned) in
    let test : ℕ → Bool = λ t. contains v.map.sectors t || contains (unheld v.shadow.held v.shadow.removed).sectors t in
    let freed : IsTrue (contains (freed_sectors v) s) = contains_where test v.map.from v.map.to s low high ∙ or_left (contains v.map.sectors s) (contains (unheld v.shadow.held v.shadow.removed).sectors s) there in
    same_runs_have (freed_sectors v) w.map.sectors (sym (ap (λ (x : State). x.free) is.is)) s freed

-- ---- a version that was written there

-- a force writes before the data area
unforced : (l : Layout) (s : ℕ) → IsTrue (is_data l s) → IsFalse (force_writes l s)
unforced l s data_there =
    let from : data_start l ≤ s = leb-true (data_start l) s (and_parts (nat_le (data_start l) s) (nat_lt s l.sectors) data_there).0 in
    or_from ((s == 8) || (s == 12) || nat_le 16 s && nat_lt s (home_a l 0)) (is_home l s)
    (or_from ((s == 8) || (s == 12)) (nat_le 16 s && nat_lt s (home_a l 0))
    (or_from (s == 8) (s == 12) (ne_eqb s 8 (λ e. omega (arith, e, from))) (ne_eqb s 12 (λ e. omega (arith, e, from))))
    (and_right (nat_le 16 s) (nat_lt s (home_a l 0)) (le-ltb s (home_a l 0) (omega (arith, from)))))
    (or_from (nat_le (home_a l 0) s && nat_lt s (home_a l l.pages)) (nat_le (home_b l 0) s && nat_lt s (home_b l l.pages))
    (and_right (nat_le (home_a l 0) s) (nat_lt s (home_a l l.pages)) (le-ltb s (home_a l l.pages) (omega (arith, from))))
    (and_right (nat_le (home_b l 0) s) (nat_lt s (home_b l l.pages)) (le-ltb s (home_b l l.pages) (omega (arith, from)))))

-- a sector that a standing volume has free lies in the data area
pub free_data : (v : VolumeValue) (k : Known) (now : Moment) → Stands state IsMemoryOf v k now → (s : ℕ) → IsTrue (contains v.map.sectors s) → IsTrue (is_data v.layout s)
free_data v k now stands s there = subst (λ (l : Layout). IsTrue (is_data l s)) stands.fits.layout (first_part (sym (stands.holds.map s) ∙ there))
  where
    first_part : is_free k.mounted.volume s ≡ true → IsTrue (is_data k.mounted.volume.layout s)
    first_part free = (and_parts (is_data k.mounted.volume.layout s) _ (and_parts _ _ free).0).0

first_stays : (weak : Sectors) (i j : Image) (bytes : List ℕ) (xs : List ℕ) → ((s : ℕ) → IsTrue (contains xs s) → SectorWorn (weak s) (sector_at i s) (sector_at j s)) → IfSome (slice_get xs 0) (Has weak i bytes) → IfSome (slice_get xs 0) (Has weak j bytes)
first_stays weak i j bytes [] agree has = tt
first_stays weak i j bytes (x ∷ xs) agree has = has_on weak i j bytes x (agree x (first_there x xs)) has

version_kept : (weak : Sectors) (i j : Image) (bytes : List ℕ) (e : Entry) → ((s : ℕ) → IsTrue (contains (sectors_of e.runs) s) → SectorWorn (weak s) (sector_at i s) (sector_at j s)) → HasVersion weak i bytes e → HasVersion weak j bytes e
version_kept weak i j bytes e agree version = record {
  leader = first_stays weak i j (leader_bytes (leader_of e)) (sectors_of e.runs) agree version.leader;
  data_there = kept_in_worn weak i j bytes e.runs agree version.data_there;
}

pub version_stays : (l : Layout) (old new : Moment) (bytes : List ℕ) (e : Entry) → new.windows ≡ old.windows → ((s : ℕ) → IsTrue (contains (sectors_of e.runs) s) → IsTrue (is_data l s)) → Touches (force_writes l) old new
    → HasVersion (open_damage old.windows) old.image bytes e → HasVersion (open_damage new.windows) new.image bytes e
version_stays l old new bytes e windows among touches version =
    subst (λ (w : Windows). HasVersion (open_damage w) new.image bytes e) (sym windows)
    (version_kept (open_damage old.windows) old.image new.image bytes e (λ s there. touches.others s (unforced l s (among s there))) version)

-- and while its disk wears
pub version_worn : (old new : Moment) (bytes : List ℕ) (e : Entry) → Wears old new → HasVersion (open_damage old.windows) old.image bytes e → HasVersion (open_damage new.windows) new.image bytes e
version_worn old new bytes e wears version =
    subst (λ (w : Windows). HasVersion (open_damage w) new.image bytes e) (sym wears.windows) (version_kept (open_damage old.windows) old.image new.image bytes e (λ s there. wears.image.each s) version)
