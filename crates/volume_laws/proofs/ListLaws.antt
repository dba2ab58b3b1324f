-- What a volume tells of pages is of those that it has in memory.
use Rattle.std.proofs.Common.{◌≡◌, inl, inr, ℕ, Bool, false, List, length, sym, ap, subst, ◌∙◌, arith}
use Rattle.std.specs.Prelude.{slice_index_or}
use Rattle.std.proofs.lemmas.Bool.{cases_lt}
use Rattle.std.proofs.lemmas.List.{get_or_past}
use Rattle.volume_layout.specs.declared.layout.Layout.{Layout}
use Rattle.run_table.specs.Space.{contains, where_free}
use Rattle.sector_set.proofs.FreeLaws.{contains_where, contains_where_outside}
use Rattle.fsd_log.specs.Scan.{Placed}
use Rattle.fsd_sound.specs.Mounted.{Mounted}
use Rattle.fsd_log.specs.Slots.{AreLastSlots}
use Rattle.volume_contract.specs.State.{ListsPages}
use Rattle.volume_laws.specs.State.{IsMemoryOf, state}
use Rattle.volume_laws.specs.Volume.{VolumeValue}

-- a page is in the list of the free ones where its flag says so
spare_page : (flags : List Bool) (page : ℕ) → contains (where_free (λ p. slice_index_or flags p false) 0 (length flags)) page ≡ slice_index_or flags page false
spare_page flags page = elim (cases_lt page (length flags)) [
  | inl within ↦ contains_where (λ p. slice_index_or flags p false) 0 (length flags) page (omega arith) within
  | inr past ↦ contains_where_outside (λ p. slice_index_or flags p false) 0 (length flags) page (λ from to. omega (arith, past, to)) ∙ sym (get_or_past flags page false past)
]

pub lists_of : (v : VolumeValue) (m : Mounted) (records : List Placed) → IsMemoryOf v m records → ListsPages (state v) m.pages records
lists_of v m records holds = record {
  table = holds.fits.table ∙ ap (λ (l : Layout). l.pages) holds.log;
  slots = subst (λ (l : Layout). AreLastSlots l v.log.anchor.third records v.log.slots) holds.log holds.indexed.slots;
  free_pages = λ page lt. spare_page v.free_pages page ∙ holds.free_pages page lt;
}
