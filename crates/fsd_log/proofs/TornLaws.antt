-- A record whose write was cut short is there from its end on, and not before.
use Rattle.std.proofs.Common.{◌≡◌, ℕ, ◌+◌, ◌*◌, ◌^◌, ◌<◌, ◌≤◌, true, List, length, Some, None, sym, ap, subst, ◌∙◌, arith, inl, inr, ◌⊎◌}
use Rattle.std.specs.List.{AllByRecursion, list_all}
use Rattle.std.specs.Prelude.{◌&&◌, nat_lt, nat_le}
use Rattle.std.proofs.lemmas.Bool.{cases_lt, and_parts, leb-true}
use Rattle.fsd_formats.specs.Record.{Stamp, header_bytes, are_pages, ascending, record_len}
use Rattle.fsd_bytes.specs.Names.{is_between}
use Rattle.fsd_log.specs.Judged.{Reader, sector_in, record_in}
use Rattle.fsd_log.specs.Borne.{Foreign, FitsStamp}
use Rattle.fsd_log.specs.Laid.{slices_from, new_record, IsTorn}
use Rattle.fsd_log.proofs.JudgedLaws.{FrontStands, front_judged, endless_absent}
use Rattle.fsd_log.proofs.LaidLaws.{IsLaidAs, images_at}

-- pages that a record of a table of p may have
pub record ArePages (p : ℕ) (pages : List ℕ) : Type 0 where
  pub accepted : are_pages p pages ≡ true
  pub small : AllByRecursion (λ n. n < 2 ^ 32) pages
  pub few : length pages ≤ 96

pub are_few : (p : ℕ) (pages : List ℕ) → are_pages p pages ≡ true → length pages ≤ 96
are_few p pages are =
    let outer = and_parts (is_between 1 96 (length pages) && ascending pages) (list_all (λ page. nat_lt page p) pages) are in
    let inner = and_parts (is_between 1 96 (length pages)) (ascending pages) outer.0 in
    leb-true (length pages) 96 (and_parts (nat_le 1 (length pages)) (nat_le (length pages) 96) inner.0).1

pub are_some : (p : ℕ) (pages : List ℕ) → are_pages p pages ≡ true → 1 ≤ length pages
are_some p pages are =
    let outer = and_parts (is_between 1 96 (length pages) && ascending pages) (list_all (λ page. nat_lt page p) pages) are in
    let inner = and_parts (is_between 1 96 (length pages)) (ascending pages) outer.0 in
    leb-true 1 (length pages) (and_parts (nat_le 1 (length pages)) (nat_le (length pages) 96) inner.0).0

module _ (gap : ℕ) (p : ℕ) (stamp : Stamp) (fits : FitsStamp stamp) (pages images bytes : List ℕ) (are : ArePages p pages) (laid : IsLaidAs gap stamp pages images bytes) (room : ℕ) (long : record_len gap (length pages) ≤ room)
    (stood : ℕ) (old new : Reader) (torn : IsTorn bytes stood old new) where
  pub there : 3 + gap + length pages < stood → record_in gap p stamp room new ≡ Some (new_record stamp pages images)
  there past =
      let stands : FrontStands gap stamp pages (slices_from 0 images (length pages)) new = record {
        header = torn.front 0 (omega arith) ∙ ap (λ (x : List ℕ). Some x) laid.header;
        whole = images_at stamp pages images 0 (3 + gap) new laid.stamped (λ j lt. torn.front (3 + gap + j) (omega arith) ∙ ap (λ (x : List ℕ). Some x) (laid.image j lt)
            ∙ ap (λ (k : ℕ). Some (sector_in images k)) (let e : j ≡ 0 + j = omega arith in e));
        ends = torn.front (3 + gap + length pages) past ∙ ap (λ (x : List ℕ). Some x) laid.ends;
      } in
      front_judged gap p stamp pages are.accepted are.small (omega (arith, are.few)) new room (slices_from 0 images (length pages)) stands long

  pub absent : ((k : ℕ) → Foreign stamp (old k)) → stood ≤ 3 + gap + length pages → record_in gap p stamp room new ≡ None
  absent none before =
      endless_absent gap p stamp pages are.accepted are.small (omega (arith, are.few)) new room fits (header 0 laid.header) (header (2 + gap) laid.header_copy) (foreign (3 + gap + length pages) (omega arith)) (foreign (4 + 2 * gap + 2 * length pages) (omega arith))
    where
      foreign : (k : ℕ) → stood ≤ k → Foreign stamp (new k)
      foreign k past = subst (Foreign stamp) (sym (torn.behind k past)) (none k)

      header : (k : ℕ) → sector_in bytes k ≡ header_bytes stamp pages → (new k ≡ Some (header_bytes stamp pages)) ⊎ Foreign stamp (new k)
      header k is = elim (cases_lt k stood) [ inl lt ↦ inl (torn.front k lt ∙ ap (λ (x : List ℕ). Some x) is) | inr past ↦ inr (foreign k past) ]
