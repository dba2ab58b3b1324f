-- A record that is laid outlasts the loss of two adjacent sectors and the gap, since each sector lies so far from its copy.
use Rattle.std.proofs.Common.{◌≡◌, ◌⊎◌, inl, inr, ℕ, ◌+◌, ◌*◌, ◌<◌, ◌≤◌, false, List, length, Some, ap, ◌∙◌, arith}
use Rattle.fsd_formats.specs.Record.{Stamp, record_len}
use Rattle.fsd_log.specs.Judged.{Reader, sector_in, judged, record_in}
use Rattle.fsd_log.specs.Borne.{Foreign}
use Rattle.fsd_log.specs.Laid.{laid_bytes, slices_from, new_record, AreLaid}
use Rattle.fsd_log.proofs.JudgedLaws.{FrontStands, front_served, serving_with, firsts}
use Rattle.fsd_log.proofs.LaidLaws.{IsLaidAs, laid_as, images_at}
use Rattle.fsd_log.proofs.TornLaws.{ArePages, are_few, are_some}
use Rattle.fsd_log.proofs.WornLaws.{AsLaid, worn_there}

-- as it was laid, or lost with one of two adjacent sectors and the gap
abbrev pub IsLeft : (gap : ℕ) → Stamp → List ℕ → (w : ℕ) → Reader → ℕ → Type 0
IsLeft gap stamp bytes w at k = (at k ≡ Some (sector_in bytes k)) ⊎ (Foreign stamp (at k) × (w ≤ k) × (k < w + (2 + gap)))

module _ (gap : ℕ) (p : ℕ) (stamp : Stamp) (pages images : List ℕ) (laid : AreLaid p stamp pages images) (room : ℕ) (long : record_len gap (length pages) ≤ room) (at : Reader) where
  rows : IsLaidAs gap stamp pages images (laid_bytes gap stamp pages images)
  rows = laid_as gap stamp laid.fits pages images (are_few p pages laid.accepted) laid.long laid.stamped

  pages_are : ArePages p pages
  pages_are = record { accepted = laid.accepted; small = laid.small; few = are_few p pages laid.accepted }

  -- it is there by its first sectors
  pub laid_is_judged : ((k : ℕ) → k < record_len gap (length pages) → at k ≡ Some (sector_in (laid_bytes gap stamp pages images) k)) → judged gap p stamp room at ≡ Some (serving_with false pages false (firsts pages))
  laid_is_judged stand =
      let few : length pages ≤ 96 = are_few p pages laid.accepted in
      let stands : FrontStands gap stamp pages (slices_from 0 images (length pages)) at = record {
        header = stand 0 (omega arith) ∙ ap (λ (x : List ℕ). Some x) rows.header;
        whole = images_at stamp pages images 0 (3 + gap) at laid.stamped (λ j lt. stand (3 + gap + j) (omega arith) ∙ ap (λ (x : List ℕ). Some x) (rows.image j lt)
            ∙ ap (λ (k : ℕ). Some (sector_in images k)) (let e : j ≡ 0 + j = omega arith in e));
        ends = stand (3 + gap + length pages) (omega arith) ∙ ap (λ (x : List ℕ). Some x) rows.ends;
      } in
      front_served gap p stamp pages laid.accepted laid.small (omega arith) at room (slices_from 0 images (length pages)) stands long

  module _ (w : ℕ) (left : (k : ℕ) → k < record_len gap (length pages) → IsLeft gap stamp (laid_bytes gap stamp pages images) w at k) where
    as_laid : (k : ℕ) (bytes : List ℕ) → k < record_len gap (length pages) → sector_in (laid_bytes gap stamp pages images) k ≡ bytes → AsLaid stamp bytes (at k)
    as_laid k bytes lt is = elim (left k lt) [
      | inl stands ↦ inl (stands ∙ ap (λ (x : List ℕ). Some x) is)
      | inr lost ↦ inr lost.0
    ]

    one_of : (a b : ℕ) (bytes : List ℕ) → a + (2 + gap) ≤ b → b < record_len gap (length pages) → sector_in (laid_bytes gap stamp pages images) a ≡ bytes → sector_in (laid_bytes gap stamp pages images) b ≡ bytes
        → (at a ≡ Some bytes) ⊎ (at b ≡ Some bytes)
    one_of a b bytes apart lt first copy = elim (left a (omega arith)) [
      | inl stands ↦ inl (stands ∙ ap (λ (x : List ℕ). Some x) first)
      | inr lost ↦ elim (left b lt) [
        | inl stands ↦ inr (stands ∙ ap (λ (x : List ℕ). Some x) copy)
        | inr gone ↦ absurd (omega (arith, lost.1, lost.2, gone.1, gone.2))
      ]
    ]

    -- it is there by the copies
    pub laid_outlasts : record_in gap p stamp room at ≡ Some (new_record stamp pages images)
    laid_outlasts = worn_there gap p stamp laid.fits pages images pages_are laid.stamped room long at
        (record {
          header = as_laid 0 _ (omega arith) rows.header;
          header_copy = as_laid (2 + gap) _ (omega arith) rows.header_copy;
          first = λ j lt. as_laid (3 + gap + j) _ (omega arith) (rows.image j lt);
          copy = λ j lt. as_laid (4 + 2 * gap + length pages + j) _ (omega arith) (rows.copy j lt);
        })
        (record {
          headers = one_of 0 (2 + gap) _ (omega arith) (omega arith) rows.header rows.header_copy;
          ends = one_of (3 + gap + length pages) (4 + 2 * gap + 2 * length pages) _ (omega (arith, are_some p pages laid.accepted)) (omega arith) rows.ends rows.last;
          each = λ j lt. one_of (3 + gap + j) (4 + 2 * gap + length pages + j) _ (omega arith) (omega arith) (rows.image j lt) (rows.copy j lt);
        })
