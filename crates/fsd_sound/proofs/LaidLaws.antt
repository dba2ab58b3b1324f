-- On a disk: the log whose records stand as they were laid is the same, however a narrow run wears.
use Rattle.std.proofs.Common.{◌≡◌, ◌⊎◌, inl, inr, ⊎_elim, ℕ, zero, suc, ◌+◌, ◌*◌, ◌^◌, ◌<◌, ◌≤◌, List, [], ◌∷◌, length, get_or, Some, None, sym, ap, subst, ◌∙◌, arith}
use Rattle.std.specs.List.{AllByRecursion}
use Rattle.std.proofs.lemmas.Bool.{cases_lt}
use Rattle.volume_layout.specs.declared.layout.Layout.{Layout}
use Rattle.volume_layout.specs.Root.{root_bytes}
use Rattle.volume_layout.specs.Kinds.{gap_of}
use Rattle.fsd_formats.specs.declared.anchor.Anchor.{Anchor}
use Rattle.fsd_formats.specs.Record.{Stamp, end_bytes, record_len}
use Rattle.sector_disk.specs.Image.{IsWorn}
use Rattle.fsd_log.specs.Judged.{Reader}
use Rattle.fsd_log.specs.Borne.{Foreign}
use Rattle.fsd_log.specs.Scan.{IsIn, Head, Placed, Walked, start, place_of, tape}
use Rattle.fsd_log.proofs.AppendLaws.{none_foreign}
use Rattle.fsd_log.proofs.PlaceLaws.{place_add, end_most}
use Rattle.fsd_log.proofs.TornLaws.{are_some}
use Rattle.fsd_log.proofs.WalkLaws.{stamp_of, IsFound, found_goes_on, Goes}
use Rattle.fsd_log.proofs.HereLaws.{here_some}
use Rattle.fsd_files.specs.Disk.{Image, Sectors, Has, bytes_of, bytes_at}
use Rattle.fsd_files.proofs.WearLaws.{has_still}
use Rattle.fsd_sound.specs.Laid.{AllStand, HasFront, HasCopies, AllLaid, HasOwnLog}
use Rattle.fsd_sound.specs.Shown.{scan_by, records_by}
use Rattle.fsd_sound.proofs.LogPlaces.{on_tape, off_tape, IsRecord, found_record, start_in, scan_goes}
use Rattle.fsd_sound.proofs.SavedLaws.{stays_open, worn_closes}
use Rattle.fsd_sound.proofs.SoundLaws.{each_anchor_after}
use Rattle.fsd_sound.specs.Windows.{IsApart}
use Rattle.fsd_log.proofs.RecordFacts.{read_as}
use Rattle.fsd_log.proofs.RobustLaws.{length_more, OrNone, rows_of, StandsOn, scan_again}

-- what stands or is damaged does so where it is worn
pub has_worn : (weak : Sectors) (i j : Image) (bytes : List ℕ) (s : ℕ) → IsWorn weak i j → Has weak i bytes s → Has weak j bytes s
has_worn weak i j bytes s w (inl is) = ⊎_elim (λ same. inl (same ∙ is)) (λ hurt. inr hurt) (w.each s)
has_worn weak i j bytes s w (inr hurt) = inr (hurt.0, ⊎_elim (λ same. same ∙ hurt.1) (λ worse. worse.1) (w.each s))

stand_worn : (l : Layout) (a : Anchor) (weak : Sectors) (i j : Image) (s : ℕ) (xs : List (List ℕ)) → IsWorn weak i j → AllStand l a weak i s xs → AllStand l a weak j s xs
stand_worn l a weak i j s [] w stand = tt
stand_worn l a weak i j s (bytes ∷ more) w stand = (has_worn weak i j bytes s w stand.0, stand_worn l a weak i j (s + 1) more w stand.1)

pub front_worn : (l : Layout) (a : Anchor) (weak : Sectors) (i j : Image) (r : Placed) → IsWorn weak i j → HasFront l a weak i r → HasFront l a weak j r
front_worn l a weak i j r w front = record {
  header = has_worn weak i j _ _ w front.header;
  header_copy = has_worn weak i j _ _ w front.header_copy;
  pages = stand_worn l a weak i j _ _ w front.pages;
}

pub all_laid_worn : (l : Layout) (a : Anchor) (weak : Sectors) (i j : Image) (rs : List Placed) → IsWorn weak i j → AllLaid l a weak i rs → AllLaid l a weak j rs
all_laid_worn l a weak i j [] w laid = tt
all_laid_worn l a weak i j (r ∷ rs) w laid = ((front_worn l a weak i j r w laid.0.0, stand_worn l a weak i j _ _ w laid.0.1), all_laid_worn l a weak i j rs w laid.1)

pub stand_at : (l : Layout) (a : Anchor) (weak : Sectors) (i : Image) (s : ℕ) (xs : List (List ℕ)) → AllStand l a weak i s xs → (k : ℕ) → k < length xs → Has weak i (get_or xs k []) (s + k)
stand_at l a weak i s [] stand k lt = absurd (omega arith)
stand_at l a weak i s (x ∷ xs) stand zero lt = let at : s ≡ s + 0 = omega arith in subst (Has weak i x) at stand.0
stand_at l a weak i s (x ∷ xs) stand (suc k) lt = let at : (s + 1) + k ≡ s + suc k = omega arith in subst (Has weak i (get_or xs k [])) at (stand_at l a weak i (s + 1) xs stand.1 k (omega arith))

-- as a reader sees it
reads_none : (weak : Sectors) (i : Image) (bytes : List ℕ) (s : ℕ) → Has weak i bytes s → OrNone bytes (bytes_at i s)
reads_none weak i bytes s (inl is) = inl (ap bytes_of is)
reads_none weak i bytes s (inr hurt) = inr (ap bytes_of hurt.1)

one_reads : (gap : ℕ) → (weak : Sectors) (i : Image) (bytes : List ℕ) (s t : ℕ) → IsApart gap weak → s + (2 + gap) ≤ t → Has weak i bytes s → Has weak i bytes t → (bytes_at i s ≡ Some bytes) ⊎ (bytes_at i t ≡ Some bytes)
one_reads gap weak i bytes s t apart far (inl is) second = inl (ap bytes_of is)
one_reads gap weak i bytes s t apart far (inr hurt) (inl is) = inr (ap bytes_of is)
one_reads gap weak i bytes s t apart far (inr hurt) (inr worse) = absurd (apart s t far hurt.0 worse.0)

module _ (l : Layout) (a : Anchor) (weak : Sectors) (apart : IsApart (gap_of l) weak) (i : Image) where
  -- a record that was laid whole reads so on the tape
  pub laid_reads : (r : Placed) → IsRecord l a.third r → 1 ≤ length r.entry.pages → HasFront l a weak i r → HasCopies l a weak i r → StandsOn (gap_of l) a.epoch (tape l a.third (bytes_at i)) r
  laid_reads r is some front copies = record {
    header = subst (OrNone _) (at_disk 0 (omega arith)) (reads_none weak i _ _ (subst (Has weak i _) (let e : place_of l a.third r.at ≡ place_of l a.third r.at + 0 = omega arith in e) front.header));
    header_copy = subst (OrNone _) (at_disk (2 + gap_of l) (omega arith)) (reads_none weak i _ _ front.header_copy);
    headers = one_at 0 (2 + gap_of l) _ (omega arith) (omega arith) (subst (Has weak i _) (let e : place_of l a.third r.at ≡ place_of l a.third r.at + 0 = omega arith in e) front.header) front.header_copy;
    row = λ k le. subst (OrNone _) (at_disk (3 + (gap_of l) + k) (omega arith)) (reads_none weak i _ _ (row_has k le));
    copy = λ k le. subst (OrNone _) (at_disk (4 + 2 * (gap_of l) + length r.entry.pages + k) (omega arith)) (reads_none weak i _ _ (copy_has k le));
    one = λ k le. one_at (3 + (gap_of l) + k) (4 + 2 * (gap_of l) + length r.entry.pages + k) _ (omega arith) (omega arith) (row_has k le) (copy_has k le);
  }
    where
      stamp : Stamp
      stamp = stamp_of a.epoch r.entry.number

      many : length (rows_of (stamp_of a.epoch r.entry.number) r.entry) ≡ length r.entry.pages + 1
      many = length_more r.entry.images (end_bytes (stamp_of a.epoch r.entry.number) (length r.entry.pages)) ∙ ap (λ (n : ℕ). n + 1) is.images

      inside : (k : ℕ) → k < record_len (gap_of l) (length r.entry.pages) → r.at + k < 3 * l.third
      inside k lt = omega (arith, is.inside.to, end_most l is.end is.inside.ends)

      at_disk : (k : ℕ) → k < record_len (gap_of l) (length r.entry.pages) → bytes_at i (place_of l a.third r.at + k) ≡ tape l a.third (bytes_at i) (r.at + k)
      at_disk k lt = ap (bytes_at i) (sym (place_add l a.third r.at (record_len (gap_of l) (length r.entry.pages)) is.end k is.inside lt)) ∙ sym (on_tape l a.third (r.at + k) (bytes_at i) (inside k lt))

      row_has : (k : ℕ) → k ≤ length r.entry.pages → Has weak i (get_or (rows_of (stamp_of a.epoch r.entry.number) r.entry) k []) (place_of l a.third r.at + (3 + (gap_of l) + k))
      row_has k le = let e : place_of l a.third r.at + 3 + (gap_of l) + k ≡ place_of l a.third r.at + (3 + (gap_of l) + k) = omega arith in subst (Has weak i _) e (stand_at l a weak i _ _ front.pages k (omega (arith, many)))

      copy_has : (k : ℕ) → k ≤ length r.entry.pages → Has weak i (get_or (rows_of (stamp_of a.epoch r.entry.number) r.entry) k []) (place_of l a.third r.at + (4 + 2 * (gap_of l) + length r.entry.pages + k))
      copy_has k le = let e : place_of l a.third r.at + (4 + 2 * (gap_of l) + length r.entry.pages) + k ≡ place_of l a.third r.at + (4 + 2 * (gap_of l) + length r.entry.pages + k) = omega arith in
          subst (Has weak i _) e (stand_at l a weak i _ _ copies k (omega (arith, many)))

      one_at : (k m : ℕ) (bytes : List ℕ) → k + (2 + gap_of l) ≤ m → m < record_len (gap_of l) (length r.entry.pages) → Has weak i bytes (place_of l a.third r.at + k) → Has weak i bytes (place_of l a.third r.at + m)
          → (tape l a.third (bytes_at i) (r.at + k) ≡ Some bytes) ⊎ (tape l a.third (bytes_at i) (r.at + m) ≡ Some bytes)
      one_at k m bytes far lt first second = ⊎_elim (λ x. inl (sym (at_disk k (omega arith)) ∙ x)) (λ x. inr (sym (at_disk m lt) ∙ x))
          (one_reads (gap_of l) weak i bytes (place_of l a.third r.at + k) (place_of l a.third r.at + m) apart (omega arith) first second)

-- a record that is found has some pages
some_pages : (l : Layout) (epoch : ℕ) (disk : Reader) (h : Head) (r : Placed) (h1 : Head) → IsFound l epoch disk h r h1 → 1 ≤ length r.entry.pages
some_pages l epoch disk h r h1 is = are_some l.pages r.entry.pages (read_as (gap_of l) l.pages (stamp_of epoch h.number) _ _ r.entry (here_some l epoch disk h.number r.at is.end r.entry is.found).1).accepted

module _ (l : Layout) (small : l.pages ≤ 2 ^ 32) (a : Anchor) (fits : a.epoch < 2 ^ 32) (low : a.third ≤ 2) (weak : Sectors) (apart : IsApart (gap_of l) weak) (i j : Image) (w : IsWorn weak i j) where
  pub tape_less : (x : ℕ) → (tape l a.third (bytes_at j) x ≡ tape l a.third (bytes_at i) x) ⊎ (tape l a.third (bytes_at j) x ≡ None)
  tape_less x = elim (cases_lt x (3 * l.third)) [
    | inr past ↦ inl (off_tape l a.third x (bytes_at j) past ∙ sym (off_tape l a.third x (bytes_at i) past))
    | inl lt ↦ ⊎_elim
        (λ same. inl (on_tape l a.third x (bytes_at j) lt ∙ ap bytes_of same ∙ sym (on_tape l a.third x (bytes_at i) lt)))
        (λ hurt. inr (on_tape l a.third x (bytes_at j) lt ∙ ap bytes_of hurt.1)) (w.each (place_of l a.third x))
  ]

  pub all_read : (h : Head) (rs : List Placed) (end : Head) → IsIn l h → Goes l a.epoch (tape l a.third (bytes_at i)) h rs end → AllLaid l a weak i rs → AllByRecursion (StandsOn (gap_of l) a.epoch (tape l a.third (bytes_at j))) rs
  all_read h [] end is_in goes laid = tt
  all_read h (r ∷ rs) end is_in goes laid =
      let one = found_goes_on l a.epoch (tape l a.third (bytes_at i)) h r goes.0 is_in goes.1 in (
        laid_reads l a weak apart j r (found_record l a.epoch a.third low (tape l a.third (bytes_at i)) h r goes.0 is_in goes.1) (some_pages l a.epoch (tape l a.third (bytes_at i)) h r goes.0 goes.1)
            (front_worn l a weak i j r w laid.0.0) (stand_worn l a weak i j _ _ w laid.0.1),
        all_read goes.0 rs end one.is_in goes.2 laid.1,
      )

  -- the scan stays
  pub laid_scan : AllLaid l a weak i (records_by l i a) → scan_by l j a ≡ scan_by l i a
  laid_scan laid = scan_again l small a.epoch fits (tape l a.third (bytes_at i)) (tape l a.third (bytes_at j)) tape_less a.first
      (all_read (start l a.first) (records_by l i a) (scan_by l i a).head (start_in l a.first) (scan_goes l a.epoch a.first (tape l a.third (bytes_at i))) laid)

  -- the volume's own log stays its own
  pub own_worn : (rs : List Placed) (h : Head) → HasOwnLog l a rs h weak i → HasOwnLog l a rs h weak j
  own_worn rs h own =
      let is : records_by l i a ≡ rs = ap (λ (x : Walked). x.records) own.log.scanned in
      record {
        roots = (has_still weak weak i j (λ s is. is) w (root_bytes l) 0 own.roots.0, has_still weak weak i j (λ s is. is) w (root_bytes l) 4 own.roots.1);
        own = each_anchor_after weak i j w (λ b. b ≡ a) (λ b. b ≡ a) (λ b e. e) own.own;
        opened = stays_open i j (worn_closes weak i j w) own.opened;
        log = record {
          scanned = laid_scan (subst (AllLaid l a weak i) (sym is) own.laid) ∙ own.log.scanned;
          fresh = λ at number from. ⊎_elim (λ same. subst (Foreign (stamp_of a.epoch number)) (sym same) (own.log.fresh at number from))
              (λ none. subst (Foreign (stamp_of a.epoch number)) (sym none) (none_foreign (stamp_of a.epoch number))) (tape_less at);
        };
        laid = all_laid_worn l a weak i j rs w own.laid;
      }
