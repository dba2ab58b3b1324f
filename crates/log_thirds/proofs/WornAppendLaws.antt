-- A record that is written behind the last one, whole or in part, on a disk that wears.
use Rattle.std.proofs.Common.{◌≡◌, ℕ, ◌+◌, ◌-◌, ◌*◌, ◌^◌, ◌<◌, ◌≤◌, Bool, List, [], ◌∷◌, ◌++◌, length, Some, None, nat_lt, refl, sym, ap, subst, ◌∙◌, arith, inl, inr, ◌⊎◌, ⊎_elim}
use Rattle.std.specs.Prelude.{IsTrue}
use Rattle.std.proofs.lemmas.Bool.{cond-true, lt-ltb, cases_lt}
use Rattle.volume_layout.specs.Shape.{Shape}
use Rattle.volume_layout.specs.Kinds.{gap_of}
use Rattle.fsd_formats.specs.Record.{header_bytes, end_bytes, record_len}
use Rattle.fsd_log.specs.Judged.{Reader, sector_in}
use Rattle.fsd_log.specs.Borne.{borne_by, Foreign, FitsStamp}
use Rattle.fsd_log.proofs.JudgedLaws.{foreign_absent, endless_absent}
use Rattle.fsd_log.proofs.LaidLaws.{IsLaidAs}
use Rattle.fsd_log.proofs.TornLaws.{ArePages}
use Rattle.fsd_log.specs.Laid.{new_record}
use Rattle.fsd_log.proofs.WornLaws.{AsLaid, ReadsLaid, OneStands, laid_or_none, worn_there}
use Rattle.fsd_log.proofs.HereLaws.{here_looks, here_none}
use Rattle.fsd_log.specs.Scan.{IsIn, Head, Placed, Walked, room_at, window, record_here, next, scan, start, IsLog}
use Rattle.fsd_log.proofs.WalkLaws.{stamp_of, head_behind, IsFound, Goes, GoesFar, goes_far, goes_of_walk, goes_more, walk_of_goes, none_next, TapeLess, goes_keeps}
use Rattle.fsd_log.proofs.AppendLaws.{IsSpot, none_foreign, window_foreign, two_stamps}
use Rattle.volume_layout.proofs.KindLaws.{gap_most}

-- the first sectors of a write stand on the tape, but where they may have worn; the others are as they were
pub record TapeWorn (weak : ℕ → Bool) (bytes : List ℕ) (at stood : ℕ) (old new : Reader) : Type 0 where
  pub front : (k : ℕ) → k < stood → (new (at + k) ≡ Some (sector_in bytes k)) ⊎ (IsTrue (weak (at + k)) × (new (at + k) ≡ None))
  pub below : (w : ℕ) → w < at → new w ≡ old w
  pub above : (w : ℕ) → at + stood ≤ w → new w ≡ old w

module _ (l : Shape) (epoch first : ℕ) (fits : epoch < 2 ^ 32) (third : 0 < l.third) (old new : Reader) (rs : List Placed) (h : Head) (log : IsLog l epoch first old rs h) (small : h.number < 2 ^ 32 - 1)
    (pages images bytes : List ℕ) (are : ArePages l.pages pages) (laid : IsLaidAs (gap_of l) (stamp_of epoch h.number) pages images bytes)
    (spot : Head) (is_spot : IsSpot l (length pages) h spot) (weak : ℕ → Bool) (stood : ℕ) (within : stood ≤ record_len (gap_of l) (length pages)) (torn : TapeWorn weak bytes spot.at stood old new) where
  stamp_fits : (m : ℕ) → m < 2 ^ 32 → FitsStamp (stamp_of epoch m)
  stamp_fits m lt = record { epoch = fits; number = lt }

  pub start_in : IsIn l (start l first)
  start_in = record { before = omega arith; from = omega arith; ends = inl refl }

  goes : Goes l epoch old (start l first) rs h
  unfolding scan
  goes = subst (λ (w : Walked). Goes l epoch old (start l first) w.records w.head) log.scanned (goes_of_walk (3 * l.third) l epoch old (start l first))

  far : GoesFar l (start l first) rs h
  far = goes_far l epoch old (start l first) rs h start_in goes

  -- a sector of the write bears this number or none
  other_number : (w m : ℕ) → (m ≡ h.number → ⊥) → (new w ≡ old w) ⊎ Foreign (stamp_of epoch m) (new w)
  other_number w m other = elim (cases_lt w spot.at) [
    | inl below ↦ inl (torn.below w below)
    | inr from ↦ elim (cases_lt w (spot.at + stood)) [
      | inr above ↦ inl (torn.above w above)
      | inl inside ↦
          let k : ℕ = w - spot.at in
          let at : spot.at + (w - spot.at) ≡ w = omega arith in
          inr (subst (λ (x : ℕ). Foreign (stamp_of epoch m) (new x)) at (⊎_elim
          (λ is. subst (Foreign (stamp_of epoch m)) (sym is) (foreign_row (sector_in bytes (w - spot.at)) (laid.borne (w - spot.at) (omega arith))))
          (λ hurt. subst (Foreign (stamp_of epoch m)) (sym hurt.1) (none_foreign (stamp_of epoch m)))
          (torn.front (w - spot.at) (omega arith))))
    ]
  ]
    where
      foreign_row : (row : List ℕ) → (borne_by row ≡ Some (stamp_of epoch h.number)) ⊎ (borne_by row ≡ None) → Foreign (stamp_of epoch m) (Some row)
      foreign_row row (inl is) e = other (two_stamps epoch m h.number row e is)
      foreign_row row (inr none) e = absurd (cc (none, e))

  less : TapeLess epoch h.number old new
  less = record { each = λ w m lt. other_number w m (λ e. absurd (omega arith)) }

  spot_from : h.at ≤ spot.at
  spot_from = elim is_spot.place [ inl here ↦ omega (arith, here.0) | inr there ↦ omega (arith, there.1, far.is_in.before) ]

  -- the records before stay
  goes_new : Goes l epoch new (start l first) rs h
  goes_new = goes_keeps l epoch fits old new (start l first) rs h start_in (omega (arith, small)) less (λ w lt. torn.below w (omega (arith, spot_from))) goes

  -- behind the write, and before it, stand the old sectors
  old_foreign : (w m : ℕ) → h.number ≤ m → (w < spot.at) ⊎ (spot.at + stood ≤ w) → Foreign (stamp_of epoch m) (new w)
  old_foreign w m from (inl below) = subst (Foreign (stamp_of epoch m)) (sym (torn.below w below)) (log.fresh w m from)
  old_foreign w m from (inr above) = subst (Foreign (stamp_of epoch m)) (sym (torn.above w above)) (log.fresh w m from)

  -- nothing of a later number
  pub fresh_after : (w m : ℕ) → h.number + 1 ≤ m → Foreign (stamp_of epoch m) (new w)
  fresh_after w m from = ⊎_elim (λ same. subst (Foreign (stamp_of epoch m)) (sym same) (log.fresh w m (omega arith))) (λ foreign. foreign) (other_number w m (λ e. absurd (omega arith)))

  -- a place where only old sectors are looked at has no such record
  none_at : (m at end : ℕ) → h.number ≤ m → m < 2 ^ 32 → ((k : ℕ) → k < room_at at end → (at + k < spot.at) ⊎ (spot.at + stood ≤ at + k)) → record_here l epoch new m at end ≡ None
  none_at m at end from lt where_ =
      here_none l epoch new m at end
      (foreign_absent (gap_of l) l.pages (stamp_of epoch m) (stamp_fits m lt) (room_at at end) (window new at (room_at at end))
      (window_foreign (stamp_of epoch m) new at (room_at at end) (λ k inside. old_foreign (at + k) m from (where_ k inside))))

  roomy : record_len (gap_of l) (length pages) ≤ room_at spot.at spot.end
  roomy = omega (arith, is_spot.fits, are.few, gap_most l)

  -- in the window each sector is as laid, or bears nothing of it
  in_window : (k : ℕ) → k < record_len (gap_of l) (length pages) → AsLaid (stamp_of epoch h.number) (sector_in bytes k) (window new spot.at (room_at spot.at spot.end) k)
  in_window k lt =
      let seen : window new spot.at (room_at spot.at spot.end) k ≡ new (spot.at + k) = cond-true (nat_lt k (room_at spot.at spot.end)) (new (spot.at + k)) None (lt-ltb k (room_at spot.at spot.end) (omega (arith, roomy))) in
      subst (AsLaid (stamp_of epoch h.number) (sector_in bytes k)) (sym seen)
      (elim (cases_lt k stood) [
        | inl front ↦ ⊎_elim (λ is. inl is) (λ hurt. inr (subst (Foreign (stamp_of epoch h.number)) (sym hurt.1) (none_foreign (stamp_of epoch h.number)))) (torn.front k front)
        | inr past ↦ inr (old_foreign (spot.at + k) h.number (omega arith) (inr (omega arith)))
      ])

  as_laid : (k : ℕ) (row : List ℕ) → k < record_len (gap_of l) (length pages) → sector_in bytes k ≡ row → AsLaid (stamp_of epoch h.number) row (window new spot.at (room_at spot.at spot.end) k)
  as_laid k row lt is = subst (λ (r : List ℕ). AsLaid (stamp_of epoch h.number) r (window new spot.at (room_at spot.at spot.end) k)) is (in_window k lt)

  reads_laid : ReadsLaid (gap_of l) (stamp_of epoch h.number) pages images (window new spot.at (room_at spot.at spot.end))
  reads_laid = record {
    header = as_laid 0 (header_bytes (stamp_of epoch h.number) pages) (omega arith) laid.header;
    header_copy = as_laid (2 + (gap_of l)) (header_bytes (stamp_of epoch h.number) pages) (omega arith) laid.header_copy;
    first = λ j lt. as_laid (3 + (gap_of l) + j) (sector_in images j) (omega arith) (laid.image j lt);
    copy = λ j lt. as_laid (4 + 2 * (gap_of l) + length pages + j) (sector_in images j) (omega arith) (laid.copy j lt);
  }

  past_foreign : (k : ℕ) → stood ≤ k → k < record_len (gap_of l) (length pages) → Foreign (stamp_of epoch h.number) (window new spot.at (room_at spot.at spot.end) k)
  past_foreign k past lt =
      let seen : window new spot.at (room_at spot.at spot.end) k ≡ new (spot.at + k) = cond-true (nat_lt k (room_at spot.at spot.end)) (new (spot.at + k)) None (lt-ltb k (room_at spot.at spot.end) (omega (arith, roomy))) in
      subst (Foreign (stamp_of epoch h.number)) (sym seen) (old_foreign (spot.at + k) h.number (omega arith) (inr (omega arith)))

  -- at the spot itself
  spot_none : stood ≤ 3 + (gap_of l) + length pages → record_here l epoch new h.number spot.at spot.end ≡ None
  spot_none before =
      here_none l epoch new h.number spot.at spot.end
      (endless_absent (gap_of l) l.pages (stamp_of epoch h.number) pages are.accepted are.small (omega (arith, are.few)) (window new spot.at (room_at spot.at spot.end)) (room_at spot.at spot.end) (stamp_fits h.number (omega (arith, small)))
      reads_laid.header reads_laid.header_copy (past_foreign (3 + (gap_of l) + length pages) before (omega arith)) (past_foreign (4 + 2 * (gap_of l) + 2 * length pages) (omega arith) (omega arith)))

  spot_either : (record_here l epoch new h.number spot.at spot.end ≡ None) ⊎ (record_here l epoch new h.number spot.at spot.end ≡ Some (new_record (stamp_of epoch h.number) pages images))
  spot_either =
      ⊎_elim (λ none. inl (here_none l epoch new h.number spot.at spot.end none)) (λ some. inr (here_looks l epoch new h.number spot.at spot.end small ∙ some))
      (laid_or_none (gap_of l) l.pages (stamp_of epoch h.number) (stamp_fits h.number (omega (arith, small))) pages images are (room_at spot.at spot.end) (window new spot.at (room_at spot.at spot.end)) reads_laid)

  -- of two sectors that lie so far apart one stands
  one_of : stood ≡ record_len (gap_of l) (length pages) → ((k d : ℕ) → k + d < record_len (gap_of l) (length pages) → 2 + (gap_of l) ≤ d → IsTrue (weak (spot.at + k)) → IsTrue (weak (spot.at + (k + d))) → ⊥)
      → (k d : ℕ) (row : List ℕ) → k + d < record_len (gap_of l) (length pages) → 2 + (gap_of l) ≤ d → sector_in bytes k ≡ row → sector_in bytes (k + d) ≡ row
      → (window new spot.at (room_at spot.at spot.end) k ≡ Some row) ⊎ (window new spot.at (room_at spot.at spot.end) (k + d) ≡ Some row)
  one_of whole narrow k d row lt apart is is_copy =
      let seen : window new spot.at (room_at spot.at spot.end) k ≡ new (spot.at + k) = cond-true (nat_lt k (room_at spot.at spot.end)) (new (spot.at + k)) None (lt-ltb k (room_at spot.at spot.end) (omega (arith, roomy))) in
      let seen_copy : window new spot.at (room_at spot.at spot.end) (k + d) ≡ new (spot.at + (k + d)) = cond-true (nat_lt (k + d) (room_at spot.at spot.end)) (new (spot.at + (k + d))) None (lt-ltb (k + d) (room_at spot.at spot.end) (omega (arith, roomy))) in
      ⊎_elim
      (λ stands. inl (seen ∙ stands ∙ ap (λ (x : List ℕ). Some x) is))
      (λ hurt. ⊎_elim
      (λ stands. inr (seen_copy ∙ stands ∙ ap (λ (x : List ℕ). Some x) is_copy))
      (λ too. absurd (narrow k d lt apart hurt.0 too.0))
      (torn.front (k + d) (omega arith)))
      (torn.front k (omega arith))

  spot_there : stood ≡ record_len (gap_of l) (length pages) → ((k d : ℕ) → k + d < record_len (gap_of l) (length pages) → 2 + (gap_of l) ≤ d → IsTrue (weak (spot.at + k)) → IsTrue (weak (spot.at + (k + d))) → ⊥)
      → 1 ≤ length pages → record_here l epoch new h.number spot.at spot.end ≡ Some (new_record (stamp_of epoch h.number) pages images)
  spot_there whole narrow some =
      let n : ℕ = length pages in
      let at : Reader = window new spot.at (room_at spot.at spot.end) in
      let copy_end : 3 + (gap_of l) + length pages + (1 + (gap_of l) + length pages) ≡ 4 + 2 * (gap_of l) + 2 * length pages = omega arith in
      let one : OneStands (gap_of l) (stamp_of epoch h.number) pages images (window new spot.at (room_at spot.at spot.end)) = record {
        headers =
            let copy_at : 0 + (2 + (gap_of l)) ≡ 2 + (gap_of l) = omega arith in
            subst (λ (k : ℕ). (window new spot.at (room_at spot.at spot.end) 0 ≡ Some (header_bytes (stamp_of epoch h.number) pages)) ⊎ (window new spot.at (room_at spot.at spot.end) k ≡ Some (header_bytes (stamp_of epoch h.number) pages))) copy_at
            (one_of whole narrow 0 (2 + (gap_of l)) (header_bytes (stamp_of epoch h.number) pages) (omega arith) (omega arith) laid.header (ap (sector_in bytes) copy_at ∙ laid.header_copy));
        ends = subst (λ (k : ℕ). (window new spot.at (room_at spot.at spot.end) (3 + (gap_of l) + length pages) ≡ Some (end_bytes (stamp_of epoch h.number) (length pages))) ⊎ (window new spot.at (room_at spot.at spot.end) k ≡ Some (end_bytes (stamp_of epoch h.number) (length pages)))) copy_end
            (one_of whole narrow (3 + (gap_of l) + length pages) (1 + (gap_of l) + length pages) (end_bytes (stamp_of epoch h.number) (length pages)) (omega arith) (omega arith) laid.ends (ap (sector_in bytes) copy_end ∙ laid.last));
        each = λ j lt.
            let copy_at : 3 + (gap_of l) + j + (1 + (gap_of l) + length pages) ≡ 4 + 2 * (gap_of l) + length pages + j = omega arith in
            subst (λ (k : ℕ). (window new spot.at (room_at spot.at spot.end) (3 + (gap_of l) + j) ≡ Some (sector_in images j)) ⊎ (window new spot.at (room_at spot.at spot.end) k ≡ Some (sector_in images j))) copy_at
            (one_of whole narrow (3 + (gap_of l) + j) (1 + (gap_of l) + length pages) (sector_in images j) (omega arith) (omega arith) (laid.image j lt) (ap (sector_in bytes) copy_at ∙ laid.copy j lt));
      } in
      here_looks l epoch new h.number spot.at spot.end small
      ∙ worn_there (gap_of l) l.pages (stamp_of epoch h.number) (stamp_fits h.number (omega (arith, small))) pages images are laid.stamped (room_at spot.at spot.end) roomy (window new spot.at (room_at spot.at spot.end)) reads_laid one

  -- where it isn't at the spot, the scan is the old one
  scan_none : record_here l epoch new h.number spot.at spot.end ≡ None → scan l epoch new first ≡ record { records = rs; head = h }
  unfolding scan
  scan_none none_here = walk_of_goes (3 * l.third) l epoch new (start l first) rs h start_in (omega arith) goes_new none
    where
      none : next l epoch new h ≡ None
      none = elim is_spot.place [
        | inl here ↦ none_next l epoch new h
            ((λ i. record_here l epoch new h.number (sym here.0 i) (sym here.1 i)) ∙ none_here)
            (none_at h.number h.end (h.end + l.third) (omega arith) (omega (arith, small)) (λ k inside. inr (omega (arith, here.1, is_spot.fits))))
        | inr enters ↦ none_next l epoch new h
            (none_at h.number h.at h.end (omega arith) (omega (arith, small)) (λ k inside. inl (omega (arith, enters.1))))
            ((λ i. record_here l epoch new h.number (sym enters.1 i) (sym enters.2 i)) ∙ none_here)
      ]

  new_placed : Placed
  new_placed = record { at = spot.at; entry = new_record (stamp_of epoch h.number) pages images }

  -- where it is, the scan has it
  scan_some : record_here l epoch new h.number spot.at spot.end ≡ Some (new_record (stamp_of epoch h.number) pages images) → scan l epoch new first ≡ record { records = rs ++ record { at = spot.at; entry = new_record (stamp_of epoch h.number) pages images } ∷ []; head = record { number = h.number + 1; at = spot.at + record_len (gap_of l) (length pages); end = spot.end } }
  unfolding new_placed scan
  scan_some found_here =
      let found : IsFound l epoch new h new_placed (head_behind (gap_of l) h.number spot.end new_placed) = record {
        end = spot.end;
        place = elim is_spot.place [
          | inl here ↦ inl (record { at_head = here.0; in_third = here.1 })
          | inr enters ↦ inr (record {
            none = none_at h.number h.at h.end (omega arith) (omega (arith, small)) (λ k inside. inl (omega (arith, enters.1)));
            enters = enters.0;
            at_start = enters.1;
            in_third = enters.2;
          })
        ];
        found = found_here;
        goes_on = refl;
      } in
      let last : Head = head_behind (gap_of l) h.number spot.end new_placed in
      let none : next l epoch new (head_behind (gap_of l) h.number spot.end new_placed) ≡ None = none_next l epoch new (head_behind (gap_of l) h.number spot.end new_placed)
      (none_at (h.number + 1) (spot.at + record_len (gap_of l) (length pages)) spot.end (omega arith) (omega (arith, small)) (λ k inside. inr (omega arith)))
      (none_at (h.number + 1) spot.end (spot.end + l.third) (omega arith) (omega (arith, small)) (λ k inside. inr (omega (arith, is_spot.fits)))) in
      walk_of_goes (3 * l.third) l epoch new (start l first) (rs ++ new_placed ∷ []) (head_behind (gap_of l) h.number spot.end new_placed) start_in (omega arith)
      (goes_more l epoch new (start l first) rs h new_placed (head_behind (gap_of l) h.number spot.end new_placed) goes_new found) none

  -- before its end stands the record isn't there, however the disk wears
  pub worn_before : stood ≤ 3 + (gap_of l) + length pages → scan l epoch new first ≡ record { records = rs; head = h }
  worn_before before = scan_none (spot_none before)

  -- it is there or not
  pub worn_either : (scan l epoch new first ≡ record { records = rs; head = h })
      ⊎ (scan l epoch new first ≡ record { records = rs ++ record { at = spot.at; entry = new_record (stamp_of epoch h.number) pages images } ∷ []; head = record { number = h.number + 1; at = spot.at + record_len (gap_of l) (length pages); end = spot.end } })
  worn_either = ⊎_elim (λ none. inl (scan_none none)) (λ found. inr (scan_some found)) spot_either

  -- whole, it is there, however a narrow run wears
  pub worn_whole_there : stood ≡ record_len (gap_of l) (length pages) → ((k d : ℕ) → k + d < record_len (gap_of l) (length pages) → 2 + (gap_of l) ≤ d → IsTrue (weak (spot.at + k)) → IsTrue (weak (spot.at + (k + d))) → ⊥) → 1 ≤ length pages
      → scan l epoch new first ≡ record { records = rs ++ record { at = spot.at; entry = new_record (stamp_of epoch h.number) pages images } ∷ []; head = record { number = h.number + 1; at = spot.at + record_len (gap_of l) (length pages); end = spot.end } }
  worn_whole_there whole narrow some = scan_some (spot_there whole narrow some)
