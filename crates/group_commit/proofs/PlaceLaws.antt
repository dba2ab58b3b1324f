-- Where the records of the log lie on the disk, and what a write behind them leaves alone.
use Rattle.std.proofs.Common.{◌≡◌, ◌⊎◌, ℕ, ◌+◌, ◌*◌, ◌<◌, ◌≤◌, List, [], ◌∷◌, length, None, nat_lt, refl, ap, subst, ◌∙◌, arith, inl, inr}
use Rattle.std.specs.List.{AllByRecursion}
use Rattle.std.proofs.lemmas.Bool.{cond-true, lt-ltb}
use Rattle.volume_layout.specs.Shape.{Shape}
use Rattle.volume_layout.specs.Kinds.{gap_of}
use Rattle.sector_disk.specs.declared.sector.Sector.{Sector}
use Rattle.sector_disk.specs.Image.{sector_at, stand}
use Rattle.fsd_formats.specs.Record.{record_len}
use Rattle.fsd_log.specs.Judged.{Reader}
use Rattle.fsd_log.specs.Scan.{IsEnd, IsIn, Head, Placed, Walked, room_at, window, place_of, tape, start, scan, IsLog}
use Rattle.fsd_log.proofs.HereLaws.{here_some}
use Rattle.fsd_log.proofs.WalkLaws.{stamp_of, IsHere, IsThere, found_goes_on, Goes, goes_far, goes_of_walk}
use Rattle.fsd_log.proofs.PlaceLaws.{InThird, place_add, end_most}
use Rattle.fsd_sound.proofs.LogPlaces.{record_images}

-- ---- the records lie before the head

-- a record lies in one third, and before a place on the tape
pub record LiesBefore (l : Shape) (at : ℕ) (r : Placed) : Type 0 where
  pub end : ℕ
  pub ends : IsEnd l end
  pub from : end ≤ r.at + l.third
  pub to : r.at + record_len (gap_of l) (length r.entry.pages) ≤ end
  pub before : r.at + record_len (gap_of l) (length r.entry.pages) ≤ at
  pub images : length r.entry.images ≡ length r.entry.pages

module _ (l : Shape) (epoch : ℕ) (disk : Reader) where
  found_from : (h : Head) (r : Placed) (end : ℕ) → IsIn l h → IsHere h r.at end ⊎ IsThere l epoch disk h r.at end → end ≤ r.at + l.third
  found_from h r end is_in (inl here) = omega (arith, here.at_head, here.in_third, is_in.from)
  found_from h r end is_in (inr there) = omega (arith, there.at_start, there.in_third)

  pub lie_before : (h : Head) (rs : List Placed) (end : Head) → IsIn l h → Goes l epoch disk h rs end → AllByRecursion (LiesBefore l end.at) rs
  lie_before h [] end is_in goes = tt
  lie_before h (r ∷ rs) end is_in goes =
      let one = found_goes_on l epoch disk h r goes.0 is_in goes.1 in
      let far = goes_far l epoch disk goes.0 rs end one.is_in goes.2 in
      let at_end : goes.0.end ≡ goes.1.end = ap (λ (x : Head). x.end) goes.1.goes_on in
      let found = here_some l epoch disk h.number r.at goes.1.end r.entry goes.1.found in (
        record {
          end = goes.1.end;
          ends = subst (IsEnd l) at_end one.is_in.ends;
          from = found_from h r goes.1.end is_in goes.1.place;
          to = omega (arith, one.to, one.is_in.before, at_end);
          before = omega (arith, one.to, far.from);
          images = record_images (gap_of l) l.pages (stamp_of epoch h.number) (room_at r.at goes.1.end) (window disk r.at (room_at r.at goes.1.end)) r.entry found.1;
        },
        lie_before goes.0 rs end one.is_in goes.2,
      )

  pub log_lies : (first : ℕ) (rs : List Placed) (h : Head) → IsLog l epoch first disk rs h → AllByRecursion (LiesBefore l h.at) rs
  unfolding scan
  log_lies first rs h log =
      let goes : Goes l epoch disk (start l first) rs h = subst (λ (w : Walked). Goes l epoch disk (start l first) w.records w.head) log.scanned (goes_of_walk (3 * l.third) l epoch disk (start l first)) in
      lie_before (start l first) rs h (record { before = omega arith; from = omega arith; ends = inl refl }) goes

-- ---- a write behind them

module _ (l : Shape) (first at n end : ℕ) (is : InThird l first at n end) (old new : List Sector) (bytes : List ℕ) (stood : ℕ) (within : stood ≤ n)
    (stands : (s : ℕ) → sector_at new s ≡ sector_at (stand old (place_of l first at) bytes stood) s) where
  -- what is read there on the tape
  pub on_tape : (k : ℕ) (disk : Reader) → k < n → tape l first disk (at + k) ≡ disk (place_of l first at + k)
  on_tape k disk lt =
      let inside : at + k < 3 * l.third = omega (arith, is.to, end_most l end is.ends) in
      cond-true (nat_lt (at + k) (3 * l.third)) (disk (place_of l first (at + k))) None (lt-ltb (at + k) (3 * l.third) inside)
      ∙ ap disk (place_add l first at n end k is lt)
