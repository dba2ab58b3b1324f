-- The last record's copies are laid again, sector by sector: at each the image shows the same pages, by the same records.
use Rattle.std.proofs.Common.{◌≡◌, ◌≢◌, ◌⊎◌, inl, inr, ⊎_elim, ℕ, ◌+◌, ◌*◌, ◌^◌, ◌<◌, ◌≤◌, List, [], ◌∷◌, ◌++◌, length, map, get_or, Option, Some, None, refl, sym, ap, subst, ◌∙◌, arith}
use Rattle.std.specs.Prelude.{IfSome, option_and_then}
use Rattle.std.specs.Option.{option_or}
use Rattle.std.specs.List.{AllByRecursion}
use Rattle.std.proofs.lemmas.List.{length-set, ext_get_or}
use Rattle.volume_layout.specs.declared.layout.Layout.{Layout}
use Rattle.volume_layout.specs.Layout.{home_a, home_b, turned}
use Rattle.volume_layout.specs.Kinds.{gap_of}
use Rattle.fsd_formats.specs.declared.anchor.Anchor.{Anchor}
use Rattle.fsd_formats.specs.Anchors.{read_anchor}
use Rattle.fsd_formats.specs.Record.{Stamp, record_len}
use Rattle.sector_disk.specs.declared.sector.WeakRun.{WeakRun}
use Rattle.sector_disk.specs.declared.sector.Sector.{Sector}
use Rattle.sector_disk.specs.declared.sector.Sector.TheVariants.{Whole, Damaged}
use Rattle.sector_disk.specs.Image.{sector_at, with_sector, IsWorn, AllWorn}
use Rattle.sector_disk.proofs.Wear.{worn_refl, worn_whole}
use Rattle.fsd_log.specs.Borne.{borne_by}
use Rattle.fsd_log.specs.Scan.{Placed, place_of, newer_of}
use Rattle.fsd_log.specs.Images.{last_image}
use Rattle.fsd_log.proofs.PlaceLaws.{place_inside, place_from}
use Rattle.fsd_log.proofs.WalkLaws.{stamp_of as stamp_at}
use Rattle.fsd_files.specs.Disk.{Image, Sectors, Has, bytes_of, first_whole}
use Rattle.fsd_sound.specs.Anchors.{anchor_at, anchor_of, EachAnchor}
use Rattle.fsd_sound.specs.Homes.{home_of}
use Rattle.fsd_sound.specs.Laid.{IsLaid}
use Rattle.fsd_sound.specs.Shown.{records_by, newest, each_of, all_pages, shown_by, shown}
use Rattle.fsd_sound.specs.Sound.{EachStamp, SaysTurned, on_disk, disk_records, ScansAgree, ShowsOne, ShowsPages, weak_of}
use Rattle.fsd_sound.proofs.LogPlaces.{IsRecord, scan_records}
use Rattle.fsd_sound.specs.Logged.{KeepsLogged}
use Rattle.fsd_sound.specs.Stands.{StandsShown}
use Rattle.fsd_sound.specs.Windows.{IsNarrow, IsApart}
use Rattle.fsd_sound.proofs.AnchorFacts.{IsAnchor}
use Rattle.fsd_log.proofs.RobustLaws.{rows_of}
use Rattle.fsd_sound.proofs.CommuteLaws.{same_or, with_same, with_other, all_over, both_same, whole_inside, shows_all, all_shows}
use Rattle.fsd_sound.proofs.SavedLaws.{open_written}
use Rattle.fsd_sound.proofs.CoverLaws.{Covers, covers, is_anchor_at, ends_so, same_last, map_snoc, not_nil}
use Rattle.fsd_sound.proofs.CompleteLaws.{IsLastBy, row_has, copy_stands, y_worn, same_records, laid_still, x_bears}
use Rattle.fsd_sound.proofs.AlikeLaws.{suffix_same}
use Rattle.fsd_sound.proofs.AnchorFacts.{newer_one}
use Rattle.fsd_sound.proofs.EachLaws.{all_in_range, each_of_same}
use Rattle.fsd_sound.proofs.SaidLaws.{says_same, says_worn, some_same}
use Rattle.fsd_sound.proofs.SectorFacts.{same_bytes}
use Rattle.fsd_sound.proofs.WindowLaws.{apart_narrow}

-- what stands already is written again
pub set_back : (i : Image) (s : ℕ) (x : List ℕ) → s < length i → sector_at i s ≡ Whole x → with_sector i s x ≡ i
set_back i s x room is = ext_get_or Damaged (with_sector i s x) i (length-set i s (Whole x)) (λ p lt. ⊎_elim
    (λ here. ap (sector_at (with_sector i s x)) here ∙ with_same i s x room ∙ sym is ∙ ap (sector_at i) (sym here))
    (λ other. with_other i s p x other) (same_or p s))

if_both : (P Q R : Anchor → Type 0) (o : Option Anchor) → ((a : Anchor) → P a → Q a → R a) → IfSome o P → IfSome o Q → IfSome o R
if_both P Q R None on p q = tt
if_both P Q R (Some a) on p q = on a p q

-- an anchor's last record is that of the newer one
pub record AtLast (l : Layout) (weak : Sectors) (c : Image) (t : Anchor) (r : Placed) (b : Anchor) : Type 0 where
  pub q : Placed
  pub by : IsLastBy l weak c b q
  pub epoch : b.epoch ≡ t.epoch
  pub same : on_disk l b q ≡ on_disk l t r

module _ (l : Layout) (small : l.pages ≤ 2 ^ 32) (windows : List WeakRun) (apart : IsApart (gap_of l) (weak_of windows)) (choices : List (List (List ℕ))) (c : Image) (shows : ShowsPages l windows choices c)
    (t : Anchor) (taken : anchor_of c ≡ Some t) (front : List Placed) (r : Placed) (joined : records_by l c t ≡ front ++ r ∷ []) (long : 16 + 3 * l.third ≤ length c) where
  abbrev weak : Sectors
  weak = weak_of windows

  narrow : IsNarrow (weak_of windows)
  narrow = apart_narrow l windows apart

  all : AllWorn (weak_of windows) (StandsShown l (weak_of windows) choices) c
  all = shows_all l windows narrow choices c shows

  here : StandsShown l (weak_of windows) choices c
  here = all c (worn_refl (weak_of windows) c)

  not_nil_behind : (f xs : List Placed) (x : Placed) → f ++ (xs ++ x ∷ []) ≡ [] → ⊥
  not_nil_behind [] xs x e = not_nil xs x e
  not_nil_behind (y ∷ f) xs x e = absurd cc

  at_last : (b : Anchor) → IsAnchor b → Covers l c t b → IsLaid l b (weak_of windows) c (records_by l c b) → AtLast l (weak_of windows) c t r b
  at_last b is (inr none) laid = absurd (not_nil front r (sym joined ∙ none))
  at_last b is (inl suffix) laid = ⊎_elim
      (λ none. absurd (not_nil_behind suffix.1.0 (map (on_disk l t) front) (on_disk l t r)
      (ap (λ xs. suffix.1.0 ++ xs) (sym (ap (map (on_disk l t)) joined ∙ map_snoc (on_disk l t) front r)) ∙ sym suffix.1.1 ∙ ap (map (on_disk l b)) none)))
      (λ last. record {
        q = last.1;
        by = record { is = is; front = last.0; joined = last.2; laid = subst (IsLaid l b (weak_of windows) c) last.2 laid };
        epoch = suffix.0;
        same = same_last l c t b front last.0 r last.1 joined last.2 suffix.1;
      })
      (ends_so (records_by l c b))

  each_last : EachAnchor c (AtLast l (weak_of windows) c t r)
  each_last =
      let cover = covers l (weak_of windows) c here.anchors here.log t taken in
      (at_place 8 (anchor_at c 8) refl cover.0 here.log.laid.0, at_place 12 (anchor_at c 12) refl cover.1 here.log.laid.1)
    where
      at_place : (s : ℕ) (o : Option Anchor) → anchor_at c s ≡ o → IfSome o (Covers l c t) → IfSome o (λ b. IsLaid l b (weak_of windows) c (records_by l c b)) → IfSome o (AtLast l (weak_of windows) c t r)
      at_place s None is p q = tt
      at_place s (Some b) is p q = at_last b (is_anchor_at c s b is) p q

  pub taken_last : AtLast l (weak_of windows) c t r t
  taken_last = subst (λ (o : Option Anchor). IfSome o (AtLast l (weak_of windows) c t r)) taken (newer_one (AtLast l (weak_of windows) c t r) (anchor_at c 8) (anchor_at c 12) each_last.0 each_last.1)

  -- as there is a record, no root says the layout turned
  is_logged : SaysTurned l c → ⊥
  is_logged says =
      let none = here.empty says in
      let taken_none = subst (λ (o : Option Anchor). IfSome o (λ b. (records_by l c b ≡ []) × (records_by (turned l) c b ≡ []))) taken (newer_one _ (anchor_at c 8) (anchor_at c 12) none.0 none.1) in
      not_nil front r (sym joined ∙ taken_none.0)

  module _ (k : ℕ) (le : k ≤ length r.entry.pages) where
    abbrev row_of : ℕ → Placed → List ℕ
    row_of epoch p = get_or (rows_of (stamp_at epoch p.entry.number) p.entry) k []

    abbrev x : List ℕ
    x = row_of t.epoch (on_disk l t r)

    abbrev f : ℕ
    f = place_of l t.third r.at + (3 + (gap_of l) + k)

    abbrev s : ℕ
    s = place_of l t.third r.at + (4 + 2 * (gap_of l) + length r.entry.pages + k)

    module _ (b : Anchor) (at : AtLast l (weak_of windows) c t r b) where
      le_b : k ≤ length at.q.entry.pages
      le_b = omega (arith, le, ap (λ (p : Placed). length p.entry.pages) at.same)

      f_b : place_of l b.third at.q.at + (3 + (gap_of l) + k) ≡ f
      f_b = ap (λ (p : Placed). p.at + (3 + (gap_of l) + k)) at.same

      s_b : place_of l b.third at.q.at + (4 + 2 * (gap_of l) + length at.q.entry.pages + k) ≡ s
      s_b = ap (λ (p : Placed). p.at + (4 + 2 * (gap_of l) + length p.entry.pages + k)) at.same

      x_b : get_or (rows_of (stamp_at b.epoch at.q.entry.number) at.q.entry) k [] ≡ x
      x_b = (λ u. get_or (rows_of (stamp_at (at.epoch u) at.q.entry.number) at.q.entry) k []) ∙ ap (row_of t.epoch) at.same

      whole_b : sector_at c f ≡ Whole x → sector_at c (place_of l b.third at.q.at + (3 + (gap_of l) + k)) ≡ Whole (get_or (rows_of (stamp_at b.epoch at.q.entry.number) at.q.entry) k [])
      whole_b whole = ap (sector_at c) f_b ∙ whole ∙ ap (λ (v : List ℕ). Whole v) (sym x_b)

      y_b : (i : Image) → with_sector i (place_of l b.third at.q.at + (3 + (gap_of l) + k)) (get_or (rows_of (stamp_at b.epoch at.q.entry.number) at.q.entry) k []) ≡ with_sector i f x
      y_b i = λ u. with_sector i (f_b u) (x_b u)

      z_b : (i : Image) → with_sector i (place_of l b.third at.q.at + (4 + 2 * (gap_of l) + length at.q.entry.pages + k)) (get_or (rows_of (stamp_at b.epoch at.q.entry.number) at.q.entry) k []) ≡ with_sector i s x
      z_b i = λ u. with_sector i (s_b u) (x_b u)

    -- what an anchor tells is the same of both images
    record Keeps (y z : Image) (b : Anchor) : Type 0 where
      is : IsAnchor b
      epoch : b.epoch ≡ t.epoch
      records : records_by l z b ≡ records_by l y b
      laid : IsLaid l b (weak_of windows) y (records_by l y b) → IsLaid l b (weak_of windows) z (records_by l z b)

    module _ (whole : sector_at c f ≡ Whole x) (i : Image) (worn : IsWorn (weak_of windows) c i) where
      long_i : 16 + 3 * l.third ≤ length i
      long_i = omega (arith, long, worn.size)

      keeps : (b : Anchor) → AtLast l (weak_of windows) c t r b → Keeps (with_sector i f x) (with_sector i s x) b
      keeps b at = record {
        is = at.by.is;
        epoch = at.epoch;
        records = subst (λ (v : Image). records_by l (with_sector i s x) b ≡ records_by l v b) (y_b b at i)
            (subst (λ (v : Image). records_by l v b ≡ records_by l (with_sector i (place_of l b.third at.q.at + (3 + (gap_of l) + k)) (get_or (rows_of (stamp_at b.epoch at.q.entry.number) at.q.entry) k [])) b) (z_b b at i) (same_records l small (weak_of windows) apart c b at.q at.by k (le_b b at) i worn long_i (whole_b b at whole)));
        laid = subst (λ (v : Image). IsLaid l b (weak_of windows) v (records_by l v b) → IsLaid l b (weak_of windows) (with_sector i s x) (records_by l (with_sector i s x) b)) (y_b b at i)
            (subst (λ (v : Image). IsLaid l b (weak_of windows) (with_sector i (place_of l b.third at.q.at + (3 + (gap_of l) + k)) (get_or (rows_of (stamp_at b.epoch at.q.entry.number) at.q.entry) k [])) (records_by l (with_sector i (place_of l b.third at.q.at + (3 + (gap_of l) + k)) (get_or (rows_of (stamp_at b.epoch at.q.entry.number) at.q.entry) k [])) b) → IsLaid l b (weak_of windows) v (records_by l v b)) (z_b b at i) (laid_still l small (weak_of windows) apart c b at.q at.by k (le_b b at) i worn long_i (whole_b b at whole)));
      }

      y_is_worn : IsWorn (weak_of windows) c (with_sector i f x)
      y_is_worn = subst (IsWorn (weak_of windows) c) (y_b t taken_last i) (y_worn l small (weak_of windows) apart c t taken_last.q taken_last.by k (le_b t taken_last) i worn long_i (whole_b t taken_last whole))

      x_is_borne : borne_by x ≡ Some (stamp_at t.epoch r.entry.number)
      x_is_borne = subst (λ (v : List ℕ). borne_by v ≡ Some (stamp_at t.epoch r.entry.number)) (x_b t taken_last)
          (x_bears l small (weak_of windows) apart c t taken_last.q taken_last.by k (le_b t taken_last) i worn long_i (whole_b t taken_last whole) ∙ ap (λ (p : Placed). Some (stamp_at t.epoch p.entry.number)) taken_last.same)

      in_log : place_of l t.third r.at + record_len (gap_of l) (length r.entry.pages) ≤ 16 + 3 * l.third
      in_log =
          let are : AllByRecursion (IsRecord l t.third) (front ++ r ∷ []) = subst (AllByRecursion (IsRecord l t.third)) joined (scan_records l c t taken_last.by.is.third) in
          let is = last_rec front are in place_inside l t.third r.at (record_len (gap_of l) (length r.entry.pages)) is.end is.inside (omega arith)
        where
          last_rec : (xs : List Placed) → AllByRecursion (IsRecord l t.third) (xs ++ r ∷ []) → IsRecord l t.third r
          last_rec [] all = all.0
          last_rec (q ∷ xs) all = last_rec xs all.1

      f_from : 16 ≤ f
      f_from = let from : 16 ≤ place_of l t.third r.at = place_from l t.third r.at in omega arith

      s_from : 16 ≤ s
      s_from = let from : 16 ≤ place_of l t.third r.at = place_from l t.third r.at in omega arith

      f_to : f < 16 + 3 * l.third
      f_to = omega (arith, in_log, le)

      s_to : s < 16 + 3 * l.third
      s_to = omega (arith, in_log, le)

      abbrev y : Image
      y = with_sector i f x

      abbrev z : Image
      z = with_sector i s x

      z_other : (p : ℕ) → p ≢ s → sector_at z p ≡ sector_at i p
      z_other p other = with_other i s p x other

      -- outside the log both are as the image was
      outside : (p : ℕ) → (p < 16) ⊎ (16 + 3 * l.third ≤ p) → sector_at z p ≡ sector_at y p
      outside p out =
          let not_f : p ≢ f = λ e. ⊎_elim (λ lt. omega (arith, e, f_from, lt)) (λ ge. omega (arith, e, f_to, ge)) out in
          let not_s : p ≢ s = λ e. ⊎_elim (λ lt. omega (arith, e, s_from, lt)) (λ ge. omega (arith, e, s_to, ge)) out in
          z_other p not_s ∙ sym (with_other i f p x not_f)

      front_z : (p : ℕ) → p < 16 → sector_at z p ≡ sector_at i p
      front_z p lt = z_other p (λ e. omega (arith, e, s_from, lt))

      anchor_z : (p : ℕ) → p < 16 → anchor_at z p ≡ anchor_at i p
      anchor_z p lt = ap (λ (v : Sector). option_and_then read_anchor (bytes_of v)) (front_z p lt)

      anchor_y : (p : ℕ) → p < 16 → anchor_at z p ≡ anchor_at y p
      anchor_y p lt = ap (λ (v : Sector). option_and_then read_anchor (bytes_of v)) (outside p (inl lt))

      taken_y : anchor_of z ≡ anchor_of y
      taken_y = λ u. newer_of (anchor_y 8 (omega arith) u) (anchor_y 12 (omega arith) u)

      -- each anchor that stands is one of the clean image's
      each_keeps : EachAnchor z (Keeps y z)
      each_keeps = (at_place 8 (omega arith) each_last.0, at_place 12 (omega arith) each_last.1)
        where
          at_place : (p : ℕ) → p < 16 → IfSome (anchor_at c p) (AtLast l (weak_of windows) c t r) → IfSome (anchor_at z p) (Keeps y z)
          at_place p lt last = subst (λ (o : Option Anchor). IfSome o (Keeps y z)) (sym (anchor_z p lt)) (⊎_elim
              (λ same. subst (λ (v : Sector). IfSome (option_and_then read_anchor (bytes_of v)) (Keeps y z)) (sym same) (on_each (anchor_at c p) last))
              (λ hurt. subst (λ (v : Sector). IfSome (option_and_then read_anchor (bytes_of v)) (Keeps y z)) (sym hurt.1) tt) (worn.each p))
            where
              on_each : (o : Option Anchor) → IfSome o (AtLast l (weak_of windows) c t r) → IfSome o (Keeps y z)
              on_each None last = tt
              on_each (Some b) last = keeps b last

      -- what holds by each anchor of the one
      each_on : (Q R : Anchor → Type 0) → ((b : Anchor) → Keeps y z b → Q b → R b) → EachAnchor y Q → EachAnchor z R
      each_on Q R on each = (
        if_both (Keeps y z) Q R (anchor_at z 8) on each_keeps.0 (subst (λ (o : Option Anchor). IfSome o Q) (sym (anchor_y 8 (omega arith))) each.0),
        if_both (Keeps y z) Q R (anchor_at z 12) on each_keeps.1 (subst (λ (o : Option Anchor). IfSome o Q) (sym (anchor_y 12 (omega arith))) each.1),
      )

      disk_same : (b : Anchor) → Keeps y z b → disk_records l z b ≡ disk_records l y b
      disk_same b keep = ap (map (on_disk l b)) keep.records

      agree_same : (a b taken : Option Anchor) → IfSome a (Keeps y z) → IfSome b (Keeps y z) → IfSome taken (Keeps y z) → ScansAgree l y a b taken → ScansAgree l z a b taken
      agree_same None b taken p q v agree = tt
      agree_same (Some a) None taken p q v agree = tt
      agree_same (Some a) (Some b) None p q v agree = tt
      agree_same (Some a) (Some b) (Some w) p q v agree = λ e. (
        suffix_same (disk_records l y w) (disk_records l z w) (disk_records l y a) (disk_records l z a) (disk_same w v) (disk_same a p) (agree e).0,
        suffix_same (disk_records l y w) (disk_records l z w) (disk_records l y b) (disk_records l z b) (disk_same w v) (disk_same b q) (agree e).1,
      )

      taken_keeps : IfSome (anchor_of z) (Keeps y z)
      taken_keeps = newer_one (Keeps y z) (anchor_at z 8) (anchor_at z 12) each_keeps.0 each_keeps.1

      home_same : (page : ℕ) → home_of l z page ≡ home_of l y page
      home_same page = λ u. first_whole (bytes_of (outside (home_a l page) (inr (omega arith)) u)) (bytes_of (outside (home_b l page) (inr (omega arith)) u))

      shown_same : shown l z ≡ shown l y
      shown_same = by_anchor (anchor_of z) refl taken_keeps
        where
          by_anchor : (o : Option Anchor) → anchor_of z ≡ o → IfSome o (Keeps y z) → shown l z ≡ shown l y
          by_anchor None is keep = ap (option_and_then (shown_by l z)) is ∙ sym (ap (option_and_then (shown_by l y)) (sym taken_y ∙ is))
          by_anchor (Some b) is keep =
              ap (option_and_then (shown_by l z)) is
              ∙ ap (λ (rs : List Placed). each_of (newest l z rs) (all_pages l)) keep.records
              ∙ each_of_same (newest l z (records_by l y b)) (newest l y (records_by l y b)) (all_pages l)
              (all_in_range (λ page. newest l z (records_by l y b) page ≡ newest l y (records_by l y b) page) 0 l.pages (λ page ge lt. ap (option_or (last_image page (records_by l y b))) (home_same page)))
              ∙ sym (ap (option_and_then (shown_by l y)) (sym taken_y ∙ is))

      pub completed_stands : StandsShown l (weak_of windows) choices i → StandsShown l (weak_of windows) choices (with_sector i s x)
      completed_stands stands =
          let on_y = all y y_is_worn in
          let z_s : sector_at z s ≡ Whole x = with_same i s x (omega (arith, s_to, long_i)) in
          record {
            roots = record {
              planned = stands.roots.planned;
              other = stands.roots.other;
              beside = stands.roots.beside;
              some = some_same l i z stands.roots.other (front_z 0 (omega arith)) (front_z 4 (omega arith)) stands.roots.some;
              first = λ bytes is. stands.roots.first bytes (sym (front_z 0 (omega arith)) ∙ is);
              second = λ bytes is. stands.roots.second bytes (sym (front_z 4 (omega arith)) ∙ is);
              fits = omega (arith, stands.roots.fits, length-set i s (Whole x));
              twins = λ p twin hurt. ⊎_elim
                  (λ at. absurd (let h : sector_at z s ≡ Damaged = ap (sector_at z) (sym at) ∙ hurt in cc (z_s, h)))
                  (λ other. stands.roots.twins p twin (sym (z_other p other) ∙ hurt)) (same_or p s);
            };
            empty = λ says. absurd (is_logged (says_worn (turned l) c i (weak_of windows) worn (says_same (turned l) i z (λ p lt. front_z p (omega (arith, lt))) says)));
            anchors = record {
              first = λ bytes is. stands.anchors.first bytes (sym (front_z 8 (omega arith)) ∙ is);
              second = λ bytes is. stands.anchors.second bytes (sym (front_z 12 (omega arith)) ∙ is);
              epochs = each_on (λ b. EachStamp l y (λ stamp. stamp.epoch ≤ b.epoch)) (λ b. EachStamp l z (λ stamp. stamp.epoch ≤ b.epoch))
                  (λ b keep stamps p within bytes is. ⊎_elim
                  (λ at.
                  let same : bytes ≡ x = same_bytes (sector_at z s) x bytes z_s (ap (sector_at z) (sym at) ∙ is) in
                  subst (λ (o : Option Stamp). IfSome o (λ stamp. stamp.epoch ≤ b.epoch)) (sym (ap borne_by same ∙ x_is_borne)) (omega (arith, keep.epoch)))
                  (λ not_s. ⊎_elim
                  (λ at_f.
                  let before : sector_at c f ≡ Whole bytes = worn_whole (weak_of windows) c i f bytes worn (sym (z_other f (λ e. not_s (at_f ∙ e))) ∙ ap (sector_at z) (sym at_f) ∙ is) in
                  let same : bytes ≡ x = same_bytes (sector_at c f) x bytes whole before in
                  subst (λ (o : Option Stamp). IfSome o (λ stamp. stamp.epoch ≤ b.epoch)) (sym (ap borne_by same ∙ x_is_borne)) (omega (arith, keep.epoch)))
                  (λ not_f. stamps p within bytes (with_other i f p x not_f ∙ sym (z_other p not_s) ∙ is)) (same_or p f)) (same_or p s)) on_y.anchors.epochs;
            };
            log = record {
              agree = subst (ScansAgree l z (anchor_at z 8) (anchor_at z 12)) refl (agree_same (anchor_at z 8) (anchor_at z 12) (anchor_of z) each_keeps.0 each_keeps.1 taken_keeps
                  (subst (λ (o : Option Anchor). ScansAgree l y o (anchor_at z 12) (anchor_of z)) (sym (anchor_y 8 (omega arith)))
                  (subst (λ (o : Option Anchor). ScansAgree l y (anchor_at y 8) o (anchor_of z)) (sym (anchor_y 12 (omega arith)))
                  (subst (ScansAgree l y (anchor_at y 8) (anchor_at y 12)) (sym taken_y) on_y.log.agree))));
              laid = each_on (λ b. IsLaid l b (weak_of windows) y (records_by l y b)) (λ b. IsLaid l b (weak_of windows) z (records_by l z b)) (λ b keep laid. keep.laid laid) on_y.log.laid;
            };
            homes = each_on _ _ (λ b keep homes page lt none v w first second. homes page lt (ap (last_image page) (sym keep.records) ∙ none) v w
                (sym (outside (home_a l page) (inr (omega arith))) ∙ first) (sym (outside (home_b l page) (inr (omega arith))) ∙ second)) on_y.homes;
            shows = subst (ShowsOne choices) (sym shown_same) on_y.shows;
          }

    -- one copy more
    pub completed_one : KeepsLogged l windows choices t c (with_sector c s x)
    completed_one = ⊎_elim
        (λ whole.
        let back : with_sector c f x ≡ c = set_back c f x (omega (arith, long, f_to whole c (worn_refl (weak_of windows) c))) whole in
        record {
          shows = all_shows l windows shows.readable.borne choices (with_sector c s x) (both_same l windows choices c (with_sector c s x) shows (omega (arith, length-set c s (Whole x))) (λ p lt. with_other c s p x (λ e. let from = s_from whole c (worn_refl (weak_of windows) c) in omega (arith, e, lt, from)))
              (open_written c s x (λ e. let from = s_from whole c (worn_refl (weak_of windows) c) in omega (arith, e, from)) (λ e. let from = s_from whole c (worn_refl (weak_of windows) c) in omega (arith, e, from))))
              (all_over (weak_of windows) (StandsShown l (weak_of windows) choices) c s x (omega (arith, long, s_to whole c (worn_refl (weak_of windows) c))) all
              (λ i worn there stands. completed_stands whole i worn stands));
          taken = taken_y whole c (worn_refl (weak_of windows) c) ∙ ap anchor_of back ∙ taken;
          records = (keeps whole c (worn_refl (weak_of windows) c) t taken_last).records ∙ ap (λ (v : Image). records_by l v t) back;
        })
        (λ hurt.
        let stands : sector_at c s ≡ Whole x = subst (λ (p : ℕ). sector_at c p ≡ Whole x) (s_b t taken_last)
        (copy_stands l small (weak_of windows) apart c t taken_last.q taken_last.by k (le_b t taken_last) (ap (sector_at c) (f_b t taken_last) ∙ hurt.1) ∙ ap (λ (v : List ℕ). Whole v) (x_b t taken_last)) in
        let back : with_sector c s x ≡ c = set_back c s x (whole_in s stands) stands in
        record {
          shows = subst (ShowsPages l windows choices) (sym back) shows;
          taken = ap anchor_of back ∙ taken;
          records = ap (λ (v : Image). records_by l v t) back;
        })
        row_c
      where
        row_c : Has (weak_of windows) c x f
        row_c = subst (Has (weak_of windows) c x) (f_b t taken_last) (subst (λ (v : List ℕ). Has (weak_of windows) c v (place_of l t.third taken_last.q.at + (3 + (gap_of l) + k))) (x_b t taken_last) (row_has l small (weak_of windows) apart c t taken_last.q taken_last.by k (le_b t taken_last)))

        whole_in : (p : ℕ) → sector_at c p ≡ Whole x → p < length c
        whole_in p is = whole_inside c p x is
