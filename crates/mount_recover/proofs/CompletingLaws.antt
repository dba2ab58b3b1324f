-- A mount up to `healing`: the last record is completed over an image that was seen.
use Rattle.std.proofs.Common.{◌≡◌, inl, inr, ⊎_elim, ℕ, ◌+◌, ◌*◌, ◌^◌, ◌<◌, ◌≤◌, List, [], ◌∷◌, ◌++◌, length, Option, Some, None, refl, sym, ap, subst, ◌∙◌, arith}
use Rattle.std.specs.Prelude.{IfSome, IsFalse, IsSome}
use Rattle.std.specs.List.{AllByRecursion}
use Rattle.volume_layout.specs.declared.layout.Layout.{Layout}
use Rattle.volume_layout.specs.Layout.{IsPlanned}
use Rattle.volume_layout.proofs.RootLaws.{planned_bounds}
use Rattle.volume_layout.specs.Kinds.{gap_of, longest_of}
use Rattle.fsd_formats.specs.declared.anchor.Anchor.{Anchor}
use Rattle.fsd_formats.specs.Record.{record_len}
use Rattle.sector_disk.specs.declared.sector.WeakRun.{WeakRun}
use Rattle.sector_disk.specs.Image.{Windows, sector_at, stand, IsWorn, open_damage}
use Rattle.sector_disk.specs.Machine.{Moment, Holds, Wears, Names, Before}
use Rattle.sector_disk.proofs.Wear.{worn_refl, worn_trans, stand_worn, stand_other, worn_twice}
use Rattle.fsd_log.specs.Images.{last_image}
use Rattle.fsd_log.specs.Scan.{Placed}
use Rattle.fsd_log.proofs.PlaceLaws.{place_inside, place_from}
use Rattle.fsd_files.specs.Disk.{Image, SectorWorn, Sectors}
use Rattle.fsd_sound.specs.Anchors.{anchor_at, anchor_of}
use Rattle.fsd_sound.specs.Saved.{ClosesNone}
use Rattle.fsd_sound.specs.Laid.{HasFront, HasCopies, IsLaid, AllLaid}
use Rattle.fsd_sound.specs.Shown.{records_by, shown}
use Rattle.fsd_sound.specs.Sound.{SaysNoMore, ShowsOne, ShowsPages, weak_of}
use Rattle.fsd_sound.proofs.LogPlaces.{IsRecord, scan_records}
use Rattle.fsd_sound.proofs.SaidLaws.{says_no_more}
use Rattle.fsd_sound.proofs.SavedLaws.{closes_none, worn_reads}
use Rattle.fsd_sound.proofs.SoundLaws.{shows_still}
use Rattle.fsd_sound.proofs.WindowLaws.{open_is_weak}
use Rattle.log_thirds.specs.Append.{IsIndexed, StandsInPart}
use Rattle.log_thirds.specs.Copies.{copies_count, AreCopiesOf, AreLastCopies}
use Rattle.log_thirds.specs.LogValue.{LogValue}
use Rattle.fsd_sound.specs.Logged.{IsLogged, KeepsLogged}
use Rattle.fsd_sound.specs.Windows.{IsNarrow}
use Rattle.fsd_sound.specs.Writes.{WritesAsMount, mount_writes}
use Rattle.fsd_sound.proofs.CoverLaws.{ends_so, logged_still}
use Rattle.fsd_sound.proofs.HomedLaws.{if_more}
use Rattle.fsd_sound.proofs.LaidLaws.{all_laid_worn}
use Rattle.fsd_sound.proofs.AnchorFacts.{newer_one, taken_third}
use Rattle.fsd_sound.proofs.CompletingLaws.{completing, laid, last_copies}
use Rattle.fsd_sound.proofs.WritesLaws.{elsewhere}
use Rattle.fsd_sound.proofs.CompleteLaws.{all_last}
use Rattle.mount_recover.specs.Mending.{KnowsLog, StaysElsewhere, IsSeen, Completed}
use Rattle.mount_recover.specs.Replay.{HasLastCopies, KeepsBehindLog, Replays}
use Rattle.volume_layout.proofs.KindLaws.{gap_most}

-- ---- where the copies lie

pub low_third : (l : Layout) (i : Image) (t : Anchor) → anchor_of i ≡ Some t → t.third ≤ 2
low_third l i t taken = subst (λ (o : Option Anchor). IfSome o (λ a. a.third ≤ 2)) taken (taken_third i)

module _ (l : Layout) (log : LogValue) (j : Image) (knows : KnowsLog l log j) where
  count_of : (r : Placed) → AreCopiesOf l log.anchor.epoch log.anchor.third r log.copies → copies_count log.copies ≡ length r.entry.pages + 1
  count_of r of = let long : length log.copies.bytes ≡ 512 * (length r.entry.pages + 1) = of.copies.long in omega (arith, long)

  -- of the copies that are written, so many, each lies in the log
  pub copies_inside : (m : ℕ) → m ≤ copies_count log.copies → (s : ℕ) → 16 + 3 * l.third ≤ s → (i : Image) → sector_at (stand i log.copies.place log.copies.bytes m) s ≡ sector_at i s
  copies_inside m le s from i = ⊎_elim
      (λ none.
      let empty : log.copies.bytes ≡ [] = subst (λ (rs : List Placed). AreLastCopies l log.anchor.epoch log.anchor.third rs log.copies) none knows.last in
      let nothing : m ≡ 0 = omega (arith, le, ap (λ (b : List ℕ). length b) empty) in
      λ u. sector_at (stand i log.copies.place log.copies.bytes (nothing u)) s)
      (λ last.
      let of = last_copies l log.anchor.epoch log.anchor.third last.0 last.1 log.copies (subst (λ (rs : List Placed). AreLastCopies l log.anchor.epoch log.anchor.third rs log.copies) last.2 knows.last) in
      let is = all_last (IsRecord l log.anchor.third) last.0 last.1 (subst (AllByRecursion (IsRecord l log.anchor.third)) last.2 (scan_records l j log.anchor (low_third l j log.anchor knows.taken))) in
      let inside = place_inside l log.anchor.third last.1.at (record_len (gap_of l) (length last.1.entry.pages)) is.end is.inside (omega arith) in
      let count = count_of last.1 of in
      stand_other i log.copies.place log.copies.bytes m s (inr (omega (arith, le, count, of.place, inside, from))))
      (ends_so (records_by l j log.anchor))

  pub copies_behind : (m : ℕ) → m ≤ copies_count log.copies → (s : ℕ) → s < 16 → (i : Image) → sector_at (stand i log.copies.place log.copies.bytes m) s ≡ sector_at i s
  copies_behind m le s low i = ⊎_elim
      (λ none.
      let empty : log.copies.bytes ≡ [] = subst (λ (rs : List Placed). AreLastCopies l log.anchor.epoch log.anchor.third rs log.copies) none knows.last in
      let nothing : m ≡ 0 = omega (arith, le, ap (λ (b : List ℕ). length b) empty) in
      λ u. sector_at (stand i log.copies.place log.copies.bytes (nothing u)) s)
      (λ last.
      let of = last_copies l log.anchor.epoch log.anchor.third last.0 last.1 log.copies (subst (λ (rs : List Placed). AreLastCopies l log.anchor.epoch log.anchor.third rs log.copies) last.2 knows.last) in
      stand_other i log.copies.place log.copies.bytes m s (inl (omega (arith, of.place, place_from l log.anchor.third last.1.at, low))))
      (ends_so (records_by l j log.anchor))

  -- so what lies elsewhere stays
  pub copies_elsewhere : (m : ℕ) → m ≤ copies_count log.copies → (s : ℕ) → IsFalse (mount_writes l s) → (i : Image) → sector_at (stand i log.copies.place log.copies.bytes m) s ≡ sector_at i s
  copies_elsewhere m le s out i = ⊎_elim (λ low. copies_behind m le s low i) (λ high. copies_inside m le s (omega (arith, high)) i) (elsewhere l s out).log

  pub rest_stays : (old mid new : Moment) → Holds old (stand old.image log.copies.place log.copies.bytes (copies_count log.copies)) mid → IsWorn (open_damage mid.windows) mid.image new.image → StaysElsewhere l old new
  rest_stays old mid new holds worn s out =
      let last : IsWorn (open_damage old.windows) mid.image new.image = subst (λ (w : Windows). IsWorn (open_damage w) mid.image new.image) holds.windows worn in
      worn_twice (open_damage old.windows s) (sector_at old.image s) (sector_at (stand old.image log.copies.place log.copies.bytes (copies_count log.copies)) s) (sector_at new.image s)
      (inl (copies_elsewhere (copies_count log.copies) (omega arith) s out old.image))
      ((worn_trans (open_damage old.windows) _ mid.image new.image holds.worn last).each s)

  pub rest_in_part : (old new : Moment) → StandsInPart log.copies.place log.copies.bytes (copies_count log.copies) old new → StaysElsewhere l old new
  rest_in_part old new part s out =
      worn_twice (open_damage old.windows s) (sector_at old.image s) (sector_at (stand old.image log.copies.place log.copies.bytes part.stood) s) (sector_at new.image s)
      (inl (copies_elsewhere part.stood part.within s out old.image)) (part.holds.worn.each s)

-- ---- where each record is whole

all_laid_from : (l : Layout) (a : Anchor) (weak : Sectors) (i : Image) (rs : List Placed) → IsLaid l a weak i rs → HasLastCopies l a weak rs i → AllLaid l a weak i rs
all_laid_from l a weak i [] is_laid last = tt
all_laid_from l a weak i (r ∷ []) is_laid last = ((is_laid.0, last [] r refl), tt)
all_laid_from l a weak i (r ∷ q ∷ rs) is_laid last = ((is_laid.0, is_laid.1), all_laid_from l a weak i (q ∷ rs) is_laid.2 (λ front x is. last (r ∷ front) x (ap (λ (zs : List Placed). r ∷ zs) is)))

one_shown : (choices : List (List (List ℕ))) (o : Option (List (List ℕ))) → ShowsOne choices o → (pages : List (List ℕ)) × (o ≡ Some pages) × ShowsOne choices (Some pages)
one_shown choices None is = absurd is
one_shown choices (Some pages) is = (pages, refl, is)

module _ (l : Layout) (windows : List WeakRun) (choices : List (List (List ℕ))) (log : LogValue) (old : Moment) (planned : IsPlanned l) (seen : IsSeen l windows choices log old) where
  abbrev weak : Sectors
  weak = weak_of windows

  narrow : IsNarrow (weak_of windows)
  narrow s t far a b = seen.apart s t (omega (arith, far, gap_most l)) a b

  small : l.pages ≤ 2 ^ 32
  small = let bounds = planned_bounds l planned in omega (arith, bounds.pages_most)

  long : 16 + 3 * l.third ≤ length seen.image
  long = let bounds = planned_bounds l planned in omega (arith, bounds.third_least, bounds.sectors_least, seen.shows.readable.roots.fits)

  follows : (m : ℕ) → m ≤ copies_count log.copies → KeepsLogged l windows choices log.anchor seen.image (stand seen.image log.copies.place log.copies.bytes m)
  follows m le = completing l small windows seen.apart choices seen.image seen.shows log.anchor seen.knows.taken long log.copies seen.knows.last m le

  weaker : (i j : Image) → IsWorn (open_damage old.windows) i j → IsWorn (weak_of windows) i j
  weaker i j w = open_is_weak old.windows windows i j seen.ends w

  -- ---- a moment

  module _ (m : ℕ) (le : m ≤ copies_count log.copies) (left : Moment) (worn : IsWorn (open_damage old.windows) (stand old.image log.copies.place log.copies.bytes m) left.image) where
    from_seen : IsWorn (open_damage old.windows) (stand seen.image log.copies.place log.copies.bytes m) left.image
    from_seen = worn_trans (open_damage old.windows) (stand seen.image log.copies.place log.copies.bytes m) (stand old.image log.copies.place log.copies.bytes m) left.image
        (stand_worn (open_damage old.windows) seen.image old.image log.copies.place log.copies.bytes m seen.worn) worn

    shows_at : ShowsPages l windows choices left.image
    shows_at = shows_still l windows narrow choices (stand seen.image log.copies.place log.copies.bytes m) left.image (weaker (stand seen.image log.copies.place log.copies.bytes m) left.image from_seen) (follows m le).shows

    kept_at : KeepsBehindLog l (weak_of windows) old.image left.image
    kept_at s from = worn_twice (weak_of windows s) (sector_at old.image s) (sector_at (stand old.image log.copies.place log.copies.bytes m) s) (sector_at left.image s)
        (inl (copies_inside l log seen.image seen.knows m le s from old.image)) ((weaker (stand old.image log.copies.place log.copies.bytes m) left.image worn).each s)

    rest_at : WritesAsMount l (weak_of windows) old left
    rest_at s out = worn_twice (weak_of windows s) (sector_at old.image s) (sector_at (stand old.image log.copies.place log.copies.bytes m) s) (sector_at left.image s)
        (inl (copies_elsewhere l log seen.image seen.knows m le s out old.image)) ((weaker (stand old.image log.copies.place log.copies.bytes m) left.image worn).each s)

    -- the roots and the anchors are not written
    head_at : (s : ℕ) → s < 16 → SectorWorn (weak_of windows s) (sector_at old.image s) (sector_at left.image s)
    head_at s low = worn_twice (weak_of windows s) (sector_at old.image s) (sector_at (stand old.image log.copies.place log.copies.bytes m) s) (sector_at left.image s)
        (inl (copies_behind l log seen.image seen.knows m le s low old.image)) ((weaker (stand old.image log.copies.place log.copies.bytes m) left.image worn).each s)

    closes_at : ClosesNone old.image left.image
    closes_at = closes_none old.image left.image (worn_reads (weak_of windows) old.image left.image 8 (head_at 8 (omega arith))) (worn_reads (weak_of windows) old.image left.image 12 (head_at 12 (omega arith)))

    says_at : SaysNoMore old.image left.image
    says_at = says_no_more (weak_of windows) old.image left.image (λ s low. head_at s (omega (arith, low)))

    replays_at : left.windows.present ≡ old.windows.present → left.said ≡ old.said → Replays l windows choices old left
    replays_at present said = record {
      stage = inl (record { present = present; shows = shows_at; closes = closes_at });
      order = inl kept_at;
      rest = rest_at;
      says = says_at;
      said = said;
    }

  pub part_replays : (left : Moment) → StandsInPart log.copies.place log.copies.bytes (copies_count log.copies) old left → Replays l windows choices old left
  part_replays left part = replays_at part.stood part.within left part.holds.worn (ap (λ (w : Windows). w.present) part.holds.windows) part.holds.said

  -- ---- once they stand

  module _ (mid : Moment) (holds : Holds old (stand old.image log.copies.place log.copies.bytes (copies_count log.copies)) mid) where
    later : (left : Moment) → IsWorn (open_damage mid.windows) mid.image left.image → IsWorn (open_damage old.windows) (stand old.image log.copies.place log.copies.bytes (copies_count log.copies)) left.image
    later left worn = worn_trans (open_damage old.windows) (stand old.image log.copies.place log.copies.bytes (copies_count log.copies)) mid.image left.image holds.worn
        (subst (λ (w : Windows). IsWorn (open_damage w) mid.image left.image) holds.windows worn)

    wears_replays : (left : Moment) → Wears mid left → Replays l windows choices old left
    wears_replays left wears = replays_at (copies_count log.copies) (omega arith) left (later left wears.image) (ap (λ (w : Windows). w.present) (wears.windows ∙ holds.windows)) (wears.said ∙ holds.said)

    names_replays : {longest : ℕ} (new : Moment) → Names longest mid new → Replays l windows choices old new
    names_replays new names = replays_at (copies_count log.copies) (omega arith) new (later new names.image) (names.present ∙ ap (λ (w : Windows). w.present) holds.windows) (names.said ∙ holds.said)

    pub healing_replays : {longest : ℕ} (new left : Moment) → Names longest mid new → Before mid new left → Replays l windows choices old left
    healing_replays new left names (inl wears) = wears_replays left wears
    healing_replays new left names (inr is) = subst (Replays l windows choices old) (sym is) (names_replays new names)

    pub failed_replays : (new left : Moment) → Wears mid new → Before mid new left → Replays l windows choices old left
    failed_replays new left failed (inl wears) = wears_replays left wears
    failed_replays new left failed (inr is) = subst (Replays l windows choices old) (sym is) (wears_replays new failed)

    -- ---- the clean image

    abbrev clean : Image
    clean = stand seen.image log.copies.place log.copies.bytes (copies_count log.copies)

    at_clean : KeepsLogged l windows choices log.anchor seen.image clean
    at_clean = follows (copies_count log.copies) (omega arith)

    last_has : HasLastCopies l log.anchor (weak_of windows) (records_by l clean log.anchor) clean
    last_has front r is =
        let joined : records_by l seen.image log.anchor ≡ front ++ r ∷ [] = sym at_clean.records ∙ is in
        laid l small windows seen.apart choices seen.image seen.shows log.anchor seen.knows.taken long log.copies front r joined
        (last_copies l log.anchor.epoch log.anchor.third front r log.copies (subst (λ (rs : List Placed). AreLastCopies l log.anchor.epoch log.anchor.third rs log.copies) joined seen.knows.last))

    all_laid : AllLaid l log.anchor (weak_of windows) clean (records_by l clean log.anchor)
    all_laid =
        let log_is = at_clean.shows.readable.log clean (worn_refl (weak_of windows) clean) in
        all_laid_from l log.anchor (weak_of windows) clean (records_by l clean log.anchor)
        (subst (λ (o : Option Anchor). IfSome o (λ a. IsLaid l a (weak_of windows) clean (records_by l clean a))) at_clean.taken
        (newer_one (λ a. IsLaid l a (weak_of windows) clean (records_by l clean a)) (anchor_at clean 8) (anchor_at clean 12) log_is.laid.0 log_is.laid.1)) last_has

    all_logged : (page : ℕ) → (last_image page (records_by l clean log.anchor) ≡ None → ⊥) → IsLogged l (weak_of windows) page clean
    all_logged page is = ⊎_elim
        (λ none. absurd (is (ap (last_image page) none)))
        (λ last. logged_still l (weak_of windows) clean at_clean.shows.readable.anchors (at_clean.shows.readable.log clean (worn_refl (weak_of windows) clean)) log.anchor at_clean.taken last.0 last.1 last.2 (last_has last.0 last.1 last.2) small seen.apart page is)
        (ends_so (records_by l clean log.anchor))

    pub completed : (longest : ℕ) → longest ≤ longest_of l.kind → (new : Moment) → Names longest mid new → Completed l windows choices log old seen new
    completed longest fits new names =
        let worn : IsWorn (weak_of windows) clean new.image = weaker clean new.image (from_seen (copies_count log.copies) (omega arith) new (later new names.image)) in
        let present : new.windows.present ≡ old.windows.present = names.present ∙ ap (λ (w : Windows). w.present) holds.windows in
        let one = one_shown choices (shown l clean) (at_clean.shows.shows clean (worn_refl (weak_of windows) clean)) in
        record {
          is = record {
            clean = clean;
            planned = planned;
            apart = seen.apart;
            ends = record { last = seen.ends.last ∙ sym present; some = subst (λ (o : Option WeakRun). IsSome o) (sym present) seen.ends.some };
            short = if_more new.windows.next (λ run. run.count ≤ longest) (λ run. run.count ≤ longest_of l.kind) (λ run most. omega (arith, most, fits)) names.short;
            worn = worn;
            shows = at_clean.shows;
            taken = at_clean.taken;
            low = low_third l clean log.anchor at_clean.taken;
            slots = subst (IsIndexed log) (sym at_clean.records) seen.knows.slots;
            laid = all_laid;
            logged = all_logged;
            pages = one.0;
            shown = one.1;
            chosen = one.2;
          };
          last = λ front r is. (all_last (λ x. HasFront l log.anchor (weak_of windows) new.image x × HasCopies l log.anchor (weak_of windows) new.image x) front r
              (subst (AllLaid l log.anchor (weak_of windows) new.image) (at_clean.records ∙ is) (all_laid_worn l log.anchor (weak_of windows) clean new.image (records_by l clean log.anchor) worn all_laid))).1;
          kept = kept_at (copies_count log.copies) (omega arith) new (later new names.image);
          rest = rest_at (copies_count log.copies) (omega arith) new (later new names.image);
          closes = closes_at (copies_count log.copies) (omega arith) new (later new names.image);
          says = says_at (copies_count log.copies) (omega arith) new (later new names.image);
          present = present;
          said = names.said ∙ holds.said;
        }
