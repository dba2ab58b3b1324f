-- What a force makes of a disk that shows some pages, whatever its narrow run wears.
use Rattle.std.proofs.Common.{◌≡◌, ◌⊎◌, ⊎_elim, ℕ, suc, ◌+◌, ◌-◌, ◌*◌, ◌^◌, ◌<◌, ◌≤◌, Bool, true, false, cond, ◌&&◌, List, [], ◌∷◌, ◌++◌, length, get_or, map, Option, Some, None, nat_le, nat_lt, refl, sym, ap, subst, ◌∙◌, arith, eqb-true, inl, inr}
use Rattle.std.specs.Prelude.{◌==◌, IsTrue, IfSome, IsSome, option_and_then}
use Rattle.std.specs.List.{AllByRecursion, list_any}
use Rattle.std.specs.Option.{option_or}
use Rattle.std.proofs.lemmas.Bool.{and_parts, leb-true, cases_lt, or_cases}
use Rattle.std.proofs.lemmas.List.{get_or_append_left, get_or_push, length_push}
use Rattle.volume_layout.specs.declared.layout.Layout.{Layout}
use Rattle.volume_layout.specs.Layout.{turned}
use Rattle.volume_layout.specs.Layout.{home_a, home_b, InLog}
use Rattle.volume_layout.specs.Root.{root_bytes}
use Rattle.volume_layout.specs.Kinds.{gap_of}
use Rattle.run_table.specs.Space.{contains}
use Rattle.fsd_formats.specs.declared.anchor.Anchor.{Anchor}
use Rattle.fsd_formats.specs.Anchors.{read_anchor, read_closed}
use Rattle.fsd_formats.specs.Record.{Stamp, header_bytes, end_bytes, bears, record_len}
use Rattle.sector_disk.specs.declared.sector.Sector.{Sector}
use Rattle.sector_disk.specs.declared.sector.Sector.TheVariants.{Whole, Damaged}
use Rattle.sector_disk.specs.declared.sector.WeakRun.{WeakRun}
use Rattle.sector_disk.specs.Image.{sector_at, stand, IsWorn}
use Rattle.sector_disk.specs.Machine.{Moment, Holds}
use Rattle.sector_disk.proofs.Wear.{stand_in, stand_other, length-stand, outside_cases, worn_trans}
use Rattle.fsd_log.specs.Judged.{sector_in}
use Rattle.fsd_log.specs.Borne.{borne_by, Foreign}
use Rattle.fsd_log.specs.Laid.{laid_bytes, slices}
use Rattle.fsd_log.specs.Scan.{Head, Placed, Walked, IsLog, place_of, tape, spot_for, anchor_in, newer_of, is_newer}
use Rattle.fsd_log.specs.Images.{image_in, last_image}
use Rattle.fsd_log.proofs.BorneLaws.{page_bears}
use Rattle.fsd_log.proofs.LaidLaws.{IsLaidAs}
use Rattle.fsd_files.specs.Disk.{Image, Sectors, Has, bytes_of, bytes_at, first_whole}
use Rattle.fsd_sound.specs.Anchors.{anchor_at, anchor_of, EachAnchor}
use Rattle.fsd_sound.specs.Homes.{home_of}
use Rattle.fsd_sound.specs.Laid.{HasOwnLog, AllStand, HasFront, HasCopies, GoodCopies, IsLaid, AllLaid}
use Rattle.fsd_sound.specs.Shown.{records_by, newest, each_of, all_pages, shown_by, shown}
use Rattle.fsd_sound.specs.Sound.{disk_records, IfWhole, is_home, is_twin, HasRoots, EachStamp, HasAnchors, IsSuffix, ScansAgree, HasLog, HasHomes, EndIn, IsRootOf, Says, SaysTurned, at_rest, weak_of, ShowsOne}
use Rattle.fsd_sound.proofs.SaidLaws.{own_roots_say, says_same, says_worn, some_same}
use Rattle.fsd_sound.specs.Saved.{IsOpen}
use Rattle.fsd_sound.proofs.SoundLaws.{shows_still}
use Rattle.fsd_sound.proofs.WindowLaws.{open_is_weak}
use Rattle.fsd_sound.specs.Stands.{StandsShown}
use Rattle.fsd_sound.specs.Windows.{IsApart}
use Rattle.fsd_sound.proofs.CommuteLaws.{BearsBeside, both_own, all_shows}
use Rattle.fsd_sound.proofs.LaidLaws.{has_worn, own_worn}
use Rattle.fsd_sound.proofs.LogPlaces.{has_same}
use Rattle.log_thirds.specs.LogValue.{LogValue}
use Rattle.log_thirds.specs.Append.{StandsInPart, stamp_now, next_record, head_past, log_past, IsLogWorn, IsApartNow}
use Rattle.log_thirds.proofs.MomentLaws.{MayAppend, spots, in_third, write_inside, laid}
use Rattle.log_thirds.proofs.WornMomentLaws.{under, under_other, under_worn, image_before, image_either, image_whole}
use Rattle.fsd_log.proofs.PlaceLaws.{InThird, place_from, place_add, place_cases, below_numbers, first_most, end_most}
use Rattle.fsd_sound.specs.Mounted.{image_at}
use Rattle.group_commit.specs.Resident.{ResidentValue, stamped}
use Rattle.group_commit.specs.Force.{StandsOverDisk, Commits, Committed}
use Rattle.group_commit.proofs.ImageLaws.{IsRecordOf, length-stamped, stamped_other}
use Rattle.group_commit.proofs.PlaceLaws.{LiesBefore, log_lies, on_tape}
use Rattle.group_commit.proofs.AllLaidLaws.{length-slices, slice_at, front_same, copies_same, all_laid_more, is_laid_more, good_rows}
use Rattle.group_commit.proofs.StandsLaws as lower
use Rattle.group_commit.proofs.ShownLaws.{GivesEach, each_given, last_image-append, none_before, image_in_at, image_in_not}
use Rattle.volume_layout.proofs.KindLaws.{gap_most}

-- ---- anchors that are all the log's own

own_to : (o new : Option Anchor) (P Q : Anchor → Type 0) (a : Anchor) → new ≡ o → IfSome o (λ b. b ≡ a) → IfSome o P → (P a → Q a) → IfSome new Q
own_to None new P Q a e own p to = subst (λ (x : Option Anchor). IfSome x Q) (sym e) tt
own_to (Some b) new P Q a e own p to = subst (λ (x : Option Anchor). IfSome x Q) (sym e) (subst Q (sym own) (to (subst P own p)))

same_suffix : (xs ys : List Placed) → xs ≡ ys → IsSuffix xs ys
same_suffix xs ys e = ([], sym e)

scans_agree : (l : Layout) (i : Image) (a : Anchor) (o p : Option Anchor) → IfSome o (λ b. b ≡ a) → IfSome p (λ b. b ≡ a) → ScansAgree l i o p (newer_of o p)
scans_agree l i a None p own own2 = tt
scans_agree l i a (Some b) None own own2 = tt
scans_agree l i a (Some b) (Some c) own own2 = λ same.
    let taken = if_own (is_newer c b) in
    (same_suffix _ _ (ap (disk_records l i) (taken ∙ sym own)), same_suffix _ _ (ap (disk_records l i) (taken ∙ sym own2)))
  where
    if_own : (t : Bool) → cond t c b ≡ a
    if_own true = own2
    if_own false = own

-- ---- twins lie outside the log

head_below : (s : ℕ) → list_any (λ t. t == s) (0 ∷ 4 ∷ 8 ∷ 12 ∷ []) ≡ true → s < 16
head_below s h = elim (or_cases (0 == s) (list_any (λ t. t == s) (4 ∷ 8 ∷ 12 ∷ [])) h) [
  | inl at ↦ omega (arith, eqb-true 0 s at)
  | inr h4 ↦ elim (or_cases (4 == s) (list_any (λ t. t == s) (8 ∷ 12 ∷ [])) h4) [
    | inl at ↦ omega (arith, eqb-true 4 s at)
    | inr h8 ↦ elim (or_cases (8 == s) (list_any (λ t. t == s) (12 ∷ [])) h8) [
      | inl at ↦ omega (arith, eqb-true 8 s at)
      | inr h12 ↦ elim (or_cases (12 == s) false h12) [
        | inl at ↦ omega (arith, eqb-true 12 s at)
        | inr none ↦ absurd cc
      ]
    ]
  ]
]

twin_outside : (l : Layout) (s : ℕ) → IsTrue (is_twin l s) → (s < 16) ⊎ (16 + 3 * l.third ≤ s)
twin_outside l s is = elim (or_cases (list_any (λ t. t == s) (0 ∷ 4 ∷ 8 ∷ 12 ∷ [])) (is_home l s) is) [
  | inl head ↦ inl (head_below s head)
  | inr home ↦ inr (elim (or_cases (nat_le (home_a l 0) s && nat_lt s (home_a l l.pages)) (nat_le (home_b l 0) s && nat_lt s (home_b l l.pages)) home) [
    | inl first ↦ let le : home_a l 0 ≤ s = leb-true (home_a l 0) s (and_parts (nat_le (home_a l 0) s) (nat_lt s (home_a l l.pages)) first).0 in omega arith
    | inr copy ↦ let le : home_b l 0 ≤ s = leb-true (home_b l 0) s (and_parts (nat_le (home_b l 0) s) (nat_lt s (home_b l l.pages)) copy).0 in omega arith
  ])
]

-- The log may take this record of the pages that wait, and the weak run is narrow.
pub record MayForce (log : LogValue) (s : ResidentValue) (images : List ℕ) (records : List Placed) (disk : List (List ℕ)) (windows : List WeakRun) (old : Moment) : Type 0 where
  pub may : MayAppend log s.dirty images (length old.image)
  pub of : IsRecordOf (stamp_now log) s.dirty (stamped (stamp_now log) s.dirty s.pages) images
  pub table : length s.pages ≡ log.layout.pages
  pub few : log.layout.pages ≤ 2 ^ 32
  pub apart : IsApart (gap_of log.layout) (weak_of windows)
  pub ends : EndIn old.windows windows
  pub over : StandsOverDisk log records disk s windows old.image

-- ---- rows that stand, but for wear

module _ (l : Layout) (a : Anchor) (weak : Sectors) (i : Image) where
  rows_have : (s : ℕ) (xs : List (List ℕ)) → ((k : ℕ) → k < length xs → Has weak i (get_or xs k []) (s + k)) → AllStand l a weak i s xs
  rows_have s [] each = tt
  rows_have s (x ∷ xs) each = (
    subst (Has weak i x) (let e : s + 0 ≡ s = omega arith in e) (each 0 (omega arith)),
    rows_have (s + 1) xs (λ k lt. subst (Has weak i (get_or xs k [])) (let e : s + suc k ≡ s + 1 + k = omega arith in e) (each (suc k) (omega arith))),
  )

  whole_is : (bytes image : List ℕ) (s : ℕ) → Has weak i image s → sector_at i s ≡ Whole bytes → bytes ≡ image
  whole_is bytes image s (inl whole) is = let e : Whole bytes ≡ Whole image = sym is ∙ whole in cc
  whole_is bytes image s (inr hurt) is = let e : Whole bytes ≡ Damaged = sym is ∙ hurt.1 in absurd cc

  good_copies : (stamp : Stamp) (s : ℕ) (pages : List ℕ) (images : List (List ℕ)) (last : List ℕ) → length images ≡ length pages → AllStand l a weak i s (images ++ last ∷ []) → GoodCopies l a weak i stamp s pages images
  good_copies stamp s [] images last many all = tt
  good_copies stamp s (page ∷ pages) [] last many all = absurd (omega (arith, many))
  good_copies stamp s (page ∷ pages) (image ∷ images) last many all = ((λ bytes is bears. whole_is bytes image s all.0 is), good_copies stamp (s + 1) pages images last (omega (arith, many)) all.1)

  -- records that were laid whole are laid
  pub is_laid : (rs : List Placed) → AllByRecursion (λ r. length r.entry.images ≡ length r.entry.pages) rs → AllLaid l a weak i rs → IsLaid l a weak i rs
  is_laid [] many all = tt
  is_laid (r ∷ []) many all = (all.0.0, good_copies (record { epoch = a.epoch; number = r.entry.number }) (place_of l a.third r.at + (4 + 2 * (gap_of l) + length r.entry.pages)) r.entry.pages r.entry.images (end_bytes (record { epoch = a.epoch; number = r.entry.number }) (length r.entry.pages)) many.0 all.0.1)
  is_laid (r ∷ q ∷ rs) many all = (all.0.0, all.0.1, is_laid (q ∷ rs) many.1 all.1)

-- the log stays its own, as the machine's windows may wear it
pub log_in_window : (log : LogValue) (s : ResidentValue) (records : List Placed) (disk : List (List ℕ)) (windows : List WeakRun) (old : Moment) → log.layout.pages ≤ 2 ^ 32 → log.anchor.epoch < 2 ^ 32 → log.anchor.third ≤ 2
    → IsApart (gap_of log.layout) (weak_of windows) → EndIn old.windows windows → StandsOverDisk log records disk s windows old.image → IsLogWorn log records old
log_in_window log s records disk windows old few epoch third apart ends over = λ j w.
    (own_worn log.layout few log.anchor epoch third (weak_of windows) apart old.image j (open_is_weak old.windows windows old.image j ends w) records log.head over.own).log

module _ (log : LogValue) (s : ResidentValue) (images : List ℕ) (records : List Placed) (disk : List (List ℕ)) (windows : List WeakRun) (old : Moment) (m : MayForce log s images records disk windows old) where
  abbrev l : Layout
  l = log.layout

  abbrev a : Anchor
  a = log.anchor

  abbrev n : ℕ
  n = length s.dirty

  abbrev spot : Head
  spot = spot_for log.layout (length s.dirty) log.head

  abbrev place : ℕ
  place = place_of l a.third spot.at

  abbrev bytes : List ℕ
  bytes = laid_bytes (gap_of log.layout) (stamp_now log) s.dirty images

  abbrev now : List (List ℕ)
  now = stamped (stamp_now log) s.dirty s.pages

  abbrev hurt : Sectors
  hurt = weak_of windows

  abbrev r : Placed
  r = next_record log s.dirty images

  third : InThird l a.third spot.at (record_len (gap_of log.layout) n) spot.end
  third = in_third log s.dirty images (length old.image) m.may

  inside : place + record_len (gap_of log.layout) n ≤ 16 + 3 * l.third
  inside = write_inside log s.dirty images (length old.image) m.may

  from : 16 ≤ place
  from = place_from l a.third spot.at

  as_laid : IsLaidAs (gap_of log.layout) (stamp_now log) s.dirty images bytes
  as_laid = laid log s.dirty images (length old.image) m.may

  spot_from : log.head.at ≤ spot.at
  spot_from = elim (spots log s.dirty images (length old.image) m.may).0.place [ inl here ↦ omega (arith, here.0) | inr there ↦ omega (arith, there.1, m.may.is_in.before) ]

  abbrev rest : Moment
  rest = record old { windows = at_rest windows }

  narrow : IsApartNow (gap_of log.layout) rest
  narrow t d x y far = m.apart t (t + d) (omega (arith, far)) x y

  log_worn : IsLogWorn log records rest
  log_worn j w = (own_worn l m.few a m.may.epoch m.may.one_of hurt m.apart old.image j w records log.head m.over.own).log

  room_for : (stood : ℕ) → stood ≤ record_len (gap_of log.layout) n → place + stood ≤ length old.image
  room_for stood within = omega (arith, inside, m.may.sized)

  lies : AllByRecursion (LiesBefore l log.head.at) records
  lies = log_lies l a.epoch (tape l a.third (bytes_at old.image)) a.first records log.head m.over.own.log

  -- ---- the roots are not written

  head_same : (stood t : ℕ) → t < 8 → sector_at (stand old.image place bytes stood) t ≡ sector_at old.image t
  head_same stood t head = stand_other old.image place bytes stood t (inl (omega (arith, from, head)))

  -- a root says no more than before
  says_before : (stood : ℕ) (i : Image) → IsWorn hurt (stand old.image place bytes stood) i → (k : Layout) → Says k i → Says k old.image
  says_before stood i worn k says = says_same k old.image (stand old.image place bytes stood) (head_same stood) (says_worn k (stand old.image place bytes stood) i hurt worn says)

  never_turned : (stood : ℕ) (i : Image) → IsWorn hurt (stand old.image place bytes stood) i → SaysTurned l i → ⊥
  never_turned stood i worn says = own_roots_say l hurt old.image m.over.own.roots (says_before stood i worn (turned l) says)

  beside : (choices : List (List (List ℕ))) (stood : ℕ) (i : Image) → IsWorn hurt (stand old.image place bytes stood) i → BearsBeside l windows choices i
  beside choices stood i worn = both_own l hurt windows choices old.image i m.over.shows.readable.roots.planned m.over.own.roots (says_before stood i worn)

  -- ---- one image that a stop may leave

  module _ (i : Image) (stood : ℕ) (within : stood ≤ record_len (gap_of log.layout) n) (worn : IsWorn hurt (stand old.image place bytes stood) i) where
    -- the same with the old sectors where the write stands
    abbrev base : Image
    base = under hurt old.image i place bytes stood (room_for stood within) worn

    base_worn : IsWorn hurt old.image base
    base_worn = under_worn hurt old.image i place bytes stood (room_for stood within) worn

    over : StandsOverDisk log records disk s windows base
    over = record {
      shows = shows_still l windows (λ t u far x y. m.apart t u (omega (arith, far, gap_most l)) x y) (disk ∷ []) old.image base base_worn m.over.shows;
      own = own_worn l m.few a m.may.epoch m.may.one_of hurt m.apart old.image base base_worn records log.head m.over.own;
      clean = m.over.clean;
    }

    same_out : (t : ℕ) → (t < place) ⊎ (place + stood ≤ t) → sector_at i t ≡ sector_at base t
    same_out t out = sym (under_other hurt old.image i place bytes stood (room_for stood within) worn t out)

    same_far : (t : ℕ) → (t < 16) ⊎ (16 + 3 * l.third ≤ t) → sector_at i t ≡ sector_at base t
    same_far t (inl below) = same_out t (inl (omega (arith, from)))
    same_far t (inr above) = same_out t (inr (omega (arith, inside, within)))

    away : (q : Placed) → LiesBefore l log.head.at q → (k : ℕ) → k < record_len (gap_of log.layout) (length q.entry.pages) → (place_of l a.third q.at + k < place) ⊎ (place + stood ≤ place_of l a.third q.at + k)
    away q before k lt =
        let at_q : InThird l a.third q.at (record_len (gap_of log.layout) (length q.entry.pages)) before.end = record { one_of = m.may.one_of; ends = before.ends; from = before.from; to = before.to } in
        let there : place_of l a.third (q.at + k) ≡ place_of l a.third q.at + k = place_add l a.third q.at (record_len (gap_of log.layout) (length q.entry.pages)) before.end k at_q lt in
        subst (λ (t : ℕ). (t < place) ⊎ (place + stood ≤ t)) there
        (below_numbers l.third (a.third * l.third) spot.at stood spot.end place (q.at + k) (place_of l a.third (q.at + k)) (first_most l a.third m.may.one_of) (end_most l spot.end third.ends) (omega (arith, third.to, within)) (omega (arith, before.before, spot_from))
        (place_cases l a.third spot.at) (place_cases l a.third (q.at + k)))

    same_record : (q : Placed) → LiesBefore l log.head.at q → (k : ℕ) → k < record_len (gap_of log.layout) (length q.entry.pages) → sector_at i (place_of l a.third q.at + k) ≡ sector_at base (place_of l a.third q.at + k)
    same_record q before k lt = same_out (place_of l a.third q.at + k) (away q before k lt)

    in_write : (k : ℕ) → k < stood → Has hurt i (sector_in bytes k) (place + k)
    in_write k lt = ⊎_elim (λ same. inl (same ∙ stand_in old.image place bytes stood k lt (room_for stood within))) (λ hurt. inr hurt) (worn.each (place + k))

    has_row : (k : ℕ) (x : List ℕ) → k < stood → sector_in bytes k ≡ x → Has hurt i x (place + k)
    has_row k x lt is = subst (λ (y : List ℕ). Has hurt i y (place + k)) is (in_write k lt)

    size : length i ≡ length base
    size = worn.size ∙ length-stand old.image place bytes stood ∙ sym base_worn.size

    -- ---- roots and anchors

    root_has : (t : ℕ) → t < 8 → Has hurt old.image (root_bytes l) t → Has hurt i (root_bytes l) t
    root_has t head has = has_worn hurt (stand old.image place bytes stood) i (root_bytes l) t worn (has_same l a hurt old.image (stand old.image place bytes stood) (root_bytes l) t (head_same stood t head) has)

    whole_far : (t : ℕ) (P : List ℕ → Type 0) → (t < 16) ⊎ (16 + 3 * l.third ≤ t) → IfWhole base t P → IfWhole i t P
    whole_far t P far was x is = was x (sym (same_far t far) ∙ is)

    roots : HasRoots l hurt i
    roots =
        let was = over.shows.readable.roots in
        record {
          planned = was.planned;
          other = was.other;
          beside = was.beside;
          some = some_same l base i was.other (same_far 0 (inl (omega arith))) (same_far 4 (inl (omega arith))) was.some;
          first = whole_far 0 (IsRootOf l was.other) (inl (omega arith)) was.first;
          second = whole_far 4 (IsRootOf l was.other) (inl (omega arith)) was.second;
          fits = omega (arith, was.fits, size);
          twins = λ t twin is. was.twins t twin (sym (same_far t (twin_outside l t twin)) ∙ is);
        }

    anchor_same : (t : ℕ) → t < 16 → anchor_at i t ≡ anchor_at base t
    anchor_same t lt = ap (λ (x : Sector). anchor_in (bytes_of x)) (same_far t (inl lt))

    anchors_same : anchor_of i ≡ anchor_of base
    anchors_same = λ k. newer_of (anchor_same 8 (omega arith) k) (anchor_same 12 (omega arith) k)

    each_to : (P Q : Anchor → Type 0) → EachAnchor base P → (P a → Q a) → EachAnchor i Q
    each_to P Q was to = (
      own_to (anchor_at base 8) (anchor_at i 8) P Q a (anchor_same 8 (omega arith)) over.own.own.0 was.0 to,
      own_to (anchor_at base 12) (anchor_at i 12) P Q a (anchor_same 12 (omega arith)) over.own.own.1 was.1 to,
    )

    -- none says that its volume was closed
    opened : IsOpen i
    opened = (
      ap (λ (x : Sector). option_and_then read_closed (bytes_of x)) (same_far 8 (inl (omega arith))) ∙ over.own.opened.0,
      ap (λ (x : Sector). option_and_then read_closed (bytes_of x)) (same_far 12 (inl (omega arith))) ∙ over.own.opened.1,
    )

    own : EachAnchor i (λ b. b ≡ a)
    own = each_to (λ b. b ≡ a) (λ b. b ≡ a) over.own.own (λ e. e)

    to_each : (Q : Anchor → Type 0) → Q a → EachAnchor i Q
    to_each Q given = each_to (λ b. b ≡ a) Q over.own.own (λ e. given)

    stamps_now : EachStamp l base (λ stamp. stamp.epoch ≤ a.epoch) → EachStamp l i (λ stamp. stamp.epoch ≤ a.epoch)
    stamps_now was t in_log x is = elim (outside_cases place stood t) [
      | inr out ↦ was t in_log x (sym (same_out t out) ∙ is)
      | inl here ↦
          let at : place + (t - place) ≡ t = omega arith in
          let same : x ≡ sector_in bytes (t - place) = whole_is l a hurt i x (sector_in bytes (t - place)) (place + (t - place)) (in_write (t - place) (omega arith)) (ap (sector_at i) at ∙ is) in
          subst (λ (y : List ℕ). IfSome (borne_by y) (λ stamp. stamp.epoch ≤ a.epoch)) (sym same) (bears_ours (sector_in bytes (t - place)) (as_laid.borne (t - place) (omega (arith, within))))
    ]
      where
        bears_ours : (row : List ℕ) → (borne_by row ≡ Some (stamp_now log)) ⊎ (borne_by row ≡ None) → IfSome (borne_by row) (λ stamp. stamp.epoch ≤ a.epoch)
        bears_ours row (inl ours) = subst (λ (o : Option Stamp). IfSome o (λ stamp. stamp.epoch ≤ a.epoch)) (sym ours) (omega arith)
        bears_ours row (inr none) = subst (λ (o : Option Stamp). IfSome o (λ stamp. stamp.epoch ≤ a.epoch)) (sym none) tt

    anchors : HasAnchors l i
    anchors =
        let was = over.shows.readable.anchors in
        record {
          first = whole_far 8 (λ x. IsSome (read_anchor x)) (inl (omega arith)) was.first;
          second = whole_far 12 (λ x. IsSome (read_anchor x)) (inl (omega arith)) was.second;
          epochs = each_to (λ b. EachStamp l base (λ stamp. stamp.epoch ≤ b.epoch)) (λ b. EachStamp l i (λ stamp. stamp.epoch ≤ b.epoch)) was.epochs stamps_now;
        }

    home_same : (page : ℕ) → home_of l i page ≡ home_of l base page
    home_same page =
        let first : bytes_at i (home_a l page) ≡ bytes_at base (home_a l page) = ap bytes_of (same_far (home_a l page) (inr (omega arith))) in
        let copy : bytes_at i (home_b l page) ≡ bytes_at base (home_b l page) = ap bytes_of (same_far (home_b l page) (inr (omega arith))) in
        λ k. first_whole (first k) (copy k)

    -- ---- by what the scan finds

    was_scanned : records_by l base a ≡ records
    was_scanned = lower.scanned l a log.head records disk s.pages s.dirty windows base over

    abbrev SameHomes : Image → List Placed → Type 0
    SameHomes j found = (page : ℕ) → page < l.pages → last_image page found ≡ None → (x y : List ℕ) → sector_at j (home_a l page) ≡ Whole x → sector_at j (home_b l page) ≡ Whole y → x ≡ y

    module _ (found : List Placed) (scanned : records_by l i a ≡ found) (laid_found : IsLaid l a hurt i found) (more : (page : ℕ) → last_image page found ≡ None → last_image page records ≡ None) where
      has_log : HasLog l hurt i
      has_log = record {
        agree = scans_agree l i a (anchor_at i 8) (anchor_at i 12) own.0 own.1;
        laid = to_each (λ b. IsLaid l b hurt i (records_by l i b)) (subst (IsLaid l a hurt i) (sym scanned) laid_found);
      }

      homes_now : SameHomes base (records_by l base a) → SameHomes i (records_by l i a)
      homes_now was page lt none x y first copy =
          let none_found : last_image page found ≡ None = ap (last_image page) (sym scanned) ∙ none in
          let none_was : last_image page (records_by l base a) ≡ None = ap (last_image page) was_scanned ∙ more page none_found in
          was page lt none_was x y (sym (same_far (home_a l page) (inr (omega arith))) ∙ first) (sym (same_far (home_b l page) (inr (omega arith))) ∙ copy)

      old_homes : HasHomes l base
      old_homes = over.shows.readable.homes base (record { size = refl; each = λ t. inl refl })

      has_homes : HasHomes l i
      has_homes = each_to (λ b. SameHomes base (records_by l base b)) (λ b. SameHomes i (records_by l i b)) old_homes homes_now

      -- ---- the pages

      stands_by : (choices : List (List (List ℕ))) (ys : List (List ℕ)) → GivesEach (newest l i found) 0 l.pages ys → anchor_of base ≡ Some a → ShowsOne choices (Some ys) → StandsShown l hurt choices i
      stands_by choices ys gives anchored one =
          let anchor : anchor_of i ≡ Some a = anchors_same ∙ anchored in
          let by : shown_by l i a ≡ Some ys = ap (λ (q : List Placed). each_of (newest l i q) (all_pages l)) scanned ∙ each_given (newest l i found) 0 l.pages ys gives in
          let shows_ys : shown l i ≡ Some ys = ap (option_and_then (shown_by l i)) anchor ∙ by in
          record { roots = roots; empty = λ says. absurd (never_turned stood i worn says); anchors = anchors; log = has_log; homes = has_homes; shows = subst (ShowsOne choices) (sym shows_ys) one }

    -- ---- the records as they were laid

    all_same : (rs : List Placed) → AllByRecursion (LiesBefore l log.head.at) rs → AllLaid l a hurt base rs → AllLaid l a hurt i rs
    all_same [] before all = tt
    all_same (q ∷ rs) before all = (
      (
        front_same l a hurt base i q before.0.images (λ k lt. same_record q before.0 k lt) all.0.0,
        copies_same l a hurt base i q before.0.images (λ k lt. same_record q before.0 k lt) all.0.1,
      ),
      all_same rs before.1 all.1,
    )

    all_records : AllLaid l a hurt i records
    all_records = all_same records lies over.own.laid

    each_many : (rs : List Placed) → AllByRecursion (LiesBefore l log.head.at) rs → AllByRecursion (λ q. length q.entry.images ≡ length q.entry.pages) rs
    each_many [] before = tt
    each_many (q ∷ rs) before = (before.0.images, each_many rs before.1)

    laid_records : IsLaid l a hurt i records
    laid_records = is_laid l a hurt i records (each_many records lies) all_records

    -- ---- the new record

    abbrev rows : List (List ℕ)
    rows = slices n images ++ end_bytes (stamp_now log) n ∷ []

    rows_long : length rows ≡ n + 1
    rows_long = length_push (slices n images) (end_bytes (stamp_now log) n) ∙ ap (λ (k : ℕ). k + 1) (length-slices n 0 images)

    row_at : (at : ℕ) → ((j : ℕ) → j < n → sector_in bytes (at + j) ≡ sector_in images j) → sector_in bytes (at + n) ≡ end_bytes (stamp_now log) n → at + n < stood
        → (k : ℕ) → k < length rows → Has hurt i (get_or rows k []) (place + at + k)
    row_at at image last stands k lt =
        let there : place + (at + k) ≡ place + at + k = omega arith in
        subst (Has hurt i (get_or rows k [])) there (elim (cases_lt k n) [
          | inl below ↦
              has_row (at + k) (get_or rows k []) (omega arith)
              (image k below ∙ sym (get_or_append_left (slices n images) (end_bytes (stamp_now log) n ∷ []) [] k (omega (arith, length-slices n 0 images)) ∙ slice_at n images k below))
          | inr past ↦
              let same : k ≡ n = omega (arith, rows_long) in
              has_row (at + k) (get_or rows k []) (omega (arith, same))
              (ap (λ (j : ℕ). sector_in bytes (at + j)) same ∙ last ∙ sym (get_or_push (slices n images) (end_bytes (stamp_now log) n) [] k (length-slices n 0 images ∙ sym same)))
        ])

    front_new : 3 + (gap_of log.layout) + n < stood → HasFront l a hurt i r
    front_new stands = record {
      header = subst (Has hurt i (header_bytes (stamp_now log) s.dirty)) (let e : place + 0 ≡ place = omega arith in e) (has_row 0 (header_bytes (stamp_now log) s.dirty) (omega arith) as_laid.header);
      header_copy = has_row (2 + (gap_of log.layout)) (header_bytes (stamp_now log) s.dirty) (omega arith) as_laid.header_copy;
      pages = subst (λ (s : ℕ). AllStand l a hurt i s rows) (let e : place + (3 + (gap_of log.layout)) ≡ place + 3 + (gap_of log.layout) = omega arith in e) (rows_have l a hurt i (place + (3 + (gap_of log.layout))) rows (row_at (3 + (gap_of log.layout)) as_laid.image as_laid.ends stands));
    }

    copies_new : record_len (gap_of log.layout) n ≤ stood → HasCopies l a hurt i r
    copies_new stands = rows_have l a hurt i (place + (4 + 2 * (gap_of log.layout) + n)) rows
        (row_at (4 + 2 * (gap_of log.layout) + n) as_laid.copy (ap (sector_in bytes) (let e : 4 + 2 * (gap_of log.layout) + n + n ≡ 4 + 2 * (gap_of log.layout) + 2 * n = omega arith in e) ∙ as_laid.last) (omega arith))

    -- a sector that was not written bears no such stamp
    not_ours : (k : ℕ) → k < record_len (gap_of log.layout) n → (page : ℕ) (x : List ℕ) → sector_at base (place + k) ≡ Whole x → IsTrue (bears page (stamp_now log) x) → ⊥
    not_ours k lt page x is bear =
        let read : tape l a.third (bytes_at base) (spot.at + k) ≡ Some x = on_tape l a.third spot.at (record_len (gap_of log.layout) n) spot.end third base (stand base place bytes stood) bytes stood within (λ p. refl) k (bytes_at base) lt ∙ ap bytes_of is in
        let foreign : Foreign (stamp_now log) (tape l a.third (bytes_at base) (spot.at + k)) = over.own.log.fresh (spot.at + k) log.head.number (omega arith) in
        subst (Foreign (stamp_now log)) read foreign (page_bears page (stamp_now log) x bear)

    good_new : GoodCopies l a hurt i (stamp_now log) (place + (4 + 2 * (gap_of log.layout) + n)) s.dirty (slices n images)
    good_new = good_rows l a hurt i (stamp_now log) (place + (4 + 2 * (gap_of log.layout) + n)) s.dirty (slices n images) (length-slices n 0 images) (λ k lt x is bear.
        let at : place + (4 + 2 * (gap_of log.layout) + n) + k ≡ place + (4 + 2 * (gap_of log.layout) + n + k) = omega arith in
        let there : sector_at i (place + (4 + 2 * (gap_of log.layout) + n + k)) ≡ Whole x = ap (sector_at i) (sym at) ∙ is in
        elim (cases_lt (4 + 2 * (gap_of log.layout) + n + k) stood) [
          | inl here ↦
              whole_is l a hurt i x (sector_in bytes (4 + 2 * (gap_of log.layout) + n + k)) (place + (4 + 2 * (gap_of log.layout) + n + k)) (in_write (4 + 2 * (gap_of log.layout) + n + k) here) there ∙ as_laid.copy k lt ∙ sym (slice_at n images k lt)
          | inr past ↦ absurd (not_ours (4 + 2 * (gap_of log.layout) + n + k) (omega arith) (get_or s.dirty k 0) x (sym (same_out (place + (4 + 2 * (gap_of log.layout) + n + k)) (inr (omega arith))) ∙ there) bear)
        ])

    laid_more : 3 + (gap_of log.layout) + n < stood → IsLaid l a hurt i (records ++ r ∷ [])
    laid_more stands = is_laid_more l a hurt i records r all_records (front_new stands, good_new)

    all_more : record_len (gap_of log.layout) n ≤ stood → AllLaid l a hurt i (records ++ r ∷ [])
    all_more stands = all_laid_more l a hurt i records r all_records (front_new (omega arith), copies_new stands)

    -- ---- the pages that are shown

    was_gives : GivesEach (newest l base records) 0 l.pages disk
    was_gives = lower.gives_disk l a log.head records disk s.pages s.dirty windows base over

    page_was : (k : ℕ) → k < l.pages → newest l base records k ≡ Some (image_at disk k)
    page_was = lower.page_shown l a log.head records disk s.pages s.dirty windows base over

    was_shown : (anchor_of base ≡ Some a) × (shown_by l base a ≡ Some disk)
    was_shown = lower.is_shown l a log.head records disk s.pages s.dirty windows base over

    gives_disk : GivesEach (newest l i records) 0 l.pages disk
    gives_disk = record { size = was_gives.size; each = λ k lt. ap (option_or (last_image (0 + k) records)) (home_same (0 + k)) ∙ was_gives.each k lt }

    page_now : (k : ℕ) → k < l.pages → newest l i (records ++ r ∷ []) k ≡ Some (image_at now k)
    page_now k lt = split ∙ by_dirty (contains s.dirty k) refl
      where
        split : newest l i (records ++ r ∷ []) k ≡ option_or (option_or (image_in k s.dirty (map (image_at now) s.dirty)) (last_image k records)) (home_of l i k)
        split =
            ap (λ (o : Option (List ℕ)). option_or o (home_of l i k))
            (last_image-append k records r ∙ ap (λ (xs : List (List ℕ)). option_or (image_in k s.dirty xs) (last_image k records)) m.of.slices_are)

        by_dirty : (b : Bool) → contains s.dirty k ≡ b → option_or (option_or (image_in k s.dirty (map (image_at now) s.dirty)) (last_image k records)) (home_of l i k) ≡ Some (image_at now k)
        by_dirty true is =
            ap (λ (o : Option (List ℕ)). option_or (option_or o (last_image k records)) (home_of l i k)) (image_in_at (image_at now) s.dirty k (λ q e. ap (image_at now) (eqb-true q k e)) is)
        by_dirty false is =
            ap (λ (o : Option (List ℕ)). option_or (option_or o (last_image k records)) (home_of l i k)) (image_in_not (image_at now) s.dirty k is)
            ∙ ap (option_or (last_image k records)) (home_same k)
            ∙ page_was k lt
            ∙ ap (λ (x : List ℕ). Some x) (over.clean.each k is ∙ sym (stamped_other (stamp_now log) s.dirty s.pages k is))

    gives_now : GivesEach (newest l i (records ++ r ∷ [])) 0 l.pages now
    gives_now = record {
      size = length-stamped (stamp_now log) s.dirty s.pages ∙ m.table;
      each = λ k lt. ap (newest l i (records ++ r ∷ [])) (let e : 0 + k ≡ k = omega arith in e) ∙ page_now k lt;
    }

    -- ---- which of the two it shows

    stands_old : records_by l i a ≡ records → StandsShown l hurt (disk ∷ now ∷ []) i
    stands_old scanned = stands_by records scanned laid_records (λ page none. none) (disk ∷ now ∷ []) disk gives_disk was_shown.0 (0, omega arith, refl)

    stands_new : (choices : List (List (List ℕ))) → ShowsOne choices (Some now) → 3 + (gap_of log.layout) + n < stood → records_by l i a ≡ records ++ r ∷ [] → StandsShown l hurt choices i
    stands_new choices one there scanned = stands_by (records ++ r ∷ []) scanned (laid_more there) (λ page none. none_before page records r none) choices now gives_now was_shown.0 one

    stands_either : StandsShown l hurt (disk ∷ now ∷ []) i
    stands_either = elim (cases_lt (3 + (gap_of log.layout) + n) stood) [
      | inr before ↦ stands_old (ap (λ (w : Walked). w.records) (image_before log s.dirty images (length old.image) m.may rest refl records log_worn stood within i worn before))
      | inl there ↦ ⊎_elim
          (λ is. stands_old (ap (λ (w : Walked). w.records) is))
          (λ is. stands_new (disk ∷ now ∷ []) (1, omega arith, refl) there (ap (λ (w : Walked). w.records) is))
          (image_either log s.dirty images (length old.image) m.may rest refl records log_worn stood within i worn)
    ]

    log_now : stood ≡ record_len (gap_of log.layout) n → IsLog l a.epoch a.first (tape l a.third (bytes_at i)) (records ++ r ∷ []) (head_past log n)
    log_now whole = image_whole log s.dirty images (length old.image) m.may rest refl records log_worn stood within i worn whole narrow

    stands_now : stood ≡ record_len (gap_of log.layout) n → StandsShown l hurt (now ∷ []) i
    stands_now whole = stands_new (now ∷ []) (0, omega arith, refl) (omega (arith, whole)) (ap (λ (w : Walked). w.records) (log_now whole).scanned)

    own_now : stood ≡ record_len (gap_of log.layout) n → HasOwnLog l a (records ++ r ∷ []) (head_past log n) hurt i
    own_now whole = record { roots = (root_has 0 (omega arith) m.over.own.roots.0, root_has 4 (omega arith) m.over.own.roots.1); own = own; opened = opened; log = log_now whole; laid = all_more (omega (arith, whole)) }

  -- ---- the two claims of a force

  in_window : (stood : ℕ) (left : Moment) → Holds old (stand old.image place bytes stood) left → IsWorn hurt (stand old.image place bytes stood) left.image
  in_window stood left holds = open_is_weak old.windows windows (stand old.image place bytes stood) left.image m.ends holds.worn

  -- what lies outside the log is not written
  apart_from : (t stood : ℕ) → (InLog l t → ⊥) → stood ≤ record_len (gap_of log.layout) n → (t < place) ⊎ (place + stood ≤ t)
  apart_from t stood out within = elim (cases_lt t place) [
    | inl before ↦ inl before
    | inr from ↦ inr (elim (cases_lt t (place + stood)) [
      | inl there ↦ absurd (out (omega (arith, from, place_from l a.third spot.at), omega (arith, there, within, inside)))
      | inr past ↦ past
    ])
  ]

  pub commits : (left : Moment) → StandsInPart place bytes (record_len (gap_of log.layout) n) old left → Commits l windows disk now old left
  commits left part = record {
    shows = all_shows l windows m.over.shows.readable.borne (disk ∷ now ∷ []) left.image (beside (disk ∷ now ∷ []) part.stood left.image (in_window part.stood left part.holds))
        (λ j w. stands_either j part.stood part.within (worn_trans hurt (stand old.image place bytes part.stood) left.image j (in_window part.stood left part.holds) w));
    kept = λ t ge. ⊎_elim
        (λ same. inl (same ∙ stand_other old.image place bytes part.stood t (inr (omega (arith, inside, part.within)))))
        (λ hurt. inr hurt) (part.holds.worn.each t);
    outside = record {
      size = part.holds.worn.size ∙ length-stand old.image place bytes part.stood;
      others = λ t out. ⊎_elim
          (λ same. inl (same ∙ stand_other old.image place bytes part.stood t (apart_from t part.stood (λ inside. out (inl inside)) part.within)))
          (λ hurt. inr hurt) (part.holds.worn.each t);
    };
    opened = opened left.image part.stood part.within (in_window part.stood left part.holds);
    windows = part.holds.windows;
    said = part.holds.said;
  }

  pub committed : (left : Moment) → Holds old (stand old.image place bytes (record_len (gap_of log.layout) n)) left → Committed (log_past log n) (record { pages = now; dirty = [] }) windows left.image
  committed left holds = record {
    records = records ++ r ∷ [];
    stands = record {
      shows = all_shows l windows m.over.shows.readable.borne (now ∷ []) left.image (beside (now ∷ []) (record_len (gap_of log.layout) n) left.image (in_window (record_len (gap_of log.layout) n) left holds))
          (λ j w. stands_now j (record_len (gap_of log.layout) n) (omega arith) (worn_trans hurt (stand old.image place bytes (record_len (gap_of log.layout) n)) left.image j (in_window (record_len (gap_of log.layout) n) left holds) w) refl);
      own = own_now left.image (record_len (gap_of log.layout) n) (omega arith) (in_window (record_len (gap_of log.layout) n) left holds) refl;
      clean = record { size = refl; each = λ page out. refl };
    };
  }
