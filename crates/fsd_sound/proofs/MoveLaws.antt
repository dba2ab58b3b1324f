-- An anchor that names the following third is written over one of the two or over both, once the pages whose last images lie
-- in the first third stand at home: the same pages are shown by it.
use Rattle.std.proofs.Common.{◌≡◌, ◌≢◌, ◌⊎◌, inl, inr, ⊎_elim, ℕ, ◌^◌, ◌<◌, ◌≤◌, Bool, true, false, cond, ◌&&◌, List, [], ◌∷◌, ◌++◌, length, map, Option, Some, None, refl, sym, ap, subst, ◌∙◌, arith}
use Rattle.std.specs.Prelude.{IfSome, IsSome, is_some, nat_le, option_map, option_and_then}
use Rattle.std.specs.List.{AllByRecursion}
use Rattle.std.specs.Option.{option_or}
use Rattle.std.proofs.lemmas.Bool.{le-leb, and_from}
use Rattle.std.proofs.lemmas.Bool.Decides.{nat_tests}
use Rattle.volume_layout.specs.declared.layout.Layout.{Layout}
use Rattle.volume_layout.specs.Layout.{home_a, home_b, turned}
use Rattle.fsd_formats.specs.declared.anchor.Anchor.{Anchor}
use Rattle.fsd_formats.specs.Anchors.{anchor_bytes, read_anchor, is_anchor}
use Rattle.fsd_formats.proofs.SpellingLaws.{anchor_is_read}
use Rattle.sector_disk.specs.declared.sector.Sector.{Sector}
use Rattle.sector_disk.specs.declared.sector.Sector.TheVariants.{Whole, Damaged}
use Rattle.sector_disk.specs.Image.{sector_at}
use Rattle.fsd_log.specs.Scan.{Placed, Walked, newer_of, is_newer}
use Rattle.fsd_log.specs.Images.{last_image}
use Rattle.fsd_files.specs.Disk.{Image, Sectors, bytes_of, first_whole}
use Rattle.fsd_sound.specs.Anchors.{anchor_at, anchor_of, EachAnchor}
use Rattle.fsd_sound.specs.Homes.{home_of}
use Rattle.fsd_sound.specs.Laid.{HasOwnRoots, IsLaid}
use Rattle.fsd_sound.specs.Shown.{records_by, newest, each_of, all_pages, shown_by, shown}
use Rattle.fsd_sound.specs.Sound.{IfWhole, EachStamp, HasAnchors, HasRoots, on_disk, disk_records, IsSuffix, ScansAgree, ShowsOne}
use Rattle.fsd_sound.proofs.EachLaws.{all_in_range}
use Rattle.fsd_sound.proofs.LogPlaces.{SameLog, same_scan, scan_records, laid_same}
use Rattle.fsd_sound.specs.Stands.{StandsShown}
use Rattle.fsd_sound.proofs.CommuteLaws.{same_or}
use Rattle.fsd_sound.proofs.SaidLaws.{own_roots_say, says_same, some_same}
use Rattle.fsd_sound.proofs.SectorFacts.{not_damaged}
use Rattle.fsd_sound.proofs.AnchorFacts.{either_same}

-- an anchor that may follow another in its epoch
pub record IsLater (old new : Anchor) : Type 0 where
  pub low : old.third ≤ 2
  pub next : new.third ≤ 2
  pub epoch : new.epoch ≡ old.epoch
  pub some : 1 ≤ new.epoch
  pub last : new.epoch < 2 ^ 32
  pub later : old.first < new.first
  pub small : new.first < 2 ^ 32

-- the page's last image is the rest's, or it stands at both homes, where they are whole
pub record IsHomedIn (l : Layout) (rs rest : List Placed) (i : Image) (page : ℕ) : Type 0 where
  pub keeps : (x : List ℕ) → last_image page rest ≡ Some x → last_image page rs ≡ Some x
  pub home : (x : List ℕ) → last_image page rest ≡ None → last_image page rs ≡ Some x → home_of l i page ≡ Some x
  pub alike : (z : List ℕ) → last_image page rest ≡ None → last_image page rs ≡ Some z → (x y : List ℕ) → sector_at i (home_a l page) ≡ Whole x → sector_at i (home_b l page) ≡ Whole y → x ≡ y

-- an image whose log by the old anchor is this, and by the new one the rest of it
pub record MayMoveOn (l : Layout) (old new : Anchor) (rs rest : List Placed) (pages : List (List ℕ)) (weak : Sectors) (i : Image) : Type 0 where
  pub later : IsLater old new
  pub roots : HasOwnRoots l weak i
  pub own : EachAnchor i (λ a. a ≡ old)
  pub records : records_by l i old ≡ rs
  pub behind : records_by l i new ≡ rest
  pub suffix : IsSuffix (map (on_disk l new) rest) (map (on_disk l old) rs)
  pub laid : IsLaid l old weak i rs
  pub laid_behind : IsLaid l new weak i rest
  pub stamps : EachStamp l i (λ stamp. stamp.epoch ≤ old.epoch)
  pub shown : shown_by l i old ≡ Some pages
  pub homed : (page : ℕ) → page < l.pages → IsHomedIn l rs rest i page
  pub alike : (page : ℕ) → page < l.pages → last_image page rs ≡ None → (x y : List ℕ) → sector_at i (home_a l page) ≡ Whole x → sector_at i (home_b l page) ≡ Whole y → x ≡ y

each_same : (f g : ℕ → Option (List ℕ)) (xs : List ℕ) → AllByRecursion (λ x. f x ≡ g x) xs → each_of f xs ≡ each_of g xs
each_same f g [] all = refl
each_same f g (x ∷ xs) all = λ i. option_and_then (λ y. option_map (λ ys. y ∷ ys) (each_same f g xs all.1 i)) (all.0 i)

pub anchor_found : (a : Anchor) (i : Image) (s : ℕ) → a.third ≤ 2 → 1 ≤ a.epoch → a.epoch < 2 ^ 32 → 1 ≤ a.first → a.first < 2 ^ 32 → sector_at i s ≡ Whole (anchor_bytes a) → anchor_at i s ≡ Some a
anchor_found a i s third some last first small stands =
    let fits : is_anchor a ≡ true = and_from (nat_le 1 a.epoch && nat_le a.third 2) (nat_le 1 a.first) (and_from (nat_le 1 a.epoch) (nat_le a.third 2) (le-leb 1 a.epoch some) (le-leb a.third 2 third)) (le-leb 1 a.first first) in
    ap (λ (x : Sector). option_and_then read_anchor (bytes_of x)) stands
    ∙ anchor_is_read a fits last small

-- the sector is as it was, or has these bytes
abbrev pub StaysOrHas : Image → List ℕ → Image → ℕ → Type 0
StaysOrHas i bytes j s = (sector_at j s ≡ sector_at i s) ⊎ (sector_at j s ≡ Whole bytes)

module _ (l : Layout) (old new : Anchor) (rs rest : List Placed) (pages : List (List ℕ)) (weak : Sectors) (i : Image) (may : MayMoveOn l old new rs rest pages weak i) (stands : StandsShown l weak (pages ∷ []) i)
    (j : Image) (size : length j ≡ length i) (same : (s : ℕ) → s ≢ 8 → s ≢ 12 → sector_at j s ≡ sector_at i s) (one : StaysOrHas i (anchor_bytes new) j 8) (two : StaysOrHas i (anchor_bytes new) j 12)
    (some : (sector_at j 8 ≡ Whole (anchor_bytes new)) ⊎ (sector_at j 12 ≡ Whole (anchor_bytes new))) where
  abbrev later : IsLater old new
  later = may.later

  abbrev IsEither : Anchor → Type 0
  IsEither a = (a ≡ old) ⊎ (a ≡ new)

  behind : (s : ℕ) → 16 ≤ s → sector_at j s ≡ sector_at i s
  behind s from = same s (λ e. omega (arith, e, from)) (λ e. omega (arith, e, from))

  log_same : SameLog l i j
  log_same p within = behind p (let from = within.0 in omega (arith, from))

  found : (s : ℕ) → sector_at j s ≡ Whole (anchor_bytes new) → anchor_at j s ≡ Some new
  found s is = anchor_found new j s may.later.next may.later.some may.later.last (omega (arith, may.later.later)) may.later.small is

  -- ---- the anchors

  if_new : (o : Option Anchor) → o ≡ Some new → IfSome o IsEither
  if_new o is = subst (λ (x : Option Anchor). IfSome x IsEither) (sym is) (inr refl)

  if_old : (o : Option Anchor) → IfSome o (λ a. a ≡ old) → IfSome o IsEither
  if_old None mine = tt
  if_old (Some a) mine = inl mine

  either_at : (s : ℕ) → StaysOrHas i (anchor_bytes new) j s → IfSome (anchor_at i s) (λ a. a ≡ old) → IfSome (anchor_at j s) IsEither
  either_at s (inl stays) mine = subst (λ (x : Sector). IfSome (option_and_then read_anchor (bytes_of x)) IsEither) (sym stays) (if_old (anchor_at i s) mine)
  either_at s (inr has) mine = if_new (anchor_at j s) (found s has)

  each_either : EachAnchor j IsEither
  each_either = (either_at 8 one may.own.0, either_at 12 two may.own.1)

  of_either : (Q : Anchor → Type 0) → Q old → Q new → (o : Option Anchor) → IfSome o IsEither → IfSome o Q
  of_either Q first second None is = tt
  of_either Q first second (Some a) (inl is) = subst Q (sym is) first
  of_either Q first second (Some a) (inr is) = subst Q (sym is) second

  each_now : (Q : Anchor → Type 0) → Q old → Q new → EachAnchor j Q
  each_now Q first second = (of_either Q first second (anchor_at j 8) each_either.0, of_either Q first second (anchor_at j 12) each_either.1)

  old_not_newer : is_newer old new ≡ false
  old_not_newer = let epoch = may.later.epoch in let first = may.later.later in grind (arith, nat_tests)

  new_newer : is_newer new old ≡ true
  new_newer = let epoch = may.later.epoch in let first = may.later.later in grind (arith, nat_tests)

  first_newer : (o : Option Anchor) → IfSome o IsEither → newer_of (Some new) o ≡ Some new
  first_newer None is = refl
  first_newer (Some b) (inl is) = (λ k. Some (cond (is_newer (is k) new) (is k) new)) ∙ ap (λ (x : Bool). Some (cond x old new)) old_not_newer
  first_newer (Some b) (inr is) = (λ k. Some (cond (is_newer b new) (is k) new)) ∙ ap (λ (x : Anchor). Some x) (either_same (is_newer b new) new)

  second_newer : (o : Option Anchor) → IfSome o IsEither → newer_of o (Some new) ≡ Some new
  second_newer None is = refl
  second_newer (Some b) (inl is) = (λ k. Some (cond (is_newer new (is k)) new (is k))) ∙ ap (λ (x : Bool). Some (cond x new old)) new_newer
  second_newer (Some b) (inr is) = (λ k. Some (cond (is_newer new b) new (is k))) ∙ ap (λ (x : Anchor). Some x) (either_same (is_newer new b) new)

  pub taken_now : anchor_of j ≡ Some new
  taken_now = ⊎_elim
      (λ has. ap (λ (o : Option Anchor). newer_of o (anchor_at j 12)) (found 8 has) ∙ first_newer (anchor_at j 12) each_either.1)
      (λ has. ap (newer_of (anchor_at j 8)) (found 12 has) ∙ second_newer (anchor_at j 8) each_either.0) some

  reads : (s : ℕ) → StaysOrHas i (anchor_bytes new) j s → IfWhole i s (λ b. IsSome (read_anchor b)) → IfWhole j s (λ b. IsSome (read_anchor b))
  reads s (inl stays) before b is = before b (sym stays ∙ is)
  reads s (inr has) before b is = ap is_some (sym (ap (λ (x : Sector). option_and_then read_anchor (bytes_of x)) is) ∙ found s has)

  stamps_now : EachStamp l j (λ stamp. stamp.epoch ≤ old.epoch)
  stamps_now p within x is = may.stamps p within x (sym (log_same p within) ∙ is)

  anchors_now : HasAnchors l j
  anchors_now = record {
    first = reads 8 one stands.anchors.first;
    second = reads 12 two stands.anchors.second;
    epochs = each_now (λ a. EachStamp l j (λ stamp. stamp.epoch ≤ a.epoch)) stamps_now (subst (λ (e : ℕ). EachStamp l j (λ stamp. stamp.epoch ≤ e)) (sym may.later.epoch) stamps_now);
  }

  -- ---- the log

  records_old : records_by l j old ≡ rs
  records_old = ap (λ (x : Walked). x.records) (same_scan l i j log_same old may.later.low) ∙ may.records

  pub records_new : records_by l j new ≡ rest
  records_new = ap (λ (x : Walked). x.records) (same_scan l i j log_same new may.later.next) ∙ may.behind

  suffix_old : IsSuffix (disk_records l j new) (disk_records l j old)
  suffix_old =
      let joined = may.suffix in
      (joined.0, ap (map (on_disk l old)) records_old ∙ joined.1 ∙ ap (λ (x : List Placed). joined.0 ++ map (on_disk l new) x) (sym records_new))

  agree : (o p : Option Anchor) → IfSome o IsEither → IfSome p IsEither → ScansAgree l j o p (Some new)
  agree None p first second = tt
  agree (Some a) None first second = tt
  agree (Some a) (Some b) first second = λ e. (suffix_of a first, suffix_of b second)
    where
      suffix_of : (a : Anchor) → IsEither a → IsSuffix (disk_records l j new) (disk_records l j a)
      suffix_of a (inl is) = subst (λ (x : Anchor). IsSuffix (disk_records l j new) (disk_records l j x)) (sym is) suffix_old
      suffix_of a (inr is) = ([], ap (disk_records l j) is)

  laid_old : IsLaid l old weak j (records_by l j old)
  laid_old = subst (IsLaid l old weak j) (sym records_old)
      (laid_same l old weak i j log_same rs (subst (AllByRecursion (Rattle.fsd_sound.proofs.LogPlaces.IsRecord l old.third)) may.records (scan_records l i old may.later.low)) may.laid)

  laid_new : IsLaid l new weak j (records_by l j new)
  laid_new = subst (IsLaid l new weak j) (sym records_new)
      (laid_same l new weak i j log_same rest (subst (AllByRecursion (Rattle.fsd_sound.proofs.LogPlaces.IsRecord l new.third)) may.behind (scan_records l i new may.later.next)) may.laid_behind)

  -- ---- the pages

  home_a_same : (page : ℕ) → sector_at j (home_a l page) ≡ sector_at i (home_a l page)
  home_a_same page = behind (home_a l page) (omega arith)

  home_b_same : (page : ℕ) → sector_at j (home_b l page) ≡ sector_at i (home_b l page)
  home_b_same page = behind (home_b l page) (omega arith)

  home_same : (page : ℕ) → home_of l j page ≡ home_of l i page
  home_same page = λ k. first_whole (bytes_of (home_a_same page k)) (bytes_of (home_b_same page k))

  newest_same : (page : ℕ) → page < l.pages → newest l j (records_by l j new) page ≡ newest l i (records_by l i old) page
  newest_same page lt = ap (λ (r : List Placed). newest l j r page) records_new ∙ by_rest (last_image page rest) refl ∙ ap (λ (r : List Placed). newest l i r page) (sym may.records)
    where
      homed : IsHomedIn l rs rest i page
      homed = may.homed page lt

      by_all : (o : Option (List ℕ)) → last_image page rest ≡ None → last_image page rs ≡ o → home_of l j page ≡ option_or o (home_of l i page)
      by_all None none is = home_same page
      by_all (Some x) none is = home_same page ∙ homed.home x none is

      by_rest : (o : Option (List ℕ)) → last_image page rest ≡ o → newest l j rest page ≡ newest l i rs page
      by_rest None is = ap (λ (o : Option (List ℕ)). option_or o (home_of l j page)) is ∙ by_all (last_image page rs) is refl
      by_rest (Some x) is = ap (λ (o : Option (List ℕ)). option_or o (home_of l j page)) is ∙ ap (λ (o : Option (List ℕ)). option_or o (home_of l i page)) (sym (homed.keeps x is))

  pub shown_now : shown l j ≡ Some pages
  shown_now =
      ap (option_and_then (shown_by l j)) taken_now
      ∙ each_same (newest l j (records_by l j new)) (newest l i (records_by l i old)) (all_pages l)
      (all_in_range (λ page. newest l j (records_by l j new) page ≡ newest l i (records_by l i old) page) 0 l.pages (λ page le lt. newest_same page (omega arith)))
      ∙ may.shown

  alike_old : (page : ℕ) → page < l.pages → last_image page (records_by l j old) ≡ None → (x y : List ℕ) → sector_at j (home_a l page) ≡ Whole x → sector_at j (home_b l page) ≡ Whole y → x ≡ y
  alike_old page lt none x y first second = may.alike page lt (ap (last_image page) (sym records_old) ∙ none) x y (sym (home_a_same page) ∙ first) (sym (home_b_same page) ∙ second)

  alike_new : (page : ℕ) → page < l.pages → last_image page (records_by l j new) ≡ None → (x y : List ℕ) → sector_at j (home_a l page) ≡ Whole x → sector_at j (home_b l page) ≡ Whole y → x ≡ y
  alike_new page lt none x y first second = by_all (last_image page rs) refl
    where
      by_all : (o : Option (List ℕ)) → last_image page rs ≡ o → x ≡ y
      by_all None is = may.alike page lt is x y (sym (home_a_same page) ∙ first) (sym (home_b_same page) ∙ second)
      by_all (Some z) is = (may.homed page lt).alike z (ap (last_image page) (sym records_new) ∙ none) is x y (sym (home_a_same page) ∙ first) (sym (home_b_same page) ∙ second)

  -- ---- the whole

  hurt_at : (s : ℕ) → StaysOrHas i (anchor_bytes new) j s → sector_at j s ≡ Damaged → sector_at i s ≡ Damaged
  hurt_at s (inl stays) hurt = sym stays ∙ hurt
  hurt_at s (inr has) hurt = absurd (not_damaged (sector_at j s) (anchor_bytes new) has hurt)

  hurt_was : (s : ℕ) → sector_at j s ≡ Damaged → sector_at i s ≡ Damaged
  hurt_was s hurt = ⊎_elim
      (λ is. ap (sector_at i) is ∙ hurt_at 8 one (ap (sector_at j) (sym is) ∙ hurt))
      (λ other. ⊎_elim (λ is. ap (sector_at i) is ∙ hurt_at 12 two (ap (sector_at j) (sym is) ∙ hurt)) (λ more. sym (same s other more) ∙ hurt) (same_or s 12)) (same_or s 8)

  front : (s : ℕ) → s < 8 → sector_at j s ≡ sector_at i s
  front s lt = same s (λ e. omega (arith, e, lt)) (λ e. omega (arith, e, lt))

  roots_now : HasRoots l weak j
  roots_now = record {
    planned = stands.roots.planned;
    other = stands.roots.other;
    beside = stands.roots.beside;
    some = some_same l i j stands.roots.other (front 0 (omega arith)) (front 4 (omega arith)) stands.roots.some;
    first = λ b is. stands.roots.first b (sym (front 0 (omega arith)) ∙ is);
    second = λ b is. stands.roots.second b (sym (front 4 (omega arith)) ∙ is);
    fits = omega (arith, stands.roots.fits, size);
    twins = λ p twin hurt. stands.roots.twins p twin (hurt_was p hurt);
  }

  pub moved_stands : StandsShown l weak (pages ∷ []) j
  moved_stands = record {
    roots = roots_now;
    empty = λ says. absurd (own_roots_say l weak i may.roots (says_same (turned l) i j front says));
    anchors = anchors_now;
    log = record {
      agree = subst (ScansAgree l j (anchor_at j 8) (anchor_at j 12)) (sym taken_now) (agree (anchor_at j 8) (anchor_at j 12) each_either.0 each_either.1);
      laid = each_now (λ a. IsLaid l a weak j (records_by l j a)) laid_old laid_new;
    };
    homes = each_now (λ a. (page : ℕ) → page < l.pages → last_image page (records_by l j a) ≡ None → (x y : List ℕ) → sector_at j (home_a l page) ≡ Whole x → sector_at j (home_b l page) ≡ Whole y → x ≡ y) alike_old alike_new;
    shows = subst (ShowsOne (pages ∷ [])) (sym shown_now) (0, omega arith, refl);
  }
