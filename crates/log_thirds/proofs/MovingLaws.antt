-- A log whose anchor moves on by a third: with which numbers its thirds begin, and what an image gives of it.
use Rattle.std.proofs.Common.{◌≡◌, inl, inr, ℕ, ◌+◌, ◌-◌, ◌*◌, ◌^◌, ◌<◌, ◌≤◌, Bool, cond, List, [], ◌∷◌, ◌++◌, length, map, Option, None, nat_lt, refl, sym, ap, subst, ◌∙◌, arith}
use Rattle.std.specs.Prelude.{count_by, if◌then◌else◌}
use Rattle.std.specs.List.{AllByRecursion}
use Rattle.std.proofs.lemmas.List.{length-append}
use Rattle.std.proofs.lemmas.List.Sums.{sum_by-append}
use Rattle.std.proofs.lemmas.Bool.{cases_lt, lt-ltb, le-ltb}
use Rattle.volume_layout.specs.Shape.{Shape}
use Rattle.sector_disk.specs.declared.sector.Sector.{Sector}
use Rattle.sector_disk.specs.Image.{stand, sector_at, IsWorn, Windows, open_damage, bytes_of}
use Rattle.sector_disk.specs.Machine.{Moment, Holds}
use Rattle.sector_disk.proofs.Wear.{worn_trans, length-stand}
use Rattle.fsd_formats.specs.Anchors.{anchor_bytes}
use Rattle.fsd_log.specs.Judged.{Reader}
use Rattle.fsd_log.specs.Scan.{IsIn, Placed, Walked, IsLog, scan, start, place_of, tape}
use Rattle.fsd_log.proofs.PlaceLaws.{place_from}
use Rattle.fsd_log.proofs.WalkLaws.{Goes, goes_far, goes_of_walk}
use Rattle.log_thirds.specs.declared.firsts.Firsts.{Firsts}
use Rattle.log_thirds.specs.Disk.{reads}
use Rattle.log_thirds.specs.Firsts.{AreFirsts}
use Rattle.fsd_log.specs.Slots.{AreLastSlots}
use Rattle.log_thirds.specs.LogValue.{LogValue}
use Rattle.log_thirds.specs.Append.{IsIndexed, IsLogWorn}
use Rattle.log_thirds.specs.Anchoring.{AnchorsIn, with_anchors}
use Rattle.fsd_log.specs.Moves.{moved_back, head_back, MovesOn, next_third, later, records_moved}
use Rattle.log_thirds.specs.Moving.{moved_anchor, moved, MovesWorn}
use Rattle.fsd_log.proofs.MovedLaws.{later_is, LiesOn, IsParted, next_is, all_left, all_right, slots_moved, goes_lie, all_below}
use Rattle.fsd_log.proofs.ShiftLaws.{moves_on, tape_shifts, tape_around}
use Rattle.log_thirds.proofs.WornMomentLaws.{under, under_other, under_worn}

-- ---- which numbers its thirds begin with

count_more : (n : ℕ) (r : Placed) (rs : List Placed) → count_by (λ x. nat_lt x.at n) (r ∷ rs) ≡ cond (nat_lt r.at n) 1 0 + count_by (λ x. nat_lt x.at n) rs
count_more n r rs = sum_by-append (λ (x : Placed). cond (nat_lt x.at n) 1 0) (r ∷ []) rs ∙ omega arith

count_yes : (n : ℕ) (r : Placed) (rs : List Placed) → r.at < n → count_by (λ x. nat_lt x.at n) (r ∷ rs) ≡ 1 + count_by (λ x. nat_lt x.at n) rs
count_yes n r rs lt = count_more n r rs ∙ ap (λ (b : Bool). cond b 1 0 + count_by (λ x. nat_lt x.at n) rs) (lt-ltb r.at n lt)

count_no : (n : ℕ) (r : Placed) (rs : List Placed) → n ≤ r.at → count_by (λ x. nat_lt x.at n) (r ∷ rs) ≡ count_by (λ x. nat_lt x.at n) rs
count_no n r rs ge = count_more n r rs ∙ ap (λ (b : Bool). cond b 1 0 + count_by (λ x. nat_lt x.at n) rs) (le-ltb r.at n ge) ∙ omega arith

count_all : (n : ℕ) (rs : List Placed) → AllByRecursion (λ r. r.at < n) rs → count_by (λ x. nat_lt x.at n) rs ≡ length rs
count_all n [] all = refl
count_all n (r ∷ rs) all = let rest = count_all n rs all.1 in omega (arith, rest, count_yes n r rs all.0)

count_none : (n : ℕ) (rs : List Placed) → AllByRecursion (λ r. n ≤ r.at) rs → count_by (λ x. nat_lt x.at n) rs ≡ 0
count_none n [] all = refl
count_none n (r ∷ rs) all = count_no n r rs all.0 ∙ count_none n rs all.1

count_joined : (n : ℕ) (front rest : List Placed) → count_by (λ x. nat_lt x.at n) (front ++ rest) ≡ count_by (λ x. nat_lt x.at n) front + count_by (λ x. nat_lt x.at n) rest
count_joined n front rest = sum_by-append (λ (x : Placed). cond (nat_lt x.at n) 1 0) front rest

all_more : (n m : ℕ) (rs : List Placed) → n ≤ m → AllByRecursion (λ r. r.at < n) rs → AllByRecursion (λ r. r.at < m) rs
all_more n m [] le all = tt
all_more n m (r ∷ rs) le all = (let lt = all.0 in omega (arith, lt, le), all_more n m rs le all.1)

count_back : (t n : ℕ) (rs : List Placed) → AllByRecursion (λ r. t ≤ r.at) rs → count_by (λ x. nat_lt x.at n) (map (moved_back t) rs) ≡ count_by (λ x. nat_lt x.at (t + n)) rs
count_back t n [] all = refl
count_back t n (r ∷ rs) all = elim (cases_lt r.at (t + n)) [
  | inl lt ↦
      let le = all.0 in
      let rest = count_back t n rs all.1 in
      count_yes n (moved_back t r) (map (moved_back t) rs) (omega (arith, le, lt)) ∙ ap (λ (k : ℕ). 1 + k) rest ∙ sym (count_yes (t + n) r rs lt)
  | inr ge ↦
      let le = all.0 in
      let rest = count_back t n rs all.1 in
      count_no n (moved_back t r) (map (moved_back t) rs) (omega (arith, le, ge)) ∙ rest ∙ sym (count_no (t + n) r rs ge)
]

module _ (t first : ℕ) (front rest : List Placed) (before : AllByRecursion (λ r. r.at < t) front) (behind : AllByRecursion (λ r. t ≤ r.at) rest) (f : Firsts) (are : AreFirsts t first (front ++ rest) f) where
  pub second_is : f.second ≡ first + length front
  second_is =
      let one = count_joined t front rest in
      let two = count_all t front before in
      let three = count_none t rest behind in
      let at = are.second in
      omega (arith, at, one, two, three)

  pub firsts_moved : (number : ℕ) → number ≡ first + length (front ++ rest) → AllByRecursion (λ r. r.at < 3 * t) rest → AreFirsts t f.second (map (moved_back t) rest) (record { second = f.last; last = number })
  firsts_moved number is inside =
      let here = second_is in
      let last = are.last in
      let one = count_joined (2 * t) front rest in
      let two = count_all (2 * t) front (all_more t (2 * t) front (omega arith) before) in
      let three = count_back t t rest behind in
      let twice : t + t ≡ 2 * t = omega arith in
      let same = ap (λ (n : ℕ). count_by (λ x. nat_lt x.at n) rest) twice in
      let four = count_back t (2 * t) rest behind in
      let thrice : t + 2 * t ≡ 3 * t = omega arith in
      let all = ap (λ (n : ℕ). count_by (λ x. nat_lt x.at n) rest) thrice ∙ count_all (3 * t) rest inside in
      let long = length-append front rest in
      record { second = omega (arith, here, last, one, two, three, same); last = omega (arith, here, is, four, all, long) }

-- ---- the log on an image

-- the log may move on
pub record MayMove (log : LogValue) : Type 0 where
  pub some : 0 < log.layout.third
  pub third : log.anchor.third ≤ 2
  pub epoch : log.anchor.epoch < 2 ^ 32
  pub number : log.head.number < 2 ^ 32
  pub ends : 2 * log.layout.third < log.head.at

module _ (log : LogValue) (may : MayMove log) (records : List Placed) where
  abbrev l : Shape
  l = log.layout

  abbrev next : ℕ
  next = next_third log.anchor.third

  abbrev IsLogOn : List Sector → Type 0
  IsLogOn i = IsLog log.layout log.anchor.epoch log.anchor.first (tape log.layout log.anchor.third (reads i)) records log.head

  moves : (i : List Sector) → IsLogOn i → MovesOn log.layout log.anchor.epoch log.anchor.first (tape log.layout (next_third log.anchor.third) (reads i)) records log.head
  moves i is =
      let is_next = next_is log.anchor.third may.third in
      moves_on log.layout log.anchor.epoch log.anchor.first may.epoch may.some (tape log.layout log.anchor.third (reads i)) (tape log.layout (next_third log.anchor.third) (reads i))
      (tape_shifts log.layout log.anchor.third (next_third log.anchor.third) (reads i) is_next) (tape_around log.layout log.anchor.third (next_third log.anchor.third) (reads i) is_next) records log.head is may.number (omega (arith, may.ends))

  module _ (are : AreFirsts log.layout.third log.anchor.first records log.firsts) (i : List Sector) (is : IsLogOn i) where
    abbrev m : MovesOn log.layout log.anchor.epoch log.anchor.first (tape log.layout (next_third log.anchor.third) (reads i)) records log.head
    m = moves i is

    rest_is : later log.layout records ≡ m.rest
    rest_is = ap (later log.layout) m.joined ∙ later_is log.layout m.front m.rest m.before m.behind

    firsts_on : AreFirsts log.layout.third log.anchor.first (m.front ++ m.rest) log.firsts
    firsts_on = subst (λ (rs : List Placed). AreFirsts log.layout.third log.anchor.first rs log.firsts) m.joined are

    first_is : log.firsts.second ≡ log.anchor.first + length m.front
    first_is = second_is log.layout.third log.anchor.first m.front m.rest m.before m.behind log.firsts firsts_on

    pub later_first : log.anchor.first < log.firsts.second
    later_first = let some = m.some in omega (arith, first_is, some)

    pub log_moved : IsLog log.layout log.anchor.epoch log.firsts.second (tape log.layout (next_third log.anchor.third) (reads i)) (records_moved log.layout records) (head_back log.layout.third log.head)
    log_moved =
        subst (λ (rs : List Placed). IsLog log.layout log.anchor.epoch log.firsts.second (tape log.layout (next_third log.anchor.third) (reads i)) (map (moved_back log.layout.third) rs) (head_back log.layout.third log.head)) (sym rest_is)
        (subst (λ (n : ℕ). IsLog log.layout log.anchor.epoch n (tape log.layout (next_third log.anchor.third) (reads i)) (map (moved_back log.layout.third) m.rest) (head_back log.layout.third log.head)) (sym first_is) m.log)

    goes : Goes log.layout log.anchor.epoch (tape log.layout log.anchor.third (reads i)) (start log.layout log.anchor.first) records log.head
    unfolding scan
    goes = subst (λ (w : Walked). Goes log.layout log.anchor.epoch (tape log.layout log.anchor.third (reads i)) (start log.layout log.anchor.first) w.records w.head) is.scanned
        (goes_of_walk (3 * log.layout.third) log.layout log.anchor.epoch (tape log.layout log.anchor.third (reads i)) (start log.layout log.anchor.first))

    starts : IsIn log.layout (start log.layout log.anchor.first)
    starts = record { before = omega arith; from = omega arith; ends = inl refl }

    all_lie : AllByRecursion (LiesOn log.layout log.anchor.third) (m.front ++ m.rest)
    all_lie = subst (AllByRecursion (LiesOn log.layout log.anchor.third)) m.joined (goes_lie log.layout log.anchor.epoch log.anchor.third may.third (tape log.layout log.anchor.third (reads i)) (start log.layout log.anchor.first) records log.head starts goes)

    pub parted : IsParted log.layout log.anchor.third records
    parted = record {
      front = m.front;
      rest = m.rest;
      joined = m.joined;
      is_later = rest_is;
      before = m.before;
      behind = m.behind;
      lie_front = all_left (LiesOn log.layout log.anchor.third) m.front m.rest all_lie;
      lie_rest = all_right (LiesOn log.layout log.anchor.third) m.front m.rest all_lie;
    }

    pub indexed_moved : AreLastSlots log.layout log.anchor.third records log.slots → IsIndexed (moved log) (records_moved log.layout records)
    indexed_moved slots =
        let lie = all_lie in
        let far = goes_far log.layout log.anchor.epoch (tape log.layout log.anchor.third (reads i)) (start log.layout log.anchor.first) records log.head starts goes in
        subst (λ (rs : List Placed). IsIndexed (moved log) (map (moved_back log.layout.third) rs)) (sym rest_is) (record {
          slots = slots_moved log.layout log.anchor.third (next_third log.anchor.third) may.third (next_is log.anchor.third may.third) m.front m.rest lie m.before m.behind log.slots
              (subst (λ (rs : List Placed). AreLastSlots log.layout log.anchor.third rs log.slots) m.joined slots);
          firsts = firsts_moved log.layout.third log.anchor.first m.front m.rest m.before m.behind log.firsts firsts_on log.head.number (far.number ∙ ap (λ (rs : List Placed). log.anchor.first + length rs) m.joined)
              (all_below log.layout log.anchor.third m.rest (all_right (LiesOn log.layout log.anchor.third) m.front m.rest lie));
        })

-- ---- under two anchors

tape_same : (l : Shape) (third : ℕ) (i j : List Sector) → ((s : ℕ) → 16 ≤ s → sector_at i s ≡ sector_at j s) → tape l third (reads i) ≡ tape l third (reads j)
tape_same l third i j same = λ k w. pointwise w k
  where
    pointwise : (w : ℕ) → tape l third (reads i) w ≡ tape l third (reads j) w
    pointwise w = ap (λ (o : Option (List ℕ)). if nat_lt w (3 * l.third) then o else None) (ap bytes_of (same (place_of l third w) (place_from l third w)))

module _ (log : LogValue) (records : List Placed) (old left : Moment) (room : 16 ≤ length old.image) (part : AnchorsIn (moved_anchor log) old left) (is_log : IsLogWorn log records old) where
  module _ (i : List Sector) (worn : IsWorn (open_damage left.windows) left.image i) where
    all_worn : IsWorn (open_damage old.windows) (with_anchors (moved_anchor log) old.image part.first part.copy) i
    all_worn = worn_trans (open_damage old.windows) (with_anchors (moved_anchor log) old.image part.first part.copy) left.image i part.holds.worn (subst (λ (w : Windows). IsWorn (open_damage w) left.image i) part.holds.windows worn)

    copy_in : 12 + part.copy ≤ length (stand old.image 8 (anchor_bytes (moved_anchor log)) part.first)
    copy_in = let one = part.once in let two = part.in_order in omega (arith, one, two, room, length-stand old.image 8 (anchor_bytes (moved_anchor log)) part.first)

    first_in : 8 + part.first ≤ length old.image
    first_in = let one = part.once in omega (arith, one, room)

    mid : List Sector
    mid = under (open_damage old.windows) (stand old.image 8 (anchor_bytes (moved_anchor log)) part.first) i 12 (anchor_bytes (moved_anchor log)) part.copy copy_in all_worn

    mid_worn : IsWorn (open_damage old.windows) (stand old.image 8 (anchor_bytes (moved_anchor log)) part.first) mid
    unfolding mid
    mid_worn = under_worn (open_damage old.windows) (stand old.image 8 (anchor_bytes (moved_anchor log)) part.first) i 12 (anchor_bytes (moved_anchor log)) part.copy copy_in all_worn

    beneath : List Sector
    beneath = under (open_damage old.windows) old.image mid 8 (anchor_bytes (moved_anchor log)) part.first first_in mid_worn

    beneath_worn : IsWorn (open_damage old.windows) old.image beneath
    unfolding beneath
    beneath_worn = under_worn (open_damage old.windows) old.image mid 8 (anchor_bytes (moved_anchor log)) part.first first_in mid_worn

    same : (s : ℕ) → 16 ≤ s → sector_at beneath s ≡ sector_at i s
    unfolding beneath mid
    same s from =
        let one = part.once in
        let two = part.in_order in
        under_other (open_damage old.windows) old.image mid 8 (anchor_bytes (moved_anchor log)) part.first first_in mid_worn s (inr (omega (arith, one, from)))
        ∙ under_other (open_damage old.windows) (stand old.image 8 (anchor_bytes (moved_anchor log)) part.first) i 12 (anchor_bytes (moved_anchor log)) part.copy copy_in all_worn s (inr (omega (arith, one, two, from)))

    log_there : IsLog log.layout log.anchor.epoch log.anchor.first (tape log.layout log.anchor.third (reads i)) records log.head
    log_there = subst (λ (d : Reader). IsLog log.layout log.anchor.epoch log.anchor.first d records log.head) (tape_same log.layout log.anchor.third beneath i same) (is_log beneath beneath_worn)

  pub moves_worn : MayMove log → AreFirsts log.layout.third log.anchor.first records log.firsts → MovesWorn log records old left
  moves_worn may are = record {
    part = part;
    before = log_there;
    behind = λ i worn. log_moved log may records are i (log_there i worn);
  }

pub moved_part : (log : LogValue) (old new : Moment) → Holds old (with_anchors (moved_anchor log) old.image 1 1) new → AnchorsIn (moved_anchor log) old new
moved_part log old new holds = record { first = 1; copy = 1; in_order = omega arith; once = omega arith; holds = holds }
