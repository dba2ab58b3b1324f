-- What is found of sectors, one after another.
use Rattle.std.proofs.Common.{◌≡◌, ℕ, zero, suc, ◌+◌, ◌<◌, ◌≤◌, Bool, List, [], ◌∷◌, ◌++◌, length, map, take, drop, refl, sym, ap, ◌∙◌, subst, arith, append_assoc, inl, inr}
use Rattle.std.specs.Prelude.{IsTrue, Result, Ok, Err}
use Rattle.std.specs.List.{AllByRecursion}
use Rattle.run_table.specs.RunTable.{sectors_of}
use Rattle.std.proofs.lemmas.List.{append-nil, take-append-drop}
use Rattle.std.proofs.lemmas.Grind.{flat_map-append}
use Rattle.std.proofs.Math.Seq.{take-suc}
use Rattle.volume_layout.specs.declared.layout.Layout.{Layout}
use Rattle.volume_layout.specs.Layout.{is_data}
use Rattle.fsd_bytes.specs.declared.key.Key.{Key}
use Rattle.fsd_bytes.specs.declared.refusal.Refusal.{Refusal}
use Rattle.sector_disk.specs.declared.sector.Sector.TheVariants.{Damaged}
use Rattle.sector_disk.specs.Image.{IsWorn, sector_at}
use Rattle.sector_disk.proofs.Wear.{worn_damaged, worn_whole}
use Rattle.fsd_formats.specs.declared.entry.Entry.{Entry}
use Rattle.fsd_files.specs.Disk.{Image}
use Rattle.fsd_files.specs.Kept.{IsWhole, data_sectors}
use Rattle.fsd_files.specs.Scrub.{Picks, PicksSome, all_data, data_of, slice_place}
use Rattle.fsd_files.proofs.ScrubLaws.{picks_longer, picks_then}
use Rattle.volume_contract.specs.Healing.{IsMet}
use Rattle.volume_contract.specs.State.{State}
use Rattle.scrub.specs.Looking.{Adds, AreDamaged, FindsIn}
use Rattle.fsd_files.proofs.LeaderLaws.{all_keyed}
use Rattle.scrub.proofs.PlaceLaws.{behind_there}

abbrev pub Any : ℕ → Type 0
Any s = Unit {0}

pub anything : (xs : List (Key × ℕ)) → AllByRecursion (λ x. Any x.1) xs
anything [] = tt
anything (x ∷ xs) = (tt, anything xs)

-- ---- while sectors wear

module _ (may more_may : ℕ → Bool) (h i j : Image) (first : IsWorn may h i) (second : IsWorn more_may i j) where
  back : (s : ℕ) → IsWhole i s → IsWhole h s
  back s whole = (whole.0, worn_whole may h i s whole.0 first whole.1)

  on : (s : ℕ) → sector_at i s ≡ Damaged → sector_at j s ≡ Damaged
  on s hurt = worn_damaged more_may i j s second hurt

  -- what was found stays so
  pub picks_on : (xs a : List (Key × ℕ)) → Picks h i xs a → Picks h j xs a
  picks_on xs a picks = picks_longer Any h h i j (λ s any whole. whole) (λ s any hurt. on s hurt) xs a (anything xs) picks

  pub picks_both : (xs ys a b : List (Key × ℕ)) → Picks h i xs a → Picks i j ys b → Picks h j (xs ++ ys) (a ++ b)
  picks_both xs ys a b one two = picks_then h j xs ys a b (picks_on xs a one) (picks_longer Any h i j j (λ s any whole. back s whole) (λ s any hurt. hurt) ys b (anything ys) two)

  pub some_both : (xs ys a b : List (Key × ℕ)) → Picks h i xs a → PicksSome i j ys b → PicksSome h j (xs ++ ys) (a ++ b)
  some_both xs ys a b one two = record {
    done = xs ++ two.done;
    rest = two.rest;
    are = ap (λ (z : List (Key × ℕ)). xs ++ z) two.are ∙ sym (append_assoc xs two.done two.rest);
    picks = picks_both xs two.done a b one two.picks;
  }

  pub adds_more : {T : Type 0} (xs ys before mid after : List (Key × ℕ)) (r : Result T Refusal) → (let done : Result (Unit {0}) Refusal = Ok tt in Adds h i xs before mid done) → Adds i j ys mid after r → Adds h j (xs ++ ys) before after r
  adds_more {T = T} xs ys before mid after r one two = record {
    more = one.more ++ two.more;
    is = two.is ∙ ap (λ (z : List (Key × ℕ)). z ++ two.more) one.is ∙ append_assoc before one.more two.more;
    finds = by r two.finds;
  }
    where
      by : (r : Result T Refusal) → FindsIn i j ys two.more r → FindsIn h j (xs ++ ys) (one.more ++ two.more) r
      by (Ok x) f = picks_both xs ys one.more two.more one.finds f
      by (Err why) f = some_both xs ys one.more two.more one.finds f

-- some first ones of more
pub some_within : (i j : Image) (xs ys found : List (Key × ℕ)) → PicksSome i j xs found → PicksSome i j (xs ++ ys) found
some_within i j xs ys found some = record { done = some.done; rest = some.rest ++ ys; are = ap (λ (z : List (Key × ℕ)). z ++ ys) some.are ∙ append_assoc some.done some.rest ys; picks = some.picks }

pub some_of : (i j : Image) (xs ys found : List (Key × ℕ)) → Picks i j xs found → PicksSome i j (xs ++ ys) found
some_of i j xs ys found picks = record { done = xs; rest = ys; are = refl; picks = picks }

pub none_found : (i j : Image) (xs : List (Key × ℕ)) → PicksSome i j xs []
none_found i j xs = record { done = []; rest = xs; are = refl; picks = refl }

-- ---- the slices of a version

abbrev keyed : Key → List ℕ → List (Key × ℕ)
keyed key ss = map (λ s. (key, s)) ss

-- its first data sectors
abbrev pub first_data : Entry → ℕ → List (Key × ℕ)
first_data e k = map (λ s. (e.key, s)) (take k (data_sectors e.runs))

keyed_append : (key : Key) (xs ys : List ℕ) → keyed key (xs ++ ys) ≡ keyed key xs ++ keyed key ys
keyed_append key [] ys = refl
keyed_append key (x ∷ xs) ys = ap (λ (z : List (Key × ℕ)). (key, x) ∷ z) (keyed_append key xs ys)

data_step : (e : Entry) (k : ℕ) → k < length (data_sectors e.runs) → first_data e (k + 1) ≡ first_data e k ++ (e.key, slice_place e k) ∷ []
data_step e k lt =
    ap (λ (n : ℕ). first_data e n) (let one : k + 1 ≡ suc k = omega arith in one)
    ∙ ap (keyed e.key) (take-suc (data_sectors e.runs) k 0 lt)
    ∙ keyed_append e.key (take k (data_sectors e.runs)) (slice_place e k ∷ [])

take_all : (xs : List ℕ) (k : ℕ) → length xs ≤ k → take k xs ≡ xs
take_all [] zero le = refl
take_all [] (suc k) le = refl
take_all (x ∷ xs) zero le = absurd (omega arith)
take_all (x ∷ xs) (suc k) le = ap (λ (z : List ℕ). x ∷ z) (take_all xs k (omega arith))

pub data_all : (e : Entry) (k : ℕ) → length (data_sectors e.runs) ≤ k → first_data e k ≡ data_of e
data_all e k le = ap (keyed e.key) (take_all (data_sectors e.runs) k le)

-- the first ones, and the others
data_parts : (e : Entry) (k : ℕ) → data_of e ≡ first_data e k ++ keyed e.key (drop k (data_sectors e.runs))
data_parts e k = ap (keyed e.key) (sym (take-append-drop k (data_sectors e.runs))) ∙ keyed_append e.key (take k (data_sectors e.runs)) (drop k (data_sectors e.runs))

-- some of the first ones are some of all
pub adds_within : {T : Type 0} (i j : Image) (xs ys all before after : List (Key × ℕ)) (why : Refusal) → all ≡ xs ++ ys → (let r : Result T Refusal = Err why in Adds i j xs before after r) → (let r : Result T Refusal = Err why in Adds i j all before after r)
adds_within i j xs ys all before after why are adds = record { more = adds.more; is = adds.is; finds = subst (λ (z : List (Key × ℕ)). PicksSome i j z adds.more) (sym are) (some_within i j xs ys adds.more adds.finds) }

module _ (may more_may : ℕ → Bool) (h i j : Image) (first : IsWorn may h i) (second : IsWorn more_may i j) (e : Entry) (k : ℕ) (lt : k < length (data_sectors e.runs)) (before mid after : List (Key × ℕ))
    (one : let done : Result (Unit {0}) Refusal = Ok tt in Adds h i (first_data e k) before mid done) where
  -- one more slice was looked at
  pub slice_more : (let done : Result (Unit {0}) Refusal = Ok tt in Adds i j ((e.key, slice_place e k) ∷ []) mid after done) → (let done : Result (Unit {0}) Refusal = Ok tt in Adds h j (first_data e (k + 1)) before after done)
  slice_more two =
      let done : Result (Unit {0}) Refusal = Ok tt in
      subst (λ (xs : List (Key × ℕ)). Adds h j xs before after done) (sym (data_step e k lt)) (adds_more may more_may h i j first second (first_data e k) ((e.key, slice_place e k) ∷ []) before mid after done one two)

  -- one more couldn't be
  pub slice_some : (why : Refusal) → (let r : Result (Unit {0}) Refusal = Err why in Adds i j ((e.key, slice_place e k) ∷ []) mid after r) → (let r : Result (Unit {0}) Refusal = Err why in Adds h j (data_of e) before after r)
  slice_some why two =
      let r : Result (Unit {0}) Refusal = Err why in
      let x : List (Key × ℕ) = (e.key, slice_place e k) ∷ [] in
      adds_within h j (first_data e k ++ x) (keyed e.key (drop (k + 1) (data_sectors e.runs))) (data_of e) before after why
      (data_parts e (k + 1) ∙ ap (λ (xs : List (Key × ℕ)). xs ++ keyed e.key (drop (k + 1) (data_sectors e.runs))) (data_step e k lt))
      (adds_more may more_may h i j first second (first_data e k) x before mid after r one two)

-- ---- what is found is damaged

damaged_in : (l : Layout) (i j : Image) (xs found : List (Key × ℕ)) → AllByRecursion (λ x. IsTrue (is_data l x.1)) xs → Picks i j xs found → AreDamaged l j found
damaged_in l i j [] found all picks = subst (AreDamaged l j) (sym picks) tt
damaged_in l i j (x ∷ xs) found all (inl (whole, rest)) = damaged_in l i j xs found all.1 rest
damaged_in l i j (x ∷ xs) found all (inr (more, is, hurt, rest)) = subst (AreDamaged l j) (sym is) ((all.0, hurt), damaged_in l i j xs more all.1 rest)

all_front : (P : Key × ℕ → Type 0) (xs ys : List (Key × ℕ)) → AllByRecursion P (xs ++ ys) → AllByRecursion P xs
all_front P [] ys all = tt
all_front P (x ∷ xs) ys all = (all.0, all_front P xs ys all.1)

damaged_then : (l : Layout) (j : Image) (xs ys : List (Key × ℕ)) → AreDamaged l j xs → AreDamaged l j ys → AreDamaged l j (xs ++ ys)
damaged_then l j [] ys first second = second
damaged_then l j (x ∷ xs) ys first second = (first.0, damaged_then l j xs ys first.1 second)

pub damaged_on : (l : Layout) (may : ℕ → Bool) (i j : Image) → IsWorn may i j → (xs : List (Key × ℕ)) → AreDamaged l i xs → AreDamaged l j xs
damaged_on l may i j worn [] all = tt
damaged_on l may i j worn (x ∷ xs) all = ((all.0.0, worn_damaged may i j x.1 worn all.0.1), damaged_on l may i j worn xs all.1)

pub damaged_more : {T : Type 0} (s : State) (e : Entry) → IsMet s e → (may : ℕ → Bool) (i j : Image) → IsWorn may i j → (before after : List (Key × ℕ)) (r : Result T Refusal)
    → AreDamaged s.layout i before → Adds i j (data_of e) before after r → AreDamaged s.layout j after
damaged_more {T = T} s e met may i j worn before after r first adds =
    subst (AreDamaged s.layout j) (sym adds.is) (damaged_then s.layout j before adds.more (damaged_on s.layout may i j worn before first) (by r adds.finds))
  where
    all : AllByRecursion (λ x. IsTrue (is_data s.layout x.1)) (data_of e)
    all = all_keyed (λ t. IsTrue (is_data s.layout t)) e.key (data_sectors e.runs) (λ t is. met.within t (behind_there (sectors_of e.runs) t is))

    by : (r : Result T Refusal) → FindsIn i j (data_of e) adds.more r → AreDamaged s.layout j adds.more
    by (Ok x) f = damaged_in s.layout i j (data_of e) adds.more all f
    by (Err why) f = damaged_in s.layout i j f.done adds.more (all_front (λ x. IsTrue (is_data s.layout x.1)) f.done f.rest (subst (λ (z : List (Key × ℕ)). AllByRecursion (λ x. IsTrue (is_data s.layout x.1)) z) f.are all)) f.picks

-- ---- the data of versions

pub data_append : (xs : List Entry) (e : Entry) (ys : List Entry) → all_data (xs ++ e ∷ ys) ≡ (all_data xs ++ data_of e) ++ all_data ys
data_append xs e ys = flat_map-append data_of xs (e ∷ ys) ∙ sym (append_assoc (all_data xs) (data_of e) (all_data ys))

pub data_one_more : (xs : List Entry) (e : Entry) → all_data (xs ++ e ∷ []) ≡ all_data xs ++ data_of e
data_one_more xs e = data_append xs e [] ∙ append-nil (all_data xs ++ data_of e)

pub data_both : (xs ys : List Entry) → all_data (xs ++ ys) ≡ all_data xs ++ all_data ys
data_both xs ys = flat_map-append data_of xs ys
