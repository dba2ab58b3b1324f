-- What may begin a version begins one.
use Rattle.std.proofs.Common.{◌≡◌, inl, inr, ℕ, zero, suc, ◌+◌, ◌-◌, ◌/◌, ◌%◌, ◌<◌, ◌≤◌, Bool, true, false, cond, ◌&&◌, List, [], ◌∷◌, ◌++◌, length, take, drop, replicate, get_or, Option, Some, None, refl, sym, ap, subst, ◌∙◌, arith, length-append}
use Rattle.std.specs.Prelude.{min}
use Rattle.std.proofs.lemmas.Bool.{and_from, cases_eq, eqb-true}
use Rattle.std.proofs.lemmas.List.{drop-drop, length-replicate}
use Rattle.fsd_bytes.specs.Bytes.{u8, u8_at, u16, u32, same_bytes}
use Rattle.fsd_bytes.specs.Names.{is_name}
use Rattle.fsd_bytes.specs.declared.key.Key.{Key}
use Rattle.fsd_bytes.specs.Keys.{key_lt, key_of, max_u32}
use Rattle.fsd_bytes.proofs.SameLaws.{same_is, is_same}
use Rattle.fsd_bytes.proofs.FieldLaws.{AreSmall, small_behind, u8_there}
use Rattle.fsd_dumps.specs.Dump.{Dumped, is_dumped, is_behind, are_behind, fields_bytes, item_bytes}
use Rattle.fsd_dumps.specs.Front.{number_16, number_32, greatest_32, greatest_name, last_name, most_version, may_begin, most_begun}
use Rattle.fsd_dumps.proofs.Items.{IsFit, dumped_from}
use Rattle.fsd_dumps.proofs.Begins.{MayStand, may_parts, lt_by_version, lt_by_name}
use Rattle.fsd_dumps.proofs.Room.{to_last_name}
use Rattle.fsd_dumps.proofs.Common.{Begins, front_append}

-- ---- numbers

cell_le : (xs : List ℕ) (i : ℕ) → get_or xs i 0 ≤ get_or xs i 255
cell_le [] i = omega arith
cell_le (x ∷ xs) zero = omega arith
cell_le (x ∷ xs) (suc i) = cell_le xs i

pub least_to_most : (xs : List ℕ) → number_32 xs ≤ greatest_32 xs
least_to_most xs = omega (arith, cell_le xs 0, cell_le xs 1, cell_le xs 2, cell_le xs 3)

pub front_32 : (top : ℕ) (xs : List ℕ) → AreSmall xs → number_32 xs ≤ top → top ≤ greatest_32 xs → Begins (take 4 xs) (u32 top)
front_32 top [] small le ge = (u32 top, refl)
front_32 top (a ∷ []) small le ge =
    let x : a ≡ top / 16777216 % 256 = omega (arith, small 0, le, ge) in
    (drop 1 (u32 top), λ i. x i ∷ drop 1 (u32 top))
front_32 top (a ∷ b ∷ []) small le ge =
    let x : a ≡ top / 16777216 % 256 = omega (arith, small 0, small 1, le, ge) in
    let y : b ≡ top / 65536 % 256 = omega (arith, small 0, small 1, le, ge) in
    (drop 2 (u32 top), λ i. x i ∷ y i ∷ drop 2 (u32 top))
front_32 top (a ∷ b ∷ c ∷ []) small le ge =
    let x : a ≡ top / 16777216 % 256 = omega (arith, small 0, small 1, small 2, le, ge) in
    let y : b ≡ top / 65536 % 256 = omega (arith, small 0, small 1, small 2, le, ge) in
    let z : c ≡ top / 256 % 256 = omega (arith, small 0, small 1, small 2, le, ge) in
    (drop 3 (u32 top), λ i. x i ∷ y i ∷ z i ∷ drop 3 (u32 top))
front_32 top (a ∷ b ∷ c ∷ d ∷ xs) small le ge =
    let x : a ≡ top / 16777216 % 256 = omega (arith, small 0, small 1, small 2, small 3, le, ge) in
    let y : b ≡ top / 65536 % 256 = omega (arith, small 0, small 1, small 2, small 3, le, ge) in
    let z : c ≡ top / 256 % 256 = omega (arith, small 0, small 1, small 2, small 3, le, ge) in
    let w : d ≡ top % 256 = omega (arith, small 0, small 1, small 2, small 3, le, ge) in
    ([], λ i. x i ∷ y i ∷ z i ∷ w i ∷ [])

pub front_16 : (xs : List ℕ) → AreSmall xs → Begins (take 2 xs) (u16 (number_16 xs))
front_16 [] small = (u16 (number_16 []), refl)
front_16 (a ∷ []) small =
    let x : a ≡ number_16 (a ∷ []) / 256 % 256 = omega (arith, small 0) in
    (drop 1 (u16 (number_16 (a ∷ []))), λ i. x i ∷ drop 1 (u16 (number_16 (a ∷ []))))
front_16 (a ∷ b ∷ xs) small =
    let x : a ≡ number_16 (a ∷ b ∷ xs) / 256 % 256 = omega (arith, small 0, small 1) in
    let y : b ≡ number_16 (a ∷ b ∷ xs) % 256 = omega (arith, small 0, small 1) in
    ([], λ i. x i ∷ y i ∷ [])

front_8 : (xs : List ℕ) → Begins (take 1 xs) (u8 (u8_at 0 xs))
front_8 [] = (u8 0, refl)
front_8 (a ∷ xs) = ([], refl)

front_name : (n : ℕ) (bytes : List ℕ) → Begins (take n bytes) (greatest_name n bytes)
front_name zero bytes = ([], refl)
front_name (suc n) [] = (greatest_name (suc n) [], refl)
front_name (suc n) (b ∷ bytes) = let tail = front_name n bytes in (tail.0, ap (λ (xs : List ℕ). b ∷ xs) tail.1)

pub name_long : (n : ℕ) (bytes : List ℕ) → length (greatest_name n bytes) ≡ n
name_long zero bytes = refl
name_long (suc n) [] = ap (λ (k : ℕ). suc k) (name_long n [])
name_long (suc n) (b ∷ bytes) = ap (λ (k : ℕ). suc k) (name_long n bytes)

-- ---- a version

-- the version that the bytes may begin: its greatest key, the least of the other numbers
abbrev pub example : (behind n : ℕ) → List ℕ → Dumped
example behind n bytes =
    let rest = drop n bytes in
    let name = greatest_name n bytes in
    let own = drop 11 rest in
    record {
      key = key_of name (min (greatest_32 rest) (most_version behind name));
      keep = number_16 (drop 4 rest);
      kind = u8_at 6 rest;
      bytes = own ++ replicate (number_32 (drop 7 rest) - length own) 0;
    }

own_long : (behind n : ℕ) (bytes : List ℕ) → length (drop 11 (drop n bytes)) ≤ number_32 (drop 7 (drop n bytes)) → length (example behind n bytes).bytes ≡ number_32 (drop 7 (drop n bytes))
own_long behind n bytes le =
    let own : List ℕ = drop 11 (drop n bytes) in
    let k : ℕ = number_32 (drop 7 (drop n bytes)) - length own in
    length-append own (replicate k 0) ∙ omega (arith, le, length-replicate {A = ℕ} k 0)

below_both : (x y : ℕ) → (min x y ≤ x) × (min x y ≤ y)
below_both x y = (omega arith, omega arith)

most_within : (behind : ℕ) (name : List ℕ) → most_version behind name ≤ max_u32
most_within behind name = omega arith

pub example_stands : (last : Option Key) (behind n : ℕ) (bytes : List ℕ) → behind < max_u32 → may_begin last behind (n ∷ bytes) ≡ true
    → length (drop 11 (drop n bytes)) ≤ number_32 (drop 7 (drop n bytes)) → MayStand last behind (example behind n bytes)
example_stands last behind n bytes few may le =
    let rest : List ℕ = drop n bytes in
    let name : List ℕ = greatest_name n bytes in
    let parts = may_parts last behind name rest may in
    let below = below_both (greatest_32 rest) (most_version behind name) in
    record {
      fit = record {
        name = parts.named;
        least = parts.least;
        most = omega (arith, below.1, most_within behind name);
        keep = parts.keep;
        kind = eqb-true (u8_at 6 rest) 0 parts.kind;
        long = omega (arith, parts.long, own_long behind n bytes le);
      };
      behind_last = parts.behind_last;
      room = below.1;
      few = few;
    }

pub example_begins : (last : Option Key) (behind n : ℕ) (bytes : List ℕ) → AreSmall bytes → may_begin last behind (n ∷ bytes) ≡ true
    → length (drop 11 (drop n bytes)) ≤ number_32 (drop 7 (drop n bytes)) → Begins (n ∷ bytes) (item_bytes (example behind n bytes))
example_begins last behind n bytes small may le =
    let rest : List ℕ = drop n bytes in
    let name : List ℕ = greatest_name n bytes in
    let x : Dumped = example behind n bytes in
    let top : ℕ = min (greatest_32 rest) (most_version behind name) in
    let parts = may_parts last behind name rest may in
    let below = below_both (greatest_32 rest) (most_version behind name) in
    let small_rest = small_behind n bytes small in
    let own : List ℕ = drop 11 rest in
    let size : length x.bytes ≡ number_32 (drop 7 rest) = own_long behind n bytes le in
    let b5 : Begins (drop 4 (drop 7 rest)) x.bytes =
    subst (λ (xs : List ℕ). Begins xs x.bytes) (sym (drop-drop 4 7 rest)) (replicate (number_32 (drop 7 rest) - length own) 0, refl) in
    let len : Begins (take 4 (drop 7 rest)) (u32 (length x.bytes)) =
    subst (λ (k : ℕ). Begins (take 4 (drop 7 rest)) (u32 k)) (sym size) (front_32 (number_32 (drop 7 rest)) (drop 7 rest) (small_behind 7 rest small_rest) (omega arith) (least_to_most (drop 7 rest))) in
    let b4 : Begins (drop 1 (drop 6 rest)) (u32 (length x.bytes) ++ x.bytes) =
    subst (λ (xs : List ℕ). Begins xs (u32 (length x.bytes) ++ x.bytes)) (sym (drop-drop 1 6 rest)) (front_append 4 (drop 7 rest) (u32 (length x.bytes)) x.bytes refl len b5) in
    let kind : Begins (take 1 (drop 6 rest)) (u8 x.kind) = subst (λ (k : ℕ). Begins (take 1 (drop 6 rest)) (u8 k)) (u8_there 6 rest) (front_8 (drop 6 rest)) in
    let b3 : Begins (drop 2 (drop 4 rest)) (u8 x.kind ++ (u32 (length x.bytes) ++ x.bytes)) =
    subst (λ (xs : List ℕ). Begins xs (u8 x.kind ++ (u32 (length x.bytes) ++ x.bytes))) (sym (drop-drop 2 4 rest)) (front_append 1 (drop 6 rest) (u8 x.kind) (u32 (length x.bytes) ++ x.bytes) refl kind b4) in
    let b2 : Begins (drop 4 rest) (u16 x.keep ++ (u8 x.kind ++ (u32 (length x.bytes) ++ x.bytes))) =
    front_append 2 (drop 4 rest) (u16 x.keep) (u8 x.kind ++ (u32 (length x.bytes) ++ x.bytes)) refl (front_16 (drop 4 rest) (small_behind 4 rest small_rest)) b3 in
    let b1 : Begins rest (fields_bytes x ++ x.bytes) =
    front_append 4 rest (u32 top) (u16 x.keep ++ (u8 x.kind ++ (u32 (length x.bytes) ++ x.bytes))) refl (front_32 top rest small_rest parts.number below.0) b2 in
    let b0 : Begins bytes (name ++ (fields_bytes x ++ x.bytes)) = front_append n bytes name (fields_bytes x ++ x.bytes) (name_long n bytes) (front_name n bytes) b1 in
    (b0.0, λ i. sym (name_long n bytes) i ∷ b0.1 i)

-- ---- how many first bytes may begin a version

pub begun_within : (last : Option Key) (behind : ℕ) (bytes : List ℕ) (n : ℕ) → most_begun last behind bytes n ≤ n
begun_within last behind bytes zero = omega arith
begun_within last behind bytes (suc n) = by (begun_within last behind bytes n) (may_begin last behind (take (suc n) bytes))
  where
    by : most_begun last behind bytes n ≤ n → (b : Bool) → cond b (suc n) (most_begun last behind bytes n) ≤ suc n
    by again true = omega arith
    by again false = omega (arith, again)

pub begun_may : (last : Option Key) (behind : ℕ) (bytes : List ℕ) (n : ℕ) → may_begin last behind (take (most_begun last behind bytes n) bytes) ≡ true
begun_may last behind bytes zero = refl
begun_may last behind bytes (suc n) = by (begun_may last behind bytes n) (may_begin last behind (take (suc n) bytes)) refl
  where
    by : may_begin last behind (take (most_begun last behind bytes n) bytes) ≡ true → (b : Bool) → may_begin last behind (take (suc n) bytes) ≡ b
        → may_begin last behind (take (cond b (suc n) (most_begun last behind bytes n)) bytes) ≡ true
    by again true is = is
    by again false is = again

pub begun_most : (last : Option Key) (behind : ℕ) (bytes : List ℕ) (n j : ℕ) → j ≤ n → may_begin last behind (take j bytes) ≡ true → j ≤ most_begun last behind bytes n
begun_most last behind bytes zero j le may = omega (arith, le)
begun_most last behind bytes (suc n) j le may = by (begun_most last behind bytes n j) (may_begin last behind (take (suc n) bytes)) refl
  where
    by : (j ≤ n → may_begin last behind (take j bytes) ≡ true → j ≤ most_begun last behind bytes n) → (b : Bool) → may_begin last behind (take (suc n) bytes) ≡ b
        → j ≤ cond b (suc n) (most_begun last behind bytes n)
    by again true is = le
    by again false is = elim (cases_eq j (suc n)) [
      | inl same ↦ absurd (let bad : false ≡ true = sym is ∙ ap (λ (k : ℕ). may_begin last behind (take k bytes)) (sym same) ∙ may in cc)
      | inr other ↦ again (omega (arith, le, other)) may
    ]

-- ---- versions behind a key

abbrev pub follower : (base : ℕ) → Dumped
follower base = record { key = key_of last_name (base + 1); keep = 0; kind = 0; bytes = [] }

abbrev pub followers : (left base : ℕ) → List Dumped
followers zero base = []
followers (suc left) base = follower base ∷ followers left (base + 1)

pub followers_long : (left base : ℕ) → length (followers left base) ≡ left
followers_long zero base = refl
followers_long (suc left) base = ap (λ (k : ℕ). suc k) (followers_long left (base + 1))

pub followers_stand : (left base : ℕ) (last : Option Key) → base + left ≤ max_u32 → is_behind last (key_of last_name (base + 1)) ≡ true → are_behind last (followers left base) ≡ true
followers_stand zero base last room h = refl
followers_stand (suc left) base last room h =
    let fit : IsFit (follower base) = record { name = refl; least = omega arith; most = omega (arith, room); keep = omega arith; kind = refl; long = omega arith } in
    and_from (is_dumped (follower base) && is_behind last (key_of last_name (base + 1))) (are_behind (Some (key_of last_name (base + 1))) (followers left (base + 1)))
    (and_from (is_dumped (follower base)) (is_behind last (key_of last_name (base + 1))) (dumped_from (follower base) fit) h)
    (followers_stand left (base + 1) (Some (key_of last_name (base + 1))) (omega (arith, room)) (lt_by_version last_name (base + 1) (base + 1 + 1) (omega arith)))

-- so many versions can follow
abbrev pub IsOpen : Option Key → (left : ℕ) → Type 0
IsOpen last left = (items : List Dumped) × (length items ≡ left) × (are_behind last items ≡ true)

pub open_at_first : (left : ℕ) → left ≤ max_u32 → IsOpen None left
open_at_first left few = (followers left 0, followers_long left 0, followers_stand left 0 None (omega (arith, few)) refl)

pub open_behind : (key : Key) (left : ℕ) → is_name key.name ≡ true → left ≤ max_u32 → key.version ≤ most_version left key.name → key.version ≤ max_u32 → IsOpen (Some key) left
open_behind key left named few room most = by (same_bytes key.name last_name) refl room
  where
    by : (b : Bool) → same_bytes key.name last_name ≡ b → key.version ≤ max_u32 - cond b left 0 → IsOpen (Some key) left
    by true same le =
        let is : key.name ≡ last_name = same_is key.name last_name same in (
          followers left key.version,
          followers_long left key.version,
          followers_stand left key.version (Some key) (omega (arith, few, le))
              (subst (λ (xs : List ℕ). key_lt (key_of xs key.version) (key_of last_name (key.version + 1)) ≡ true) (sym is) (lt_by_version last_name key.version (key.version + 1) (omega arith))),
        )
    by false same le = elim (to_last_name key.name named) [
      | inl is ↦ absurd (let bad : false ≡ true = sym same ∙ ap (λ (xs : List ℕ). same_bytes xs last_name) is ∙ is_same last_name in cc)
      | inr less ↦ (followers left 0, followers_long left 0, followers_stand left 0 (Some key) (omega (arith, few)) (lt_by_name key.name last_name key.version 1 less.0))
    ]
