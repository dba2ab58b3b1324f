-- What is read of a dump is spelled so.
use Rattle.std.proofs.Common.{◌≡◌, ℕ, zero, suc, ◌+◌, ◌-◌, ◌≤◌, Bool, true, false, cond, ◌&&◌, List, [], ◌∷◌, ◌++◌, length, take, drop, get_or, Option, Some, None, Ok, Err, refl, sym, ap, subst, ◌∙◌, arith, append_assoc}
use Rattle.std.specs.Prelude.{not, min, nat_le, nat_lt, ◌==◌, codes}
use Rattle.std.specs.List.{flat_map}
use Rattle.std.proofs.lemmas.Bool.{and_from, le-leb, ltb-false, eqb-true}
use Rattle.std.proofs.lemmas.List.{take-append-drop, drop_at, drop-drop, drop-take, drop_more, get_or-take, get_or_default, length-take-le, length-drop}
use Rattle.fsd_bytes.specs.Bytes.{u8_at, u16, u32, same_bytes}
use Rattle.fsd_bytes.specs.declared.key.Key.{Key}
use Rattle.fsd_bytes.specs.declared.key.Serial.{Serial}
use Rattle.fsd_bytes.specs.Keys.{key_of, max_u32}
use Rattle.fsd_bytes.specs.Names.{is_name}
use Rattle.fsd_bytes.proofs.SameLaws.{same_is}
use Rattle.fsd_bytes.proofs.FieldLaws.{AreSmall, small_behind}
use Rattle.fsd_dumps.specs.Dump.{Dumped, is_dumped, is_behind, are_behind, fields_bytes, item_bytes, head_bytes, end_bytes, IsDumpOf}
use Rattle.fsd_dumps.specs.Front.{first_16, first_32, number_16, number_32, greatest_32, greatest_name, most_version, may_begin, fields_len, head_len, item_named, item_at, rest_of, dumped_in, common, with_front, then_more, ItemsRead, ItemRead}
use Rattle.fsd_dumps.proofs.Numbers.{two_back, four_back}
use Rattle.fsd_dumps.proofs.Items.{IsFit, dumped_from, laid}
use Rattle.fsd_dumps.proofs.Begins.{may_parts}

-- ---- of bytes that are long enough nothing lacks

pub first_16_take : (n d : ℕ) (xs : List ℕ) → 2 ≤ n → first_16 d (take n xs) ≡ first_16 d xs
first_16_take n d xs le = rw (get_or-take n xs 0 d (omega (arith, le)), get_or-take n xs 1 d (omega (arith, le))) refl

pub first_32_take : (n d : ℕ) (xs : List ℕ) → 4 ≤ n → first_32 d (take n xs) ≡ first_32 d xs
first_32_take n d xs le =
    rw (get_or-take n xs 0 d (omega (arith, le)), get_or-take n xs 1 d (omega (arith, le)), get_or-take n xs 2 d (omega (arith, le)), get_or-take n xs 3 d (omega (arith, le))) refl

pub nothing_lacks : (xs : List ℕ) → 4 ≤ length xs → greatest_32 xs ≡ number_32 xs
nothing_lacks xs le =
    rw (get_or_default xs 0 255 0 (omega (arith, le)), get_or_default xs 1 255 0 (omega (arith, le)), get_or_default xs 2 255 0 (omega (arith, le)), get_or_default xs 3 255 0 (omega (arith, le))) refl

pub whole_name : (n : ℕ) (bytes : List ℕ) → n ≤ length bytes → greatest_name n bytes ≡ take n bytes
whole_name zero bytes le = refl
whole_name (suc n) [] le = absurd (omega (arith, le))
whole_name (suc n) (b ∷ bytes) le = ap (λ (xs : List ℕ). b ∷ xs) (whole_name n bytes (omega (arith, le)))

name_of_front : (n k : ℕ) (bytes : List ℕ) → greatest_name n (take (n + k) bytes) ≡ greatest_name n bytes
name_of_front zero k bytes = refl
name_of_front (suc n) k [] = let e : suc n + k ≡ suc (n + k) = omega arith in ap (λ (m : ℕ). greatest_name (suc n) (take m [])) e
name_of_front (suc n) k (b ∷ bytes) =
    let e : suc n + k ≡ suc (n + k) = omega arith in
    ap (λ (m : ℕ). greatest_name (suc n) (take m (b ∷ bytes))) e ∙ ap (λ (xs : List ℕ). b ∷ xs) (name_of_front n k bytes)

-- the test looks at the fields alone
pub may_of_front : (last : Option Key) (behind n : ℕ) (bytes : List ℕ) → may_begin last behind (n ∷ take (n + fields_len) bytes) ≡ may_begin last behind (n ∷ bytes)
may_of_front last behind n bytes =
    let r : List ℕ = drop n bytes in
    let cut : drop n (take (n + 11) bytes) ≡ take 11 r = drop-take n 11 bytes in
    let at4 : drop 4 (take 11 r) ≡ take 7 (drop 4 r) = drop-take 4 7 r in
    let at7 : drop 7 (take 11 r) ≡ take 4 (drop 7 r) = drop-take 7 4 r in
    rw (name_of_front n 11 bytes, cut, at4, at7, first_32_take 11 0 r (omega arith), first_32_take 11 255 r (omega arith), first_16_take 7 0 (drop 4 r) (omega arith), first_32_take 4 0 (drop 7 r) (omega arith), get_or-take 11 r 6 0 (omega arith)) refl

-- ---- a version

chosen : (m s : Bool) (a b : ℕ) (y z : Dumped × List ℕ) → cond (not m) (Err a) (cond s (Err b) (Ok y)) ≡ Ok z → (m ≡ true) × (s ≡ false) × (y ≡ z)
chosen false s a b y z e = absurd cc
chosen true true a b y z e = absurd cc
chosen true false a b y z e = (refl, refl, cc)

pub record IsSpelled (last : Option Key) (behind : ℕ) (bytes : List ℕ) (x : Dumped) (rest : List ℕ) : Type 0 where
  pub fit : IsFit x
  pub behind_last : is_behind last x.key ≡ true
  pub room : x.key.version ≤ most_version behind x.key.name
  pub text : bytes ≡ item_bytes x ++ rest

fields_text : (r : List ℕ) (name : List ℕ) → AreSmall r → fields_len + number_32 (drop 7 r) ≤ length r
    → fields_bytes (item_named name r).0 ++ ((item_named name r).0.bytes ++ (item_named name r).1) ≡ r
fields_text r name small long =
    let n : ℕ = number_32 (drop 7 r) in
    let own : List ℕ = drop 11 r in
    let l4 : 4 ≤ length (drop 7 r) = omega (arith, long, length-drop 7 r) in
    let l2 : 2 ≤ length (drop 4 r) = omega (arith, long, length-drop 4 r) in
    let l11 : n ≤ length own = omega (arith, long, length-drop 11 r) in
    let size : length (take n own) ≡ n = length-take-le n own l11 in
    let whole : take n own ++ drop n own ≡ own = take-append-drop n own in
    let d11 : drop 4 (drop 7 r) ≡ own = drop-drop 4 7 r in
    let d6 : drop 2 (drop 4 r) ≡ drop 6 r = drop-drop 2 4 r in
    let c7 : drop 6 r ≡ get_or r 6 0 ∷ drop 7 r = drop_more r 6 0 (omega (arith, long)) in
    let b32 : u32 n ++ drop 4 (drop 7 r) ≡ drop 7 r = four_back (drop 7 r) (small_behind 7 r small) l4 in
    let b16 : u16 (number_16 (drop 4 r)) ++ drop 2 (drop 4 r) ≡ drop 4 r = two_back (drop 4 r) (small_behind 4 r small) l2 in
    let v32 : u32 (number_32 r) ++ drop 4 r ≡ r = four_back r small (omega (arith, long)) in
    let last : u32 (length (take n own)) ++ (take n own ++ drop n own) ≡ drop 7 r =
    (λ i. u32 (size i) ++ whole i) ∙ ap (λ (xs : List ℕ). u32 n ++ xs) (sym d11) ∙ b32 in
    let kind : get_or r 6 0 ∷ (u32 (length (take n own)) ++ (take n own ++ drop n own)) ≡ drop 6 r = ap (λ (xs : List ℕ). get_or r 6 0 ∷ xs) last ∙ sym c7 in
    let keep : u16 (number_16 (drop 4 r)) ++ (get_or r 6 0 ∷ (u32 (length (take n own)) ++ (take n own ++ drop n own))) ≡ drop 4 r =
    ap (λ (xs : List ℕ). u16 (number_16 (drop 4 r)) ++ xs) (kind ∙ sym d6) ∙ b16 in
    ap (λ (xs : List ℕ). u32 (number_32 r) ++ xs) keep ∙ v32

spelled_named : (last : Option Key) (behind n : ℕ) (bytes : List ℕ) → AreSmall bytes → may_begin last behind (n ∷ bytes) ≡ true
    → fields_len + number_32 (drop 7 (drop n bytes)) ≤ length (drop n bytes)
    → IsSpelled last behind (n ∷ bytes) (item_named (take n bytes) (drop n bytes)).0 (item_named (take n bytes) (drop n bytes)).1
spelled_named last behind n bytes small may long =
    let r : List ℕ = drop n bytes in
    let name : List ℕ = take n bytes in
    let x : Dumped = (item_named name r).0 in
    let rest : List ℕ = (item_named name r).1 in
    let within : n ≤ length bytes = omega (arith, long, length-drop n bytes) in
    let size : length name ≡ n = length-take-le n bytes within in
    let parts = may_parts last behind (greatest_name n bytes) r may in
    let g : greatest_name n bytes ≡ name = whole_name n bytes within in
    let full : greatest_32 r ≡ number_32 r = nothing_lacks r (omega (arith, long)) in
    let top : ℕ = min (greatest_32 r) (most_version behind (greatest_name n bytes)) in
    let le : number_32 r ≤ most_version behind (greatest_name n bytes) = omega (arith, parts.number) in
    let at : top ≡ number_32 r = omega (arith, parts.number, full) in
    let fields : fields_bytes x ++ (x.bytes ++ rest) ≡ r = fields_text r name (small_behind n bytes small) long in
    let bound : length x.bytes ≡ number_32 (drop 7 r) = length-take-le (number_32 (drop 7 r)) (drop 11 r) (omega (arith, long, length-drop 11 r)) in
    record {
      fit = record {
        name = ap is_name (sym g) ∙ parts.named;
        least = omega (arith, parts.least, at);
        most = omega (arith, le, most_within behind (greatest_name n bytes));
        keep = parts.keep;
        kind = eqb-true (u8_at 6 r) 0 parts.kind;
        long = omega (arith, parts.long, bound);
      };
      behind_last = (λ i. is_behind last (key_of (sym g i) (sym at i))) ∙ parts.behind_last;
      room = subst (λ (xs : List ℕ). number_32 r ≤ most_version behind xs) g le;
      text = (λ i. sym size i ∷ sym (take-append-drop n bytes) i) ∙ ap (λ (xs : List ℕ). length name ∷ (name ++ xs)) (sym fields) ∙ sym (laid x rest);
    }
  where
    most_within : (behind : ℕ) (name : List ℕ) → most_version behind name ≤ max_u32
    most_within behind name = omega arith

pub item_spelled : (last : Option Key) (behind : ℕ) (bytes : List ℕ) (x : Dumped) (rest : List ℕ) → AreSmall bytes → item_at last behind bytes ≡ Ok (x, rest) → IsSpelled last behind bytes x rest
item_spelled last behind [] x rest small e = absurd cc
item_spelled last behind (n ∷ bytes) x rest small e =
    let y = item_named (take n bytes) (drop n bytes) in
    let c = chosen (may_begin last behind (n ∷ take (n + fields_len) bytes)) (nat_lt (length (drop n bytes)) (fields_len + number_32 (drop 7 (drop n bytes)))) _ _ y (x, rest) e in
    let may : may_begin last behind (n ∷ bytes) ≡ true = sym (may_of_front last behind n bytes) ∙ c.0 in
    subst (λ (z : Dumped × List ℕ). IsSpelled last behind (n ∷ bytes) z.0 z.1) c.2
    (spelled_named last behind n bytes (λ i. small (suc i)) may (ltb-false (length (drop n bytes)) (fields_len + number_32 (drop 7 (drop n bytes))) c.1))

-- ---- versions, and the end

pub small_tail : (front bytes : List ℕ) → AreSmall (front ++ bytes) → AreSmall bytes
small_tail front bytes small = subst AreSmall (drop_at front bytes (length front) refl) (small_behind (length front) (front ++ bytes) small)

pub record AreSpelled (count left : ℕ) (last : Option Key) (bytes : List ℕ) (items : List Dumped) : Type 0 where
  pub number : length items ≡ left
  pub behind_last : are_behind last items ≡ true
  pub text : bytes ≡ flat_map item_bytes items ++ end_bytes count

ended : (b : Bool) (n : ℕ) (items : List Dumped) → cond b (Ok []) (Err n) ≡ Ok items → (b ≡ true) × ([] ≡ items)
ended true n items e = (refl, cc)
ended false n items e = absurd cc

pub rest_spelled : (count left : ℕ) (last : Option Key) (bytes : List ℕ) (items : List Dumped) → AreSmall bytes → rest_of count left last bytes ≡ Ok items → AreSpelled count left last bytes items
rest_spelled count zero last bytes items small e =
    let end = ended (same_bytes bytes (end_bytes count)) _ items e in
    record {
      number = ap (λ (xs : List Dumped). length xs) (sym end.1);
      behind_last = ap (are_behind last) (sym end.1);
      text = same_is bytes (end_bytes count) end.0 ∙ ap (λ (xs : List Dumped). flat_map item_bytes xs ++ end_bytes count) end.1;
    }
rest_spelled count (suc left) last bytes items small e = by (λ l b i. rest_spelled count left l b i) (item_at last left bytes) refl e
  where
    more : Dumped × List ℕ → ItemsRead
    more y = rest_of count left (Some y.0.key) y.1

    behind : ((l : Option Key) (b : List ℕ) (i : List Dumped) → AreSmall b → rest_of count left l b ≡ Ok i → AreSpelled count left l b i) → (x : Dumped) (rest : List ℕ) → IsSpelled last left bytes x rest → (r : ItemsRead) → rest_of count left (Some x.key) rest ≡ r
        → with_front (x ∷ []) (length bytes - length rest) r ≡ Ok items → AreSpelled count (suc left) last bytes items
    behind again x rest s (Err n) is e = absurd cc
    behind again x rest s (Ok others) is e =
        let same : x ∷ others ≡ items = cc in
        let tail = again (Some x.key) rest others (small_tail (item_bytes x) rest (subst AreSmall s.text small)) is in
        subst (AreSpelled count (suc left) last bytes) same (record {
          number = ap (λ (n : ℕ). suc n) tail.number;
          behind_last = and_from (is_dumped x && is_behind last x.key) (are_behind (Some x.key) others) (and_from (is_dumped x) (is_behind last x.key) (dumped_from x s.fit) s.behind_last) tail.behind_last;
          text = s.text ∙ ap (λ (xs : List ℕ). item_bytes x ++ xs) tail.text ∙ sym (append_assoc (item_bytes x) (flat_map item_bytes others) (end_bytes count));
        })

    by : ((l : Option Key) (b : List ℕ) (i : List Dumped) → AreSmall b → rest_of count left l b ≡ Ok i → AreSpelled count left l b i)
        → (r : ItemRead) → item_at last left bytes ≡ r → then_more (length bytes) more r ≡ Ok items → AreSpelled count (suc left) last bytes items
    by again (Err n) is e = absurd cc
    by again (Ok x) is e = behind again x.0 x.1 (item_spelled last left bytes x.0 x.1 small is) (rest_of count left (Some x.0.key) x.1) refl e

-- ---- the whole

pub begins_with : (text bytes : List ℕ) → length text ≤ common text bytes → bytes ≡ text ++ drop (length text) bytes
begins_with [] bytes le = refl
begins_with (x ∷ text) [] le = absurd (omega (arith, le))
begins_with (x ∷ text) (y ∷ bytes) le = by (λ h. begins_with text bytes h) (x == y) refl le
  where
    by : (length text ≤ common text bytes → bytes ≡ text ++ drop (length text) bytes) → (b : Bool) → (x == y) ≡ b → suc (length text) ≤ cond b (suc (common text bytes)) 0
        → y ∷ bytes ≡ x ∷ (text ++ drop (length text) bytes)
    by again true same le = λ i. sym (eqb-true x y same) i ∷ again (omega (arith, le)) i
    by again false same le = absurd (omega (arith, le))

pub number_fits : (bytes : List ℕ) → AreSmall bytes → number_32 bytes ≤ max_u32
number_fits bytes small = omega (arith, small 0, small 1, small 2, small 3)

picked : (a b : Bool) (m n : ℕ) (r : ItemsRead) (items : List Dumped) → cond a (Err m) (cond b (Err n) r) ≡ Ok items → (a ≡ false) × (b ≡ false) × (r ≡ Ok items)
picked true b m n r items e = absurd cc
picked false true m n r items e = absurd cc
picked false false m n r items e = (refl, refl, e)

pub whole_head : (bytes : List ℕ) → AreSmall bytes → 4 ≤ common (codes "CFSD") bytes → head_len ≤ length bytes
    → bytes ≡ head_bytes (number_32 (drop 4 bytes)) (record { epoch = number_32 (drop 8 bytes); count = number_32 (drop 12 bytes) }) ++ drop head_len bytes
whole_head bytes small same long =
    let start : bytes ≡ codes "CFSD" ++ drop 4 bytes = begins_with (codes "CFSD") bytes same in
    let a : u32 (number_32 (drop 4 bytes)) ++ drop 4 (drop 4 bytes) ≡ drop 4 bytes = four_back (drop 4 bytes) (small_behind 4 bytes small) (omega (arith, long, length-drop 4 bytes)) in
    let b : u32 (number_32 (drop 8 bytes)) ++ drop 4 (drop 8 bytes) ≡ drop 8 bytes = four_back (drop 8 bytes) (small_behind 8 bytes small) (omega (arith, long, length-drop 8 bytes)) in
    let c : u32 (number_32 (drop 12 bytes)) ++ drop 4 (drop 12 bytes) ≡ drop 12 bytes = four_back (drop 12 bytes) (small_behind 12 bytes small) (omega (arith, long, length-drop 12 bytes)) in
    let d8 : drop 4 (drop 4 bytes) ≡ drop 8 bytes = drop-drop 4 4 bytes in
    let d12 : drop 4 (drop 8 bytes) ≡ drop 12 bytes = drop-drop 4 8 bytes in
    let d16 : drop 4 (drop 12 bytes) ≡ drop 16 bytes = drop-drop 4 12 bytes in
    start ∙ ap (λ (xs : List ℕ). codes "CFSD" ++ xs)
    (sym a ∙ ap (λ (xs : List ℕ). u32 (number_32 (drop 4 bytes)) ++ xs)
    (d8 ∙ sym b ∙ ap (λ (xs : List ℕ). u32 (number_32 (drop 8 bytes)) ++ xs)
    (d12 ∙ sym c ∙ ap (λ (xs : List ℕ). u32 (number_32 (drop 12 bytes)) ++ xs) d16)))

pub dump_spelled : (bytes : List ℕ) (items : List Dumped) → AreSmall bytes → dumped_in bytes ≡ Ok items → IsDumpOf items bytes
dump_spelled bytes items small e =
    let count : ℕ = number_32 (drop 4 bytes) in
    let latest : Serial = record { epoch = number_32 (drop 8 bytes); count = number_32 (drop 12 bytes) } in
    let c = picked (nat_lt (common (codes "CFSD") bytes) 4) (nat_lt (length bytes) head_len) _ _ _ items e in
    let head = whole_head bytes small (ltb-false (common (codes "CFSD") bytes) 4 c.0) (ltb-false (length bytes) head_len c.1) in
    let r = given (rest_of count count None (drop head_len bytes)) c.2 in
    let s = rest_spelled count count None (drop head_len bytes) items (small_behind head_len bytes small) r in (
      and_from (nat_le (length items) max_u32) (are_behind None items) (le-leb (length items) max_u32 (omega (arith, s.number, number_fits (drop 4 bytes) (small_behind 4 bytes small)))) s.behind_last,
      (latest, head ∙ ap (λ (xs : List ℕ). head_bytes count latest ++ xs) s.text ∙ ap (λ (n : ℕ). head_bytes n latest ++ (flat_map item_bytes items ++ end_bytes n)) (sym s.number)),
    )
  where
    given : (r : ItemsRead) → with_front [] head_len r ≡ Ok items → r ≡ Ok items
    given (Ok xs) e = e
    given (Err n) e = absurd cc
