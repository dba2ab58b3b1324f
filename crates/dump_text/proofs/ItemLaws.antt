-- Versions that are read, one behind another.
use Rattle.std.proofs.Common.{◌≡◌, ℕ, suc, ◌+◌, ◌-◌, ◌<◌, ◌≤◌, true, false, cond, List, [], ◌∷◌, ◌++◌, length, take, drop, map, Option, Some, Result, Ok, Err, sym, ap, ◌∙◌, arith, append_assoc}
use Rattle.std.specs.Prelude.{not, min, nat_lt, MatchResult, IfOk, IfErr}
use Rattle.std.proofs.lemmas.Bool.{cond-true, cond-false, not_from_true, not_from_false, lt-ltb}
use Rattle.std.proofs.lemmas.List.{append-nil, take_min, drop-drop, length-drop, length-take, map_push}
use Rattle.fsd_bytes.specs.Bytes.{u8_at}
use Rattle.fsd_bytes.specs.Names.{is_name}
use Rattle.fsd_bytes.specs.declared.key.Key.{Key}
use Rattle.fsd_bytes.specs.Keys.{key_of}
use Rattle.fsd_bytes.proofs.FieldLaws.{AreSmall}
use Rattle.fsd_dumps.specs.Dump.{Dumped, IsDumpOf}
use Rattle.fsd_dumps.specs.Front.{number_16, number_32, greatest_name, may_begin, most_begun, fields_len, item_named, item_at, only_end, rest_of, dumped_in, with_front, then_more, ItemRead, ItemsRead}
use Rattle.fsd_dumps.proofs.Items.{read_named}
use Rattle.fsd_dumps.proofs.Begins.{may_parts}
use Rattle.fsd_dumps.proofs.Spelled.{may_of_front, whole_name, dump_spelled}
use Rattle.fsd_dumps.proofs.Places.{dump_stops}
use Rattle.dump_text.specs.declared.item.Item.{Item}
use Rattle.dump_text.specs.declared.item.DumpRead.{DumpRead}
use Rattle.dump_text.specs.declared.item.DumpRead.TheVariants.{Bad, Memory}
use Rattle.dump_text.specs.Items.{dumped, ReadsItem, IsBadAt, IsBadBehind, IsBad, IsUnread}

-- ---- one version

pub head_part : (front rest : List ℕ) (n k : ℕ) → front ≡ n ∷ rest → k ≡ min (length front) (1 + n + 11) → take k front ≡ n ∷ take (n + fields_len) rest
head_part front rest n k e size =
    let long : length front ≡ suc (length rest) = ap (λ (xs : List ℕ). length xs) e in
    let at : k ≡ suc (min (n + fields_len) (length rest)) = omega (arith, size, long) in
    (λ i. take (at i) (e i)) ∙ ap (λ (xs : List ℕ). n ∷ xs) (take_min (n + fields_len) rest)

pub bad_item : (last : Option Key) (behind : ℕ) (front rest head : List ℕ) (n k : ℕ) → front ≡ n ∷ rest → head ≡ n ∷ take (n + fields_len) rest
    → may_begin last behind head ≡ false → k ≡ most_begun last behind head (length head) → k ≤ length head → IsBadAt 0 k front (item_at last behind front)
bad_item last behind front rest head n k e h may count within =
    let long : length front ≡ suc (length rest) = ap (λ (xs : List ℕ). length xs) e in
    let size : length head ≡ suc (length (take (n + fields_len) rest)) = ap (λ (xs : List ℕ). length xs) h in
    let part : List ℕ = n ∷ take (n + fields_len) rest in
    let other : ItemRead = cond (nat_lt (length (drop n rest)) (fields_len + number_32 (drop 7 (drop n rest)))) (Err (1 + length rest)) (Ok (item_named (take n rest) (drop n rest))) in
    let same : most_begun last behind part (length part) ≡ k = ap (λ (xs : List ℕ). most_begun last behind xs (length xs)) (sym h) ∙ sym count in
    let none : k ≡ k - 0 = omega arith in
    record {
      within = omega (arith, within, size, long, length-take (n + fields_len) rest);
      bad = ap (item_at last behind) e
          ∙ cond-true (not (may_begin last behind part)) (Err (most_begun last behind part (length part))) other (not_from_false (may_begin last behind part) (ap (may_begin last behind) (sym h) ∙ may))
          ∙ ap (λ (i : ℕ). Err i) (same ∙ none);
      behind = omega arith;
    }

pub short_item : (last : Option Key) (behind : ℕ) (front rest head : List ℕ) (n : ℕ) → front ≡ n ∷ rest → head ≡ n ∷ take (n + fields_len) rest
    → may_begin last behind head ≡ true → length (drop n rest) < fields_len + number_32 (drop 7 (drop n rest)) → IsBadAt 0 (length front) front (item_at last behind front)
short_item last behind front rest head n e h may short =
    let long : 1 + length rest ≡ length front - 0 = omega (arith, ap (λ (xs : List ℕ). length xs) e) in
    let part : List ℕ = n ∷ take (n + fields_len) rest in
    let bad : ItemRead = Err (most_begun last behind part (length part)) in
    let good : ItemRead = Ok (item_named (take n rest) (drop n rest)) in
    let end : ℕ = fields_len + number_32 (drop 7 (drop n rest)) in
    record {
      within = omega arith;
      bad = ap (item_at last behind) e
          ∙ cond-false (not (may_begin last behind part)) bad (cond (nat_lt (length (drop n rest)) end) (Err (1 + length rest)) good) (not_from_true (may_begin last behind part) (ap (may_begin last behind) (sym h) ∙ may))
          ∙ cond-true (nat_lt (length (drop n rest)) end) (Err (1 + length rest)) good (lt-ltb (length (drop n rest)) end short)
          ∙ ap (λ (i : ℕ). Err i) long;
      behind = omega arith;
    }

pub named_item : (last : Option Key) (behind : ℕ) (rest head : List ℕ) (n : ℕ) → head ≡ n ∷ take (n + fields_len) rest → may_begin last behind head ≡ true
    → fields_len + number_32 (drop 7 (drop n rest)) ≤ length (drop n rest) → is_name (take n rest) ≡ true
named_item last behind rest head n h may room =
    let whole : may_begin last behind (n ∷ rest) ≡ true = sym (may_of_front last behind n rest) ∙ ap (may_begin last behind) (sym h) ∙ may in
    ap is_name (sym (whole_name n rest (omega (arith, room, length-drop n rest)))) ∙ (may_parts last behind (greatest_name n rest) (drop n rest) whole).named

pub good_item : (last : Option Key) (behind : ℕ) (front rest head : List ℕ) (n : ℕ) (x : Item) → front ≡ n ∷ rest → head ≡ n ∷ take (n + fields_len) rest
    → may_begin last behind head ≡ true → fields_len + number_32 (drop 7 (drop n rest)) ≤ length (drop n rest)
    → x.key ≡ key_of (take n rest) (number_32 (drop n rest)) → x.keep ≡ number_16 (drop 4 (drop n rest)) → x.kind ≡ u8_at 6 (drop n rest)
    → x.start ≡ 1 + n + 11 → x.length ≡ number_32 (drop 7 (drop n rest)) → ReadsItem x 0 front (item_at last behind front)
good_item last behind front rest head n x e h may room key keep kind start size =
    let long : length front ≡ suc (length rest) = ap (λ (xs : List ℕ). length xs) e in
    let r : List ℕ = drop n rest in
    let at : x.start ≡ suc (n + 11) = omega (arith, start) in
    let own : drop 11 r ≡ drop x.start front = drop-drop 11 n rest ∙ (λ i. drop (sym at i) (sym e i)) in
    let past : drop (number_32 (drop 7 r)) (drop 11 r) ≡ drop (x.start + x.length) front = (λ i. drop (sym size i) (own i)) ∙ drop-drop x.length x.start front in
    let read = read_named last behind n rest (ap (may_begin last behind) (sym h) ∙ may) room in
    record {
      behind = omega arith;
      within = omega (arith, start, size, room, long, length-drop n rest);
      read_as = ap (item_at last behind) e ∙ read
          ∙ (λ i. Ok (record { key = sym key i; keep = sym keep i; kind = sym kind i; bytes = take (sym size i) (own i) }, past i));
    }

-- ---- all of them

front_twice : (f g : List Dumped) (p q : ℕ) (r : ItemsRead) → with_front f p (with_front g q r) ≡ with_front (f ++ g) (p + q) r
front_twice f g p q (Ok xs) = ap (λ (ys : List Dumped). Ok ys) (sym (append_assoc f g xs))
front_twice f g p q (Err n) = let e : p + (q + n) ≡ p + q + n = omega arith in ap (λ (i : ℕ). Err i) e

pub items_more : (bytes : List ℕ) (count left : ℕ) (last : Option Key) (place : ℕ) (items : List Item) (x : Item) (whole : ItemsRead) → place ≤ length bytes
    → ReadsItem x place bytes (item_at last left (drop place bytes))
    → with_front (map (dumped bytes) items) place (rest_of count (suc left) last (drop place bytes)) ≡ whole
    → with_front (map (dumped bytes) (items ++ x ∷ [])) (x.start + x.length) (rest_of count left (Some x.key) (drop (x.start + x.length) bytes)) ≡ whole
items_more bytes count left last place items x whole fits r e =
    let end : ℕ = x.start + x.length in
    let f : List Dumped = map (dumped bytes) items in
    let q : ℕ = length (drop place bytes) - length (drop end bytes) in
    let rest : ItemsRead = rest_of count left (Some x.key) (drop end bytes) in
    let at : place + q ≡ end = omega (arith, fits, r.behind, r.within, length-drop place bytes, length-drop end bytes) in
    let one : rest_of count (suc left) last (drop place bytes) ≡ with_front (dumped bytes x ∷ []) q rest =
    ap (then_more (length (drop place bytes)) (λ y. rest_of count left (Some y.0.key) y.1)) r.read_as in
    (λ i. with_front (map_push (dumped bytes) items x i) (sym at i) rest)
    ∙ sym (front_twice f (dumped bytes x ∷ []) place q rest)
    ∙ ap (with_front f place) (sym one)
    ∙ e

bad_here : (front : List Dumped) (place n : ℕ) (read whole : ItemsRead) → place ≤ n → read ≡ Err (n - place) → with_front front place read ≡ whole → whole ≡ Err n
bad_here front place n read whole le bad e = let at : place + (n - place) ≡ n = omega (arith, le) in sym e ∙ ap (with_front front place) bad ∙ ap (λ (i : ℕ). Err i) at

pub items_bad : (bytes : List ℕ) (count left : ℕ) (last : Option Key) (place : ℕ) (front : List Dumped) (why : DumpRead) (whole : ItemsRead)
    → IsBadBehind place bytes why (item_at last left (drop place bytes)) → with_front front place (rest_of count (suc left) last (drop place bytes)) ≡ whole → IsBad why whole
items_bad bytes count left last place front (Bad n) whole b e =
    bad_here front place n (rest_of count (suc left) last (drop place bytes)) whole b.behind (ap (then_more (length (drop place bytes)) (λ y. rest_of count left (Some y.0.key) y.1)) b.bad) e
items_bad bytes count left last place front Memory whole b e = tt

pub end_bad : (bytes : List ℕ) (count left : ℕ) (last : Option Key) (place : ℕ) (front : List Dumped) (why : DumpRead) (whole : ItemsRead) → left ≡ 0
    → IsBadBehind place bytes why (only_end count (drop place bytes)) → with_front front place (rest_of count left last (drop place bytes)) ≡ whole → IsBad why whole
end_bad bytes count left last place front (Bad n) whole none b e =
    bad_here front place n (only_end count (drop place bytes)) whole b.behind b.bad (ap (λ (k : ℕ). with_front front place (rest_of count k last (drop place bytes))) (sym none) ∙ e)
end_bad bytes count left last place front Memory whole none b e = tt

pub end_good : (bytes : List ℕ) (count left : ℕ) (last : Option Key) (place : ℕ) (front : List Dumped) (whole : ItemsRead) → left ≡ 0
    → only_end count (drop place bytes) ≡ Ok [] → with_front front place (rest_of count left last (drop place bytes)) ≡ whole → whole ≡ Ok front
end_good bytes count left last place front whole none good e =
    sym e ∙ ap (λ (k : ℕ). with_front front place (rest_of count k last (drop place bytes))) none ∙ ap (with_front front place) good ∙ ap (λ (xs : List Dumped). Ok xs) (append-nil front)

-- ---- the whole

pub unread : (bytes : List ℕ) (why : DumpRead) → AreSmall bytes → IsBad why (dumped_in bytes) → IsUnread bytes why
unread bytes (Bad n) small e = dump_stops bytes n small e
unread bytes Memory small e = tt

module _ {V : Type 0} (items_of : V → List Item) (bytes : List ℕ) (small : AreSmall bytes) where
  pub read_if : (r : Result V DumpRead) → MatchResult r (λ v. dumped_in bytes ≡ Ok (map (dumped bytes) (items_of v))) (λ why. IsBad why (dumped_in bytes)) → IfOk r (λ v. IsDumpOf (map (dumped bytes) (items_of v)) bytes)
  read_if (Ok v) e = dump_spelled bytes (map (dumped bytes) (items_of v)) small e
  read_if (Err why) e = tt

  pub unread_if : (r : Result V DumpRead) → MatchResult r (λ v. dumped_in bytes ≡ Ok (map (dumped bytes) (items_of v))) (λ why. IsBad why (dumped_in bytes)) → IfErr r (λ why. IsUnread bytes why)
  unread_if (Ok v) e = tt
  unread_if (Err why) e = unread bytes why small e
