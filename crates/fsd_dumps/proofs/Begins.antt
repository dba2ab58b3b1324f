-- The first bytes of a version that may stand there may begin one.
use Rattle.std.proofs.Common.{◌≡◌, ◌⊎◌, inl, inr, ℕ, zero, suc, ◌-◌, ◌<◌, ◌≤◌, Bool, true, false, cond, ◌&&◌, List, [], ◌∷◌, ◌++◌, length, drop, Option, Some, None, get_or, refl, sym, ap, subst, ◌∙◌, arith}
use Rattle.std.specs.Prelude.{min, nat_le}
use Rattle.std.specs.List.{list_all}
use Rattle.std.specs.declared.cmp.Ordering.{Ordering}
use Rattle.std.specs.declared.cmp.Ordering.TheVariants.{Less, Equal, Greater}
use Rattle.std.specs.Ordering.{nat_cmp, ordering_then, is_lt}
use Rattle.std.specs.Cmp.{IsTotalOrder, nat_cmp_total, on_total, then_total}
use Rattle.std.specs.Cmp.Lexicographic.{slice_cmp, nat_list_cmp_total}
use Rattle.std.proofs.lemmas.Cmp.{ranked, by_ranked, tied_itself}
use Rattle.std.proofs.lemmas.Bool.{and_parts, and_from, leb-true, le-leb, eq-eqb}
use Rattle.fsd_bytes.specs.Bytes.{u8_at, same_bytes}
use Rattle.fsd_bytes.specs.Names.{is_name, is_name_byte, is_between, max_name_len}
use Rattle.fsd_bytes.specs.declared.key.Key.{Key}
use Rattle.fsd_bytes.specs.Keys.{key_cmp, key_lt, key_of, max_u32}
use Rattle.fsd_formats.specs.NamePage.{max_keep, max_length}
use Rattle.fsd_dumps.specs.Dump.{Dumped, is_kind, is_behind, fields_bytes, item_bytes}
use Rattle.fsd_dumps.specs.Front.{number_16, number_32, greatest_32, greatest_name, last_name, most_version, may_follow, may_begin}
use Rattle.fsd_dumps.proofs.Numbers.{number_16_of, number_32_of, least_16, least_32, most_32, cell_front}
use Rattle.fsd_dumps.proofs.Items.{IsFit, laid}
use Rattle.fsd_dumps.proofs.Names.{IsUpTo, greatest, cmp_less}

-- ---- keys in order

pub keys_total : IsTotalOrder key_cmp
keys_total = then_total (on_total (λ k. k.name) nat_list_cmp_total) (on_total (λ k. k.version) nat_cmp_total)

less_from : (o : Ordering) → is_lt o ≡ true → o ≡ Less
less_from Less e = refl
less_from Equal e = absurd (let bad : false ≡ true = e in cc)
less_from Greater e = absurd (let bad : false ≡ true = e in cc)

pub lt_then : (a b c : Key) → key_lt a b ≡ true → key_lt b c ≡ true → key_lt a c ≡ true
lt_then a b c x y = ap is_lt (keys_total.trans a b c (less_from (key_cmp a b) x) (less_from (key_cmp b c) y))

pub lt_by_version : (name : List ℕ) (v w : ℕ) → v < w → key_lt (key_of name v) (key_of name w) ≡ true
lt_by_version name v w lt =
    ap (λ (o : Ordering). is_lt (ordering_then o (nat_cmp v w))) (tied_itself nat_list_cmp_total name) ∙ ap is_lt (cmp_less v w lt)

pub lt_by_name : (name other : List ℕ) (v w : ℕ) → slice_cmp nat_cmp name other ≡ Less → key_lt (key_of name v) (key_of other w) ≡ true
lt_by_name name other v w less = ap (λ (o : Ordering). is_lt (ordering_then o (nat_cmp v w))) less

-- behind the last one, and so is what comes behind that
pub behind_then : (last : Option Key) (b c : Key) → is_behind last b ≡ true → (key_lt b c ≡ true) ⊎ (b ≡ c) → is_behind last c ≡ true
behind_then None b c x y = refl
behind_then (Some a) b c x (inl lt) = lt_then a b c x lt
behind_then (Some a) b c x (inr same) = ap (key_lt a) (sym same) ∙ x

-- ---- the greatest key that the bytes may spell

pub least_of_min : (x y z : ℕ) → x ≤ y → x ≤ z → x ≤ min y z
least_of_min x y z a b = omega (arith, a, b)

pub room_for : (behind : ℕ) (name : List ℕ) → behind < max_u32 → 1 ≤ most_version behind name
room_for behind name lt = by (same_bytes name last_name)
  where
    by : (b : Bool) → 1 ≤ max_u32 - cond b behind 0
    by true = omega (arith, lt)
    by false = omega arith

-- what is known of the bytes behind the name
pub record Follows (x : Dumped) (rest : List ℕ) : Type 0 where
  pub least : number_32 rest ≤ x.key.version
  pub most : x.key.version ≤ greatest_32 rest
  pub keep : number_16 (drop 4 rest) ≤ x.keep
  pub kind : is_kind (u8_at 6 rest) ≡ true
  pub long : number_32 (drop 7 rest) ≤ length x.bytes

front_of_drop : (n : ℕ) (front more text : List ℕ) → front ++ more ≡ text → (rest : List ℕ) × (drop n front ++ rest ≡ drop n text)
front_of_drop zero front more text e = (more, e)
front_of_drop (suc n) [] more text e = (drop (suc n) text, refl)
front_of_drop (suc n) (x ∷ front) more text e = let again = front_of_drop n front more (front ++ more) refl in (again.0, again.1 ∙ ap (drop (suc n)) e)

pub follows : (x : Dumped) (rest more behind : List ℕ) → IsFit x → rest ++ more ≡ fields_bytes x ++ (x.bytes ++ behind) → Follows x rest
follows x rest more behind fit e =
    let all : List ℕ = fields_bytes x ++ (x.bytes ++ behind) in
    let version : number_32 all ≡ x.key.version = number_32_of x.key.version (drop 4 all) (omega (arith, fit.most)) in
    let keep : number_16 (drop 4 all) ≡ x.keep = number_16_of x.keep (drop 6 all) (omega (arith, fit.keep)) in
    let long : number_32 (drop 7 all) ≡ length x.bytes = number_32_of (length x.bytes) (x.bytes ++ behind) (omega (arith, fit.long)) in
    let at4 = front_of_drop 4 rest more all e in
    let at7 = front_of_drop 7 rest more all e in
    let kind : get_or all 6 0 ≡ x.kind = refl in
    record {
      least = omega (arith, least_32 rest more all e, version);
      most = most_32 rest more x.key.version (drop 4 all) (omega (arith, fit.most)) e;
      keep = omega (arith, least_16 (drop 4 rest) at4.0 (drop 4 all) at4.1, keep);
      kind = elim (cell_front rest more all 6 0 e) [
        | inl same ↦ eq-eqb (get_or rest 6 0) 0 (same ∙ kind ∙ fit.kind)
        | inr lacks ↦ eq-eqb (get_or rest 6 0) 0 lacks
      ];
      long = omega (arith, least_32 (drop 7 rest) at7.0 (drop 7 all) at7.1, long);
    }

-- the parts of the test
pub record MayFollow (last : Option Key) (behind : ℕ) (name more : List ℕ) (top : ℕ) : Type 0 where
  pub named : is_name name ≡ true
  pub least : 1 ≤ top
  pub number : number_32 more ≤ top
  pub behind_last : is_behind last (key_of name top) ≡ true
  pub keep : number_16 (drop 4 more) ≤ max_keep
  pub kind : is_kind (u8_at 6 more) ≡ true
  pub long : number_32 (drop 7 more) ≤ max_length

pub may_from : (last : Option Key) (behind : ℕ) (name more : List ℕ) → MayFollow last behind name more (min (greatest_32 more) (most_version behind name)) → may_follow last behind name more ≡ true
may_from last behind name more h =
    let top = min (greatest_32 more) (most_version behind name) in
    let t6 = is_name name && nat_le 1 top in
    let t5 = t6 && nat_le (number_32 more) top in
    let t4 = t5 && is_behind last (key_of name top) in
    let t3 = t4 && nat_le (number_16 (drop 4 more)) max_keep in
    let t2 = t3 && is_kind (u8_at 6 more) in
    and_from t2 (nat_le (number_32 (drop 7 more)) max_length)
    (and_from t3 (is_kind (u8_at 6 more))
    (and_from t4 (nat_le (number_16 (drop 4 more)) max_keep)
    (and_from t5 (is_behind last (key_of name top))
    (and_from t6 (nat_le (number_32 more) top)
    (and_from (is_name name) (nat_le 1 top) h.named (le-leb 1 top h.least))
    (le-leb (number_32 more) top h.number))
    h.behind_last)
    (le-leb (number_16 (drop 4 more)) max_keep h.keep))
    h.kind)
    (le-leb (number_32 (drop 7 more)) max_length h.long)

pub may_parts : (last : Option Key) (behind : ℕ) (name more : List ℕ) → may_follow last behind name more ≡ true → MayFollow last behind name more (min (greatest_32 more) (most_version behind name))
may_parts last behind name more h =
    let top = min (greatest_32 more) (most_version behind name) in
    let t6 = is_name name && nat_le 1 top in
    let t5 = t6 && nat_le (number_32 more) top in
    let t4 = t5 && is_behind last (key_of name top) in
    let t3 = t4 && nat_le (number_16 (drop 4 more)) max_keep in
    let t2 = t3 && is_kind (u8_at 6 more) in
    let a = and_parts t2 (nat_le (number_32 (drop 7 more)) max_length) h in
    let b = and_parts t3 (is_kind (u8_at 6 more)) a.0 in
    let c = and_parts t4 (nat_le (number_16 (drop 4 more)) max_keep) b.0 in
    let d = and_parts t5 (is_behind last (key_of name top)) c.0 in
    let e = and_parts t6 (nat_le (number_32 more) top) d.0 in
    let f = and_parts (is_name name) (nat_le 1 top) e.0 in
    record {
      named = f.0;
      least = leb-true 1 top f.1;
      number = leb-true (number_32 more) top e.1;
      behind_last = d.1;
      keep = leb-true (number_16 (drop 4 more)) max_keep c.1;
      kind = b.1;
      long = leb-true (number_32 (drop 7 more)) max_length a.1;
    }

-- what is asked of a version there
pub record MayStand (last : Option Key) (behind : ℕ) (x : Dumped) : Type 0 where
  pub fit : IsFit x
  pub behind_last : is_behind last x.key ≡ true
  pub room : x.key.version ≤ most_version behind x.key.name
  pub few : behind < max_u32

named_so : (name : List ℕ) (n : ℕ) → is_name name ≡ true → (long : List ℕ) → length long ≡ length name → list_all is_name_byte long ≡ true → is_name long ≡ true
named_so name n h long same all =
    let parts = and_parts (is_between 1 max_name_len (length name)) (list_all is_name_byte name) h in
    and_from (is_between 1 max_name_len (length long)) (list_all is_name_byte long) (ap (is_between 1 max_name_len) same ∙ parts.0) all

-- the test at the greatest name
by_name : (last : Option Key) (behind : ℕ) (x : Dumped) (g rest : List ℕ) → MayStand last behind x → is_name g ≡ true → Follows x rest → IsUpTo x.key.name g rest
    → MayFollow last behind g rest (min (greatest_32 rest) (most_version behind g))
by_name last behind x g rest h named f (inl same) =
    let room : x.key.version ≤ most_version behind g = subst (λ (xs : List ℕ). x.key.version ≤ most_version behind xs) same h.room in
    let top : ℕ = min (greatest_32 rest) (most_version behind g) in
    let le : x.key.version ≤ top = least_of_min x.key.version (greatest_32 rest) (most_version behind g) f.most room in
    record {
      named = named;
      least = omega (arith, h.fit.least, le);
      number = omega (arith, f.least, le);
      behind_last = behind_then last x.key (key_of g top) h.behind_last (later top le);
      keep = omega (arith, f.keep, h.fit.keep);
      kind = f.kind;
      long = omega (arith, f.long, h.fit.long);
    }
  where
    later : (top : ℕ) → x.key.version ≤ top → (key_lt x.key (key_of g top) ≡ true) ⊎ (x.key ≡ key_of g top)
    later top le = by_ranked (x.key.version < top) (x.key.version ≡ top) (top < x.key.version) (nat_cmp x.key.version top) (ranked x.key.version top (nat_cmp x.key.version top) refl)
        (λ is lt. inl (subst (λ (xs : List ℕ). key_lt x.key (key_of xs top) ≡ true) same (lt_by_version x.key.name x.key.version top lt)))
        (λ is e. inr (λ i. record { name = same i; version = e i }))
        (λ is gt. absurd (omega (arith, gt, le)))
by_name last behind x g rest h named f (inr less) =
    let top : ℕ = min (greatest_32 rest) (most_version behind g) in
    let whole : max_u32 ≤ greatest_32 rest = subst (λ (xs : List ℕ). max_u32 ≤ greatest_32 xs) (sym less.1) (let le : max_u32 ≤ 4294967295 = omega arith in le) in
    let none : number_32 rest ≡ 0 = ap number_32 less.1 in
    let some : 1 ≤ top = least_of_min 1 (greatest_32 rest) (most_version behind g) (omega (arith, whole)) (room_for behind g h.few) in
    record {
      named = named;
      least = some;
      number = omega (arith, none, some);
      behind_last = behind_then last x.key (key_of g top) h.behind_last (inl (lt_by_name x.key.name g x.key.version top less.0));
      keep = omega (arith, f.keep, h.fit.keep);
      kind = f.kind;
      long = omega (arith, f.long, h.fit.long);
    }

pub begins_true : (last : Option Key) (behind : ℕ) (x : Dumped) (front more tail : List ℕ) → MayStand last behind x → front ++ more ≡ item_bytes x ++ tail → may_begin last behind front ≡ true
begins_true last behind x [] more tail h e = refl
begins_true last behind x (n ∷ bytes) more tail h e =
    let whole : n ∷ (bytes ++ more) ≡ length x.key.name ∷ (x.key.name ++ (fields_bytes x ++ (x.bytes ++ tail))) = e ∙ laid x tail in
    let count : n ≡ length x.key.name = ap (λ (xs : List ℕ). get_or xs 0 0) whole in
    let parts = and_parts (is_between 1 max_name_len (length x.key.name)) (list_all is_name_byte x.key.name) h.fit.name in
    let g = greatest x.key.name bytes more (fields_bytes x ++ (x.bytes ++ tail)) parts.1 (ap (drop 1) whole) in
    let name : List ℕ = greatest_name (length x.key.name) bytes in
    let rest : List ℕ = drop (length x.key.name) bytes in
    let f = follows x rest g.rest.0 tail h.fit g.rest.1 in
    ap (λ (k : ℕ). may_follow last behind (greatest_name k bytes) (drop k bytes)) count
    ∙ may_from last behind name rest (by_name last behind x name rest h (named_so x.key.name 0 h.fit.name name g.long g.all) f g.order)
