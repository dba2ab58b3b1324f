-- A version that is spelled is read again.
use Rattle.std.proofs.Common.{◌≡◌, ℕ, ◌+◌, ◌≤◌, true, cond, ◌&&◌, List, ◌∷◌, ◌++◌, length, take, drop, Option, Ok, Err, refl, sym, ap, subst, ◌∙◌, arith, append_assoc, length-append}
use Rattle.std.specs.Prelude.{not, nat_le, nat_lt}
use Rattle.std.proofs.lemmas.Bool.{and_parts, and_from, leb-true, le-leb, le-ltb, eqb-true, eq-eqb, cond-false, not_from_true}
use Rattle.std.proofs.lemmas.List.{take_at, drop_at}
use Rattle.fsd_bytes.specs.declared.key.Key.{Key}
use Rattle.fsd_bytes.specs.Names.{is_name}
use Rattle.fsd_bytes.specs.Keys.{is_key, max_u32}
use Rattle.fsd_formats.specs.NamePage.{max_keep, max_length}
use Rattle.fsd_dumps.specs.Dump.{Dumped, is_dumped, is_kind, fields_bytes, item_bytes}
use Rattle.fsd_dumps.specs.Front.{number_16, number_32, may_begin, most_begun, fields_len, item_named, item_at, ItemRead}
use Rattle.fsd_dumps.proofs.Numbers.{number_16_of, number_32_of}

-- ---- what may stand in a dump, part by part

pub record IsFit (x : Dumped) : Type 0 where
  pub name : is_name x.key.name ≡ true
  pub least : 1 ≤ x.key.version
  pub most : x.key.version ≤ max_u32
  pub keep : x.keep ≤ max_keep
  pub kind : x.kind ≡ 0
  pub long : length x.bytes ≤ max_length

pub fit_of : (x : Dumped) → is_dumped x ≡ true → IsFit x
fit_of x h =
    let a = and_parts (is_key x.key && nat_le x.key.version max_u32 && nat_le x.keep max_keep && is_kind x.kind) (nat_le (length x.bytes) max_length) h in
    let b = and_parts (is_key x.key && nat_le x.key.version max_u32 && nat_le x.keep max_keep) (is_kind x.kind) a.0 in
    let c = and_parts (is_key x.key && nat_le x.key.version max_u32) (nat_le x.keep max_keep) b.0 in
    let d = and_parts (is_key x.key) (nat_le x.key.version max_u32) c.0 in
    let e = and_parts (is_name x.key.name) (nat_le 1 x.key.version) d.0 in
    record {
      name = e.0;
      least = leb-true 1 x.key.version e.1;
      most = leb-true x.key.version max_u32 d.1;
      keep = leb-true x.keep max_keep c.1;
      kind = eqb-true x.kind 0 b.1;
      long = leb-true (length x.bytes) max_length a.1;
    }

pub dumped_from : (x : Dumped) → IsFit x → is_dumped x ≡ true
dumped_from x fit =
    and_from (is_key x.key && nat_le x.key.version max_u32 && nat_le x.keep max_keep && is_kind x.kind) (nat_le (length x.bytes) max_length)
    (and_from (is_key x.key && nat_le x.key.version max_u32 && nat_le x.keep max_keep) (is_kind x.kind)
    (and_from (is_key x.key && nat_le x.key.version max_u32) (nat_le x.keep max_keep)
    (and_from (is_key x.key) (nat_le x.key.version max_u32)
    (and_from (is_name x.key.name) (nat_le 1 x.key.version) fit.name (le-leb 1 x.key.version fit.least))
    (le-leb x.key.version max_u32 fit.most))
    (le-leb x.keep max_keep fit.keep))
    (eq-eqb x.kind 0 fit.kind))
    (le-leb (length x.bytes) max_length fit.long)

-- ---- its text, field by field

pub laid : (x : Dumped) (rest : List ℕ) → item_bytes x ++ rest ≡ length x.key.name ∷ (x.key.name ++ (fields_bytes x ++ (x.bytes ++ rest)))
laid x rest = ap (λ (xs : List ℕ). length x.key.name ∷ xs) (append_assoc x.key.name (fields_bytes x ++ x.bytes) rest)

pub named_again : (x : Dumped) (rest : List ℕ) → IsFit x → item_named x.key.name (fields_bytes x ++ (x.bytes ++ rest)) ≡ (x, rest)
named_again x rest fit =
    let all : List ℕ = fields_bytes x ++ (x.bytes ++ rest) in
    let version : number_32 all ≡ x.key.version = number_32_of x.key.version (drop 4 all) (omega (arith, fit.most)) in
    let keep : number_16 (drop 4 all) ≡ x.keep = number_16_of x.keep (drop 6 all) (omega (arith, fit.keep)) in
    let long : number_32 (drop 7 all) ≡ length x.bytes = number_32_of (length x.bytes) (x.bytes ++ rest) (omega (arith, fit.long)) in
    let bytes : take (number_32 (drop 7 all)) (x.bytes ++ rest) ≡ x.bytes = take_at x.bytes rest (number_32 (drop 7 all)) (sym long) in
    let behind : drop (number_32 (drop 7 all)) (x.bytes ++ rest) ≡ rest = drop_at x.bytes rest (number_32 (drop 7 all)) (sym long) in
    λ i. (record { key = record { name = x.key.name; version = version i }; keep = keep i; kind = x.kind; bytes = bytes i }, behind i)

-- ---- and it is read

pub read_named : (last : Option Key) (behind n : ℕ) (bytes : List ℕ) → may_begin last behind (n ∷ take (n + fields_len) bytes) ≡ true
    → fields_len + number_32 (drop 7 (drop n bytes)) ≤ length (drop n bytes) → item_at last behind (n ∷ bytes) ≡ Ok (item_named (take n bytes) (drop n bytes))
read_named last behind n bytes may room =
    let head = n ∷ take (n + fields_len) bytes in
    let bad : ItemRead = Err (most_begun last behind head (length head)) in
    let end = fields_len + number_32 (drop 7 (drop n bytes)) in
    let short : ItemRead = Err (1 + length bytes) in
    let good : ItemRead = Ok (item_named (take n bytes) (drop n bytes)) in
    cond-false (not (may_begin last behind head)) bad (cond (nat_lt (length (drop n bytes)) end) short good) (not_from_true _ may)
    ∙ cond-false (nat_lt (length (drop n bytes)) end) short good (le-ltb (length (drop n bytes)) end room)

pub item_again : (last : Option Key) (behind : ℕ) (x : Dumped) (rest : List ℕ) → IsFit x
    → may_begin last behind (length x.key.name ∷ take (length x.key.name + fields_len) (x.key.name ++ (fields_bytes x ++ (x.bytes ++ rest)))) ≡ true
    → item_at last behind (item_bytes x ++ rest) ≡ Ok (x, rest)
item_again last behind x rest fit may =
    let all : List ℕ = fields_bytes x ++ (x.bytes ++ rest) in
    let n = length x.key.name in
    let front : take n (x.key.name ++ all) ≡ x.key.name = take_at x.key.name all n refl in
    let back : drop n (x.key.name ++ all) ≡ all = drop_at x.key.name all n refl in
    let long : number_32 (drop 7 all) ≡ length x.bytes = number_32_of (length x.bytes) (x.bytes ++ rest) (omega (arith, fit.long)) in
    let room : fields_len + number_32 (drop 7 all) ≤ length all = omega (arith, long, length-append x.bytes rest) in
    ap (item_at last behind) (laid x rest)
    ∙ read_named last behind n (x.key.name ++ all) may (subst (λ (xs : List ℕ). fields_len + number_32 (drop 7 xs) ≤ length xs) (sym back) room)
    ∙ (λ i. Ok (item_named (front i) (back i)))
    ∙ ap (λ (y : Dumped × List ℕ). Ok y) (named_again x rest fit)
