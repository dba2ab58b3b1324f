-- Texts that are said one behind another.
use Rattle.std.proofs.Common.{◌≡◌, ℕ, zero, suc, ◌+◌, List, [], ◌∷◌, ◌++◌, length, map, take, refl, sym, ap, ◌∙◌, subst, append_assoc}
use Rattle.std.specs.List.{concat}
use Rattle.std.proofs.lemmas.List.{append-nil, map-append}
use Rattle.std.proofs.lemmas.List.Elements.{filter-append}
use Rattle.std.proofs.lemmas.List.Folds.{concat-append}
use Rattle.std.proofs.Math.Seq.{take-append-add}
use Rattle.fsd_dumps.specs.Dump.{Dumped, fields_bytes, front_bytes, item_bytes}
use Rattle.fsd_formats.specs.declared.entry.Entry.{Entry}
use Rattle.sector_disk.specs.Image.{IsWorn, Windows, open_damage}
use Rattle.sector_disk.specs.Machine.{Moment, Says, Utters, Wears}
use Rattle.sector_disk.proofs.Wear.{worn_trans}
use Rattle.fsd_files.specs.Files.{Files}
use Rattle.fsd_runs.specs.declared.span.Span.{Span}
use Rattle.fsd_runs.specs.Dumps.{chosen, dumped_of, is_in_span}
use Rattle.volume_dump.specs.Dump.{SaysSome}
use Rattle.volume_dump.specs.Saying.{items_of, said_of}

-- ---- some first bytes of a longer text

front_taken : (n : ℕ) (xs ys : List ℕ) → take (length (take n xs)) (xs ++ ys) ≡ take n xs
front_taken zero xs ys = refl
front_taken (suc n) [] ys = refl
front_taken (suc n) (x ∷ xs) ys = ap (λ (zs : List ℕ). x ∷ zs) (front_taken n xs ys)

pub utters_more : (xs ys : List ℕ) (a b : Moment) → Utters xs a b → Utters (xs ++ ys) a b
utters_more xs ys a b u = record { image = u.image; windows = u.windows; heard = length (take u.heard xs); said = u.said ∙ ap (λ (zs : List ℕ). a.said ++ zs) (sym (front_taken u.heard xs ys)) }

pub utters_as : (xs ys : List ℕ) (a b : Moment) → xs ≡ ys → Utters xs a b → Utters ys a b
utters_as xs ys a b same u = subst (λ (zs : List ℕ). Utters zs a b) same u

pub says_as : (xs ys : List ℕ) (a b : Moment) → xs ≡ ys → Says xs a b → Says ys a b
says_as xs ys a b same s = subst (λ (zs : List ℕ). Says zs a b) same s

-- a version's front and its own bytes
pub front_then : (x : Dumped) → front_bytes x ++ x.bytes ≡ item_bytes x
front_then x = ap (λ (xs : List ℕ). length x.key.name ∷ xs) (append_assoc x.key.name (fields_bytes x) x.bytes)

-- ---- one behind another

worn_then : (a b c : Moment) → IsWorn (open_damage a.windows) a.image b.image → b.windows ≡ a.windows → IsWorn (open_damage b.windows) b.image c.image → IsWorn (open_damage a.windows) a.image c.image
worn_then a b c first windows second = worn_trans (open_damage a.windows) a.image b.image c.image first (subst (λ (w : Windows). IsWorn (open_damage w) b.image c.image) windows second)

pub says_then : (xs ys : List ℕ) (a b c : Moment) → Says xs a b → Says ys b c → Says (xs ++ ys) a c
says_then xs ys a b c first second = record {
  image = worn_then a b c first.image first.windows second.image;
  windows = second.windows ∙ first.windows;
  said = second.said ∙ ap (λ (zs : List ℕ). zs ++ ys) first.said ∙ append_assoc a.said xs ys;
}

pub utters_behind : (xs ys : List ℕ) (a b c : Moment) → Says xs a b → Utters ys b c → Utters (xs ++ ys) a c
utters_behind xs ys a b c first second = record {
  image = worn_then a b c first.image first.windows second.image;
  windows = second.windows ∙ first.windows;
  heard = length xs + second.heard;
  said = second.said ∙ ap (λ (zs : List ℕ). zs ++ take second.heard ys) first.said ∙ append_assoc a.said xs (take second.heard ys) ∙ ap (λ (zs : List ℕ). a.said ++ zs) (sym (take-append-add xs ys second.heard));
}

-- ---- where nothing is said

pub wears_says : (a b : Moment) → Wears a b → Says [] a b
wears_says a b worn = record { image = worn.image; windows = worn.windows; said = worn.said ∙ sym (append-nil a.said) }

pub wears_utters : (xs : List ℕ) (a b : Moment) → Wears a b → Utters xs a b
wears_utters xs a b worn = record { image = worn.image; windows = worn.windows; heard = 0; said = worn.said ∙ sym (append-nil a.said) }

-- ---- some text

pub utters_some : (xs : List ℕ) (a b : Moment) → Utters xs a b → SaysSome a b
utters_some xs a b u = (xs, u)

pub wears_some : (a b : Moment) → Wears a b → SaysSome a b
wears_some a b worn = ([], wears_utters [] a b worn)

-- all that is said
pub says_so : (xs : List ℕ) (a b : Moment) → SaysSome a b → b.said ≡ a.said ++ xs → Says xs a b
says_so xs a b some said = record { image = some.1.image; windows = some.1.windows; said = said }

some_says : (a b : Moment) (some : SaysSome a b) → Says (take some.1.heard some.0) a b
some_says a b some = record { image = some.1.image; windows = some.1.windows; said = some.1.said }

pub some_then : (a b c : Moment) → SaysSome a b → SaysSome b c → SaysSome a c
some_then a b c first second =
    let front = take first.1.heard first.0 in
    (front ++ second.0, utters_behind front second.0 a b c (some_says a b first) second.1)

-- ---- the text of versions

pub items_both : (span : Span) (files : Files) (xs ys : List Entry) → items_of span files (xs ++ ys) ≡ items_of span files xs ++ items_of span files ys
items_both span files xs ys =
    let is = λ (e : Entry). is_in_span span e.serial in
    ap (λ (es : List Entry). map item_bytes (map (dumped_of files) es)) (filter-append is xs ys)
    ∙ ap (map item_bytes) (map-append (dumped_of files) (chosen span xs) (chosen span ys))
    ∙ map-append item_bytes (map (dumped_of files) (chosen span xs)) (map (dumped_of files) (chosen span ys))

pub said_both : (span : Span) (files : Files) (xs ys : List Entry) → said_of span files (xs ++ ys) ≡ said_of span files xs ++ said_of span files ys
said_both span files xs ys = ap concat (items_both span files xs ys) ∙ concat-append (items_of span files xs) (items_of span files ys)
