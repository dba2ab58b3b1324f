-- Sectors that are read one after another.
use Rattle.std.proofs.Common.{◌≡◌, inl, inr, ℕ, ◌+◌, ◌*◌, ◌<◌, ◌≤◌, Bool, false, List, [], ◌∷◌, ◌++◌, length, get_or, Option, Some, None, refl, sym, ap, subst, ◌∙◌, arith}
use Rattle.std.specs.Prelude.{IsTrue, if◌then◌else◌, min, max}
use Rattle.std.proofs.lemmas.Bool.{cases_lt}
use Rattle.std.proofs.lemmas.List.{length-append, get_or_append_left, get_or_past}
use Rattle.std.proofs.Math.Seq.{get_or-append_seam}
use Rattle.sector_disk.specs.Calls.{as_sector}
use Rattle.sector_disk.specs.Image.{sector_at, Windows, open_damage, bytes_of}
use Rattle.sector_disk.specs.Machine.{Moment, Wears}
use Rattle.sector_disk.proofs.Wear.{worn_damaged}
use Rattle.fsd_log.specs.Judged.{sector_in}
use Rattle.log_record.specs.Found.{read_of}
use Rattle.fsd_log.proofs.LaidLaws.{slice_within, slice_behind, slice_all}
use Rattle.fsd_formats.specs.Record.{Stamp}
use Rattle.fsd_log.specs.Reach.{headers_len, len_by, reach}
use Rattle.fsd_log.proofs.ReachLaws.{reach_most}
use Rattle.log_thirds.specs.Reading.{ReadInto, ReadWorn, SeesAt, ReadsSectors, ReadsRecord}

pub bytes_back : (o : Option (List ℕ)) → bytes_of (as_sector o) ≡ o
bytes_back None = refl
bytes_back (Some bytes) = refl

-- what a read shows as it ends, it sees
pub read_shown : (old new : Moment) (place : ℕ) (o : Option (List ℕ)) → Wears old new → sector_at new.image place ≡ as_sector o → ReadWorn old place o
read_shown old new place o wears shown = elim (wears.image.each place) [
  | inl same ↦ inl (sym (bytes_back o) ∙ ap bytes_of (sym shown) ∙ ap bytes_of same)
  | inr hurt ↦ inr (hurt.0, sym (bytes_back o) ∙ ap bytes_of (sym shown) ∙ ap bytes_of hurt.1)
]

-- what is read later may have worn before
pub read_back : (old mid : Moment) (place : ℕ) (o : Option (List ℕ)) → Wears old mid → ReadWorn mid place o → ReadWorn old place o
read_back old mid place o wears (inl is) = elim (wears.image.each place) [
  | inl same ↦ inl (is ∙ ap bytes_of same)
  | inr hurt ↦ inr (hurt.0, is ∙ ap bytes_of hurt.1)
]
read_back old mid place o wears (inr hurt) = inr (subst (λ (w : Windows). IsTrue (open_damage w place)) wears.windows hurt.0, hurt.1)

module _ (whole whole1 : List Bool) (bytes bytes1 : List ℕ) (shows : Option (List ℕ) → Type 0) (into : ReadInto whole whole1 bytes bytes1 shows) (k : ℕ) (many : length whole ≡ k) (long : length bytes ≡ 512 * k) where
  read_before : (j : ℕ) → j < k → read_of whole1 bytes1 j ≡ read_of whole bytes j
  read_before j lt =
      (λ i. if get_or (into.noted i) j false then Some (sector_in (into.taken i) j) else None)
      ∙ (λ i. if get_or_append_left whole (into.flag ∷ []) false j (let below : j < length whole = omega arith in below) i then Some (slice_within bytes into.sector k j long lt i) else None)

  read_last : read_of whole1 bytes1 k ≡ (if into.flag then Some into.sector else None)
  read_last =
      let flag : get_or (whole ++ into.flag ∷ []) k false ≡ into.flag = ap (λ (n : ℕ). get_or (whole ++ into.flag ∷ []) n false) (sym many) ∙ get_or-append_seam whole into.flag [] false in
      let slice : sector_in (bytes ++ into.sector) k ≡ into.sector = slice_behind bytes into.sector k 0 k long (omega arith) ∙ slice_all into.sector into.long in
      (λ i. if get_or (into.noted i) k false then Some (sector_in (into.taken i) k) else None) ∙ (λ i. if flag i then Some (slice i) else None)

-- what was seen up to a moment was seen up to a later one, and what is seen from a moment on is seen from an earlier one on
sees_later : (old mid new : Moment) (place : ℕ) (o : Option (List ℕ)) → Wears mid new → SeesAt old mid place o → SeesAt old new place o
sees_later old mid new place o wears sees = (sees.0, λ none. worn_damaged (open_damage mid.windows) mid.image new.image place wears.image (sees.1 none))

sees_back : (old mid new : Moment) (place : ℕ) (o : Option (List ℕ)) → Wears old mid → SeesAt mid new place o → SeesAt old new place o
sees_back old mid new place o wears sees = (read_back old mid place o wears sees.0, sees.1)

pub reads_more : (honest honest1 : Type 0) (old mid new : Moment) (place k : ℕ) (whole whole1 whole2 : List Bool) (bytes bytes1 bytes2 : List ℕ) → (honest1 → honest) → (honest1 → Wears old mid) → (honest1 → Wears mid new) → length whole ≤ k
    → ReadsSectors honest old mid place k whole whole1 bytes bytes1 → ReadInto whole1 whole2 bytes1 bytes2 (λ o. honest1 → SeesAt mid new (place + k) o) → ReadsSectors honest1 old new place (k + 1) whole whole2 bytes bytes2
reads_more honest honest1 old mid new place k whole whole1 whole2 bytes bytes1 bytes2 back wears later begun so_far into = record {
  many = ap length into.noted ∙ omega (arith, so_far.many, length-append whole1 (into.flag ∷ []));
  long = ap length into.taken ∙ omega (arith, so_far.long, into.long, length-append bytes1 into.sector);
  kept = λ j lt. read_before whole1 whole2 bytes1 bytes2 _ into k so_far.many so_far.long j (omega arith) ∙ so_far.kept j lt;
  sees = λ h j from lt. elim (cases_lt j k) [
    | inl below ↦ subst (SeesAt old new (place + j)) (sym (read_before whole1 whole2 bytes1 bytes2 _ into k so_far.many so_far.long j below)) (sees_later old mid new (place + j) _ (later h) (so_far.sees (back h) j from below))
    | inr past ↦
        let at : k ≡ j = omega arith in
        subst (λ (n : ℕ). SeesAt old new (place + n) (read_of whole2 bytes2 n)) at
        (subst (SeesAt old new (place + k)) (sym (read_last whole1 whole2 bytes1 bytes2 _ into k so_far.many so_far.long)) (sees_back old mid new (place + k) _ (wears h) (into.shown h)))
  ];
}

-- nothing is read beyond what was read
pub read_past : (whole : List Bool) (bytes : List ℕ) (k : ℕ) → length whole ≤ k → read_of whole bytes k ≡ None
read_past whole bytes k past = ap (λ (b : Bool). if b then Some (sector_in bytes k) else None) (get_or_past whole k false past)

-- the headers, and then as far as they say
pub record_read : (gap : ℕ) → (honest honest1 : Type 0) (old mid new : Moment) (p : ℕ) (stamp : Stamp) (place room first count : ℕ) (whole whole1 whole2 : List Bool) (bytes bytes1 bytes2 : List ℕ) → whole ≡ [] → (honest1 → honest) → (honest1 → Wears old mid) → (honest1 → Wears mid new)
    → first ≡ min room (headers_len gap) → ReadsSectors honest old mid place first whole whole1 bytes bytes1 → count ≡ reach gap p stamp room (read_of whole1 bytes1) → ReadsSectors honest1 mid new place count whole1 whole2 bytes1 bytes2
    → ReadsRecord gap honest1 old new p stamp place room whole2 bytes2
record_read gap honest honest1 old mid new p stamp place room first count whole whole1 whole2 bytes bytes1 bytes2 none back wears later is_first front is_count rest = record {
  run = record {
    many = refl;
    long = rest.long ∙ ap (λ (n : ℕ). 512 * n) (sym rest.many);
    sees = λ h j lt. elim (cases_lt j first) [
      | inl below ↦ subst (SeesAt old new (place + j)) (sym (rest.kept j (omega (arith, front.many, below)))) (sees_later old mid new (place + j) _ (later h) (front.sees (back h) j (omega (arith, ap length none)) below))
      | inr from ↦ sees_back old mid new (place + j) _ (wears h) (rest.sees h j (omega (arith, front.many, from)) (omega (arith, rest.many, lt)))
    ];
  };
  within = within;
  reaches = rest.many ∙ is_count ∙ λ i. max (min (headers_len gap) room) (max (len_by gap p stamp room (header 0 (omega arith) i)) (len_by gap p stamp room (header (2 + gap) (omega arith) i)));
}
  where
    within : length whole2 ≤ room
    within = omega (arith, rest.many, is_count, reach_most gap p stamp room (read_of whole1 bytes1))

    header : (k : ℕ) → k < (headers_len gap) → read_of whole1 bytes1 k ≡ read_of whole2 bytes2 k
    header k lt = elim (cases_lt k (length whole1)) [
      | inl there ↦ sym (rest.kept k there)
      | inr past ↦ read_past whole1 bytes1 k past ∙ sym (read_past whole2 bytes2 k (omega (arith, within, front.many, is_first, past, lt)))
    ]
