-- A volume is whole behind an edit of its table in the cache: each page that waits is one of the table's, and an image of itself.
use Rattle.std.proofs.Common.{◌≡◌, inl, inr, ℕ, ◌^◌, ◌<◌, ◌≤◌, Bool, true, List, length, take, Option, Some, None, Result, Ok, Err, refl, sym, ap, subst, ◌∙◌, arith}
use Rattle.std.specs.Prelude.{IfErr, IfSome, IsSome, OnErr, option_and_then, slice_get}
use Rattle.std.specs.Borrow.{MutBor}
use Rattle.std.specs.Option.{option_or}
use Rattle.std.proofs.lemmas.Nat.{from_be_bytes-to_be_bytes_4}
use Rattle.fsd_bytes.specs.Bytes.{u32_at}
use Rattle.fsd_bytes.specs.declared.refusal.Refusal.{Refusal}
use Rattle.fsd_formats.specs.NamePage.{Content, read_page}
use Rattle.fsd_formats.proofs.SpellingLaws.{page_is_spelled}
use Rattle.fsd_table.specs.Pages.{page_at}
use Rattle.fsd_table.specs.Table.{BreaksTable}
use Rattle.group_commit.specs.Cached.{AreWaiting, IsWaiting}
use Rattle.group_commit.specs.Resident.{IsImageOf}
use Rattle.sector_disk.specs.declared.machine.Machine.{Ghosts as MachineGhosts}
use Rattle.page_cache.specs.declared.source.PageSource.{Ghosts as SourceGhosts}
use Rattle.page_cache.specs.Cache.{CacheValue, cached_bytes, is_among, newest_bytes}
use Rattle.name_btree.specs.declared.fault.TreeFault.{TreeFault}
use Rattle.name_btree.specs.Fault.{BarsTable, HasTreeCause}
use Rattle.name_page.specs.declared.pages.Pages.{Ghosts}
use Rattle.name_page.specs.Looks.{ChangesPages, IsAccepted, IsAsChanged, OnlyWalks}
use Rattle.name_page.specs.Pages.{Step}
use Rattle.table_pages.specs.Bringing.{given_by}
use Rattle.table_pages.specs.ImageLaws.{image_at, image_count}
use Rattle.table_pages.specs.Table.{IsOver, LeavesTable, step_of}
use Rattle.table_pages.specs.declared.table.Table.{Table}
use Rattle.cached_table.specs.Editing.{ChangesNone}
use Rattle.cached_table.proofs.HighestLaws.{fails_trusted, none_walked}
use Rattle.cached_table.proofs.ResidentLaws.{in_memory}

-- ---- what reads as a page is an image of it

read_image : (page p : ℕ) (bytes : List ℕ) (x : Content) → page < 2 ^ 32 → read_page page p bytes ≡ Some x → IsImageOf page bytes
read_image page p bytes x small read =
    let spelled = page_is_spelled page p bytes x read in
    record { magic = ap (take 4) spelled; number = ap (u32_at 12) spelled ∙ from_be_bytes-to_be_bytes_4 page small }

accepted_image : (images : List (List ℕ)) (page : ℕ) (bytes : List ℕ) → page < 2 ^ 32 → slice_get images page ≡ Some bytes → IsSome (page_at images page) → IsImageOf page bytes
unfolding page_at
accepted_image images page bytes small there accepted = by (read_page page (length images) bytes) refl (subst (λ (o : Option (List ℕ)). IsSome (option_and_then (read_page page (length images)) o)) there accepted)
  where
    by : (o : Option Content) → read_page page (length images) bytes ≡ o → IsSome o → IsImageOf page bytes
    by None none some = absurd (cc some)
    by (Some x) read some = read_image page (length images) bytes x small read

-- ---- an edit of a table over a cache

module _ {D E : Type 0} {M : MachineGhosts D} {S : SourceGhosts E} where
  module _ {m : MutBor D} {cache : MutBor CacheValue} {source : E} {free : MutBor (List Bool)} {a b : Table D E M S} {m' : D} {cache' : CacheValue} {free' : List Bool}
      (over : IsOver m cache source free a) (count : length (step_of b).images ≡ length (step_of a).images) (left : LeavesTable b m' cache' free') where
    as_many : length b.free.now ≡ length free.now
    as_many =
        let last = image_count (newest_bytes b.cache.now (given_by M S b.source.now b.m.now)) (length b.free.now) in
        let first = image_count (newest_bytes a.cache.now (given_by M S a.source.now a.m.now)) (length a.free.now) in
        omega (arith, last, first, count, ap (λ (f : MutBor (List Bool)). length f.now) over.spared)

    -- the images of pages in memory
    shown_last : (page : ℕ) (bytes : List ℕ) → page < length free.now → cached_bytes b.cache.now page ≡ Some bytes → slice_get (step_of b).images page ≡ Some bytes
    shown_last page bytes lt there =
        image_at (newest_bytes b.cache.now (given_by M S b.source.now b.m.now)) (length b.free.now) page bytes (omega (arith, lt, as_many)) (ap (λ (o : Option (List ℕ)). option_or o (given_by M S b.source.now b.m.now page)) there)

    shown_first : (page : ℕ) (bytes : List ℕ) → page < length free.now → cached_bytes a.cache.now page ≡ Some bytes → slice_get (step_of a).images page ≡ Some bytes
    shown_first page bytes lt there =
        image_at (newest_bytes a.cache.now (given_by M S a.source.now a.m.now)) (length a.free.now) page bytes (omega (arith, lt, ap (λ (f : MutBor (List Bool)). length f.now) over.spared))
        (ap (λ (o : Option (List ℕ)). option_or o (given_by M S a.source.now a.m.now page)) there)

    small : length free.now ≤ 4096
    small = omega (arith, a.kept.small, ap (λ (f : MutBor (List Bool)). length f.now) over.spared)

    module _ (page : ℕ) where
      if_some : (P : List ℕ → Type 0) → ((bytes : List ℕ) → cached_bytes b.cache.now page ≡ Some bytes → P bytes) → IfSome (cached_bytes cache' page) P
      if_some P of = subst (λ (o : Option (List ℕ)). IfSome o P) (sym (left.pins.bytes page)) (by (cached_bytes b.cache.now page) refl)
        where
          by : (o : Option (List ℕ)) → cached_bytes b.cache.now page ≡ o → IfSome o P
          by None none = tt
          by (Some bytes) there = of bytes there

      as_before : AreWaiting (length free.now) cache.now → IsAsChanged (step_of a) (step_of b) page → IsWaiting (length free.now) cache' page
      as_before were is =
          let was : is_among cache.now.dirty page ≡ true = subst (λ (x : MutBor CacheValue). is_among x.now.dirty page ≡ true) over.cached is.was in
          let waited = were page was in
          let first = in_memory a.cache.now page (a.kept.dirty page is.was) in
          let image : IsImageOf page first.0 = subst (λ (o : Option (List ℕ)). IfSome o (IsImageOf page)) (sym (ap (λ (x : MutBor CacheValue). cached_bytes x.now page) over.cached) ∙ first.1) waited.image in
          record {
            inside = waited.inside;
            image = if_some (IsImageOf page) (λ bytes there.
                let both : Some first.0 ≡ Some bytes = sym (shown_first page first.0 waited.inside first.1) ∙ sym is.same ∙ shown_last page bytes waited.inside there in
                let same : first.0 ≡ bytes = cc both in
                subst (IsImageOf page) same image);
          }

      now_read : IsAccepted (step_of b) page → IsWaiting (length free.now) cache' page
      now_read is =
          let last = image_count (newest_bytes b.cache.now (given_by M S b.source.now b.m.now)) (length b.free.now) in
          let lt : page < length free.now = omega (arith, is.there, last, as_many) in
          record {
            inside = lt;
            image = if_some (IsImageOf page) (λ bytes there. accepted_image (step_of b).images page bytes (omega (arith, lt, small)) (shown_last page bytes lt there) is.accepted);
          }

    -- what waits then
    pub waits_left : ChangesPages (step_of a) (step_of b) → AreWaiting (length free.now) cache.now → AreWaiting (length free.now) cache'
    waits_left pages were = λ page is.
        elim (pages.each page (ap (λ (d : List ℕ). is_among d page) (sym left.pins.dirty) ∙ is)) [
          | inl old ↦ as_before page were old
          | inr read ↦ now_read page read
        ]

-- ---- where it fails

pub none_failed : {D : Type 0} (P : Ghosts D) (refusal : Option Refusal) (a b : D) {T F : Type 0} (r : Result T F) → OnErr r (OnlyWalks P refusal a b) → OnErr r (ChangesNone (P.trusted b) (P.step a) (P.step b))
none_failed P refusal a b (Ok x) walks = tt
none_failed P refusal a b (Err fault) walks = none_walked P refusal a b walks

pub each_fails : (trusted : Type 0) (s : Step) {T : Type 0} (r : Result T TreeFault) → IfErr r (HasTreeCause s (λ page. trusted → BreaksTable s.images page) (λ page. trusted → BarsTable s page)) → IfErr r (λ fault. trusted → HasTreeCause s (BreaksTable s.images) (BarsTable s) fault)
each_fails trusted s (Ok x) fails = tt
each_fails trusted s (Err fault) fails = fails_trusted trusted s fault fails
