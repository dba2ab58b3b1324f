-- A table over a cache as pages: the laws of its `impl`.
use Rattle.std.proofs.Common.{◌≡◌, ◌⊎◌, inl, inr, ℕ, ◌≤◌, false, true, List, Option, Some, None, length, refl, sym, ap, ◌∙◌, subst, arith, eqb-true}
use Rattle.std.specs.Prelude.{nat_eq}
use Rattle.std.proofs.lemmas.Bool.{true≢false}
use Rattle.fsd_bytes.specs.declared.refusal.Refusal.{Refusal}
use Rattle.fsd_formats.specs.NamePage.{read_page}
use Rattle.sector_disk.specs.Machine.{Moment}
use Rattle.sector_disk.specs.declared.machine.Machine.{Ghosts as MachineGhosts}
use Rattle.sector_disk.proofs.CallLaws as calls
use Rattle.page_cache.specs.declared.source.PageSource.{Ghosts as SourceGhosts}
use Rattle.page_cache.specs.Cache.{CacheValue, AreNewest, cached_bytes, newest_bytes, is_among, with_written}
use Rattle.page_cache.proofs.Entries.{by_bool}
use Rattle.page_cache.proofs.WrittenLaws.{bytes_beside, now_dirty, still_dirty}
use Rattle.name_page.specs.Pages.{with_page}
use Rattle.table_pages.specs.Reads.{Fills, StoodWhole}
use Rattle.table_pages.specs.Bringing.{given_by, home_in}
use Rattle.table_pages.specs.Table.{step_of, table_written, BarsPlace, ReadsOnly, Trusted}
use Rattle.table_pages.specs.declared.table.Table.{Table}
use Rattle.table_pages.specs.ReadLaws.{fills_still, fills_then, stood_before}
use Rattle.table_pages.specs.ImageLaws.{image_count, images_written}

module _ {D E : Type 0} {M : MachineGhosts D} {S : SourceGhosts E} where
  pub step_written : (t : Table D E M S) (page : ℕ) (bytes : List ℕ) → step_of (table_written t page bytes) ≡ with_page page bytes (step_of t)
  step_written t page bytes =
      ap (λ (images : List (List ℕ)). record (step_of (table_written t page bytes)) { images = images })
      (images_written page bytes t.cache.now (given_by M S t.source.now t.m.now) (length t.free.now))

  -- a page that is written is dirty, and the others stay
  fills_written : (source : E) (m : D) (page : ℕ) (bytes : List ℕ) (c : CacheValue) → Fills M S source m m c (with_written page bytes c)
  fills_written source m page bytes c = record {
    frames = refl;
    dirty = λ q is. still_dirty c page q is;
    stood = λ h q was out is. inl (sym (bytes_beside page bytes c q (beside q out)) ∙ is);
  }
    where
      beside : (q : ℕ) → is_among (with_written page bytes c).dirty q ≡ false → nat_eq page q ≡ false
      beside q out = by_bool (nat_eq page q)
          (λ t. absurd (true≢false (sym (subst (λ (k : ℕ). is_among (with_written page bytes c).dirty k ≡ true) (eqb-true page q t) (now_dirty c page)) ∙ out)))
          (λ t. t)

  module _ (only_now : (m : D) (c : Moment) → M.honest m → M.left_since m (M.moment m) c → c ≡ M.now m) where
    pub reads_still : (t : Table D E M S) → ReadsOnly None t t
    reads_still t = record {
      reads = calls.reads_none t.m.now (λ c h left. only_now t.m.now c h left);
      loses = tt;
      fills = fills_still M S t.source.now t.m.now t.cache.now;
      source = refl;
      machine = refl;
      cache = refl;
      free = refl;
      made_over = refl;
      made_with = refl;
      count = refl;
      home_a = refl;
      taken = λ page is. inl is;
      barred = λ h place is. inl is;
    }

    pub reads_written : (t : Table D E M S) (page : ℕ) (bytes : List ℕ) → ReadsOnly None t (table_written t page bytes)
    reads_written t page bytes = record {
      reads = calls.reads_none t.m.now (λ c h left. only_now t.m.now c h left);
      loses = tt;
      fills = fills_written t.source.now t.m.now page bytes t.cache.now;
      source = refl;
      machine = refl;
      cache = refl;
      free = refl;
      made_over = refl;
      made_with = refl;
      count = refl;
      home_a = refl;
      taken = λ page is. inl is;
      barred = λ h place is. inl is;
    }

  -- a page that is barred stays so, and was so from an earlier table on
  bars_later : (a b c : Table D E M S) (refusal : Option Refusal) (place : ℕ) → ReadsOnly refusal b c → BarsPlace a b place → BarsPlace a c place
  bars_later a b c refusal place y bars = record {
    page = bars.page;
    within = omega (arith, bars.within, y.count);
    home = bars.home ∙ ap (λ (n : ℕ). home_in n bars.page) (sym y.home_a);
    why = elim bars.why [
      | inl free ↦ elim (y.taken bars.page free) [
        | inl still ↦ inl still
        | inr dirty ↦ inr (inl dirty)
      ]
      | inr other ↦ elim other [
        | inl dirty ↦ inr (inl (y.fills.dirty bars.page dirty))
        | inr had ↦ inr (inr (record { bytes = had.bytes; had = had.had; none = subst (λ (n : ℕ). read_page bars.page n had.bytes ≡ None) (sym y.count) had.none }))
      ]
    ];
  }

  bars_earlier : (a b c : Table D E M S) (refusal : Option Refusal) (place : ℕ) → ReadsOnly None a b → ReadsOnly refusal b c → M.honest b.m.now → BarsPlace b c place → BarsPlace a c place
  bars_earlier a b c refusal place x y honest bars = record {
    page = bars.page;
    within = bars.within;
    home = bars.home;
    why = elim bars.why [
      | inl free ↦ inl free
      | inr other ↦ elim other [
        | inl dirty ↦ inr (inl dirty)
        | inr had ↦ inr (by_bool (is_among b.cache.now.dirty bars.page)
            (λ t. inl (y.fills.dirty bars.page t))
            (λ t. inr (record { bytes = had.bytes; had = was had.bytes t had.had; none = had.none })))
      ]
    ];
  }
    where
      was : (bytes : List ℕ) → is_among b.cache.now.dirty bars.page ≡ false → (cached_bytes b.cache.now bars.page ≡ Some bytes) ⊎ StoodWhole M S b.source.now (M.now b.m.now) bars.page bytes
          → (cached_bytes a.cache.now bars.page ≡ Some bytes) ⊎ StoodWhole M S a.source.now (M.now a.m.now) bars.page bytes
      was bytes out (inl had) = x.fills.stood honest bars.page bytes out had
      was bytes out (inr stood) = inr (stood_before M S a.source.now (M.now a.m.now) (M.now b.m.now) bars.page bytes (x.reads.worn honest) (subst (λ (source : E). StoodWhole M S source (M.now b.m.now) bars.page bytes) x.source stood))

  pub reads_then : (a b c : Table D E M S) (refusal : Option Refusal) → ReadsOnly None a b → ReadsOnly refusal b c → ReadsOnly refusal a c
  reads_then a b c refusal x y = record {
    reads = calls.reads_then x.reads y.reads;
    loses = y.loses;
    fills = fills_then M S a.source.now a.m.now b.m.now c.m.now a.cache.now b.cache.now c.cache.now y.reads.trust.honest x.reads.worn x.fills
        (subst (λ (source : E). Fills M S source b.m.now c.m.now b.cache.now c.cache.now) x.source y.fills);
    source = y.source ∙ x.source;
    machine = y.machine ∙ x.machine;
    cache = y.cache ∙ x.cache;
    free = y.free ∙ x.free;
    made_over = y.made_over ∙ x.made_over;
    made_with = y.made_with ∙ x.made_with;
    count = y.count ∙ x.count;
    home_a = y.home_a ∙ x.home_a;
    taken = λ page is. elim (x.taken page is) [
      | inl free ↦ y.taken page free
      | inr dirty ↦ inr (y.fills.dirty page dirty)
    ];
    barred = λ h place is. elim (y.barred h place is) [
      | inl was ↦ elim (x.barred (y.reads.trust.honest h) place was) [
        | inl first ↦ inl first
        | inr bars ↦ inr (bars_later a b c refusal place y bars)
      ]
      | inr bars ↦ inr (bars_earlier a b c refusal place x y (y.reads.trust.honest h) bars)
    ];
  }

  pub trusted_earlier : (a b : Table D E M S) (refusal : Option Refusal) → ReadsOnly refusal a b → Trusted b → Trusted a
  trusted_earlier a b refusal x t =
      record {
        honest = x.reads.trust.honest t.honest;
        knows = subst (λ (source : E). S.knows source (M.now a.made_over.value)) x.source (subst (λ (first : D). S.knows b.source.now (M.now first)) x.made_over t.knows);
        clean =
            subst (λ (source : E). AreNewest (given_by M S source a.made_over.value) a.made_with.value) x.source
            (subst (λ (first : D). AreNewest (given_by M S b.source.now first) a.made_with.value) x.made_over
            (subst (AreNewest (given_by M S b.source.now b.made_over.value)) x.made_with t.clean));
      }

  pub few_images : (t : Table D E M S) → length (step_of t).images ≤ 4096
  few_images t = let count = image_count (newest_bytes t.cache.now (given_by M S t.source.now t.m.now)) (length t.free.now) in let few = t.kept.small in omega (arith, count, few)

  pub as_many : (t : Table D E M S) → length (step_of t).spares ≡ length (step_of t).images
  as_many t = sym (image_count (newest_bytes t.cache.now (given_by M S t.source.now t.m.now)) (length t.free.now))
