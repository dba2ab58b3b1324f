-- The places of a leaf's entries.
use Rattle.std.proofs.Common.{◌≡◌, ◌⊎◌, inl, inr, ℕ, zero, suc, ◌+◌, ◌<◌, ◌≤◌, true, List, length, refl, sym, subst, ◌∙◌, arith}
use Rattle.std.specs.Prelude.{slice_set, slice_index}
use Rattle.std.specs.List.{flat_map, list_all}
use Rattle.std.proofs.lemmas.List.{get_or-set_same, get_or-set_other, length-set}
use Rattle.fsd_bytes.specs.Bytes.{u16_at}
use Rattle.fsd_bytes.proofs.FieldLaws.{AreSmall}
use Rattle.fsd_formats.specs.declared.entry.Entry.{Entry}
use Rattle.fsd_formats.specs.NamePage.{entry_bytes, is_entry}
use Rattle.name_page.specs.Fault.{entry_end}
use Rattle.name_page.specs.Reading.{entries_read, StandsAt}
use Rattle.fsd_table.proofs.EntryLaws.{entries_long}
use Rattle.name_page.proofs.ReadingLaws.{Walk, LeafIn, leaf_in, walk_begins, walk_next, walk_entry, walk_ends}

-- ---- how many entries a leaf has

pub entries_few : (b : List ℕ) → AreSmall b → length (entries_read b) ≤ 18
entries_few b small = by (length (entries_read b)) refl
  where
    few : (xs : List Entry) (used : ℕ) → list_all is_entry xs ≡ true → 24 + length (flat_map entry_bytes xs) ≡ 24 + used → 24 + used ≤ 512 → length xs ≤ 18
    few xs used each is most = omega (arith, entries_long xs each)

    by : (n : ℕ) → length (entries_read b) ≡ n → length (entries_read b) ≤ 18
    by zero e = omega (arith, e)
    by (suc n) e =
        let l : LeafIn b = leaf_in b 0 small (omega (arith, e)) in
        subst (λ (xs : List Entry). length xs ≤ 18) (sym l.same) (few _ (u16_at 8 b) l.from.each l.from.used l.roomy)

-- ---- one place after another

-- so many entries have their places, and the next one stands here
pub record Placed (b places : List ℕ) (k place : ℕ) : Type 0 where
  pub few : length (entries_read b) ≤ 18
  pub whole : length places ≡ 18
  pub done : (i : ℕ) → i < k → StandsAt b i (slice_index places i)
  pub rest : (i : ℕ) → k ≤ i → i < length (entries_read b) → Walk b i k place

pub placed_begins : (b places : List ℕ) → AreSmall b → length places ≡ 18 → Placed b places 0 24
placed_begins b places small whole = record { few = entries_few b small; whole = whole; done = λ i h. absurd (omega arith); rest = λ i low h. walk_begins b i small h }

stands_at : (b : List ℕ) (k place : ℕ) → length b ≡ 512 → Walk b k k place → StandsAt b k place
stands_at b k place long w =
    let e = walk_entry b k k place long (omega arith) w in
    record { there = walk_ends b k k place long refl w; entry = e.0; within = e.1 }

pub placed_next : (b places : List ℕ) (k place : ℕ) → length b ≡ 512 → k < length (entries_read b) → Placed b places k place → Placed b (slice_set places k place) (k + 1) (entry_end place b)
placed_next b places k place long more p = record {
  few = p.few;
  whole = length-set places k place ∙ p.whole;
  done = λ i h. by i h (split i k h);
  rest = λ i low h. walk_next b i k place long (omega (arith, low)) (p.rest i (omega (arith, low)) h);
}
  where
    split : (i k : ℕ) → i < k + 1 → (i ≡ k) ⊎ (i < k)
    split i k h = grind arith

    by : (i : ℕ) → i < k + 1 → (i ≡ k) ⊎ (i < k) → StandsAt b i (slice_index (slice_set places k place) i)
    by i h (inl e) =
        let at : slice_index (slice_set places k place) k ≡ place = get_or-set_same places k place 0 (omega (arith, more, p.few, p.whole)) in
        let here : StandsAt b k (slice_index (slice_set places k place) k) = subst (StandsAt b k) (sym at) (stands_at b k place long (p.rest k (omega arith) more)) in
        subst (λ (j : ℕ). StandsAt b j (slice_index (slice_set places k place) j)) (sym e) here
    by i h (inr below) =
        let at : slice_index (slice_set places k place) i ≡ slice_index places i = get_or-set_other places k i place 0 (λ e. omega (arith, e)) in
        subst (StandsAt b i) (sym at) (p.done i below)
