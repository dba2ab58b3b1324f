-- The entries of a leaf, one after another.
use Rattle.std.proofs.Common.{◌≡◌, ℕ, suc, ◌+◌, ◌-◌, ◌*◌, ◌^◌, ◌<◌, ◌≤◌, Bool, true, false, cond, ◌&&◌, List, [], ◌∷◌, ◌++◌, length, drop, map, Some, None, refl, sym, ap, subst, ◌∙◌, arith, append_assoc}
use Rattle.std.specs.Prelude.{slice_get, ◌==◌, nat_le}
use Rattle.std.specs.List.{flat_map, list_all}
use Rattle.std.proofs.lemmas.Bool.{and_parts, and_from}
use Rattle.std.proofs.lemmas.List.{drop-drop, length-append}
use Rattle.fsd_bytes.specs.Bytes.{u8_at, u16_at, u32_at}
use Rattle.run_table.specs.declared.run.Run.{Run}
use Rattle.run_table.specs.RunTable.{run_of, run_at, runs_from, are_runs, total, max_runs}
use Rattle.fsd_formats.specs.declared.entry.Entry.{Entry}
use Rattle.fsd_bytes.specs.Names.{is_between, is_name}
use Rattle.fsd_bytes.specs.Keys.{is_key}
use Rattle.fsd_bytes.specs.Bytes.{same_bytes}
use Rattle.fsd_bytes.proofs.FieldLaws.{AreSmall, u16_behind, u32_there}
use Rattle.fsd_bytes.proofs.SameLaws.{same_is}
use Rattle.fsd_formats.specs.NamePage.{Content, Free, Leaf, Interior, content_from, is_page, page_bytes, stamp_at, room, least_used, max_keep, max_length, sectors_for, are_ascending, entry_bytes, entry_from, entries_from, is_entry}
use Rattle.fsd_table.specs.Pages.{entries_of}
use Rattle.name_page.specs.Fault.{entry_end}
use Rattle.name_page.specs.Reading.{entry_at, content_in, entries_read}
use Rattle.name_page.proofs.PieceLaws.{u32_small}
use Rattle.name_page.proofs.LengthLaws.{count_below}
use Rattle.name_page.proofs.PageLaws.{count_entries, content_at}
use Rattle.name_page.proofs.RefusalLaws.{spelled_page, some_or_none, leaf_of}
use Rattle.name_page.proofs.EntryLaws.{entry_there}
use Rattle.name_page.proofs.LeafLaws.{between, entries_split, entry_unfaulted, ends_inside, used_parts, used_within, used_rest}

-- the entries from a place on, which end at the limit
pub record From (left place limit : ℕ) (bytes : List ℕ) : Type 0 where
  pub each : list_all is_entry (entries_from left (drop place bytes)) ≡ true
  pub used : place + length (flat_map entry_bytes (entries_from left (drop place bytes))) ≡ limit

pub record Next (n place limit : ℕ) (bytes : List ℕ) : Type 0 where
  pub entry : is_entry (entry_at place bytes) ≡ true
  pub split : entries_from (suc n) (drop place bytes) ≡ entry_at place bytes ∷ entries_from n (drop (entry_end place bytes) bytes)
  pub within : entry_end place bytes ≤ limit
  pub rest : From n (entry_end place bytes) limit bytes

pub next_entry : (n place limit : ℕ) (bytes : List ℕ) → length bytes ≡ 512 → limit ≤ 512 → From (suc n) place limit bytes → Next n place limit bytes
next_entry n place limit bytes long high from =
    let first : Entry = entry_from (drop place bytes) in
    let e : Entry = entry_at place bytes in
    let there : first ≡ e = entry_there place bytes in
    let rest : List Entry = entries_from n (drop (length (entry_bytes first)) (drop place bytes)) in
    let head = and_parts (is_entry first) (list_all is_entry rest) from.each in
    let is : is_entry e ≡ true = ap is_entry (sym there) ∙ head.0 in
    let sizes : place + (length (entry_bytes e) + length (flat_map entry_bytes rest)) ≡ limit =
    used_parts place limit _ _ _ (length-append (entry_bytes first) (flat_map entry_bytes rest) ∙ ap (λ (x : Entry). length (entry_bytes x) + length (flat_map entry_bytes rest)) there) from.used in
    let one = entry_unfaulted place limit false None bytes long high is refl (used_within place limit _ _ sizes) (λ h. absurd cc) in
    let end : ℕ = entry_end place bytes in
    let inside : place + 1 + u8_at place bytes ≤ length bytes = ends_inside place (u8_at place bytes) _ _ end limit (length bytes) refl one.1 (used_within place limit _ _ sizes) high long in
    let P : List Entry → Type 0 = λ (x : List Entry). (list_all is_entry x ≡ true) × (place + length (flat_map entry_bytes x) ≡ limit) in
    let s = subst P (entries_split n place bytes inside) (from.each, from.used) in
    let entries : List Entry = entries_from n (drop end bytes) in
    record {
      entry = is;
      split = entries_split n place bytes inside;
      within = ends_within end place limit _ _ one.1 sizes;
      rest = record {
        each = (and_parts (is_entry e) (list_all is_entry entries) s.0).1;
        used = used_rest place limit end _ _ _ (length-append (entry_bytes e) (flat_map entry_bytes entries)) one.1 s.1;
      };
    }
  where
    ends_within : (end place limit first rest : ℕ) → end ≡ place + first → place + (first + rest) ≡ limit → end ≤ limit
    ends_within end place limit first rest e h = omega arith

-- runs that were read so far, and those that are left
pub runs_more : (bytes : List ℕ) (runs : List Run) (place left j next start len : ℕ) → left ≡ suc j → next ≡ place + 6 → start ≡ u32_at place bytes → len ≡ u16_at (place + 4) bytes
    → (runs ++ run_of start len ∷ []) ++ runs_from j (drop next bytes) ≡ runs ++ runs_from left (drop place bytes)
runs_more bytes runs place left j next start len e there s l =
    append_assoc runs (run_of start len ∷ []) (runs_from j (drop next bytes))
    ∙ ap (λ (x : ℕ). runs ++ run_of x len ∷ runs_from j (drop next bytes)) (s ∙ sym (u32_there place bytes))
    ∙ ap (λ (x : ℕ). runs ++ run_of (u32_at 0 (drop place bytes)) x ∷ runs_from j (drop next bytes)) (l ∙ sym (u16_behind place 4 bytes))
    ∙ ap (λ (x : ℕ). runs ++ run_at (drop place bytes) ∷ runs_from j (drop x bytes)) there
    ∙ ap (λ (x : List ℕ). runs ++ run_at (drop place bytes) ∷ runs_from j x) (sym (drop-drop 6 place bytes))
    ∙ ap (λ (x : ℕ). runs ++ runs_from x (drop place bytes)) (sym e)

-- ---- the entries of a leaf

pub record LeafIn (bytes : List ℕ) : Type 0 where
  pub same : entries_read bytes ≡ entries_from (u16_at 6 bytes) (drop 24 bytes)
  pub from : From (u16_at 6 bytes) 24 (24 + u16_at 8 bytes) bytes
  pub roomy : 24 + u16_at 8 bytes ≤ 512

record Leafy (page : ℕ) (entries : List Entry) (bytes : List ℕ) : Type 0 where
  same : entries ≡ entries_from (u16_at 6 bytes) (drop 24 bytes)
  from : From (u16_at 6 bytes) 24 (24 + u16_at 8 bytes) bytes
  roomy : 24 + u16_at 8 bytes ≤ 512

leafy : (page p : ℕ) (entries : List Entry) (bytes : List ℕ) → page < 2 ^ 32 → Leaf entries ≡ content_at bytes
    → (is_page page p (Leaf entries) && same_bytes (page_bytes page (stamp_at 16 bytes) (Leaf entries)) bytes) ≡ true → Leafy page entries bytes
leafy page p entries bytes small e is =
    let contents : List ℕ = flat_map entry_bytes entries in
    let both = and_parts (is_page page p (Leaf entries)) (same_bytes (page_bytes page (stamp_at 16 bytes) (Leaf entries)) bytes) is in
    let p2 = and_parts (list_all is_entry entries && are_ascending (map (λ e. e.key) entries)) (is_between (least_used page) room (length contents)) both.0 in
    let p1 = and_parts (list_all is_entry entries) (are_ascending (map (λ e. e.key) entries)) p2.0 in
    let few = (between (least_used page) room (length contents) p2.1).1 in
    let s = spelled_page 1 (length entries) page (stamp_at 16 bytes) contents bytes small (omega arith) (omega (arith, count_below entries, few)) few refl (and_from _ _ p2.1 (some_or_none entries)) (same_is _ _ both.1) in
    let same : entries ≡ entries_from (u16_at 6 bytes) (drop 24 bytes) = ap leaf_of (e ∙ ap (λ (j : ℕ). content_from j (u16_at 6 bytes) (drop 24 bytes)) s.kind_is) in
    let P : List Entry → Type 0 = λ (x : List Entry). (list_all is_entry x ≡ true) × (24 + length (flat_map entry_bytes x) ≡ 24 + u16_at 8 bytes) in
    let f = subst P same (p1.0, ap (λ (n : ℕ). 24 + n) (sym s.used_is)) in
    record { same = same; from = record { each = f.0; used = f.1 }; roomy = omega (arith, s.used_is, few) }

leaf_by : (page p i : ℕ) (bytes : List ℕ) (x : Content) (b : Bool) → page < 2 ^ 32 → x ≡ content_at bytes → b ≡ (is_page page p x && same_bytes (page_bytes page (stamp_at 16 bytes) x) bytes)
    → i < length (entries_of (cond b (Some x) None)) → Leafy page (entries_of (cond b (Some x) None)) bytes
leaf_by page p i bytes x false small e test h = absurd (omega arith)
leaf_by page p i bytes Free true small e test h = absurd (omega arith)
leaf_by page p i bytes (Interior first xs) true small e test h = absurd (omega arith)
leaf_by page p i bytes (Leaf entries) true small e test h = leafy page p entries bytes small e (sym test)

pub leaf_in : (bytes : List ℕ) (i : ℕ) → AreSmall bytes → i < length (entries_read bytes) → LeafIn bytes
unfolding content_in entries_read
leaf_in bytes i small h =
    let page : ℕ = u32_at 12 bytes in
    let l = leaf_by page (2 ^ 32) i bytes (content_at bytes) _ (u32_small bytes 12 small) refl refl h in
    record { same = l.same; from = l.from; roomy = l.roomy }

-- ---- one entry

pub named_entry : (e : Entry) (bytes : List ℕ) → is_entry e ≡ true → bytes ≡ e.key.name → is_name bytes ≡ true
named_entry e bytes is same =
    let p5 = and_parts (is_key e.key && nat_le e.keep max_keep && nat_le e.length max_length && are_runs e.runs) (total e.runs == sectors_for e.length) is in
    let p4 = and_parts (is_key e.key && nat_le e.keep max_keep && nat_le e.length max_length) (are_runs e.runs) p5.0 in
    let p3 = and_parts (is_key e.key && nat_le e.keep max_keep) (nat_le e.length max_length) p4.0 in
    let p2 = and_parts (is_key e.key) (nat_le e.keep max_keep) p3.0 in
    let p1 = and_parts (is_name e.key.name) (nat_le 1 e.key.version) p2.0 in
    ap is_name same ∙ p1.0

pub runs_few : (e : Entry) → is_entry e ≡ true → length e.runs ≤ 8
runs_few e is =
    let p5 = and_parts (is_key e.key && nat_le e.keep max_keep && nat_le e.length max_length && are_runs e.runs) (total e.runs == sectors_for e.length) is in
    let p4 = and_parts (is_key e.key && nat_le e.keep max_keep && nat_le e.length max_length) (are_runs e.runs) p5.0 in
    (between 1 max_runs (length e.runs) (and_parts (is_between 1 max_runs (length e.runs)) _ p4.1).0).1

-- ---- the way to entry i, past k of them

pub record Walk (b : List ℕ) (i k place : ℕ) : Type 0 where
  pub from : From (u16_at 6 b - k) place (24 + u16_at 8 b) b
  pub at : slice_get (entries_from (u16_at 6 b - k) (drop place b)) (i - k) ≡ slice_get (entries_read b) i
  pub more : i < u16_at 6 b
  pub roomy : 24 + u16_at 8 b ≤ 512

pub walk_begins : (b : List ℕ) (i : ℕ) → AreSmall b → i < length (entries_read b) → Walk b i 0 24
walk_begins b i small h =
    let l = leaf_in b i small h in
    let count : ℕ = u16_at 6 b in
    let all : count - 0 ≡ count = minus_nothing count in
    let P : ℕ → Type 0 = λ (n : ℕ). From n 24 (24 + u16_at 8 b) b in
    record {
      from = subst P (sym all) l.from;
      at = ap (λ (n : ℕ). slice_get (entries_from n (drop 24 b)) (i - 0)) all ∙ ap (slice_get (entries_from count (drop 24 b))) (minus_nothing i) ∙ ap (λ (x : List Entry). slice_get x i) (sym l.same);
      more = let len = ap length l.same ∙ count_entries count (drop 24 b) in below_count i _ count len h;
      roomy = l.roomy;
    }
  where
    minus_nothing : (n : ℕ) → n - 0 ≡ n
    minus_nothing n = omega arith

    below_count : (i n count : ℕ) → n ≡ count → i < n → i < count
    below_count i n count e h = omega arith

pub one_left : (count k i : ℕ) → i < count → k ≤ i → count - k ≡ suc (count - (k + 1))
one_left count k i more h = omega arith

next_of : (b : List ℕ) (i k place : ℕ) → length b ≡ 512 → k ≤ i → Walk b i k place → Next (u16_at 6 b - (k + 1)) place (24 + u16_at 8 b) b
next_of b i k place long h w =
    let count : ℕ = u16_at 6 b in
    let P : ℕ → Type 0 = λ (n : ℕ). From n place (24 + u16_at 8 b) b in
    next_entry (count - (k + 1)) place (24 + u16_at 8 b) b long w.roomy (subst P (one_left count k i w.more h) w.from)

pub walk_next : (b : List ℕ) (i k place : ℕ) → length b ≡ 512 → k < i → Walk b i k place → Walk b i (k + 1) (entry_end place b)
walk_next b i k place long h w =
    let count : ℕ = u16_at 6 b in
    let below : k ≤ i = weaken k i h in
    let n = next_of b i k place long below w in
    let there : entries_from (count - k) (drop place b) ≡ entry_at place b ∷ entries_from (count - (k + 1)) (drop (entry_end place b) b) =
    ap (λ (j : ℕ). entries_from j (drop place b)) (one_left count k i w.more below) ∙ n.split in
    record {
      from = n.rest;
      at =
          sym (ap (λ (x : List Entry). slice_get x (i - k)) there
          ∙ ap (slice_get (entry_at place b ∷ entries_from (count - (k + 1)) (drop (entry_end place b) b))) (one_less i k h))
          ∙ w.at;
      more = w.more;
      roomy = w.roomy;
    }
  where
    weaken : (k i : ℕ) → k < i → k ≤ i
    weaken k i h = omega arith

    one_less : (i k : ℕ) → k < i → i - k ≡ suc (i - (k + 1))
    one_less i k h = omega arith

pub walk_entry : (b : List ℕ) (i k place : ℕ) → length b ≡ 512 → k ≤ i → Walk b i k place → (is_entry (entry_at place b) ≡ true) × (entry_end place b ≤ 512) × (place + 20 + u8_at place b ≤ 512)
walk_entry b i k place long h w =
    let n = next_of b i k place long h w in
    let v : ℕ = place + 19 + u8_at place b in
    (n.entry, within (entry_end place b) _ n.within w.roomy, fields place (u8_at place b) (u8_at v b) (entry_end place b) _ refl n.within w.roomy)
  where
    within : (end limit : ℕ) → end ≤ limit → limit ≤ 512 → end ≤ 512
    within end limit h high = omega arith

    fields : (place n runs end limit : ℕ) → end ≡ place + 19 + n + 1 + 6 * runs → end ≤ limit → limit ≤ 512 → place + 20 + n ≤ 512
    fields place n runs end limit e h high = omega arith

pub walk_ends : (b : List ℕ) (i k place : ℕ) → length b ≡ 512 → k ≡ i → Walk b i k place → slice_get (entries_read b) i ≡ Some (entry_at place b)
walk_ends b i k place long e w =
    let count : ℕ = u16_at 6 b in
    let at_most : k ≤ i = omega arith in
    let n = next_of b i k place long at_most w in
    let there : entries_from (count - k) (drop place b) ≡ entry_at place b ∷ entries_from (count - (k + 1)) (drop (entry_end place b) b) =
    ap (λ (j : ℕ). entries_from j (drop place b)) (one_left count k i w.more at_most) ∙ n.split in
    let none : i - k ≡ 0 = omega arith in
    sym w.at ∙ ap (slice_get (entries_from (count - k) (drop place b))) none ∙ ap (λ (x : List Entry). slice_get x 0) there
