-- What a mount finds, of an image as it was seen.
use Rattle.std.proofs.Common.{◌≡◌, ◌≢◌, inl, inr, ⊎_elim, ℕ, ◌<◌, ◌≤◌, Bool, List, length, set, Option, Some, None, refl, sym, ap, subst, ◌∙◌, arith}
use Rattle.std.specs.Prelude.{IsTrue, IsSome, IfSome}
use Rattle.std.proofs.lemmas.List.{length-set, get_or-set_same, get_or-set_other}
use Rattle.volume_layout.specs.declared.layout.Layout.{Layout}
use Rattle.volume_layout.specs.Kinds.{longest_of}
use Rattle.fsd_formats.specs.declared.anchor.Anchor.{Anchor}
use Rattle.sector_disk.specs.declared.sector.Sector.{Sector}
use Rattle.sector_disk.specs.declared.sector.Sector.TheVariants.{Damaged}
use Rattle.sector_disk.specs.Image.{Windows, sector_at, IsWorn, open_damage}
use Rattle.sector_disk.specs.Machine.{Moment, Wears}
use Rattle.sector_disk.proofs.Wear.{worn_refl, worn_trans}
use Rattle.fsd_log.specs.Judged.{Reader}
use Rattle.fsd_log.specs.Scan.{Placed, anchor_in, anchor_on, newer_of, scan, tape}
use Rattle.fsd_files.specs.Disk.{Image, bytes_of, bytes_at, first_whole}
use Rattle.fsd_sound.specs.Anchors.{anchor_of}
use Rattle.fsd_sound.specs.Roots.{root_of}
use Rattle.fsd_sound.specs.Shown.{records_by}
use Rattle.log_thirds.specs.Append.{IsIndexed}
use Rattle.log_thirds.specs.Copies.{AreLastCopies}
use Rattle.log_thirds.specs.declared.fault.LogFault.{LogFault}
use Rattle.log_thirds.specs.declared.fault.LogFault.TheVariants as log
use Rattle.log_thirds.specs.declared.reading.ReadFault.TheVariants as read
use Rattle.log_thirds.specs.Disk.{reads}
use Rattle.log_thirds.specs.LogValue.{LogValue}
use Rattle.log_thirds.specs.Reading.{ReadWorn, SeesAnchor, SeesLastEpoch}
use Rattle.log_thirds.specs.Seen.{IsScanOf, LogOn}
use Rattle.fsd_sound.proofs.CommuteLaws.{same_or}
use Rattle.fsd_sound.specs.declared.fault.MountFault.{MountFault}
use Rattle.fsd_sound.specs.declared.fault.MountFault.TheVariants.{NotVolume}
use Rattle.mount_recover.specs.Finding.{mount_fault_of, IsBorneFound, IsNotFound, SeesRoots}
use Rattle.mount_recover.specs.Mending.{KnowsLog}
use Rattle.mount_recover.proofs.RootLaws.{each_bears, root_of_same, seen_root}

pub reads_bytes : (i : Image) → ◌≡◌ {A = Reader} (reads i) (bytes_at i)
reads_bytes i = refl

-- ---- the log

scan_knows : (l : Layout) (log : LogValue) (i : Image) → log.layout ≡ l → anchor_on (reads i) ≡ Some log.anchor → IsScanOf log i → KnowsLog l log i
scan_knows l log i same taken of =
    let records : (scan log.layout log.anchor.epoch (tape log.layout log.anchor.third (reads i)) log.anchor.first).records ≡ records_by log.layout i log.anchor =
    ap (λ (r : Reader). (scan log.layout log.anchor.epoch (tape log.layout log.anchor.third r) log.anchor.first).records) (reads_bytes i) in
    record {
      taken = ap anchor_on (sym (reads_bytes i)) ∙ taken;
      slots = subst (λ (k : Layout). IsIndexed log (records_by k i log.anchor)) same (subst (IsIndexed log) records of.indexed);
      last = subst (λ (k : Layout). AreLastCopies k log.anchor.epoch log.anchor.third (records_by k i log.anchor) log.copies) same
          (subst (λ (rs : List Placed). AreLastCopies log.layout log.anchor.epoch log.anchor.third rs log.copies) records of.last);
    }

-- ---- one sector

record SeesAt (may : ℕ → Bool) (i : Image) (s : ℕ) (bytes : Option (List ℕ)) : Type 0 where
  image : Image
  worn : IsWorn may i image
  is : bytes_at image s ≡ bytes
  rest : (p : ℕ) → p ≢ s → sector_at image p ≡ sector_at i p

see_one : (at : Moment) (i : Image) (s : ℕ) (bytes : Option (List ℕ)) → s < length i → sector_at i s ≡ sector_at at.image s → ReadWorn at s bytes → SeesAt (open_damage at.windows) i s bytes
see_one at i s bytes room same (inl is) = record {
  image = i;
  worn = worn_refl (open_damage at.windows) i;
  is = ap bytes_of same ∙ sym is;
  rest = λ p other. refl;
}
see_one at i s bytes room same (inr hurt) = record {
  image = set i s Damaged;
  worn = record {
    size = length-set i s Damaged;
    each = λ p. ⊎_elim
        (λ here. inr (subst (λ (n : ℕ). IsTrue (open_damage at.windows n)) (sym here) hurt.0, ap (sector_at (set i s Damaged)) here ∙ get_or-set_same i s Damaged Damaged room))
        (λ other. inl (get_or-set_other i s p Damaged Damaged other)) (same_or p s);
  };
  is = ap bytes_of (get_or-set_same i s Damaged Damaged room) ∙ sym hurt.1;
  rest = λ p other. get_or-set_other i s p Damaged Damaged other;
}

-- the anchors that were read are those of an image
record SeesAnchors (may : ℕ → Bool) (i : Image) (o : Option Anchor) : Type 0 where
  image : Image
  worn : IsWorn may i image
  is : anchor_of image ≡ o
  front : (s : ℕ) → s < 8 → sector_at image s ≡ sector_at i s

see_anchors : (at : Moment) (i : Image) (o : Option Anchor) → 12 < length i → sector_at i 8 ≡ sector_at at.image 8 → sector_at i 12 ≡ sector_at at.image 12 → SeesAnchor at o → SeesAnchors (open_damage at.windows) i o
see_anchors at i o room same same_copy sees =
    let one = see_one at i 8 sees.sees_first.bytes (omega (arith, room)) same sees.sees_first.read in
    let two = see_one at one.image 12 sees.sees_copy.bytes (omega (arith, room, one.worn.size)) (one.rest 12 (λ e. omega arith) ∙ same_copy) sees.sees_copy.read in
    let first : anchor_in (bytes_at two.image 8) ≡ sees.first = ap (λ (x : Sector). anchor_in (bytes_of x)) (two.rest 8 (λ e. omega arith)) ∙ ap anchor_in one.is ∙ sym sees.sees_first.copy in
    let copy : anchor_in (bytes_at two.image 12) ≡ sees.copy = ap anchor_in two.is ∙ sym sees.sees_copy.copy in
    record {
      image = two.image;
      worn = worn_trans (open_damage at.windows) i one.image two.image one.worn two.worn;
      is = (λ x. newer_of (first x) (copy x)) ∙ sym sees.newer;
      front = λ s low. two.rest s (λ e. omega (arith, e, low)) ∙ one.rest s (λ e. omega (arith, e, low));
    }

-- ---- what is found

-- neither root counts
pub none_so : (sectors : ℕ) (first second : Option Layout) (old mid : Moment) → SeesRoots sectors first second old mid → first_whole first second ≡ None → IsNotFound sectors NotVolume old
none_so sectors first second old mid roots none = record { seen = roots.seen; from = roots.from; why = seen_root sectors first second old mid roots None none }

module _ (sectors : ℕ) (first second : Option Layout) (old mid : Moment) (wears : Wears old mid) (roots : SeesRoots sectors first second old mid) (l : Layout) (taken : first_whole first second ≡ Some l) where
  then_seen : (j : Image) → IsWorn (open_damage mid.windows) roots.seen j → IsWorn (open_damage old.windows) old.image j
  then_seen j worn = worn_trans (open_damage old.windows) old.image roots.seen j roots.from (subst (λ (w : Windows). IsWorn (open_damage w) roots.seen j) wears.windows worn)

  pub seen_now : IsWorn (open_damage mid.windows) roots.seen mid.image
  seen_now = subst (λ (w : Windows). IsWorn (open_damage w) roots.seen mid.image) (sym wears.windows) roots.to

  root_then : (j : Image) → ((s : ℕ) → s < 8 → sector_at j s ≡ sector_at roots.seen s) → root_of sectors j ≡ Some l
  root_then j head = root_of_same sectors roots.seen j (head 0 (omega arith)) (head 4 (omega arith)) ∙ seen_root sectors first second old mid roots (Some l) taken

  pub found_so : (longest : ℕ) → IfSome first (λ k. longest ≤ longest_of k.kind) → IfSome second (λ k. longest ≤ longest_of k.kind)
      → (log : LogValue) (new : Moment) → log.layout ≡ l → LogOn log (open_damage mid.windows) roots.seen new.image → IsBorneFound sectors l log longest old new
  found_so longest one two log new same on = record {
    is = record {
      seen = on.image;
      from = then_seen on.image on.from;
      to = subst (λ (w : Windows). IsWorn (open_damage w) on.image new.image) wears.windows on.to;
      root = root_then on.image on.head;
      knows = scan_knows l log on.image same on.taken on.scanned;
    };
    bears = each_bears sectors first second old mid roots longest one two on.image (on.head 0 (omega arith)) (on.head 4 (omega arith));
  }

  pub not_found_so : (fault : LogFault) (told : MountFault) → 12 < length mid.image → told ≡ mount_fault_of fault → (fault ≡ log.NoAnchor → SeesAnchor mid None) → (fault ≡ log.WornOut → SeesLastEpoch mid) → IsNotFound sectors told old
  not_found_so fault told room is none last = subst (λ (f : MountFault). IsNotFound sectors f old) (sym is) (by_fault fault none last)
    where
      seen_anchors : (o : Option Anchor) → SeesAnchor mid o → SeesAnchors (open_damage mid.windows) roots.seen o
      seen_anchors o = see_anchors mid roots.seen o (omega (arith, room, roots.to.size)) (roots.behind 8 (omega arith)) (roots.behind 12 (omega arith))

      by_fault : (f : LogFault) → (f ≡ log.NoAnchor → SeesAnchor mid None) → (f ≡ log.WornOut → SeesLastEpoch mid) → IsNotFound sectors (mount_fault_of f) old
      by_fault (log.Read (read.Device s)) none last = record { seen = mid.image; from = wears.image; why = tt }
      by_fault (log.Read read.Memory) none last = record { seen = mid.image; from = wears.image; why = tt }
      by_fault log.NoAnchor none last =
          let sees = seen_anchors None (none refl) in
          record {
            seen = sees.image;
            from = then_seen sees.image sees.worn;
            why = (subst (λ (r : Option Layout). IsSome r) (sym (root_then sees.image sees.front)) refl, sees.is);
          }
      by_fault log.WornOut none last =
          let end = last refl in
          let sees = seen_anchors (Some end.anchor) end.sees in
          record {
            seen = sees.image;
            from = then_seen sees.image sees.worn;
            why = record {
              layout = l;
              anchor = end.anchor;
              found = record { root = root_then sees.image sees.front; anchor = sees.is };
              epoch = end.last;
            };
          }
