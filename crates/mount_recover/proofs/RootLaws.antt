-- Both roots of an image, as a mount reads them, and the one that it takes.
use Rattle.std.proofs.Common.{◌≡◌, ◌⊎◌, inl, inr, ⊎_elim, ℕ, ◌<◌, ◌≤◌, Bool, length, set, Option, Some, None, refl, sym, ap, subst, ◌∙◌, arith}
use Rattle.std.specs.Prelude.{IfSome, option_and_then}
use Rattle.std.proofs.lemmas.Bool.{cases_lt}
use Rattle.std.proofs.lemmas.List.{length-set, get_or_past, get_or-set_same, get_or-set_other}
use Rattle.volume_layout.specs.declared.layout.Layout.{Layout}
use Rattle.volume_layout.specs.Kinds.{longest_of}
use Rattle.volume_layout.specs.Root.{read_root}
use Rattle.sector_disk.specs.declared.sector.Sector.{Sector}
use Rattle.sector_disk.specs.declared.sector.Sector.TheVariants.{Damaged}
use Rattle.sector_disk.specs.declared.sector.WeakRun.{WeakRun}
use Rattle.sector_disk.specs.Image.{Windows, sector_at, IsWorn, open_damage}
use Rattle.sector_disk.specs.Machine.{Moment, Wears}
use Rattle.sector_disk.proofs.Wear.{worn_trans}
use Rattle.fsd_files.specs.Disk.{Image, SectorWorn, bytes_of, first_whole}
use Rattle.fsd_sound.specs.Mounting.{EachBears, HasRoot}
use Rattle.fsd_sound.specs.Roots.{counted_root, root_at, root_of}
use Rattle.fsd_sound.proofs.CommuteLaws.{same_or}
use Rattle.fsd_sound.proofs.HomedLaws.{if_more}
use Rattle.mount_recover.specs.Finding.{SeesRoots}

-- ---- the one that is taken

-- what holds of each of two holds of the one that is taken
pub taken_so : (P : Layout → Type 0) (first second : Option Layout) (l : Layout) → first_whole first second ≡ Some l → IfSome first P → IfSome second P → P l
taken_so P None second l is p q = subst (λ (o : Option Layout). IfSome o P) is q
taken_so P (Some k) second l is p q = subst (λ (o : Option Layout). IfSome o P) is p

taken_one : (first second : Option Layout) (l : Layout) → first_whole first second ≡ Some l → (first ≡ Some l) ⊎ (second ≡ Some l)
taken_one None second l is = inr is
taken_one (Some k) second l is = inl is

-- ---- sectors

root_at_same : (sectors : ℕ) (i j : Image) (s : ℕ) → sector_at j s ≡ sector_at i s → root_at sectors j s ≡ root_at sectors i s
root_at_same sectors i j s same = ap (λ (x : Sector). option_and_then (counted_root sectors) (option_and_then read_root (bytes_of x))) same

-- the roots are the first sectors
pub root_of_same : (sectors : ℕ) (i j : Image) → sector_at j 0 ≡ sector_at i 0 → sector_at j 4 ≡ sector_at i 4 → root_of sectors j ≡ root_of sectors i
root_of_same sectors i j first second = λ x. first_whole (root_at_same sectors i j 0 first x) (root_at_same sectors i j 4 second x)

-- a root that stands was there before
root_before : (sectors : ℕ) (may : ℕ → Bool) (i j : Image) (s : ℕ) (l : Layout) → SectorWorn (may s) (sector_at i s) (sector_at j s) → root_at sectors j s ≡ Some l → root_at sectors i s ≡ Some l
root_before sectors may i j s l (inl same) root = sym (root_at_same sectors i j s same) ∙ root
root_before sectors may i j s l (inr hurt) root =
    let none : root_at sectors j s ≡ None = ap (λ (x : Sector). option_and_then (counted_root sectors) (option_and_then read_root (bytes_of x))) hurt.1 in
    absurd (cc (none, root))

-- ---- two reads

-- the first sector is as it was when it was read, the others are as they are now
record ReadsFirst (may : ℕ → Bool) (old one two : Image) : Type 0 where
  image : Image
  from : IsWorn may old image
  to : IsWorn may image two
  first : sector_at image 0 ≡ sector_at one 0
  behind : (s : ℕ) → 1 ≤ s → sector_at image s ≡ sector_at two s

reads_first : (may : ℕ → Bool) (old one two : Image) → IsWorn may old one → IsWorn may one two → ReadsFirst may old one two
reads_first may old one two worn more = ⊎_elim inside outside (cases_lt 0 (length two))
  where
    both : IsWorn may old two
    both = worn_trans may old one two worn more

    inside : 0 < length two → ReadsFirst may old one two
    inside room =
        let here : sector_at (set two 0 (sector_at one 0)) 0 ≡ sector_at one 0 = get_or-set_same two 0 (sector_at one 0) Damaged room in
        let there : (s : ℕ) → 1 ≤ s → sector_at (set two 0 (sector_at one 0)) s ≡ sector_at two s = λ s from. get_or-set_other two 0 s (sector_at one 0) Damaged (λ e. omega (arith, e, from)) in
        record {
          image = set two 0 (sector_at one 0);
          from = record {
            size = length-set two 0 (sector_at one 0) ∙ both.size;
            each = λ s. ⊎_elim
                (λ is. subst (λ (p : ℕ). SectorWorn (may p) (sector_at old p) (sector_at (set two 0 (sector_at one 0)) p)) (sym is) (subst (SectorWorn (may 0) (sector_at old 0)) (sym here) (worn.each 0)))
                (λ other. subst (SectorWorn (may s) (sector_at old s)) (sym (there s (omega (arith, other)))) (both.each s)) (same_or s 0);
          };
          to = record {
            size = sym (length-set two 0 (sector_at one 0));
            each = λ s. ⊎_elim
                (λ is. subst (λ (p : ℕ). SectorWorn (may p) (sector_at (set two 0 (sector_at one 0)) p) (sector_at two p)) (sym is) (subst (λ (x : Sector). SectorWorn (may 0) x (sector_at two 0)) (sym here) (more.each 0)))
                (λ other. inl (sym (there s (omega (arith, other))))) (same_or s 0);
          };
          first = here;
          behind = there;
        }

    outside : length two ≤ 0 → ReadsFirst may old one two
    outside none = record {
      image = two;
      from = both;
      to = record { size = refl; each = λ s. inl refl };
      first = get_or_past two 0 Damaged none ∙ sym (get_or_past one 0 Damaged (omega (arith, none, more.size)));
      behind = λ s from. refl;
    }

pub sees_roots : (sectors : ℕ) (first second : Option Layout) (old one two : Moment) → Wears old one → Wears one two → first ≡ root_at sectors one.image 0 → second ≡ root_at sectors two.image 4 → SeesRoots sectors first second old two
sees_roots sectors first second old one two wears more one_is two_is =
    let is = reads_first (open_damage old.windows) old.image one.image two.image wears.image (subst (λ (w : Windows). IsWorn (open_damage w) one.image two.image) wears.windows more.image) in
    record {
      seen = is.image;
      from = is.from;
      to = is.to;
      behind = is.behind;
      at_first = root_at_same sectors one.image is.image 0 is.first ∙ sym one_is;
      at_second = root_at_same sectors two.image is.image 4 (is.behind 4 (omega arith)) ∙ sym two_is;
    }

-- ---- of roots that were seen

module _ (sectors : ℕ) (first second : Option Layout) (old mid : Moment) (roots : SeesRoots sectors first second old mid) where
  pub seen_root : (o : Option Layout) → first_whole first second ≡ o → root_of sectors roots.seen ≡ o
  seen_root o is = (λ x. first_whole (roots.at_first x) (roots.at_second x)) ∙ is

  -- each root of an image with the same roots bears what both bear
  pub each_bears : (longest : ℕ) → IfSome first (λ l. longest ≤ longest_of l.kind) → IfSome second (λ l. longest ≤ longest_of l.kind)
      → (i : Image) → sector_at i 0 ≡ sector_at roots.seen 0 → sector_at i 4 ≡ sector_at roots.seen 4 → (l : Layout) → HasRoot sectors i l → longest ≤ longest_of l.kind
  each_bears longest one two i same same_copy l (inl is) =
      subst (λ (o : Option Layout). IfSome o (λ k. longest ≤ longest_of k.kind)) (sym roots.at_first ∙ sym (root_at_same sectors roots.seen i 0 same) ∙ is) one
  each_bears longest one two i same same_copy l (inr is) =
      subst (λ (o : Option Layout). IfSome o (λ k. longest ≤ longest_of k.kind)) (sym roots.at_second ∙ sym (root_at_same sectors roots.seen i 4 same_copy) ∙ is) two

  -- the root that is taken is one of the image before
  pub taken_before : (l : Layout) → first_whole first second ≡ Some l → HasRoot sectors old.image l
  taken_before l is = ⊎_elim
      (λ one. inl (root_before sectors (open_damage old.windows) old.image roots.seen 0 l (roots.from.each 0) (roots.at_first ∙ one)))
      (λ two. inr (root_before sectors (open_damage old.windows) old.image roots.seen 4 l (roots.from.each 4) (roots.at_second ∙ two))) (taken_one first second l is)

-- ---- a run of so many sectors

pub run_bears : (sectors : ℕ) (i : Image) (longest : ℕ) (next present : Option WeakRun) → next ≡ present → IfSome next (λ run. run.count ≤ longest) → ((l : Layout) → HasRoot sectors i l → longest ≤ longest_of l.kind) → IfSome present (EachBears sectors i)
run_bears sectors i longest next present same short bears = if_more present (λ run. run.count ≤ longest) (EachBears sectors i) (λ run most l has. omega (arith, most, bears l has)) (subst (λ (o : Option WeakRun). IfSome o (λ run. run.count ≤ longest)) same short)
