-- What a format leaves: an empty volume.
use Rattle.std.specs.Prelude.{◌≡◌, ℕ, zero, suc, ◌<◌, ◌≤◌, List, [], ◌∷◌, length, Ok, ◌==◌, IsFalse}
use Rattle.std.specs.List.{list_any}
use Rattle.fsd_bytes.specs.Bytes.{sector}
use Rattle.volume_layout.specs.declared.layout.Layout.{Layout}
use Rattle.volume_layout.specs.Layout.{home_a, home_b, InLog, IsPlanned}
use Rattle.fsd_formats.specs.Anchors.{anchor_bytes}
use Rattle.volume_layout.specs.Root.{root_bytes}
use Rattle.fsd_formats.specs.declared.anchor.Anchor.{Anchor}
use Rattle.fsd_formats.specs.Record.{Stamp}
use Rattle.fsd_formats.specs.NamePage.{Content, Free, Leaf, page_bytes}
use Rattle.sector_disk.specs.declared.sector.Sector.TheVariants.{Whole, Damaged}
use Rattle.fsd_files.specs.Disk.{Image}
use Rattle.sector_disk.specs.declared.sector.WeakRun.{WeakRun}
use Rattle.sector_disk.specs.Image.{sector_at, in_weak_run, IsWorn}

-- page 0 is an empty leaf, the others are free
abbrev pub format_content : ℕ → Content
format_content zero = Leaf []
format_content (suc page) = Free

abbrev pub format_stamp : Stamp
format_stamp = record { epoch = 1; number = 0 }

abbrev pub format_page : ℕ → List ℕ
format_page page = page_bytes page format_stamp (format_content page)

abbrev pub format_anchor : Anchor
format_anchor = record { epoch = 1; third = 0; first = 1 }

-- Roots, anchors and name pages stand twice, and the log has never been written.
pub record IsFormatted (l : Layout) (i : Image) : Type 0 where
  pub planned : IsPlanned l
  pub long : l.sectors ≤ length i
  pub root : sector_at i 0 ≡ Whole (root_bytes l)
  pub root_copy : sector_at i 4 ≡ Whole (root_bytes l)
  pub anchor : sector_at i 8 ≡ Whole (anchor_bytes format_anchor)
  pub anchor_copy : sector_at i 12 ≡ Whole (anchor_bytes format_anchor)
  pub homes : (page : ℕ) → page < l.pages → sector_at i (home_a l page) ≡ Whole (format_page page)
  pub copies : (page : ℕ) → page < l.pages → sector_at i (home_b l page) ≡ Whole (format_page page)
  pub log : (s : ℕ) → InLog l s → sector_at i s ≡ Damaged
  pub blanks : (s : ℕ) → s < 16 → IsFalse (list_any (λ t. t == s) (0 ∷ 4 ∷ 8 ∷ 12 ∷ [])) → sector_at i s ≡ Whole (sector [])

-- The same, as the format's own window may have worn it: next is the run that was named and settled.
pub record IsFormattedIn (l : Layout) (next : WeakRun) (i : Image) : Type 0 where
  pub written : Image
  pub formatted : IsFormatted l written
  pub worn : IsWorn (in_weak_run next) written i
