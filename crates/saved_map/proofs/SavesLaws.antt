-- Sectors of a map that are written one after another.
use Rattle.std.proofs.Common.{◌≡◌, ℕ, zero, suc, ◌+◌, ◌/◌, ◌<◌, ◌≤◌, List, length, sym, ap, subst, ◌∙◌, arith, add-one}
use Rattle.volume_layout.specs.declared.layout.Layout.{Layout}
use Rattle.volume_layout.specs.Layout.{map_sectors, map_start}
use Rattle.sector_disk.specs.declared.sector.Sector.{Sector}
use Rattle.sector_disk.specs.Image.{stand, with_sector}
use Rattle.sector_disk.specs.Machine.{Holds, Ledger, Moment, Tears, wrote}
use Rattle.sector_disk.proofs.Calm.{stand_one}
use Rattle.sector_disk.proofs.Holding.{holds_now, holds_on, holds_tears}
use Rattle.saved_map.specs.Saving.{SavesIn, with_map}

module _ (l : Layout) (sector : ℕ → List ℕ) (old mid left : Moment) (k place : ℕ) (bytes : List ℕ) (at : place ≡ map_start l + k) (is : bytes ≡ sector k) (size : length bytes ≡ 512) (holds : Holds old (with_map l sector old.image k) mid) where
  one : stand (with_map l sector old.image k) place bytes 1 ≡ with_map l sector old.image (k + 1)
  one =
      ap (λ (p : ℕ). stand (with_map l sector old.image k) p bytes 1) at ∙ stand_one (with_map l sector old.image k) (map_start l + k) bytes size
      ∙ ap (λ (b : List ℕ). with_sector (with_map l sector old.image k) (map_start l + k) b) is
      ∙ sym (ap (λ (n : ℕ). with_map l sector old.image n) (add-one k))

  whole : length bytes / 512 ≡ 1
  whole = ap (λ (n : ℕ). n / 512) size

  pub saved_next : Holds mid (stand mid.image place bytes (length bytes / 512)) left → Holds old (with_map l sector old.image (k + 1)) left
  saved_next done =
      let after = holds_on old mid left (with_map l sector old.image k) place bytes 1 holds (subst (λ (n : ℕ). Holds mid (stand mid.image place bytes n) left) whole done) in
      subst (λ (i : List Sector). Holds old i left) one after

  by_stood : (stood : ℕ) → stood ≤ 1 → k < map_sectors l → Holds old (stand (with_map l sector old.image k) place bytes stood) left → SavesIn l sector old left
  by_stood zero some less h = record { stood = k; within = omega (arith, less); holds = h }
  by_stood (suc zero) some less h = record { stood = k + 1; within = omega (arith, less); holds = subst (λ (i : List Sector). Holds old i left) one h }
  by_stood (suc (suc n)) some less h = absurd (omega (arith, some))

  pub saves_next : k < map_sectors l → Tears place bytes mid left → SavesIn l sector old left
  saves_next less torn =
      let some = holds_tears old (with_map l sector old.image k) mid left holds place bytes torn in
      by_stood some.stood (subst (λ (n : ℕ). some.stood ≤ n) whole some.some) less some.holds

-- one sector more is counted
pub wrote_next : (before mid now : Ledger) (k n : ℕ) → n ≡ 1 → mid ≡ wrote before k → now ≡ wrote mid n → now ≡ wrote before (k + 1)
wrote_next before mid now k n one so_far next =
    let more : before.written + k + 1 ≡ before.written + (k + 1) = omega arith in
    next ∙ ap (λ (count : ℕ). wrote mid count) one ∙ ap (λ (ledger : Ledger). wrote ledger 1) so_far
    ∙ ap (λ (count : ℕ). record { input = before.input; attaches = before.attaches; written = count; syncs = before.syncs }) more

pub saves_none : (l : Layout) (sector : ℕ → List ℕ) (old : Moment) → SavesIn l sector old old
saves_none l sector old = record { stood = 0; within = omega arith; holds = holds_now old }
