use Rattle.std.proofs.Common.{◌≡◌, ◌≤◌, ℕ, Bool, true, false, List, Option, Some, None, refl, sym, arith}
use Rattle.std.specs.Prelude.{nat_le, option_and_then}
use Rattle.std.proofs.lemmas.Bool.{cond-false, leb-true}
use Rattle.volume_layout.specs.declared.layout.Layout.{Layout}
use Rattle.volume_layout.specs.Root.{read_root}
use Rattle.volume_layout.proofs.SizeLaws.{root_large}
use Rattle.fsd_files.specs.Disk.{bytes_at}
use Rattle.fsd_sound.specs.Roots.{counted_root}
use Rattle.mount_recover.proofs.root.root_at.Goals as goal

-- no root counts where there are so few sectors
none_counts : (sectors : ℕ) → sectors ≤ 4 → (o : Option Layout) → ((l : Layout) → o ≡ Some l → 88 ≤ l.sectors) → option_and_then (counted_root sectors) o ≡ None
none_counts sectors few None large = refl
none_counts sectors few (Some l) large = cond-false (nat_le l.sectors sectors) (Some l) None (by_test (nat_le l.sectors sectors) refl)
  where
    by_test : (b : Bool) → nat_le l.sectors sectors ≡ b → b ≡ false
    by_test false is = refl
    by_test true is = absurd (let le : l.sectors ≤ sectors = leb-true l.sectors sectors is in omega (arith, le, few, large l refl))

none_read : (sectors : ℕ) → sectors ≤ 4 → (o : Option (List ℕ)) → option_and_then (counted_root sectors) (option_and_then read_root o) ≡ None
none_read sectors few None = refl
none_read sectors few (Some bytes) = none_counts sectors few (read_root bytes) (λ l e. root_large bytes l e)

pub returns-then-place-sectors-clause-found : goal.returns-then-place-sectors-clause-found
returns-then-place-sectors-clause-found g c h =
    sym (none_read c.args.sectors (omega (arith, c.if-place-sectors.true, c.requires.place)) (bytes_at (g.M.Machine.now c.args.m.now).image c.args.place))
