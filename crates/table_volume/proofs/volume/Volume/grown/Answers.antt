use Rattle.std.proofs.Common.{◌≡◌, ◌≤◌, ◌<◌, ◌∷◌, [], ℕ, sym, ap, subst, ◌∙◌, arith}
use Rattle.volume_layout.specs.declared.layout.Layout.{Layout}
use Rattle.volume_layout.specs.Layout.{most_of, with_sectors}
use Rattle.sector_set.specs.Area.{AreOut, together}
use Rattle.shadow_frees.specs.Waits.{run_between}
use Rattle.log_thirds.specs.Append.{of_layout}
use Rattle.volume_laws.specs.Volume.{IsWholeVolume, VolumeValue}
use Rattle.volume_laws.proofs.GrowthLaws.{more_is_out, whole_grown}
use Rattle.table_volume.specs.declared.volume.Volume.TheInside.{Inside}
use Rattle.table_volume.proofs.volume.Volume.grown.Goals as goal

-- the volume of these fields
abbrev value : Inside → VolumeValue
value s = record { layout = s.layout; map = s.map; shadow = s.shadow; log = s.log; cache = s.table.cache; free_pages = s.table.free_pages; serial = s.serial; versions = s.versions; down = s.down }

-- it gets more sectors, and no more than it may have
larger : (v : VolumeValue) (s : Inside) (n : ℕ) → value s ≡ v → v.layout.sectors < n → s.layout.sectors < n
larger v s n same less = omega (arith, less, ap (λ (x : VolumeValue). x.layout.sectors) same)

within : (v : VolumeValue) (s : Inside) (n : ℕ) → value s ≡ v → n ≤ most_of v.layout → n ≤ most_of s.layout
within v s n same le = subst (λ (x : VolumeValue). n ≤ most_of x.layout) (sym same) le

pub release_between-requires-clause-out : goal.release_between-requires-clause-out
release_between-requires-clause-out c =
    let v = c.args.self.now in let s = c.self.inside in let n = c.args.l.sectors in
    subst (λ (p : ℕ × ℕ). AreOut c.self.inside.map (run_between p ∷ [])) (λ i. (sym c.sectors-had.ensures.value i, sym c.sectors.ensures.value i))
    (more_is_out (value s) n (larger v s n c.self.view_is c.requires.more) (within v s n c.self.view_is c.requires.most) c.self.invariant)

pub invariant_of-self : goal.invariant_of-self
invariant_of-self c =
    let v = c.args.self.now in let s = c.self.inside in let n = c.args.l.sectors in
    let layout : c.args.l ≡ with_sectors n s.layout = c.requires.sized.form ∙ ap (λ (x : VolumeValue). with_sectors n x.layout) (sym c.self.view_is) in
    let map = c.release_between.ensures ∙ (λ i. together s.map (run_between (c.sectors-had.ensures.value i, c.sectors.ensures.value i) ∷ [])) in
    let log = c.set_layout.ensures ∙ ap (λ (l : Layout). of_layout l s.log) layout in
    subst IsWholeVolume (λ i. record (value s) { layout = sym layout i; map = sym map i; log = sym log i })
    (whole_grown (value s) n (larger v s n c.self.view_is c.requires.more) (within v s n c.self.view_is c.requires.most) c.self.invariant)
