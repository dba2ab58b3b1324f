use Rattle.std.proofs.Common.{◌≡◌, ◌^◌, ◌<◌, ◌≤◌, ℕ, Bool, List, length, rules, sym, ap, subst, ◌∙◌, arith}
use Rattle.std.specs.Prelude.{IsTrue}
use Rattle.std.proofs.lemmas.Result.{err_from_is_err_and, on_ok_weaker}
use Rattle.volume_layout.specs.declared.layout.Layout.{Layout}
use Rattle.volume_layout.specs.Layout.{map_sectors}
use Rattle.sector_disk.specs.Machine.{Holds, Moment, wrote}
use Rattle.sector_disk.specs.Written.{WroteMost}
use Rattle.sector_disk.proofs.CallLaws.{writes_more, writes_then}
use Rattle.fsd_sound.specs.Writes.{in_map}
use Rattle.log_thirds.specs.Anchoring.{ClosesIn, with_closed}
use Rattle.saved_map.specs.Saving.{SavesIn, saved, with_map}
use Rattle.volume_laws.specs.Volume.{IsWholeVolume, VolumeValue}
use Rattle.volume_laws.proofs.ForcedLaws.{from_is, to_is}
use Rattle.volume_laws.proofs.MapLaws.{anchor_told, counted_map, has_saved, leaves_anchors, leaves_map, map_place, map_stands, saved_closes, sector, touches_saved}
use Rattle.volume_laws.proofs.SavingLaws.{touches_map}
use Rattle.table_volume.specs.declared.volume.Volume.TheInside.{Inside}
use Rattle.table_volume.proofs.volume.Volume.save.Goals as goal

-- the volume of these fields
abbrev value : Inside → VolumeValue
value s = record { layout = s.layout; map = s.map; shadow = s.shadow; log = s.log; cache = s.table.cache; free_pages = s.table.free_pages; serial = s.serial; versions = s.versions; down = s.down }

-- the sectors of the map that it saves are those of the volume
module _ (s : Inside) (w : VolumeValue) (is : value s ≡ w) (pages : List Bool) (epoch : ℕ) (pages_are : pages ≡ s.table.free_pages) (epoch_is : epoch ≡ s.log.anchor.epoch) (old left : Moment) where
  same_sector : saved s.layout s.map pages epoch s.versions ≡ sector (value s)
  same_sector = λ i. saved s.layout s.map (pages_are i) (epoch_is i) s.versions

  as_saves : SavesIn s.layout (saved s.layout s.map pages epoch s.versions) old left → SavesIn w.layout (sector w) old left
  as_saves saves = subst (λ (x : VolumeValue). SavesIn x.layout (sector x) old left) is (subst (λ (f : ℕ → List ℕ). SavesIn s.layout f old left) same_sector saves)

  as_holds : Holds old (with_map s.layout (saved s.layout s.map pages epoch s.versions) old.image (map_sectors s.layout)) left → Holds old (with_map w.layout (sector w) old.image (map_sectors w.layout)) left
  as_holds holds =
      subst (λ (x : VolumeValue). Holds old (with_map x.layout (sector x) old.image (map_sectors x.layout)) left) is
      (subst (λ (f : ℕ → List ℕ). Holds old (with_map s.layout f old.image (map_sectors s.layout)) left) same_sector holds)

pub save_map-requires-clause-of : goal.save_map-requires-clause-of
save_map-requires-clause-of g c =
    let v = value c.self.inside in
    record { from = from_is v c.self.invariant; to = to_is v c.self.invariant; pages_are = ap length c.as_slice-free_pages.ensures ∙ c.self.invariant.pages }

pub save_map-requires-clause-planned : goal.save_map-requires-clause-planned
save_map-requires-clause-planned g c = c.self.invariant.planned

pub save_map-requires-clause-room : goal.save_map-requires-clause-room
save_map-requires-clause-room g c = subst (λ (x : VolumeValue). x.layout.sectors ≤ (g.M.Machine.report c.args.m.now).sectors) (sym c.self.view_is) c.requires.room

pub close_anchor-requires : goal.close_anchor-requires
close_anchor-requires g c =
    let room : c.self.inside.layout.sectors ≤ (g.M.Machine.report c.args.m.now).sectors = subst (λ (x : VolumeValue). x.layout.sectors ≤ (g.M.Machine.report c.args.m.now).sectors) (sym c.self.view_is) c.requires.room in
    let same = ap (λ (l : Layout). l.sectors) c.self.invariant.log in
    let kept = c.in_ok-save_map.ensures.writes.uses.sectors in
    omega (arith, room, same, kept)

-- ---- the map is not written

pub returns-in_err-save_map : goal.returns-in_err-save_map
returns-in_err-save_map g c =
    let M = g.M.Machine in
    let w = c.args.self.now in
    let whole = subst IsWholeVolume c.self.view_is c.self.invariant in
    let old = M.now c.args.m.now in
    let new = M.now c.save_map.new.m in
    let failed = c.in_err-save_map.ensures in
    let p = err_from_is_err_and c.from_residual.result c.from_residual.ensures.1 in
    let saves = λ (left : Moment). as_saves c.self.inside w c.self.view_is c.as_slice-free_pages.result.now c.epoch.result c.as_slice-free_pages.ensures c.epoch.ensures old left in
    rw (p.1, p.2) (record {
      disk = writes_more failed.writes (λ h left so. leaves_map w whole old (g.met.M.Machine.short c.args.m.now (failed.writes.trust.honest h)) left (saves left so));
      rest = λ h. touches_map w (sector w) old new (saves new (failed.writes.exit h));
      place = map_place w.layout c.in_err-save_map.field-0.0.place (subst (λ (x : VolumeValue). IsTrue (in_map x.layout c.in_err-save_map.field-0.0.place)) c.self.view_is failed.place);
      counted = λ tells.
          let most = subst (λ (x : VolumeValue). WroteMost (map_sectors x.layout) (M.ledger c.args.m.now) (M.ledger c.save_map.new.m)) c.self.view_is (failed.most tells) in
          (most.no_fewer, omega (arith, most.no_more));
      saved = tt;
      closes = tt;
    })

-- ---- its anchors

pub returns : goal.returns
returns g c =
    let M = g.M.Machine in
    let w = c.args.self.now in
    let whole = subst IsWholeVolume c.self.view_is c.self.invariant in
    let old = M.now c.args.m.now in
    let mid = M.now c.save_map.new.m in
    let new = M.now c.close_anchor.new.m in
    let r = c.close_anchor.result in
    let map = c.in_ok-save_map.ensures in
    let anchors = c.close_anchor.ensures in
    let back = anchors.writes.trust.honest in
    let saves = λ (left : Moment). as_saves c.self.inside w c.self.view_is c.as_slice-free_pages.result.now c.epoch.result c.as_slice-free_pages.ensures c.epoch.ensures old left in
    let stood = λ (h : M.honest c.close_anchor.new.m). as_holds c.self.inside w c.self.view_is c.as_slice-free_pages.result.now c.epoch.result c.as_slice-free_pages.ensures c.epoch.ensures old mid (map.done (back h)) in
    let closing = λ (left : Moment) (so : ClosesIn c.self.inside.log.anchor mid left). subst (λ (x : VolumeValue). ClosesIn x.log.anchor mid left) c.self.view_is so in
    let closed = λ (so : Holds mid (with_closed c.self.inside.log.anchor mid.image 1 1) new). subst (λ (x : VolumeValue). Holds mid (with_closed x.log.anchor mid.image 1 1) new) c.self.view_is so in
    let short = λ (h : M.honest c.close_anchor.new.m). g.met.M.Machine.short c.args.m.now (map.writes.trust.honest (back h)) in
    let versions : c.self.inside.versions < 2 ^ 32 = search rules in
    let small = subst (λ (x : VolumeValue). x.versions < 2 ^ 32) c.self.view_is versions in
    let sectors = map.writes.uses.sectors in
    let room = c.requires.room in
    record {
      disk = writes_then map.writes anchors.writes
          (λ h left so. leaves_map w whole old (g.met.M.Machine.short c.args.m.now (map.writes.trust.honest h)) left (saves left so))
          (λ h left so k stands none. leaves_anchors w whole old (short h) c.requires.idle small mid (stood h) k stands none left (closing left so));
      rest = λ h. touches_saved w old mid new (saves mid (map.writes.exit (back h))) (closing new (anchors.writes.exit h));
      place = anchor_told w.layout r anchors.place;
      counted = λ tells.
          counted_map w.layout r (M.ledger c.args.m.now) (M.ledger c.save_map.new.m) (M.ledger c.close_anchor.new.m)
          (subst (λ (x : VolumeValue). M.ledger c.save_map.new.m ≡ wrote (M.ledger c.args.m.now) (map_sectors x.layout)) c.self.view_is (map.counted (anchors.writes.trust.tells tells)))
          (on_ok_weaker r (λ counts. counts tells) anchors.counted) (anchors.least tells) (anchors.most tells);
      saved = on_ok_weaker r (λ done h.
          let here = g.met.M.Machine.sized c.args.m.now (map.writes.trust.honest (back h)) in
          let there = g.met.M.Machine.sized c.save_map.new.m (back h) in
          has_saved w whole mid new (omega (arith, room, sectors, there)) (closed (done h)) (map_stands w whole old mid (omega (arith, room, here)) (stood h))) anchors.done;
      closes = on_ok_weaker r (λ done h k stands none. saved_closes w whole old (short h) c.requires.idle small mid (stood h) k stands none new (closed (done h))) anchors.done;
    }
