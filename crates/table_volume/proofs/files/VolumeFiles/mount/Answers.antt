use Rattle.std.proofs.Common.{◌≡◌, ◌-◌, ◌≤◌, None, inl, inr, subst, arith}
use Rattle.std.specs.Prelude.{IfOk, IfSome}
use Rattle.std.proofs.lemmas.Option.{IfSome_then}
use Rattle.std.proofs.lemmas.Result.{IfErr-weaker, IfOk-weaker, err_from_is_err_and}
use Rattle.volume_layout.specs.declared.layout.Layout.{Layout}
use Rattle.sector_disk.proofs.CallLaws.{heals_then, reads_as_heals}
use Rattle.sector_disk.proofs.Calm.{same_calm}
use Rattle.fsd_sound.specs.Lost.{AreCopiesOn, AreHomes, LostIn}
use Rattle.fsd_sound.proofs.WindowLaws.{named_on}
use Rattle.mount_recover.specs.Recover.{IsFreshLog, IsSettledIn}
use Rattle.mount_recover.specs.Replay.{IsReplayed}
use Rattle.volume_contract.specs.Mount.{HealsAnchors, HealsHomes, IsFound, IsRefused, KeepsAll, MountOpens}
use Rattle.cached_table.specs.Homes.{KnowsHomes}
use Rattle.table_volume.specs.Mounting.{IsAssembled, OpensKnown}
use Rattle.cached_table.specs.Opening.{IsOpenFault}
use Rattle.volume_laws.specs.State.{state}
use Rattle.saved_map.specs.Reading.{Believes}
use Rattle.table_volume.proofs.BelievedLaws.{map_seen, none_believed, saved_is}
use Rattle.table_volume.proofs.CalmLaws.{calm_handed, fails_calm, mounts_calm, mounts_walked}
use Rattle.table_volume.proofs.EndsLaws.{ReadsSynced, ends_before, ends_settled, knows}
use Rattle.volume_laws.proofs.MomentLaws.{lists_now, said_at, said_lists, shows_now}
use Rattle.table_volume.proofs.HealsLaws.{anchors_read, homes_read}
use Rattle.table_volume.proofs.KnownLaws.{stand_known}
use Rattle.table_volume.proofs.MountLaws.{found_open, home_lost, keeps_early, keeps_open, opens_new, refused_early, refused_open, settled_in}
use Rattle.table_volume.proofs.RestLaws.{counts_mount, rest_read}
use Rattle.table_volume.proofs.SavedTableLaws.{opens_sound}
use Rattle.table_volume.proofs.UnsoundLaws.{none_unsound, opens_unsound}
use Rattle.table_volume.proofs.files.VolumeFiles.mount.Goals as goal

pub returns-clause-disk : goal.returns-clause-disk
returns-clause-disk g c = heals_then c.in_ok-settled.ensures.disk (reads_as_heals c.open_settled.ensures.reads)

pub returns-clause-opens : goal.returns-clause-opens
returns-clause-opens g c =
    let M = g.M.Machine in
    let settled = c.in_ok-settled.settled in
    let found = c.in_ok-settled.ensures.settled in
    let reads = c.open_settled.ensures.reads in
    IfOk-weaker c.open_settled.result (IsAssembled settled.layout settled.log) (λ v. MountOpens M c.args.sectors (state v) c.args.m.now c.open_settled.new.m)
    (λ v a. opens_new settled.layout settled.log v a M c.args.sectors c.args.m.now c.open_settled.new.m found.room found.planned
    (λ tells.
    let back = reads.trust.tells tells in
    counts_mount settled.layout settled.log (M.ledger c.args.m.now) (M.ledger c.recover.new.m) (M.ledger c.open_settled.new.m) (found.grows back) (found.counted back) (reads.ledger tells) v a))
    c.open_settled.ensures.assembled

pub returns-in_err-settled-clause-tells : goal.returns-in_err-settled-clause-tells
returns-in_err-settled-clause-tells g c honest =
    let M = g.M.Machine in
    let s = c.args.sectors in
    let old = M.now c.args.m.now in let new = M.now c.recover.new.m in
    let fault = c.in_err-settled.field-0.0 in
    let failed = c.in_err-settled.ensures.failed in
    let p = err_from_is_err_and c.from_residual.result c.from_residual.ensures.1 in
    rw (p.1, p.2) (record {
      found = tt;
      map = tt;
      refused = refused_early s old fault failed.sound (failed.refused honest);
      unchanged = keeps_early old new fault (failed.unchanged honest);
      lost = failed.lost honest;
      unsound = none_unsound s old new fault failed.sound;
    })

pub returns-clause-tells : goal.returns-clause-tells
returns-clause-tells g c honest =
    let M = g.M.Machine in
    let s = c.args.sectors in
    let l = c.in_ok-settled.settled.layout in let log = c.in_ok-settled.settled.log in
    let old = M.now c.args.m.now in let mid = M.now c.recover.new.m in let new = M.now c.open_settled.new.m in
    let r = c.open_settled.result in
    let opens = c.open_settled.ensures in
    let back = opens.reads.trust.honest honest in
    let worn = opens.reads.worn honest in
    let is = c.in_ok-settled.ensures.settled.found back in
    let root = c.in_ok-settled.ensures.settled.root back in
    record {
      found = IfOk-weaker r (IsAssembled l log) (λ v. IsFound s (state v) old new) (λ v a. found_open s l log old mid new is worn c.in_ok-settled.ensures.settled.epoch v a) opens.assembled;
      map = map_seen M l c.in_ok-settled.ensures.settled.planned log c.args.m.now c.recover.new.m back c.in_ok-settled.settled.saved c.in_ok-settled.ensures.settled.believes (λ none. c.in_ok-settled.ensures.settled.none none back) r opens.assembled opens.by;
      refused = IfErr-weaker r IsOpenFault (λ fault. IsRefused s fault old) (λ fault cause. refused_open s l log old mid c.in_ok-settled.ensures.settled.epoch is fault cause) opens.cause;
      unchanged = IfErr-weaker r IsOpenFault (λ fault. KeepsAll fault old new) (λ fault cause. keeps_open old new fault cause) opens.cause;
      lost = IfErr-weaker r (λ fault. M.honest c.open_settled.new.m → LostIn (AreHomes l) new.image fault) (λ fault. LostIn (AreCopiesOn s old) new.image fault) (λ fault lost. home_lost s l log old mid new.image root is fault (lost honest)) opens.lost;
      unsound = opens_unsound s l old mid new root worn c.in_ok-settled.settled.saved r (λ none. opens.known none honest) opens.by;
    }

pub returns-in_err-settled-clause-heals : goal.returns-in_err-settled-clause-heals
returns-in_err-settled-clause-heals g c honest =
    let p = err_from_is_err_and c.from_residual.result c.from_residual.ensures.1 in
    rw (p.1, p.2) (record { rest = c.in_err-settled.ensures.failed.rest honest; anchors = tt; homes = tt })

pub returns-clause-heals : goal.returns-clause-heals
returns-clause-heals g c honest =
    let M = g.M.Machine in
    let l = c.in_ok-settled.settled.layout in let log = c.in_ok-settled.settled.log in
    let mid = M.now c.recover.new.m in let new = M.now c.open_settled.new.m in
    let opens = c.open_settled.ensures in
    let back = opens.reads.trust.honest honest in
    let worn = opens.reads.worn honest in
    let mended = c.in_ok-settled.ensures.settled in
    record {
      rest = inr (record { layout = l; root = mended.root back; rest = rest_read l (M.now c.args.m.now) mid new (mended.rest back) worn });
      anchors = IfOk-weaker c.open_settled.result (IsAssembled l log) (λ v. HealsAnchors (state v) new) (λ v a. anchors_read mid new worn l log v a (mended.anchors back)) opens.assembled;
      homes = IfOk-weaker c.open_settled.result (IsAssembled l log) (λ v. HealsHomes (state v) new) (λ v a. homes_read mid new worn l log v a (mended.homes back)) opens.assembled;
    }

pub returns-in_err-settled-clause-calm : goal.returns-in_err-settled-clause-calm
returns-in_err-settled-clause-calm g c honest calm calm_new =
    let M = g.M.Machine in
    let image = (M.now c.args.m.now).image in
    calm_handed c.args.sectors image c.from_residual.result c.in_err-settled.field-0.0 c.from_residual.ensures.1 (fails_calm c.args.sectors image c.in_err-settled.field-0.0 c.in_err-settled.ensures.failed.sound (c.in_err-settled.ensures.failed.all_shown honest calm calm_new))

pub returns-clause-calm : goal.returns-clause-calm
returns-clause-calm g c honest calm calm_new =
    let M = g.M.Machine in
    let sectors = c.args.sectors in
    let settled = c.in_ok-settled.settled in
    let opens = c.open_settled.ensures in
    let told = c.in_ok-settled.ensures.settled in
    let old = M.now c.args.m.now in let mid = M.now c.recover.new.m in let new = M.now c.open_settled.new.m in
    let back = opens.reads.trust.honest honest in
    let worn = opens.reads.worn honest in
    let calm_mid = same_calm mid.windows new.windows worn.windows calm_new in
    let is = settled_in sectors settled.layout settled.log old mid calm (told.found back) in
    let knows = stand_known settled.layout mid calm_mid (told.homes back) in
    mounts_calm sectors settled.layout told.planned settled.log M c.args.m.now c.recover.new.m back is settled.saved told.believes c.open_settled.result opens.assembled opens.by
    (λ none. mounts_walked sectors settled.layout told.planned settled.log old.image mid is (told.shown is.anchor back calm calm_mid is.found.anchor) calm_mid
    (none_believed sectors settled.layout settled.log old calm is (told.none none back)) c.open_settled.result opens.assembled knows (opens.known none honest knows))

pub open_settled-requires-clause-saved : goal.open_settled-requires-clause-saved
open_settled-requires-clause-saved g c =
    let settled = c.in_ok-settled.settled in
    IfSome_then settled.saved c.in_ok-settled.ensures.settled.believes (λ saved b. saved_is g.M.Machine settled.layout (settled.log.anchor.epoch - 1) c.args.m.now c.recover.new.m saved b)

-- by the layout that the image says and the mount has taken
pub returns-in_err-settled-clause-sound : goal.returns-in_err-settled-clause-sound
returns-in_err-settled-clause-sound g c honest l windows h f begun =
    let M = g.M.Machine in
    let s = c.args.sectors in
    let old = M.now c.args.m.now in let new = M.now c.recover.new.m in
    let lists = lists_now s l windows h f old begun in
    let shows = shows_now s l windows h f old begun lists in
    let recovers = c.in_err-settled.ensures.shows l windows lists.choices honest shows in
    let by = recovers.moments in
    let k = by.layout in (
      k,
      by.said,
      inl (ends_before s k windows h f old (said_at s l windows h f old k by.said begun) (said_lists l old.image k by.said windows h f lists) M c.args.m.now c.recover.new.m new by.moments (c.recover.ensures.shows l windows lists.choices honest shows).turns
          by.exit (c.in_err-settled.ensures.failed.unturned honest) c.from_residual.result c.in_err-settled.field-0.0 c.from_residual.ensures.1 recovers.ends (c.in_err-settled.ensures.failed.refused honest)),
    )

pub returns-clause-sound : goal.returns-clause-sound
returns-clause-sound g c honest l windows h f begun =
    let M = g.M.Machine in
    let s = c.args.sectors in
    let old = M.now c.args.m.now in let mid = M.now c.recover.new.m in let new = M.now c.open_settled.new.m in
    let settled = c.in_ok-settled.settled in
    let lists = lists_now s l windows h f old begun in
    let shows = shows_now s l windows h f old begun lists in
    let back = c.open_settled.ensures.reads.trust.honest honest in
    let short = g.met.M.Machine.short c.recover.new.m back in
    let recovers = c.in_ok-settled.ensures.shows l windows lists.choices back shows in
    let by = recovers.moments in
    let k = by.layout in
    let begun_k = said_at s l windows h f old k by.said begun in
    let lists_k = said_lists l old.image k by.said windows h f lists in
    let same : settled.layout ≡ k = by.took in
    let done = subst (λ (x : Layout). IsReplayed x windows lists.choices settled.log.anchor.epoch mid) same recovers.ends in
    let saved = settled.saved in
    let walked = subst (λ (x : Layout). saved ≡ None → KnowsHomes x mid → OpensKnown x mid c.open_settled.result) same (λ none. c.open_settled.ensures.known none honest) in
    let believes = subst (λ (x : Layout). IfSome saved (Believes M x (settled.log.anchor.epoch - 1) c.args.m.now c.recover.new.m)) same c.in_ok-settled.ensures.settled.believes in
    let at_home = knows s k windows h f old begun_k lists_k M c.args.m.now c.recover.new.m c.open_settled.new.m settled.log mid new done short by.exit in
    let reads = c.open_settled.ensures.reads.any_moment honest in
    let at_mid : M.moment c.recover.new.m ≤ M.moment c.recover.new.m = omega arith in
    let times : ReadsSynced M c.recover.new.m c.open_settled.new.m mid new = record {
      dated = g.met.M.Machine.dated c.recover.new.m back;
      synced = c.in_ok-settled.ensures.settled.synced back;
      before = g.met.M.Machine.history c.recover.new.m back;
      behind = g.met.M.Machine.history c.open_settled.new.m honest;
      only = λ left passed. g.met.M.Machine.only_now c.recover.new.m left back passed;
      there = c.open_settled.ensures.reads.since honest (M.moment c.recover.new.m) mid at_mid (g.met.M.Machine.counts_now c.recover.new.m (M.moment c.recover.new.m) back at_mid);
      ends = g.met.M.Machine.counts_now c.open_settled.new.m (M.moment c.recover.new.m) honest reads.later;
      reads = reads;
    } in (
      k,
      by.said,
      inr (ends_settled s k windows h f old begun_k lists_k M c.args.m.now c.recover.new.m c.open_settled.new.m settled.log mid new done short by.exit
          by.moments (c.recover.ensures.shows l windows lists.choices back shows).turns times
          (subst (λ (x : Layout). IsFreshLog x settled.log) same c.in_ok-settled.ensures.settled.fresh) (subst (λ (x : Layout). IsSettledIn s x settled.log old mid) same (c.in_ok-settled.ensures.settled.found back)) c.in_ok-settled.ensures.settled.epoch
          (c.open_settled.ensures.reads.worn honest) c.open_settled.result (subst (λ (x : Layout). IfOk c.open_settled.result (IsAssembled x settled.log)) same c.open_settled.ensures.assembled)
          (opens_sound s k windows h f M c.args.m.now c.recover.new.m begun_k lists_k settled.log mid done short back saved believes c.open_settled.result c.open_settled.ensures.by (λ none. walked none at_home))
          (named_on (M.left_since c.recover.new.m) (M.left_since c.open_settled.new.m) (M.moment c.args.m.now) (M.moment c.recover.new.m) mid.windows.present (c.recover.ensures.disk.later back) (c.open_settled.ensures.reads.since honest) (c.in_ok-settled.ensures.settled.named back))),
    )
