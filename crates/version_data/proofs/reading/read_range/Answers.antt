use Rattle.std.proofs.Common.{◌≡◌, ◌∙◌, ℕ, ◌+◌, ◌-◌, ◌/◌, ◌%◌, ◌≤◌, List, ◌++◌, length, take, drop, refl, sym, ap, subst, arith, length-take}
use borrow.Rule.Slice.PartMut.{put_mid}
use Rattle.std.proofs.lemmas.List.{length-drop}
use Rattle.std.proofs.lemmas.Slice.{drop-put_mid, take-put_mid}
use Rattle.run_table.specs.RunTable.{sectors_of}
use Rattle.sector_disk.specs.Calls.{as_sector}
use Rattle.sector_disk.specs.Image.{open_damage}
use Rattle.sector_disk.proofs.CallLaws.{reads_none, reads_then}
use Rattle.sector_disk.proofs.Wear.{worn_whole}
use Rattle.version_data.proofs.PlaceLaws.{in_all, is_there}
use Rattle.version_data.proofs.RangeLaws.{FrontStands, PartStands, WholeTo, drop_on, front_more, gives_range, none_yet, nothing_yet, range_damaged, whole_more}
use Rattle.version_data.proofs.reading.read_range.Goals as goal

pub loop-done-init : goal.loop-done-init
loop-done-init g c =
    let M = g.M.Machine in
    let old = c.args.m.now in record {
      within = omega arith;
      calls = reads_none old (g.met.M.Machine.only_now old);
      whole = λ h. none_yet (M.now old).image c.args.runs.now c.args.from;
      front = λ h bytes hurt kept room. nothing_yet bytes c.args.from c.args.buf.now;
      behind = refl;
    }

pub unwrap-place-requires : goal.unwrap-place-requires
unwrap-place-requires g c = is_there (sectors_of c.args.runs.now) ((c.args.from + c.loop-done.done) / 512 + 1) c.sector.result c.sector.ensures (omega arith)

pub read_sector-requires : goal.read_sector-requires
read_sector-requires g c =
    let below = in_all (g.M.Machine.report c.args.m.now).sectors (sectors_of c.args.runs.now) ((c.args.from + c.loop-done.done) / 512 + 1) c.unwrap-place.result c.requires.in_range (sym c.sector.ensures ∙ c.unwrap-place.ensures) in
    omega (arith, below, c.loop-done.invariant.calls.uses.sectors)

pub loop-done-preserved : goal.loop-done-preserved
loop-done-preserved g c =
    let M = g.M.Machine in
    let old = c.args.m.now in
    let new = c.read_sector.new.m in
    let so_far = c.loop-done.invariant in
    let done : ℕ = c.loop-done.done in
    let len : ℕ = c.min-len.result in
    let off : ℕ = (c.args.from + c.loop-done.done) % 512 in
    let buf : List ℕ = c.loop-done.buf in
    let piece : List ℕ = c.copy_from_slice.new.self in
    let at = sym c.sector.ensures ∙ c.unwrap-place.ensures in
    let calls = reads_then so_far.calls c.in_ok-sector.ensures.reads in
    let over : off + len - off ≡ len = omega arith in
    let k : ℕ = done + len - done in
    let room : done + len ≤ length buf = omega (arith, c.loop-done.auto.buf, c.requires.room, c.min-len.ensures, so_far.within) in
    let size : length piece ≡ len = omega (arith, c.copy_from_slice.ensures.len, length-take k (drop done buf), length-drop done buf, room) in
    let copied : piece ≡ take len (drop off c.in-Some.sector) = c.copy_from_slice.ensures.after ∙ ap (λ (n : ℕ). take n (drop off c.in-Some.sector)) over in
    let part : (h : M.honest new) → PartStands (M.now old).image c.unwrap-place.result off done len buf (put_mid done k buf piece) = λ h.
    record {
      bytes = c.in-Some.sector;
      whole = worn_whole (open_damage (M.now old).windows) (M.now old).image (M.now new).image c.unwrap-place.result c.in-Some.sector (calls.worn h).image (c.in_ok-sector.ensures.shown h ∙ ap as_sector c.in-Some.is);
      stands = take-put_mid done k buf piece (done + len) (omega (arith, size)) (omega (arith, room)) ∙ ap (λ (x : List ℕ). take done buf ++ x) copied;
    } in record {
      within = omega (arith, c.min-len.ensures, so_far.within);
      calls = calls;
      whole = λ h. whole_more (M.now old).image c.args.runs.now c.args.from done len c.unwrap-place.result c.in-Some.sector (so_far.whole (c.read_sector.ensures.reads.trust.honest h)) at (part h).whole (omega (arith, c.min-len.ensures));
      front = λ h bytes hurt kept room_in. front_more (M.now old).image hurt c.args.runs.now bytes buf (put_mid done k buf piece) c.args.from done len c.args.n c.unwrap-place.result
          kept room_in (omega (arith, c.min-len.ensures, so_far.within)) (omega (arith, c.loop-done.auto.buf, c.requires.room)) (omega (arith, c.min-len.ensures, c.loop-done-test.true)) (omega (arith, c.min-len.ensures)) at (part h)
          (so_far.front (c.read_sector.ensures.reads.trust.honest h) bytes hurt kept room_in);
      behind = drop-put_mid done k buf piece (done + len) (omega arith) (omega (arith, room)) (omega (arith, size)) ∙ drop_on buf c.args.buf.now done (done + len) (omega arith) so_far.behind;
    }

pub returns-in_default-clause-damaged : goal.returns-in_default-clause-damaged
returns-in_default-clause-damaged g c h =
    let M = g.M.Machine in
    range_damaged (M.now c.args.m.now).image (M.now c.read_sector.new.m).image c.args.runs.now c.args.from c.args.n c.loop-done.done c.unwrap-place.result c.loop-done-test.true
    (c.loop-done.invariant.whole (c.read_sector.ensures.reads.trust.honest h)) (sym c.sector.ensures ∙ c.unwrap-place.ensures) (c.in_ok-sector.ensures.shown h ∙ ap as_sector c.in_default.is) c.requires.end

pub returns-in_default-clause-behind : goal.returns-in_default-clause-behind
returns-in_default-clause-behind g c = drop_on c.loop-done.buf c.args.buf.now c.loop-done.done c.args.n c.loop-done.invariant.within c.loop-done.invariant.behind

pub returns-in_err-sector-clause-behind : goal.returns-in_err-sector-clause-behind
returns-in_err-sector-clause-behind g c = drop_on c.loop-done.buf c.args.buf.now c.loop-done.done c.args.n c.loop-done.invariant.within c.loop-done.invariant.behind

pub returns-clause-gives : goal.returns-clause-gives
returns-clause-gives g c h =
    let M = g.M.Machine in
    let so_far = c.loop-done.invariant in
    let all : c.loop-done.done ≡ c.args.n = omega (arith, so_far.within, c.loop-done-test.false) in
    gives_range (M.now c.args.m.now).image c.args.runs.now c.args.from c.args.n c.args.buf.now c.loop-done.buf
    (subst (λ (n : ℕ). WholeTo (M.now c.args.m.now).image c.args.runs.now c.args.from (c.args.from + n)) all (so_far.whole h))
    (λ bytes hurt kept room. subst (λ (n : ℕ). FrontStands bytes c.args.from n c.loop-done.buf) all (so_far.front h bytes hurt kept room))
    (drop_on c.loop-done.buf c.args.buf.now c.loop-done.done c.args.n so_far.within so_far.behind)
