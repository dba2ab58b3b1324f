use Rattle.std.proofs.Common.{◌≡◌, ◌<◌, ◌≤◌, ℕ, Bool, true, false, List, Option, Some, None, Result, Ok, Err, length, get_or, refl, sym, ap, subst, arith, ◌∙◌}
use Rattle.std.specs.Prelude.{IfSome}
use Rattle.std.proofs.lemmas.List.{get_or_read}
use Rattle.sector_disk.specs.declared.machine.LoadFault.{LoadFault}
use Rattle.sector_disk.specs.Machine.{Moment}
use Rattle.sector_disk.proofs.CallLaws.{reads_none}
use Rattle.sector_disk.proofs.Damage.{lost_as}
use Rattle.fsd_log.specs.Images.{last_image}
use Rattle.fsd_log.specs.Places.{LieInRecord}
use Rattle.fsd_log.specs.Scan.{Placed}
use Rattle.fsd_log.specs.declared.slot.Slot.{Slot}
use Rattle.log_thirds.specs.Append.{IsCalmNow, IsIndexed, scan_of}
use Rattle.log_thirds.specs.Disk.{reads}
use Rattle.log_thirds.specs.LogValue.{LogValue}
use Rattle.fsd_log.specs.Slots.{LieInRecords, LiesAt}
use Rattle.log_thirds.specs.Images.{AreLogged, GivesLast, GivesSlot, SeesSlot, StandsInSlot}
use Rattle.log_thirds.proofs.ImageLaws.{image_there, image_nowhere, slot_seen, stands_there}
use Rattle.log_thirds.proofs.thirds.Log.image_of.Given as given
use Rattle.log_thirds.proofs.thirds.Log.image_of.Goals.{After-index}
use Rattle.log_thirds.proofs.thirds.Log.image_of.Goals as goal

some_none : {A : Type 0} (x : A) → Some x ≡ None → ⊥
some_none x is = cc is

there_nowhere : ◌≡◌ {A = Result Bool LoadFault} (Ok true) (Ok false) → ⊥
there_nowhere same = cc same

err_ok : (fault : LoadFault) (there : Bool) → ◌≡◌ {A = Result Bool LoadFault} (Err fault) (Ok there) → ⊥
err_ok fault there same = cc same

-- ---- the page's slot

within : (g : given.Over) (c : After-index g) → c.args.page < length c.args.self.now.slots
within g c =
    let long : length c.args.self.now.slots ≡ c.args.self.now.layout.pages = subst (λ (x : LogValue). length x.slots ≡ x.layout.pages) c.self.view_is c.self.invariant.table in
    omega (arith, long, c.requires.page)

slot_is : (g : given.Over) (c : After-index g) → get_or c.args.self.now.slots c.args.page None ≡ c.index.result.now
slot_is g c =
    let slots : c.self.inside.slots.items ≡ c.args.self.now.slots = ap (λ (x : LogValue). x.slots) c.self.view_is in
    ap (λ (s : List (Option Slot)). get_or s c.args.page None) (sym slots)
    ∙ sym (get_or_read c.self.inside.slots.items c.args.page c.index.result.now (omega (arith, within g c, ap length slots)) c.index.ensures None)

-- ---- what stands at a slot

module _ (g : given.Over) (c : After-index g) (slot : Slot) (is : c.index.result.now ≡ Some slot) where
  abbrev log : LogValue
  log = c.args.self.now

  abbrev old : Moment
  old = g.M.Machine.now c.args.m.now

  at_page : get_or log.slots c.args.page None ≡ Some slot
  at_page = slot_is g c ∙ is

  some_there : get_or log.slots c.args.page None ≡ None → ⊥
  some_there none = some_none slot (sym at_page ∙ none)

  in_record : LieInRecord log.layout slot.place slot.copy
  in_record = subst (λ (o : Option Slot). IfSome o (λ slot. LieInRecord log.layout slot.place slot.copy)) at_page (subst (λ (x : LogValue). LieInRecords x.layout x.slots) c.self.view_is c.self.invariant.in_records c.args.page)

  -- what was read of it, at the log's epoch
  seen : (o p : Option (List ℕ)) → o ≡ p → SeesSlot old slot c.args.page c.self.inside.anchor.epoch o → SeesSlot old slot c.args.page log.anchor.epoch p
  seen o p same sees = subst (λ (x : LogValue). SeesSlot old slot c.args.page x.anchor.epoch p) c.self.view_is (subst (SeesSlot old slot c.args.page c.self.inside.anchor.epoch) same sees)

  module _ (records : List Placed) (are : IsIndexed log records) where
    by_scan : (scan_of log old).records ≡ records → GivesSlot c.args.page log.anchor.epoch (reads old.image) slot (last_image c.args.page records)
    by_scan same =
        let third : log.anchor.third ≤ 2 = subst (λ (x : LogValue). x.anchor.third ≤ 2) c.self.view_is c.self.invariant.third in
        image_there log records old c.args.page third are (within g c) slot same at_page

    by_sectors : GivesLast log records c.args.page old.image → GivesSlot c.args.page log.anchor.epoch (reads old.image) slot (last_image c.args.page records)
    by_sectors gives = subst (λ (o : Option Slot). IfSome o (λ slot. GivesSlot c.args.page log.anchor.epoch (reads old.image) slot (last_image c.args.page records))) (sym (are.slots c.args.page (within g c)) ∙ at_page) gives

    -- where nothing wears, what was read is the last image
    given_is : IsCalmNow old → (o : Option (List ℕ)) → SeesSlot old slot c.args.page log.anchor.epoch o → GivesSlot c.args.page log.anchor.epoch (reads old.image) slot (last_image c.args.page records) → last_image c.args.page records ≡ o
    given_is calm o sees gives = slot_seen old slot c.args.page log.anchor.epoch o (last_image c.args.page records) calm sees gives

    never_none : IsCalmNow old → SeesSlot old slot c.args.page log.anchor.epoch None → GivesSlot c.args.page log.anchor.epoch (reads old.image) slot (last_image c.args.page records) → ⊥
    never_none calm sees gives = some_none gives.image (sym gives.is ∙ given_is calm None sees gives)

pub returns-in-Ok-Some : goal.returns-in-Ok-Some
returns-in-Ok-Some g c =
    let p = (goal.at.returns-in-Ok-Some g c).After-index in
    let slot = c.in-Some.slot in
    let is = c.in-Some.is in
    let read = c.in-Ok-Some.ensures in
    let sees : g.M.Machine.honest c.read_slot.new.m → SeesSlot (g.M.Machine.now c.args.m.now) slot c.args.page c.args.self.now.anchor.epoch (Some c.in-Ok-Some.image) = λ h. seen g p slot is c.in-Ok-Some.field-0 (Some c.in-Ok-Some.image) c.in-Ok-Some.field-0-is (read.sees h) in
    record {
      reads = read.reads;
      absent = (λ same. absurd (there_nowhere same), λ none. absurd (some_there g p slot is none));
      whole = λ there h. subst (λ (o : Option Slot). StandsInSlot o (g.M.Machine.now c.args.m.now).image c.in-Ok-Some.image) (sym (at_page g p slot is)) (stands_there (g.M.Machine.now c.args.m.now) slot c.args.page c.args.self.now.anchor.epoch c.in-Ok-Some.image (sees h));
      gives = record {
        image = λ records h calm are same. given_is g p slot is records are calm _ (sees h) (by_scan g p slot is records are same);
        given = λ records h calm are gives. given_is g p slot is records are calm _ (sees h) (by_sectors g p slot is records are gives);
      };
      lacks = λ same. absurd (there_nowhere same);
      failed = tt;
    }

pub returns-in-Ok-None : goal.returns-in-Ok-None
returns-in-Ok-None g c =
    let p = (goal.at.returns-in-Ok-None g c).After-index in
    let slot = c.in-Some.slot in
    let is = c.in-Some.is in
    let read = c.in-Ok-None.ensures in
    let sees : g.M.Machine.honest c.read_slot.new.m → SeesSlot (g.M.Machine.now c.args.m.now) slot c.args.page c.args.self.now.anchor.epoch None = λ h. seen g p slot is c.in-Ok-None.field-0 None c.in-Ok-None.field-0-is (read.sees h) in
    record {
      reads = read.reads;
      absent = (λ same. absurd (err_ok _ false same), λ none. absurd (some_there g p slot is none));
      whole = λ same. absurd (err_ok _ true same);
      gives = tt;
      lacks = λ same. absurd (err_ok _ false same);
      failed = record {
        named = record { number = slot.number; is = at_page g p slot is };
        lost = λ h. lost_as (LiesAt (Some slot)) slot.place slot.copy (AreLogged c.args.self.now c.args.page) (g.M.Machine.now c.read_slot.new.m).image
            (λ lies. record { lies = record { number = lies.number; is = at_page g p slot is ∙ lies.is }; in_record = in_record g p slot is })
            (read.lost (ap (λ (o : Option (List ℕ)). Ok o) c.in-Ok-None.field-0-is) h);
        never_lost = λ records h calm are same. absurd (never_none g p slot is records are calm (sees h) (by_scan g p slot is records are same));
        none_lost = λ records h calm are gives. absurd (never_none g p slot is records are calm (sees h) (by_sectors g p slot is records are gives));
        kept = refl;
      };
    }

pub returns-in-Err : goal.returns-in-Err
returns-in-Err g c =
    let p = (goal.at.returns-in-Err g c).After-index in
    record {
      reads = c.in-Err.ensures.reads;
      absent = (λ same. absurd (err_ok _ false same), λ none. absurd (some_there g p c.in-Some.slot c.in-Some.is none));
      whole = λ same. absurd (err_ok _ true same);
      gives = tt;
      lacks = λ same. absurd (err_ok _ false same);
      failed = record {
        named = tt;
        lost = λ h. tt;
        never_lost = λ records h calm are same. tt;
        none_lost = λ records h calm are gives. tt;
        kept = refl;
      };
    }

pub returns-in-None : goal.returns-in-None
returns-in-None g c =
    let p = (goal.at.returns-in-None g c).After-index in
    let none : get_or c.args.self.now.slots c.args.page None ≡ None = slot_is g p ∙ c.in-None.is in
    let nowhere : (records : List Placed) → IsIndexed c.args.self.now records → last_image c.args.page records ≡ None = λ records are. image_nowhere c.args.self.now records c.args.page are (within g p) none in
    record {
      reads = reads_none c.args.m.now (λ l h left. g.met.M.Machine.only_now c.args.m.now l h left);
      absent = (λ same. none, λ same. refl);
      whole = λ same. absurd (there_nowhere (sym same));
      gives = record {
        image = λ records h calm are same. nowhere records are;
        given = λ records h calm are gives. nowhere records are;
      };
      lacks = λ same. record { nowhere = nowhere; kept = refl };
      failed = tt;
    }
