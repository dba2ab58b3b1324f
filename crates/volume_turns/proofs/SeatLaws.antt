-- What stands of a volume and its desk: as it wears, behind a command of the volume alone, and where nothing is open.
use Rattle.std.proofs.Common.{◌≡◌, ℕ, List, [], Option, Some, refl, sym, ◌∙◌, ap, subst}
use Rattle.std.specs.Prelude.{map, option_map, Result, Ok, Err}
use Rattle.run_table.specs.declared.run.Run.{Run}
use Rattle.sector_disk.specs.declared.machine.Machine.{Ghosts}
use Rattle.sector_disk.specs.Calls.{stops}
use Rattle.sector_disk.specs.Image.{AreShort}
use Rattle.sector_disk.specs.Machine.{Moment}
use Rattle.sector_disk.proofs.Moments.{leaves_more}
use Rattle.fsd_log.specs.Scan.{Placed}
use Rattle.fsd_files.specs.Answers.{Outcome}
use Rattle.fsd_files.specs.Desk.{no_clients}
use Rattle.fsd_files.specs.declared.reply.Reply.{Reply}
use Rattle.fsd_files.specs.Volume.{is_in}
use Rattle.fsd_sound.specs.Mounted.{Mounted}
use Rattle.fsd_texts.specs.declared.command.Command.{Command}
use Rattle.fsd_texts.specs.declared.fault.Fault.{Fault}
use Rattle.fsd_texts.specs.declared.fault.Fault.TheVariants as Ends
use Rattle.fsd_texts.specs.declared.script_command.ScriptCommand.TheVariants.{Plain}
use Rattle.fsd_runs.specs.Sessions.{HoldsRead, by_volume}
use Rattle.client_desk.specs.declared.client.Client.{Client}
use Rattle.client_desk.specs.Clients.{IsDesk, client_at}
use Rattle.client_desk.specs.Ends.{ServesOpen, open_at}
use Rattle.client_desk.proofs.DeskLaws.{desk_same}
use Rattle.client_desk.proofs.HeldLaws.{holds_read}
use Rattle.scrub.specs.Scrub.{KeepsOpen}
use Rattle.volume_contract.specs.Pieces.{slices_in, with_opened}
use Rattle.volume_contract.specs.State.{Ages, Known, OpenParts, Stands, State, held_runs, none_open}
use Rattle.volume_turns.specs.declared.turns.Halt.{Halt}
use Rattle.volume_turns.specs.declared.turns.Halt.TheVariants.{Fault as Stopped, Output}
use Rattle.volume_turns.specs.Once.{ClosesAndSays, EndsClosed, InClose}
use Rattle.volume_turns.specs.Seats.{DoesIn, IsAnsweredIn, Seated, SitsAt, StaysIn, known_of, seated, session_in}
use Rattle.volume_turns.specs.Steps.{Does, IsAnswered, Stays}
use Rattle.volume_turns.specs.Turns.{OnDisk}

-- a desk is the volume's still, where what is open stays
pub desk_on : (s t : State) (desk : List Client) → t.layout ≡ s.layout → KeepsOpen s t → IsDesk s desk → IsDesk t desk
desk_on s t desk layout kept of = desk_same s t desk (record { layout = layout; unfinished = kept.unfinished; readers = kept.readers }) of

module _ {S : Type 0} (state : S → State) (has : S → Mounted → List Placed → Type 0) where
  -- what a stop leaves of the volume
  pub stays_in : (x : S × List Client) (old left : Moment) → Stays state has x.0 old left → StaysIn state has x old left
  stays_in x old left stays k sits = stays (known_of k) sits.stands

  -- a volume stands in which the same is open
  pub seat_on : (v w : S) (desk : List Client) (k : Seated) (after : Known) (old now : Moment) → SitsAt state has (v, desk) k old → after.opened ≡ k.opened → Stands state has w after now → SitsAt state has (w, desk) (seated after k.clients) now
  seat_on v w desk k after old now sits opened stands = record {
    stands = stands;
    size = sits.size;
    each = λ i. subst (λ (o : OpenParts). ServesOpen o (client_at desk i) (open_at k.clients i)) (sym opened) (sits.each i);
    drafts = λ runs slices is. sits.drafts runs slices (subst (λ (o : OpenParts). slices_in o.drafts runs ≡ Some slices) opened is);
  }

  -- as it wears
  pub seat_wears : ((s : S) (k : Known) (old new : Moment) → AreShort old.windows → Ages old new → Stands state has s k old → Stands state has s k new)
      → (x : S × List Client) (k : Seated) (old new : Moment) → AreShort old.windows → Ages old new → SitsAt state has x k old → SitsAt state has x k new
  seat_wears wears x k old new short ages sits = seat_on x.0 x.0 x.1 k (known_of k) old new sits refl (wears x.0 (known_of k) old new short ages sits.stands)

  -- ---- a command of the volume alone

  module _ (command : Command) (v w : S) (desk : List Client) (k : Seated) (before now : Moment) (sits : SitsAt state has (v, desk) k before)
      (holds : (after : Known) → after.opened ≡ k.opened → Stands state has w after now → HoldsRead (session_in (seated after k.clients))) where
    pub plain_answered : (after : Known) (reply : Reply) → IsAnswered command (state v) (known_of k) after before.image now.image reply → Stands state has w after now → IsAnsweredIn (Plain command) (state v) k (seated after k.clients) before.image now.image reply
    plain_answered after reply is stands = record {
      met = record { met = is.met; held = [] };
      is = ap (λ (o : Outcome). by_volume (session_in k) o) is.is;
      windows = is.windows;
      changes = is.changes;
      find = is.find;
      hold = holds after is.opened stands;
      unworn = is.unworn;
    }

    pub plain_does : (r : Result Reply Fault) → Does state has command v w (known_of k) before now r → DoesIn state has (Plain command) (v, desk) (w, desk) k before now r
    plain_does (Ok a) does = (seated does.0 k.clients, plain_answered does.0 a does.1 does.2, seat_on v w desk k does.0 before now sits does.1.opened does.2)
    plain_does (Err (Ends.Device s)) does = tt
    plain_does (Err Ends.Memory) does = tt
    plain_does (Err Ends.WornOut) does = (record { may = does.0.may; worn = does.0.worn }, seat_on v w desk k (known_of k) before now sits refl does.1)
    plain_does (Err fault) does = absurd does

  -- by a desk that is the volume's
  pub desk_holds : (v w : S) (desk : List Client) (k : Seated) (before now : Moment) → SitsAt state has (v, desk) k before → IsDesk (state w) desk → (after : Known) → after.opened ≡ k.opened → Stands state has w after now → HoldsRead (session_in (seated after k.clients))
  desk_holds v w desk k before now sits of after opened stands = holds_read state has w desk after k.clients now of (seat_on v w desk k after before now sits opened stands)

  -- where nothing is open
  pub none_holds : (w : S) (now : Moment) (after : Known) → after.opened ≡ none_open → Stands state has w after now → HoldsRead (session_in (seated after no_clients))
  none_holds w now after none stands t = ap (λ (h : List (List Run)). is_in h t) (stands.fits.held ∙ ap (λ (r : List (Option (List Run))). held_runs r) (stands.opened.places ∙ ap (λ (o : OpenParts). map (λ place. option_map (λ x. x.runs) place) o.readers) none))

-- ---- what is open is given up

module _ (k : Known) (o : OpenParts) (f : ℕ) (text : List ℕ) where
  in_close_as : (old left : Moment) → InClose k.mounted.volume.layout (with_opened k o) f text old left → InClose k.mounted.volume.layout k f text old left
  in_close_as old left x = record { windows = x.windows; forced = x.forced; least = x.least; sound = x.sound; heard = x.heard; said = x.said; all = x.all; roots = x.roots }

  module _ {D : Type 0} (M : Ghosts D) (a b : D) where
    ends_as : (r : Result (Unit {0}) Halt) → EndsClosed M (with_opened k o) f text a b r → EndsClosed M k f text a b r
    ends_as (Ok x) is = record { windows = is.windows; said = is.said; sound = is.sound; held = is.held; tells = is.tells; lasts = is.lasts; roots = is.roots; rooted = is.rooted }
    ends_as (Err (Stopped fault)) is = (is.0, record { windows = is.1.windows; said = is.1.said; held = is.1.held })
    ends_as (Err Output) is = tt

    -- its end is the same
    pub closes_as : (r : Result (Unit {0}) Halt) → ClosesAndSays M (with_opened k o) f text a b r → ClosesAndSays M k f text a b r
    closes_as r x = record {
      moments = leaves_more M.moment (stops M) a b (InClose k.mounted.volume.layout (with_opened k o) f text (M.now a)) (InClose k.mounted.volume.layout k f text (M.now a)) (in_close_as (M.now a)) x.moments;
      says = x.says;
      ends = ends_as r x.ends;
    }

    -- and so is what the disk has
    pub on_disk_as : OnDisk M k f a → OnDisk M (with_opened k o) f a
    on_disk_as on = record { most = on.most; each = on.each }
