-- What a scrub by itself has healed.
use Rattle.std.proofs.Common.{◌≡◌, inl, inr, ℕ, ◌+◌, ◌-◌, ◌*◌, ◌≤◌, List, [], ◌++◌, sym, ◌∙◌, ap, subst, arith}
use Rattle.std.specs.Prelude.{⊤, Option, Some, IfOk, IsTrue, OnOk, Result, Ok, Err}
use Rattle.std.specs.List.{AllByRecursion}
use Rattle.volume_layout.specs.declared.layout.Layout.{Layout}
use Rattle.volume_layout.specs.Layout.{map_sectors}
use Rattle.fsd_bytes.specs.declared.key.Key.{Key}
use Rattle.fsd_log.specs.Scan.{Placed}
use Rattle.sector_disk.specs.Image.{Windows, open_damage, sector_at}
use Rattle.fsd_files.specs.Disk.{SectorWorn, Touches}
use Rattle.fsd_files.proofs.LeaderLaws.{leader_in_area}
use Rattle.sector_disk.specs.declared.machine.Machine.{Ghosts}
use Rattle.sector_disk.specs.Machine.{Ledger, Moment}
use Rattle.fsd_files.specs.Answers.{HasLeader}
use Rattle.fsd_files.specs.Scrub.{CountsHealed}
use Rattle.fsd_files.specs.Volume.{Volume}
use Rattle.fsd_files.specs.declared.reply.Reply.{Reply}
use Rattle.fsd_files.specs.declared.reply.Reply.TheVariants as Said
use Rattle.fsd_sound.specs.Mounted.{Mounted, telling_of}
use Rattle.fsd_sound.specs.Shown.{told}
use Rattle.fsd_texts.specs.declared.command.Command.{Command}
use Rattle.fsd_texts.specs.declared.command.Command.TheVariants as Word
use Rattle.fsd_texts.specs.declared.fault.Fault.{Fault}
use Rattle.fsd_texts.specs.declared.fault.Fault.TheVariants as Ends
use Rattle.fsd_runs.specs.Commands.{reply_alone}
use Rattle.fsd_runs.specs.Errands.{fault_status}
use Rattle.volume_contract.specs.Closing.{HasSaved, may_close, saves, saving_len}
use Rattle.volume_contract.specs.Mount.{CountsMount, IsFound}
use Rattle.volume_contract.specs.State.{Known, Stands, State, force_len, volume_of}
use Rattle.scrub.specs.Scrub.{IsScrubbed, WritesHealed}
use Rattle.scrub.proofs.LeadLaws.{leaders_then}
use Rattle.volume_turns.specs.declared.turns.Halt.{Halt}
use Rattle.volume_turns.specs.Answering.{ClosesBy, MayAnswer}
use Rattle.volume_turns.specs.Commands.{Because, HasWrittenBy}
use Rattle.volume_turns.specs.Healing.{EndsHealed, HealsAll, HealsAlone, HealsLeaders, HealsOver, IfScrub, WasSoundAt, WritesBeside, is_of_answer}
use Rattle.volume_turns.specs.Line.{IsStatusFor}
use Rattle.volume_turns.specs.Once.{HasClosed, unit_of}
use Rattle.volume_turns.specs.Steps.{Does}
use Rattle.volume_turns.proofs.SavingLaws.{clean_len, data_out, saving_few, twins_closed}

-- ---- where it is no answer

fault_unanswered : (why : Fault) → IsTrue (is_of_answer (fault_status why)) → ⊥
fault_unanswered Ends.NotVolume is = cc is
fault_unanswered why is = cc is

pub fault_unhealed : (why : Fault) (status : ℕ) → IsStatusFor why status → IsTrue (is_of_answer status) → ⊥
fault_unhealed why status (inl gives) is = fault_unanswered why (subst (λ (n : ℕ). IsTrue (is_of_answer n)) gives is)
fault_unhealed why status (inr six) is = let unheard : IsTrue (is_of_answer 6) = subst (λ (n : ℕ). IsTrue (is_of_answer n)) six is in cc unheard

-- nor is an output that failed an answer
pub unheard_unhealed : IsTrue (is_of_answer 6) → ⊥
unheard_unhealed of = cc of

-- ---- over a mounted volume

-- an upgrade is none, and no growth
pub upgrade_heals : (r : Result ℕ Halt) → IfOk r (λ status. ⊤)
upgrade_heals (Ok status) = tt
upgrade_heals (Err end) = tt

-- behind it so many sectors are written
heals_then : (x y z : Ledger) (forced saved healed : ℕ) → forced ≡ 0 → z.written ≡ y.written + saved → WritesHealed forced x y healed → WritesHealed saved x z healed
heals_then x y z forced saved healed is then first = record { healed = first.healed; tells = first.tells; written = let sum = first.written in omega (arith, is, then, sum) }

-- what the mount has written comes before
mounting_heals : (most map : ℕ) (x y z : Ledger) (healed : ℕ) → (x.written ≤ y.written) × (y.written ≤ x.written + most) → WritesBeside map y z healed → WritesBeside (most + map) x z healed
mounting_heals most map x y z healed counts first = record {
  others = y.written - x.written + first.others;
  few = let few = first.few in omega (arith, counts.1, few);
  written = record { healed = first.written.healed; tells = first.written.tells; written = let sum = first.written.written in omega (arith, counts.0, sum) };
}

module _ {S : Type 0} (state : S → State) (has : S → Mounted → List Placed → Type 0) (resident : S → ℕ → Option (List ℕ))
    (v w : S) (a m b : Moment) (windows : m.windows ≡ a.windows) (same : m.said ≡ a.said) (clean : (state v).dirty ≡ []) where
  -- its leaders stand behind the close
  leaders_closed : (k : Known) → Stands state has v k a → (found : List (Key × ℕ)) (healed : ℕ) → Touches (may_close (state v)) m b → b.windows ≡ m.windows → HasClosed state has w m b → IsScrubbed state has k w a m found healed → HealsLeaders (state v).layout healed a b
  leaders_closed k stood found healed closing still closed is =
      let entries = (volume_of k).entries in
      let layout : (volume_of is.after).layout ≡ (state v).layout = ap (λ (x : Volume). x.layout) is.forces.volume ∙ stood.fits.layout in
      record {
        telling = telling_of (volume_of k);
        tells = subst (λ (l : Layout). told l b.image ≡ Some (telling_of (volume_of k))) layout (closed.tells is.after is.stands ∙ ap (λ (x : Volume). Some (telling_of x)) is.forces.volume);
        led = subst (λ (x : Windows). AllByRecursion (HasLeader (open_damage x) b.image) entries) (sym (still ∙ windows))
            (leaders_then (open_damage a.windows) m.image b.image entries
            (λ s there. subst (λ (x : Windows). SectorWorn (open_damage x s) (sector_at m.image s) (sector_at b.image s)) windows
            (closing.others s (data_out (state v) (volume_of k).layout (sym stood.fits.layout) s (leader_in_area (volume_of k).layout entries stood.disk.described.apart s there)))) is.led);
        counts = subst (λ (l : Layout). CountsHealed l entries a healed) stood.fits.layout
            (subst (λ (x : Moment). CountsHealed (volume_of k).layout entries x healed) (is.idle (stood.fits.dirty ∙ clean)) is.heals);
      }

  -- one command by itself, with its text said
  pub alone_heals : (Tells : Type 0) (x y z : Ledger) (command : Command) (reply : Reply) (r : Result ℕ Halt) → MayAnswer command (state v) (state w) a m (Ok reply) → Because state resident command (state v) (state w) a m reply → ((k : Known) → Stands state has v k a → Does state has command v w k a m (Ok reply))
      → (let done : Result Reply Fault = Ok reply in Tells → HasWrittenBy command (state v) x y done) → ((state w).dirty ≡ [] → OnOk r (Tells → z.written ≡ y.written + saving_len (state w))) → ClosesBy (state w) (reply_alone reply) m b (unit_of r) → OnOk r (HasClosed state has w m b)
      → IfOk r (λ status. IfScrub command (HealsAll ((k : Known) × Stands state has v k a) (λ healed. Tells → WritesBeside (map_sectors (state v).layout + 2) x z healed) (state v).layout a.said a b))
  alone_heals Tells x y z command reply (Err end) answers because does wrote then closes closed = tt
  alone_heals Tells x y z Word.Scrub (Said.Scrubbed found healed) (Ok status) answers because does wrote then closes closed =
      let still : state w ≡ state v = answers.still clean in
      let idle : (state w).dirty ≡ [] = ap (λ (s : State). s.dirty) still ∙ clean in
      let closing : Touches (may_close (state v)) m b = subst (λ (s : State). Touches (may_close s) m b) still closes.rest in
      record {
        found = found;
        healed = healed;
        said = closes.says ∙ ap (λ (s : List ℕ). s ++ reply_alone (Said.Scrubbed found healed)) same;
        written = λ t. record {
          others = saving_len (state w);
          few = saving_few (state v) (state w) still;
          written = heals_then x y z (force_len (state v)) (saving_len (state w)) healed (clean_len (state v) clean) (then idle t) (wrote t);
        };
        twins = twins_closed (state v) m b clean closes.windows closing (subst (λ (s : State). IsTrue (saves s) → HasSaved s b) still closed.saved) because.1;
        leaders = λ on. leaders_closed on.0 on.1 found healed closing closes.windows closed (does on.0 on.1).3;
      }
  alone_heals Tells x y z Word.Scrub reply (Ok status) answers because does wrote then closes closed = absurd answers.replies
  alone_heals Tells x y z command reply (Ok status) answers because does wrote then closes closed = tt

-- ---- from the mount on

module _ {S D : Type 0} (M : Ghosts D) (state : S → State) (has : S → Mounted → List Placed → Type 0) (sectors : ℕ) (v : S) (a m b : D) where
  pub heals_mounted : (command : Command) (status : ℕ) → IsFound sectors (state v) (M.now a) (M.now m) → (M.now m).said ≡ (M.now a).said → M.left_since b (M.moment a) (M.now m) → (WasSoundAt sectors (M.now a) → (k : Known) × Stands state has v k (M.now m))
      → (M.tells b → CountsMount (state v) (M.ledger a) (M.ledger m)) → EndsHealed M state has command v m b status → IsTrue (is_of_answer status) → IfScrub command (HealsOver M sectors a b)
  heals_mounted command status found same passed stood counts ends of = by command ends.one.windows (ends.heals of)
    where
      by : (command : Command) → (M.now b).windows ≡ (M.now m).windows → IfScrub command (HealsAlone M state has v m b) → IfScrub command (HealsOver M sectors a b)
      by Word.Scrub windows heals = record {
        volume = record { seen = found.seen; from = found.from; layout = (state v).layout; anchor = found.anchor; found = found.found; left = found.left };
        mounted = M.now m;
        passed = passed;
        windows = sym windows;
        heals = record {
          found = heals.found;
          healed = heals.healed;
          said = heals.said ∙ ap (λ (x : List ℕ). x ++ reply_alone (Said.Scrubbed heals.found heals.healed)) same;
          written = λ t. mounting_heals (2 * (state v).layout.pages + 101) (map_sectors (state v).layout + 2) (M.ledger a) (M.ledger m) (M.ledger b) heals.healed (counts t) (heals.written t);
          twins = heals.twins;
          leaders = λ sound. heals.leaders (stood sound);
        };
      }
      by command windows heals = tt
