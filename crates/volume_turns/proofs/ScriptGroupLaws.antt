-- The commands of a script as a group, with the force behind them.
use Rattle.std.proofs.Common.{◌≡◌, inl, inr, ℕ, ◌≤◌, Bool, true, false, cond, List, [], ◌++◌, length, take, Some, None, refl, sym, ◌∙◌, ap, subst, arith, append-nil}
use Rattle.std.proofs.Math.Seq.{take-append_seam}
use Rattle.fsd_log.specs.Scan.{Placed}
use Rattle.std.specs.Prelude.{IfOk, nat_lt, ◌&&◌, Result, Ok, Err}
use Rattle.std.proofs.lemmas.List.{take_all}
use Rattle.sector_disk.specs.declared.machine.Machine.{Ghosts}
use Rattle.sector_disk.specs.Calls.{IsTimed, Since}
use Rattle.sector_disk.specs.Image.{open_damage}
use Rattle.sector_disk.specs.Machine.{Report, Rose}
use Rattle.sector_disk.proofs.Wear.{worn_refl}
use Rattle.fsd_sound.specs.Mounted.{Mounted}
use Rattle.fsd_texts.specs.declared.script_command.ScriptCommand.{ScriptCommand}
use Rattle.fsd_texts.specs.declared.fault.Fault.TheVariants as Ends
use Rattle.fsd_texts.specs.declared.end.End.TheVariants.{TooLong}
use Rattle.fsd_texts.specs.Script.{Script, commands_from, max_input, needs_more, script_in, script_of}
use Rattle.fsd_runs.specs.Errands.{Errand, forced_turn}
use Rattle.script_text.specs.Reading.{Reading, fresh, script_left}
use Rattle.script_text.proofs.WholeLaws.{short_waits}
use Rattle.fsd_files.specs.Desk.{no_clients}
use Rattle.client_desk.specs.declared.client.Client.{Client}
use Rattle.volume_contract.specs.State.{State, Ages, Known, forced_of}
use Rattle.volume_turns.specs.Seats.{Seated, SitsAt, known_of, seated}
use Rattle.volume_turns.specs.declared.turns.Halt.{Halt}
use Rattle.volume_turns.specs.declared.turns.Halt.TheVariants.{Fault as Stopped, Output}
use Rattle.volume_turns.specs.declared.script.Stop.{Stop}
use Rattle.volume_turns.specs.declared.script.Stop.TheVariants.{Ended, Input, WornOut}
use Rattle.volume_turns.specs.Group.{is_worn_end}
use Rattle.volume_turns.specs.Once.{ClosesAndSays, unit_of}
use Rattle.volume_turns.specs.Script.{FailedGroup, FailsBehind, GroupsBy, Heard, RoseBy, Spells, WholeRead}
use Rattle.volume_turns.specs.Turns.{OnDisk}
use Rattle.volume_turns.proofs.GroupLaws.{group_all, group_all_cut, group_stop, group_worn}
use Rattle.volume_turns.proofs.ScriptLaws.{spells_here}

-- ---- what was taken

front_keeps : (over need : Bool) (s : Script) → (cond (over && need) (s.0, TooLong) s).0 ≡ s.0
front_keeps true true s = refl
front_keeps true false s = refl
front_keeps false need s = refl

-- no more than the most was taken, and so its commands are those of a script
script_within : (bytes : List ℕ) → length bytes ≤ max_input → (script_in bytes).0 ≡ (script_of bytes).0
script_within bytes few =
    front_keeps (nat_lt max_input (length bytes)) (needs_more (commands_from (length (take max_input bytes)) 1 (take max_input bytes)).1) (commands_from (length (take max_input bytes)) 1 (take max_input bytes))
    ∙ ap (λ (x : List ℕ). (commands_from (length x) 1 x).0) (take_all max_input bytes few)

pub taken_whole : (a b : List ℕ) (last : Reading) (done : List ScriptCommand) (x : Spells a b fresh last done) → length x.bytes ≤ max_input → (script_left last []).0 ≡ [] → length (script_of x.bytes).0 ≡ length done
taken_whole a b last done x few none =
    ap (λ (cs : List ScriptCommand). length cs) (sym (script_within x.bytes few)
    ∙ ap (λ (z : List ℕ). (script_in z).0) (sym (append-nil x.bytes))
    ∙ ap (λ (s : Script). s.0) (x.spells [])
    ∙ ap (λ (cs : List ScriptCommand). done ++ cs) none ∙ append-nil done)

pub taken_front : (a b : List ℕ) (last : Reading) (done : List ScriptCommand) → Spells a b fresh last done → take (length done) (script_in a).0 ≡ done
taken_front a b last done x = ap (λ (s : Script). take (length done) s.0) (spells_here a b fresh last done x) ∙ take-append_seam done (script_left last b).0

-- ---- the group

module _ {S D : Type 0} (state : S → State) (has : S → Mounted → List Placed → Type 0) (M : Ghosts D) (e : Errand) (k : Known) (v w : S × List Client) (a m b : D) (since : Since M m b) (later : M.moment a ≤ M.moment m) (timed : IsTimed M b) (honest : M.honest m) (stands : SitsAt state has v (seated k no_clients) (M.now a))
    (disk : OnDisk M k (forced_of k) a) where
  abbrev input : List ℕ
  input = (M.ledger a).input

  abbrev Closing : Result Stop Halt → Type 0
  Closing result = (x : Seated) (f : ℕ) → SitsAt state has w x (M.now m) → OnDisk M (known_of x) f m → ClosesAndSays M (known_of x) f forced_turn.said m b (unit_of result)

  now : Ages (M.now a) (M.now a)
  now = record { image = worn_refl (open_damage (M.now a).windows) (M.now a).image; windows = refl }

  module _ (left : (M.ledger b).input ≡ (M.ledger m).input) (rose : Rose (M.report a).input_faults (M.report b).input_faults) (last : Reading) (few : last.end ≡ None → last.taken ≤ max_input) (f : FailsBehind state has M e fresh last v a w m)
      (result : Result Bool Halt) (same : IfOk result (λ x. x ≡ true)) (closes : (x : Seated) (f : ℕ) → SitsAt state has w x (M.now m) → OnDisk M (known_of x) f m → ClosesAndSays M (known_of x) f forced_turn.said m b (unit_of result)) where
    failed : FailedGroup M e k input (M.ledger b).input a b result
    failed = record {
      done = f.done;
      front = taken_front input (M.ledger m).input last f.done f.taken;
      taken = f.taken.bytes;
      all = f.taken.all ∙ ap (λ (z : List ℕ). f.taken.bytes ++ z) (sym left);
      whole = taken_whole input (M.ledger m).input last f.done f.taken (let most = few f.still in let count = f.taken.count in omega (arith, most, count)) (short_waits last f.still f.short);
      rose = rose;
      group = group_all state has M e k (M.now a) f.done a m b w since later timed (f.runs honest (seated k no_clients) (forced_of k) (M.now a) stands now disk) result same closes;
      uncut = group_all_cut state has M e k (M.now a) f.done a m b w since later timed (f.runs honest (seated k no_clients) (forced_of k) (M.now a) stands now disk) result same closes;
    }

  rose_on : (stop : Stop) → (M.report b).input_faults ≡ (M.report m).input_faults → RoseBy (M.report a) (M.report m) (Some stop) → RoseBy (M.report a) (M.report b) (Some stop)
  rose_on Input same rose = subst (λ (n : ℕ). Rose (M.report a).input_faults n) (sym same) rose
  rose_on (Ended end) same rose = same ∙ rose
  rose_on WornOut same rose = same ∙ rose

  module _ (left : (M.ledger b).input ≡ (M.ledger m).input) (counted : (M.report b).input_faults ≡ (M.report m).input_faults) where
    pub group_stopped : (stop : Stop) (result : Result Stop Halt) → IfOk result (λ x. x ≡ stop) → RoseBy (M.report a) (M.report m) (Some stop) → WholeRead state has M e v a w m (Ok stop) → Closing result → GroupsBy M e k input (M.ledger b).input a b result
    group_stopped (Ended end) (Ok s) same rose x closes = subst (λ (y : Stop). GroupsBy M e k input (M.ledger b).input a b (Ok y)) (sym same)
        (x.reads.0, group_all state has M e k (M.now a) (script_in input).0 a m b w since later timed (x.reads.1 honest (seated k no_clients) (forced_of k) (M.now a) stands now disk) (Ok true) refl closes)
    group_stopped Input (Ok s) same rose x closes = subst (λ (y : Stop). GroupsBy M e k input (M.ledger b).input a b (Ok y)) (sym same) (failed left (rose_on Input counted rose) x.last x.few x.reads (Ok true) refl closes)
    group_stopped WornOut (Ok s) same rose x closes = absurd x.reads
    group_stopped (Ended end) (Err why) same rose x closes = inl (group_all state has M e k (M.now a) (script_in input).0 a m b w since later timed (x.reads.1 honest (seated k no_clients) (forced_of k) (M.now a) stands now disk) (Err why) tt closes)
    group_stopped Input (Err why) same rose x closes = inr (failed left (rose_on Input counted rose) x.last x.few x.reads (Err why) tt closes)
    group_stopped WornOut (Err why) same rose x closes = absurd x.reads

  pub group_worn_out : (end : Halt) → is_worn_end end ≡ true → (result : Result Stop Halt) → IfOk result (λ x. x ≡ WornOut) → WholeRead state has M e v a w m (Err end) → Closing result → GroupsBy M e k input (M.ledger b).input a b result
  group_worn_out end worn (Ok s) same x closes = subst (λ (y : Stop). GroupsBy M e k input (M.ledger b).input a b (Ok y)) (sym same)
      (group_worn state has M e k (M.now a) (script_in input).0 a m b w since later timed end worn (x.reads honest (seated k no_clients) (forced_of k) (M.now a) stands now disk) (Ok false) refl closes)
  group_worn_out end worn (Err why) same x closes = inl (group_worn state has M e k (M.now a) (script_in input).0 a m b w since later timed end worn (x.reads honest (seated k no_clients) (forced_of k) (M.now a) stands now disk) (Err why) tt closes)

  pub group_broken : (end : Halt) → is_worn_end end ≡ false → WholeRead state has M e v a w m (Err end) → GroupsBy M e k input (M.ledger m).input a m (Err end)
  group_broken end other x = inl (group_stop state has M e k (M.now a) (script_in input).0 a m w end other (x.reads honest (seated k no_clients) (forced_of k) (M.now a) stands now disk))

-- what is counted up to there
pub heard_worn : (a b : Report) (end : Halt) → is_worn_end end ≡ true → Heard {T = Stop} a b (Err end) → Heard {T = Unit {0}} a b (Ok tt)
heard_worn a b (Stopped Ends.WornOut) worn x = record { sectors = x.sectors; disk = x.disk; later = x.later; output = x.output }
heard_worn a b (Stopped why) worn x = cc worn
heard_worn a b Output worn x = cc worn
