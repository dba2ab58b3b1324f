-- What the status of a run tells of the image that it found, and of its input.
use Rattle.std.proofs.Common.{◌≡◌, inl, inr, ℕ, zero, suc, ◌+◌, ◌<◌, ◌≤◌, Bool, true, false, List, [], ◌∷◌, ◌++◌, length, take, drop, Option, Some, None, refl, sym, ◌∙◌, ap, subst, arith}
use Rattle.std.specs.Prelude.{◌&&◌, if◌then◌else◌, nat_lt, IfOk, IsTrue, Result, Ok, Err}
use Rattle.std.proofs.lemmas.Bool.{ltb-true}
use Rattle.std.proofs.lemmas.List.{append-nil}
use Rattle.volume_layout.specs.declared.layout.Layout.{Layout}
use Rattle.sector_disk.specs.Image.{IsWorn, open_damage}
use Rattle.sector_disk.specs.Machine.{Ledger, Moment, Report, Rose, Utters, took}
use Rattle.fsd_sound.specs.Lost.{AreCopiesOn, LostIn}
use Rattle.fsd_sound.specs.Writes.{MountKeeps}
use Rattle.fsd_sound.specs.declared.fault.MountFault.{MountFault}
use Rattle.fsd_sound.specs.declared.fault.MountFault.TheVariants as Refused
use Rattle.fsd_texts.specs.declared.bad_line.Cause.{Cause}
use Rattle.fsd_texts.specs.declared.script_command.ScriptCommand.{ScriptCommand}
use Rattle.fsd_texts.specs.declared.end.End.{End as ScriptEnd}
use Rattle.fsd_texts.specs.declared.end.End.TheVariants.{Done, TooLong}
use Rattle.fsd_texts.specs.declared.fault.Fault.{Fault}
use Rattle.fsd_texts.specs.declared.fault.Fault.TheVariants as Ends
use Rattle.fsd_texts.specs.Script.{Script, command_at, commands_from, max_input, needs_more, script_from, script_in, then_more}
use Rattle.fsd_texts.specs.Text.{fault_text}
use Rattle.fsd_runs.specs.Commands.{reply_text}
use Rattle.fsd_runs.specs.Errands.{Errand, fault_status}
use Rattle.fsd_runs.specs.Runs.{last_count}
use Rattle.script_text.specs.Reading.{Reading, fresh, script_left}
use Rattle.script_text.proofs.WholeLaws.{all_is_read}
use Rattle.volume_contract.specs.Mount.{IsFound, IsRefused, KeepsAll, UnsoundFor}
use Rattle.volume_contract.specs.State.{State}
use Rattle.volume_turns.specs.declared.script.Stop.{Stop}
use Rattle.volume_turns.specs.declared.script.Stop.TheVariants.{Ended, WornOut}
use Rattle.volume_turns.specs.declared.turns.Halt.{Halt}
use Rattle.volume_turns.specs.Causes.{Front, HasSpent, HasVolume, IsOfInput, Nothing, Parts, Replies, SaysOfCall, SaysOfImage, SaysOfInput, StandsBefore, TellsImage, is_of_mounted}
use Rattle.volume_turns.specs.Each.{SaysBetween}
use Rattle.volume_turns.specs.Line.{EndsWith, IsStatusFor}
use Rattle.client_desk.specs.declared.client.Client.{Client}
use Rattle.volume_turns.specs.Once.{end_by_mount}
use Rattle.volume_turns.specs.Script.{ReadsScript, WholeRead}
use Rattle.volume_turns.proofs.SaidLaws.{no_replies}
use Rattle.fsd_log.specs.Scan.{Placed}
use Rattle.sector_disk.specs.declared.machine.Machine.{Ghosts}
use Rattle.fsd_sound.specs.Mounted.{Mounted}
use Rattle.volume_turns.specs.Steps.{IsOfCall, IsOfImage, IsToldOn}
use Rattle.volume_turns.proofs.ToldLaws.{told_since}

-- ---- a fault of the image

-- where nothing was said before
pub stands_before : (kind : Front) (said front : List ℕ) → front ≡ said → StandsBefore kind said front
stands_before Replies said front same = no_replies reply_text said front same
stands_before Nothing said front same = same
stands_before Parts said front same = ([], same ∙ sym (append-nil said))

-- at its status it is the fault itself that is said
told_itself : (why : Fault) (old new : Moment) (status : ℕ) → EndsWith why old new status → status ≡ 3 → (fault_status why ≡ 3) × (new.said ≡ old.said ++ fault_text why)
told_itself why old new status (inl six) three = absurd (omega (arith, six, three))
told_itself why old new status (inr (gives, all)) three = (sym gives ∙ three, all.said)

pub of_fault : (kind : Front) (before : List ℕ) (why : Fault) (old new : Moment) (status : ℕ) → StandsBefore kind before old.said → EndsWith why old new status → status ≡ 3 → SaysOfImage kind before why new
of_fault kind before why old new status behind ended three =
    let told = told_itself why old new status ended three in
    record { status = told.0; front = old.said; behind = behind; said = told.1 }

-- a call's fault of this status is one of the image
image_of_call : (why : Fault) → IsOfCall why → fault_status why ≡ 3 → IsOfImage why
image_of_call (Ends.Lost a b) of three = tt
image_of_call (Ends.Unsound s) of three = tt
image_of_call (Ends.Device s) of three = absurd (omega (arith, three))
image_of_call Ends.Memory of three = absurd (omega (arith, three))
image_of_call Ends.WornOut of three = absurd (omega (arith, three))
image_of_call why of three = absurd of

-- what is lost as it is told stays so to its line
pub call_says : (kind : Front) (AreCopies : Layout → ℕ → ℕ → Type 0) (layout : Layout) (before : List ℕ) (why : Fault) → IsOfCall why → (old new : Moment) (status : ℕ) → StandsBefore kind before old.said → IsWorn (open_damage old.windows) old.image new.image → IsToldOn AreCopies layout old.image why
    → EndsWith why old new status → status ≡ 3 → SaysOfCall kind AreCopies layout before new
call_says kind AreCopies layout before why of old new status behind worn told ended three =
    let says = of_fault kind before why old new status behind ended three in
    record { why = why; of = image_of_call why of says.status; told = told_since AreCopies layout (open_damage old.windows) old.image new.image worn why told; says = says }

-- ---- a mount

has_volume : (sectors : ℕ) (s : State) (old mounted : Moment) → IsFound sectors s old mounted → HasVolume sectors old
has_volume sectors s old mounted f = record { seen = f.seen; from = f.from; layout = s.layout; anchor = f.anchor; found = f.found; left = f.left }

-- what was said of it as the mount ended was said before
pub call_since : (kind : Front) (AreCopies : Layout → ℕ → ℕ → Type 0) (layout : Layout) (before now : List ℕ) (new : Moment) → now ≡ before → SaysOfCall kind AreCopies layout now new → SaysOfCall kind AreCopies layout before new
call_since kind AreCopies layout before now new same says = subst (λ (x : List ℕ). SaysOfCall kind AreCopies layout x new) same says

-- the numbers of a mount are used up by so many commands that are made up
abbrev pub MaySpend : Option ℕ → Type 0
MaySpend (Some count) = last_count ≤ count
MaySpend None = ⊥

spent_mounted : (made : Option ℕ) (sectors : ℕ) (old : Moment) → HasVolume sectors old → MaySpend made → HasSpent made sectors old
spent_mounted (Some count) sectors old volume may = inl (volume, may)
spent_mounted None sectors old volume may = absurd may

pub tells_mounted : (kind : Front) (AreCopies : Layout → ℕ → ℕ → Type 0) (made : Option ℕ) (sectors : ℕ) (s : State) (old mounted new : Moment) (status : ℕ) (now : List ℕ) → now ≡ old.said → IsFound sectors s old mounted → (status ≡ 3 → SaysOfCall kind AreCopies s.layout now new) → (status ≡ 9 → MaySpend made)
    → TellsImage kind AreCopies made sectors old new status
unfolding has_volume
tells_mounted kind AreCopies made sectors s old mounted new status now same f says may =
    let volume = has_volume sectors s old mounted f in
    record {
      mounted = λ any. volume;
      refused = λ three. let x = call_since kind AreCopies s.layout old.said now new same (says three) in record { why = x.why; says = x.says; cause = inr (record { mounted = volume; of = x.of; told = x.told }) };
      spent = λ nine. spent_mounted made sectors old volume (may nine);
    }

-- no status of a mount's fault is one of a volume that is mounted
not_mounted : (fault : MountFault) → IsTrue (is_of_mounted (fault_status (end_by_mount fault))) → ⊥
not_mounted Refused.NotVolume is = cc is
not_mounted fault is = cc is

refused_not : (fault : MountFault) (status : ℕ) → IsStatusFor (end_by_mount fault) status → IsTrue (is_of_mounted status) → ⊥
refused_not fault status (inl is) any = not_mounted fault (subst (λ (n : ℕ). IsTrue (is_of_mounted n)) is any)
refused_not fault status (inr six) any = let no : IsTrue (is_of_mounted 6) = subst (λ (n : ℕ). IsTrue (is_of_mounted n)) six any in cc no

-- status 9 is that of an epoch that is the last one
worn_of : (sectors : ℕ) (old : Moment) (fault : MountFault) (status : ℕ) → IsStatusFor (end_by_mount fault) status → status ≡ 9 → IsRefused sectors fault old → IsRefused sectors Refused.WornOut old
worn_of sectors old fault status (inr six) nine refused = absurd (omega (arith, six, nine))
worn_of sectors old Refused.WornOut status (inl is) nine refused = refused
worn_of sectors old fault status (inl is) nine refused = absurd (omega (arith, is, nine))

spent_refused : (made : Option ℕ) (sectors : ℕ) (old : Moment) → IsRefused sectors Refused.WornOut old → HasSpent made sectors old
spent_refused (Some count) sectors old refused = inr refused
spent_refused None sectors old refused = refused

pub tells_refused : (kind : Front) (AreCopies : Layout → ℕ → ℕ → Type 0) (made : Option ℕ) (sectors : ℕ) (fault : MountFault) (why : Fault) (old ended new : Moment) (status : ℕ) → why ≡ end_by_mount fault → IsRefused sectors fault old → LostIn (AreCopiesOn sectors old) ended.image fault → UnsoundFor sectors old ended fault
    → KeepsAll fault old ended → MountKeeps sectors old ended → ended.said ≡ old.said → Utters (fault_text why) ended new → EndsWith why ended new status → IsStatusFor why status → TellsImage kind AreCopies made sectors old new status
tells_refused kind AreCopies made sectors fault why old ended new status is refused lost unsound kept rest same utters ends for = record {
  mounted = λ any. absurd (refused_not fault status (subst (λ (w : Fault). IsStatusFor w status) is for) any);
  refused = λ three. record {
    why = why;
    says = of_fault kind old.said why ended new status (stands_before kind old.said ended.said same) ends three;
    cause = inl (record { fault = fault; is = is; refused = refused; ended = ended; since = record { image = utters.image; windows = utters.windows }; lost = lost; unsound = unsound; kept = kept; rest = rest; said = (told_itself why ended new status ends three).1 ∙ ap (λ (x : List ℕ). x ++ fault_text why) same });
  };
  spent = λ nine. spent_refused made sectors old (worn_of sectors old fault status (subst (λ (w : Fault). IsStatusFor w status) is for) nine refused);
}

-- ---- a fault of the input

pub says_input : (why : Fault) (input : List ℕ) (a b : Report) (old new : Moment) (status : ℕ) → IsOfInput why input a b → EndsWith why old new status → status ≡ 5 → SaysOfInput input a b new
says_input why input a b old new status cause (inl six) five = absurd (omega (arith, six, five))
says_input why input a b old new status cause (inr (gives, all)) five = record { why = why; cause = cause; front = old.said; said = all.said }

-- it was so of a run that began earlier
of_input_on : (why : Fault) (a m b : Report) (old mid : List ℕ) → m.input_faults ≡ a.input_faults → mid ≡ old → IsOfInput why mid m b → IsOfInput why old a b
of_input_on Ends.Input a m b old mid counted same rose = subst (λ (n : ℕ). Rose n b.input_faults) counted rose
of_input_on Ends.InputTooLong a m b old mid counted same long = subst (λ (x : List ℕ). max_input < length x) same long
of_input_on why a m b old mid counted same is = absurd is

pub input_since : (a m b : Report) (old mid : List ℕ) (now : Moment) → m.input_faults ≡ a.input_faults → mid ≡ old → SaysOfInput mid m b now → SaysOfInput old a b now
input_since a m b old mid now counted same x = record { why = x.why; cause = of_input_on x.why a m b old mid counted same x.cause; front = x.front; said = x.said }

-- ---- an input that is too long

then_end : (ordinal : ℕ) (more : List ℕ → Script) → ((rest : List ℕ) → (more rest).1 ≡ TooLong → ⊥) → (read : Result (ScriptCommand × List ℕ) Cause) → (then_more ordinal more read).1 ≡ TooLong → ⊥
then_end ordinal more other (Err cause) is = cc is
then_end ordinal more other (Ok x) is = other x.1 is

commands_end : (most ordinal : ℕ) (bytes : List ℕ) → (commands_from most ordinal bytes).1 ≡ TooLong → ⊥
commands_end most ordinal [] is = cc is
commands_end zero ordinal (b ∷ bytes) is = cc is
commands_end (suc most) ordinal (b ∷ bytes) is = then_end ordinal (λ rest. commands_from most (ordinal + 1) rest) (λ rest. commands_end most (ordinal + 1) rest) (command_at (b ∷ bytes)) is

cut_long : (most : ℕ) (input : List ℕ) (s : Script) → (s.1 ≡ TooLong → ⊥) → (over : Bool) → nat_lt most (length input) ≡ over → (if over && needs_more s.1 then (s.0, TooLong) else s).1 ≡ TooLong → most < length input
cut_long most input s other true over end = ltb-true most (length input) over
cut_long most input s other false over end = absurd (other end)

pub long_input : (most ordinal : ℕ) (input : List ℕ) → (script_from most ordinal input).1 ≡ TooLong → most < length input
long_input most ordinal input is =
    cut_long most input (commands_from (length (take most input)) ordinal (take most input)) (commands_end (length (take most input)) ordinal (take most input)) (nat_lt most (length input)) refl is

-- ---- a script that was read

-- all that a closing volume passes on
pub passes_on : (stop : Stop) (end : ScriptEnd) (result : Result Stop Halt) → IfOk result (λ x. x ≡ stop) → result ≡ Ok (Ended end) → stop ≡ Ended end
passes_on stop end (Ok x) same is = let e : x ≡ Ended end = cc is in sym same ∙ e
passes_on stop end (Err why) same is = absurd (cc is)

-- which for a worn-out mount is no end of the script
pub worn_apart : (end : ScriptEnd) (result : Result Stop Halt) → IfOk result (λ x. x ≡ WornOut) → result ≡ Ok (Ended end) → ⊥
worn_apart end result same is = let e : WornOut ≡ Ended end = passes_on WornOut end result same is in cc e

-- what is read to its end does not stop for a worn-out mount
pub read_not_worn : {S D : Type 0} (state : S → State) (has : S → Mounted → List Placed → Type 0) (M : Ghosts D) (e : Errand) (old : S × List Client) (a : D) (new : S × List Client) (b : D) (stop : Stop) → stop ≡ WornOut → WholeRead state has M e old a new b (Ok stop) → ⊥
read_not_worn state has M e old a new b stop is whole =
    let at : WholeRead state has M e old a new b (Ok WornOut) = subst (λ (s : Stop). WholeRead state has M e old a new b (Ok s)) is whole in
    at.reads

pub read_ends : {S D : Type 0} (state : S → State) (has : S → Mounted → List Placed → Type 0) (M : Ghosts D) (e : Errand) (old : S × List Client) (a : D) (new : S × List Client) (b : D) (stop : Stop) (end : ScriptEnd) → WholeRead state has M e old a new b (Ok stop) → stop ≡ Ended end → (script_in (M.ledger a).input).1 ≡ end
read_ends state has M e old a new b stop end x is =
    let all : WholeRead state has M e old a new b (Ok (Ended end)) = subst (λ (s : Stop). WholeRead state has M e old a new b (Ok s)) is x in
    all.reads.0

-- for each of its commands a reply is said
pub read_says : {S D : Type 0} (state : S → State) (has : S → Mounted → List Placed → Type 0) (M : Ghosts D) (e : Errand) (last : Reading) (old : S × List Client) (a : D) (new : S × List Client) (b : D) (stop : Stop) (end : ScriptEnd) → ReadsScript state has M e fresh last old a new b (Ok (Some stop)) → stop ≡ Ended end → SaysBetween M e.says (script_in (M.ledger a).input).0 a b
read_says state has M e last old a new b stop end x is =
    let all : ReadsScript state has M e fresh last old a new b (Ok (Some (Ended end))) = subst (λ (s : Stop). ReadsScript state has M e fresh last old a new b (Ok (Some s))) is x in
    all.2

-- ---- an input that is taken to its end

drop_none : (n : ℕ) (xs : List ℕ) → xs ≡ [] → drop n xs ≡ []
drop_none zero xs none = none
drop_none (suc n) [] none = refl
drop_none (suc n) (x ∷ xs) none = cc none

pub none_left : (r : Reading) (before now : Ledger) (count : ℕ) → r.end ≡ None → script_left r before.input ≡ ([], Done) → now ≡ took before count → now.input ≡ []
none_left r before now count still is left =
    let all = all_is_read r before.input still is in
    ap (λ (l : Ledger). l.input) left ∙ drop_none count before.input all.1
