-- What is told of each kind of request.
use Rattle.std.proofs.Common.{◌≡◌, ◌⊎◌, inl, inr, ℕ, Bool, false, None, List, [], ◌∷◌, ◌++◌, refl, sym, ◌∙◌, ap, subst, arith}
use Rattle.std.specs.Prelude.{⊤, Option, Some, Result, Ok, Err, IsFalse, IsTrue}
use Rattle.std.proofs.lemmas.Bool.{eq-eqb}
use Rattle.std.proofs.lemmas.List.{append-nil}
use Rattle.volume_layout.specs.declared.kind.Kind.{Kind}
use Rattle.volume_layout.specs.declared.layout.Layout.{Layout}
use Rattle.volume_layout.specs.declared.fault.LayoutFault.{LayoutFault}
use Rattle.volume_layout.specs.Layout.{plan_most}
use Rattle.sector_disk.specs.declared.machine.Failed.{Failed}
use Rattle.sector_disk.specs.declared.machine.Machine.{Ghosts}
use Rattle.sector_disk.specs.Calls.{Counts, IsTimed, LeavesDisk, SparesDisk}
use Rattle.sector_disk.specs.Image.{AreShort}
use Rattle.sector_disk.specs.Machine.{Asked, Ledger, Moment, Report, Rose, Utters}
use Rattle.sector_disk.proofs.Holding.{wears_none}
use Rattle.fsd_texts.specs.declared.command.Command.{Command}
use Rattle.fsd_texts.specs.declared.command.Command.TheVariants as Word
use Rattle.fsd_texts.specs.declared.fault.Fault.TheVariants as Ends
use Rattle.fsd_texts.specs.declared.line.Line.{Line}
use Rattle.fsd_texts.specs.declared.line.Line.TheVariants as Lines
use Rattle.fsd_texts.specs.Text.{fault_text, text}
use Rattle.fsd_runs.specs.declared.request.Request.{Request}
use Rattle.fsd_runs.specs.declared.request.Request.TheVariants.{NoCommand, BadField, Format, Put, One, Script, Generate, Dump, Restore, Drill}
use Rattle.fsd_runs.specs.Errands.{IfMounts}
use Rattle.fsd_runs.specs.Leaves.{NoneRose}
use Rattle.volume_contract.specs.State.{Ages}
use Rattle.volume_turns.specs.Answering.{SaysNoReply}
use Rattle.volume_turns.proofs.AnsweringLaws.{fault_alone}
use Rattle.volume_turns.proofs.LastLaws.{ends_fault}
use Rattle.volume_turns.proofs.QuietLaws.{quiet_unfailed}
use Rattle.volume_turns.proofs.StatusLaws.{as_not_low, not_as}
use Rattle.volume_turns.specs.Line.{is_unsaid, EndsLast, EndsWith, IsStatusAs}
use Rattle.cfs_program.specs.Formatting.{AsksAll, AsksAtMost, IsFormatStatus, RunsFormat, SparesUnplanned, format_status, plan_asks}
use Rattle.cfs_program.specs.Opening.{AsksOrNot, is_from_outside, mount_asks}
use Rattle.cfs_program.specs.Program.{LeavesInput, Ran, SaysAlone, SaysAnswer, SyncsAtMost, asks_of, WritesAlone, SaysLine, SparesImage, SparesInput, complete_statuses, fault_statuses, field_line, input_for, plan_faults}
use Rattle.fsd_runs.specs.Commands.{is_status_of}
use Rattle.cfs_program.proofs.AmongLaws.{one_at}
use Rattle.cfs_program.proofs.AttachLaws.{EndsUnfound, unfound_ages, unfound_alone, unfound_asks, unfound_counts, unfound_last, unfound_leaves, unfound_outside, unfound_reading, unfound_trust}
use Rattle.cfs_program.proofs.CountsLaws.{input_alone, spares_none}
use Rattle.cfs_program.proofs.EndedLaws.{ended_run}
use Rattle.cfs_program.proofs.FoundLaws.{inside_not, not_answered, not_mounted}
use Rattle.cfs_program.proofs.FormatLaws.{untouched_by}

-- ---- a line alone

line_status : (result : ℕ) → IsStatusAs 2 result → IsTrue (is_status_of (2 ∷ 7 ∷ 6 ∷ []) result)
line_status result (inl two) = one_at (2 ∷ 7 ∷ 6 ∷ []) 2 result two refl
line_status result (inr six) = one_at (2 ∷ 7 ∷ 6 ∷ []) 6 result six refl

line_complete : (result : ℕ) → IsStatusAs 2 result → (result ≡ 6 → ⊥) → IsTrue (is_status_of (2 ∷ 7 ∷ []) result)
line_complete result (inl two) said = one_at (2 ∷ 7 ∷ []) 2 result two refl
line_complete result (inr six) said = absurd (said six)

line_says : (line : Line) (status : ℕ) (old new : Moment) (result : ℕ) → Utters (text line) old new → EndsLast line status old new result → SaysLine line status old new result
line_says line status old new result utters (inl six) = inl (six, (utters.heard, utters.said))
line_says line status old new result utters (inr (is, all)) = inr (is, all.said)

output_rose : (a b : Report) (result : ℕ) → SparesDisk false (is_unsaid result) a b → result ≡ 6 → Rose a.output_faults b.output_faults
output_rose a b result spares six = subst (λ (x : Bool). Counts x a.output_faults b.output_faults) (eq-eqb result 6 six) spares.output

-- the line of words that ask for nothing
abbrev line_for : Request → Option Line
line_for NoCommand = Some Lines.Usage
line_for (BadField cause) = Some (field_line cause)
line_for request = None

module _ {D : Type 0} (M : Ghosts D) (path : List ℕ) (a b : D) (line : Line) (result : ℕ) (says : LeavesDisk M false (is_unsaid result) (Utters (text line)) a b) (ledger : M.tells b → M.ledger b ≡ M.ledger a)
    (status : IsStatusAs 2 result) (ends : M.honest b → EndsLast line 2 (M.now a) (M.now b) result) where
  unasked : M.tells b → (M.ledger b).attaches ≡ (M.ledger a).attaches
  unasked t = ap (λ (x : Ledger). x.attaches) (ledger t)

  abbrev IsSaid : Option Line → Type 0
  IsSaid (Some told) = SaysLine told 2 (M.now a) (M.now b) result
  IsSaid None = ⊤

  pub ran_line : (request : Request) → Some line ≡ line_for request → Ran M request path a b result
  ran_line (Format n t p kind q) is = absurd (cc is)
  ran_line (Put name keep) is = absurd (cc is)
  ran_line (One command) is = absurd (cc is)
  ran_line Script is = absurd (cc is)
  ran_line (Generate seed count) is = absurd (cc is)
  ran_line (Dump since most) is = absurd (cc is)
  ran_line Restore is = absurd (cc is)
  ran_line Drill is = absurd (cc is)
  ran_line request is = record {
    status = line_status result status;
    complete = λ none. line_complete result status (λ six. none.output (output_rose (M.report a) (M.report b) result says.spares six));
    device = λ four. absurd (not_as 4 2 result (λ e. omega (arith, e)) (λ e. omega (arith, e)) status four);
    output = output_rose (M.report a) (M.report b) result says.spares;
    quiet = λ quiet. spares_none (M.report a) (M.report b) result says.spares (quiet_unfailed result quiet);
    unfailed = λ unfailed. input_alone (M.report a) (M.report b) (spares_none (M.report a) (M.report b) result says.spares unfailed);
    attaches = λ t. inr (unasked t);
    attached = λ inside t. unasked t ∙ sym (append-nil (M.ledger a).attaches);
    syncs = λ t. ap (λ (x : Ledger). x.syncs) (ledger t);
    taken = λ t. ap (λ (x : Ledger). x.input) (ledger t);
    spared = says.spares.input;
    input = λ five t. absurd (not_as 5 2 result (λ e. omega (arith, e)) (λ e. omega (arith, e)) status five);
    fails = λ five h. absurd (not_as 5 2 result (λ e. omega (arith, e)) (λ e. omega (arith, e)) status five);
    bad = λ two h. tt;
    whole = λ zero t. tt;
    spelled = λ zero t. tt;
    one = λ h. tt;
    rest = λ h. tt;
    trust = says.trust;
    says = λ h. inl (subst IsSaid is (line_says line 2 (M.now a) (M.now b) result (says.exit h) (ends h)));
    healed = λ of h. tt;
    mounted = λ any h. tt;
    refused = λ three h. absurd (not_as 3 2 result (λ e. omega (arith, e)) (λ e. omega (arith, e)) status three);
    accepted = λ h l windows changes f sound three. not_as 3 2 result (λ e. omega (arith, e)) (λ e. omega (arith, e)) status three;
    spent = λ nine h. absurd (not_as 9 2 result (λ e. omega (arith, e)) (λ e. omega (arith, e)) status nine);
    last = λ of h. tt;
    all = λ none h. tt;
    image = λ none h. not_as 0 2 result (λ e. omega (arith, e)) (λ e. omega (arith, e)) status none;
    untouched = λ h. untouched_by line (M.now a) (M.now b) (says.exit h);
    leaves = λ h was sound held. tt;
  }

-- ---- refused memory, before anything is known of the words

-- its status is one of each request
seven_format : (planned : Result Layout LayoutFault) → IsTrue (is_status_of (format_status planned ∷ 7 ∷ []) 7) × IsTrue (is_status_of ((format_status planned ∷ 7 ∷ []) ++ plan_faults planned) 7)
seven_format (Ok l) = (refl, refl)
seven_format (Err why) = (refl, refl)

six_format : (planned : Result Layout LayoutFault) → IsTrue (is_status_of ((format_status planned ∷ 7 ∷ []) ++ plan_faults planned) 6)
six_format (Ok l) = refl
six_format (Err why) = refl

seven_one : (command : Command) → IsTrue (is_status_of (complete_statuses (One command)) 7) × IsTrue (is_status_of (complete_statuses (One command) ++ fault_statuses (One command)) 7)
seven_one (Word.Put name bytes keep) = (refl, refl)
seven_one command = (refl, refl)

six_one : (command : Command) → IsTrue (is_status_of (complete_statuses (One command) ++ fault_statuses (One command)) 6)
six_one (Word.Put name bytes keep) = refl
six_one command = refl

seven_is : (request : Request) → IsTrue (is_status_of (complete_statuses request) 7) × IsTrue (is_status_of (complete_statuses request ++ fault_statuses request) 7)
seven_is (Format n t p kind q) = seven_format (plan_most kind n t p q)
seven_is (One command) = seven_one command
seven_is other = (refl, refl)

six_is : (request : Request) → IsTrue (is_status_of (complete_statuses request ++ fault_statuses request) 6)
six_is (Format n t p kind q) = six_format (plan_most kind n t p q)
six_is (One command) = six_one command
six_is other = refl

memory_status : (request : Request) (result : ℕ) → IsStatusAs 7 result → IsTrue (is_status_of (complete_statuses request ++ fault_statuses request) result)
memory_status request result (inl seven) = one_at (complete_statuses request ++ fault_statuses request) 7 result seven (seven_is request).1
memory_status request result (inr six) = one_at (complete_statuses request ++ fault_statuses request) 6 result six (six_is request)

memory_complete : (request : Request) (result : ℕ) → IsStatusAs 7 result → (result ≡ 6 → ⊥) → IsTrue (is_status_of (complete_statuses request) result)
memory_complete request result (inl seven) said = one_at (complete_statuses request) 7 result seven (seven_is request).0
memory_complete request result (inr six) said = absurd (said six)

spares_plan : (planned : Result Layout LayoutFault) (old new : Moment) → Ages old new → SparesUnplanned planned old new
spares_plan (Ok l) old new still = tt
spares_plan (Err why) old new still = still

spares_image : (request : Request) (old new : Moment) → Ages old new → SparesImage request old new
spares_image NoCommand old new still = still
spares_image (BadField cause) old new still = still
spares_image (Format n t p kind q) old new still = spares_plan (plan_most kind n t p q) old new still
spares_image Drill old new still = still
spares_image request old new still = tt

if_mounts : (request : Request) (P : Type 0) → P → IfMounts request P
if_mounts (Put name keep) P p = p
if_mounts (One command) P p = p
if_mounts Script P p = p
if_mounts (Generate seed count) P p = p
if_mounts (Dump since most) P p = p
if_mounts Restore P p = p
if_mounts request P p = tt

input_left : (request : Request) (old new : List ℕ) → new ≡ old → LeavesInput request old new
input_left (Put name keep) old new same = tt
input_left Script old new same = tt
input_left Restore old new same = tt
input_left request old new same = same

memory_one : (request : Request) (input : List ℕ) (old new : Moment) (result : ℕ) → SaysNoReply old new result → SaysAlone request input old new result
memory_one (Put name keep) input old new result says = inr says
memory_one (One command) input old new result says = inr says
memory_one request input old new result says = tt

memory_rest : (request : Request) (old new : Moment) → Ages old new → WritesAlone request old new
memory_rest (One command) old new still = inl still
memory_rest request old new still = tt

input_spared : (request : Request) (old new : Report) → new.input_faults ≡ old.input_faults → SparesInput request old new
input_spared (Put name keep) old new same = tt
input_spared Script old new same = tt
input_spared Restore old new same = tt
input_spared request old new same = same

syncs_none : (request : Request) (Honest : Type 0) (old new : Ledger) → new.syncs ≡ old.syncs → SyncsAtMost request Honest old new
syncs_none (Put name keep) Honest old new same = omega (arith, same)
syncs_none (One command) Honest old new same = omega (arith, same)
syncs_none (Generate seed count) Honest old new same = omega (arith, same)
syncs_none (Dump since most) Honest old new same = omega (arith, same)
syncs_none Restore Honest old new same = omega (arith, same)
syncs_none Script Honest old new same = λ h. omega (arith, same)
syncs_none request Honest old new same = same

module _ {D : Type 0} (M : Ghosts D) (request : Request) (path : List ℕ) (a b : D) (result : ℕ) (says : LeavesDisk M false (is_unsaid result) (Utters (fault_text Ends.Memory)) a b)
    (ledger : M.tells b → M.ledger b ≡ M.ledger a) (status : IsStatusAs 7 result) (ends : M.honest b → EndsWith Ends.Memory (M.now a) (M.now b) result)
    (short : M.honest a → AreShort (M.now a).windows) (timed : (m : D) → M.honest m → IsTimed M m) where
  not_zero : result ≡ 0 → ⊥
  not_zero = not_as 0 7 result (λ e. omega (arith, e)) (λ e. omega (arith, e)) status

  pub ran_memory : Ran M request path a b result
  ran_memory = record {
    status = memory_status request result status;
    complete = λ none. memory_complete request result status (λ six. none.output (output_rose (M.report a) (M.report b) result says.spares six));
    device = λ four. absurd (not_as 4 7 result (λ e. omega (arith, e)) (λ e. omega (arith, e)) status four);
    output = output_rose (M.report a) (M.report b) result says.spares;
    quiet = λ quiet. spares_none (M.report a) (M.report b) result says.spares (quiet_unfailed result quiet);
    unfailed = λ unfailed. input_alone (M.report a) (M.report b) (spares_none (M.report a) (M.report b) result says.spares unfailed);
    attaches = λ t. inr (ap (λ (x : Ledger). x.attaches) (ledger t));
    attached = λ inside t. absurd (inside_not result status inside);
    syncs = λ t. syncs_none request (M.honest b) (M.ledger a) (M.ledger b) (ap (λ (x : Ledger). x.syncs) (ledger t));
    taken = λ t. input_left request (M.ledger a).input (M.ledger b).input (ap (λ (x : Ledger). x.input) (ledger t));
    spared = input_spared request (M.report a) (M.report b) says.spares.input;
    input = λ five t. absurd (not_as 5 7 result (λ e. omega (arith, e)) (λ e. omega (arith, e)) status five);
    fails = λ five h. absurd (not_as 5 7 result (λ e. omega (arith, e)) (λ e. omega (arith, e)) status five);
    bad = λ two h. absurd (not_as 2 7 result (λ e. omega (arith, e)) (λ e. omega (arith, e)) status two);
    whole = λ low t. absurd (as_not_low 7 result (omega arith) status low);
    spelled = λ zero t. absurd (not_zero zero);
    one = λ h. memory_one request (M.ledger a).input (M.now a) (M.now b) result (fault_alone Ends.Memory (M.now a) (M.now a) (M.now b) result refl (ends h));
    rest = λ h. memory_rest request (M.now a) (M.now b) (untouched_by (Lines.Ended Ends.Memory) (M.now a) (M.now b) (says.exit h));
    trust = says.trust;
    says = λ h. inr (line_says (Lines.Ended Ends.Memory) 7 (M.now a) (M.now b) result (says.exit h) (ends h), untouched_by (Lines.Ended Ends.Memory) (M.now a) (M.now b) (says.exit h));
    healed = λ of h. absurd (not_answered 7 result status refl of);
    mounted = λ any h. absurd (not_mounted 7 result status refl any);
    refused = λ three h. absurd (not_as 3 7 result (λ e. omega (arith, e)) (λ e. omega (arith, e)) status three);
    accepted = λ h l windows changes f sound three. not_as 3 7 result (λ e. omega (arith, e)) (λ e. omega (arith, e)) status three;
    spent = λ nine h. absurd (not_as 9 7 result (λ e. omega (arith, e)) (λ e. omega (arith, e)) status nine);
    last = λ of h. if_mounts request _ (ends_fault (M.report b).fault_place (M.now a) (M.now b) result Ends.Memory tt (ends h) of);
    all = λ zero h. absurd (not_zero zero);
    image = λ zero h. absurd (not_zero zero);
    untouched = λ h. spares_image request (M.now a) (M.now b) (untouched_by (Lines.Ended Ends.Memory) (M.now a) (M.now b) (says.exit h));
    leaves = λ h was sound held. if_mounts request _ (ended_run M request (input_for request (M.ledger a).input) (M.ledger b).input was.layout was.windows was.changes was.forced a a b Ends.Memory tt result sound
        (short (says.trust.honest h)) (timed a (says.trust.honest h)) (timed b h) held (record { later = omega arith; nothing_else = λ t c le was. inl was; keeps = λ t c le was. was }) (wears_none (M.now a)) says h (ends h) tt (omega arith));
  }

-- ---- an image that was not found

four_one : (command : Command) → IsTrue (is_status_of (complete_statuses (One command) ++ fault_statuses (One command)) 4)
four_one (Word.Put name bytes keep) = refl
four_one command = refl

module _ {D : Type 0} {M : Ghosts D} {path : List ℕ} {failed : Failed} {a b z : D} {status : ℕ} (x : EndsUnfound M path failed a b z status)
    (short : M.honest a → AreShort (M.now a).windows) (timed : (m : D) → M.honest m → IsTimed M m) where
  module _ (request : Request) (four : IsTrue (is_status_of (complete_statuses request ++ fault_statuses request) 4)) (asks : asks_of request path ≡ mount_asks path)
      (no_answer : SaysAnswer request (M.report z).fault_place (M.now a) (M.now z) status) where
    among : IsStatusAs 4 status → IsTrue (is_status_of (complete_statuses request ++ fault_statuses request) status)
    among (inl is) = one_at (complete_statuses request ++ fault_statuses request) 4 status is four
    among (inr six) = one_at (complete_statuses request ++ fault_statuses request) 6 status six (six_is request)

    counted : IsStatusAs 4 status → NoneRose (M.report a) (M.report z) → ⊥
    counted (inl is) none = none.disk ((unfound_counts x).disk is)
    counted (inr six) none = none.output ((unfound_counts x).output six)

    ran_failed : Ran M request path a z status
    ran_failed = record {
      status = among x.for;
      complete = λ none. absurd (counted x.for none);
      device = (unfound_counts x).disk;
      output = (unfound_counts x).output;
      quiet = (unfound_reading x).quiet;
      unfailed = (unfound_reading x).unfailed;
      attaches = λ t. subst (λ (asked : List Asked). AsksOrNot asked (M.ledger a).attaches (M.ledger z).attaches) (sym asks) (unfound_asks x t).attaches;
      attached = λ inside t. absurd (unfound_outside x inside);
      syncs = λ t. syncs_none request (M.honest z) (M.ledger a) (M.ledger z) (unfound_asks x t).syncs;
      taken = λ t. input_left request (M.ledger a).input (M.ledger z).input (unfound_asks x t).input;
      spared = input_spared request (M.report a) (M.report z) (unfound_counts x).input;
      input = λ five t. absurd (not_as 5 4 status (λ e. omega (arith, e)) (λ e. omega (arith, e)) x.for five);
      fails = λ five h. absurd (not_as 5 4 status (λ e. omega (arith, e)) (λ e. omega (arith, e)) x.for five);
      bad = λ two h. absurd (not_as 2 4 status (λ e. omega (arith, e)) (λ e. omega (arith, e)) x.for two);
      whole = λ low t. absurd (as_not_low 4 status (omega arith) x.for low);
      spelled = λ zero t. absurd (not_as 0 4 status (λ e. omega (arith, e)) (λ e. omega (arith, e)) x.for zero);
      trust = unfound_trust x;
      says = λ h. inl no_answer;
      one = λ h. memory_one request (M.ledger a).input (M.now a) (M.now z) status (unfound_alone x h);
      rest = λ h. memory_rest request (M.now a) (M.now z) (unfound_ages x h);
      healed = λ of h. absurd (not_answered 4 status x.for refl of);
      mounted = λ any h. absurd (not_mounted 4 status x.for refl any);
      refused = λ three h. absurd (not_as 3 4 status (λ e. omega (arith, e)) (λ e. omega (arith, e)) x.for three);
      last = λ of h. if_mounts request _ (unfound_last x of h);
      spent = λ nine h. absurd (not_as 9 4 status (λ e. omega (arith, e)) (λ e. omega (arith, e)) x.for nine);
      all = λ zero h. absurd (not_as 0 4 status (λ e. omega (arith, e)) (λ e. omega (arith, e)) x.for zero);
      image = λ zero h. absurd (not_as 0 4 status (λ e. omega (arith, e)) (λ e. omega (arith, e)) x.for zero);
      untouched = λ h. spares_image request (M.now a) (M.now z) (unfound_ages x h);
      leaves = λ h was sound held. if_mounts request _ (unfound_leaves x request (input_for request (M.ledger a).input) (M.ledger z).input was h short timed sound held);
      accepted = λ h l windows changes f sound three. not_as 3 4 status (λ e. omega (arith, e)) (λ e. omega (arith, e)) x.for three;
    }

  pub ran_unfound : (request : Request) → IfMounts request (Ran M request path a z status)
  ran_unfound (Put name keep) = ran_failed (Put name keep) refl refl tt
  ran_unfound (One command) = ran_failed (One command) (four_one command) refl tt
  ran_unfound Script = ran_failed Script refl refl tt
  ran_unfound (Generate seed count) = ran_failed (Generate seed count) refl refl tt
  ran_unfound (Dump since most) = ran_failed (Dump since most) refl refl tt
  ran_unfound Restore = ran_failed Restore refl refl tt
  ran_unfound request = tt

-- ---- a format

format_status_is : (planned : Result Layout LayoutFault) (result : ℕ) → IsFormatStatus planned result → IsTrue (is_status_of ((format_status planned ∷ 7 ∷ []) ++ plan_faults planned) result)
format_status_is (Ok l) result (inl zero) = one_at (0 ∷ 7 ∷ 4 ∷ 6 ∷ []) 0 result zero refl
format_status_is (Ok l) result (inr (inl four)) = one_at (0 ∷ 7 ∷ 4 ∷ 6 ∷ []) 4 result four refl
format_status_is (Ok l) result (inr (inr six)) = one_at (0 ∷ 7 ∷ 4 ∷ 6 ∷ []) 6 result six refl
format_status_is (Err why) result (inl one) = one_at (1 ∷ 7 ∷ 6 ∷ []) 1 result one refl
format_status_is (Err why) result (inr six) = one_at (1 ∷ 7 ∷ 6 ∷ []) 6 result six refl

format_complete : (planned : Result Layout LayoutFault) (result : ℕ) → IsFormatStatus planned result → (result ≡ 4 → ⊥) → (result ≡ 6 → ⊥) → IsTrue (is_status_of (format_status planned ∷ 7 ∷ []) result)
format_complete (Ok l) result (inl zero) disk said = one_at (0 ∷ 7 ∷ []) 0 result zero refl
format_complete (Ok l) result (inr (inl four)) disk said = absurd (disk four)
format_complete (Ok l) result (inr (inr six)) disk said = absurd (said six)
format_complete (Err why) result (inl one) disk said = one_at (1 ∷ 7 ∷ []) 1 result one refl
format_complete (Err why) result (inr six) disk said = absurd (said six)

format_not : (n : ℕ) (planned : Result Layout LayoutFault) (result : ℕ) → IsFormatStatus planned result → (n ≡ 0 → ⊥) → (n ≡ 1 → ⊥) → (n ≡ 4 → ⊥) → (n ≡ 6 → ⊥) → result ≡ n → ⊥
format_not n (Ok l) result (inl zero) a b c d at = a (sym at ∙ zero)
format_not n (Err why) result (inl one) a b c d at = b (sym at ∙ one)
format_not n (Ok l) result (inr (inl four)) a b c d at = c (sym at ∙ four)
format_not n (Ok l) result (inr (inr six)) a b c d at = d (sym at ∙ six)
format_not n (Err why) result (inr six) a b c d at = d (sym at ∙ six)

-- all that it asks for is asked, but where a call of the outside failed
outside_at : (n result : ℕ) → IsTrue (is_from_outside n) → result ≡ n → IsFalse (is_from_outside result) → ⊥
outside_at n result out at inside = let other : IsFalse (is_from_outside n) = subst (λ (x : ℕ). IsFalse (is_from_outside x)) at inside in cc (out, other)

format_asked : (planned : Result Layout LayoutFault) (path : List ℕ) (old new : Ledger) (result : ℕ) → IsFormatStatus planned result → AsksAtMost (plan_asks planned path) old new → (result ≡ 0 → AsksAll (plan_asks planned path) old new)
    → IsFalse (is_from_outside result) → new.attaches ≡ old.attaches ++ plan_asks planned path
format_asked (Ok l) path old new result (inl zero) asks all inside = (all zero).attaches
format_asked (Ok l) path old new result (inr (inl four)) asks all inside = absurd (outside_at 4 result refl four inside)
format_asked (Ok l) path old new result (inr (inr six)) asks all inside = absurd (outside_at 6 result refl six inside)
format_asked (Err why) path old new result status asks all inside = none asks.attaches
  where
    none : (new.attaches ≡ old.attaches ++ []) ⊎ (new.attaches ≡ old.attaches) → new.attaches ≡ old.attaches ++ []
    none (inl same) = same
    none (inr same) = same ∙ sym (append-nil old.attaches)

pub ran_format : {D : Type 0} (M : Ghosts D) (n t p q : ℕ) (kind : Kind) (path : List ℕ) (a b : D) (result : ℕ) → RunsFormat M (plan_most kind n t p q) path a b result → Ran M (Format n t p kind q) path a b result
ran_format M n t p q kind path a b result e = record {
  status = format_status_is (plan_most kind n t p q) result e.status;
  complete = λ none. format_complete (plan_most kind n t p q) result e.status (λ four. none.disk (e.counts.disk four)) (λ six. none.output (e.counts.output six));
  device = e.counts.disk;
  output = e.counts.output;
  quiet = λ quiet. e.counts.quiet (quiet_unfailed result quiet);
  unfailed = λ unfailed. input_alone (M.report a) (M.report b) (e.counts.quiet unfailed);
  attaches = λ t. (e.asks t).attaches;
  attached = λ inside told. format_asked (plan_most kind n t p q) path (M.ledger a) (M.ledger b) result e.status (e.asks told) (λ zero. e.asked zero told) inside;
  syncs = λ t. (e.asks t).syncs;
  taken = λ t. (e.asks t).input;
  spared = e.counts.input;
  input = λ five told. absurd (format_not 5 (plan_most kind n t p q) result e.status (λ e. omega (arith, e)) (λ e. omega (arith, e)) (λ e. omega (arith, e)) (λ e. omega (arith, e)) five);
  fails = λ five h. absurd (format_not 5 (plan_most kind n t p q) result e.status (λ e. omega (arith, e)) (λ e. omega (arith, e)) (λ e. omega (arith, e)) (λ e. omega (arith, e)) five);
  bad = λ two h. tt;
  whole = λ zero t. tt;
  spelled = λ zero t. tt;
  trust = e.trust;
  says = λ h. inl (e.says h);
  healed = λ of h. tt;
  mounted = λ any h. tt;
  refused = λ three h. absurd (format_not 3 (plan_most kind n t p q) result e.status (λ e. omega (arith, e)) (λ e. omega (arith, e)) (λ e. omega (arith, e)) (λ e. omega (arith, e)) three);
  accepted = λ h l windows changes f sound three. format_not 3 (plan_most kind n t p q) result e.status (λ e. omega (arith, e)) (λ e. omega (arith, e)) (λ e. omega (arith, e)) (λ e. omega (arith, e)) three;
  spent = λ nine h. absurd (format_not 9 (plan_most kind n t p q) result e.status (λ e. omega (arith, e)) (λ e. omega (arith, e)) (λ e. omega (arith, e)) (λ e. omega (arith, e)) nine);
  last = λ of h. tt;
  all = λ zero h. tt;
  image = e.made;
  untouched = e.untouched;
  one = λ h. tt;
  rest = λ h. tt;
  leaves = λ h was sound held. tt;
}
