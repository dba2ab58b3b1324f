-- How a script that was done goes on to its status, whatever has ended it.
use Rattle.std.proofs.Common.{◌≡◌, ◌⊎◌, inl, inr, ⊎_elim, ℕ, ◌++◌, List, [], ◌∷◌, Option, Some, None, refl, sym, ◌∙◌, ap, subst, arith}
use Rattle.std.specs.Prelude.{IsTrue, IfErr, IfOk, false, Result, Ok, Err}
use Rattle.std.proofs.lemmas.Bool.{eqb-false}
use Rattle.std.proofs.Math.Dec.{eqb}
use Rattle.volume_layout.specs.declared.layout.Layout.{Layout}
use Rattle.sector_disk.specs.declared.machine.Machine.{Ghosts}
use Rattle.sector_disk.specs.Calls.{IsTimed, Since}
use Rattle.sector_disk.specs.Image.{AreShort}
use Rattle.sector_disk.specs.Machine.{Ledger, Report, Rose}
use Rattle.fsd_sound.specs.Sound.{EndIn}
use Rattle.fsd_texts.specs.declared.bad_line.BadLine.{BadLine}
use Rattle.fsd_texts.specs.declared.end.End.{End as ScriptEnd}
use Rattle.fsd_texts.specs.declared.end.End.TheVariants.{Bad, Done, TooLong}
use Rattle.fsd_texts.specs.declared.fault.Fault.{Fault}
use Rattle.fsd_texts.specs.declared.fault.Fault.TheVariants as Ends
use Rattle.fsd_texts.specs.declared.line.Line.{Line}
use Rattle.fsd_texts.specs.declared.line.Line.TheVariants as Says
use Rattle.fsd_texts.specs.Script.{max_input, script_in}
use Rattle.fsd_runs.specs.Commands.{reply_text}
use Rattle.fsd_runs.specs.declared.request.Request.TheVariants.{Script}
use Rattle.fsd_runs.specs.Errands.{Errand, fault_status, is_forced, line_turn}
use Rattle.volume_contract.specs.State.{Known}
use Rattle.scrub.specs.Telling.{AreOfPage}
use Rattle.volume_turns.specs.declared.script.Stop.{Stop}
use Rattle.volume_turns.specs.declared.script.Stop.TheVariants.{Ended, Input, WornOut}
use Rattle.volume_turns.specs.declared.turns.Halt.{Halt}
use Rattle.volume_turns.specs.declared.turns.Halt.TheVariants.{Fault as Stopped, Output}
use Rattle.volume_turns.specs.Causes.{FailsInput, Replies, SaysFaultAt, SaysOfCall, SaysOfInput, is_of_fault}
use Rattle.volume_turns.specs.Last.{EndsSo, ending_line, ending_status}
use Rattle.volume_turns.specs.Line.{EndsLast, is_unsaid}
use Rattle.volume_turns.specs.Script.{GroupsBy, Heard, RoseBy, SparesWanting}
use Rattle.volume_turns.specs.Status.{CountsTaking, IsScriptStatus}
use Rattle.volume_turns.specs.Turns.{BreaksWhole, IsEndOfVolume, IsEndOn, FaultTold}
use Rattle.volume_turns.specs.Whole.{RunsOut}
use Rattle.volume_turns.proofs.CauseLaws.{call_says, long_input, says_input}
use Rattle.volume_turns.proofs.LastLaws.{ends_fault, fault_not, line_other, told_place}
use Rattle.volume_turns.proofs.ScriptEndLaws.{but_input, group_fault, group_fault_all, group_quiet, group_said, group_unsaid, group_unsaid_all, group_worn_said, told_but}
use Rattle.volume_turns.proofs.ScriptRunLaws.{runs_either, runs_ended, runs_failed, runs_worn}
use Rattle.volume_turns.proofs.StatusLaws.{bad_is_script, call_of_volume, fault_is_script, fault_not_two, fault_some, input_is_script, script_done_counts, script_fault_counts, script_line_counts, script_unsaid_counts, volume_not_five, worn_is_script}
use Rattle.volume_turns.proofs.WornLaws.{fault_nine}

-- ---- what has ended it, by its status

fault_unsaid : (why : Fault) → is_unsaid (fault_status why) ≡ false
fault_unsaid Ends.NotVolume = refl
fault_unsaid why = refl

pub line_unsaid : (ended : Result Stop Halt) (line : Line) → ending_line ended ≡ Some line → is_unsaid (ending_status ended) ≡ false
line_unsaid (Err (Stopped why)) line is = fault_unsaid why
line_unsaid (Err Output) line is = absurd (cc is)
line_unsaid (Ok (Ended Done)) line is = refl
line_unsaid ended line is = refl

-- the numbers of a mount
pub script_spent : (P : Type 0) (ended : Result Stop Halt) → (ended ≡ Ok WornOut → P) → (ended ≡ Err (Stopped Ends.WornOut) → ⊥) → ending_status ended ≡ 9 → P
script_spent P (Ok WornOut) used unworn is = used refl
script_spent P (Err (Stopped why)) used unworn is = absurd (unworn (ap (λ (w : Fault). Err (Stopped w)) (fault_nine why is)))
script_spent P (Ok (Ended Done)) used unworn is = absurd (omega (arith, is))
script_spent P ended used unworn is = absurd (omega (arith, is))

module _ {D : Type 0} (M : Ghosts D) (a p b : D) (status : ℕ) where
  abbrev So : Result Stop Halt → Type 0
  So ended = EndsSo M (ending_line ended) (ending_status ended) p b status

  as_given : (line : Option Line) (gives : ℕ) → EndsSo M line gives p b status → (status ≡ gives) ⊎ (status ≡ 6)
  as_given (Some line) gives x = x.status_is
  as_given None gives x = inl x.0

  -- it is the status of what has ended it
  pub status_as : (n : ℕ) → eqb 6 n ≡ false → (ended : Result Stop Halt) → So ended → status ≡ n → ending_status ended ≡ n
  status_as n other ended x at = ⊎_elim (λ is. sym is ∙ at) (λ six. absurd (eqb-false 6 n other (sym six ∙ at))) (as_given (ending_line ended) (ending_status ended) x)

  -- where nothing is said, the machine is as it was
  still : (P : D → ℕ → Type 0) (gives : ℕ) → (status ≡ gives) × (b ≡ p) → P p gives → P b status
  still P gives x here = subst (λ (y : D). P y status) (sym x.1) (subst (λ (n : ℕ). P p n) (sym x.0) here)

  pub done_so : (ended : Result Stop Halt) → So ended → ending_status ended ≡ 0 → (ended ≡ Ok (Ended Done)) × (b ≡ p)
  done_so (Ok (Ended Done)) x is = (refl, x.1)
  done_so (Err (Stopped why)) x is = absurd (fault_some why is)
  done_so ended x is = absurd (omega (arith, is))

  pub bad_so : (ended : Result Stop Halt) → So ended → ending_status ended ≡ 2 → (bad : BadLine) × (ended ≡ Ok (Ended (Bad bad))) × (M.honest b → EndsLast (Says.Bad bad) 2 (M.now p) (M.now b) status)
  bad_so (Ok (Ended (Bad bad))) x is = (bad, refl, x.ends)
  bad_so (Err (Stopped why)) x is = absurd (fault_not_two why is)
  bad_so ended x is = absurd (omega (arith, is))

  -- ---- the status, and what is counted

  pub script_status : (ended : Result Stop Halt) → IfErr ended IsEndOfVolume → So ended → IsScriptStatus status
  script_status (Ok (Ended Done)) of x = inl x.0
  script_status (Ok (Ended (Bad bad))) of x = bad_is_script status x.status_is
  script_status (Ok (Ended TooLong)) of x = input_is_script status x.status_is
  script_status (Ok Input) of x = input_is_script status x.status_is
  script_status (Ok WornOut) of x = worn_is_script status x.status_is
  script_status (Err (Stopped why)) of x = fault_is_script why status (call_of_volume why of) x.status_is
  script_status (Err Output) of x = inr (inr (inr (inr x.0)))

  abbrev from : Report
  from = M.report a

  abbrev mid : Report
  mid = M.report p

  abbrev Counts : D → ℕ → Type 0
  Counts y n = CountsTaking from (M.report y) n

  pub script_counts_so : (ended : Result Stop Halt) → Heard {T = Stop} from mid ended → IfOk ended (λ stop. RoseBy from mid (Some stop)) → IfErr ended (SparesWanting from mid) → So ended → CountsTaking from (M.report b) status
  script_counts_so (Ok (Ended Done)) heard rose spare x = still Counts 0 x (script_done_counts (Ended Done) from mid heard rose)
  script_counts_so (Ok (Ended (Bad bad))) heard rose spare x = script_line_counts from mid (M.report b) status x.says.spares (Ended (Bad bad)) 2 (eqb-false 2 4 refl) (λ quiet. rose) heard x.status_is
  script_counts_so (Ok (Ended TooLong)) heard rose spare x = script_line_counts from mid (M.report b) status x.says.spares (Ended TooLong) 5 (eqb-false 5 4 refl) (λ quiet. rose) heard x.status_is
  script_counts_so (Ok Input) heard rose spare x = script_line_counts from mid (M.report b) status x.says.spares Input 5 (eqb-false 5 4 refl) (λ quiet. cc quiet) heard x.status_is
  script_counts_so (Ok WornOut) heard rose spare x = script_line_counts from mid (M.report b) status x.says.spares WornOut 9 (eqb-false 9 4 refl) (λ quiet. rose) heard x.status_is
  script_counts_so (Err (Stopped why)) heard rose spare x = script_fault_counts from mid (M.report b) status x.says.spares why spare heard x.status_is
  script_counts_so (Err Output) heard rose spare x = still Counts 6 x (script_unsaid_counts from mid heard)

  -- ---- the input

  module _ (input : List ℕ) where
    abbrev Spelled : Result Stop Halt → Type 0
    Spelled ended = (end : ScriptEnd) → ended ≡ Ok (Ended end) → (script_in input).1 ≡ end

    pub input_fails : (ended : Result Stop Halt) → IfErr ended IsEndOfVolume → IfOk ended (λ stop. RoseBy from mid (Some stop)) → Spelled ended → So ended → ending_status ended ≡ 5 → FailsInput input from (M.report b)
    input_fails (Ok Input) of rose ends x is = inl (subst (λ (n : ℕ). Rose from.input_faults n) (sym x.says.spares.input) rose)
    input_fails (Ok (Ended TooLong)) of rose ends x is = inr (long_input max_input 1 input (ends TooLong refl))
    input_fails (Err (Stopped why)) of rose ends x is = absurd (volume_not_five why (call_of_volume why of) is)
    input_fails ended of rose ends x is = absurd (omega (arith, is))

    pub input_says : (ended : Result Stop Halt) → IfErr ended IsEndOfVolume → IfOk ended (λ stop. RoseBy from mid (Some stop)) → Spelled ended → So ended → ending_status ended ≡ 5 → status ≡ 5 → M.honest b → SaysOfInput input from (M.report b) (M.now b)
    input_says (Ok Input) of rose ends x is five h =
        says_input Ends.Input input from (M.report b) (M.now p) (M.now b) status (subst (λ (n : ℕ). Rose from.input_faults n) (sym x.says.spares.input) rose) (x.ends h) five
    input_says (Ok (Ended TooLong)) of rose ends x is five h = says_input Ends.InputTooLong input from (M.report b) (M.now p) (M.now b) status (long_input max_input 1 input (ends TooLong refl)) (x.ends h) five
    input_says (Err (Stopped why)) of rose ends x is five h = absurd (volume_not_five why (call_of_volume why of) is)
    input_says ended of rose ends x is five h = absurd (omega (arith, is))

  -- ---- the fault that is said

  pub script_last : (ended : Result Stop Halt) → Heard {T = Stop} from mid ended → So ended → M.honest b → IsTrue (is_of_fault status) → SaysFaultAt (M.report b).fault_place (M.now b) status
  script_last (Ok (Ended Done)) heard x h of = absurd (fault_not 0 status refl of x.0)
  script_last (Ok (Ended (Bad bad))) heard x h of = line_other (M.report b).fault_place (M.now p) (M.now b) status (Says.Bad bad) 2 refl (x.ends h) of
  script_last (Ok (Ended TooLong)) heard x h of = ends_fault (M.report b).fault_place (M.now p) (M.now b) status Ends.InputTooLong tt (x.ends h) of
  script_last (Ok Input) heard x h of = ends_fault (M.report b).fault_place (M.now p) (M.now b) status Ends.Input tt (x.ends h) of
  script_last (Ok WornOut) heard x h of = ends_fault (M.report b).fault_place (M.now p) (M.now b) status Ends.WornOut tt (x.ends h) of
  script_last (Err (Stopped why)) heard x h of = ends_fault (M.report b).fault_place (M.now p) (M.now b) status why (told_place why from mid (M.report b) heard.disk x.says.spares.place) (x.ends h) of
  script_last (Err Output) heard x h of = absurd (fault_not 6 status refl of x.0)

  -- one of the image
  pub script_call : (l : Layout) (ended : Result Stop Halt) → IfErr ended IsEndOfVolume → BreaksWhole reply_text (M.now a) (M.now p) ended → IfErr ended (λ end. M.honest p → IsEndOn AreOfPage l (M.now p).image end) → M.honest p → So ended → ending_status ended ≡ 3 → status ≡ 3 → M.honest b
      → SaysOfCall Replies AreOfPage l (M.now a).said (M.now b)
  script_call l (Err (Stopped why)) of whole on back x is three h = call_says Replies AreOfPage l (M.now a).said why of (M.now p) (M.now b) status whole (x.says.exit h).image (on back) (x.ends h) three
  script_call l (Ok (Ended Done)) of whole on back x is three h = absurd (omega (arith, is))
  script_call l ended of whole on back x is three h = absurd (omega (arith, is))

  -- ---- what is left at each moment

  module _ (e : Errand) (says : e.says ≡ reply_text) (forces : e.forces ≡ is_forced) (k : Known) (back : M.honest p) (h : M.honest b) (since : Since M p b) (short : AreShort (M.now p).windows) (ends : EndIn (M.now a).windows k.windows) (at_p : IsTimed M p) (at_b : IsTimed M b) (same : M.ledger b ≡ M.ledger p) where
    abbrev input : List ℕ
    input = (M.ledger a).input

    abbrev rest : List ℕ
    rest = (M.ledger b).input

    abbrev before : Report
    before = but_input from mid

    pub script_runs : (ended : Result Stop Halt) → GroupsBy M e k input (M.ledger p).input a p ended → Heard {T = Stop} from mid ended → So ended → RunsOut M Script input rest from k a b status
    script_runs (Ok (Ended Done)) g heard x = still (λ y n. RunsOut M Script input (M.ledger y).input from k a y n) 0 x
        (runs_ended e says forces M input (M.ledger p).input from mid k a p 0 Done g.0 (group_quiet M before k a p back short ends at_p e (script_in input).0 g.1))
    script_runs (Ok (Ended (Bad bad))) g heard x = runs_ended e says forces M input rest from mid k a b status (Bad bad) g.0
        (group_said M before k a p b h since short ends at_p at_b status e (script_in input).0 g.1 (Says.Bad bad) 2 heard.later x.says (x.ends h))
    script_runs (Ok (Ended TooLong)) g heard x = runs_ended e says forces M input rest from mid k a b status TooLong g.0
        (group_said M before k a p b h since short ends at_p at_b status e (script_in input).0 g.1 (Says.Ended Ends.InputTooLong) 5 heard.later x.says (x.ends h))
    script_runs (Ok Input) f heard x = runs_failed e says forces M input rest from mid k a b status f.done f.front (subst (λ (n : ℕ). Rose from.input_faults n) (sym x.says.spares.input) f.rose)
        f.taken (f.all ∙ ap (λ (l : Ledger). f.taken ++ l.input) (sym same)) f.whole
        (group_said M before k a p b h since short ends at_p at_b status e f.done f.group (Says.Ended Ends.Input) 5 heard.later x.says (x.ends h))
    script_runs (Ok WornOut) g heard x = runs_worn e says forces M input rest from mid k a b status
        (group_worn_said M before k a p b h since short ends at_p at_b status e (script_in input).0 g heard.later x.says (x.ends h))
    script_runs (Err (Stopped why)) (inl g) heard x = runs_either e says forces M input rest from mid k a b status
        (λ more gives. group_fault M before k a p b h since short ends at_p at_b status e (script_in input).0 more gives why g (told_but from mid (Err (Stopped why)) heard) x.says (x.ends h))
    script_runs (Err (Stopped why)) (inr f) heard x = runs_failed e says forces M input rest from mid k a b status f.done f.front (subst (λ (n : ℕ). Rose from.input_faults n) (sym x.says.spares.input) f.rose)
        f.taken (f.all ∙ ap (λ (l : Ledger). f.taken ++ l.input) (sym same)) f.whole
        (group_fault_all M before k a p b h since short ends at_p at_b status e f.done (line_turn (Says.Ended Ends.Input) ∷ []) 5 why f.group f.uncut (told_but from mid (Err (Stopped why)) heard) x.says (x.ends h))
    script_runs (Err Output) g heard x = still (λ y n. RunsOut M Script input (M.ledger y).input from k a y n) 6 x (by g)
      where
        told : FaultTold {T = Stop} before mid (Err Output)
        told = told_but from mid (Err Output) heard

        by : GroupsBy M e k input (M.ledger p).input a p (Err Output) → RunsOut M Script input (M.ledger p).input from k a p 6
        by (inl g) = runs_either e says forces M input (M.ledger p).input from mid k a p 6 (λ more gives. group_unsaid M before k a p back short ends at_p e (script_in input).0 more gives told g)
        by (inr f) = runs_failed e says forces M input (M.ledger p).input from mid k a p 6 f.done f.front f.rose f.taken f.all f.whole
            (group_unsaid_all M before k a p back short ends at_p e f.done (line_turn (Says.Ended Ends.Input) ∷ []) 5 told f.group f.uncut)
