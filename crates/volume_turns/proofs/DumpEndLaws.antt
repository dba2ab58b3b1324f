-- How a dump ends, over any machine: by a text and its status, by a fault, or by the output.
use Rattle.std.proofs.Common.{◌≡◌, ◌⊎◌, inl, inr, ℕ, zero, suc, ◌≤◌, false, List, [], ◌++◌, Option, None, refl, sym, ◌∙◌, ap, subst, arith}
use Rattle.std.specs.Prelude.{IsTrue, Result, Ok, Err}
use Rattle.sector_disk.specs.declared.machine.Machine.{Ghosts}
use Rattle.sector_disk.specs.Calls.{Since}
use Rattle.sector_disk.specs.Machine.{Moment, Rose, Trusts}
use Rattle.volume_layout.specs.declared.layout.Layout.{Layout}
use Rattle.fsd_bytes.specs.declared.refusal.Refusal.{Refusal}
use Rattle.fsd_bytes.specs.declared.refusal.Refusal.TheVariants as Why
use Rattle.fsd_texts.specs.declared.fault.Fault.{Fault}
use Rattle.fsd_texts.specs.declared.fault.Fault.TheVariants as Ends
use Rattle.fsd_texts.specs.declared.line.Line.TheVariants as Says
use Rattle.fsd_texts.specs.Text.{fault_text, text}
use Rattle.fsd_runs.specs.Errands.{fault_status}
use Rattle.volume_contract.specs.Order.{Comes, IsData, IsLookUp}
use Rattle.volume_contract.specs.State.{State}
use Rattle.scrub.specs.Telling.{StandTwice}
use Rattle.volume_dump.specs.Dump.{FollowsDump, ReadsAndSays, RefusesSo, TellsDump, device_in_dump, dump_steps, is_unsaid_dump}
use Rattle.volume_dump.specs.declared.fault.DumpFault.{DumpFault}
use Rattle.volume_dump.specs.declared.fault.DumpFault.TheVariants as Faults
use Rattle.volume_turns.specs.declared.turns.Halt.TheVariants.{Fault as Stopped}
use Rattle.volume_turns.specs.Causes.{Parts, SaysFaultAt, SaysOfCall, is_of_fault}
use Rattle.volume_turns.specs.Dumping.{EndsBehind, SaysAtEnd, damages_text}
use Rattle.volume_turns.specs.Line.{IsStatusAs}
use Rattle.volume_turns.specs.Status.{CountsRun, IsDumpStatus}
use Rattle.volume_turns.specs.Steps.{IsOfCall, IsToldOn, device_told}
use Rattle.volume_turns.specs.Turns.{FaultTold}
use Rattle.volume_turns.proofs.CauseLaws.{call_says}
use Rattle.volume_turns.proofs.CountLaws.{told_more}
use Rattle.volume_turns.proofs.LastLaws.{ends_fault, fault_not, told_place}
use Rattle.volume_turns.proofs.QuietLaws.{unfailed_not}
use Rattle.volume_turns.proofs.StatusLaws.{call_of_volume, fault_counts, fault_ends, line_counts, not_as}
use Rattle.volume_turns.proofs.UtterLaws.{at_end_none}

-- ---- which refusals there are

-- what a dump is refused for
abbrev pub IsOfDump : Refusal → Type 0
IsOfDump (Why.Device s) = Unit {0}
IsOfDump (Why.Lost a b) = Unit {0}
IsOfDump (Why.Unsound s) = Unit {0}
IsOfDump other = ⊥

module _ (s : State) (up : s.down ≡ None) where
  comes : (why : Refusal) → RefusesSo s why → Comes (dump_steps s) why
  comes Why.Memory so = absurd so
  comes (Why.Damaged t) so = absurd so
  comes why so = so

  look_up : (why : Refusal) → RefusesSo s why → IsLookUp why → IsOfDump why
  look_up (Why.Device t) so look = tt
  look_up (Why.Lost a b) so look = tt
  look_up (Why.Unsound t) so look = tt
  look_up Why.Memory so look = absurd so
  look_up why so look = absurd look

  data_read : (why : Refusal) → RefusesSo s why → IsData why → IsOfDump why
  data_read (Why.Device t) so read = tt
  data_read (Why.Damaged t) so read = absurd so
  data_read why so read = absurd read

  by_steps : (why : Refusal) → RefusesSo s why → Comes (dump_steps s) why → IsOfDump why
  by_steps why so (inl test) = absurd (let down = ap (λ (d : Option ℕ). d) up in cc (test, up))
  by_steps why so (inr (p, inl look)) = look_up why so look
  by_steps why so (inr (p, inr (q, inl read))) = data_read why so read
  by_steps why so (inr (p, inr (q, inr (r, none)))) = absurd none

  pub of_dump : (why : Refusal) → RefusesSo s why → IsOfDump why
  of_dump why so = by_steps why so (comes why so)

-- ---- how it ends

-- the statuses of a dump that no fault has ended
abbrev pub IsDumpGiven : ℕ → Type 0
IsDumpGiven gives = (gives ≤ 1) ⊎ (gives ≡ 8)

-- A text is said at the end, with a status that is none of a fault.
pub record EndsByText {D : Type 0} (M : Ghosts D) (a d b : D) (status : ℕ) : Type 0 where
  pub bytes : List ℕ
  pub gives : ℕ
  pub given : IsDumpGiven gives
  pub counted : FaultTold {T = Unit {0}} (M.report a) (M.report d) (Ok tt)
  pub end : SaysAtEnd M bytes gives d b status

-- A fault of the disk, of memory or of the image ends it.
pub record EndsByFault {D : Type 0} (M : Ghosts D) (l : Layout) (a d b : D) (status : ℕ) : Type 0 where
  pub why : Fault
  pub of : IsOfCall why
  pub unworn : fault_status why ≡ 9 → ⊥
  pub counted : FaultTold {T = Unit {0}} (M.report a) (M.report d) (Err (Stopped why))
  pub told : M.honest d → IsToldOn StandTwice l (M.now d).image why
  pub end : SaysAtEnd M (fault_text why) (fault_status why) d b status

-- The output has failed.
pub record EndsByOutput {D : Type 0} (M : Ghosts D) (a d b : D) (status : ℕ) : Type 0 where
  pub same : b ≡ d
  pub six : status ≡ 6
  pub sectors : (M.report d).sectors ≡ (M.report a).sectors
  pub input : (M.report d).input_faults ≡ (M.report a).input_faults
  pub rose : Rose (M.report a).output_faults (M.report d).output_faults

none_said : {D : Type 0} (M : Ghosts D) (d b : D) (status gives : ℕ) → b ≡ d → status ≡ gives → SaysAtEnd M [] gives d d gives → SaysAtEnd M [] gives d b status
none_said {D} M d b status gives same is end = subst (λ (n : ℕ). SaysAtEnd M [] gives d b n) (sym is) (subst (λ (x : D). SaysAtEnd M [] gives d x gives) (sym same) end)

module _ {D : Type 0} (M : Ghosts D) (R : Moment → Moment → Type 0) (a d : D) where
  pub no_fault : ReadsAndSays M None false R a d → FaultTold {T = Unit {0}} (M.report a) (M.report d) (Ok tt)
  no_fault x = record { sectors = x.sectors; disk = x.faults; input = x.input; later = let same = x.output in omega (arith, same); output = x.output }

  pub a_fault : (why : Fault) → ReadsAndSays M (device_told why) false R a d → FaultTold {T = Unit {0}} (M.report a) (M.report d) (Err (Stopped why))
  a_fault why x = record { sectors = x.sectors; disk = x.faults; input = x.input; later = let same = x.output in omega (arith, same); output = x.output }

module _ {D : Type 0} (M : Ghosts D) (s : State) (up : s.down ≡ None) (only : (x : D) (c : Moment) → M.honest x → M.left_since x (M.moment x) c → c ≡ M.now x) (R : Moment → Moment → Type 0) (a d b : D) (status : ℕ) where
  abbrev Ended : Type 0
  Ended = EndsByText M a d b status ⊎ (EndsByFault M s.layout a d b status ⊎ EndsByOutput M a d b status)

  ends_refused : (why : Refusal) → IsOfDump why → ReadsAndSays M (device_in_dump {T = ℕ} (Err (Faults.Refused why))) false R a d → (M.honest d → TellsDump {T = ℕ} s.layout (M.now d).image (Err (Faults.Refused why))) → EndsBehind M (Err (Faults.Refused why)) d b status → Ended
  ends_refused (Why.Device t) of disk told end = inr (inl (record { why = Ends.Device t; of = tt; unworn = λ nine. omega (arith, nine); counted = a_fault M R a d (Ends.Device t) disk; told = λ h. tt; end = end }))
  ends_refused (Why.Lost x y) of disk told end = inr (inl (record { why = Ends.Lost x y; of = tt; unworn = λ nine. omega (arith, nine); counted = a_fault M R a d (Ends.Lost x y) disk; told = told; end = end }))
  ends_refused (Why.Unsound t) of disk told end = inr (inl (record { why = Ends.Unsound t; of = tt; unworn = λ nine. omega (arith, nine); counted = a_fault M R a d (Ends.Unsound t) disk; told = told; end = end }))
  ends_refused Why.NoSuch of disk told end = inl (record { bytes = text (Says.Refused Why.NoSuch); gives = 1; given = inl (omega arith); counted = no_fault M R a d disk; end = end })
  ends_refused why of disk told end = absurd of

  pub ends_of : (r : Result ℕ DumpFault) → FollowsDump s r → ReadsAndSays M (device_in_dump r) (is_unsaid_dump r) R a d → (M.honest d → TellsDump s.layout (M.now d).image r) → EndsBehind M r d b status → Ended
  ends_of (Ok n) order disk told end = inl (record { bytes = []; gives = 0; given = inl (omega arith); counted = no_fault M R a d disk; end = none_said M d b status 0 end.0 end.1 (at_end_none 0 refl d (only d)) })
  ends_of (Err (Faults.Cut t)) order disk told end = inl (record { bytes = []; gives = 8; given = inr refl; counted = no_fault M R a d disk; end = none_said M d b status 8 end.0 end.1 (at_end_none 8 refl d (only d)) })
  ends_of (Err (Faults.Found found)) order disk told end = inl (record { bytes = damages_text found.items; gives = 8; given = inr refl; counted = no_fault M R a d disk; end = end })
  ends_of (Err Faults.Output) order disk told end = inr (inr (record { same = end.0; six = end.1; sectors = disk.sectors; input = disk.input; rose = disk.output }))
  ends_of (Err Faults.Memory) order disk told end = inr (inl (record { why = Ends.Memory; of = tt; unworn = λ nine. omega (arith, nine); counted = a_fault M R a d Ends.Memory disk; told = λ h. tt; end = end }))
  ends_of (Err (Faults.Refused why)) order disk told end = ends_refused why (of_dump s up why order) disk told end

-- ---- what any end keeps

-- What stands behind the dump asks for nothing, and what a stop might have left before it might be left still.
pub record KeepsEnd {D : Type 0} (M : Ghosts D) (d b : D) : Type 0 where
  pub trust : Trusts (M.tells d) (M.tells b) (M.honest d) (M.honest b)
  pub ledger : M.tells b → M.ledger b ≡ M.ledger d
  pub since : M.honest b → Since M d b
  pub later : M.honest b → M.moment d ≤ M.moment b

module _ {D : Type 0} (M : Ghosts D) (d b : D) (status : ℕ) where
  keeps_text : (bytes : List ℕ) (gives : ℕ) → SaysAtEnd M bytes gives d b status → KeepsEnd M d b
  keeps_text bytes gives end = record { trust = end.says.trust; ledger = end.ledger; since = end.says.since; later = λ h. (end.says.any_moment h).later }

  keeps_same : b ≡ d → KeepsEnd M d b
  keeps_same same = subst (λ (x : D). KeepsEnd M d x) (sym same) (record { trust = record { tells = λ t. t; honest = λ h. h }; ledger = λ t. refl; since = λ h t c le left. left; later = λ h. omega arith })

  pub keeps_end : (l : Layout) (a : D) → EndsByText M a d b status ⊎ (EndsByFault M l a d b status ⊎ EndsByOutput M a d b status) → KeepsEnd M d b
  keeps_end l a (inl x) = keeps_text x.bytes x.gives x.end
  keeps_end l a (inr (inl x)) = keeps_text (fault_text x.why) (fault_status x.why) x.end
  keeps_end l a (inr (inr x)) = keeps_same x.same

-- ---- the status, behind a sync

dump_given : (gives : ℕ) → IsDumpGiven gives → IsDumpStatus gives
dump_given gives (inl low) = inl low
dump_given gives (inr eight) = inr (inl eight)

given_as : (gives status : ℕ) → IsDumpGiven gives → IsStatusAs gives status → IsDumpStatus status
given_as gives status given (inl is) = subst IsDumpStatus (sym is) (dump_given gives given)
given_as gives status given (inr six) = inr (inr (inr six))

-- none of these is that of a fault
given_not : (n gives status : ℕ) → 2 ≤ n → n ≤ 5 ⊎ (n ≡ 9) → IsDumpGiven gives → IsStatusAs gives status → status ≡ n → ⊥
given_not n gives status more most (inl low) (inl is) at = omega (arith, more, low, is, at)
given_not n gives status more (inl few) (inr eight) (inl is) at = omega (arith, few, eight, is, at)
given_not n gives status more (inr nine) (inr eight) (inl is) at = omega (arith, nine, eight, is, at)
given_not n gives status more (inl few) given (inr six) at = omega (arith, few, six, at)
given_not n gives status more (inr nine) given (inr six) at = omega (arith, nine, six, at)

given_fault : (gives status : ℕ) → IsDumpGiven gives → IsStatusAs gives status → IsTrue (is_of_fault status) → ⊥
given_fault gives status given (inr six) of = fault_not 6 status refl of six
given_fault gives status (inr eight) (inl is) of = fault_not 8 status refl of (is ∙ eight)
given_fault zero status (inl low) (inl is) of = fault_not 0 status refl of is
given_fault (suc zero) status (inl low) (inl is) of = fault_not 1 status refl of is
given_fault (suc (suc n)) status (inl low) (inl is) of = absurd (omega (arith, low))

module _ {D : Type 0} (M : Ghosts D) (l : Layout) (a m d b : D) (status : ℕ) (told : FaultTold {T = Unit {0}} (M.report a) (M.report m) (Ok tt)) where
  abbrev End : Type 0
  End = EndsByText M m d b status ⊎ (EndsByFault M l m d b status ⊎ EndsByOutput M m d b status)

  pub end_status : End → IsDumpStatus status
  end_status (inl x) = given_as x.gives status x.given x.end.kind
  end_status (inr (inl x)) = inr (inr (fault_ends x.why status (call_of_volume x.why x.of) x.end.kind))
  end_status (inr (inr x)) = inr (inr (inr x.six))

  counted_text : EndsByText M m d b status → FaultTold {T = Unit {0}} (M.report a) (M.report d) (Ok tt)
  counted_text x = told_more (M.report a) (M.report m) (M.report d) tt (Ok tt) told x.counted

  counted_fault : (x : EndsByFault M l m d b status) → FaultTold {T = Unit {0}} (M.report a) (M.report d) (Err (Stopped x.why))
  counted_fault x = told_more (M.report a) (M.report m) (M.report d) tt (Err (Stopped x.why)) told x.counted

  counts_output : (x : EndsByOutput M m d b status) → CountsRun (M.report a) (M.report d) status
  counts_output x = record {
    sectors = x.sectors ∙ told.sectors;
    disk = λ four. absurd (let six = x.six in omega (arith, six, four));
    input = x.input ∙ told.input;
    output = λ six. subst (λ (n : ℕ). Rose n (M.report d).output_faults) told.output x.rose;
    quiet = λ unfailed. absurd (unfailed_not 6 status refl unfailed x.six);
  }

  pub end_counts : End → CountsRun (M.report a) (M.report b) status
  end_counts (inl x) = line_counts (M.report a) (M.report d) (M.report b) status x.end.says.spares tt x.gives (λ four. given_not 4 x.gives 4 (omega arith) (inl (omega arith)) x.given (inl (sym four)) refl) (counted_text x) x.end.kind
  end_counts (inr (inl x)) = fault_counts (M.report a) (M.report d) (M.report b) status x.end.says.spares {T = Unit {0}} x.why (counted_fault x) x.end.kind
  end_counts (inr (inr x)) = subst (λ (y : D). CountsRun (M.report a) (M.report y) status) (sym x.same) (counts_output x)

  pub end_last : End → IsTrue (is_of_fault status) → M.honest b → SaysFaultAt (M.report b).fault_place (M.now b) status
  end_last (inl x) of h = absurd (given_fault x.gives status x.given x.end.kind of)
  end_last (inr (inl x)) of h = ends_fault (M.report b).fault_place (M.now d) (M.now b) status x.why (told_place x.why (M.report a) (M.report d) (M.report b) (counted_fault x).disk x.end.says.spares.place) (x.end.ends h) of
  end_last (inr (inr x)) of h = absurd (fault_not 6 status refl of x.six)

  pub end_says : End → (front : List ℕ) → (M.now d).said ≡ (M.now a).said ++ front → M.honest b → status ≡ 3 → SaysOfCall Parts StandTwice l (M.now a).said (M.now b)
  end_says (inl x) front said h three = absurd (given_not 3 x.gives status (omega arith) (inl (omega arith)) x.given x.end.kind three)
  end_says (inr (inl x)) front said h three = call_says Parts StandTwice l (M.now a).said x.why x.of (M.now d) (M.now b) status (front, said) (x.end.says.exit h).image (x.told (x.end.says.trust.honest h)) (x.end.ends h) three
  end_says (inr (inr x)) front said h three = absurd (let six = x.six in omega (arith, six, three))

  pub end_unspent : End → status ≡ 9 → ⊥
  end_unspent (inl x) nine = given_not 9 x.gives status (omega arith) (inr refl) x.given x.end.kind nine
  end_unspent (inr (inl x)) nine = not_as 9 (fault_status x.why) status x.unworn (λ e. omega (arith, e)) x.end.kind nine
  end_unspent (inr (inr x)) nine = let six = x.six in omega (arith, six, nine)
