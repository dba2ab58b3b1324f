-- What dumps and restores do, in words of files: a dump changes nothing, and of what a restore is given some first versions are
-- loaded, at 0 all.
use Rattle.std.proofs.Common.{◌≡◌, ◌⊎◌, inl, inr, ⊎_elim, ℕ, zero, suc, ◌-◌, ◌≤◌, Bool, true, false, List, [], ◌∷◌, ◌++◌, length, map, take, Option, Some, None, Result, Ok, Err, refl, sym, ap, subst, ◌∙◌, arith}
use Rattle.std.specs.Prelude.{IsSome, T, nat_lt, ◌==◌, if◌then◌else◌}
use Rattle.std.specs.Option.{option_or}
use Rattle.std.specs.List.{AllByRecursion, concat, flat_map, fold}
use Rattle.std.specs.FinMap.{find, is_sorted}
use Rattle.std.proofs.lemmas.List.{append-nil, length-map, take_all, take-map}
use Rattle.std.proofs.Math.Seq.{take-nil}
use Rattle.fsd_bytes.specs.declared.key.Key.{Key}
use Rattle.fsd_bytes.specs.declared.key.Serial.{Serial}
use Rattle.fsd_bytes.specs.declared.refusal.Refusal.{Refusal}
use Rattle.run_table.specs.declared.run.Run.{Run}
use Rattle.fsd_bytes.specs.Keys.{key_cmp}
use Rattle.fsd_dumps.proofs.Again.{dump_again}
use Rattle.fsd_dumps.proofs.Parts.{parts_are}
use Rattle.fsd_dumps.specs.Dump.{Dumped, dump_bytes}
use Rattle.fsd_dumps.specs.Front.{ItemsRead, dumped_in}
use Rattle.fsd_formats.specs.declared.entry.Entry.{Entry}
use Rattle.fsd_formats.specs.NamePage.{sectors_for}
use Rattle.fsd_files.proofs.EachLaws.{each_taken}
use Rattle.fsd_files.specs.Answers.{Met, load_at, load_fault, load_unless, loaded_unless, no_place, size_fault}
use Rattle.fsd_files.specs.Desk.{Session}
use Rattle.fsd_files.specs.Disk.{Image}
use Rattle.fsd_files.specs.Files.{Change, File, Files, loads_of, step}
use Rattle.fsd_files.specs.Kept.{Lists}
use Rattle.fsd_files.proofs.LoadLaws.{found_there, loaded_again}
use Rattle.fsd_files.specs.declared.reply.Reply.{Reply}
use Rattle.fsd_files.specs.declared.reply.Reply.TheVariants as Said
use Rattle.fsd_files.specs.Volume.{Volume, drawn, forced_for_place, forced_if, place_for}
use Rattle.fsd_texts.specs.declared.command.Command.TheVariants as Word
use Rattle.fsd_texts.specs.declared.fault.Fault.{Fault}
use Rattle.fsd_texts.specs.declared.fault.Fault.TheVariants as Ended
use Rattle.fsd_texts.specs.declared.line.Line.TheVariants as Says
use Rattle.fsd_texts.specs.declared.script_command.ScriptCommand.{ScriptCommand}
use Rattle.fsd_texts.specs.Script.{max_input}
use Rattle.fsd_runs.specs.declared.request.Request.TheVariants as Asks
use Rattle.fsd_runs.specs.Commands.{answer, changes_of}
use Rattle.fsd_runs.proofs.LengthLaws.{span_long}
use Rattle.fsd_runs.proofs.SpanLaws.{span_fits}
use Rattle.fsd_runs.specs.Dumps.{bytes_found, chosen, dump_length, dump_of, dumped_of, first_there, latest_of, made_before, span_of}
use Rattle.fsd_runs.specs.declared.span.Span.{Span}
use Rattle.fsd_runs.specs.Errands.{Answered, ByFault, ByRefusal, BySector, Cut, Damages, Errand, MayCut, Turn, blank, cut_off, damage_turn, dumping, fault_status, first_refusal, load_of, nothing_but, refusal_of, refusing, restore_of, restored_unless, restoring, restoring_unless, said_turn}
use Rattle.fsd_runs.specs.Runs.{IsRestoredSo, RefusesLast, answered, changes_in, said_in, turn_of, turns_of, turns_with}
use Rattle.fsd_runs.specs.Sessions.{Meeting, answer_in, session_over}
use Rattle.fsd_runs.proofs.RunLaws.{answered_none, said_parts}
use Rattle.fsd_history.specs.History.{Ends, IsFull, LoadsAll, LoadsSome, Plays, Stops, load_change, loads_read, turns_in}

-- ---- turns

-- none of these turns changes something
abbrev ChangeNone : List Turn → Type 0
ChangeNone turns = AllByRecursion (λ t. t.changes ≡ []) turns

none_changed : (turns : List Turn) → ChangeNone turns → changes_in turns ≡ []
none_changed [] each = refl
none_changed (t ∷ turns) each = ap (λ (cs : List Change). cs ++ changes_in turns) each.0 ∙ none_changed turns each.1

each_changes_none : {X : Type 0} (f : X → Turn) → ((x : X) → (f x).changes ≡ []) → (xs : List X) → ChangeNone (map f xs)
each_changes_none f none [] = tt
each_changes_none f none (x ∷ xs) = (none x, each_changes_none f none xs)

-- what is said behind the commands changes nothing
behind_none : (e : Errand) (done : List Answered) → ChangeNone (e.ends done).turns → ChangeNone (if length done == length e.commands then (e.ends done).turns else blank ∷ [])
behind_none e done none = by (length done == length e.commands)
  where
    by : (b : Bool) → ChangeNone (if b then (e.ends done).turns else blank ∷ [])
    by true = none
    by false = (refl, tt)

-- ---- dumps

module _ (since : Serial) (most : Option ℕ) (v : Volume) where
  abbrev dump_by : Result Span ℕ → Cut → Errand
  dump_by r cut = cut_off cut (dumping r v)

  none_commanded : (r : Result Span ℕ) → (dumping r v).commands ≡ []
  none_commanded (Ok span) = refl
  none_commanded (Err need) = refl

  none_answered : (r : Result Span ℕ) (cut : Cut) → MayCut (Asks.Dump since most) cut → (mets : List Meeting) → answered mets (session_over v) (dump_by r cut).commands ≡ []
  none_answered r None may mets = ap (answered mets (session_over v)) (none_commanded r) ∙ answered_none mets (session_over v)
  none_answered r (Some (Damages found)) may mets = ap (answered mets (session_over v)) (none_commanded r) ∙ answered_none mets (session_over v)
  none_answered r (Some (BySector k t)) may mets = ap (answered mets (session_over v)) (none_commanded r) ∙ answered_none mets (session_over v)
  none_answered r (Some (ByFault k why)) may mets = absurd may
  none_answered r (Some (ByRefusal k)) may mets = absurd may

  -- what is said changes nothing either
  says_none : (r : Result Span ℕ) → ChangeNone ((dumping r v).ends []).turns
  says_none (Ok span) = each_changes_none said_turn (λ x. refl) (dump_of span v)
  says_none (Err need) = (refl, tt)

  ends_none_changed : (r : Result Span ℕ) (cut : Cut) → MayCut (Asks.Dump since most) cut → ChangeNone ((dump_by r cut).ends []).turns
  ends_none_changed r None may = says_none r
  ends_none_changed r (Some (Damages found)) may = each_changes_none damage_turn (λ x. refl) found
  ends_none_changed r (Some (BySector k t)) may = each_taken (λ t. t.changes ≡ []) (suc k) ((dumping r v).ends []).turns (says_none r)
  ends_none_changed r (Some (ByFault k why)) may = absurd may
  ends_none_changed r (Some (ByRefusal k)) may = absurd may

  dump_changes_none : (r : Result Span ℕ) (cut : Cut) → MayCut (Asks.Dump since most) cut → (mets : List Meeting) → ChangeNone (turns_of (dump_by r cut) mets (session_over v))
  dump_changes_none r cut may mets = subst (λ (done : List Answered). ChangeNone (turns_with (dump_by r cut) done)) (sym (none_answered r cut may mets)) (behind_none (dump_by r cut) [] (ends_none_changed r cut may))

module _ (Shown : Image → Type 0) (since : Serial) (most : Option ℕ) (said : List ℕ) (s next : Files) where
  pub dump_ends : (status : ℕ) → Ends Shown (Asks.Dump since most) [] s said status next → next ≡ s
  dump_ends status x =
      let p = x.plays in
      x.files ∙ ap (fold step s) (none_changed (turns_in p) (dump_changes_none since most p.volume (span_of since most p.volume.entries) p.cut p.may p.mets))

  pub dump_stops : Stops Shown (Asks.Dump since most) [] s said next → next ≡ s
  dump_stops (inl (fault, is)) = is
  dump_stops (inr x) =
      let p = x.plays in
      let begun = take (suc x.whole) (turns_in p) in
      let all = dump_changes_none since most p.volume (span_of since most p.volume.entries) p.cut p.may p.mets in
      let none = none_changed begun (each_taken (λ t. t.changes ≡ []) (suc x.whole) (turns_in p) all) in
      x.files ∙ ap (λ (cs : List Change). fold step s (take x.found cs)) none ∙ ap (fold step s) (take-nil x.found)

-- ---- one load

abbrev IsLoadReply : Key → Reply → Type 0
IsLoadReply key reply = ((why : Refusal) × (reply ≡ Said.Refused why)) ⊎ (reply ≡ Said.Loaded key)

module _ (met : Met) (key : Key) (keep : ℕ) (bytes : List ℕ) where
  load_entered : (v : Volume) (runs : List Run) (serial : Serial) (o : Option Refusal) → IsLoadReply key (loaded_unless o v key keep bytes runs serial met.reached).0
  load_entered v runs serial None = inr refl
  load_entered v runs serial (Some why) = inl (why, refl)

  load_placed : (v : Volume) (need : ℕ) (o : Option (List Run)) → IsLoadReply key (load_at met v key keep bytes need o).0
  load_placed v need None = inl (no_place v need, refl)
  load_placed v need (Some runs) = load_entered (forced_if met.forces (drawn v)) runs v.serial (load_fault (forced_if met.forces (drawn v)) key)

  load_tried : (v : Volume) (o : Option Refusal) → IsLoadReply key (load_unless o met v key keep bytes).0
  load_tried v (Some why) = inl (why, refl)
  load_tried v None =
      let need = sectors_for (length bytes) in
      let at = forced_for_place need v in
      load_placed at need (place_for at need)

  load_reply : (v : Volume) → IsLoadReply key (answer met v (Word.Load key keep bytes)).0
  load_reply v = load_tried v (size_fault keep (length bytes))

-- the changes of one that is refused, and of one that is not
module _ (x : Dumped) where
  abbrev changes_by : Reply → List Change
  changes_by reply = changes_of (Word.Load x.key x.keep x.bytes) reply

  one_or_none : (reply : Reply) → IsLoadReply x.key reply → (changes_by reply ≡ []) ⊎ (changes_by reply ≡ load_change x ∷ [])
  one_or_none reply (inl (why, is)) = inl (ap changes_by is)
  one_or_none reply (inr is) = inr (ap changes_by is)

  one : (reply : Reply) → IsLoadReply x.key reply → refusal_of reply ≡ None → changes_by reply ≡ load_change x ∷ []
  one reply (inl (why, is)) none = absurd (let bad : Some why ≡ None = sym (ap refusal_of is) ∙ none in cc)
  one reply (inr is) none = ap changes_by is

-- ---- loads one after another

-- nothing is refused, but for the last one
abbrev EndsAtRefusal : List Answered → Type 0
EndsAtRefusal [] = Unit {0}
EndsAtRefusal (p ∷ done) = ((refusal_of p.reply ≡ None) × EndsAtRefusal done) ⊎ (done ≡ [])

abbrev changes_done : List Answered → List Change
changes_done done = flat_map (λ p. p.changes) done

-- some first ones of these
abbrev AreFirst : (all some : List Change) → Type 0
AreFirst all some = (count : ℕ) × (some ≡ take count all)

-- one more in front
module _ (x : Dumped) (items : List Dumped) (reply : Reply) (is : IsLoadReply x.key reply) (rest : List Answered) (m : ℕ) where
  abbrev OneMore : Type 0
  OneMore = AreFirst (load_change x ∷ map load_change items) (changes_by x reply ++ changes_done (take m rest))

  one_made : refusal_of reply ≡ None → AreFirst (map load_change items) (changes_done (take m rest)) → OneMore
  one_made none (count, behind) = (suc count, ap (λ (cs : List Change). cs ++ changes_done (take m rest)) (one x reply is none) ∙ ap (λ (cs : List Change). load_change x ∷ cs) behind)

  one_last : rest ≡ [] → OneMore
  one_last last = by (one_or_none x reply is)
    where
      alone : changes_by x reply ++ changes_done (take m rest) ≡ changes_by x reply
      alone =
          ap (λ (done : List Answered). changes_by x reply ++ changes_done (take m done)) last
          ∙ ap (λ (done : List Answered). changes_by x reply ++ changes_done done) (take-nil m)
          ∙ append-nil (changes_by x reply)

      by : (changes_by x reply ≡ []) ⊎ (changes_by x reply ≡ load_change x ∷ []) → OneMore
      by (inl none) = (0, alone ∙ none)
      by (inr made) = (1, alone ∙ made)

loads_first : (items : List Dumped) (mets : List Meeting) (s : Session) (m : ℕ) → EndsAtRefusal (answered mets s (map load_of items)) → AreFirst (map load_change items) (changes_done (take m (answered mets s (map load_of items))))
loads_first items mets s zero ends = (0, refl)
loads_first items [] s (suc m) ends = (0, refl)
loads_first [] (met ∷ mets) s (suc m) ends = (0, refl)
loads_first (x ∷ items) (met ∷ mets) s (suc m) ends =
    let out = answer_in met s (load_of x) in
    let rest = answered mets out.1 (map load_of items) in
    let is = load_reply met.met x.key x.keep x.bytes s.volume in
    ⊎_elim (λ goes. one_made x items out.0 is rest m goes.0 (loads_first items mets out.1 m goes.1)) (λ last. one_last x items out.0 is rest m last) ends

both_none : {A : Type 0} (a b : Option A) → option_or a b ≡ None → (a ≡ None) × (b ≡ None)
both_none None b none = (refl, none)
both_none (Some x) b none = absurd (let bad : Some x ≡ None = none in cc)

loads_all : (items : List Dumped) (mets : List Meeting) (s : Session) → length mets ≡ length items → first_refusal (answered mets s (map load_of items)) ≡ None → changes_done (answered mets s (map load_of items)) ≡ map load_change items
loads_all [] [] s long none = refl
loads_all [] (met ∷ mets) s long none = refl
loads_all (x ∷ items) [] s long none = absurd (omega (arith, long))
loads_all (x ∷ items) (met ∷ mets) s long none =
    let reply = (answer_in met s (load_of x)).0 in
    let next = (answer_in met s (load_of x)).1 in
    let each = both_none (refusal_of reply) (first_refusal (answered mets next (map load_of items))) none in
    ap (λ (cs : List Change). cs ++ changes_done (answered mets next (map load_of items))) (one x reply (load_reply met.met x.key x.keep x.bytes s.volume) each.0)
    ∙ ap (λ (cs : List Change). load_change x ∷ cs) (loads_all items mets next (omega (arith, long)) each.1)

-- where nothing is refused, or the last one is

none_refused : (done : List Answered) → first_refusal done ≡ None → EndsAtRefusal done
none_refused [] none = tt
none_refused (p ∷ done) none = let each = both_none (refusal_of p.reply) (first_refusal done) none in inl (each.0, none_refused done each.1)

none_left : (done : List Answered) → length done ≡ 0 → done ≡ []
none_left [] long = refl
none_left (p ∷ done) long = absurd (omega (arith, long))

last_refused : (n : ℕ) (done : List Answered) → length done ≡ suc n → first_refusal (take n done) ≡ None → EndsAtRefusal done
last_refused n [] long none = tt
last_refused zero (p ∷ done) long none = inr (none_left done (omega (arith, long)))
last_refused (suc n) (p ∷ done) long none =
    let each = both_none (refusal_of p.reply) (first_refusal (take n done)) none in
    inl (each.0, last_refused n done (omega (arith, long)) each.1)

at_refusal : (count : ℕ) (done : List Answered) → RefusesLast count done → EndsAtRefusal done
at_refusal count [] refuses = tt
at_refusal count (p ∷ done) (long, none, some) =
    let less : count - 1 ≡ length done = omega (arith, long) in
    last_refused (length done) (p ∷ done) refl (subst (λ (n : ℕ). first_refusal (take n (p ∷ done)) ≡ None) less none)

restored_so : (cut : Cut) (done : List Answered) → IsRestoredSo cut done → EndsAtRefusal done
restored_so (Some (ByRefusal k)) done so = at_refusal k done so
restored_so None done so = none_refused done so
restored_so (Some (ByFault k why)) done so = none_refused done so
restored_so (Some (Damages found)) done so = none_refused done so
restored_so (Some (BySector k t)) done so = none_refused done so

-- ---- a restore

changes_front : (e : Errand) (done : List Answered) (tail : List Turn) → ChangeNone tail → (m : ℕ) → changes_in (take m (map (turn_of e) done ++ tail)) ≡ changes_done (take m done)
changes_front e done tail none zero = refl
changes_front e [] tail none (suc m) = none_changed (take (suc m) tail) (each_taken (λ t. t.changes ≡ []) (suc m) tail none)
changes_front e (p ∷ done) tail none (suc m) = ap (λ (cs : List Change). p.changes ++ cs) (changes_front e done tail none m)

changes_whole : (e : Errand) (done : List Answered) (tail : List Turn) → ChangeNone tail → changes_in (map (turn_of e) done ++ tail) ≡ changes_done done
changes_whole e [] tail none = none_changed tail none
changes_whole e (p ∷ done) tail none = ap (λ (cs : List Change). p.changes ++ cs) (changes_whole e done tail none)

-- some first ones of some first ones
taken_twice : {A : Type 0} (n k : ℕ) (xs : List A) → (c : ℕ) × (take n (take k xs) ≡ take c xs)
taken_twice zero k xs = (0, refl)
taken_twice (suc n) zero xs = (0, refl)
taken_twice (suc n) (suc k) [] = (0, refl)
taken_twice {A = A} (suc n) (suc k) (x ∷ xs) = let more = taken_twice n k xs in (suc more.0, ap (λ (ys : List A). x ∷ ys) more.1)

-- the loads of an errand: its commands are of these versions, of which some first ones are first ones of all
record Loads (all : List Change) (e : Errand) : Type 0 where
  items : List Dumped
  commands : e.commands ≡ map load_of items
  first : (n : ℕ) → AreFirst all (take n (map load_change items))

first_loads : (all : List Dumped) (k : ℕ) (e : Errand) → e.commands ≡ take k (map load_of all) → Loads (map load_change all) e
first_loads all k e is = record {
  items = take k all;
  commands = is ∙ take-map load_of k all;
  first = λ n.
      let twice = taken_twice n k (map load_change all) in
      (twice.0, ap (take n) (sym (take-map load_change k all)) ∙ twice.1);
}

all_loads : (all : List Dumped) (e : Errand) → e.commands ≡ map load_of all → Loads (map load_change all) e
all_loads all e is = record { items = all; commands = is; first = λ n. (n, refl) }

no_loads : (all : List Change) (e : Errand) → e.commands ≡ [] → Loads all e
no_loads all e is = record { items = []; commands = is; first = λ n. (0, take-nil n) }

loads_cut : (all : List Dumped) (cut : Cut) (e : Errand) → e.commands ≡ map load_of all → Loads (map load_change all) (cut_off cut e)
loads_cut all None e is = all_loads all e is
loads_cut all (Some (ByFault k why)) e is = first_loads all k (cut_off (Some (ByFault k why)) e) (ap (take k) is)
loads_cut all (Some (ByRefusal k)) e is = first_loads all k (cut_off (Some (ByRefusal k)) e) (ap (take k) is)
loads_cut all (Some (Damages found)) e is = all_loads all (cut_off (Some (Damages found)) e) is
loads_cut all (Some (BySector k t)) e is = all_loads all (cut_off (Some (BySector k t)) e) is

still_none : (cut : Cut) (e : Errand) → e.commands ≡ [] → (cut_off cut e).commands ≡ []
still_none None e is = is
still_none (Some (ByFault k why)) e is = ap (take k) is ∙ take-nil k
still_none (Some (ByRefusal k)) e is = ap (take k) is ∙ take-nil k
still_none (Some (Damages found)) e is = is
still_none (Some (BySector k t)) e is = is

none_cut : (all : List Change) (cut : Cut) (e : Errand) → e.commands ≡ [] → Loads all (cut_off cut e)
none_cut all cut e is = no_loads all (cut_off cut e) (still_none cut e is)

-- a restore that is cut off changes nothing behind its commands, if it changes nothing there where it is not
ends_cut : (cut : Cut) → MayCut Asks.Restore cut → (e : Errand) → ((done : List Answered) → ChangeNone (e.ends done).turns) → (done : List Answered) → ChangeNone ((cut_off cut e).ends done).turns
ends_cut None may e none done = none done
ends_cut (Some (ByFault k why)) may e none done = (refl, (refl, tt))
ends_cut (Some (ByRefusal k)) may e none done = none done
ends_cut (Some (Damages found)) may e none done = absurd may
ends_cut (Some (BySector k t)) may e none done = absurd may

-- a fault that ends one has a status of its own
module _ (n : ℕ) (own : n ≡ 9 → ⊥) where
  fault_ends : (k : ℕ) (why : Fault) → MayCut Asks.Restore (Some (ByFault k why)) → n ≡ fault_status why → ⊥
  fault_ends k Ended.WornOut may is = own is
  fault_ends k why may is = absurd may

  no_end : (cut : Cut) → MayCut Asks.Restore cut → (e : Errand) (done : List Answered) → (n ≡ (e.ends done).status → ⊥) → n ≡ ((cut_off cut e).ends done).status → ⊥
  no_end None may e done other is = other is
  no_end (Some (ByFault k why)) may e done other is = fault_ends k why may is
  no_end (Some (ByRefusal k)) may e done other is = other is
  no_end (Some (Damages found)) may e done other is = may
  no_end (Some (BySector k t)) may e done other is = may

-- that of one that ended well, or for want of its input, is another
nought_own : ◌≡◌ {A = ℕ} 0 9 → ⊥
nought_own is = omega (arith, is)

five_own : ◌≡◌ {A = ℕ} 5 9 → ⊥
five_own is = omega (arith, is)

restored_none : (o : Option Refusal) (count : ℕ) → ChangeNone (restored_unless o count).turns
restored_none (Some why) count = (refl, tt)
restored_none None count = (refl, tt)

-- by whether the input is too long, and what it is
module _ (v : Volume) where
  abbrev restore_by : Bool → ItemsRead → Errand
  restore_by b read = if b then nothing_but Ended.InputTooLong else restore_of read v

  unless_none : (there : Option Key) (items : List Dumped) (done : List Answered) → ChangeNone ((restoring_unless there items).ends done).turns
  unless_none (Some key) items done = (refl, tt)
  unless_none None items done = restored_none (first_refusal done) (length done)

  ends_none : (b : Bool) (read : ItemsRead) (done : List Answered) → ChangeNone ((restore_by b read).ends done).turns
  ends_none true read done = (refl, tt)
  ends_none false (Err place) done = (refl, tt)
  ends_none false (Ok items) done = unless_none (first_there items v.entries) items done

  unless_loads : (there : Option Key) (items : List Dumped) (cut : Cut) → Loads (map load_change items) (cut_off cut (restoring_unless there items))
  unless_loads (Some key) items cut = none_cut (map load_change items) cut (refusing (Says.Exists key)) refl
  unless_loads None items cut = loads_cut items cut (restoring items) refl

  restore_loads : (b : Bool) (read : ItemsRead) (cut : Cut) → Loads (loads_read read) (cut_off cut (restore_by b read))
  restore_loads true read cut = none_cut (loads_read read) cut (nothing_but Ended.InputTooLong) refl
  restore_loads false (Err place) cut = none_cut [] cut (refusing (Says.NoDump place)) refl
  restore_loads false (Ok items) cut = unless_loads (first_there items v.entries) items cut

  -- the changes of some first turns are some first loads
  turns_first : (b : Bool) (read : ItemsRead) (cut : Cut) → MayCut Asks.Restore cut → (mets : List Meeting) → IsRestoredSo cut (answered mets (session_over v) (cut_off cut (restore_by b read)).commands)
      → (m : ℕ) → AreFirst (loads_read read) (changes_in (take m (turns_of (cut_off cut (restore_by b read)) mets (session_over v))))
  turns_first b read cut may mets so m =
      let e = cut_off cut (restore_by b read) in
      let loads = restore_loads b read cut in
      let done = answered mets (session_over v) e.commands in
      let tail = behind_none e done (ends_cut cut may (restore_by b read) (ends_none b read) done) in
      let some = subst (λ (cs : List ScriptCommand). EndsAtRefusal (answered mets (session_over v) cs)) loads.commands (restored_so cut done so) in
      let made = loads_first loads.items mets (session_over v) m some in
      let first = loads.first made.0 in (
        first.0,
        changes_front e done (if length done == length e.commands then (e.ends done).turns else blank ∷ []) tail m
            ∙ ap (λ (cs : List ScriptCommand). changes_done (take m (answered mets (session_over v) cs))) loads.commands
            ∙ made.1
            ∙ first.1,
      )

  -- of one that ends with 0 they are all
  abbrev done_by : Cut → (e : Errand) → List Meeting → List Answered
  done_by cut e mets = answered mets (session_over v) (cut_off cut e).commands

  abbrev EndsWell : Cut → (e : Errand) → List Meeting → Type 0
  EndsWell cut e mets = 0 ≡ ((cut_off cut e).ends (done_by cut e mets)).status

  unless_all : (there : Option Key) (items : List Dumped) (cut : Cut) → MayCut Asks.Restore cut → (mets : List Meeting) → length mets ≡ length (cut_off cut (restoring_unless there items)).commands
      → IsRestoredSo cut (done_by cut (restoring_unless there items) mets) → EndsWell cut (restoring_unless there items) mets → changes_done (done_by cut (restoring_unless there items) mets) ≡ map load_change items
  unless_all (Some key) items cut may mets through so nought =
      let e = refusing (Says.Exists key) in
      absurd (no_end 0 nought_own cut may e (done_by cut e mets) (λ bad. omega (arith, bad)) nought)
  unless_all None items None may mets through so nought = loads_all items mets (session_over v) (through ∙ length-map items load_of) so
  unless_all None items (Some (ByRefusal k)) may mets through so nought = absurd (by (first_refusal done) so.2 nought)
    where
      done : List Answered
      done = answered mets (session_over v) (take k (map load_of items))

      by : (o : Option Refusal) → IsSome o → 0 ≡ (restored_unless o (length done)).status → ⊥
      by (Some why) some nought = omega (arith, nought)
      by None some nought = absurd (cc some)
  unless_all None items (Some (ByFault k why)) may mets through so nought = absurd (fault_ends 0 nought_own k why may nought)
  unless_all None items (Some (Damages found)) may mets through so nought = absurd may
  unless_all None items (Some (BySector k t)) may mets through so nought = absurd may

  restore_all : (b : Bool) (read : ItemsRead) (cut : Cut) → MayCut Asks.Restore cut → (mets : List Meeting) → length mets ≡ length (cut_off cut (restore_by b read)).commands → IsRestoredSo cut (done_by cut (restore_by b read) mets)
      → EndsWell cut (restore_by b read) mets → (items : List Dumped) × (read ≡ Ok items) × (changes_done (done_by cut (restore_by b read) mets) ≡ map load_change items)
  restore_all true read cut may mets through so nought =
      let e = nothing_but Ended.InputTooLong in
      absurd (no_end 0 nought_own cut may e (done_by cut e mets) (λ bad. omega (arith, bad)) nought)
  restore_all false (Err place) cut may mets through so nought =
      let e = refusing (Says.NoDump place) in
      absurd (no_end 0 nought_own cut may e (done_by cut e mets) (λ bad. omega (arith, bad)) nought)
  restore_all false (Ok items) cut may mets through so nought = (items, refl, unless_all (first_there items v.entries) items cut may mets through so nought)

  -- of one whose input was too long there are none
  unless_five : (there : Option Key) (items : List Dumped) (done : List Answered) → 5 ≡ ((restoring_unless there items).ends done).status → ⊥
  unless_five (Some key) items done is = omega (arith, is)
  unless_five None items done is = by (first_refusal done) is
    where
      by : (o : Option Refusal) → 5 ≡ (restored_unless o (length done)).status → ⊥
      by (Some why) five = omega (arith, five)
      by None five = omega (arith, five)

  restore_five : (b : Bool) (read : ItemsRead) (cut : Cut) → MayCut Asks.Restore cut → (mets : List Meeting) → 5 ≡ ((cut_off cut (restore_by b read)).ends (done_by cut (restore_by b read) mets)).status → done_by cut (restore_by b read) mets ≡ []
  restore_five true read cut may mets is = ap (answered mets (session_over v)) (still_none cut (nothing_but Ended.InputTooLong) refl) ∙ answered_none mets (session_over v)
  restore_five false (Err place) cut may mets is =
      let e = refusing (Says.NoDump place) in
      absurd (no_end 5 five_own cut may e (done_by cut e mets) (λ bad. omega (arith, bad)) is)
  restore_five false (Ok items) cut may mets is =
      let e = restoring_unless (first_there items v.entries) items in
      absurd (no_end 5 five_own cut may e (done_by cut e mets) (unless_five (first_there items v.entries) items (done_by cut e mets)) is)

restored_first : (Shown : Image → Type 0) (input : List ℕ) (s : Files) (p : Plays Shown Asks.Restore input s) (m : ℕ) → AreFirst (loads_read (dumped_in input)) (changes_in (take m (turns_in p)))
restored_first Shown input s p m = turns_first p.volume (nat_lt max_input (length input)) (dumped_in input) p.cut p.may p.mets p.so m

pub restore_ends : (Shown : Image → Type 0) (input said : List ℕ) (s next : Files) (status : ℕ) → Ends Shown Asks.Restore input s said status next → (status ≡ 0 → LoadsAll input s next) × (status ≡ 5 → next ≡ s) × LoadsSome input s next
restore_ends Shown input said s next status x = (all, none, (some.0, x.files ∙ ap (fold step s) (sym (ap changes_in (take_all (length (turns_in p)) (turns_in p) (omega arith))) ∙ some.1)))
  where
    p : Plays Shown Asks.Restore input s
    p = x.plays

    some : AreFirst (loads_read (dumped_in input)) (changes_in (take (length (turns_in x.plays)) (turns_in x.plays)))
    some = restored_first Shown input s x.plays (length (turns_in x.plays))

    all : status ≡ 0 → LoadsAll input s next
    all nought =
        let b = nat_lt max_input (length input) in
        let v = x.plays.volume in
        let cut = x.plays.cut in
        let e = cut_off cut (restore_by v b (dumped_in input)) in
        let done = answered x.plays.mets (session_over v) e.commands in
        let made = restore_all v b (dumped_in input) cut x.plays.may x.plays.mets x.through x.plays.so (sym nought ∙ x.ends) in
        let tail = behind_none e done (ends_cut cut x.plays.may (restore_by v b (dumped_in input)) (ends_none v b (dumped_in input)) done) in
        (made.0, made.1, x.files ∙ ap (fold step s) (changes_whole e done (if length done == length e.commands then (e.ends done).turns else blank ∷ []) tail ∙ made.2))

    none : status ≡ 5 → next ≡ s
    none five =
        let b = nat_lt max_input (length input) in
        let v = x.plays.volume in
        let cut = x.plays.cut in
        let e = cut_off cut (restore_by v b (dumped_in input)) in
        let done = answered x.plays.mets (session_over v) e.commands in
        let made = restore_five v b (dumped_in input) cut x.plays.may x.plays.mets (sym five ∙ x.ends) in
        let tail = behind_none e done (ends_cut cut x.plays.may (restore_by v b (dumped_in input)) (ends_none v b (dumped_in input)) done) in
        x.files ∙ ap (fold step s) (changes_whole e done (if length done == length e.commands then (e.ends done).turns else blank ∷ []) tail ∙ ap changes_done made)

pub restore_stops : (Shown : Image → Type 0) (input said : List ℕ) (s next : Files) → Stops Shown Asks.Restore input s said next → LoadsSome input s next
restore_stops Shown input said s next (inl (fault, is)) = (0, is)
restore_stops Shown input said s next (inr x) =
    let first = restored_first Shown input s x.plays (suc x.whole) in
    let twice = taken_twice x.found first.0 (loads_read (dumped_in input)) in
    (twice.0, x.files ∙ ap (fold step s) (ap (take x.found) first.1 ∙ twice.1))

-- ---- a restore of a full dump

-- a dump that ends with 0 has said all of it, and of a span
record IsDumped (r : Result Span ℕ) (v : Volume) (said : List ℕ) : Type 0 where
  span : Span
  spans : r ≡ Ok span
  says : said ≡ concat (dump_of span v)

dump_said : (since : Serial) (most : Option ℕ) (v : Volume) (r : Result Span ℕ) (cut : Cut) → MayCut (Asks.Dump since most) cut → (mets : List Meeting)
    → 0 ≡ ((dump_by since most v r cut).ends (answered mets (session_over v) (dump_by since most v r cut).commands)).status → IsDumped r v (said_in (turns_of (dump_by since most v r cut) mets (session_over v)))
dump_said since most v (Ok span) None may mets nought = record {
  span = span;
  spans = refl;
  says = ap (λ (done : List Answered). said_in (turns_with (dump_by since most v (Ok span) None) done)) (none_answered since most v (Ok span) None may mets) ∙ said_parts (dump_of span v);
}
dump_said since most v (Err need) None may mets nought = absurd (omega (arith, nought))
dump_said since most v r (Some (Damages found)) may mets nought = absurd (omega (arith, nought))
dump_said since most v r (Some (BySector k t)) may mets nought = absurd (omega (arith, nought))
dump_said since most v r (Some (ByFault k why)) may mets nought = absurd may
dump_said since most v r (Some (ByRefusal k)) may mets nought = absurd may

module _ {Shown : Image → Type 0} {since : Serial} {most : Option ℕ} {said : List ℕ} {s next : Files} (sorted : T (is_sorted key_cmp s)) (x : Ends Shown (Asks.Dump since most) [] s said 0 next) where
  abbrev dumped : IsDumped (span_of since most x.plays.volume.entries) x.plays.volume (said_in (turns_in x.plays))
  dumped = dump_said since most x.plays.volume (span_of since most x.plays.volume.entries) x.plays.cut x.plays.may x.plays.mets x.ends

  in_order : T (is_sorted key_cmp x.plays.volume.files)
  in_order = subst (λ (f : Files). T (is_sorted key_cmp f)) (sym x.plays.fresh.files) sorted

  are_listed : Lists x.plays.volume.files x.plays.volume.entries
  are_listed = subst (λ (f : Files). Lists f x.plays.volume.entries) (sym x.plays.fresh.files) x.plays.fresh.described.lists

-- ---- of so many bytes at most

pub dump_fits : (Shown : Image → Type 0) (since : Serial) (most : ℕ) (said : List ℕ) (s next : Files) → T (is_sorted key_cmp s) → Ends Shown (Asks.Dump since (Some most)) [] s said 0 next → length said ≤ most
dump_fits Shown since most said s next sorted x =
    let d = dumped sorted x in
    let v = x.plays.volume in
    let long : length said ≡ dump_length (chosen d.span v.entries) = ap (λ (bytes : List ℕ). length bytes) (x.says ∙ d.says) ∙ span_long d.span v (in_order sorted x) (are_listed sorted x) in
    let fits = span_fits since most v.entries d.span d.spans in
    omega (arith, long, fits)

-- ---- of all versions

-- the loads of all versions are those that make the files
loads_are : (files s : Files) (entries : List Entry) → AllByRecursion (λ y. find key_cmp y.0 files ≡ Some y.1) s → Lists s entries → map load_change (map (dumped_of files) entries) ≡ loads_of s
loads_are files [] [] found lists = refl
loads_are files [] (e ∷ entries) found lists = absurd lists
loads_are files (y ∷ s) [] found lists = absurd lists
loads_are files (y ∷ s) (e ∷ entries) found lists =
    let is = lists.0 in
    ap (λ (c : Change). c ∷ map load_change (map (dumped_of files) entries)) ((λ i. Change.Load (is.key i) (is.keep i) (bytes_found (find key_cmp (is.key i) files))) ∙ ap (λ (o : Option File). Change.Load y.0 y.1.keep (bytes_found o)) found.0)
    ∙ ap (λ (cs : List Change). Change.Load y.0 y.1.keep y.1.bytes ∷ cs) (loads_are files s entries found.1 lists.1)

one_list : (xs ys : List Dumped) → ◌≡◌ {A = ItemsRead} (Ok xs) (Ok ys) → xs ≡ ys
one_list xs ys e = cc

one_span : (a b : Span) → ◌≡◌ {A = Result Span ℕ} (Ok a) (Ok b) → a ≡ b
one_span a b e = cc

pub full_restored : (Shown Other : Image → Type 0) (since : Serial) (most : Option ℕ) (said more : List ℕ) (s between next : Files) → T (is_sorted key_cmp s) → (x : Ends Shown (Asks.Dump since most) [] s said 0 between)
    → IsFull since most x.plays.volume → Ends Other Asks.Restore said [] more 0 next → next ≡ s
full_restored Shown Other since most said more s between next sorted x full y =
    let p = x.plays in
    let v = p.volume in
    let d = dumped sorted x in
    let latest = latest_of (made_before d.span.before v.entries) in
    let items = map (dumped_of v.files) v.entries in
    let all : chosen d.span v.entries ≡ v.entries = ap (λ (span : Span). chosen span v.entries) (one_span d.span full.span (sym d.spans ∙ full.spans)) ∙ full.all in
    let loaded = (restore_ends Other said more [] next 0 y).0 refl in
    let text : said ≡ dump_bytes latest items = x.says ∙ d.says ∙ parts_are latest (map (dumped_of v.files) (chosen d.span v.entries)) ∙ ap (λ (es : List Entry). dump_bytes latest (map (dumped_of v.files) es)) all in
    let same : loaded.0 ≡ items = one_list loaded.0 items (sym loaded.1 ∙ ap dumped_in text ∙ dump_again latest items full.bounded) in
    loaded.2
    ∙ ap (λ (xs : List Dumped). fold step [] (map load_change xs)) same
    ∙ ap (fold step []) (loads_are v.files v.files v.entries (found_there v.files (in_order sorted x)) (are_listed sorted x))
    ∙ loaded_again v.files (in_order sorted x)
    ∙ p.fresh.files
