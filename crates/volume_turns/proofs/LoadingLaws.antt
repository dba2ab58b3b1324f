-- Versions that are made again, one after another.
use Rattle.std.proofs.Common.{◌≡◌, ℕ, ◌-◌, ◌≤◌, List, [], ◌∷◌, length, suc, take, Option, Some, None, refl, sym, ◌∙◌, ap, subst, arith}
use Rattle.std.specs.Prelude.{IsSome, Result, Ok, Err}
use Rattle.std.specs.Option.{option_or}
use Rattle.fsd_log.specs.Scan.{Placed}
use Rattle.sector_disk.specs.declared.machine.Machine.{Ghosts}
use Rattle.sector_disk.specs.Calls.{IsTimed, Since, WritesDisk}
use Rattle.sector_disk.specs.Image.{AreShort}
use Rattle.sector_disk.specs.Machine.{Moment}
use Rattle.fsd_bytes.specs.declared.refusal.Refusal.{Refusal}
use Rattle.fsd_files.specs.Desk.{Session}
use Rattle.fsd_files.specs.declared.reply.Reply.{Reply}
use Rattle.fsd_sound.specs.Mounted.{Mounted}
use Rattle.fsd_texts.specs.declared.command.Command.{Command}
use Rattle.fsd_texts.specs.declared.fault.Fault.{Fault}
use Rattle.fsd_texts.specs.declared.script_command.ScriptCommand.{ScriptCommand}
use Rattle.fsd_texts.specs.declared.script_command.ScriptCommand.TheVariants.{Plain}
use Rattle.fsd_runs.specs.Errands.{Answered, answered_so, first_refusal, refusal_of}
use Rattle.fsd_runs.specs.Runs.{answered}
use Rattle.fsd_runs.specs.Sessions.{Meeting, answer_in}
use Rattle.client_desk.specs.Clients.{no_desk}
use Rattle.volume_contract.specs.State.{State, Ages, Known, Stands}
use Rattle.volume_turns.specs.declared.turns.Halt.{Halt}
use Rattle.volume_turns.specs.declared.turns.Halt.TheVariants.{Fault as Stopped}
use Rattle.volume_turns.specs.Generate.{silent}
use Rattle.volume_turns.specs.Loading.{LoadedStep, LoadsAll, LoadsOne, NoneRefused, RanSo, RefusedFor, RunsSo}
use Rattle.volume_turns.specs.Seats.{DoesIn, IsAnsweredIn, Seated, SitsAt, StaysIn, known_of, session_in}
use Rattle.volume_turns.specs.Turns.{KeepsCalls, OnDisk, RunsTurns, Steps}
use Rattle.volume_turns.proofs.CountLaws.{never, silent_reply, silent_step}
use Rattle.volume_turns.proofs.RunLaws.{from_both, from_both_mets, runs_nil, runs_nil_mets, step_fault, step_fault_mets}

-- ---- one command, and its refusal

module _ {S D : Type 0} (state : S → State) (has : S → Mounted → List Placed → Type 0) (M : Ghosts D)
    (wears : (s : S) (k : Known) (old new : Moment) → AreShort old.windows → Ages old new → Stands state has s k old → Stands state has s k new)
    (short : (m : D) → M.honest m → AreShort (M.now m).windows)
    (timed : (m : D) → M.honest m → IsTimed M m)
    (command : Command) (v w : S) (a m : D) (k : Seated) (f : ℕ) (from : Moment) (stood_from : SitsAt state has (v, no_desk) k from) (aged : Ages from (M.now a)) (stood : SitsAt state has (v, no_desk) k (M.now a))
    (fault : Option ℕ) (disk : WritesDisk M fault (StaysIn state has (v, no_desk)) a m) (layout : (state w).layout ≡ (state v).layout) (honest : M.honest m) (held : OnDisk M (known_of k) f a) where
  pub loaded_step : (after : Seated) (reply : Reply) → IsAnsweredIn (Plain command) (state v) k after (M.now a).image (M.now m).image reply → SitsAt state has (w, no_desk) after (M.now m) → LoadedStep state has M k f from (Plain command) a m w (refusal_of reply)
  loaded_step after reply is stands = record {
    step = silent_step state has M wears short timed command v w a m k f from stood_from aged stood fault disk layout honest held after reply is stands;
    is = ap refusal_of (silent_reply state has M wears short timed command v w a m k f from stood_from aged stood fault disk layout honest held after reply is stands);
  }

  still : Since M m m
  still t left le was = was

  pub loaded_fault : (why : Fault) → DoesIn state has (Plain command) (v, no_desk) (w, no_desk) k (M.now a) (M.now m) (Err why) → (more : List ScriptCommand) → RanSo state has M k f from (Plain command ∷ more) a m w (Err (Stopped why)) NoneRefused
  loaded_fault why does more = record {
    ran = step_fault state has M wears short timed silent never (Plain command) (v, no_desk) (w, no_desk) a m m k f from stood_from aged stood fault disk honest still held why does more;
    so = subst (λ (mets : List Meeting). NoneRefused (answered mets (session_in k) (Plain command ∷ more))) (sym (step_fault_mets state has M wears short timed silent never (Plain command) (v, no_desk) (w, no_desk) a m m k f from stood_from aged stood fault disk honest still held why does more)) refl;
  }

-- ---- the first refusal

none_then : (p : Answered) (done : List Answered) → refusal_of p.reply ≡ None → NoneRefused done → NoneRefused (p ∷ done)
none_then p done none rest = ap (λ (o : Option Refusal). option_or o (first_refusal done)) none ∙ rest

refused_then : (count : ℕ) (why : Refusal) (p : Answered) (done : List Answered) → refusal_of p.reply ≡ None → RefusedFor count why done → RefusedFor (suc count) why (p ∷ done)
refused_then count why p [] none is = cc is.1
refused_then count why p (q ∷ done) none is =
    let long : length (q ∷ done) ≡ count = is.0.0 in
    let skip : (xs : List Answered) → first_refusal (p ∷ xs) ≡ first_refusal xs = λ xs. ap (λ (o : Option Refusal). option_or o (first_refusal xs)) none in
    let front : (n : ℕ) → n ≡ suc (count - 1) → first_refusal (take n (p ∷ q ∷ done)) ≡ None = λ n is_n. ap (λ (x : ℕ). first_refusal (take x (p ∷ q ∷ done))) is_n ∙ skip (take (count - 1) (q ∷ done)) ∙ is.0.1 in
    let first : first_refusal (p ∷ q ∷ done) ≡ Some why = skip (q ∷ done) ∙ is.1 in (
      (ap (λ (x : ℕ). suc x) long, front (suc count - 1) (omega (arith, long)), subst (λ (o : Option Refusal). IsSome o) (sym first) refl),
      first,
    )

alone_refused : (why : Refusal) (p : Answered) (done : List Answered) → refusal_of p.reply ≡ Some why → done ≡ [] → RefusedFor 1 why (p ∷ done)
alone_refused why p done is none =
    let first : first_refusal (p ∷ []) ≡ Some why = ap (λ (o : Option Refusal). option_or o None) is in
    subst (λ (xs : List Answered). RefusedFor 1 why (p ∷ xs)) (sym none) ((refl, refl, subst (λ (o : Option Refusal). IsSome o) (sym first) refl), first)

-- ---- one after another

module _ {S D : Type 0} (state : S → State) (has : S → Mounted → List Placed → Type 0) (M : Ghosts D) where
  module _ (v : S) (a : D) (wears : (s : S) (k : Known) (old new : Moment) → AreShort old.windows → Ages old new → Stands state has s k old → Stands state has s k new)
      (timed : M.honest a → IsTimed M a) (short : M.honest a → (from : Moment) → Ages from (M.now a) → AreShort from.windows) where
    nothing_done : RunsSo state has M [] v a v a (Ok tt) (λ done. done ≡ [])
    nothing_done honest k f from stood aged held = record {
      ran = runs_nil state has M silent (v, no_desk) a wears timed short honest k f from stood aged held;
      so = subst (λ (mets : List Meeting). answered mets (session_in k) [] ≡ []) (sym (runs_nil_mets state has M silent (v, no_desk) a wears timed short honest k f from stood aged held)) refl;
    }

    pub loads_nil : LoadsAll state has M [] v a v a (Ok None)
    loads_nil honest k f from stood aged held = let x = nothing_done honest k f from stood aged held in record { ran = x.ran; so = ap first_refusal x.so }

  -- one, and what holds of those behind it
  so_then : (command : ScriptCommand) (commands : List ScriptCommand) (v w z : S) (a m b : D) (result : Result (Unit {0}) Halt) (refused : Option Refusal) (So To : List Answered → Type 0) → ((p : Answered) (done : List Answered) → refusal_of p.reply ≡ refused → So done → To (p ∷ done))
      → KeepsCalls M m b → (M.honest m → M.moment a ≤ M.moment m) → LoadsOne state has M command v a w m (Ok refused) → RunsSo state has M commands w m z b result So → RunsSo state has M (command ∷ commands) v a z b result To
  so_then command commands v w z a m b result refused So To joins follows later one runs honest k f from stood aged held =
      let first : LoadedStep state has M k f from command a m w refused = one (follows.honest honest) k f from stood aged held in
      let rest : RanSo state has M first.step.after first.step.told first.step.mid commands m b z result So = runs honest first.step.after first.step.told first.step.mid first.step.stands first.step.ages first.step.held in
      let took : RunsTurns state has M silent commands (w, no_desk) m (z, no_desk) b result = λ h x n c s g d. (runs h x n c s g d).ran in
      let step : Steps state has M silent command (v, no_desk) a (w, no_desk) m (Ok tt) = λ h x n c s g d. (one h x n c s g d).step in
      let all : So (answered rest.ran.mets (answer_in first.step.met (session_in k) command).1 commands) = subst (λ (x : Session). So (answered rest.ran.mets x commands)) first.step.is rest.so in
      record {
        ran = from_both state has M silent command commands (v, no_desk) (w, no_desk) (z, no_desk) a m b result follows later step took honest k f from stood aged held;
        so = subst (λ (mets : List Meeting). To (answered mets (session_in k) (command ∷ commands))) (sym (from_both_mets state has M silent command commands (v, no_desk) (w, no_desk) (z, no_desk) a m b result follows later step took honest k f from stood aged held))
            (joins (answered_so (session_in k) command (answer_in first.step.met (session_in k) command).0) (answered rest.ran.mets (answer_in first.step.met (session_in k) command).1 commands) first.is all);
      }

  -- one that is loaded, and those behind it
  pub loads_then : (command : ScriptCommand) (commands : List ScriptCommand) (v w z : S) (a m b : D) (result : Result (Option Refusal) Halt) → KeepsCalls M m b → (M.honest m → M.moment a ≤ M.moment m)
      → LoadsOne state has M command v a w m (Ok None) → LoadsAll state has M commands w m z b result → LoadsAll state has M (command ∷ commands) v a z b result
  loads_then command commands v w z a m b (Ok None) follows later one runs = so_then command commands v w z a m b (Ok tt) None NoneRefused NoneRefused none_then follows later one runs
  loads_then command commands v w z a m b (Ok (Some why)) follows later one (count, runs) =
      (suc count, so_then command (take count commands) v w z a m b (Ok tt) None (RefusedFor count why) (RefusedFor (suc count) why) (refused_then count why) follows later one runs)
  loads_then command commands v w z a m b (Err end) follows later one runs = so_then command commands v w z a m b (Err end) None NoneRefused NoneRefused none_then follows later one runs

  -- one that is refused
  pub loads_refused : (command : ScriptCommand) (commands : List ScriptCommand) (v w : S) (a m : D) (why : Refusal) → ((s : S) (k : Known) (old new : Moment) → AreShort old.windows → Ages old new → Stands state has s k old → Stands state has s k new)
      → (M.honest m → IsTimed M m) → (M.honest m → (from : Moment) → Ages from (M.now m) → AreShort from.windows) → (M.honest m → M.moment a ≤ M.moment m)
      → LoadsOne state has M command v a w m (Ok (Some why)) → LoadsAll state has M (command ∷ commands) v a w m (Ok (Some why))
  loads_refused command commands v w a m why wears timed short later one =
      (1, so_then command [] v w w a m m (Ok tt) (Some why) (λ done. done ≡ []) (RefusedFor 1 why) (alone_refused why) (record { honest = λ h. h; since = λ h t left le was. was; later = λ h. omega arith }) later one (nothing_done w m wears timed short))

  -- one that a fault ends
  pub loads_stop : (command : ScriptCommand) (commands : List ScriptCommand) (v w : S) (a m : D) (end : Halt) → LoadsOne state has M command v a w m (Err end) → LoadsAll state has M (command ∷ commands) v a w m (Err end)
  loads_stop command commands v w a m end one honest k f from stood aged held = one honest k f from stood aged held commands
