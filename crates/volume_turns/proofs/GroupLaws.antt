-- A group of commands, with the force behind it.
use Rattle.std.proofs.Common.{◌≡◌, ℕ, ◌≤◌, Bool, true, false, List, [], ◌∷◌, ◌++◌, length, Some, refl, sym, ◌∙◌, ap, subst, arith, append_assoc}
use Rattle.fsd_log.specs.Scan.{Placed}
use Rattle.std.specs.Prelude.{⊤, not, IfOk, Result, Ok, Err}
use Rattle.std.proofs.lemmas.Bool.{eq-eqb}
use Rattle.volume_layout.specs.declared.layout.Layout.{Layout}
use Rattle.sector_disk.specs.declared.machine.Machine.{Ghosts}
use Rattle.sector_disk.specs.declared.sector.WeakRun.{WeakRun}
use Rattle.sector_disk.specs.Image.{AllWorn}
use Rattle.sector_disk.specs.Machine.{Moment}
use Rattle.sector_disk.proofs.Moments.{then_on, leaves_more}
use Rattle.fsd_files.specs.Desk.{Session, no_clients}
use Rattle.fsd_files.specs.Disk.{Image, Sectors, in_runs}
use Rattle.fsd_files.specs.Files.{Change}
use Rattle.fsd_files.specs.Volume.{Volume}
use Rattle.fsd_sound.specs.Laid.{HasOwnRoots}
use Rattle.fsd_sound.specs.Mounted.{Mounted, telling_of}
use Rattle.fsd_sound.specs.Shown.{told}
use Rattle.fsd_sound.specs.Sound.{IsSound, weak_of}
use Rattle.fsd_texts.specs.declared.script_command.ScriptCommand.{ScriptCommand}
use Rattle.fsd_texts.specs.declared.fault.Fault.{Fault}
use Rattle.fsd_texts.specs.declared.fault.Fault.TheVariants as Ends
use Rattle.fsd_runs.specs.Sessions.{Meeting, answer_in, session_over}
use Rattle.fsd_runs.specs.Errands.{Errand, Turn, forced_turn}
use Rattle.fsd_runs.specs.Runs.{Goes, session_behind, changes_in, said_in, turns_begun}
use Rattle.volume_turns.specs.declared.turns.Halt.{Halt}
use Rattle.volume_turns.specs.declared.turns.Halt.TheVariants.{Fault as Stopped, Output}
use Rattle.sector_disk.specs.Calls.{IsTimed, Since, StopsOnly, stops}
use Rattle.volume_turns.specs.Group.{IsGroup, CutsOff, EndsGroup, WornIf, closing_turn, is_through, is_worn_end, turns_behind}
use Rattle.volume_turns.specs.Once.{ClosesAndSays, EndsClosed, InClose, IsDone, SaysClosed, Unclosed, unit_of}
use Rattle.client_desk.specs.declared.client.Client.{Client}
use Rattle.volume_contract.specs.State.{State, Known, forced_of, volume_of}
use Rattle.volume_turns.specs.Seats.{Seated, SitsAt, known_of, seated}
use Rattle.volume_turns.specs.Turns.{Behind, InRun, OnDisk, RunsFrom, Said, StandsBehind}
use Rattle.volume_turns.proofs.TurnLaws.{changes_snoc, in_close, said_close, said_snoc}

module _ (H : Sectors) (P Q : Moment → Type 0) (wider : (c : Moment) → P c → Q c) (L N : Volume → Image → Type 0) (last : (v : Volume) (i : Image) → L v i → N v i) (e : Errand) where
  pub goes_wider : (said : List ℕ) (i : Image) (s : Session) (mets : List Meeting) (commands : List ScriptCommand) → Goes H P L e said i s mets commands → Goes H Q N e said i s mets commands
  goes_wider said i s [] commands goes = last s.volume i goes
  goes_wider said i s (met ∷ mets) [] goes = absurd goes
  goes_wider said i s (met ∷ mets) (command ∷ commands) goes = (
    goes.0,
    record {
      kept = goes.1.kept;
      tells = goes.1.tells;
      unworn = goes.1.unworn;
      exit = record { moment = goes.1.exit.moment; passed = wider goes.1.exit.moment goes.1.exit.passed; image = goes.1.exit.image; so_far = goes.1.exit.so_far };
      may = goes.1.may;
    },
    goes_wider (said ++ e.says (answer_in met s command).0) goes.0 (answer_in met s command).1 mets commands goes.2,
  )

module _ {S D : Type 0} (state : S → State) (has : S → Mounted → List Placed → Type 0) (M : Ghosts D) (e : Errand) (k : Known) (from : Moment) (commands : List ScriptCommand) (a m b : D) (w : S × List Client)
    (since : Since M m b) (later : M.moment a ≤ M.moment m) (timed : IsTimed M b) where
  module _ (run : Result (Unit {0}) Halt) (ran : RunsFrom state has M e (seated k no_clients) (forced_of k) from commands a m w run) where
    abbrev turns : List Turn
    turns = turns_begun e ran.mets (session_over (volume_of k)) commands

    -- a text that is said once all is forced
    module _ (behind_it : StandsBehind state has M e (seated k no_clients) (forced_of k) ran.mets commands w a m) (text : List ℕ) where
      abbrev t : Turn
      t = closing_turn text

      pub closing_moments : StopsOnly M m b (InClose behind_it.after.mounted.volume.layout (known_of behind_it.after) behind_it.told text (M.now m)) → (more : List Turn) → StopsOnly M a b (InRun k (forced_of k) (turns ++ t ∷ more) (M.now a))
      closing_moments moments more = then_on M.moment (stops M) a m b (InRun k (forced_of k) (turns ++ t ∷ more) (M.now a)) (ran.moments (t ∷ more))
          (leaves_more M.moment (stops M) m b (InClose behind_it.after.mounted.volume.layout (known_of behind_it.after) behind_it.told text (M.now m)) (InRun k (forced_of k) (turns ++ t ∷ more) (M.now a))
          (λ left c. in_close k (known_of behind_it.after) (forced_of k) behind_it.told turns t more refl behind_it.layout behind_it.windows behind_it.changes behind_it.least behind_it.forced (M.now a) (M.now m) left behind_it.open_windows behind_it.said c) moments)

      all_changes : behind_it.after.changes ≡ k.changes ++ changes_in (turns ++ t ∷ [])
      all_changes = behind_it.changes ∙ ap (λ (h : List Change). k.changes ++ h) (sym (changes_snoc turns t refl))

      sound_all : (i : Image) → IsSound behind_it.after.mounted.volume.layout behind_it.after.windows behind_it.after.changes (length behind_it.after.changes) i
          → IsSound k.mounted.volume.layout k.windows (k.changes ++ changes_in (turns ++ t ∷ [])) (length (k.changes ++ changes_in (turns ++ t ∷ []))) i
      sound_all i sound = subst (λ (h : List Change). IsSound k.mounted.volume.layout k.windows h (length h) i) all_changes
          (subst (λ (x : List WeakRun). IsSound k.mounted.volume.layout x behind_it.after.changes (length behind_it.after.changes) i) behind_it.windows
          (subst (λ (l : Layout). IsSound l behind_it.after.windows behind_it.after.changes (length behind_it.after.changes) i) behind_it.layout sound))

      own_as : (i : Image) → HasOwnRoots behind_it.after.mounted.volume.layout (weak_of behind_it.after.windows) i → HasOwnRoots (session_behind ran.mets (session_over (volume_of k)) commands).volume.layout (weak_of k.windows) i
      own_as i own = subst (λ (x : Session). HasOwnRoots x.volume.layout (weak_of k.windows) i) behind_it.is (subst (λ (x : List WeakRun). HasOwnRoots behind_it.after.mounted.volume.layout (weak_of x) i) behind_it.windows own)

      pub closing_done : SaysClosed M (known_of behind_it.after) text m b → IsDone M k (turns ++ t ∷ []) (session_behind ran.mets (session_over (volume_of k)) commands).volume a b
      closing_done c =
          record {
            windows = c.windows ∙ behind_it.open_windows;
            said = c.said ∙ ap (λ (x : List ℕ). x ++ text) behind_it.said ∙ append_assoc (M.now a).said (said_in turns) text ∙ ap (λ (x : List ℕ). (M.now a).said ++ x) (sym (said_snoc turns t));
            sound = sound_all (M.now b).image c.sound;
            held = λ d left. sound_all d.image (c.held d left);
            tells = subst (λ (l : Layout). told l (M.now b).image ≡ Some (telling_of (session_behind ran.mets (session_over (volume_of k)) commands).volume)) behind_it.layout (c.tells ∙ ap (λ (x : Session). Some (telling_of x.volume)) behind_it.is);
            lasts = subst (λ (x : List WeakRun). AllWorn (weak_of x) (λ j. told k.mounted.volume.layout j ≡ Some (telling_of (session_behind ran.mets (session_over (volume_of k)) commands).volume)) (M.now b).image) behind_it.windows
                (subst (λ (l : Layout). AllWorn (weak_of behind_it.after.windows) (λ j. told l j ≡ Some (telling_of (session_behind ran.mets (session_over (volume_of k)) commands).volume)) (M.now b).image) behind_it.layout
                (subst (λ (x : Session). AllWorn (weak_of behind_it.after.windows) (λ j. told behind_it.after.mounted.volume.layout j ≡ Some (telling_of x.volume)) (M.now b).image) behind_it.is c.lasts));
            roots = own_as (M.now b).image c.roots;
            rooted = λ d left. own_as d.image (c.rooted d left);
          }

      pub closing_unsaid : (why : Fault) → Unclosed M (known_of behind_it.after) behind_it.told m b → Said M k (forced_of k) why turns a b
      closing_unsaid why x = said_close M k (known_of behind_it.after) (forced_of k) behind_it.told turns behind_it.layout behind_it.windows behind_it.changes behind_it.least behind_it.forced a m b behind_it.open_windows behind_it.said timed x why

    -- the line of the force itself
    module _ (behind_it : StandsBehind state has M e (seated k no_clients) (forced_of k) ran.mets commands w a m) (result : Result Bool Halt) (at_text : ClosesAndSays M (known_of behind_it.after) behind_it.told forced_turn.said m b (unit_of result)) where
      ends_by : (r : Result Bool Halt) (cut : Bool) → IfOk r (λ x. x ≡ not cut) → is_through cut ran.mets commands ≡ true → EndsClosed M (known_of behind_it.after) behind_it.told forced_turn.said m b (unit_of r) → EndsGroup M e k cut ran.mets commands a b r
      ends_by (Ok x) cut same through c = (same, through, closing_done behind_it forced_turn.said c)
      ends_by (Err Output) cut same through c = tt
      ends_by (Err (Stopped fault)) cut same through c = (c.0, closing_unsaid behind_it forced_turn.said fault c.1)

      pub group_done : (cut : Bool) → IfOk result (λ x. x ≡ not cut) → CutsOff cut ran.mets (session_over (volume_of k)) commands → is_through cut ran.mets commands ≡ true → ((v : Volume) (i : Image) → Behind run v i → WornIf cut v i) → IsGroup M e k from commands a b result
      group_done cut same before through last = record {
        mets = ran.mets;
        cut = cut;
        before = before;
        goes = λ t le. goes_wider (in_runs k.windows) (M.left_since m t) (M.left_since b t) (λ c was. since t c (omega (arith, le, later)) was) (Behind run) (WornIf cut) last e (M.now a).said from.image (session_over (volume_of k)) ran.mets commands (ran.goes t le);
        moments = λ more. subst (λ (x : Bool). StopsOnly M a b (InRun k (forced_of k) (turns ++ turns_behind x more) (M.now a))) (sym through) (closing_moments behind_it forced_turn.said at_text.moments more);
        ends = ends_by result cut same through at_text.ends;
      }

pub worn_is : (end : Halt) → is_worn_end end ≡ true → end ≡ Stopped Ends.WornOut
worn_is (Stopped Ends.WornOut) is = refl
worn_is (Stopped fault) is = cc is
worn_is Output is = cc is

module _ {S D : Type 0} (state : S → State) (has : S → Mounted → List Placed → Type 0) (M : Ghosts D) (e : Errand) (k : Known) (from : Moment) (commands : List ScriptCommand) where
  -- all were done
  pub group_all : (a m b : D) (w : S × List Client) → Since M m b → M.moment a ≤ M.moment m → IsTimed M b → RunsFrom state has M e (seated k no_clients) (forced_of k) from commands a m w (Ok tt) → (result : Result Bool Halt) → IfOk result (λ x. x ≡ true)
      → ((x : Seated) (f : ℕ) → SitsAt state has w x (M.now m) → OnDisk M (known_of x) f m → ClosesAndSays M (known_of x) f forced_turn.said m b (unit_of result)) → IsGroup M e k from commands a b result
  group_all a m b w since later timed ran result same closes =
      group_done state has M e k from commands a m b w since later timed (Ok tt) ran ran.ends.1 result (closes ran.ends.1.after ran.ends.1.told ran.ends.1.stands ran.ends.1.held) false same tt (eq-eqb (length ran.mets) (length commands) ran.ends.0) (λ v i is. tt)

  pub group_all_mets : (a m b : D) (w : S × List Client) (since : Since M m b) (later : M.moment a ≤ M.moment m) (timed : IsTimed M b) (ran : RunsFrom state has M e (seated k no_clients) (forced_of k) from commands a m w (Ok tt)) (result : Result Bool Halt) (same : IfOk result (λ x. x ≡ true))
      (closes : (x : Seated) (f : ℕ) → SitsAt state has w x (M.now m) → OnDisk M (known_of x) f m → ClosesAndSays M (known_of x) f forced_turn.said m b (unit_of result)) → (group_all a m b w since later timed ran result same closes).mets ≡ ran.mets
  unfolding group_all group_done
  group_all_mets a m b w since later timed ran result same closes = refl

  pub group_all_cut : (a m b : D) (w : S × List Client) (since : Since M m b) (later : M.moment a ≤ M.moment m) (timed : IsTimed M b) (ran : RunsFrom state has M e (seated k no_clients) (forced_of k) from commands a m w (Ok tt)) (result : Result Bool Halt) (same : IfOk result (λ x. x ≡ true))
      (closes : (x : Seated) (f : ℕ) → SitsAt state has w x (M.now m) → OnDisk M (known_of x) f m → ClosesAndSays M (known_of x) f forced_turn.said m b (unit_of result)) → (group_all a m b w since later timed ran result same closes).cut ≡ false
  unfolding group_all group_done
  group_all_cut a m b w since later timed ran result same closes = refl

  -- it was cut off
  pub group_worn : (a m b : D) (w : S × List Client) → Since M m b → M.moment a ≤ M.moment m → IsTimed M b → (end : Halt) → is_worn_end end ≡ true → RunsFrom state has M e (seated k no_clients) (forced_of k) from commands a m w (Err end) → (result : Result Bool Halt) → IfOk result (λ x. x ≡ false)
      → ((x : Seated) (f : ℕ) → SitsAt state has w x (M.now m) → OnDisk M (known_of x) f m → ClosesAndSays M (known_of x) f forced_turn.said m b (unit_of result)) → IsGroup M e k from commands a b result
  group_worn a m b w since later timed end worn given result same closes = by (subst (λ (x : Halt). RunsFrom state has M e (seated k no_clients) (forced_of k) from commands a m w (Err x)) (worn_is end worn) given)
    where
      by : RunsFrom state has M e (seated k no_clients) (forced_of k) from commands a m w (Err (Stopped Ends.WornOut)) → IsGroup M e k from commands a b result
      by ran = group_done state has M e k from commands a m b w since later timed (Err (Stopped Ends.WornOut)) ran ran.ends.1 result (closes ran.ends.1.after ran.ends.1.told ran.ends.1.stands ran.ends.1.held) true same ran.ends.0 refl (λ v i is. is)

  -- it was broken off
  module _ (a m : D) (w : S × List Client) (end : Halt) (ran : RunsFrom state has M e (seated k no_clients) (forced_of k) from commands a m w (Err end)) where
    broken_off : ((v : Volume) (i : Image) → Behind (Err end) v i → ⊤) → EndsGroup M e k false ran.mets commands a m (Err end) → IsGroup M e k from commands a m (Err end)
    broken_off last ends = record {
      mets = ran.mets;
      cut = false;
      before = tt;
      goes = λ t le. goes_wider (in_runs k.windows) (M.left_since m t) (M.left_since m t) (λ c was. was) (Behind (Err end)) (WornIf false) last e (M.now a).said from.image (session_over (volume_of k)) ran.mets commands (ran.goes t le);
      moments = λ more. ran.moments (turns_behind (is_through false ran.mets commands) more);
      ends = ends;
    }

  pub group_stop : (a m : D) (w : S × List Client) (end : Halt) → is_worn_end end ≡ false → RunsFrom state has M e (seated k no_clients) (forced_of k) from commands a m w (Err end) → IsGroup M e k from commands a m (Err end)
  group_stop a m w (Stopped Ends.WornOut) other ran = cc other
  group_stop a m w (Stopped why) other ran = broken_off a m w (Stopped why) ran (λ v i is. tt) ran.ends
  group_stop a m w Output other ran = broken_off a m w Output ran (λ v i is. tt) tt
