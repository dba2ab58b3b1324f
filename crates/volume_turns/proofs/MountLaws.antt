-- One command from the mount on.
use Rattle.std.proofs.Common.{◌≡◌, inl, ℕ, suc, ◌+◌, ◌-◌, ◌≤◌, Bool, true, false, List, [], ◌∷◌, ◌++◌, length, take, Option, Some, None, refl, sym, ◌∙◌, ap, subst, arith}
use Rattle.std.specs.Prelude.{slice_get, IfSome}
use Rattle.std.specs.List.{list_any}
use Rattle.std.proofs.lemmas.List.{append-nil, length-take}
use Rattle.volume_layout.specs.declared.layout.Layout.{Layout}
use Rattle.sector_disk.specs.declared.machine.Machine.{Ghosts}
use Rattle.sector_disk.specs.declared.sector.WeakRun.{WeakRun}
use Rattle.sector_disk.specs.Calls.{IsHeld}
use Rattle.sector_disk.specs.Machine.{Moment}
use Rattle.fsd_formats.specs.declared.anchor.Anchor.{Anchor}
use Rattle.fsd_files.specs.Disk.{Image, in_runs}
use Rattle.fsd_files.specs.Files.{Change, after}
use Rattle.fsd_files.specs.Kept.{Describes}
use Rattle.fsd_sound.specs.Anchors.{anchor_of, anchor_at}
use Rattle.fsd_sound.specs.Laid.{HasOwnRoots}
use Rattle.fsd_sound.specs.Mounted.{IsMounted, telling_of}
use Rattle.fsd_sound.specs.Shown.{told}
use Rattle.fsd_sound.specs.Sound.{IsSound, IsPrefixOf, weak_of}
use Rattle.fsd_sound.proofs.MoreLaws.{sound_more}
use Rattle.fsd_sound.proofs.MountedLaws.{fresh_mounted, mounted_tells}
use Rattle.fsd_texts.specs.declared.fault.Fault.TheVariants as Ends
use Rattle.fsd_runs.specs.Errands.{Turn}
use Rattle.fsd_runs.specs.Leaves.{IsUnderWay, IsUndone, Left, LeftByTurns, SaysFault}
use Rattle.fsd_runs.specs.Runs.{Starts, changes_in, forced_in, said_in}
use Rattle.volume_contract.specs.Mount.{SettledDisk}
use Rattle.volume_contract.specs.State.{Known, volume_of, forced_of}
use Rattle.volume_turns.specs.Turns.{InRun, Undone}
use Rattle.volume_turns.specs.Whole.{UnderWay}
use Rattle.volume_turns.proofs.TurnLaws.{newer_own, forced_none, next_as, says_nothing}

-- the same, said of equals
pub sound_to : (l l2 : Layout) (w w2 : List WeakRun) (h h2 : List Change) (f f2 : ℕ) (i : Image) → l ≡ l2 → w ≡ w2 → h ≡ h2 → f ≡ f2 → IsSound l w h f i → IsSound l2 w2 h2 f2 i
sound_to l l2 w w2 h h2 f f2 i el ew eh ef sound =
    subst (λ (x : Layout). IsSound x w2 h2 f2 i) el (subst (λ (x : List WeakRun). IsSound l x h2 f2 i) ew (subst (λ (x : List Change). IsSound l w x f2 i) eh (subst (λ (x : ℕ). IsSound l w h x i) ef sound)))

pub nothing_said : SaysFault []
nothing_said = (Ends.Memory, 0, tt, refl)

module _ (l : Layout) (windows : List WeakRun) (run : WeakRun) (h : List Change) (f n : ℕ) (prefix : IsPrefixOf h f n) (k : Known) (old mid : Moment) (s : SettledDisk l windows run h n k old mid) (quiet : mid.said ≡ old.said) where
  pub taken : length (take n h) ≡ n
  taken = let made = prefix.made in let long = length-take n h in omega (arith, made, long)

  pub known_length : length k.changes ≡ n
  known_length = ap (λ (x : List Change). length x) s.changes ∙ taken

  pub known_forced : forced_of k ≡ n
  known_forced = let all = known_length in let none = s.fresh.unforced in omega (arith, all, none)

  -- ---- moments

  pub before_left : (turns : List Turn) (left : Moment) → left.windows.present ≡ old.windows.present → left.said ≡ old.said → IsSound l windows h f left.image → Left l windows run h f n turns old left
  before_left turns left present said sound = inl (record { present = present; part = []; said = said ∙ sym (append-nil old.said); fault = nothing_said; sound = sound })

  pub since_left : (turns : List Turn) (left : Moment) → left.windows ≡ record { present = Some run; next = None } → left.said ≡ old.said → IsSound l (windows ++ run ∷ []) (take n h) n left.image → LeftByTurns l windows run h n turns old left
  since_left turns left settled said sound = record {
    settled = settled;
    whole = 0;
    part = [];
    said = said ∙ sym (append-nil old.said);
    next = says_nothing (forced_in (take 1 turns) ≤ 0) (slice_get turns 0);
    forced = 0;
    enough = omega arith;
    sound = sound_to l l (windows ++ run ∷ []) (windows ++ run ∷ []) (take n h ++ changes_in (take 1 turns)) (take n h ++ changes_in (take 1 turns)) n (n + 0) left.image refl refl refl (omega arith)
        (sound_more l (windows ++ run ∷ []) (take n h) (changes_in (take 1 turns)) n left.image sound);
  }

  -- what the mount found, as it is known
  pub known_sound : (i : Image) → IsSound l (windows ++ run ∷ []) (take n h) n i → IsSound k.mounted.volume.layout k.windows k.changes (forced_of k) i
  known_sound i sound = sound_to l k.mounted.volume.layout (windows ++ run ∷ []) k.windows (take n h) k.changes n (forced_of k) i (sym s.layout) (sym s.known) (sym s.changes) (sym known_forced) sound

  pub run_left : (turns : List Turn) (left : Moment) → InRun k (forced_of k) turns mid left → LeftByTurns l windows run h n turns old left
  run_left turns left r = record {
    settled = r.windows ∙ s.settled;
    whole = r.whole;
    part = r.part;
    said = r.said ∙ ap (λ (x : List ℕ). x ++ (said_in (take r.whole turns) ++ r.part)) quiet;
    next = next_as (length k.changes + forced_in (take (suc r.whole) turns) ≤ r.forced) (forced_in (take (suc r.whole) turns) ≤ r.forced - n) (slice_get turns r.whole) r.part (λ u is forces x. let all = known_length in omega (arith, x, all)) r.next;
    forced = r.forced - n;
    enough = by (list_any (λ t. t.forces) (take r.whole turns)) refl;
    sound = sound_to k.mounted.volume.layout l k.windows (windows ++ run ∷ []) (k.changes ++ changes_in (take (suc r.whole) turns)) (take n h ++ changes_in (take (suc r.whole) turns)) r.forced (n + (r.forced - n)) left.image
        s.layout s.known (ap (λ (x : List Change). x ++ changes_in (take (suc r.whole) turns)) s.changes) (let least = r.least in let known = known_forced in omega (arith, least, known)) r.sound;
  }
    where
      by : (b : Bool) → b ≡ list_any (λ t. t.forces) (take r.whole turns) → forced_in (take r.whole turns) ≤ r.forced - n
      by true is = let e = r.enough (sym is) in let all = known_length in omega (arith, e, all)
      by false is = let none = forced_none (take r.whole turns) (sym is) in omega (arith, none)

  -- the turns said whole are all that was done
  pub run_undone : (turns : List Turn) (whole : ℕ) (i : Image) → Undone k (forced_of k) turns whole i → IsUndone l (windows ++ run ∷ []) (take n h) n turns whole i
  run_undone turns whole i u = record {
    forced = u.forced - n;
    enough = by (list_any (λ t. t.forces) (take whole turns)) refl;
    sound = sound_to k.mounted.volume.layout l k.windows (windows ++ run ∷ []) (k.changes ++ changes_in (take whole turns)) (take n h ++ changes_in (take whole turns)) u.forced (n + (u.forced - n)) i
        s.layout s.known (ap (λ (x : List Change). x ++ changes_in (take whole turns)) s.changes) (let least = u.least in let known = known_forced in omega (arith, least, known)) u.sound;
  }
    where
      by : (b : Bool) → b ≡ list_any (λ t. t.forces) (take whole turns) → forced_in (take whole turns) ≤ u.forced - n
      by true is = let e = u.enough (sym is) in let all = known_length in omega (arith, e, all)
      by false is = let none = forced_none (take whole turns) (sym is) in omega (arith, none)

  -- and so it is of what is held back
  pub run_under_way : {D : Type 0} (M : Ghosts D) (turns : List Turn) (b : D) (whole : ℕ) → UnderWay M k turns b whole → IsUnderWay l (windows ++ run ∷ []) (take n h) n turns (IsHeld M b) whole
  run_under_way M turns b whole u = record {
    forced = u.forced - n;
    enough = by (list_any (λ t. t.forces) (take whole turns)) refl;
    sound = λ c left. sound_to k.mounted.volume.layout l k.windows (windows ++ run ∷ []) (k.changes ++ changes_in (take (suc whole) turns)) (take n h ++ changes_in (take (suc whole) turns)) u.forced (n + (u.forced - n)) c.image
        s.layout s.known (ap (λ (x : List Change). x ++ changes_in (take (suc whole) turns)) s.changes) (let least = u.least in let known = known_forced in omega (arith, least, known)) (u.sound c left);
  }
    where
      by : (b : Bool) → b ≡ list_any (λ t. t.forces) (take whole turns) → forced_in (take whole turns) ≤ u.forced - n
      by true is = let e = u.enough (sym is) in let all = known_length in omega (arith, e, all)
      by false is = let none = forced_none (take whole turns) (sym is) in omega (arith, none)

  -- ---- the volume that it begins with

  mounted : IsMounted k.mounted k.windows k.changes (length k.changes) mid.image
  mounted = fresh_mounted k.mounted k.windows k.changes mid.image s.fresh

  pub as_known : IsMounted k.mounted k.windows k.changes (forced_of k) mid.image
  as_known = subst (λ (x : ℕ). IsMounted k.mounted k.windows k.changes x mid.image) (let none = s.fresh.unforced in let all : length k.changes ≡ forced_of k = omega (arith, none) in all) mounted

  own : IfSome (anchor_of mid.image) (λ a. a ≡ k.mounted.anchor)
  own = let both = mounted.over.own.own in newer_own k.mounted.anchor (anchor_at mid.image 8) (anchor_at mid.image 12) both.0 both.1

  epoch_of : (o : Option Anchor) → IfSome o (λ a. a ≡ k.mounted.anchor) → IfSome o (λ a. a.epoch ≡ k.mounted.volume.serial.epoch)
  epoch_of None is = tt
  epoch_of (Some a) is = ap (λ (x : Anchor). x.epoch) is ∙ sym s.fresh.epoch

  -- both roots are the layout's as it settled
  pub own_roots : HasOwnRoots l (weak_of (windows ++ run ∷ [])) mid.image
  own_roots = subst (λ (x : Layout). HasOwnRoots x (weak_of (windows ++ run ∷ [])) mid.image) s.layout (subst (λ (x : List WeakRun). HasOwnRoots k.mounted.volume.layout (weak_of x) mid.image) s.known mounted.over.own.roots)

  pub starts : Starts l (windows ++ run ∷ []) (take n h) (volume_of k) mid.image
  starts = record {
    layout = s.layout;
    files = s.fresh.files ∙ ap (λ (x : List Change). after x) s.changes;
    tells = subst (λ (x : Layout). told x mid.image ≡ Some (telling_of (volume_of k))) s.layout (mounted_tells k.mounted k.windows k.changes (length k.changes) mid.image mounted s.fresh.unforced);
    described = subst (λ (x : Layout). Describes x (in_runs (windows ++ run ∷ [])) mid.image (volume_of k).files (volume_of k).entries) s.layout
        (subst (λ (x : List WeakRun). Describes k.mounted.volume.layout (in_runs x) mid.image (volume_of k).files (volume_of k).entries) s.known s.fresh.described);
    epoch = epoch_of (anchor_of mid.image) own;
    count = s.first;
    removed = s.fresh.removed;
    held = s.fresh.held;
    drafts = s.fresh.drafts;
    unforced = s.fresh.unforced;
  }
