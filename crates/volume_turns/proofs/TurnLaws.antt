-- Turns one after another.
use Rattle.std.proofs.Common.{◌≡◌, inl, inr, ⊎_elim, ℕ, zero, suc, ◌+◌, ◌<◌, ◌≤◌, Bool, true, false, cond, List, [], ◌∷◌, ◌++◌, length, take, Option, Some, None, refl, sym, ◌∙◌, ap, subst, arith, append_assoc, length-append}
use Rattle.std.specs.Prelude.{IsTrue, IsFalse, nat_le, slice_get, ◌||◌, IfSome, option_and_then}
use Rattle.std.specs.List.{list_any}
use Rattle.std.proofs.lemmas.List.{append-nil, take_all}
use Rattle.std.proofs.lemmas.Bool.{le-leb, leb-true, cases_lt, or_left, or_right}
use Rattle.volume_layout.specs.declared.layout.Layout.{Layout}
use Rattle.fsd_formats.specs.declared.anchor.Anchor.{Anchor}
use Rattle.sector_disk.specs.declared.sector.WeakRun.{WeakRun}
use Rattle.sector_disk.specs.declared.machine.Machine.{Ghosts}
use Rattle.sector_disk.specs.Calls.{IsHeld, IsTimed, Since, StopsOnly}
use Rattle.sector_disk.specs.Machine.{LeavesOnly, Moment}
use Rattle.sector_disk.proofs.Lags.{held_by, held_more, shows_of, stops_by}
use Rattle.fsd_log.specs.Scan.{Head, Walked, newer_of, is_newer, Placed}
use Rattle.fsd_table.specs.Table.{Telling, told_in}
use Rattle.fsd_files.specs.Disk.{Image, in_runs}
use Rattle.fsd_files.specs.Files.{Change, after}
use Rattle.fsd_bytes.specs.declared.key.Serial.{Serial}
use Rattle.fsd_sound.specs.Anchors.{anchor_of, anchor_at}
use Rattle.fsd_sound.specs.Mounted.{Mounted}
use Rattle.fsd_sound.specs.Shown.{told, shown, shown_by, scan_by}
use Rattle.fsd_sound.specs.Sound.{IsSound, Tells, weak_of}
use Rattle.sector_disk.proofs.Wear.{worn_refl}
use Rattle.fsd_sound.proofs.MountedLaws.{mounted_sound}
use Rattle.fsd_sound.proofs.MoreLaws.{sound_fewer, sound_more}
use Rattle.fsd_texts.specs.declared.fault.Fault.{Fault}
use Rattle.fsd_texts.specs.declared.fault.Fault.TheVariants as Ends
use Rattle.fsd_runs.specs.Errands.{Turn}
use Rattle.fsd_runs.specs.Leaves.{SaysNext}
use Rattle.fsd_runs.specs.Runs.{IsWornOut, changes_in, forced_in, said_in, last_count}
use Rattle.volume_contract.specs.State.{State, Known, volume_of, forced_of, Stands, is_worn}
use Rattle.volume_turns.specs.Steps.{StaysSaying}
use Rattle.volume_turns.specs.Once.{InClose, Unclosed}
use Rattle.volume_turns.specs.Turns.{Carries, InRun, OnDisk, Said, Undone}

-- ---- where a mount is worn out

pub newer_own : (a : Anchor) (o p : Option Anchor) → IfSome o (λ b. b ≡ a) → IfSome p (λ b. b ≡ a) → IfSome (newer_of o p) (λ b. b ≡ a)
newer_own a None None x y = tt
newer_own a None (Some q) x y = y
newer_own a (Some b) None x y = x
newer_own a (Some b) (Some q) x y = by (is_newer q b)
  where
    by : (n : Bool) → cond n q b ≡ a
    by true = y
    by false = x

some_is : (a b : Anchor) (o : Option Anchor) → o ≡ Some b → IfSome o (λ x. x ≡ a) → b ≡ a
some_is a b None is own = absurd (cc is)
some_is a b (Some x) is own = let same : x ≡ b = cc is in sym same ∙ own

low_test : (n m : ℕ) → n ≤ m → IsTrue (nat_le n m)
low_test n m le = le-leb n m le

module _ {S : Type 0} (state : S → State) (has : S → Mounted → List Placed → Type 0) (s : S) (k : Known) (now : Moment) (stands : Stands state has s k now) where
  own_anchor : IfSome (anchor_of now.image) (λ b. b ≡ k.mounted.anchor)
  own_anchor = let own = stands.disk.over.own.own in newer_own k.mounted.anchor (anchor_at now.image 8) (anchor_at now.image 12) own.0 own.1

  head_is : (scan_by k.mounted.volume.layout now.image k.mounted.anchor).head ≡ k.mounted.head
  head_is = ap (λ (w : Walked). w.head) stands.disk.over.own.log.scanned

  pub worn_state : IsWornOut (volume_of k) now.image → IsTrue (is_worn (state s))
  worn_state (inl low) =
      let le : last_count ≤ (state s).serial.count = subst (λ (n : ℕ). last_count ≤ n) (ap (λ (x : Serial). x.count) stands.fits.serial) low in
      or_left (nat_le last_count (state s).serial.count) (nat_le last_count (state s).head.number) (low_test last_count (state s).serial.count le)
  worn_state (inr full) =
      let same : full.anchor ≡ k.mounted.anchor = some_is k.mounted.anchor full.anchor (anchor_of now.image) full.taken own_anchor in
      let head : (scan_by k.mounted.volume.layout now.image full.anchor).head ≡ (state s).head = ap (λ (a : Anchor). (scan_by k.mounted.volume.layout now.image a).head) same ∙ head_is ∙ stands.fits.head in
      let le : last_count ≤ (state s).head.number = subst (λ (h : Head). last_count ≤ h.number) head full.full in
      or_right (nat_le last_count (state s).serial.count) (nat_le last_count (state s).head.number) (low_test last_count (state s).head.number le)

  some_anchor : (o : Option Anchor) → o ≡ anchor_of now.image → IfSome o (λ b. b ≡ k.mounted.anchor) → anchor_of now.image ≡ Some k.mounted.anchor
  some_anchor (Some a) is own = sym is ∙ ap (λ (b : Anchor). Some b) own
  some_anchor None is own = absurd (none_told (told k.mounted.volume.layout now.image) no_told (sound.tells now.image (worn_refl (weak_of k.windows) now.image)))
    where
      sound : IsSound k.mounted.volume.layout k.windows k.changes (forced_of k) now.image
      sound = mounted_sound k.mounted k.windows k.changes (forced_of k) now.image stands.disk

      no_shown : shown k.mounted.volume.layout now.image ≡ None
      no_shown = ap (λ (o : Option Anchor). option_and_then (shown_by k.mounted.volume.layout now.image) o) (sym is)

      no_told : told k.mounted.volume.layout now.image ≡ None
      no_told = ap (λ (o : Option (List (List ℕ))). option_and_then told_in o) no_shown

      none_told : (o : Option Telling) → o ≡ None → Tells k.mounted.volume.layout (in_runs k.windows) now.image k.changes (forced_of k) o → ⊥
      none_told None none tells = tells
      none_told (Some t) none tells = cc none

  -- and conversely
  pub state_worn : IsTrue (is_worn (state s)) → IsWornOut (volume_of k) now.image
  state_worn worn = by (nat_le last_count (state s).serial.count) refl worn
    where
      by : (b : Bool) → b ≡ nat_le last_count (state s).serial.count → IsTrue (b || nat_le last_count (state s).head.number) → IsWornOut (volume_of k) now.image
      by true is any = inl (subst (λ (x : Serial). last_count ≤ x.count) (sym stands.fits.serial) (leb-true last_count (state s).serial.count (sym is)))
      by false is any = inr (record {
        anchor = k.mounted.anchor;
        taken = some_anchor (anchor_of now.image) refl own_anchor;
        full = subst (λ (h : Head). last_count ≤ h.number) (sym (head_is ∙ stands.fits.head)) (leb-true last_count (state s).head.number any);
      })

-- ---- what may be said next

pub says_nothing : (Forced : Type 0) (o : Option Turn) → SaysNext Forced o []
says_nothing Forced None = refl
says_nothing Forced (Some t) = inr (Ends.Memory, 0, tt, refl)

-- what is forced, said otherwise
pub next_as : (F G : Type 0) (o : Option Turn) (part : List ℕ) → ((u : Turn) → o ≡ Some u → IsTrue u.forces → F → G) → SaysNext F o part → SaysNext G o part
next_as F G None part so next = next
next_as F G (Some u) part so (inl begins) = inl (begins.0, λ some forces. so u refl forces (begins.1 some forces))
next_as F G (Some u) part so (inr fault) = inr fault

any_at : (turns : List Turn) (n : ℕ) (u : Turn) → slice_get turns n ≡ Some u → IsTrue u.forces → IsTrue (list_any (λ x. x.forces) (take (suc n) turns))
any_at [] n u is forces = absurd (cc is)
any_at (t ∷ turns) zero u is forces = let same : t ≡ u = cc is in or_left t.forces (list_any (λ x. x.forces) (take zero turns)) (subst (λ (x : Turn). IsTrue x.forces) (sym same) forces)
any_at (t ∷ turns) (suc n) u is forces = or_right t.forces (list_any (λ x. x.forces) (take (suc n) turns)) (any_at turns n u is forces)

-- ---- moments of one command

-- before anything is said, over an image that is sound for the changes so far
pub in_before_at : (k : Known) (f : ℕ) (turns : List Turn) (old left : Moment) → left.windows ≡ old.windows → left.said ≡ old.said → (n : ℕ) → f ≤ n → IsSound k.mounted.volume.layout k.windows k.changes n left.image → InRun k f turns old left
in_before_at k f turns old left windows said n least sound = record {
  windows = windows;
  whole = 0;
  part = [];
  said = said ∙ sym (append-nil old.said);
  next = says_nothing (length k.changes + forced_in (take 1 turns) ≤ n) (slice_get turns 0);
  forced = n;
  least = least;
  enough = λ any. absurd (cc any);
  sound = sound_more k.mounted.volume.layout k.windows k.changes (changes_in (take 1 turns)) n left.image sound;
}

-- before anything is said
pub in_before : {own : Layout} (k : Known) (f : ℕ) (turns : List Turn) (old left : Moment) → f ≤ forced_of k → StaysSaying own k old left → InRun k f turns old left
in_before k f turns old left most stays = in_before_at k f turns old left stays.windows stays.said (forced_of k) most stays.sound

-- none of some turns was done
pub none_done : (k : Known) (f : ℕ) (turns : List Turn) (i : Image) → IsSound k.mounted.volume.layout k.windows k.changes f i → Undone k f turns 0 i
none_done k f turns i sound = record {
  forced = f;
  least = omega arith;
  enough = λ any. absurd (cc any);
  sound = subst (λ (h : List Change). IsSound k.mounted.volume.layout k.windows h f i) (sym (append-nil k.changes)) sound;
}

module _ {D : Type 0} (M : Ghosts D) where
  -- what is there now is a moment since the last sync
  pub now_held : (m : D) (P : Moment → Type 0) → IsTimed M m → IsHeld M m P → P (M.now m)
  now_held m P timed held = held (M.now m) (timed.history.sooner (M.now m).synced (M.moment m) (M.now m) (let x = timed.history.synced (M.moment m) (M.now m) timed.here in let at = timed.dated in omega (arith, x, at)) timed.here)

  -- a call that leaves the disk sound as it was
  module _ {own : Layout} (k : Known) (f : ℕ) (a m : D) (at_a : IsTimed M a) (at_m : IsTimed M m) (since : Since M a m) (run : LeavesOnly M.moment M.left_since a m (StaysSaying own k (M.now a))) (disk : OnDisk M k f a) where
    abbrev IsSoundAs : Moment → Type 0
    IsSoundAs c = IsSound k.mounted.volume.layout k.windows k.changes f c.image

    sound_so : (c : Moment) → StaysSaying own k (M.now a) c → IsSoundAs c
    sound_so c stays = sound_fewer k.mounted.volume.layout k.windows k.changes f (forced_of k) c.image disk.most stays.sound

    pub stays_held : OnDisk M k f m
    stays_held = record { most = disk.most; each = held_by M a m (StaysSaying own k (M.now a)) IsSoundAs at_a at_m since run disk.each IsSoundAs (λ c s. s) sound_so }

    pub stays_stops : (turns : List Turn) → StopsOnly M a m (InRun k f turns (M.now a))
    stays_stops turns = stops_by M a m (StaysSaying own k (M.now a)) IsSoundAs at_a at_m since run disk.each (InRun k f turns (M.now a))
        (λ c stays. in_before k f turns (M.now a) c disk.most stays)
        (λ last shown stays left sooner lately either. in_before_at k f turns (M.now a) (shows_of shown last) stays.windows stays.said f (omega arith) (⊎_elim (λ was. was) (sound_so shown) either))

  -- no turn was begun
  pub said_nothing : (k : Known) (f : ℕ) (why : Fault) (a b : D) → IsTimed M b → OnDisk M k f b → (M.now b).windows ≡ (M.now a).windows → (M.now b).said ≡ (M.now a).said → Said M k f why [] a b
  said_nothing k f why a b timed disk windows said = record {
    windows = windows;
    whole = 0;
    most = omega arith;
    said = said ∙ sym (append-nil (M.now a).said);
    forced = f;
    least = omega arith;
    enough = λ any. absurd (cc any);
    sound = held_more M b (λ c. IsSound k.mounted.volume.layout k.windows k.changes f c.image) (λ c. IsSound k.mounted.volume.layout k.windows (k.changes ++ changes_in []) f c.image)
        (λ c s. subst (λ (h : List Change). IsSound k.mounted.volume.layout k.windows h f c.image) (sym (append-nil k.changes)) s) disk.each;
    undone = λ is. none_done k f [] (M.now b).image (now_held b (λ c. IsSound k.mounted.volume.layout k.windows k.changes f c.image) timed disk.each);
  }

one_turn : (t : Turn) (rest : List Turn) → changes_in (take 1 (t ∷ rest)) ≡ t.changes
one_turn t rest = append-nil t.changes

no_or : (b : Bool) → IsTrue (b || false) → IsTrue b
no_or true is = refl
no_or false is = is

forced_one : (t : Turn) → IsTrue t.forces → forced_in (t ∷ []) ≡ length t.changes
forced_one t is = ap (λ (b : Bool). cond b (length t.changes + 0) 0) (or_left t.forces false is) ∙ omega arith

module _ (k after : Known) (t : Turn) (rest : List Turn) (layout : after.mounted.volume.layout ≡ k.mounted.volume.layout) (same : after.windows ≡ k.windows) (changes : after.changes ≡ k.changes ++ t.changes) (n : ℕ) (i : Image)
    (sound : IsSound after.mounted.volume.layout after.windows after.changes n i) where
  sound_as : IsSound k.mounted.volume.layout k.windows (k.changes ++ t.changes) n i
  sound_as =
      subst (λ (h : List Change). IsSound k.mounted.volume.layout k.windows h n i) changes
      (subst (λ (w : List WeakRun). IsSound k.mounted.volume.layout w after.changes n i) same
      (subst (λ (l : Layout). IsSound l after.windows after.changes n i) layout sound))

  sound_one : IsSound k.mounted.volume.layout k.windows (k.changes ++ changes_in (take 1 (t ∷ rest))) n i
  sound_one = subst (λ (c : List Change). IsSound k.mounted.volume.layout k.windows (k.changes ++ c) n i) (sym (one_turn t rest)) sound_as

-- nothing of it is said, of which the changes may stand on the disk
pub said_before : {D : Type 0} (M : Ghosts D) (k after : Known) (f : ℕ) (t : Turn) (rest : List Turn) → after.mounted.volume.layout ≡ k.mounted.volume.layout → after.windows ≡ k.windows → after.changes ≡ k.changes ++ t.changes → (a b : D)
    → (M.now b).windows ≡ (M.now a).windows → IsHeld M b (λ c. IsSound after.mounted.volume.layout after.windows after.changes f c.image) → (why : Fault) → (why ≡ Ends.Memory → IsSound k.mounted.volume.layout k.windows k.changes f (M.now b).image)
    → (M.now b).said ≡ (M.now a).said → Said M k f why (t ∷ rest) a b
said_before M k after f t rest layout same changes a b windows held why stays said = record {
  windows = windows;
  whole = 0;
  most = omega arith;
  said = said ∙ sym (append-nil (M.now a).said);
  forced = f;
  least = omega arith;
  enough = λ any. absurd (cc any);
  sound = λ c left. sound_one k after t rest layout same changes f c.image (held c left);
  undone = λ is. none_done k f (t ∷ rest) (M.now b).image (stays is);
}

module _ (k after : Known) (f : ℕ) (t : Turn) (rest : List Turn) (layout : after.mounted.volume.layout ≡ k.mounted.volume.layout) (same : after.windows ≡ k.windows) (changes : after.changes ≡ k.changes ++ t.changes)
    (n : ℕ) (least : f ≤ n) (old left : Moment) (windows : left.windows ≡ old.windows) (sound : IsSound after.mounted.volume.layout after.windows after.changes n left.image) where
  sound_at : IsSound k.mounted.volume.layout k.windows (k.changes ++ t.changes) n left.image
  sound_at = sound_as k after t rest layout same changes n left.image sound

  -- a part of it is said
  pub in_part : (part : List ℕ) → left.said ≡ old.said ++ part → SaysNext (length k.changes + forced_in (t ∷ []) ≤ n) (Some t) part → InRun k f (t ∷ rest) old left
  in_part part said next = record {
    windows = windows;
    whole = 0;
    part = part;
    said = said;
    next = next;
    forced = n;
    least = least;
    enough = λ any. absurd (cc any);
    sound = sound_one k after t rest layout same changes n left.image sound;
  }

  -- nothing of it is said
  pub in_unsaid : left.said ≡ old.said → InRun k f (t ∷ rest) old left
  in_unsaid said = in_part [] (said ∙ sym (append-nil old.said)) (says_nothing (length k.changes + forced_in (t ∷ []) ≤ n) (Some t))

  -- that turn's changes and those before it are forced
  forced_here : (IsTrue t.forces → n ≡ length after.changes) → IsTrue t.forces → length k.changes + forced_in (t ∷ []) ≤ n
  forced_here all is = let one = forced_one t is in let every = all is in let sum = length-append k.changes t.changes in let long = ap (λ (h : List Change). length h) changes in omega (arith, one, every, sum, long)

  -- all of it is said
  pub in_whole : (IsTrue t.forces → n ≡ length after.changes) → left.said ≡ old.said ++ t.said → InRun k f (t ∷ rest) old left
  in_whole all said = record {
    windows = windows;
    whole = 1;
    part = [];
    said = said ∙ ap (λ (b : List ℕ). old.said ++ b) (sym (append-nil (t.said ++ []) ∙ append-nil t.said));
    next = says_nothing (length k.changes + forced_in (take 2 (t ∷ rest)) ≤ n) (slice_get (t ∷ rest) 1);
    forced = n;
    least = least;
    enough = λ any. let is = no_or t.forces any in let one = forced_one t is in let every = all is in let sum = length-append k.changes t.changes in let long = ap (λ (h : List Change). length h) changes in omega (arith, one, every, sum, long);
    sound = subst (λ (h : List Change). IsSound k.mounted.volume.layout k.windows h n left.image) (append_assoc k.changes t.changes (changes_in (take 1 rest)))
        (sound_more k.mounted.volume.layout k.windows (k.changes ++ t.changes) (changes_in (take 1 rest)) n left.image sound_at);
  }

  -- while it is said
  pub in_saying_at : (IsTrue t.forces → n ≡ length after.changes) → (heard : ℕ) → left.said ≡ old.said ++ take heard t.said → InRun k f (t ∷ rest) old left
  in_saying_at all heard said = ⊎_elim (λ short. in_part (take heard t.said) said (inl ((heard, short, refl), λ some. forced_here all))) (λ long. in_whole all (said ∙ ap (λ (b : List ℕ). old.said ++ b) (take_all heard t.said long))) (cases_lt heard (length t.said))

-- ---- one turn, and those behind it

pub forced_none : (turns : List Turn) → IsFalse (list_any (λ u. u.forces) turns) → forced_in turns ≡ 0
forced_none [] none = refl
forced_none (t ∷ turns) none = ap (λ (b : Bool). cond b (length t.changes + forced_in turns) 0) none

module _ (k after : Known) (f g : ℕ) (t : Turn) (stood : Carries k after f g t) (front : List Turn) (n : ℕ) (least : g ≤ n) (enough : IsTrue (list_any (λ u. u.forces) front) → length after.changes + forced_in front ≤ n) where
  on_from : (here : Bool) → here ≡ t.forces → (behind : Bool) → behind ≡ list_any (λ u. u.forces) front → IsTrue (here || behind) → length k.changes + cond (here || behind) (length t.changes + forced_in front) 0 ≤ n
  on_from here is_here true is any =
      let e = enough (sym is) in
      let sum = length-append k.changes t.changes in
      let long = ap (λ (h : List Change). length h) stood.changes in
      let whole : cond (here || true) (length t.changes + forced_in front) 0 ≡ length t.changes + forced_in front = ap (λ (b : Bool). cond b (length t.changes + forced_in front) 0) any in
      omega (arith, e, sum, long, whole)
  on_from true is_here false is any =
      let none : forced_in front ≡ 0 = forced_none front (sym is) in
      let all = stood.all (sym is_here) in
      let sum = length-append k.changes t.changes in
      let long = ap (λ (h : List Change). length h) stood.changes in
      omega (arith, none, all, sum, long, least)
  on_from false is_here false is any = absurd (cc any)

  pub enough_from : IsTrue (list_any (λ u. u.forces) (t ∷ front)) → length k.changes + forced_in (t ∷ front) ≤ n
  enough_from any = on_from t.forces refl (list_any (λ u. u.forces) front) refl any

module _ (k after : Known) (f g : ℕ) (t : Turn) (turns : List Turn) (stood : Carries k after f g t) (old mid left : Moment) (windows : mid.windows ≡ old.windows) (said : mid.said ≡ old.said ++ t.said) (run : InRun after g turns mid left) where
  abbrev front : List Turn
  front = take run.whole turns

  pub in_behind : InRun k f (t ∷ turns) old left
  in_behind = record {
    windows = run.windows ∙ windows;
    whole = suc run.whole;
    part = run.part;
    said = run.said ∙ ap (λ (b : List ℕ). b ++ (said_in front ++ run.part)) said ∙ append_assoc old.said t.said (said_in front ++ run.part) ∙ ap (λ (b : List ℕ). old.said ++ b) (sym (append_assoc t.said (said_in front) run.part));
    next = next_as (length after.changes + forced_in (take (suc run.whole) turns) ≤ run.forced) (length k.changes + forced_in (t ∷ take (suc run.whole) turns) ≤ run.forced) (slice_get turns run.whole) run.part
        (λ u is forces x. enough_from k after f g t stood (take (suc run.whole) turns) run.forced run.least (λ any. x) (or_right t.forces (list_any (λ y. y.forces) (take (suc run.whole) turns)) (any_at turns run.whole u is forces))) run.next;
    forced = run.forced;
    least = let a = stood.least in let b = run.least in omega (arith, a, b);
    enough = λ any. enough_from k after f g t stood front run.forced run.least run.enough any;
    sound = subst (λ (h : List Change). IsSound k.mounted.volume.layout k.windows h run.forced left.image) (ap (λ (h : List Change). h ++ changes_in (take (suc run.whole) turns)) stood.changes ∙ append_assoc k.changes t.changes (changes_in (take (suc run.whole) turns)))
        (subst (λ (w : List WeakRun). IsSound k.mounted.volume.layout w (after.changes ++ changes_in (take (suc run.whole) turns)) run.forced left.image) stood.windows
        (subst (λ (l : Layout). IsSound l after.windows (after.changes ++ changes_in (take (suc run.whole) turns)) run.forced left.image) stood.layout run.sound));
  }

-- its changes, and those of more turns
module _ (k after : Known) (f g : ℕ) (t : Turn) (stood : Carries k after f g t) (made : List Change) (n : ℕ) (i : Image) (sound : IsSound after.mounted.volume.layout after.windows (after.changes ++ made) n i) where
  sound_behind_it : IsSound k.mounted.volume.layout k.windows (k.changes ++ (t.changes ++ made)) n i
  sound_behind_it = subst (λ (h : List Change). IsSound k.mounted.volume.layout k.windows h n i) (ap (λ (h : List Change). h ++ made) stood.changes ∙ append_assoc k.changes t.changes made)
      (subst (λ (w : List WeakRun). IsSound k.mounted.volume.layout w (after.changes ++ made) n i) stood.windows
      (subst (λ (l : Layout). IsSound l after.windows (after.changes ++ made) n i) stood.layout sound))

module _ {D : Type 0} (M : Ghosts D) (k after : Known) (f g : ℕ) (t : Turn) (turns : List Turn) (stood : Carries k after f g t) (a m b : D) (windows : (M.now m).windows ≡ (M.now a).windows) (said : (M.now m).said ≡ (M.now a).said ++ t.said)
    (why : Fault) (x : Said M after g why turns m b) where
  undone_more : Undone after g turns x.whole (M.now b).image → Undone k f (t ∷ turns) (suc x.whole) (M.now b).image
  undone_more u = record {
    forced = u.forced;
    least = let p = stood.least in let q = u.least in omega (arith, p, q);
    enough = λ any. enough_from k after f g t stood (take x.whole turns) u.forced u.least u.enough any;
    sound = sound_behind_it k after f g t stood (changes_in (take x.whole turns)) u.forced (M.now b).image u.sound;
  }

  pub said_more : Said M k f why (t ∷ turns) a b
  said_more = record {
    windows = x.windows ∙ windows;
    whole = suc x.whole;
    most = let most = x.most in omega (arith, most);
    said = x.said ∙ ap (λ (b : List ℕ). b ++ said_in (take x.whole turns)) said ∙ append_assoc (M.now a).said t.said (said_in (take x.whole turns));
    forced = x.forced;
    least = let p = stood.least in let q = x.least in omega (arith, p, q);
    enough = λ any. enough_from k after f g t stood (take x.whole turns) x.forced x.least x.enough any;
    sound = λ c left. sound_behind_it k after f g t stood (changes_in (take (suc x.whole) turns)) x.forced c.image (x.sound c left);
    undone = λ is. undone_more (x.undone is);
  }

-- ---- a turn behind all of these, which changes nothing

pub take_front : (turns more : List Turn) → take (length turns) (turns ++ more) ≡ turns
take_front [] more = refl
take_front (u ∷ turns) more = ap (λ (x : List Turn). u ∷ x) (take_front turns more)

slice_at : (turns : List Turn) (t : Turn) (more : List Turn) → slice_get (turns ++ t ∷ more) (length turns) ≡ Some t
slice_at [] t more = refl
slice_at (u ∷ turns) t more = slice_at turns t more

-- the changes of so many, where the one behind them has none
changes_at : (turns : List Turn) (t : Turn) (more : List Turn) → t.changes ≡ [] → changes_in (take (suc (length turns)) (turns ++ t ∷ more)) ≡ changes_in turns
changes_at [] t more none = append-nil t.changes ∙ none
changes_at (u ∷ turns) t more none = ap (λ (x : List Change). u.changes ++ x) (changes_at turns t more none)

changes_past : (turns : List Turn) (t : Turn) (more : List Turn) → t.changes ≡ [] → changes_in (take (suc (suc (length turns))) (turns ++ t ∷ more)) ≡ changes_in turns ++ changes_in (take 1 more)
changes_past [] t more none = ap (λ (x : List Change). x ++ changes_in (take 1 more)) none
changes_past (u ∷ turns) t more none = ap (λ (x : List Change). u.changes ++ x) (changes_past turns t more none) ∙ sym (append_assoc u.changes (changes_in turns) (changes_in (take 1 more)))

said_past : (turns : List Turn) (t : Turn) (more : List Turn) → said_in (take (suc (length turns)) (turns ++ t ∷ more)) ≡ said_in turns ++ t.said
said_past [] t more = append-nil t.said
said_past (u ∷ turns) t more = ap (λ (x : List ℕ). u.said ++ x) (said_past turns t more) ∙ sym (append_assoc u.said (said_in turns) t.said)

forced_more : (t : Turn) (turns : List Turn) → forced_in turns ≤ length (changes_in turns) → (b : Bool) → cond b (length t.changes + forced_in turns) 0 ≤ length (t.changes ++ changes_in turns)
forced_more t turns rest true = let sum = length-append t.changes (changes_in turns) in omega (arith, rest, sum)
forced_more t turns rest false = omega arith

-- with one more turn
pub said_snoc : (turns : List Turn) (t : Turn) → said_in (turns ++ t ∷ []) ≡ said_in turns ++ t.said
said_snoc [] t = append-nil t.said
said_snoc (u ∷ turns) t = ap (λ (x : List ℕ). u.said ++ x) (said_snoc turns t) ∙ sym (append_assoc u.said (said_in turns) t.said)

pub changes_snoc : (turns : List Turn) (t : Turn) → t.changes ≡ [] → changes_in (turns ++ t ∷ []) ≡ changes_in turns
changes_snoc [] t none = append-nil t.changes ∙ none
changes_snoc (u ∷ turns) t none = ap (λ (x : List Change). u.changes ++ x) (changes_snoc turns t none)

pub forced_most : (turns : List Turn) → forced_in turns ≤ length (changes_in turns)
forced_most [] = omega arith
forced_most (t ∷ turns) = forced_more t turns (forced_most turns) (list_any (λ u. u.forces) (t ∷ turns))

-- they are said, and not that turn
module _ {D : Type 0} (M : Ghosts D) (k after : Known) (f g : ℕ) (turns : List Turn) (layout : after.mounted.volume.layout ≡ k.mounted.volume.layout) (same : after.windows ≡ k.windows) (changes : after.changes ≡ k.changes ++ changes_in turns)
    (least : f ≤ g) (enough : IsTrue (list_any (λ u. u.forces) turns) → length k.changes + forced_in turns ≤ g)
    (a m b : D) (mid_windows : (M.now m).windows ≡ (M.now a).windows) (mid_said : (M.now m).said ≡ (M.now a).said ++ said_in turns) (timed : IsTimed M b) (x : Unclosed M after g m b) where
  unclosed_sound : (i : Image) → IsSound after.mounted.volume.layout after.windows after.changes g i → IsSound k.mounted.volume.layout k.windows (k.changes ++ changes_in turns) g i
  unclosed_sound i sound =
      subst (λ (h : List Change). IsSound k.mounted.volume.layout k.windows h g i) changes
      (subst (λ (w : List WeakRun). IsSound k.mounted.volume.layout w after.changes g i) same
      (subst (λ (l : Layout). IsSound l after.windows after.changes g i) layout sound))

  every_enough : IsTrue (list_any (λ u. u.forces) (take (length turns) turns)) → length k.changes + forced_in (take (length turns) turns) ≤ g
  every_enough any = subst (λ (x : List Turn). length k.changes + forced_in x ≤ g) (sym (take_all (length turns) turns (omega arith))) (enough (subst (λ (x : List Turn). IsTrue (list_any (λ u. u.forces) x)) (take_all (length turns) turns (omega arith)) any))

  pub said_close : (why : Fault) → Said M k f why turns a b
  said_close why = record {
    windows = x.windows ∙ mid_windows;
    whole = length turns;
    most = omega arith;
    said = x.said ∙ mid_said ∙ ap (λ (y : List Turn). (M.now a).said ++ said_in y) (sym (take_all (length turns) turns (omega arith)));
    forced = g;
    least = least;
    enough = every_enough;
    sound = λ c left. subst (λ (y : List Turn). IsSound k.mounted.volume.layout k.windows (k.changes ++ changes_in y) g c.image) (sym (take_all (suc (length turns)) turns (omega arith))) (unclosed_sound c.image (x.held c left));
    undone = λ is. record {
      forced = g;
      least = least;
      enough = every_enough;
      sound = subst (λ (y : List Turn). IsSound k.mounted.volume.layout k.windows (k.changes ++ changes_in y) g (M.now b).image) (sym (take_all (length turns) turns (omega arith)))
          (unclosed_sound (M.now b).image (now_held M b (λ c. IsSound after.mounted.volume.layout after.windows after.changes g c.image) timed x.held));
    };
  }

module _ {own : Layout} (k after : Known) (f g : ℕ) (turns : List Turn) (t : Turn) (more : List Turn) (none : t.changes ≡ []) (layout : after.mounted.volume.layout ≡ k.mounted.volume.layout) (same : after.windows ≡ k.windows) (changes : after.changes ≡ k.changes ++ changes_in turns)
    (least : f ≤ g) (enough : IsTrue (list_any (λ u. u.forces) turns) → length k.changes + forced_in turns ≤ g)
    (old mid left : Moment) (mid_windows : mid.windows ≡ old.windows) (mid_said : mid.said ≡ old.said ++ said_in turns) (c : InClose own after g t.said mid left) where
  sound_behind : IsSound k.mounted.volume.layout k.windows (k.changes ++ changes_in turns) c.forced left.image
  sound_behind =
      subst (λ (h : List Change). IsSound k.mounted.volume.layout k.windows h c.forced left.image) changes
      (subst (λ (w : List WeakRun). IsSound k.mounted.volume.layout w after.changes c.forced left.image) same
      (subst (λ (l : Layout). IsSound l after.windows after.changes c.forced left.image) layout c.sound))

  part_behind : SaysNext (length k.changes + forced_in (take (suc (length turns)) (turns ++ t ∷ more)) ≤ c.forced) (Some t) (take c.heard t.said) → InRun k f (turns ++ t ∷ more) old left
  part_behind next = record {
    windows = c.windows ∙ mid_windows;
    whole = length turns;
    part = take c.heard t.said;
    said = c.said ∙ ap (λ (x : List ℕ). x ++ take c.heard t.said) mid_said ∙ append_assoc old.said (said_in turns) (take c.heard t.said)
        ∙ ap (λ (x : List Turn). old.said ++ (said_in x ++ take c.heard t.said)) (sym (take_front turns (t ∷ more)));
    next = subst (λ (o : Option Turn). SaysNext (length k.changes + forced_in (take (suc (length turns)) (turns ++ t ∷ more)) ≤ c.forced) o (take c.heard t.said)) (sym (slice_at turns t more)) next;
    forced = c.forced;
    least = let x = c.least in omega (arith, least, x);
    enough = λ any. subst (λ (x : List Turn). length k.changes + forced_in x ≤ c.forced) (sym (take_front turns (t ∷ more)))
        (let e = enough (subst (λ (x : List Turn). IsTrue (list_any (λ u. u.forces) x)) (take_front turns (t ∷ more)) any) in let x = c.least in omega (arith, e, x));
    sound = subst (λ (x : List Change). IsSound k.mounted.volume.layout k.windows (k.changes ++ x) c.forced left.image) (sym (changes_at turns t more none)) sound_behind;
  }

  all_forced : 0 < c.heard → length k.changes + forced_in (take (suc (length turns)) (turns ++ t ∷ more)) ≤ c.forced
  all_forced some =
      let all = c.all some in
      let sum = length-append k.changes (changes_in turns) in
      let long_all = ap (λ (h : List Change). length h) changes in
      let few = forced_most (take (suc (length turns)) (turns ++ t ∷ more)) in
      let count = ap (λ (h : List Change). length h) (changes_at turns t more none) in
      omega (arith, all, sum, long_all, few, count)

  whole_behind : (some : 0 < c.heard) → length t.said ≤ c.heard → InRun k f (turns ++ t ∷ more) old left
  whole_behind some long = record {
    windows = c.windows ∙ mid_windows;
    whole = suc (length turns);
    part = [];
    said = c.said ∙ ap (λ (x : List ℕ). mid.said ++ x) (take_all c.heard t.said long) ∙ ap (λ (x : List ℕ). x ++ t.said) mid_said ∙ append_assoc old.said (said_in turns) t.said
        ∙ ap (λ (x : List ℕ). old.said ++ x) (sym (append-nil (said_in (take (suc (length turns)) (turns ++ t ∷ more))) ∙ said_past turns t more));
    next = says_nothing (length k.changes + forced_in (take (suc (suc (length turns))) (turns ++ t ∷ more)) ≤ c.forced) (slice_get (turns ++ t ∷ more) (suc (length turns)));
    forced = c.forced;
    least = let x = c.least in omega (arith, least, x);
    enough = λ any. all_forced some;
    sound = subst (λ (x : List Change). IsSound k.mounted.volume.layout k.windows x c.forced left.image) (append_assoc k.changes (changes_in turns) (changes_in (take 1 more)) ∙ ap (λ (x : List Change). k.changes ++ x) (sym (changes_past turns t more none)))
        (sound_more k.mounted.volume.layout k.windows (k.changes ++ changes_in turns) (changes_in (take 1 more)) c.forced left.image sound_behind);
  }

  -- while the volume is closed, and that turn is said
  pub in_close : InRun k f (turns ++ t ∷ more) old left
  in_close = by c.heard refl
    where
      by : (heard : ℕ) → heard ≡ c.heard → InRun k f (turns ++ t ∷ more) old left
      by zero is = part_behind (subst (λ (x : ℕ). SaysNext (length k.changes + forced_in (take (suc (length turns)) (turns ++ t ∷ more)) ≤ c.forced) (Some t) (take x t.said)) is (says_nothing (length k.changes + forced_in (take (suc (length turns)) (turns ++ t ∷ more)) ≤ c.forced) (Some t)))
      by (suc n) is = ⊎_elim (λ short. part_behind (inl ((c.heard, short, refl), λ heard forces. all_forced (omega (arith, is))))) (λ long. whole_behind (omega (arith, is)) long) (cases_lt c.heard (length t.said))
