-- What is known behind a force, and why a look-up there tells something as lost or as unsound, said of the volume before the force.
use Rattle.std.proofs.Common.{◌≡◌, ◌⊎◌, inl, inr, ℕ, ◌<◌, Bool, true, false, cond, nat_le, nat_lt, List, length, Option, Some, None, Result, Ok, Err, refl, sym, ap, subst, ◌∙◌, arith}
use Rattle.std.specs.Prelude.{IfOk, IfSome, IsErrAnd, IsFalse, IsTrue, OnOk}
use Rattle.volume_layout.specs.declared.layout.Layout.{Layout}
use Rattle.std.proofs.lemmas.Bool.{and_parts, leb-true}
use Rattle.volume_layout.specs.Layout.{data_start, home_a, is_data}
use Rattle.run_table.specs.Space.{contains}
use Rattle.fsd_bytes.specs.declared.key.Key.{Key}
use Rattle.fsd_bytes.specs.declared.refusal.Refusal.{Refusal}
use Rattle.fsd_bytes.specs.declared.refusal.Refusal.TheVariants as Why
use Rattle.sector_disk.specs.declared.machine.Machine.{Ghosts}
use Rattle.sector_disk.specs.declared.sector.Sector.{Sector}
use Rattle.sector_disk.specs.declared.sector.Sector.TheVariants.{Damaged}
use Rattle.sector_disk.specs.Image.{IsWorn, Windows, open_damage, sector_at}
use Rattle.sector_disk.specs.Machine.{Moment, Wears}
use Rattle.sector_disk.proofs.Damage.{lost_as}
use Rattle.sector_disk.proofs.Wear.{worn_refl, worn_trans, worn_whole}
use Rattle.fsd_formats.specs.declared.entry.Entry.{Entry}
use Rattle.fsd_table.specs.Breaks.{Breaks}
use Rattle.fsd_files.specs.Disk.{Image, SectorWorn}
use Rattle.name_btree.specs.declared.lookup.FoundEntry.{FoundEntry}
use Rattle.fsd_log.specs.Places.{LieInRecord}
use Rattle.fsd_log.specs.declared.slot.Slot.{Slot}
use Rattle.fsd_sound.specs.Logged.{StandsLogged}
use Rattle.version_data.specs.Writing.{WritesIn}
use Rattle.volume_contract.specs.Causes.{AreSomeCopies, AreCopiesOfPage, BreaksMounted, Causes, HasCallCause, IsRead, ShowsOfPages, StandsInCopy, StoodInCopy}
use Rattle.volume_contract.specs.Order.{Comes, with_drawn}
use Rattle.volume_contract.specs.State.{State, forces_first, forces_for_place}
use Rattle.volume_contract.specs.Behind.{IsBehindForce}
use Rattle.volume_contract.specs.Found.{ShowsReached}
use Rattle.volume_laws.specs.Behind.{IsBehind}
use Rattle.fsd_table.specs.Reached.{HasEntry, ReachesPage}
use Rattle.fsd_sound.specs.Lookups.{HasKey}
use Rattle.fsd_table.specs.Table.{Visit}
use Rattle.volume_laws.specs.Ending.{Edits, delete_tests, keep_tests}
use Rattle.volume_laws.specs.Placing.{HasStored}
use Rattle.volume_laws.specs.State.{resident, state}
use Rattle.volume_laws.specs.Volume.{VolumeValue}
use Rattle.volume_laws.proofs.CauseLaws.{handed_cause}
use Rattle.volume_laws.proofs.PutCauses.{copies_of, none_before, told_of}
use Rattle.volume_laws.proofs.TestedLaws.{delete_tested, keep_tested}
use Rattle.volume_laws.proofs.WrittenLaws.{merged, merged_at, merged_size}

-- what stood in a copy stood in one whatever came behind it that left the log
module _ (s t u : State) (old mid now : Moment) (slots : u.slots ≡ t.slots) (layout : u.layout ≡ t.layout) (wears : Wears mid now) where
  copies_now : (page a b : ℕ) → AreCopiesOfPage t page a b → AreCopiesOfPage u page a b
  copies_now page a b copies = copies_of u t page a b (sym slots) (sym layout) copies

  stands_now : (i : Image) (page : ℕ) (bytes : List ℕ) → StandsInCopy t i page bytes → StandsInCopy u i page bytes
  stands_now i page bytes stands = record { a = stands.a; b = stands.b; copies = told_of u t page stands.a stands.b (sym slots) (sym layout) stands.copies; whole = stands.whole }

  -- what wear may come to stands whole before it
  whole_before : (i j : Image) (page : ℕ) (bytes : List ℕ) → IsWorn (open_damage mid.windows) i j → StandsInCopy t j page bytes → StandsInCopy t i page bytes
  whole_before i j page bytes worn stands = record {
    a = stands.a;
    b = stands.b;
    copies = stands.copies;
    whole = elim stands.whole [
      | inl first ↦ inl (worn_whole (open_damage mid.windows) i j stands.a bytes worn first)
      | inr second ↦ inr (worn_whole (open_damage mid.windows) i j stands.b bytes worn second)
    ];
  }

  worn_now : (i : Image) → IsWorn (open_damage mid.windows) i mid.image → IsWorn (open_damage now.windows) i now.image
  worn_now i worn = subst (λ (w : Windows). IsWorn (open_damage w) i now.image) (sym wears.windows) (worn_trans (open_damage mid.windows) i mid.image now.image worn wears.image)

  stood_behind : (page : ℕ) (bytes : List ℕ) → StoodInCopy s t old mid page bytes → StoodInCopy s u old now page bytes
  stood_behind page bytes (seen, inl first) = (seen, inl first)
  stood_behind page bytes (seen, inr (worn, stands)) = (seen, inr (worn_now seen worn, stands_now seen page bytes stands))

  -- what was read shows the same then
  pub shows_after : (before : ℕ → Option (List ℕ)) (Is Then : List (List ℕ) → Type 0) → ((pages : List (List ℕ)) → Is pages → Then pages) → ShowsOfPages s t before old mid Is → ShowsOfPages s u before old now Then
  shows_after before Is Then more shows = record {
    read = shows.read;
    are_read = λ page. by page (shows.read page) (shows.are_read page);
    is = λ pages have. more pages (shows.is pages have);
  }
    where
      by : (page : ℕ) (o : Option (List ℕ)) → IfSome o (IsRead s t before old mid page) → IfSome o (IsRead s u before old now page)
      by page None read = tt
      by page (Some bytes) read = record { within = read.within; source = elim read.source [ inl there ↦ inl there | inr stood ↦ inr (stood_behind page bytes stood) ] }

module _ (s t u : State) (before after : ℕ → Option (List ℕ)) (old mid now : Moment) (behind : IsBehind s t before after old mid) (slots : u.slots ≡ t.slots) (layout : u.layout ≡ t.layout) (wears : Wears mid now) where
  lost_behind : (a b : ℕ) → AreSomeCopies t u a b → AreSomeCopies s u a b
  lost_behind a b copies = record {
    page = copies.page;
    within = subst (λ (l : Layout). copies.page < l.pages) behind.layout copies.within;
    copies = elim copies.copies [
      | inl first ↦ inr (copies_now s t u old mid now slots layout wears copies.page a b first)
      | inr then_so ↦ inr then_so
    ];
  }

  stood_then : (page : ℕ) (bytes : List ℕ) → StoodInCopy t u mid now page bytes → StoodInCopy s u old now page bytes
  stood_then page bytes (seen, inl (worn, stands)) = (
    mid.image,
    inr (
      worn_now s t u old mid now slots layout wears mid.image (worn_refl (open_damage mid.windows) mid.image),
      stands_now s t u old mid now slots layout wears mid.image page bytes (whole_before s t u old mid now slots layout wears mid.image seen page bytes worn stands),
    ),
  )
  stood_then page bytes (seen, inr (worn, stands)) = (seen, inr (worn, stands))

  read_behind : (page : ℕ) (bytes : List ℕ) → IsRead t u after mid now page bytes → IsRead s u before old now page bytes
  read_behind page bytes read = record {
    within = subst (λ (l : Layout). page < l.pages) behind.layout read.within;
    source = elim read.source [
      | inl there ↦ elim (behind.pages page bytes read.within there) [
        | inl was ↦ inl was
        | inr stood ↦ inr (stood_behind s t u old mid now slots layout wears page bytes stood)
      ]
      | inr stood ↦ inr (stood_then page bytes stood)
    ];
  }

  breaks_behind : (pages : List (List ℕ)) (place : ℕ) → BreaksMounted t pages place → BreaksMounted s pages place
  breaks_behind pages place breaks = record {
    visit = breaks.visit;
    reached = breaks.reached;
    within = subst (λ (l : Layout). breaks.visit.page < l.pages) behind.layout breaks.within;
    home = breaks.home ∙ ap (λ (l : Layout). home_a l breaks.visit.page) behind.layout;
    how = elim breaks.how [
      | inl broken ↦ inl (subst (λ (l : Layout). Breaks l pages breaks.visit.page) behind.layout broken)
      | inr other ↦ inr (elim other [
        | inl free ↦ inl (subst (λ (xs : List ℕ). IsTrue (contains xs breaks.visit.page)) behind.free_pages free)
        | inr untaken ↦ inr (untaken.0, untaken.1, behind.untaken untaken.0 untaken.2)
      ])
    ];
  }

  -- what was read behind it shows the same
  pub shows_behind : (Is Was : List (List ℕ) → Type 0) → ((pages : List (List ℕ)) → Is pages → Was pages) → ShowsOfPages t u after mid now Is → ShowsOfPages s u before old now Was
  shows_behind Is Was was shows = record {
    read = shows.read;
    are_read = λ page. by page (shows.read page) (shows.are_read page);
    is = λ pages have. was pages (shows.is pages (record { size = have.size ∙ ap (λ (l : Layout). l.pages) (sym behind.layout); same = have.same }));
  }
    where
      by : (page : ℕ) (o : Option (List ℕ)) → IfSome o (IsRead t u after mid now page) → IfSome o (IsRead s u before old now page)
      by page None read = tt
      by page (Some bytes) read = read_behind page bytes read

  -- each refusal has its cause as it was before
  pub cause_behind : (why : Refusal) → HasCallCause t u after mid now why → HasCallCause s u before old now why
  cause_behind (Why.Lost a b) lost = lost_as (AreSomeCopies t u) a b (AreSomeCopies s u) now.image (lost_behind a b) lost
  cause_behind (Why.Unsound place) shows = shows_behind (λ pages. BreaksMounted t pages place) (λ pages. BreaksMounted s pages place) (λ pages broken. breaks_behind pages place broken) shows
  cause_behind why cause = tt

-- what stands in the log stands in a copy
pub forced_behind : (s t : State) (before after : ℕ → Option (List ℕ)) (old mid : Moment) → IsBehindForce s t before after mid → IsBehind s t before after old mid
forced_behind s t before after old mid behind = record { layout = behind.layout; free_pages = behind.free_pages; pages = λ page bytes lt is. by page bytes (behind.pages page bytes is); untaken = behind.untaken }
  where
    by : (page : ℕ) (bytes : List ℕ) → ((before page ≡ Some bytes) ⊎ StandsLogged t.layout t.slots mid page bytes) → (before page ≡ Some bytes) ⊎ StoodInCopy s t old mid page bytes
    by page bytes (inl was) = inl was
    by page bytes (inr logged) = inr (logged.seen, inr (logged.worn, record { a = logged.a; b = logged.b; copies = inl logged.logged.lies; whole = inl logged.first }))

-- behind any stage
pub causes_since : {D T : Type 0} (M : Ghosts D) (s t u : State) (before after : ℕ → Option (List ℕ)) (old mid now : D) → (M.honest now → IsBehind s t before after (M.now old) (M.now mid)) → u.slots ≡ t.slots → u.layout ≡ t.layout → (M.honest now → Wears (M.now mid) (M.now now))
    → (r : Result T Refusal) → Causes M after t u mid now r → Causes M before s u old now r
causes_since M s t u before after old mid now behind slots layout wears (Ok x) causes = tt
causes_since M s t u before after old mid now behind slots layout wears (Err why) causes =
    λ honest. cause_behind s t u before after (M.now old) (M.now mid) (M.now now) (behind honest) slots layout (wears honest) why (causes honest)

-- what a look-up has found shows it to the end of the call
pub found_after : {D : Type 0} (M : Ghosts D) (s t u : State) (before : ℕ → Option (List ℕ)) (old mid now : D) → u.slots ≡ t.slots → u.layout ≡ t.layout → (M.honest now → M.honest mid) → (M.honest now → Wears (M.now mid) (M.now now)) → (key : Key)
    (found : Option FoundEntry) (f : FoundEntry) → found ≡ Some f → IfSome found (λ x. x.entry.key ≡ key) → IfSome found (λ x. ShowsReached M before s t old mid (HasEntry x.entry)) → ShowsReached M before s u old now (HasKey key)
found_after M s t u before old mid now slots layout back wears key found f is keyed shown =
    let same : f.entry.key ≡ key = subst (λ (o : Option FoundEntry). IfSome o (λ x. x.entry.key ≡ key)) is keyed in
    let here : ShowsReached M before s t old mid (HasEntry f.entry) = subst (λ (o : Option FoundEntry). IfSome o (λ x. ShowsReached M before s t old mid (HasEntry x.entry))) is shown in
    λ honest. shows_after s t u (M.now old) (M.now mid) (M.now now) slots layout (wears honest) before (ReachesPage (HasEntry f.entry)) (ReachesPage (HasKey key)) (λ pages led. (led.0, led.1, record { entry = f.entry; there = led.2; of_key = same })) (here (back honest))

-- what holds whatever is answered
pub ok_so : {T : Type 0} {P : Type 0} (r : Result T Refusal) → P → OnOk r P
ok_so (Ok x) so = so
ok_so (Err why) so = tt

pub ok_each : {T : Type 0} {P : Type 0} (r : Result T Refusal) → P → IfOk r (λ x. P)
ok_each (Ok x) so = so
ok_each (Err why) so = tt

-- what holds of a change that was made holds behind the force
pub ok_more : {T : Type 0} {P Q : Type 0} (r : Result T Refusal) → (P → Q) → OnOk r P → OnOk r Q
ok_more (Ok x) more so = more so
ok_more (Err why) more so = tt

pub ok_each_more : {T : Type 0} {P Q : Type 0} (r : Result T Refusal) → (P → Q) → IfOk r (λ x. P) → IfOk r (λ x. Q)
ok_each_more (Ok x) more so = more so
ok_each_more (Err why) more so = tt

pub causes_behind : {D T : Type 0} (M : Ghosts D) (s t u : State) (before after : ℕ → Option (List ℕ)) (old mid now : D) → (M.honest now → IsBehindForce s t before after (M.now mid)) → u.slots ≡ t.slots → u.layout ≡ t.layout → (M.honest now → Wears (M.now mid) (M.now now))
    → (r : Result T Refusal) → Causes M after t u mid now r → Causes M before s u old now r
causes_behind M s t u before after old mid now behind slots layout wears r causes =
    causes_since M s t u before after old mid now (λ honest. forced_behind s t before after (M.now old) (M.now mid) (behind honest)) slots layout wears r causes

-- what the pages that were read behind a force show was shown by what was there before it
pub found_behind : {D : Type 0} (M : Ghosts D) (s t u : State) (before after : ℕ → Option (List ℕ)) (old mid now : D) → (M.honest now → IsBehindForce s t before after (M.now mid)) → u.slots ≡ t.slots → u.layout ≡ t.layout → (M.honest now → Wears (M.now mid) (M.now now))
    → (Is : Visit → Type 0) → ShowsReached M after t u mid now Is → ShowsReached M before s u old now Is
found_behind M s t u before after old mid now behind slots layout wears Is shows =
    λ honest. shows_behind s t u before after (M.now old) (M.now mid) (M.now now) (forced_behind s t before after (M.now old) (M.now mid) (behind honest)) slots layout (wears honest) (ReachesPage Is) (ReachesPage Is) (λ pages is. is) (shows honest)

-- ---- stages of a call

-- nothing is done
pub behind_itself : (s : State) (held : ℕ → Option (List ℕ)) (now : Moment) → IsBehindForce s s held held now
behind_itself s held now = record { layout = refl; free_pages = refl; pages = λ page bytes is. inl is; untaken = λ e untaken. untaken }

-- a record lies before the homes
record_below : (x : Layout) (a b : ℕ) → LieInRecord x a b → (a < home_a x 0) × (b < home_a x 0)
record_below x a b lies =
    let there = lies.there in let first = lies.first in let copy = lies.copy in let to = lies.to in
    (omega (arith, there, first, to), omega (arith, there, copy, to))

-- sectors of the data area are written and a serial is drawn
module _ (l : Layout) (mid now : Moment) (writes : WritesIn (is_data l) mid now) where
  out : (a : ℕ) → a < home_a l 0 → is_data l a ≡ false
  out a lt = by (is_data l a) refl
    where
      by : (b : Bool) → is_data l a ≡ b → b ≡ false
      by false is = refl
      by true is = absurd (let low = leb-true (data_start l) a (and_parts (nat_le (data_start l) a) (nat_lt a l.sectors) is).0 in omega (arith, lt, low))

  module _ (seen : Image) (worn : IsWorn (open_damage mid.windows) seen mid.image) where
    abbrev then_seen : Image
    then_seen = merged (is_data l) seen now.image

    size : length now.image ≡ length seen
    size = writes.touches.size ∙ worn.size

    at_then : (s : ℕ) → sector_at then_seen s ≡ cond (is_data l s) (sector_at now.image s) (sector_at seen s)
    at_then = merged_at (is_data l) seen now.image size

    then_worn : IsWorn (open_damage now.windows) then_seen now.image
    then_worn = record { size = size ∙ sym (merged_size (is_data l) seen now.image); each = λ s. by s (is_data l s) refl (at_then s) }
      where
        chained : (s : ℕ) → (sector_at mid.image s ≡ sector_at seen s) ⊎ (IsTrue (open_damage mid.windows s) × (sector_at mid.image s ≡ Damaged)) → SectorWorn (open_damage mid.windows s) (sector_at mid.image s) (sector_at now.image s)
            → (sector_at now.image s ≡ sector_at seen s) ⊎ (IsTrue (open_damage mid.windows s) × (sector_at now.image s ≡ Damaged))
        chained s first (inr gone) = inr gone
        chained s (inl same) (inl still) = inl (still ∙ same)
        chained s (inr gone) (inl still) = inr (gone.0, still ∙ gone.1)

        by : (s : ℕ) (b : Bool) → is_data l s ≡ b → sector_at then_seen s ≡ cond b (sector_at now.image s) (sector_at seen s)
            → (sector_at now.image s ≡ sector_at then_seen s) ⊎ (IsTrue (open_damage now.windows s) × (sector_at now.image s ≡ Damaged))
        by s true is e = inl (sym e)
        by s false is e =
            subst (λ (w : Windows). (sector_at now.image s ≡ sector_at then_seen s) ⊎ (IsTrue (open_damage w s) × (sector_at now.image s ≡ Damaged))) (sym writes.windows)
            (subst (λ (x : Sector). (sector_at now.image s ≡ x) ⊎ (IsTrue (open_damage mid.windows s) × (sector_at now.image s ≡ Damaged))) (sym e) (chained s (worn.each s) (writes.touches.others s is)))

    kept_at : (a : ℕ) → a < home_a l 0 → sector_at then_seen a ≡ sector_at seen a
    kept_at a lt = at_then a ∙ ap (λ (b : Bool). cond b (sector_at now.image a) (sector_at seen a)) (out a lt)

  -- what stands in the log lies before the data area
  logged_still : (k : Layout) → k ≡ l → (slots : List (Option Slot)) (page : ℕ) (bytes : List ℕ) → StandsLogged k slots mid page bytes → StandsLogged k slots now page bytes
  logged_still k same slots page bytes g =
      let below : (g.a < home_a l 0) × (g.b < home_a l 0) = subst (λ (x : Layout). (g.a < home_a x 0) × (g.b < home_a x 0)) same (record_below k g.a g.b g.logged.in_record) in
      record {
        seen = then_seen g.seen g.worn;
        worn = then_worn g.seen g.worn;
        a = g.a;
        b = g.b;
        logged = g.logged;
        first = kept_at g.seen g.worn g.a below.0 ∙ g.first;
        second = kept_at g.seen g.worn g.b below.1 ∙ g.second;
      }

  pub written_behind : (s t : State) (before after : ℕ → Option (List ℕ)) → t.layout ≡ l → IsBehindForce s t before after mid → IsBehindForce s (with_drawn t) before after now
  written_behind s t before after same behind = record { layout = behind.layout; free_pages = behind.free_pages; pages = pages; untaken = behind.untaken }
    where
      pages : (page : ℕ) (bytes : List ℕ) → after page ≡ Some bytes → (before page ≡ Some bytes) ⊎ StandsLogged t.layout t.slots now page bytes
      pages page bytes is = elim (behind.pages page bytes is) [
        | inl was ↦ inl was
        | inr stands ↦ inr (logged_still t.layout same t.slots page bytes stands)
      ]

-- a force comes by itself, behind a place that was found and a version that was written
module _ (v mid new : VolumeValue) (need : ℕ) (e : Entry) (has : HasStored need (state v) (state mid) e) (still : IsFalse (forces_for_place (state v) need) → resident mid ≡ resident v) (then now : Moment) where
  -- as none came before, all that is known of the volume then is known of it as it began
  behind_both : forces_first (state mid) ≡ true → IsBehindForce (state mid) (state new) (resident mid) (resident new) now → IsBehindForce (state v) (state new) (resident v) (resident new) now
  behind_both many behind =
      let none = none_before (state v) (state mid) need e has many in
      let began : IsBehindForce (with_drawn (state v)) (state new) (resident v) (resident new) now =
      subst (λ (s : State). IsBehindForce s (state new) (resident v) (resident new) now) none.1
      (subst (λ (before : ℕ → Option (List ℕ)). IsBehindForce (state mid) (state new) before (resident new) now) (still none.0) behind) in
      record { layout = began.layout; free_pages = began.free_pages; pages = began.pages; untaken = began.untaken }

  pub prepared_behind : IsBehindForce (state v) (state mid) (resident v) (resident mid) then → (IsFalse (forces_first (state mid)) → new ≡ mid) → (IsFalse (forces_first (state mid)) → now ≡ then) → IsBehindForce (state mid) (state new) (resident mid) (resident new) now
      → IsBehindForce (state v) (state new) (resident v) (resident new) now
  prepared_behind first same calm behind = by (forces_first (state mid)) refl
    where
      by : (b : Bool) → forces_first (state mid) ≡ b → IsBehindForce (state v) (state new) (resident v) (resident new) now
      by true many = behind_both many behind
      by false few =
          subst (λ (x : VolumeValue). IsBehindForce (state v) (state x) (resident v) (resident x) now) (sym (same few))
          (subst (IsBehindForce (state v) (state mid) (resident v) (resident mid)) (sym (calm few)) first)

-- ---- what is tested comes to none of them, and an edit leaves the log

pub delete_causes : {D T : Type 0} (M : Ghosts D) (s : State) (held : ℕ → Option (List ℕ)) (m : D) (r : Result T Refusal) (why : Refusal) → IsErrAnd r (λ told. told ≡ why) → Comes (delete_tests s) why → Causes M held s s m m r
delete_causes M s held m r why told comes =
    handed_cause M held s s m m why r told (λ honest. delete_tested (HasCallCause s s held (M.now m) (M.now m)) s (λ place down. tt) tt why comes)

pub keep_causes : {D : Type 0} (M : Ghosts D) (s : State) (held : ℕ → Option (List ℕ)) (m : D) (keep : ℕ) (r : Result Key Refusal) (why : Refusal) → IsErrAnd r (λ told. told ≡ why) → Comes (keep_tests s keep) why → Causes M held s s m m r
keep_causes M s held m keep r why told comes =
    handed_cause M held s s m m why r told (λ honest. keep_tested (HasCallCause s s held (M.now m) (M.now m)) s keep (λ place down. tt) (λ large. tt) tt why comes)

pub edited_slots : {T : Type 0} (t u : State) (r : Result T Refusal) → Edits t u r → u.slots ≡ t.slots
edited_slots t u (Ok x) edited = ap (λ (s : State). s.slots) edited.is
edited_slots t u (Err why) same = ap (λ (s : State). s.slots) same

pub edited_layout : {T : Type 0} (t u : State) (r : Result T Refusal) → Edits t u r → u.layout ≡ t.layout
edited_layout t u (Ok x) edited = ap (λ (s : State). s.layout) edited.is
edited_layout t u (Err why) same = ap (λ (s : State). s.layout) same
