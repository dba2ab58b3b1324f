-- What stands of a desk over an honest machine, where one client changes.
use Rattle.std.proofs.Common.{◌≡◌, ◌⊎◌, ℕ, suc, zero, ◌+◌, ◌-◌, ◌*◌, ◌/◌, ◌<◌, ◌≤◌, ◌≢◌, Bool, true, false, not, cond, List, [], ◌∷◌, ◌++◌, length, set, take, drop, refl, sym, ap, subst, ◌∙◌, inl, inr, arith, Option, Some, None, Result, Ok, Err}
use Rattle.std.specs.Prelude.{◌==◌, map, filter, min, replicate, option_map, slice_index_or}
use Rattle.std.specs.FinMap.{find}
use Rattle.std.proofs.lemmas.Bool.Decides.{eqb_tells}
use Rattle.std.proofs.lemmas.List.{get_or-set_same, get_or-set_other, length-set, length-map, length-take-le, length-drop, take-append-le}
use Rattle.std.proofs.Math.Seq.{take-length, drop-append_seam}
use Rattle.run_table.specs.declared.run.Run.{Run}
use Rattle.run_table.specs.RunTable.{same_runs}
use Rattle.run_table.proofs.SameLaws.{same_runs_are, runs_are_same}
use Rattle.fsd_bytes.specs.declared.key.Key.{Key}
use Rattle.fsd_bytes.specs.declared.key.Serial.{Serial}
use Rattle.fsd_bytes.specs.Keys.{key_cmp}
use Rattle.fsd_bytes.specs.declared.refusal.Refusal.{Refusal}
use Rattle.fsd_bytes.specs.declared.refusal.Refusal.TheVariants as Why
use Rattle.fsd_formats.specs.declared.entry.Entry.{Entry}
use Rattle.sector_disk.specs.Machine.{Moment}
use Rattle.fsd_log.specs.Scan.{Placed}
use Rattle.fsd_files.specs.Answers.{FindsDamage, entry_of}
use Rattle.fsd_files.specs.Disk.{Image}
use Rattle.fsd_files.specs.Kept.{range_sectors}
use Rattle.fsd_files.specs.Desk.{SessionOutcome, Open, Nothing, Writes, Reads, Session, begin_by, begin_outcome, begun_with, done_by, done_outcome, drop_by, drop_outcome, is_client, most_clients, open_by, open_outcome, opened_by, opened_with, next_by, next_count, next_outcome}
use Rattle.fsd_files.specs.Files.{Change, File}
use Rattle.fsd_files.specs.declared.reply.Reply.{Reply}
use Rattle.fsd_files.specs.declared.reply.Reply.TheVariants.{Refused, Begun, Dropped, Opened as HasOpened, Done, Given, DamagedAt}
use Rattle.fsd_files.specs.Volume.{Volume}
use Rattle.fsd_sound.specs.Mounted.{Mounted}
use Rattle.volume_contract.specs.Ends.{device_of}
use Rattle.volume_contract.specs.Order.{Comes, IsData, held_steps}
use Rattle.volume_contract.specs.Pieces.{Begins, Declines, EndsHold, EndsReserve, HoldsVersion, ReadsHeld, draft_begun, drafts_without, read_at, slice_count, slices_if, slices_in, with_opened}
use Rattle.volume_contract.specs.State.{Known, OpenParts, HeldVersion as Held, Stands, State, WrittenDraft, held_runs, readings, volume_of}
use Rattle.volume_contract.specs.declared.token.Draft.{Draft}
use Rattle.volume_contract.specs.declared.token.Held.{Held as HeldToken}
use Rattle.client_desk.specs.declared.client.Creation.{Creation}
use Rattle.client_desk.specs.declared.client.Reader.{Reader}
use Rattle.client_desk.specs.declared.client.Client.{Client}
use Rattle.client_desk.specs.declared.client.Client.TheVariants.{Idle, Writing, Reading}
use Rattle.client_desk.specs.Clients.{ShareNothing, GoesOnBehind, IsOf, WritesDraftIn, as_idle, as_reading, as_writing, client_at, found, tested, written_len}
use Rattle.client_desk.specs.Ends.{AnswersAs, EndsBegin, EndsNext, EndsOpen, GivesNext, IsReadingVersion, IsWritingDraft, ReadsOn, RefusesCall, ServesOpen, Sits, IsOpenIn, given_up, open_at, session_of, slices_so_far}
use Rattle.client_desk.proofs.DeskLaws.{IsFoundAt, apart_differ, client_other, client_set, others_of, owned, stays_of}

-- ---- what a read of a held version gives

-- the client goes on behind the bytes
pub read_gives : (o : OpenParts) (r : Reader) (key : Key) (runs : List Run) (bytes : List ℕ) (place n : ℕ) (i j : Image) (old new : List ℕ) → IsReadingVersion o r key runs bytes place
    → (let x : Result ℕ Refusal = Ok n in ReadsHeld i j r.held bytes r.place old new x) → (let x : Result ℕ Refusal = Ok n in ReadsOn i j runs bytes place old new x)
read_gives o r key runs bytes place n i j old new reading gives = (
  gives.count ∙ ap (λ (m : ℕ). min (m - r.place) (length old)) reading.long ∙ ap (λ (p : ℕ). min (length bytes - p) (length old)) reading.from,
  gives.bytes ∙ ap (λ (p : ℕ). take n (drop p bytes) ++ drop n old) reading.from,
  subst (λ (p : ℕ). FindsDamage i j (range_sectors runs p n) None) reading.from (subst (λ (x : List Run). FindsDamage i j (range_sectors x r.place n) None) reading.lies gives.whole),
)

pub read_fails : (o : OpenParts) (r : Reader) (key : Key) (runs : List Run) (bytes : List ℕ) (place : ℕ) (i j : Image) (old new : List ℕ) (why : Refusal) → IsReadingVersion o r key runs bytes place
    → (let x : Result ℕ Refusal = Err why in ReadsHeld i j r.held bytes r.place old new x) → (let x : Result ℕ Refusal = Err why in ReadsOn i j runs bytes place old new x)
read_fails o r key runs bytes place i j old new (Why.Damaged t) reading gives =
    subst (λ (p : ℕ). FindsDamage i j (range_sectors runs p (next_count bytes p (length old))) (Some t)) reading.from
    (subst (λ (m : ℕ). FindsDamage i j (range_sectors runs r.place (min (m - r.place) (length old))) (Some t)) reading.long
    (subst (λ (x : List Run). FindsDamage i j (range_sectors x r.place (min (r.held.entry.length - r.place) (length old))) (Some t)) reading.lies gives))
read_fails o r key runs bytes place i j old new why reading gives = tt

-- ---- what a client serves

-- A creation is in memory of what is written so.
pub record WritesAs (o : OpenParts) (w : Creation) (y : Open) : Type 0 where
  pub name : List ℕ
  pub len : ℕ
  pub runs : List Run
  pub serial : Serial
  pub bytes : List ℕ
  pub is : y ≡ Writes name len runs serial bytes
  pub writing : IsWritingDraft o w name len runs serial bytes

pub record ReadsAs (o : OpenParts) (r : Reader) (y : Open) : Type 0 where
  pub key : Key
  pub runs : List Run
  pub bytes : List ℕ
  pub place : ℕ
  pub is : y ≡ Reads key runs bytes place
  pub reading : IsReadingVersion o r key runs bytes place

pub serves_idle : (o : OpenParts) (y : Open) → ServesOpen o Idle y → y ≡ Nothing
serves_idle o Nothing serves = refl
serves_idle o (Writes name len runs serial bytes) serves = absurd serves
serves_idle o (Reads key runs bytes place) serves = absurd serves

pub serves_writing : (o : OpenParts) (w : Creation) (y : Open) → ServesOpen o (Writing w) y → WritesAs o w y
serves_writing o w Nothing serves = absurd serves
serves_writing o w (Writes a l r s b) serves = record { name = a; len = l; runs = r; serial = s; bytes = b; is = refl; writing = serves }
serves_writing o w (Reads a r b p) serves = absurd serves

pub serves_reading : (o : OpenParts) (r : Reader) (y : Open) → ServesOpen o (Reading r) y → ReadsAs o r y
serves_reading o r Nothing serves = absurd serves
serves_reading o r (Writes a l s t b) serves = absurd serves
serves_reading o r (Reads a s b p) serves = record { key = a; runs = s; bytes = b; place = p; is = refl; reading = serves }

-- ---- what is open stays so for a client

abbrev pub KeepsOf : OpenParts → OpenParts → Client → Type 0
KeepsOf o p Idle = Unit {0}
KeepsOf o p (Writing w) = slices_in p.drafts w.draft.runs ≡ slices_in o.drafts w.draft.runs
KeepsOf o p (Reading r) = slice_index_or p.readers r.held.place None ≡ slice_index_or o.readers r.held.place None

pub serves_kept : (o p : OpenParts) (x : Client) (y : Open) → KeepsOf o p x → ServesOpen o x y → ServesOpen p x y
serves_kept o p Idle Nothing kept serves = tt
serves_kept o p Idle (Writes a l r s b) kept serves = absurd serves
serves_kept o p Idle (Reads a r b n) kept serves = absurd serves
serves_kept o p (Writing w) Nothing kept serves = absurd serves
serves_kept o p (Writing w) (Writes a l r s b) kept serves = record {
  named = serves.named;
  long = serves.long;
  lies = serves.lies;
  drawn = serves.drawn;
  got = serves.got;
  tail = serves.tail;
  written = ap (λ (x : List Run). slices_in p.drafts x) (sym serves.lies) ∙ kept ∙ ap (λ (x : List Run). slices_in o.drafts x) serves.lies ∙ serves.written;
}
serves_kept o p (Writing w) (Reads a r b n) kept serves = absurd serves
serves_kept o p (Reading r) Nothing kept serves = absurd serves
serves_kept o p (Reading r) (Writes a l t s b) kept serves = absurd serves
serves_kept o p (Reading r) (Reads a t b n) kept serves = record { of_key = serves.of_key; lies = serves.lies; long = serves.long; from = serves.from; there = kept ∙ serves.there }

-- the other creations stay where one is over
pub slices_without : (drafts : List WrittenDraft) (a r : List Run) → same_runs a r ≡ false → slices_in (drafts_without drafts a) r ≡ slices_in drafts r
slices_without [] a r other = refl
slices_without (x ∷ drafts) a r other = by (slices_without drafts a r other) (same_runs x.runs a) refl
  where
    by : slices_in (drafts_without drafts a) r ≡ slices_in drafts r → (b : Bool) → same_runs x.runs a ≡ b → slices_in (cond (not b) (x ∷ drafts_without drafts a) (drafts_without drafts a)) r ≡ cond (same_runs x.runs r) (Some x.slices) (slices_in drafts r)
    by rest true e = rest ∙ ap (λ (c : Bool). cond c (Some x.slices) (slices_in drafts r)) (sym (ap (λ (runs : List Run). same_runs runs r) (same_runs_are x.runs a e) ∙ other))
    by rest false e = ap (λ (z : Option (List (Option (List ℕ)))). cond (same_runs x.runs r) (Some x.slices) z) rest

pub keeps_given : (s : State) (k : Known) (a x : Client) → IsOf s a → ShareNothing a x → KeepsOf k.opened (given_up k a).opened x
keeps_given s k a Idle is apart = tt
keeps_given s k Idle (Writing w) is apart = refl
keeps_given s k Idle (Reading r) is apart = refl
keeps_given s k (Writing a) (Writing w) is apart = slices_without k.opened.drafts a.draft.runs w.draft.runs (apart_differ s a w is apart)
keeps_given s k (Writing a) (Reading r) is apart = refl
keeps_given s k (Reading a) (Writing w) is apart = refl
keeps_given s k (Reading a) (Reading r) is apart = get_or-set_other k.opened.readers a.held.place r.held.place None None (λ same. apart (sym same))

pub keeps_begun : (s : State) (o : OpenParts) (w : Creation) (len : ℕ) (x : Client) → IsOf s (Writing w) → ShareNothing (Writing w) x → KeepsOf o (draft_begun o w.draft.runs len) x
keeps_begun s o w len Idle is apart = tt
keeps_begun s o w len (Writing a) is apart = ap (λ (b : Bool). cond b (Some (replicate (slice_count len) None)) (slices_in o.drafts a.draft.runs)) (apart_differ s w a is apart)
keeps_begun s o w len (Reading r) is apart = refl

pub keeps_read : (o : OpenParts) (r : Reader) (reading : Option Held) (x : Client) → ShareNothing (Reading r) x → KeepsOf o (read_at o r.held.place reading) x
keeps_read o r reading Idle apart = tt
keeps_read o r reading (Writing a) apart = refl
keeps_read o r reading (Reading a) apart = get_or-set_other o.readers r.held.place a.held.place reading None (λ same. apart (sym same))

-- ---- whose a creation is

idle_writes_in : (x : Client) (runs : List Run) → x ≡ Idle → WritesDraftIn x runs → ⊥
idle_writes_in x runs idle own = subst (λ (y : Client). WritesDraftIn y runs) idle own

-- one that is over isn't there
none_without : (drafts : List WrittenDraft) (a : List Run) → slices_in (drafts_without drafts a) a ≡ None
none_without [] a = refl
none_without (x ∷ drafts) a = by (same_runs x.runs a) refl (none_without drafts a)
  where
    by : (b : Bool) → same_runs x.runs a ≡ b → slices_in (drafts_without drafts a) a ≡ None → slices_in (cond (not b) (x ∷ drafts_without drafts a) (drafts_without drafts a)) a ≡ None
    by true e more = more
    by false e more = ap (λ (b : Bool). cond b (Some x.slices) (slices_in (drafts_without drafts a) a)) e ∙ more

pub kept_draft : (o : OpenParts) (a runs : List Run) (slices : List (Option (List ℕ))) → slices_in (drafts_without o.drafts a) runs ≡ Some slices → (slices_in o.drafts runs ≡ Some slices) × (a ≡ runs → ⊥)
kept_draft o a runs slices there = by (same_runs a runs) refl
  where
    by : (b : Bool) → same_runs a runs ≡ b → (slices_in o.drafts runs ≡ Some slices) × (a ≡ runs → ⊥)
    by true e = absurd (cc (sym (none_without o.drafts a) ∙ ap (λ (r : List Run). slices_in (drafts_without o.drafts a) r) (same_runs_are a runs e) ∙ there))
    by false e = (sym (slices_without o.drafts a runs e) ∙ there, λ same. absurd (cc (sym (ap (λ (r : List Run). same_runs a r) (sym same) ∙ runs_are_same a) ∙ e)))

pub kept_given : (k : Known) (a : Client) (runs : List Run) (slices : List (Option (List ℕ))) → slices_in (given_up k a).opened.drafts runs ≡ Some slices → (slices_in k.opened.drafts runs ≡ Some slices) × (WritesDraftIn a runs → ⊥)
kept_given k Idle runs slices there = (there, λ own. own)
kept_given k (Writing w) runs slices there = kept_draft k.opened w.draft.runs runs slices there
kept_given k (Reading r) runs slices there = (there, λ own. own)

goes_writes_in : (n : ℕ) (a x : Client) (runs : List Run) → GoesOnBehind n a x → WritesDraftIn a runs → WritesDraftIn x runs
goes_writes_in n Idle x runs goes own = absurd goes
goes_writes_in n (Writing w) x runs goes own = absurd goes
goes_writes_in n (Reading r) x runs goes own = absurd own

-- ---- volumes

pub held_readings : (places : List (Option Held)) → held_runs (map (λ place. option_map (λ x. x.runs) place) places) ≡ map (λ x. x.runs) (readings places)
held_readings [] = refl
held_readings (None ∷ places) = held_readings places
held_readings (Some x ∷ places) = ap (λ (xs : List (List Run)). x.runs ∷ xs) (held_readings places)

pub undrafted_runs : (drafts : List WrittenDraft) (a : List Run) → map (λ x. x.runs) (drafts_without drafts a) ≡ filter (λ d. not (same_runs d a)) (map (λ x. x.runs) drafts)
undrafted_runs [] a = refl
undrafted_runs (x ∷ drafts) a = by (undrafted_runs drafts a) (same_runs x.runs a)
  where
    by : map (λ x. x.runs) (drafts_without drafts a) ≡ filter (λ d. not (same_runs d a)) (map (λ x. x.runs) drafts) → (b : Bool) → map (λ x. x.runs) (cond (not b) (x ∷ drafts_without drafts a) (drafts_without drafts a)) ≡ cond (not b) (x.runs ∷ filter (λ d. not (same_runs d a)) (map (λ x. x.runs) drafts)) (filter (λ d. not (same_runs d a)) (map (λ x. x.runs) drafts))
    by rest true = rest
    by rest false = ap (λ (xs : List (List Run)). x.runs ∷ xs) rest

-- ---- what was found is what is open

pub opened_is : (opens : List Open) (c i : ℕ) → is_client c ≡ true → i ≡ c - 1 → opened_by opens c ≡ Ok (open_at opens i)
opened_is opens c i client place =
    ap (λ (b : Bool). cond b (Ok (open_at opens (c - 1))) (Err (Why.BadClient c))) client ∙ ap (λ (n : ℕ). Ok (open_at opens n)) (sym place)

pub unopened_is : (opens : List Open) (c : ℕ) → is_client c ≡ false → opened_by opens c ≡ Err (Why.BadClient c)
unopened_is opens c client = ap (λ (b : Bool). cond b (Ok (open_at opens (c - 1))) (Err (Why.BadClient c))) client

module _ (o : OpenParts) (desk : List Client) (opens : List Open) (c : ℕ) (why : Refusal) (each : (i : ℕ) → ServesOpen o (client_at desk i) (open_at opens i))
    (then_by : Result Open Refusal → SessionOutcome) (s : Session) (fails : (r : Refusal) → then_by (Err r) ≡ (Refused r, s)) where
  -- there is no such client, or it has such a thing open
  by_client : (as_such : (c i : ℕ) → Client → Result ℕ Refusal) → ((x : Client) (y : Open) → ServesOpen o x y → as_such c (c - 1) x ≡ Err why → then_by (Ok y) ≡ (Refused why, s))
      → found as_such desk c ≡ Err why → then_by (opened_by opens c) ≡ (Refused why, s)
  by_client as_such such is = by (is_client c) refl is
    where
      by : (b : Bool) → is_client c ≡ b → tested as_such desk c (cond b (Ok (c - 1)) (Err (Why.BadClient c))) ≡ Err why → then_by (opened_by opens c) ≡ (Refused why, s)
      by true e is = ap then_by (opened_is opens c (c - 1) e refl) ∙ such (client_at desk (c - 1)) (open_at opens (c - 1)) (each (c - 1)) is
      by false e is = ap then_by (unopened_is opens c e) ∙ fails (Why.BadClient c) ∙ ap (λ (r : Refusal). (Refused r, s)) cc

  pub refused_idle : ((a : List ℕ) (l : ℕ) (r : List Run) (t : Serial) (b : List ℕ) → then_by (Ok (Writes a l r t b)) ≡ (Refused (Why.Busy c), s))
      → ((a : Key) (r : List Run) (b : List ℕ) (p : ℕ) → then_by (Ok (Reads a r b p)) ≡ (Refused (Why.Busy c), s))
      → found as_idle desk c ≡ Err why → then_by (opened_by opens c) ≡ (Refused why, s)
  refused_idle writes reads is = by_client as_idle such is
    where
      such : (x : Client) (y : Open) → ServesOpen o x y → as_idle c (c - 1) x ≡ Err why → then_by (Ok y) ≡ (Refused why, s)
      such Idle y serves e = absurd (cc e)
      such (Writing w) Nothing serves e = absurd serves
      such (Writing w) (Writes a l r t b) serves e = writes a l r t b ∙ ap (λ (r : Refusal). (Refused r, s)) (cc e)
      such (Writing w) (Reads a r b p) serves e = absurd serves
      such (Reading r) Nothing serves e = absurd serves
      such (Reading r) (Writes a l t u b) serves e = absurd serves
      such (Reading r) (Reads a t b p) serves e = reads a t b p ∙ ap (λ (r : Refusal). (Refused r, s)) (cc e)

  pub refused_writing : then_by (Ok Nothing) ≡ (Refused (Why.Idle c), s)
      → ((a : Key) (r : List Run) (b : List ℕ) (p : ℕ) → then_by (Ok (Reads a r b p)) ≡ (Refused (Why.Idle c), s))
      → found as_writing desk c ≡ Err why → then_by (opened_by opens c) ≡ (Refused why, s)
  refused_writing nothing reads is = by_client as_writing such is
    where
      such : (x : Client) (y : Open) → ServesOpen o x y → as_writing c (c - 1) x ≡ Err why → then_by (Ok y) ≡ (Refused why, s)
      such Idle Nothing serves e = nothing ∙ ap (λ (r : Refusal). (Refused r, s)) (cc e)
      such Idle (Writes a l r t b) serves e = absurd serves
      such Idle (Reads a r b p) serves e = absurd serves
      such (Writing w) y serves e = absurd (cc e)
      such (Reading r) Nothing serves e = absurd serves
      such (Reading r) (Writes a l t u b) serves e = absurd serves
      such (Reading r) (Reads a t b p) serves e = reads a t b p ∙ ap (λ (r : Refusal). (Refused r, s)) (cc e)

  pub refused_reading : then_by (Ok Nothing) ≡ (Refused (Why.Idle c), s)
      → ((a : List ℕ) (l : ℕ) (r : List Run) (t : Serial) (b : List ℕ) → then_by (Ok (Writes a l r t b)) ≡ (Refused (Why.Idle c), s))
      → found as_reading desk c ≡ Err why → then_by (opened_by opens c) ≡ (Refused why, s)
  refused_reading nothing writes is = by_client as_reading such is
    where
      such : (x : Client) (y : Open) → ServesOpen o x y → as_reading c (c - 1) x ≡ Err why → then_by (Ok y) ≡ (Refused why, s)
      such Idle Nothing serves e = nothing ∙ ap (λ (r : Refusal). (Refused r, s)) (cc e)
      such Idle (Writes a l r t b) serves e = absurd serves
      such Idle (Reads a r b p) serves e = absurd serves
      such (Writing w) Nothing serves e = absurd serves
      such (Writing w) (Writes a l r t b) serves e = writes a l r t b ∙ ap (λ (r : Refusal). (Refused r, s)) (cc e)
      such (Writing w) (Reads a r b p) serves e = absurd serves
      such (Reading r) y serves e = absurd (cc e)

-- a fault of the data alone
abbrev pub IsDataFault : Refusal → Type 0
IsDataFault (Why.Damaged s) = Unit {0}
IsDataFault (Why.Device s) = Unit {0}
IsDataFault other = ⊥

-- a volume that is up answers a read of a held version so
pub data_fault : (s : State) (why : Refusal) → s.down ≡ None → Comes (held_steps s) why → IsDataFault why
data_fault s why up comes = by why (down_passes comes)
  where
    down_passes : Comes (held_steps s) why → IsData why
    down_passes (inl is) = absurd (cc (is, ap (λ (d : Option ℕ). option_map Why.Down d) up))
    down_passes (inr later) = elim later.1 [
      | inl of ↦ of
      | inr none ↦ absurd none.1
    ]

    by : (r : Refusal) → IsData r → IsDataFault r
    by (Why.Damaged t) of = tt
    by (Why.Device t) of = tt
    by r of = absurd of

-- ---- the refusals of a test

abbrev pub IsOfClient : (c : ℕ) → Refusal → Type 0
IsOfClient c why = (why ≡ Why.BadClient c) ⊎ ((why ≡ Why.Busy c) ⊎ (why ≡ Why.Idle c))

pub fault_of : (as_such : (c i : ℕ) → Client → Result ℕ Refusal) (desk : List Client) (c : ℕ) (why : Refusal) → ((x : Client) → as_such c (c - 1) x ≡ Err why → IsOfClient c why) → found as_such desk c ≡ Err why → IsOfClient c why
fault_of as_such desk c why such is = by (is_client c) is
  where
    by : (b : Bool) → tested as_such desk c (cond b (Ok (c - 1)) (Err (Why.BadClient c))) ≡ Err why → IsOfClient c why
    by true is = such (client_at desk (c - 1)) is
    by false is = inl (cc is)

pub idle_fault : (desk : List Client) (c : ℕ) (why : Refusal) → found as_idle desk c ≡ Err why → IsOfClient c why
idle_fault desk c why is = fault_of as_idle desk c why such is
  where
    such : (x : Client) → as_idle c (c - 1) x ≡ Err why → IsOfClient c why
    such Idle e = absurd (cc e)
    such (Writing w) e = inr (inl (cc e))
    such (Reading r) e = inr (inl (cc e))

pub writing_fault : (desk : List Client) (c : ℕ) (why : Refusal) → found as_writing desk c ≡ Err why → IsOfClient c why
writing_fault desk c why is = fault_of as_writing desk c why such is
  where
    such : (x : Client) → as_writing c (c - 1) x ≡ Err why → IsOfClient c why
    such Idle e = inr (inr (cc e))
    such (Writing w) e = absurd (cc e)
    such (Reading r) e = inr (inr (cc e))

pub reading_fault : (desk : List Client) (c : ℕ) (why : Refusal) → found as_reading desk c ≡ Err why → IsOfClient c why
reading_fault desk c why is = fault_of as_reading desk c why such is
  where
    such : (x : Client) → as_reading c (c - 1) x ≡ Err why → IsOfClient c why
    such Idle e = inr (inr (cc e))
    such (Writing w) e = inr (inr (cc e))
    such (Reading r) e = absurd (cc e)

-- what is so of each of them is so of one
pub told_so : (From To : Refusal → Type 0) (c : ℕ) (why : Refusal) → (From (Why.BadClient c) → To (Why.BadClient c)) → (From (Why.Busy c) → To (Why.Busy c)) → (From (Why.Idle c) → To (Why.Idle c)) → IsOfClient c why → From why → To why
told_so From To c why bad busy idle of from = elim of [
  | inl e ↦ subst (λ (r : Refusal). To r) (sym e) (bad (subst (λ (r : Refusal). From r) e from))
  | inr other ↦ elim other [
    | inl e ↦ subst (λ (r : Refusal). To r) (sym e) (busy (subst (λ (r : Refusal). From r) e from))
    | inr e ↦ subst (λ (r : Refusal). To r) (sym e) (idle (subst (λ (r : Refusal). From r) e from))
  ]
]

-- a test refuses without a call of the disk
pub client_device : (c : ℕ) (why : Refusal) → IsOfClient c why → device_of why ≡ None
client_device c why of = elim of [
  | inl e ↦ ap (λ (r : Refusal). device_of r) e
  | inr other ↦ elim other [
    | inl e ↦ ap (λ (r : Refusal). device_of r) e
    | inr e ↦ ap (λ (r : Refusal). device_of r) e
  ]
]

-- nor is a sector told as damaged
pub client_whole : (c s : ℕ) (why : Refusal) → IsOfClient c why → why ≡ Why.Damaged s → ⊥
client_whole c s why of is = elim of [
  | inl e ↦ absurd (cc (sym e ∙ is))
  | inr other ↦ elim other [
    | inl e ↦ absurd (cc (sym e ∙ is))
    | inr e ↦ absurd (cc (sym e ∙ is))
  ]
]

-- ---- lists

pub set_twice : {A : Type 0} (xs : List A) (i : ℕ) (a b : A) → set (set xs i a) i b ≡ set xs i b
set_twice [] i a b = refl
set_twice (x ∷ xs) zero a b = refl
set_twice {A = A} (x ∷ xs) (suc i) a b = ap (λ (ys : List A). x ∷ ys) (set_twice xs i a b)

-- the client that was taken out is put back
pub clients_are : (desk taken new : List Client) (i : ℕ) (x : Client) → new ≡ set taken i x → taken ≡ set desk i Idle → new ≡ set desk i x
clients_are desk taken new i x put took = put ∙ ap (λ (y : List Client). set y i x) took ∙ set_twice desk i Idle x

-- the front of what was put in front
pub front_of : (n : ℕ) (xs ys : List ℕ) → n ≤ length xs → take n (take n xs ++ ys) ≡ take n xs
front_of n xs ys le =
    let size : n ≤ length (take n xs) = omega (arith, length-take-le n xs le) in
    take-append-le n (take n xs) ys size ∙ ap (λ (m : ℕ). take m (take n xs)) (sym (length-take-le n xs le)) ∙ take-length (take n xs)

pub behind_front : (n : ℕ) (xs ys : List ℕ) → n ≤ length xs → drop n (take n xs ++ ys) ≡ ys
behind_front n xs ys le = ap (λ (m : ℕ). drop m (take n xs ++ ys)) (sym (length-take-le n xs le)) ∙ drop-append_seam (take n xs) ys

module _ {S : Type 0} (state : S → State) (has : S → Mounted → List Placed → Type 0) where
  pub held_is : (v : S) (k : Known) (now : Moment) → Stands state has v k now → (volume_of k).held ≡ map (λ x. x.runs) (readings k.opened.readers)
  held_is v k now stands = stands.fits.held ∙ ap (λ (xs : List (Option (List Run))). held_runs xs) stands.opened.places ∙ held_readings k.opened.readers

  -- It answers so by what its volume lists as held then.
  pub record AnswersBy (outcome : List (List Run) → Session → SessionOutcome) (reply : Reply) (k : Known) (opens : List Open) (v : S) (desk : List Client) (now : Moment) : Type 0 where
    pub held : List (List Run)
    pub answers : AnswersAs state has (outcome held) reply [] k opens v desk now
    pub is : held ≡ (volume_of answers.after).held

  -- nothing has changed
  pub answers_still : (outcome : Session → SessionOutcome) (reply : Reply) (k : Known) (opens : List Open) (v : S) (desk : List Client) (now : Moment)
      → Sits state has v desk k opens now → outcome (session_of k opens) ≡ (reply, session_of k opens) → AnswersAs state has outcome reply [] k opens v desk now
  answers_still outcome reply k opens v desk now sits is = record { after = k; left = opens; is = is; windows = refl; changes = sym (none k.changes); sits = sits }
    where
      none : (h : List Change) → h ++ [] ≡ h
      none [] = refl
      none (c ∷ h) = ap (λ (xs : List Change). c ∷ xs) (none h)

  pub refuses_client : (outcome : Session → SessionOutcome) (c : ℕ) (why : Refusal) (k : Known) (opens : List Open) (v : S) (desk : List Client) (now : Moment)
      → IsOfClient c why → AnswersAs state has outcome (Refused why) [] k opens v desk now → RefusesCall state has outcome k opens v desk now why
  refuses_client outcome c why k opens v desk now of answers = elim of [
    | inl e ↦ subst (λ (r : Refusal). RefusesCall state has outcome k opens v desk now r) (sym e) (subst (λ (r : Refusal). AnswersAs state has outcome (Refused r) [] k opens v desk now) e answers)
    | inr other ↦ elim other [
      | inl e ↦ subst (λ (r : Refusal). RefusesCall state has outcome k opens v desk now r) (sym e) (subst (λ (r : Refusal). AnswersAs state has outcome (Refused r) [] k opens v desk now) e answers)
      | inr e ↦ subst (λ (r : Refusal). RefusesCall state has outcome k opens v desk now r) (sym e) (subst (λ (r : Refusal). AnswersAs state has outcome (Refused r) [] k opens v desk now) e answers)
    ]
  ]

  -- one client changes
  pub sits_set : (v : S) (desk : List Client) (k : Known) (opens : List Open) (now : Moment) (i : ℕ) (x : Client) (y : Open) → i < length desk → length desk ≡ most_clients → length opens ≡ most_clients
      → Stands state has v k now → ServesOpen k.opened x y → ((j : ℕ) → (j ≡ i → ⊥) → ServesOpen k.opened (client_at desk j) (open_at opens j))
      → ((runs : List Run) (slices : List (Option (List ℕ))) → slices_in k.opened.drafts runs ≡ Some slices → WritesDraftIn x runs ⊎ ((j : ℕ) × (j ≡ i → ⊥) × WritesDraftIn (client_at desk j) runs))
      → Sits state has v (set desk i x) k (set opens i y) now
  sits_set v desk k opens now i x y inside many size stands here others drafts = record {
    stands = stands;
    size = length-set opens i y ∙ size;
    each = λ j. by j (eqb_tells j i);
    drafts = λ runs slices there. owned desk i x inside (λ z. WritesDraftIn z runs) (drafts runs slices there);
  }
    where
      same_open : open_at (set opens i y) i ≡ y
      same_open = get_or-set_same opens i y Nothing (omega (arith, inside, many, size))

      by : (j : ℕ) → (((j == i) ≡ true) × (j ≡ i)) ⊎ (((j == i) ≡ false) × (j ≢ i)) → ServesOpen k.opened (client_at (set desk i x) j) (open_at (set opens i y) j)
      by j (inl same) =
          subst (λ (n : ℕ). ServesOpen k.opened (client_at (set desk i x) n) (open_at (set opens i y) n)) (sym same.1)
          (subst (λ (z : Client). ServesOpen k.opened z (open_at (set opens i y) i)) (sym (client_set desk i x inside)) (subst (λ (z : Open). ServesOpen k.opened x z) (sym same_open) here))
      by j (inr other) =
          subst (λ (z : Client). ServesOpen k.opened z (open_at (set opens i y) j)) (sym (client_other desk i x inside j other.1))
          (subst (λ (z : Open). ServesOpen k.opened (client_at desk j) z) (sym (get_or-set_other opens i j y Nothing other.1)) (others j other.1))

  -- ---- the calls

  -- it isn't begun
  pub begin_refused : (c : ℕ) (name : List ℕ) (len : ℕ) (k : Known) (opens : List Open) (v : S) (desk : List Client) (now : Moment) (why : Refusal) → found as_idle desk c ≡ Err why
      → Sits state has v desk k opens now → (let r : Result (Unit {0}) Refusal = Err why in EndsBegin state has c name len k opens v desk now r)
  begin_refused c name len k opens v desk now why is sits =
      let outcome : Session → SessionOutcome = λ s. begin_outcome s c name len in
      told_so (λ r. AnswersAs state has outcome (Refused r) [] k opens v desk now) (λ r. let z : Result (Unit {0}) Refusal = Err r in EndsBegin state has c name len k opens v desk now z) c why
      (λ told. told) (λ told. told) (λ told. told) (idle_fault desk c why is)
      (answers_still outcome (Refused why) k opens v desk now sits
      (refused_idle k.opened desk opens c why sits.each (λ r. begin_by r (session_of k opens) c name len) (session_of k opens) (λ r. refl) (λ a l r t b. refl) (λ a r b p. refl) is))

  pub sits_later : (k after : Known) (opens : List Open) (v w : S) (desk : List Client) (old now : Moment) → after.opened ≡ k.opened → Stands state has w after now → Sits state has v desk k opens old → Sits state has w desk after opens now
  sits_later k after opens v w desk old now same stands sits = record {
    stands = stands;
    size = sits.size;
    each = λ i. subst (λ (o : OpenParts). ServesOpen o (client_at desk i) (open_at opens i)) (sym same) (sits.each i);
    drafts = λ runs slices there. sits.drafts runs slices (subst (λ (o : OpenParts). slices_in o.drafts runs ≡ Some slices) same there);
  }

  -- the volume finds no place
  begins_by : (k : Known) (opens : List Open) (c : ℕ) (name : List ℕ) (len i : ℕ) → is_client c ≡ true → i ≡ c - 1 → open_at opens i ≡ Nothing
      → begin_outcome (session_of k opens) c name len ≡ begin_by (Ok Nothing) (session_of k opens) c name len
  begins_by k opens c name len i client place none = ap (λ (r : Result Open Refusal). begin_by r (session_of k opens) c name len) (opened_is opens c i client place ∙ ap (λ (y : Open). Ok y) none)

  pub begin_declined : (c : ℕ) (name : List ℕ) (len i : ℕ) (k : Known) (opens : List Open) (v w : S) (desk : List Client) (old now : Moment) (why : Refusal) → IsFoundAt desk c i (λ x. x ≡ Idle)
      → Sits state has v desk k opens old → (let r : Result Draft Refusal = Err why in EndsReserve state has len k w now r) → (let r : Result (Unit {0}) Refusal = Err why in EndsBegin state has c name len k opens w desk now r)
  begin_declined c name len i k opens v w desk old now why at sits ends = by why ends
    where
      none : open_at opens i ≡ Nothing
      none = serves_idle k.opened (open_at opens i) (subst (λ (x : Client). ServesOpen k.opened x (open_at opens i)) at.is (sits.each i))

      declined : (r : Refusal) → Declines state has len k w now r → AnswersAs state has (λ s. begin_outcome s c name len) (Refused r) [] k opens w desk now
      declined r d = record {
        after = d.after;
        left = opens;
        is = begins_by k opens c name len i at.client at.place none
            ∙ ap (λ (out : Result (List Run) Refusal × Volume). begun_with out.0 (volume_of k).serial (record { volume = out.1; clients = opens }) c name len) d.is;
        windows = d.windows;
        changes = d.changes ∙ sym (nothing_more k.changes);
        sits = sits_later k d.after opens v w desk old now d.opened d.stands sits;
      }
        where
          nothing_more : (h : List Change) → h ++ [] ≡ h
          nothing_more [] = refl
          nothing_more (x ∷ h) = ap (λ (xs : List Change). x ∷ xs) (nothing_more h)

      by : (r : Refusal) → (let z : Result Draft Refusal = Err r in EndsReserve state has len k w now z) → (let z : Result (Unit {0}) Refusal = Err r in EndsBegin state has c name len k opens w desk now z)
      by (Why.Device s) e = e
      by Why.WornOut e = sits_later k k opens v w desk old now refl e sits
      by (Why.Lost a b) e = absurd e
      by (Why.Unsound s) e = absurd e
      by (Why.Down s) e = absurd e
      by Why.Memory e = absurd e
      by r e = declined r e

  -- it is begun
  pub begin_done : (s : State) (c : ℕ) (name : List ℕ) (len i : ℕ) (k : Known) (opens : List Open) (v w : S) (desk : List Client) (old now : Moment) (x : Creation) → i < length desk → length desk ≡ most_clients
      → IsFoundAt desk c i (λ x. x ≡ Idle) → IsOf s (Writing x) → ((j : ℕ) → (j ≡ i → ⊥) → ShareNothing (Writing x) (client_at desk j))
      → x.name ≡ name → x.draft.length ≡ len → x.got ≡ 0
      → Sits state has v desk k opens old → Begins state has len k w now x.draft → AnswersAs state has (λ t. begin_outcome t c name len) (Begun c) [] k opens w (set desk i (Writing x)) now
  begin_done s c name len i k opens v w desk old now x inside many at of apart named long none_yet sits begins = record {
    after = begins.after;
    left = set opens (c - 1) y;
    is = begins_by k opens c name len i at.client at.place none
        ∙ ap (λ (out : Result (List Run) Refusal × Volume). begun_with out.0 (volume_of k).serial (record { volume = out.1; clients = opens }) c name len) begins.is
        ∙ ap (λ (t : Serial). (Begun c, record { volume = volume_of begins.after; clients = set opens (c - 1) (Writes name len x.draft.runs t []) })) (sym begins.serial);
    windows = begins.windows;
    changes = begins.changes ∙ sym (nothing_more k.changes);
    sits = subst (λ (n : ℕ). Sits state has w (set desk i (Writing x)) begins.after (set opens n y) now) at.place
        (sits_set w desk begins.after opens now i (Writing x) y inside many sits.size begins.stands serves
        (λ j other. subst (λ (o : OpenParts). ServesOpen o (client_at desk j) (open_at opens j)) (sym begins.opened)
        (serves_kept k.opened (draft_begun k.opened x.draft.runs len) (client_at desk j) (open_at opens j) (keeps_begun s k.opened x len (client_at desk j) of (apart j other)) (sits.each j)))
        (λ runs slices there. mine runs slices (same_runs x.draft.runs runs) refl (ap (λ (o : OpenParts). slices_in o.drafts runs) (sym begins.opened) ∙ there)));
  }
    where
      y : Open
      y = Writes name len x.draft.runs x.draft.serial []

      none : open_at opens i ≡ Nothing
      none = serves_idle k.opened (open_at opens i) (subst (λ (z : Client). ServesOpen k.opened z (open_at opens i)) at.is (sits.each i))

      nothing_more : (h : List Change) → h ++ [] ≡ h
      nothing_more [] = refl
      nothing_more (z ∷ h) = ap (λ (xs : List Change). z ∷ xs) (nothing_more h)

      mine : (runs : List Run) (slices : List (Option (List ℕ))) (b : Bool) → same_runs x.draft.runs runs ≡ b → cond b (Some (replicate (slice_count len) None)) (slices_in k.opened.drafts runs) ≡ Some slices
          → (x.draft.runs ≡ runs) ⊎ ((j : ℕ) × (j ≡ i → ⊥) × WritesDraftIn (client_at desk j) runs)
      mine runs slices true e there = inl (same_runs_are x.draft.runs runs e)
      mine runs slices false e there = others_of desk i (Writing x) (λ z. WritesDraftIn z runs) (λ own. idle_writes_in (client_at desk i) runs at.is own) (sits.drafts runs slices there)

      none_written : (b : Bool) → cond b 0 (0 / 512 * 512) ≡ 0
      none_written true = refl
      none_written false = refl

      no_less : (n : ℕ) → 0 - n ≡ 0
      no_less n = omega arith

      no_more : (n : ℕ) → n - 0 ≡ n
      no_more n = omega arith

      none_so_far : slices_so_far len [] ≡ replicate (slice_count len) None
      none_so_far =
          ap (λ (n : ℕ). slices_if true (take n []) ++ replicate (slice_count len - slice_count (length {A = ℕ} (take n []))) None) (none_written (0 == len))
          ∙ ap (λ (n : ℕ). replicate n None) (no_more (slice_count len))

      serves : ServesOpen begins.after.opened (Writing x) y
      serves = record {
        named = named;
        long = long;
        lies = refl;
        drawn = refl;
        got = none_yet;
        tail = ap (λ (n : ℕ). take (n - written_len x.draft.length n) x.slice) none_yet ∙ ap (λ (n : ℕ). take n x.slice) (no_less (written_len x.draft.length 0)) ∙ sym (ap (λ (n : ℕ). drop {A = ℕ} n []) (none_written (0 == len)));
        written = ap (λ (o : OpenParts). slices_in o.drafts x.draft.runs) begins.opened
            ∙ ap (λ (b : Bool). cond b (Some (replicate (slice_count len) None)) (slices_in k.opened.drafts x.draft.runs)) (runs_are_same x.draft.runs)
            ∙ ap (λ (xs : List (Option (List ℕ))). Some xs) (sym none_so_far);
      }

  pub nothing_more : (h : List Change) → h ++ [] ≡ h
  nothing_more [] = refl
  nothing_more (x ∷ h) = ap (λ (xs : List Change). x ∷ xs) (nothing_more h)

  -- ---- what is given up

  pub drop_refused : (c : ℕ) (k : Known) (opens : List Open) (v : S) (desk : List Client) (now : Moment) (why : Refusal) → found as_writing desk c ≡ Err why
      → Sits state has v desk k opens now → AnswersAs state has (λ s. drop_outcome s c) (Refused why) [] k opens v desk now
  drop_refused c k opens v desk now why is sits =
      answers_still (λ s. drop_outcome s c) (Refused why) k opens v desk now sits
      (refused_writing k.opened desk opens c why sits.each (λ r. drop_by r (session_of k opens) c) (session_of k opens) (λ r. refl) refl (λ a r b p. refl) is)

  pub done_refused : (c : ℕ) (k : Known) (opens : List Open) (v : S) (desk : List Client) (now : Moment) (why : Refusal) → found as_reading desk c ≡ Err why
      → Sits state has v desk k opens now → (held : List (List Run)) × AnswersAs state has (λ s. done_outcome held s c) (Refused why) [] k opens v desk now
  done_refused c k opens v desk now why is sits = (
    [],
    answers_still (λ s. done_outcome [] s c) (Refused why) k opens v desk now sits
        (refused_reading k.opened desk opens c why sits.each (λ r. done_by r [] (session_of k opens) c) (session_of k opens) (λ r. refl) refl (λ a l r t b. refl) is),
  )

  module _ (s : State) (c i : ℕ) (k : Known) (opens : List Open) (v w : S) (desk : List Client) (old now : Moment) (inside : i < length desk) (many : length desk ≡ most_clients)
      (of : IsOf s (client_at desk i)) (apart : (j : ℕ) → (j ≡ i → ⊥) → ShareNothing (client_at desk i) (client_at desk j)) (sits : Sits state has v desk k opens old)
      (gives : IsOpenIn k.opened (client_at desk i) → Stands state has v k old → Stands state has w (given_up k (client_at desk i)) now) where
    pub gone_sits : (x : Client) → x ≡ client_at desk i → i ≡ c - 1 → IsOpenIn k.opened x → Sits state has w (set desk i Idle) (given_up k x) (set opens (c - 1) Nothing) now
    gone_sits x is place «open» =
        subst (λ (n : ℕ). Sits state has w (set desk i Idle) (given_up k x) (set opens n Nothing) now) place
        (subst (λ (z : Client). Sits state has w (set desk i Idle) (given_up k z) (set opens i Nothing) now) (sym is)
        (sits_set w desk (given_up k (client_at desk i)) opens now i Idle Nothing inside many sits.size (gives (subst (λ (z : Client). IsOpenIn k.opened z) is «open») sits.stands) tt
        (λ j other. serves_kept k.opened (given_up k (client_at desk i)).opened (client_at desk j) (open_at opens j) (keeps_given s k (client_at desk i) (client_at desk j) of (apart j other)) (sits.each j))
        (λ runs slices there. let kept = kept_given k (client_at desk i) runs slices there in others_of desk i Idle (λ z. WritesDraftIn z runs) kept.1 (sits.drafts runs slices kept.0))))

    pub drop_done : IsFoundAt desk c i (λ x. (a : Creation) × (x ≡ Writing a)) → AnswersAs state has (λ t. drop_outcome t c) (Dropped c) [] k opens w (set desk i Idle) now
    drop_done at = record {
      after = given_up k (Writing a);
      left = set opens (c - 1) Nothing;
      is = ap (λ (r : Result Open Refusal). drop_by r (session_of k opens) c) (opened_is opens c i at.client at.place ∙ ap (λ (y : Open). Ok y) was.is)
          ∙ (λ n. (Dropped c, record { volume = record (volume_of k) { drafts = drafts n; held = held_is v k old sits.stands n }; clients = set opens (c - 1) Nothing }));
      windows = refl;
      changes = sym (nothing_more k.changes);
      sits = gone_sits (Writing a) (sym at.is.1) at.place
          (slices_so_far was.len was.bytes, ap (λ (r : List Run). slices_in k.opened.drafts r) was.writing.lies ∙ was.writing.written);
    }
      where
        a : Creation
        a = at.is.0

        was : WritesAs k.opened a (open_at opens i)
        was = serves_writing k.opened a (open_at opens i) (subst (λ (z : Client). ServesOpen k.opened z (open_at opens i)) at.is.1 (sits.each i))

        drafts : filter (λ d. not (same_runs d was.runs)) (volume_of k).drafts ≡ map (λ x. x.runs) (drafts_without k.opened.drafts a.draft.runs)
        drafts =
            ap (λ (xs : List (List Run)). filter (λ d. not (same_runs d was.runs)) xs) sits.stands.opened.drafts
            ∙ sym (undrafted_runs k.opened.drafts was.runs)
            ∙ ap (λ (r : List Run). map (λ x. x.runs) (drafts_without k.opened.drafts r)) (sym was.writing.lies)

    pub done_done : IsFoundAt desk c i (λ x. (r : Reader) × (x ≡ Reading r)) → AnswersBy (λ held t. done_outcome held t c) (Done c) k opens w (set desk i Idle) now
    done_done at = record {
      held = held;
      answers = record {
        after = given_up k (Reading r);
        left = set opens (c - 1) Nothing;
        is = ap (λ (x : Result Open Refusal). done_by x held (session_of k opens) c) (opened_is opens c i at.client at.place ∙ ap (λ (y : Open). Ok y) was.is)
            ∙ (λ n. (Done c, record { volume = record (volume_of k) { drafts = sits.stands.opened.drafts n; held = held }; clients = set opens (c - 1) Nothing }));
        windows = refl;
        changes = sym (nothing_more k.changes);
        sits = gone_sits (Reading r) (sym at.is.1) at.place tt;
      };
      is = refl;
    }
      where
        r : Reader
        r = at.is.0

        was : ReadsAs k.opened r (open_at opens i)
        was = serves_reading k.opened r (open_at opens i) (subst (λ (z : Client). ServesOpen k.opened z (open_at opens i)) at.is.1 (sits.each i))

        held : List (List Run)
        held = map (λ x. x.runs) (readings (set k.opened.readers r.held.place None))

  -- ---- what is opened

  pub open_refused : (c : ℕ) (key : Key) (k : Known) (opens : List Open) (v : S) (desk : List Client) (now : Moment) (why : Refusal) → found as_idle desk c ≡ Err why
      → Sits state has v desk k opens now → (let r : Result ℕ Refusal = Err why in EndsOpen state has c key k opens v desk now r)
  open_refused c key k opens v desk now why is sits =
      let outcome : Session → SessionOutcome = λ s. open_outcome [] s c key in
      told_so (λ r. AnswersAs state has outcome (Refused r) [] k opens v desk now) (λ r. let z : Result ℕ Refusal = Err r in EndsOpen state has c key k opens v desk now z) c why
      (λ told. ([], told)) (λ told. ([], told)) (λ told. ([], told)) (idle_fault desk c why is)
      (answers_still outcome (Refused why) k opens v desk now sits
      (refused_idle k.opened desk opens c why sits.each (λ r. open_by r [] (session_of k opens) c key) (session_of k opens) (λ r. refl) (λ a l r t b. refl) (λ a r b p. refl) is))

  module _ (c i : ℕ) (key : Key) (k : Known) (opens : List Open) (v w : S) (desk : List Client) (old now : Moment) (at : IsFoundAt desk c i (λ x. x ≡ Idle)) (sits : Sits state has v desk k opens old) where
    opens_nothing : (held : List (List Run)) → open_outcome held (session_of k opens) c key ≡ opened_with (find key_cmp key (volume_of k).files) (entry_of key (volume_of k).entries) held (session_of k opens) c key
    opens_nothing held =
        ap (λ (r : Result Open Refusal). open_by r held (session_of k opens) c key)
        (opened_is opens c i at.client at.place ∙ ap (λ (y : Open). Ok y) (serves_idle k.opened (open_at opens i) (subst (λ (z : Client). ServesOpen k.opened z (open_at opens i)) at.is (sits.each i))))

    pub open_failed : (why : Refusal) → (let r : Result HeldToken Refusal = Err why in EndsHold state has key k w now r) → (let r : Result ℕ Refusal = Err why in EndsOpen state has c key k opens w desk now r)
    open_failed (Why.Device s) ends = sits_later k k opens v w desk old now refl ends sits
    open_failed Why.Memory ends = sits_later k k opens v w desk old now refl ends sits
    open_failed Why.NoSuch ends = (
      [],
      answers_still (λ s. open_outcome [] s c key) (Refused Why.NoSuch) k opens w desk now (sits_later k k opens v w desk old now refl ends.1 sits)
          (opens_nothing [] ∙ ap (λ (e : Option Entry). opened_with (find key_cmp key (volume_of k).files) e [] (session_of k opens) c key) ends.0 ∙ none (find key_cmp key (volume_of k).files)),
    )
      where
        none : (file : Option File) → opened_with file None [] (session_of k opens) c key ≡ (Refused Why.NoSuch, session_of k opens)
        none None = refl
        none (Some file) = refl
    open_failed why ends = absurd ends

    pub open_done : (r : Reader) → i < length desk → length desk ≡ most_clients → ((j : ℕ) → (j ≡ i → ⊥) → ShareNothing (Reading r) (client_at desk j))
        → r.held.entry.key ≡ key → r.place ≡ 0 → r.held.place < length (state v).readers → HoldsVersion state has key k w now r.held
        → AnswersBy (λ held t. open_outcome held t c key) (HasOpened c r.held.entry.length) k opens w (set desk i (Reading r)) now
    open_done r inside many apart of_key from there holds = record {
      held = held;
      answers = record {
        after = with_opened k o;
        left = set opens (c - 1) y;
        is = opens_nothing held
            ∙ ap (λ (f : Option File). opened_with f (entry_of key (volume_of k).entries) held (session_of k opens) c key) holds.there
            ∙ ap (λ (e : Option Entry). opened_with (Some holds.file) e held (session_of k opens) c key) holds.entry
            ∙ (λ n. (HasOpened c (sym holds.len n), record { volume = record (volume_of k) { drafts = sits.stands.opened.drafts n; held = held }; clients = set opens (c - 1) y }));
        windows = refl;
        changes = sym (nothing_more k.changes);
        sits = subst (λ (n : ℕ). Sits state has w (set desk i (Reading r)) (with_opened k o) (set opens n y) now) at.place
            (sits_set w desk (with_opened k o) opens now i (Reading r) y inside many sits.size holds.stands
            (record { of_key = of_key; lies = refl; long = holds.len; from = from; there = get_or-set_same k.opened.readers r.held.place (Some reading) None (omega (arith, there, places)) })
            (λ j other. serves_kept k.opened o (client_at desk j) (open_at opens j) (keeps_read k.opened r (Some reading) (client_at desk j) (apart j other)) (sits.each j))
            (λ runs slices there. others_of desk i (Reading r) (λ z. WritesDraftIn z runs) (λ own. idle_writes_in (client_at desk i) runs at.is own) (sits.drafts runs slices there)));
      };
      is = refl;
    }
      where
        reading : Held
        reading = record { runs = r.held.entry.runs; bytes = holds.file.bytes }

        o : OpenParts
        o = read_at k.opened r.held.place (Some reading)

        y : Open
        y = Reads key r.held.entry.runs holds.file.bytes 0

        held : List (List Run)
        held = map (λ x. x.runs) (readings (set k.opened.readers r.held.place (Some reading)))

        places : length (state v).readers ≡ length k.opened.readers
        places = ap (λ (xs : List (Option (List Run))). length xs) sits.stands.opened.places ∙ length-map k.opened.readers (λ place. option_map (λ x. x.runs) place)

  -- ---- what is read

  -- the version that a reader is at
  pub reads_of : (o : OpenParts) (desk : List Client) (opens : List Open) (c i : ℕ) (at : IsFoundAt desk c i (λ x. (r : Reader) × (x ≡ Reading r))) → ((j : ℕ) → ServesOpen o (client_at desk j) (open_at opens j)) → ReadsAs o at.is.0 (open_at opens i)
  reads_of o desk opens c i at each = serves_reading o at.is.0 (open_at opens i) (subst (λ (z : Client). ServesOpen o z (open_at opens i)) at.is.1 (each i))

  pub next_refused : (c : ℕ) (k : Known) (opens : List Open) (v : S) (desk : List Client) (i j : Image) (old new : List ℕ) (now : Moment) (why : Refusal) → found as_reading desk c ≡ Err why
      → Sits state has v desk k opens now → (let r : Result ℕ Refusal = Err why in EndsNext state has c (length old) i j k opens old new v desk now r)
  next_refused c k opens v desk i j old new now why is sits = next_client (reading_fault desk c why is)
      (answers_still (λ s. next_outcome None s c (length old)) (Refused why) k opens v desk now sits
      (refused_reading k.opened desk opens c why sits.each (λ r. next_by r None (session_of k opens) c (length old)) (session_of k opens) (λ r. refl) refl (λ a l r t b. refl) is))
    where
      next_client : IsOfClient c why → AnswersAs state has (λ s. next_outcome None s c (length old)) (Refused why) [] k opens v desk now
          → (let r : Result ℕ Refusal = Err why in EndsNext state has c (length old) i j k opens old new v desk now r)
      next_client of answers = elim of [
        | inl e ↦ subst (λ (x : Refusal). let r : Result ℕ Refusal = Err x in EndsNext state has c (length old) i j k opens old new v desk now r) (sym e) (subst (λ (x : Refusal). AnswersAs state has (λ s. next_outcome None s c (length old)) (Refused x) [] k opens v desk now) e answers)
        | inr other ↦ elim other [
          | inl e ↦ subst (λ (x : Refusal). let r : Result ℕ Refusal = Err x in EndsNext state has c (length old) i j k opens old new v desk now r) (sym e) (subst (λ (x : Refusal). AnswersAs state has (λ s. next_outcome None s c (length old)) (Refused x) [] k opens v desk now) e answers)
          | inr e ↦ subst (λ (x : Refusal). let r : Result ℕ Refusal = Err x in EndsNext state has c (length old) i j k opens old new v desk now r) (sym e) (subst (λ (x : Refusal). AnswersAs state has (λ s. next_outcome None s c (length old)) (Refused x) [] k opens v desk now) e answers)
        ]
      ]

  module _ (c i : ℕ) (k : Known) (opens : List Open) (v w : S) (desk : List Client) (old now : Moment) (before after : Image) (buf new : List ℕ)
      (at : IsFoundAt desk c i (λ x. (r : Reader) × (x ≡ Reading r))) (sits : Sits state has v desk k opens old) (stands : Stands state has w k now) where
    abbrev pub reader : Reader
    reader = at.is.0

    abbrev pub reads_as : ReadsAs k.opened reader (open_at opens i)
    reads_as = reads_of k.opened desk opens c i at sits.each

    opened_so : open_at opens (c - 1) ≡ Reads reads_as.key reads_as.runs reads_as.bytes reads_as.place
    opened_so = ap (λ (n : ℕ). open_at opens n) (sym at.place) ∙ reads_as.is

    next_is : (damaged : Option ℕ) → next_outcome damaged (session_of k opens) c (length buf) ≡ next_by (Ok (Reads reads_as.key reads_as.runs reads_as.bytes reads_as.place)) damaged (session_of k opens) c (length buf)
    next_is damaged = ap (λ (r : Result Open Refusal). next_by r damaged (session_of k opens) c (length buf)) (opened_is opens c i at.client at.place ∙ ap (λ (y : Open). Ok y) reads_as.is)

    pub next_given : (n : ℕ) (x : Client) → i < length desk → length desk ≡ most_clients → GoesOnBehind n (client_at desk i) x
        → (let r : Result ℕ Refusal = Ok n in ReadsOn before after reads_as.runs reads_as.bytes reads_as.place buf new r)
        → GivesNext state has c (length buf) before after k opens buf new w (set desk i x) now n
    next_given n x inside many goes reads = record {
      answers = record {
        after = k;
        left = set opens (c - 1) y;
        is = next_is None ∙ (λ m. (Given c (given m), record { volume = volume_of k; clients = set opens (c - 1) (Reads reads_as.key reads_as.runs reads_as.bytes (reads_as.place + sym reads.0 m)) }));
        windows = refl;
        changes = sym (nothing_more k.changes);
        sits = subst (λ (m : ℕ). Sits state has w (set desk i x) k (set opens m y) now) at.place
            (sits_set w desk k opens now i x y inside many sits.size stands
            (subst (λ (z : Client). ServesOpen k.opened z y) (sym on.0) (record { of_key = was.of_key; lies = was.lies; long = was.long; from = ap (λ (p : ℕ). p + n) was.from; there = was.there }))
            (λ j other. sits.each j)
            (λ runs slices there. stays_of desk i x (λ z. WritesDraftIn z runs) (goes_writes_in n (client_at desk i) x runs goes) (sits.drafts runs slices there)));
      };
      rest = ap (λ (xs : List ℕ). drop n xs) reads.1 ∙ behind_front n (drop reads_as.place reads_as.bytes) (drop n buf) few;
      key = reads_as.key;
      runs = reads_as.runs;
      bytes = reads_as.bytes;
      place = reads_as.place;
      was = opened_so;
      count = reads.0;
      found = reads.2;
    }
      where
        y : Open
        y = Reads reads_as.key reads_as.runs reads_as.bytes (reads_as.place + n)

        was : IsReadingVersion k.opened reader reads_as.key reads_as.runs reads_as.bytes reads_as.place
        was = reads_as.reading

        on : (x ≡ Reading (record reader { place = reader.place + n })) × (reader.place + n ≤ reader.held.entry.length)
        on = subst (λ (z : Client). GoesOnBehind n z x) at.is.1 goes

        few : n ≤ length (drop reads_as.place reads_as.bytes)
        few = omega (arith, reads.0, length-drop reads_as.place reads_as.bytes)

        given : take (next_count reads_as.bytes reads_as.place (length buf)) (drop reads_as.place reads_as.bytes) ≡ take n new
        given = ap (λ (m : ℕ). take m (drop reads_as.place reads_as.bytes)) (sym reads.0) ∙ sym (front_of n (drop reads_as.place reads_as.bytes) (drop n buf) few) ∙ ap (λ (xs : List ℕ). take n xs) (sym reads.1)

    -- it goes on where it was
    pub next_failed : (why : Refusal) → IsDataFault why → (let r : Result ℕ Refusal = Err why in ReadsOn before after reads_as.runs reads_as.bytes reads_as.place buf new r)
        → (let r : Result ℕ Refusal = Err why in EndsNext state has c (length buf) before after k opens buf new w desk now r)
    next_failed (Why.Damaged t) of reads = record {
      key = reads_as.key;
      runs = reads_as.runs;
      bytes = reads_as.bytes;
      place = reads_as.place;
      was = opened_so;
      answers = answers_still (λ s. next_outcome (Some t) s c (length buf)) (DamagedAt reads_as.key t) k opens w desk now (sits_later k k opens v w desk old now refl stands sits) (next_is (Some t));
      found = reads;
    }
    next_failed (Why.Device t) of reads = sits_later k k opens v w desk old now refl stands sits
    next_failed why of reads = absurd of
