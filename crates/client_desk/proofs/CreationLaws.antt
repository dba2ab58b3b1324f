-- What stands of a desk over an honest machine, where a client's creation goes on or ends.
use Rattle.std.proofs.Common.{◌≡◌, ℕ, ◌+◌, ◌-◌, ◌<◌, ◌≤◌, Bool, true, false, not, cond, List, [], ◌∷◌, ◌++◌, length, set, refl, sym, ap, subst, ◌∙◌, inl, inr, arith, Option, Some, None, Result, Ok, Err}
use Rattle.std.specs.Prelude.{map, nat_lt, option_map}
use Rattle.std.proofs.lemmas.List.{length-append}
use Rattle.std.proofs.lemmas.Bool.{le-ltb}
use Rattle.run_table.specs.declared.run.Run.{Run}
use Rattle.run_table.specs.RunTable.{same_runs}
use Rattle.fsd_bytes.specs.declared.key.Key.{Key}
use Rattle.fsd_bytes.specs.declared.refusal.Refusal.{Refusal}
use Rattle.fsd_bytes.specs.declared.refusal.Refusal.TheVariants as Why
use Rattle.fsd_formats.specs.NamePage.{sectors_for}
use Rattle.sector_disk.specs.Machine.{Moment}
use Rattle.fsd_log.specs.Scan.{Placed}
use Rattle.fsd_files.specs.Answers.{Met, Outcome}
use Rattle.fsd_files.specs.Desk.{Open, Nothing, Writes, close_by, close_outcome, closed_as, drop_outcome, most_clients, piece_by, piece_outcome, with_client}
use Rattle.fsd_files.specs.Disk.{Sectors}
use Rattle.fsd_files.specs.Pieces.{enter_outcome}
use Rattle.fsd_files.specs.declared.reply.Reply.TheVariants.{Refused, Made, Took, Dropped}
use Rattle.fsd_sound.specs.Mounted.{Mounted, forces_by_itself}
use Rattle.fsd_sound.proofs.MountedLaws.{mounted_sound}
use Rattle.volume_contract.specs.Ends.{Answers as AnswersOf, EndsRefused, Unchanged, device_of}
use Rattle.volume_contract.specs.Order.{Comes, IsDeviceIn, slices_steps}
use Rattle.volume_contract.specs.Pieces.{drafts_with, drafts_without, ended, slices_in, with_opened, draft_wrote}
use Rattle.volume_contract.specs.State.{Known, Leaves, LeavesSound, OpenParts, Stands, State, WrittenDraft, forced_of, volume_of}
use Rattle.volume_contract.proofs.DraftLaws.{runs_with}
use Rattle.client_desk.specs.declared.client.Creation.{Creation}
use Rattle.client_desk.specs.declared.client.Client.{Client}
use Rattle.client_desk.specs.declared.client.Client.TheVariants.{Idle, Writing, Reading}
use Rattle.client_desk.specs.Clients.{AllStays, ShareNothing, Ended, EndsDraftAt, MayCome, IsOf, IsWholeOne, IsWriter, WritesDraftIn, as_writing, client_at, found, in_data, too_long, too_short}
use Rattle.client_desk.specs.Ends.{AddsBytes, AnswersAs, ClosesDraft, EndsClose, EndsEntering, EndsPiece, EndsPieces, IsOpenIn, LeavesFor, LeavesOf, RemainsOpen, ServesOpen, Sits, StaysAs, given_up, open_at, session_of}
use Rattle.client_desk.proofs.DeskLaws.{IsFoundAt, apart_differ, others_of, stays_of}
use Rattle.client_desk.proofs.PieceLaws.{with_others}
use Rattle.client_desk.proofs.SitsLaws.{IsOfClient, KeepsOf, WritesAs, answers_still, drop_done, held_is, kept_draft, keeps_given, nothing_more, opened_is, refused_writing, serves_kept, serves_writing, refuses_client, sits_later, sits_set, writing_fault}

-- ---- drafts

keeps_wrote : (s : State) (o : OpenParts) (a : Creation) (slices : List (Option (List ℕ))) (x : Client) → IsOf s (Writing a) → ShareNothing (Writing a) x → KeepsOf o (draft_wrote o a.draft.runs slices) x
keeps_wrote s o a slices Idle of apart = tt
keeps_wrote s o a slices (Writing w) of apart = with_others o.drafts a.draft.runs w.draft.runs slices (apart_differ s a w of apart)
keeps_wrote s o a slices (Reading r) of apart = refl

-- what is over of a creation is over of it as it was
without_with : (drafts : List WrittenDraft) (a : List Run) (slices : List (Option (List ℕ))) → drafts_without (drafts_with drafts a slices) a ≡ drafts_without drafts a
without_with [] a slices = refl
without_with (x ∷ drafts) a slices = by (same_runs x.runs a) refl (without_with drafts a slices)
  where
    by : (b : Bool) → same_runs x.runs a ≡ b → drafts_without (drafts_with drafts a slices) a ≡ drafts_without drafts a
        → drafts_without (cond b (record { runs = x.runs; slices = slices } ∷ drafts) (x ∷ drafts_with drafts a slices)) a ≡ cond (not b) (x ∷ drafts_without drafts a) (drafts_without drafts a)
    by true e more = ap (λ (b : Bool). cond (not b) (record { runs = x.runs; slices = slices } ∷ drafts_without drafts a) (drafts_without drafts a)) e
    by false e more = ap (λ (b : Bool). cond (not b) (x ∷ drafts_without (drafts_with drafts a slices) a) (drafts_without (drafts_with drafts a slices) a)) e ∙ ap (λ (xs : List WrittenDraft). x ∷ xs) more

-- what is there was there
with_there : (drafts : List WrittenDraft) (a runs : List Run) (slices z : List (Option (List ℕ))) → slices_in (drafts_with drafts a slices) runs ≡ Some z → (old : List (Option (List ℕ))) × (slices_in drafts runs ≡ Some old)
with_there [] a runs slices z there = absurd (cc there)
with_there (x ∷ drafts) a runs slices z there = by (same_runs x.runs a) (same_runs x.runs runs) refl (with_there drafts a runs slices z) there
  where
    by : (b c : Bool) → same_runs x.runs runs ≡ c → (slices_in (drafts_with drafts a slices) runs ≡ Some z → (old : List (Option (List ℕ))) × (slices_in drafts runs ≡ Some old))
        → slices_in (cond b (record { runs = x.runs; slices = slices } ∷ drafts) (x ∷ drafts_with drafts a slices)) runs ≡ Some z → (old : List (Option (List ℕ))) × (cond c (Some x.slices) (slices_in drafts runs) ≡ Some old)
    by b true e more there = (x.slices, refl)
    by true false e more there = (z, sym (ap (λ (c : Bool). cond c (Some slices) (slices_in drafts runs)) e) ∙ there)
    by false false e more there = more (sym (ap (λ (c : Bool). cond c (Some x.slices) (slices_in (drafts_with drafts a slices) runs)) e) ∙ there)

writes_in_on : (a : Creation) (x : Client) (runs : List Run) → x ≡ Writing a → WritesDraftIn x runs → a.draft.runs ≡ runs
writes_in_on a x runs is own = subst (λ (z : Client). WritesDraftIn z runs) is own

pub writes_so : (desk : List Client) (i : ℕ) {c : ℕ} → IsFoundAt desk c i (λ x. (a : Creation) × (x ≡ Writing a)) → IsWriter (client_at desk i)
writes_so desk i at = subst (λ (z : Client). IsWriter z) (sym at.is.1) tt

-- ---- refusals

-- a refusal of the client's own tests is none of the disk
pub piece_told : {S : Type 0} (state : S → State) (has : S → Mounted → List Placed → Type 0) (c : ℕ) (bytes : List ℕ) (k : Known) (opens : List Open) (v : S) (desk : List Client) (now : Moment) (why : Refusal) → IsOfClient c why
    → AnswersAs state has (λ s. piece_outcome s c bytes) (Refused why) [] k opens v desk now → (let r : Result ℕ Refusal = Err why in EndsPiece state has c bytes k opens v desk now r)
piece_told state has c bytes k opens v desk now why of answers = elim of [
  | inl e ↦ subst (λ (r : Refusal). IsTold r) (sym e) (subst (λ (r : Refusal). AnswersAs state has (λ s. piece_outcome s c bytes) (Refused r) [] k opens v desk now) e answers)
  | inr other ↦ elim other [
    | inl e ↦ subst (λ (r : Refusal). IsTold r) (sym e) (subst (λ (r : Refusal). AnswersAs state has (λ s. piece_outcome s c bytes) (Refused r) [] k opens v desk now) e answers)
    | inr e ↦ subst (λ (r : Refusal). IsTold r) (sym e) (subst (λ (r : Refusal). AnswersAs state has (λ s. piece_outcome s c bytes) (Refused r) [] k opens v desk now) e answers)
  ]
]
  where
    IsTold : Refusal → Type 0
    IsTold why = (let r : Result ℕ Refusal = Err why in EndsPiece state has c bytes k opens v desk now r)

-- all is as it was
pub client_stays : (c i : ℕ) (clients after : List Client) (old new : State) (why : Refusal) → IsOfClient c why → AllStays clients after old new → EndsDraftAt why i clients after old new
client_stays c i clients after old new why of stays = elim of [
  | inl e ↦ subst (λ (r : Refusal). EndsDraftAt r i clients after old new) (sym e) stays
  | inr other ↦ elim other [
    | inl e ↦ subst (λ (r : Refusal). EndsDraftAt r i clients after old new) (sym e) stays
    | inr e ↦ subst (λ (r : Refusal). EndsDraftAt r i clients after old new) (sym e) stays
  ]
]

pub long_stays : (i count : ℕ) (clients after : List Client) (old new : State) (x : Client) (why : Refusal) → too_long x count ≡ Some why → AllStays clients after old new → EndsDraftAt why i clients after old new
long_stays i count clients after old new Idle why is stays = absurd (cc is)
long_stays i count clients after old new (Reading r) why is stays = absurd (cc is)
long_stays i count clients after old new (Writing w) why is stays = by (nat_lt w.draft.length (w.got + count)) is
  where
    by : (b : Bool) → cond b (Some (Why.Long w.draft.length (w.got + count))) None ≡ Some why → EndsDraftAt why i clients after old new
    by true says = let e : Why.Long w.draft.length (w.got + count) ≡ why = cc says in subst (λ (r : Refusal). EndsDraftAt r i clients after old new) e stays
    by false says = absurd (cc says)

-- it is no fault of the disk
pub long_device : (x : Client) (count : ℕ) (why : Refusal) → too_long x count ≡ Some why → device_of why ≡ None
long_device Idle count why is = absurd (cc is)
long_device (Reading r) count why is = absurd (cc is)
long_device (Writing w) count why is = by (nat_lt w.draft.length (w.got + count)) is
  where
    by : (b : Bool) → cond b (Some (Why.Long w.draft.length (w.got + count))) None ≡ Some why → device_of why ≡ None
    by true says = let e : Why.Long w.draft.length (w.got + count) ≡ why = cc says in sym (ap (λ (r : Refusal). device_of r) e)
    by false says = absurd (cc says)

pub short_device : (x : Client) (why : Refusal) → too_short x ≡ Some why → device_of why ≡ None
short_device Idle why is = absurd (cc is)
short_device (Reading r) why is = absurd (cc is)
short_device (Writing w) why is = by (nat_lt w.got w.draft.length) is
  where
    by : (b : Bool) → cond b (Some (Why.Short w.draft.length w.got)) None ≡ Some why → device_of why ≡ None
    by true says = let e : Why.Short w.draft.length w.got ≡ why = cc says in sym (ap (λ (r : Refusal). device_of r) e)
    by false says = absurd (cc says)

-- the disk failed, or the volume is down
pub broken_at : (s : State) (may : Sectors) (i : ℕ) (clients after : List Client) (old new : State) (why : Refusal) → Comes (slices_steps s may) why → Ended i clients after old new → EndsDraftAt why i clients after old new
broken_at s may i clients after old new why comes ended = elim comes [
  | inl is ↦ down s.down is
  | inr later ↦ elim later.1 [
    | inl device ↦ failed why device
    | inr none ↦ absurd none.1
  ]
]
  where
    down : (d : Option ℕ) → option_map Why.Down d ≡ Some why → EndsDraftAt why i clients after old new
    down None says = absurd (cc says)
    down (Some place) says = let e : Why.Down place ≡ why = cc says in subst (λ (r : Refusal). EndsDraftAt r i clients after old new) e ended

    failed : (r : Refusal) → IsDeviceIn may r → EndsDraftAt r i clients after old new
    failed (Why.Device t) is = ended
    failed r is = absurd is

-- what a volume meets where it meets nothing
abbrev pub no_met : Known → Met
no_met k = record { forces = forces_by_itself k.mounted; reached = 0; damaged = None; found = []; healed = 0 }

module _ {S : Type 0} (state : S → State) (has : S → Mounted → List Placed → Type 0) where
  pub leaves_of : (v : S) (desk : List Client) (i c : ℕ) (client : Client) (old left : Moment) → client ≡ client_at desk i → i ≡ c - 1 → LeavesFor state has v client (in_data client) old left → LeavesOf state has v desk (in_data (client_at desk (c - 1))) old left
  leaves_of v desk i c client old left is place leaves k opens sits =
      let at : client ≡ client_at desk (c - 1) = is ∙ ap (λ (n : ℕ). client_at desk n) place in
      subst (λ (z : Client). LeavesSound k (in_data z) old left) at
      (leaves k (open_at opens (c - 1)) (subst (λ (z : Client). ServesOpen k.opened z (open_at opens (c - 1))) (sym at) (sits.each (c - 1))) sits.stands)

  -- nothing is written
  pub leaves_all : (v : S) (desk : List Client) (may : Sectors) (now : Moment) → LeavesOf state has v desk may now now
  leaves_all v desk may now k opens sits = record {
    sound = mounted_sound k.mounted k.windows k.changes (forced_of k) now.image sits.stands.disk;
    roots = sits.stands.disk.over.own.roots;
    windows = refl;
    said = refl;
    touches = record { size = refl; others = λ s out. inl refl };
  }

  pub leaves_as_was : (v : S) (may : Sectors) (now : Moment) → Leaves state has v may now now
  leaves_as_was v may now k stands = record {
    sound = mounted_sound k.mounted k.windows k.changes (forced_of k) now.image stands.disk;
    roots = stands.disk.over.own.roots;
    windows = refl;
    said = refl;
    touches = record { size = refl; others = λ s out. inl refl };
  }

  pub piece_refused : (c : ℕ) (bytes : List ℕ) (k : Known) (opens : List Open) (v : S) (desk : List Client) (now : Moment) (why : Refusal) → found as_writing desk c ≡ Err why
      → Sits state has v desk k opens now → (let r : Result ℕ Refusal = Err why in EndsPiece state has c bytes k opens v desk now r)
  piece_refused c bytes k opens v desk now why is sits =
      piece_told state has c bytes k opens v desk now why (writing_fault desk c why is)
      (answers_still state has (λ s. piece_outcome s c bytes) (Refused why) k opens v desk now sits
      (refused_writing k.opened desk opens c why sits.each (λ r. piece_by r (session_of k opens) c bytes) (session_of k opens) (λ r. refl) refl (λ a r b p. refl) is))

  pub close_refused : (c : ℕ) (k : Known) (opens : List Open) (v : S) (desk : List Client) (now : Moment) (why : Refusal) → found as_writing desk c ≡ Err why
      → Sits state has v desk k opens now → (let r : Result Key Refusal = Err why in EndsClose state has c k opens v desk now r)
  close_refused c k opens v desk now why is sits = record {
    met = no_met k;
    forces = refl;
    refuses = refuses_client state has (λ s. close_outcome (no_met k) s c) c why k opens v desk now (writing_fault desk c why is)
        (answers_still state has (λ s. close_outcome (no_met k) s c) (Refused why) k opens v desk now sits
        (refused_writing k.opened desk opens c why sits.each (λ r. close_by r (no_met k) (session_of k opens) c) (session_of k opens) (λ r. refl) refl (λ a r b p. refl) is));
  }

  -- ---- the client that writes

  module _ (c i : ℕ) (k : Known) (opens : List Open) (v : S) (desk : List Client) (old : Moment) (at : IsFoundAt desk c i (λ x. (a : Creation) × (x ≡ Writing a))) (sits : Sits state has v desk k opens old) where
    abbrev pub writer : Creation
    writer = at.is.0

    pub writes_as : WritesAs k.opened writer (open_at opens i)
    writes_as = serves_writing k.opened writer (open_at opens i) (subst (λ (z : Client). ServesOpen k.opened z (open_at opens i)) at.is.1 (sits.each i))

    abbrev pub was : Open
    was = Writes writes_as.name writes_as.len writes_as.runs writes_as.serial writes_as.bytes

    pub serves_so : (x : Client) → x ≡ client_at desk i → ServesOpen k.opened x was
    serves_so x is = subst (λ (y : Open). ServesOpen k.opened x y) writes_as.is (subst (λ (z : Client). ServesOpen k.opened z (open_at opens i)) (sym is) (sits.each i))

    piece_is : (bytes : List ℕ) → piece_outcome (session_of k opens) c bytes ≡ piece_by (Ok was) (session_of k opens) c bytes
    piece_is bytes = ap (λ (r : Result Open Refusal). piece_by r (session_of k opens) c bytes) (opened_is opens c i at.client at.place ∙ ap (λ (y : Open). Ok y) writes_as.is)

    close_is : (met : Met) → close_outcome met (session_of k opens) c ≡ close_by (Ok was) met (session_of k opens) c
    close_is met = ap (λ (r : Result Open Refusal). close_by r met (session_of k opens) c) (opened_is opens c i at.client at.place ∙ ap (λ (y : Open). Ok y) writes_as.is)

    -- ---- too many bytes, or too few

    pub piece_long : (bytes : List ℕ) (why : Refusal) → too_long (client_at desk i) (length bytes) ≡ Some why → (let r : Result ℕ Refusal = Err why in EndsPiece state has c bytes k opens v desk old r)
    piece_long bytes why is = by (nat_lt writer.draft.length (writer.got + length bytes)) refl (ap (λ (z : Client). too_long z (length bytes)) (sym at.is.1) ∙ is)
      where
        len : ℕ
        len = writes_as.len

        sum : ℕ
        sum = length writes_as.bytes + length bytes

        long_is : Why.Long writer.draft.length (writer.got + length bytes) ≡ Why.Long len sum
        long_is = ap (λ (n : ℕ). Why.Long n (writer.got + length bytes)) writes_as.writing.long ∙ ap (λ (n : ℕ). Why.Long len (n + length bytes)) writes_as.writing.got

        by : (b : Bool) → nat_lt writer.draft.length (writer.got + length bytes) ≡ b → cond b (Some (Why.Long writer.draft.length (writer.got + length bytes))) None ≡ Some why
            → (let r : Result ℕ Refusal = Err why in EndsPiece state has c bytes k opens v desk old r)
        by true e says =
            let lt : nat_lt len sum ≡ true = ap (λ (n : ℕ). nat_lt n sum) (sym writes_as.writing.long) ∙ ap (λ (n : ℕ). nat_lt writer.draft.length (n + length bytes)) (sym writes_as.writing.got) ∙ e in
            let told : Why.Long len sum ≡ why = sym long_is ∙ cc says in
            subst (λ (w : Refusal). let r : Result ℕ Refusal = Err w in EndsPiece state has c bytes k opens v desk old r) told
            (answers_still state has (λ s. piece_outcome s c bytes) (Refused (Why.Long len sum)) k opens v desk old sits
            (piece_is bytes ∙ ap (λ (b : Bool). cond b (Refused (Why.Long len sum), session_of k opens)
            (Took c sum, with_client (session_of k opens) c (Writes writes_as.name len writes_as.runs writes_as.serial (writes_as.bytes ++ bytes)))) lt))
        by false e says = absurd (cc says)

    pub close_short : (why : Refusal) → too_short (client_at desk i) ≡ Some why → (let r : Result Key Refusal = Err why in EndsClose state has c k opens v desk old r)
    close_short why is = by (nat_lt writer.got writer.draft.length) refl (ap (λ (z : Client). too_short z) (sym at.is.1) ∙ is)
      where
        len : ℕ
        len = writes_as.len

        got : ℕ
        got = length writes_as.bytes

        out : Outcome
        out = enter_outcome (no_met k) (volume_of k) writes_as.name writes_as.bytes None writes_as.runs writes_as.serial

        short_is : Why.Short writer.draft.length writer.got ≡ Why.Short len got
        short_is = ap (λ (n : ℕ). Why.Short n writer.got) writes_as.writing.long ∙ ap (λ (n : ℕ). Why.Short len n) writes_as.writing.got

        by : (b : Bool) → nat_lt writer.got writer.draft.length ≡ b → cond b (Some (Why.Short writer.draft.length writer.got)) None ≡ Some why
            → (let r : Result Key Refusal = Err why in EndsClose state has c k opens v desk old r)
        by true e says =
            let lt : nat_lt got len ≡ true = ap (λ (n : ℕ). nat_lt n len) (sym writes_as.writing.got) ∙ ap (λ (n : ℕ). nat_lt writer.got n) (sym writes_as.writing.long) ∙ e in
            let told : Why.Short len got ≡ why = sym short_is ∙ cc says in
            subst (λ (w : Refusal). let r : Result Key Refusal = Err w in EndsClose state has c k opens v desk old r) told
            (record {
              met = no_met k;
              forces = refl;
              refuses = answers_still state has (λ s. close_outcome (no_met k) s c) (Refused (Why.Short len got)) k opens v desk old sits
                  (close_is (no_met k) ∙ ap (λ (b : Bool). cond b (Refused (Why.Short len got), session_of k opens) (closed_as out.0 (record { volume = out.1; clients = opens }) c)) lt);
            })
        by false e says = absurd (cc says)

    -- ---- it goes on

    module _ (s : State) (w : S) (now : Moment) (inside : i < length desk) (many : length desk ≡ most_clients) (of : IsOf s (client_at desk i)) (apart : (j : ℕ) → (j ≡ i → ⊥) → ShareNothing (client_at desk i) (client_at desk j)) where
      writing_of : IsOf s (Writing writer)
      writing_of = subst (λ (z : Client). IsOf s z) at.is.1 of

      writing_apart : (j : ℕ) → (j ≡ i → ⊥) → ShareNothing (Writing writer) (client_at desk j)
      writing_apart j other = subst (λ (z : Client). ShareNothing z (client_at desk j)) at.is.1 (apart j other)

      pub piece_done : (x : Client) (bytes : List ℕ) (n : ℕ) → MayCome (client_at desk i) (length bytes)
          → (let r : Result ℕ Refusal = Ok n in EndsPieces state has k (client_at desk i) x writes_as.name writes_as.len writes_as.runs writes_as.serial writes_as.bytes bytes w now r)
          → AnswersAs state has (λ t. piece_outcome t c bytes) (Took c n) [] k opens w (set desk i x) now
      piece_done x bytes n room ends = record {
        after = with_opened k o;
        left = set opens (c - 1) y;
        is = piece_is bytes
            ∙ ap (λ (b : Bool). cond b (Refused (Why.Long len sum), session_of k opens) (Took c sum, with_client (session_of k opens) c y)) fits
            ∙ (λ j. (Took c (sym counted j), record { volume = record (volume_of k) { drafts = drafts j; held = held_is state has v k old sits.stands j }; clients = set opens (c - 1) y }));
        windows = refl;
        changes = sym (nothing_more state has k.changes);
        sits = subst (λ (m : ℕ). Sits state has w (set desk i x) (with_opened k o) (set opens m y) now) at.place
            (sits_set state has w desk (with_opened k o) opens now i x y inside many sits.size adds.stands (subst (λ (z : Client). ServesOpen o z y) (sym ends.1) adds.writing)
            (λ j other. serves_kept k.opened o (client_at desk j) (open_at opens j)
            (subst (λ (r : List Run). KeepsOf k.opened (draft_wrote k.opened r adds.slices) (client_at desk j)) writes_as.writing.lies (keeps_wrote s k.opened writer adds.slices (client_at desk j) writing_of (writing_apart j other))) (sits.each j))
            (λ runs slices there. stays_of desk i x (λ z. WritesDraftIn z runs) (on runs) (sits.drafts runs (with_there k.opened.drafts writes_as.runs runs adds.slices slices there).0 (with_there k.opened.drafts writes_as.runs runs adds.slices slices there).1)));
      }
        where
          len : ℕ
          len = writes_as.len

          sum : ℕ
          sum = length writes_as.bytes + length bytes

          adds : AddsBytes state has k ends.0 writes_as.name writes_as.len writes_as.runs writes_as.serial (writes_as.bytes ++ bytes) w now
          adds = ends.3

          o : OpenParts
          o = draft_wrote k.opened writes_as.runs adds.slices

          y : Open
          y = Writes writes_as.name len writes_as.runs writes_as.serial (writes_as.bytes ++ bytes)

          fits : nat_lt len sum ≡ false
          fits = le-ltb len sum (let fit : writer.got + length bytes ≤ writer.draft.length = subst (λ (z : Client). MayCome z (length bytes)) at.is.1 room in omega (arith, fit, writes_as.writing.got, writes_as.writing.long))

          counted : n ≡ sum
          counted = ends.2 ∙ length-append writes_as.bytes bytes

          drafts : (volume_of k).drafts ≡ map (λ z. z.runs) o.drafts
          drafts = sits.stands.opened.drafts ∙ sym (runs_with k.opened.drafts writes_as.runs adds.slices)

          on : (runs : List Run) → WritesDraftIn (client_at desk i) runs → WritesDraftIn x runs
          on runs own =
              subst (λ (z : Client). WritesDraftIn z runs) (sym ends.1)
              (adds.writing.lies ∙ sym writes_as.writing.lies ∙ writes_in_on writer (client_at desk i) runs at.is.1 own)

      pub piece_failed : (x : Client) (bytes : List ℕ) (why : Refusal) → x ≡ Idle
          → (let r : Result ℕ Refusal = Err why in EndsPieces state has k (client_at desk i) x writes_as.name writes_as.len writes_as.runs writes_as.serial writes_as.bytes bytes w now r)
          → (let r : Result ℕ Refusal = Err why in EndsPiece state has c bytes k opens w (set desk i x) now r)
      piece_failed x bytes (Why.Device t) idle ends =
          subst (λ (z : Client). AnswersAs state has (λ u. drop_outcome u c) (Dropped c) [] k opens w (set desk i z) now) (sym idle)
          (drop_done state has s c i k opens v w desk old now inside many of apart sits gives at)
        where
          gives : IsOpenIn k.opened (client_at desk i) → Stands state has v k old → Stands state has w (given_up k (client_at desk i)) now
          gives open_in stood =
              subst (λ (z : Client). Stands state has w (given_up k z) now) (sym at.is.1)
              (subst (λ (r : List Run). Stands state has w (with_opened k (ended k.opened r)) now) (sym writes_as.writing.lies)
              (subst (λ (o : OpenParts). Stands state has w (with_opened k o) now) (λ j. record k.opened { drafts = without_with k.opened.drafts writes_as.runs ends.0 j }) ends.1))
      piece_failed x bytes why idle ends = absurd ends

      -- ---- it ends

      whole_bytes : IsWholeOne (client_at desk i) → nat_lt (length writes_as.bytes) writes_as.len ≡ false
      whole_bytes whole = le-ltb (length writes_as.bytes) writes_as.len (let same : writer.got ≡ writer.draft.length = subst (λ (z : Client). IsWholeOne z) at.is.1 whole in omega (arith, same, writes_as.writing.got, writes_as.writing.long))

      closes_by : (met : Met) → IsWholeOne (client_at desk i)
          → (let out = enter_outcome met (volume_of k) writes_as.name writes_as.bytes None writes_as.runs writes_as.serial in close_outcome met (session_of k opens) c ≡ closed_as out.0 (record { volume = out.1; clients = opens }) c)
      closes_by met whole =
          let out = enter_outcome met (volume_of k) writes_as.name writes_as.bytes None writes_as.runs writes_as.serial in
          close_is met ∙ ap (λ (b : Bool). cond b (Refused (Why.Short writes_as.len (length writes_as.bytes)), session_of k opens) (closed_as out.0 (record { volume = out.1; clients = opens }) c)) (whole_bytes whole)

      pub close_done : (key : Key) → IsWholeOne (client_at desk i)
          → (let r : Result Key Refusal = Ok key in EndsEntering state has writes_as.name writes_as.runs writes_as.serial writes_as.bytes k w now r)
          → ClosesDraft state has c k opens w (set desk i Idle) now key
      close_done key whole ends = record {
        met = ends.answers.met;
        forces = ends.answers.forces;
        name = writes_as.name;
        len = writes_as.len;
        runs = writes_as.runs;
        serial = writes_as.serial;
        bytes = writes_as.bytes;
        was = ap (λ (n : ℕ). open_at opens n) (sym at.place) ∙ writes_as.is;
        answers = record {
          after = ends.after;
          left = set opens (c - 1) Nothing;
          is = closes_by ends.answers.met whole
              ∙ ap (λ (out : Outcome). closed_as out.0 (record { volume = out.1; clients = opens }) c) ends.answers.is
              ∙ ap (λ (n : ℕ). (Made key (sectors_for n), record { volume = volume_of ends.after; clients = set opens (c - 1) Nothing })) size;
          windows = ends.answers.windows;
          changes = ends.answers.changes;
          sits = subst (λ (m : ℕ). Sits state has w (set desk i Idle) ends.after (set opens m Nothing) now) at.place
              (sits_set state has w desk ends.after opens now i Idle Nothing inside many sits.size ends.stands tt
              (λ j other. subst (λ (o : OpenParts). ServesOpen o (client_at desk j) (open_at opens j)) (sym opened) (serves_kept k.opened (ended k.opened writes_as.runs) (client_at desk j) (open_at opens j) (kept j other) (sits.each j)))
              (λ runs slices there.
              let gone = kept_draft k.opened writes_as.runs runs slices (subst (λ (o : OpenParts). slices_in o.drafts runs ≡ Some slices) opened there) in
              others_of desk i Idle (λ z. WritesDraftIn z runs) (λ own. gone.1 (sym writes_as.writing.lies ∙ writes_in_on writer (client_at desk i) runs at.is.1 own)) (sits.drafts runs slices gone.0)));
        };
        entry = ends.entry;
        entered = ends.entered;
        written = ends.written;
      }
        where
          opened : ends.after.opened ≡ ended k.opened writes_as.runs
          opened = ends.answers.opened

          size : length writes_as.bytes ≡ writes_as.len
          size = sym writes_as.writing.got ∙ subst (λ (z : Client). IsWholeOne z) at.is.1 whole ∙ writes_as.writing.long

          kept : (j : ℕ) → (j ≡ i → ⊥) → KeepsOf k.opened (ended k.opened writes_as.runs) (client_at desk j)
          kept j other = subst (λ (r : List Run). KeepsOf k.opened (ended k.opened r) (client_at desk j)) writes_as.writing.lies (keeps_given s k (Writing writer) (client_at desk j) writing_of (writing_apart j other))

      still_sits : (after : Known) → after.opened ≡ k.opened → Stands state has w after now → Sits state has w desk after opens now
      still_sits after same stands = sits_later state has k after opens v w desk old now same stands sits

      pub close_failed : (why : Refusal) → IsWholeOne (client_at desk i)
          → (let r : Result Key Refusal = Err why in EndsEntering state has writes_as.name writes_as.runs writes_as.serial writes_as.bytes k w now r)
          → (let r : Result Key Refusal = Err why in EndsClose state has c k opens w desk now r)
      close_failed why whole ends = by why ends
        where
          stays : ((after : Known) × Unchanged k after × Stands state has w after now) → StaysAs state has k opens w desk now
          stays so = record { after = so.0; unchanged = so.1; sits = still_sits so.0 so.1.opened so.2 }

          outcome : Met → Outcome
          outcome met = enter_outcome met (volume_of k) writes_as.name writes_as.bytes None writes_as.runs writes_as.serial

          answered : (r : Refusal) → ((after : Known) × AnswersOf outcome (Refused r) [] k after × Stands state has w after now) → (met : Met) × (met.forces ≡ forces_by_itself k.mounted) × AnswersAs state has (λ t. close_outcome met t c) (Refused r) [] k opens w desk now
          answered r so = (
            so.1.met,
            so.1.forces,
            record {
              after = so.0;
              left = opens;
              is = closes_by so.1.met whole ∙ ap (λ (out : Outcome). closed_as out.0 (record { volume = out.1; clients = opens }) c) so.1.is;
              windows = so.1.windows;
              changes = so.1.changes;
              sits = still_sits so.0 so.1.opened so.2;
            },
          )

          by : (r : Refusal) → EndsRefused state has outcome k w now r → RemainsOpen state has c k opens w desk now r
          by (Why.Device t) (inl down) = record { met = no_met k; forces = refl; refuses = inl down }
          by (Why.Device t) (inr so) = record { met = no_met k; forces = refl; refuses = inr (stays so) }
          by Why.Memory so = record { met = no_met k; forces = refl; refuses = stays so }
          by Why.WornOut so = record { met = no_met k; forces = refl; refuses = still_sits k refl so }
          by (Why.Lost a b) so = absurd so
          by (Why.Unsound t) so = absurd so
          by (Why.Down t) so = absurd so
          by r so = let told = answered r so in record { met = told.0; forces = told.1; refuses = told.2 }
