-- What stands of a creation whose bytes come in pieces.
use Rattle.std.proofs.Common.{◌≡◌, ◌⊎◌, ℕ, ◌+◌, ◌-◌, ◌*◌, ◌/◌, ◌%◌, ◌<◌, ◌≤◌, Bool, true, false, ◌||◌, cond, List, [], ◌∷◌, ◌++◌, length, take, drop, refl, sym, ap, subst, ◌∙◌, inl, inr, arith, Option, Some, Result, Err}
use Rattle.std.specs.Prelude.{◌==◌}
use Rattle.std.proofs.lemmas.Bool.{or_parts}
use Rattle.std.proofs.lemmas.Bool.Decides.{eqb_tells}
use Rattle.std.proofs.lemmas.List.{length-append, take-append-drop, append-nil}
use Rattle.std.proofs.Math.Seq.{take-length}
use Rattle.run_table.specs.declared.run.Run.{Run}
use Rattle.run_table.specs.RunTable.{same_runs}
use Rattle.run_table.specs.Space.{contains}
use Rattle.run_table.proofs.SameLaws.{same_runs_are}
use Rattle.run_table.proofs.SectorLaws.{contains-append}
use Rattle.fsd_bytes.specs.declared.key.Key.{Key}
use Rattle.fsd_bytes.specs.declared.key.Serial.{Serial}
use Rattle.fsd_bytes.specs.declared.refusal.Refusal.{Refusal}
use Rattle.fsd_bytes.specs.declared.refusal.Refusal.TheVariants as Why
use Rattle.sector_disk.specs.Machine.{Moment}
use Rattle.fsd_log.specs.Scan.{Placed}
use Rattle.fsd_files.specs.Desk.{Writes}
use Rattle.fsd_files.specs.Disk.{SectorWorn, Sectors, Touches}
use Rattle.sector_disk.specs.Image.{Windows, open_damage, sector_at}
use Rattle.sector_disk.specs.declared.sector.Sector.{Sector}
use Rattle.fsd_files.specs.Kept.{data_sectors}
use Rattle.fsd_sound.specs.Mounted.{Mounted}
use Rattle.fsd_sound.proofs.MountedLaws.{mounted_sound}
use Rattle.volume_contract.specs.Order.{Comes, IsDeviceIn, slices_steps}
use Rattle.volume_contract.specs.Pieces.{EndsSlices, drafts_with, ended, in_slices, slice_count, slices_if, slices_in, with_opened, with_slices, draft_wrote}
use Rattle.volume_contract.specs.State.{Known, Leaves, LeavesSound, OpenParts, Stands, State, WrittenDraft, forced_of, volume_of}
use Rattle.volume_contract.specs.declared.token.Draft.{Draft}
use Rattle.volume_contract.proofs.DraftLaws.{slices_same}
use Rattle.client_desk.specs.declared.client.Creation.{Creation}
use Rattle.client_desk.specs.declared.client.Client.{Client}
use Rattle.client_desk.specs.declared.client.Client.TheVariants.{Writing}
use Rattle.client_desk.specs.Clients.{draft_sectors, is_due, tail_of, whole_part, written_len}
use Rattle.client_desk.specs.Ends.{AddsBytes, EndsAdd, EndsEntering, EndsPieces, IsOpenIn, IsWritingDraft, LeavesFor, given_up, slices_so_far}
use Rattle.client_desk.proofs.SitsLaws.{held_is, serves_writing}
use Rattle.client_desk.proofs.SliceLaws.{front_slices, nones, fill_kept, fill_written, laid_nothing, lay_tail, lay_written, start, tail_kept, tail_none, written_more}

-- ---- drafts

pub slices_with : (drafts : List WrittenDraft) (r : List Run) (s t : List (Option (List ℕ))) → slices_in drafts r ≡ Some s → slices_in (drafts_with drafts r t) r ≡ Some t
slices_with [] r s t is = absurd (cc is)
slices_with (x ∷ drafts) r s t is = by (same_runs x.runs r) refl (slices_with drafts r s t) is
  where
    by : (b : Bool) → same_runs x.runs r ≡ b → (slices_in drafts r ≡ Some s → slices_in (drafts_with drafts r t) r ≡ Some t) → cond b (Some x.slices) (slices_in drafts r) ≡ Some s
        → slices_in (cond b (record { runs = x.runs; slices = t } ∷ drafts) (x ∷ drafts_with drafts r t)) r ≡ Some t
    by true e more is = ap (λ (b : Bool). cond b (Some t) (slices_in drafts r)) e
    by false e more is = ap (λ (b : Bool). cond b (Some x.slices) (slices_in (drafts_with drafts r t) r)) e ∙ more is

pub with_twice : (drafts : List WrittenDraft) (r : List Run) (s t : List (Option (List ℕ))) → drafts_with (drafts_with drafts r s) r t ≡ drafts_with drafts r t
with_twice [] r s t = refl
with_twice (x ∷ drafts) r s t = by (same_runs x.runs r) refl (with_twice drafts r s t)
  where
    by : (b : Bool) → same_runs x.runs r ≡ b → drafts_with (drafts_with drafts r s) r t ≡ drafts_with drafts r t
        → drafts_with (cond b (record { runs = x.runs; slices = s } ∷ drafts) (x ∷ drafts_with drafts r s)) r t ≡ cond b (record { runs = x.runs; slices = t } ∷ drafts) (x ∷ drafts_with drafts r t)
    by true e more = ap (λ (b : Bool). cond b (record { runs = x.runs; slices = t } ∷ drafts) (record { runs = x.runs; slices = s } ∷ drafts_with drafts r t)) e
    by false e more = ap (λ (b : Bool). cond b (record { runs = x.runs; slices = t } ∷ drafts_with drafts r s) (x ∷ drafts_with (drafts_with drafts r s) r t)) e ∙ ap (λ (xs : List WrittenDraft). x ∷ xs) more

pub with_others : (drafts : List WrittenDraft) (a r : List Run) (s : List (Option (List ℕ))) → same_runs a r ≡ false → slices_in (drafts_with drafts a s) r ≡ slices_in drafts r
with_others [] a r s other = refl
with_others (x ∷ drafts) a r s other = by (same_runs x.runs a) refl (with_others drafts a r s other)
  where
    by : (b : Bool) → same_runs x.runs a ≡ b → slices_in (drafts_with drafts a s) r ≡ slices_in drafts r
        → slices_in (cond b (record { runs = x.runs; slices = s } ∷ drafts) (x ∷ drafts_with drafts a s)) r ≡ cond (same_runs x.runs r) (Some x.slices) (slices_in drafts r)
    by true e more =
        let not_it : same_runs x.runs r ≡ false = ap (λ (runs : List Run). same_runs runs r) (same_runs_are x.runs a e) ∙ other in
        ap (λ (b : Bool). cond b (Some s) (slices_in drafts r)) not_it ∙ sym (ap (λ (b : Bool). cond b (Some x.slices) (slices_in drafts r)) not_it)
    by false e more = ap (λ (z : Option (List (Option (List ℕ)))). cond (same_runs x.runs r) (Some x.slices) z) more

-- ---- sectors

pub in_part : (n m : ℕ) (xs : List ℕ) (t : ℕ) → contains xs t ≡ false → contains (take n (drop m xs)) t ≡ false
in_part n m xs t out =
    let behind : contains (drop m xs) t ≡ false = (or_parts (contains (take m xs) t) (contains (drop m xs) t) (sym (contains-append (take m xs) (drop m xs) t) ∙ ap (λ (ys : List ℕ). contains ys t) (take-append-drop m xs) ∙ out)).1 in
    (or_parts (contains (take n (drop m xs)) t) (contains (drop n (drop m xs)) t)
    (sym (contains-append (take n (drop m xs)) (drop n (drop m xs)) t) ∙ ap (λ (ys : List ℕ). contains ys t) (take-append-drop n (drop m xs)) ∙ behind)).0

pub device_in_data : (w : Creation) (first len : ℕ) (why : Refusal) → IsDeviceIn (in_slices w.draft.runs first len) why → IsDeviceIn (draft_sectors w) why
device_in_data w first len (Why.Device s) is = by (draft_sectors w s) refl
  where
    by : (b : Bool) → draft_sectors w s ≡ b → draft_sectors w s ≡ true
    by true e = e
    by false e = absurd (cc (sym is ∙ in_part (slice_count len) first (data_sectors w.draft.runs) s e))
device_in_data w first len why is = absurd is

pub slices_refuse : (s : State) (w : Creation) (first len : ℕ) (why : Refusal) → Comes (slices_steps s (in_slices w.draft.runs first len)) why → Comes (slices_steps s (draft_sectors w)) why
slices_refuse s w first len why (inl down) = inl down
slices_refuse s w first len why (inr later) = inr (
  later.0,
  elim later.1 [
    | inl device ↦ inl (device_in_data w first len why device)
    | inr none ↦ inr none
  ],
)

-- slices of a creation are of its bytes
pub touches_data : (w : Creation) (first len : ℕ) (old left : Moment) → Touches (in_slices w.draft.runs first len) old left → Touches (draft_sectors w) old left
touches_data w first len old left touches = record { size = touches.size; others = λ s out. touches.others s (in_part (slice_count len) first (data_sectors w.draft.runs) s out) }

module _ {S : Type 0} (state : S → State) (has : S → Mounted → List Placed → Type 0) where
  -- ---- what is open is open

  pub opened_itself : (v : S) (k : Known) (now : Moment) → Stands state has v k now → with_opened k k.opened ≡ k
  opened_itself v k now stands = λ i. record k {
    mounted = record k.mounted {
      volume = record (volume_of k) { drafts = sym stands.opened.drafts i; held = sym (held_is state has v k now stands) i };
      slices = sym stands.opened.slices i;
      bytes = sym stands.opened.bytes i;
    };
  }

  pub leaves_more : (v : S) (client : Client) (w : Creation) (first len : ℕ) (old left : Moment) → Leaves state has v (in_slices w.draft.runs first len) old left → LeavesFor state has v client (draft_sectors w) old left
  leaves_more v client w first len old left leaves k y serves stands =
      let l = leaves k stands in
      record {
        sound = l.sound;
        roots = l.roots;
        windows = l.windows;
        said = l.said;
        touches = touches_data w first len old left l.touches;
      }

  pub leaves_still : (v : S) (client : Client) (may : Sectors) (now : Moment) → LeavesFor state has v client may now now
  leaves_still v client may now k y serves stands = record {
    sound = mounted_sound k.mounted k.windows k.changes (forced_of k) now.image stands.disk;
    roots = stands.disk.over.own.roots;
    windows = refl;
    said = refl;
    touches = record { size = refl; others = λ s out. inl refl };
  }

  -- ---- bytes come

  module _ (k : Known) (v : S) (now : Moment) (w : Creation) (name : List ℕ) (len : ℕ) (runs : List Run) (serial : Serial) where
    -- nothing was written
    pub adds_unwritten : (x : Creation) (sofar : List ℕ) → Stands state has v k now → IsWritingDraft k.opened x name len runs serial sofar → AddsBytes state has k x name len runs serial sofar v now
    adds_unwritten x sofar stands writing =
        let same : draft_wrote k.opened runs (slices_so_far len sofar) ≡ k.opened = λ i. record k.opened { drafts = slices_same k.opened.drafts runs (slices_so_far len sofar) writing.written i } in
        record {
          slices = slices_so_far len sofar;
          stands = subst (λ (o : OpenParts). Stands state has v (with_opened k o) now) (sym same) (subst (λ (z : Known). Stands state has v z now) (sym (opened_itself v k now stands)) stands);
          writing = subst (λ (o : OpenParts). IsWritingDraft o x name len runs serial sofar) (sym same) writing;
        }

    -- these slices were
    pub adds_written : (x : Creation) (before sofar : List ℕ) (slices : List (Option (List ℕ))) → IsWritingDraft k.opened w name len runs serial before
        → Stands state has v (with_opened k (draft_wrote k.opened w.draft.runs slices)) now → slices ≡ slices_so_far len sofar
        → x.name ≡ w.name → x.draft ≡ w.draft → x.got ≡ length sofar → tail_of x ≡ drop (written_len len (length sofar)) sofar → AddsBytes state has k x name len runs serial sofar v now
    adds_written x before sofar slices writing stands is same_name same_draft got tail = record {
      slices = slices;
      stands = subst (λ (r : List Run). Stands state has v (with_opened k (draft_wrote k.opened r slices)) now) writing.lies stands;
      writing = record {
        named = same_name ∙ writing.named;
        long = ap (λ d. d.length) same_draft ∙ writing.long;
        lies = ap (λ d. d.runs) same_draft ∙ writing.lies;
        drawn = ap (λ d. d.serial) same_draft ∙ writing.drawn;
        got = got;
        tail = tail;
        written = slices_with k.opened.drafts runs (slices_so_far len before) slices writing.written ∙ ap (λ (s : List (Option (List ℕ))). Some s) is;
      };
    }

-- ---- how much is written

pub written_start : (len got : ℕ) → (got == len) ≡ false → written_len len got ≡ got / 512 * 512
written_start len got unended = ap (λ (b : Bool). cond b got (got / 512 * 512)) unended

pub written_undue : (len got n : ℕ) → is_due len (got % 512 + n) (got + n) ≡ false → got % 512 + n ≤ 512 → written_len len (got + n) ≡ got / 512 * 512
written_undue len got n undue within = by (or_parts (got % 512 + n == 512) (got + n == len) undue) (eqb_tells (got % 512 + n) 512)
  where
    by : ((got % 512 + n == 512) ≡ false) × ((got + n == len) ≡ false) → (((got % 512 + n == 512) ≡ true) × (got % 512 + n ≡ 512)) ⊎ (((got % 512 + n == 512) ≡ false) × (got % 512 + n ≡ 512 → ⊥)) → written_len len (got + n) ≡ got / 512 * 512
    by parts (inl full) = absurd (cc (sym full.0 ∙ parts.0))
    by parts (inr part) =
        let less : got % 512 + n < 512 = omega (arith, within, part.1) in
        ap (λ (b : Bool). cond b (got + n) ((got + n) / 512 * 512)) parts.1 ∙ (let e : (got + n) / 512 * 512 ≡ got / 512 * 512 = omega (arith, less) in e)

pub written_due : (len got n : ℕ) → is_due len (got % 512 + n) (got + n) ≡ true → written_len len (got + n) ≡ got + n
written_due len got n due = by (got + n == len) refl (eqb_tells (got % 512 + n) 512)
  where
    by : (b : Bool) → (got + n == len) ≡ b → (((got % 512 + n == 512) ≡ true) × (got % 512 + n ≡ 512)) ⊎ (((got % 512 + n == 512) ≡ false) × (got % 512 + n ≡ 512 → ⊥)) → cond b (got + n) ((got + n) / 512 * 512) ≡ got + n
    by true e full = refl
    by false e (inl full) = let is = full.1 in omega (arith, is)
    by false e (inr other) = absurd (cc (sym due ∙ ap (λ (b : Bool). b || (got + n == len)) other.0 ∙ e))

-- ---- the bytes of a creation in memory

module _ (o : OpenParts) (w : Creation) (name : List ℕ) (len : ℕ) (runs : List Run) (serial : Serial) (before more : List ℕ) (slice : List ℕ) (writing : IsWritingDraft o w name len runs serial before) where
  grown : Creation
  grown = record { name = w.name; draft = w.draft; got = w.got + length more; slice = slice }

  got_grown : w.got + length more ≡ length (before ++ more)
  got_grown = ap (λ (n : ℕ). n + length more) writing.got ∙ sym (length-append before more)

  -- they fill no slice yet
  pub undue_writing : (w.got == w.draft.length) ≡ false → is_due w.draft.length (w.got % 512 + length more) (w.got + length more) ≡ false → w.got % 512 + length more ≤ 512
      → take (w.got % 512 + length more) slice ≡ take (w.got % 512) w.slice ++ more
      → IsWritingDraft o (record { name = w.name; draft = w.draft; got = w.got + length more; slice = slice }) name len runs serial (before ++ more)
  undue_writing unended undue within front =
      let g = w.got in
      let d = w.draft.length in
      let now_at : written_len d (g + length more) ≡ g / 512 * 512 = written_undue d g (length more) undue within in
      let was_at : written_len d g ≡ g / 512 * 512 = written_start d g unended in
      let same : written_len len (length before + length more) ≡ start len before more = ap (λ (n : ℕ). written_len len (n + length more)) (sym writing.got) ∙ ap (λ (n : ℕ). written_len n (g + length more)) (sym writing.long) ∙ now_at ∙ sym was_at ∙ ap (λ (n : ℕ). written_len n g) writing.long ∙ ap (λ (n : ℕ). written_len len n) writing.got in
      let size : g + length more - g / 512 * 512 ≡ g % 512 + length more = omega arith in
      let old_size : g - g / 512 * 512 ≡ g % 512 = omega arith in
      record {
        named = writing.named;
        long = writing.long;
        lies = writing.lies;
        drawn = writing.drawn;
        got = got_grown;
        tail = ap (λ (n : ℕ). take (g + length more - n) slice) now_at ∙ ap (λ (n : ℕ). take n slice) size ∙ front
            ∙ ap (λ (xs : List ℕ). xs ++ more) (ap (λ (n : ℕ). take n w.slice) (sym old_size ∙ ap (λ (n : ℕ). g - n) (sym was_at)) ∙ writing.tail)
            ∙ sym (tail_kept len before more same);
        written = writing.written ∙ ap (λ (s : List (Option (List ℕ))). Some s) (sym (fill_kept len before more same));
      }

  -- or a slice is written, and then all is
  pub due_slices : (w.got == w.draft.length) ≡ false → is_due w.draft.length (w.got % 512 + length more) (w.got + length more) ≡ true
      → take (w.got % 512 + length more) slice ≡ take (w.got % 512) w.slice ++ more
      → with_slices (slices_so_far len before) (w.got / 512) (slices_if true (take (w.got % 512 + length more) slice)) ≡ slices_so_far len (before ++ more)
  due_slices unended due front =
      let g = w.got in
      let d = w.draft.length in
      let all : written_len len (length before + length more) ≡ length before + length more = ap (λ (n : ℕ). written_len len (n + length more)) (sym writing.got) ∙ ap (λ (n : ℕ). written_len n (g + length more)) (sym writing.long) ∙ written_due d g (length more) due ∙ ap (λ (n : ℕ). n + length more) writing.got in
      let begun : (length before == len) ≡ false = ap (λ (n : ℕ). n == len) (sym writing.got) ∙ ap (λ (n : ℕ). g == n) (sym writing.long) ∙ unended in
      let old_size : g % 512 ≡ g - g / 512 * 512 = omega arith in
      let old_tail : take (g % 512) w.slice ≡ drop (start len before more) before = ap (λ (n : ℕ). take n w.slice) (old_size ∙ ap (λ (n : ℕ). g - n) (sym (written_start d g unended))) ∙ writing.tail in
      ap (λ (xs : List ℕ). with_slices (slices_so_far len before) (g / 512) (slices_if true xs)) (front ∙ ap (λ (xs : List ℕ). xs ++ more) old_tail)
      ∙ ap (λ (n : ℕ). with_slices (slices_so_far len before) (n / 512) (slices_if true (drop (start len before more) before ++ more))) writing.got
      ∙ fill_written len before more begun all

  pub due_tail : is_due w.draft.length (w.got % 512 + length more) (w.got + length more) ≡ true
      → take (w.got + length more - written_len w.draft.length (w.got + length more)) slice ≡ drop (written_len len (length (before ++ more))) (before ++ more)
  due_tail due =
      let g = w.got in
      let d = w.draft.length in
      let is : written_len d (g + length more) ≡ g + length more = written_due d g (length more) due in
      let none : g + length more - (g + length more) ≡ 0 = omega arith in
      let all : written_len len (length before + length more) ≡ length before + length more = ap (λ (n : ℕ). written_len len (n + length more)) (sym writing.got) ∙ ap (λ (n : ℕ). written_len n (g + length more)) (sym writing.long) ∙ is ∙ ap (λ (n : ℕ). n + length more) writing.got in
      ap (λ (n : ℕ). take (g + length more - n) slice) is ∙ ap (λ (n : ℕ). take n slice) none ∙ sym (tail_none len before more all)

  -- ---- bytes that begin with a slice

  count : ℕ
  count = whole_part (length more) (w.got + length more == w.draft.length)

  pub same_part : whole_part (length more) (w.got + length more == w.draft.length) ≡ whole_part (length more) (length before + length more == len)
  same_part = ap (λ (n : ℕ). whole_part (length more) (n + length more == w.draft.length)) writing.got ∙ ap (λ (n : ℕ). whole_part (length more) (length before + length more == n)) writing.long

  pub whole_slices : w.got % 512 ≡ 0 → with_slices (slices_so_far len before) (w.got / 512) (slices_if true (take (whole_part (length more) (w.got + length more == w.draft.length)) more)) ≡ slices_so_far len (before ++ more)
  whole_slices whole =
      let begun : length before % 512 ≡ 0 = ap (λ (n : ℕ). n % 512) (sym writing.got) ∙ whole in
      ap (λ (n : ℕ). with_slices (slices_so_far len before) (w.got / 512) (slices_if true (take n more))) same_part
      ∙ ap (λ (n : ℕ). with_slices (slices_so_far len before) (n / 512) (slices_if true (take (whole_part (length more) (length before + length more == len)) more))) writing.got
      ∙ lay_written len before more begun

  pub whole_tail : (n : ℕ) → n ≡ whole_part (length more) (w.got + length more == w.draft.length) → w.got % 512 ≡ 0 → take (length more - n) slice ≡ drop n more
      → take (w.got + length more - written_len w.draft.length (w.got + length more)) slice ≡ drop (written_len len (length (before ++ more))) (before ++ more)
  whole_tail n is whole front =
      let g = w.got in
      let d = w.draft.length in
      let begun : length before % 512 ≡ 0 = ap (λ (m : ℕ). m % 512) (sym writing.got) ∙ whole in
      let size : g + length more - (g + n) ≡ length more - n = omega arith in
      ap (λ (m : ℕ). take (g + length more - m) slice) (written_more d g (length more) whole ∙ ap (λ (m : ℕ). g + m) (sym is))
      ∙ ap (λ (m : ℕ). take m slice) size ∙ front ∙ ap (λ (m : ℕ). drop m more) (is ∙ same_part) ∙ sym (lay_tail len before more begun)

  -- ---- no bytes

  pub none_slices : (first : ℕ) (chunk : List ℕ) → more ≡ [] → chunk ≡ [] → with_slices (slices_so_far len before) first (slices_if true chunk) ≡ slices_so_far len (before ++ more)
  none_slices first chunk none empty =
      ap (λ (xs : List ℕ). with_slices (slices_so_far len before) first (slices_if true xs)) empty ∙ laid_nothing first (slices_so_far len before)
      ∙ ap (λ (xs : List ℕ). slices_so_far len xs) (sym (append-nil before) ∙ ap (λ (xs : List ℕ). before ++ xs) (sym none))

  pub none_tail : more ≡ [] → slice ≡ w.slice → take (w.got + length more - written_len w.draft.length (w.got + length more)) slice ≡ drop (written_len len (length (before ++ more))) (before ++ more)
  none_tail none same =
      let g = w.got in
      let d = w.draft.length in
      let zero_more : g + length more ≡ g = ap (λ (xs : List ℕ). g + length xs) none ∙ (let e : g + 0 ≡ g = omega arith in e) in
      ap (λ (n : ℕ). take (n - written_len d n) slice) zero_more ∙ ap (λ (xs : List ℕ). take (g - written_len d g) xs) same ∙ writing.tail
      ∙ ap (λ (xs : List ℕ). drop (written_len len (length xs)) xs) (sym (append-nil before) ∙ ap (λ (xs : List ℕ). before ++ xs) (sym none))

pub unequal : (a b : ℕ) → (a ≡ b → ⊥) → (a == b) ≡ false
unequal a b other = elim (eqb_tells a b) [
  | inl same ↦ absurd (other same.1)
  | inr not_same ↦ not_same.0
]

-- ---- two calls

module _ (may : Sectors) (a b left : Moment) where
  worn_then : (p : Bool) (x y z : Sector) → SectorWorn p x y → SectorWorn p y z → SectorWorn p x z
  worn_then p x y z first (inl same) = subst (λ (u : Sector). SectorWorn p x u) (sym same) first
  worn_then p x y z first (inr gone) = inr gone

  pub touches_both : b.windows ≡ a.windows → Touches may a b → Touches may b left → Touches may a left
  touches_both windows first second = record {
    size = second.size ∙ first.size;
    others = λ s out. worn_then (open_damage a.windows s) (sector_at a.image s) (sector_at b.image s) (sector_at left.image s)
        (first.others s out) (subst (λ (w : Windows). SectorWorn (open_damage w s) (sector_at b.image s) (sector_at left.image s)) windows (second.others s out));
  }

  pub leaves_both : (k : Known) (o : OpenParts) → LeavesSound k may a b → LeavesSound (with_opened k o) may b left → LeavesSound k may a left
  leaves_both k o first second = record {
    sound = second.sound;
    roots = second.roots;
    windows = second.windows ∙ first.windows;
    said = second.said ∙ first.said;
    touches = touches_both first.windows first.touches second.touches;
  }

module _ {S : Type 0} (state : S → State) (has : S → Mounted → List Placed → Type 0) where
  -- the disk failed
  pub broken_off : {T : Type 0} (adds : T → List ℕ) (k : Known) (x : Creation) (d : Draft) (name : List ℕ) (len : ℕ) (runs : List Run) (serial : Serial) (before : List ℕ) (first : ℕ) (bytes : List ℕ) (old : List (Option (List ℕ))) (v : S) (now : Moment) (why : Refusal) → d.runs ≡ runs
      → (let r : Result (Unit {0}) Refusal = Err why in EndsSlices state has d first bytes old k v now r) → (let r : Result T Refusal = Err why in EndsAdd state has adds k x name len runs serial before v now r)
  broken_off adds k x d name len runs serial before first bytes old v now (Why.Device s) lies ends = record {
    slices = with_slices old first (slices_if false bytes);
    stands = subst (λ (r : List Run). Stands state has v (with_opened k (draft_wrote k.opened r (with_slices old first (slices_if false bytes)))) now) lies ends;
  }
  broken_off adds k x d name len runs serial before first bytes old v now why lies ends = absurd ends

  pub leaves_on : (v w : S) (x y : Creation) (a b left : Moment) → y.draft ≡ x.draft
      → LeavesFor state has v (Writing x) (draft_sectors x) a b
      → ((k : Known) → Stands state has v k a → (name : List ℕ) (len : ℕ) (runs : List Run) (serial : Serial) (before : List ℕ) → IsWritingDraft k.opened x name len runs serial before → (sofar : List ℕ) × AddsBytes state has k y name len runs serial sofar w b)
      → LeavesFor state has w (Writing y) (draft_sectors y) b left → LeavesFor state has v (Writing x) (draft_sectors x) a left
  leaves_on v w x y a b left same first adds second k open_one serves stands =
      let was = serves_writing k.opened x open_one serves in
      let more = adds k stands was.name was.len was.runs was.serial was.bytes was.writing in
      let o : OpenParts = draft_wrote k.opened was.runs more.1.slices in
      let one : LeavesSound (with_opened k o) (draft_sectors y) b left = second (with_opened k o) (Writes was.name was.len was.runs was.serial more.0) more.1.writing more.1.stands in
      leaves_both (draft_sectors x) a b left k o (first k open_one serves stands) (subst (λ (d : Draft). LeavesSound (with_opened k o) (λ t. contains (data_sectors d.runs) t) b left) same one)

  pub adds_then : (k : Known) (x y : Creation) (name : List ℕ) (len : ℕ) (runs : List Run) (serial : Serial) (sofar all : List ℕ) (slices : List (Option (List ℕ))) (v : S) (now : Moment)
      → sofar ≡ all → AddsBytes state has (with_opened k (draft_wrote k.opened runs slices)) y name len runs serial sofar v now → AddsBytes state has k y name len runs serial all v now
  adds_then k x y name len runs serial sofar all slices v now is adds =
      let same : draft_wrote (draft_wrote k.opened runs slices) runs adds.slices ≡ draft_wrote k.opened runs adds.slices = λ i. record k.opened { drafts = with_twice k.opened.drafts runs slices adds.slices i } in
      record {
        slices = adds.slices;
        stands = subst (λ (o : OpenParts). Stands state has v (with_opened k o) now) same adds.stands;
        writing = subst (λ (xs : List ℕ). IsWritingDraft (draft_wrote k.opened runs adds.slices) y name len runs serial xs) is
            (subst (λ (o : OpenParts). IsWritingDraft o y name len runs serial sofar) same adds.writing);
      }

  pub breaks_then : {T U : Type 0} (f : T → List ℕ) (h : U → List ℕ) (k : Known) (y z : Creation) (name : List ℕ) (len : ℕ) (runs : List Run) (serial : Serial) (sofar before : List ℕ) (slices : List (Option (List ℕ))) (v : S) (now : Moment) (why : Refusal)
      → (let r : Result T Refusal = Err why in EndsAdd state has f (with_opened k (draft_wrote k.opened runs slices)) y name len runs serial sofar v now r) → (let r : Result U Refusal = Err why in EndsAdd state has h k z name len runs serial before v now r)
  breaks_then f h k y z name len runs serial sofar before slices v now (Why.Device s) ends =
      let same : draft_wrote (draft_wrote k.opened runs slices) runs ends.slices ≡ draft_wrote k.opened runs ends.slices = λ i. record k.opened { drafts = with_twice k.opened.drafts runs slices ends.slices i } in
      record { slices = ends.slices; stands = subst (λ (o : OpenParts). Stands state has v (with_opened k o) now) same ends.stands }
  breaks_then f h k y z name len runs serial sofar before slices v now why ends = absurd ends

  -- it is given up where the disk failed
  pub piece_broken : (k : Known) (w x : Creation) (new : Client) (name : List ℕ) (len : ℕ) (runs : List Run) (serial : Serial) (before more : List ℕ) (v u : S) (now : Moment) (why : Refusal) → IsWritingDraft k.opened w name len runs serial before → x.draft ≡ w.draft
      → ((z : Known) → IsOpenIn z.opened (Writing x) → Stands state has v z now → Stands state has u (given_up z (Writing x)) now)
      → (let r : Result (Unit {0}) Refusal = Err why in EndsAdd state has (λ y. more) k x name len runs serial before v now r)
      → (let r : Result ℕ Refusal = Err why in EndsPieces state has k (Writing w) new name len runs serial before more u now r)
  piece_broken k w x new name len runs serial before more v u now (Why.Device s) writing same gives ends =
      let lies : x.draft.runs ≡ runs = ap (λ (d : Draft). d.runs) same ∙ writing.lies in
      let there : slices_in (drafts_with k.opened.drafts runs ends.slices) x.draft.runs ≡ Some ends.slices = ap (λ (r : List Run). slices_in (drafts_with k.opened.drafts runs ends.slices) r) lies ∙ slices_with k.opened.drafts runs (slices_so_far len before) ends.slices writing.written in
      (ends.slices, subst (λ (r : List Run). Stands state has u (with_opened k (ended (draft_wrote k.opened runs ends.slices) r)) now) lies (gives (with_opened k (draft_wrote k.opened runs ends.slices)) (ends.slices, there) ends.stands))
  piece_broken k w x new name len runs serial before more v u now why writing same gives ends = absurd ends

-- its end is that of the creation that it is
pub entered_as : {S : Type 0} (state : S → State) (has : S → Mounted → List Placed → Type 0) (o : OpenParts) (w : Creation) (name : List ℕ) (len : ℕ) (runs : List Run) (serial : Serial) (bytes : List ℕ) (k : Known) (v : S) (now : Moment) (r : Result Key Refusal)
    → IsWritingDraft o w name len runs serial bytes → EndsEntering state has w.name w.draft.runs w.draft.serial bytes k v now r → EndsEntering state has name runs serial bytes k v now r
entered_as state has o w name len runs serial bytes k v now r writing ends =
    subst (λ (n : List ℕ). EndsEntering state has n runs serial bytes k v now r) writing.named
    (subst (λ (x : List Run). EndsEntering state has w.name x serial bytes k v now r) writing.lies
    (subst (λ (x : Serial). EndsEntering state has w.name w.draft.runs x bytes k v now r) writing.drawn ends))

-- a creation that is whole is written whole
pub whole_written : (o : OpenParts) (w : Creation) (name : List ℕ) (len : ℕ) (runs : List Run) (serial : Serial) (bytes : List ℕ) → IsWritingDraft o w name len runs serial bytes → w.got ≡ w.draft.length
    → (length bytes ≡ w.draft.length) × (slices_in o.drafts w.draft.runs ≡ Some (slices_if true bytes))
whole_written o w name len runs serial bytes writing whole =
    let size : length bytes ≡ len = sym writing.got ∙ whole ∙ writing.long in
    let all : written_len len (length bytes) ≡ length bytes = by (length bytes == len) (eqb_tells (length bytes) len) in
    let none : slice_count len - slice_count (length bytes) ≡ 0 = ap (λ (n : ℕ). slice_count len - slice_count n) size ∙ (let e : slice_count len - slice_count len ≡ 0 = omega arith in e) in
    let is : slices_so_far len bytes ≡ slices_if true bytes =
    ap (λ (n : ℕ). front_slices len (take n bytes)) all ∙ ap (front_slices len) (take-length bytes) ∙ ap (λ (n : ℕ). slices_if true bytes ++ nones n) none ∙ append-nil (slices_if true bytes) in
    (sym writing.got ∙ whole, ap (λ (r : List Run). slices_in o.drafts r) writing.lies ∙ writing.written ∙ ap (λ (s : List (Option (List ℕ))). Some s) is)
  where
    by : (b : Bool) → ((b ≡ true) × (length bytes ≡ len)) ⊎ ((b ≡ false) × (length bytes ≡ len → ⊥)) → cond b (length bytes) (length bytes / 512 * 512) ≡ length bytes
    by true tells = refl
    by false (inl same) = absurd (cc (same.0))
    by false (inr other) = absurd (other.1 (sym writing.got ∙ whole ∙ writing.long))
