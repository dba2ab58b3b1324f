-- What a dump over a mounted volume leaves, behind the sync in front of it.
use Rattle.std.proofs.Common.{◌≡◌, ℕ, zero, suc, ◌<◌, Bool, List, [], ◌∷◌, ◌++◌, length, take, drop, Option, Some, None, refl, sym, ◌∙◌, ap, arith, append_assoc}
use Rattle.std.specs.Prelude.{Result, Ok, Err, slice_get}
use Rattle.std.specs.List.{AllByRecursion, concat}
use Rattle.std.proofs.Math.Seq.{take-append_seam}
use Rattle.std.proofs.lemmas.List.{append_cancel_left, take-append-drop}
use Rattle.sector_disk.specs.declared.machine.Machine.{Ghosts}
use Rattle.sector_disk.specs.Calls.{IsHeld, IsTimed, Since, StopsOnly, stops}
use Rattle.sector_disk.specs.Image.{AreShort, IsWorn, open_damage}
use Rattle.sector_disk.specs.Machine.{IsSynced, LeavesOnly, Moment, Utters, Wears}
use Rattle.sector_disk.proofs.Lags.{held_synced}
use Rattle.sector_disk.proofs.Moments.{leaves_more, then_on}
use Rattle.sector_disk.proofs.Wear.{worn_whole}
use Rattle.fsd_bytes.specs.declared.key.Key.{Key}
use Rattle.fsd_bytes.specs.declared.key.Serial.{Serial}
use Rattle.fsd_files.specs.Disk.{Image}
use Rattle.fsd_files.specs.Kept.{IsWhole}
use Rattle.fsd_files.specs.Volume.{Volume}
use Rattle.fsd_log.specs.Scan.{Placed}
use Rattle.fsd_sound.specs.Laid.{HasOwnRoots}
use Rattle.fsd_sound.specs.Mounted.{IsMounted, Mounted}
use Rattle.fsd_sound.specs.Sound.{IsSound, weak_of}
use Rattle.fsd_sound.proofs.MountedLaws.{mounted_lasts, mounted_sound, mounted_tells}
use Rattle.fsd_texts.specs.declared.fault.Fault.{Fault}
use Rattle.fsd_texts.specs.declared.fault.Fault.TheVariants as Ends
use Rattle.fsd_texts.specs.Text.{fault_text}
use Rattle.fsd_runs.specs.declared.request.Request.TheVariants.{Dump}
use Rattle.fsd_runs.specs.declared.span.Span.{Span}
use Rattle.fsd_runs.specs.Dumps.{dump_of, span_of}
use Rattle.fsd_runs.specs.Errands.{Turn}
use Rattle.fsd_runs.specs.Leaves.{SaysFault}
use Rattle.fsd_runs.specs.Runs.{IsDumpedSo, said_in}
use Rattle.volume_contract.specs.State.{State, Ages, Known, Stands, forced_of, volume_of}
use Rattle.volume_turns.specs.Once.{IsDone}
use Rattle.volume_turns.specs.Steps.{StaysSoundFor}
use Rattle.volume_turns.specs.Turns.{InRun, OnDisk, SaysAll}
use Rattle.volume_turns.specs.Whole.{GoesUnsaid}
use Rattle.volume_turns.proofs.HaltLaws.{held_behind, stops_saying}
use Rattle.volume_turns.proofs.PlainLaws.{ArePlain, in_plain, sound_all}
use Rattle.volume_turns.proofs.SayLaws.{KeepsSynced}
use Rattle.volume_turns.proofs.TurnLaws.{stays_held, stays_stops}
use Rattle.volume_turns.proofs.StaysLaws.{mounted_stays}

-- ---- what was whole

-- what is worn was whole before
pub whole_before : (may : ℕ → Bool) (i j : Image) → IsWorn may i j → (xs : List (Key × ℕ)) → AllByRecursion (λ x. IsWhole j x.1) xs → AllByRecursion (λ x. IsWhole i x.1) xs
whole_before may i j worn [] whole = tt
whole_before may i j worn (x ∷ xs) (here, rest) = ((here.0, worn_whole may i j x.1 here.0 worn here.1), whole_before may i j worn xs rest)

-- ---- where nothing but a fault is said

abbrev first_byte : List ℕ → Option ℕ
first_byte bytes = slice_get bytes 0

fault_first : (why : Fault) → first_byte (fault_text why) ≡ Some 102
fault_first Ends.NotVolume = refl
fault_first (Ends.Lost a b) = refl
fault_first Ends.NoAnchor = refl
fault_first (Ends.Unsound s) = refl
fault_first (Ends.Device s) = refl
fault_first Ends.Input = refl
fault_first Ends.InputTooLong = refl
fault_first Ends.Memory = refl
fault_first Ends.WornOut = refl

first_taken : (n : ℕ) (bytes : List ℕ) (b : ℕ) → first_byte bytes ≡ Some b → first_byte (take (suc n) bytes) ≡ Some b
first_taken n [] b is = absurd (cc is)
first_taken n (x ∷ bytes) b is = is

apart : (a b : ℕ) → b < a → Some a ≡ Some b → ⊥
apart a b less is = let same : a ≡ b = cc is in omega (arith, same, less)

-- the head of a dump begins no fault's line
not_head : (heard : ℕ) (why : Fault) (whole : List ℕ) → first_byte whole ≡ Some 67 → take heard (fault_text why) ≡ whole → ⊥
not_head zero why whole first is = let none : None ≡ Some 67 = ap first_byte is ∙ first in cc none
not_head (suc n) why whole first is =
    absurd (apart 102 67 (omega arith) (sym (first_taken n (fault_text why) 102 (fault_first why)) ∙ (ap first_byte is ∙ first)))

-- whatever the span that is asked for
pub unsaid_as : (asked : Result Span ℕ) (Passed : Moment → Type 0) (base : List ℕ) (v : Volume) (i : Image) → ((c : Moment) → Passed c → (part : List ℕ) × SaysFault part × (c.said ≡ base ++ part)) → IsDumpedSo asked None Passed base v i
unsaid_as (Ok span) Passed base v i only = λ c more passed said.
    let part = only c passed in
    let fault = part.1 in
    absurd (not_head fault.1 fault.0 (concat (take 1 (dump_of span v)) ++ more) refl (sym fault.3 ∙ append_cancel_left base part.0 (concat (take 1 (dump_of span v)) ++ more) (sym part.2 ∙ said)))
unsaid_as (Err need) Passed base v i only = tt

pub dump_unsaid : (since : Serial) (most : Option ℕ) → GoesUnsaid (Dump since most)
dump_unsaid since most Passed base v i only = unsaid_as (span_of since most v.entries) Passed base v i only

begun : (bytes rest : List ℕ) (heard : ℕ) → take (length (take heard bytes)) (bytes ++ rest) ≡ take heard bytes
begun bytes rest heard =
    ap (λ (x : List ℕ). take (length (take heard bytes)) (x ++ rest)) (sym (take-append-drop heard bytes)) ∙ ap (take (length (take heard bytes))) (append_assoc (take heard bytes) (drop heard bytes) rest)
    ∙ take-append_seam (take heard bytes) (drop heard bytes ++ rest)

-- ---- the sync in front of it

-- both roots are those of the layout
abbrev pub Rooted : Known → Moment → Type 0
Rooted k c = HasOwnRoots k.mounted.volume.layout (weak_of k.windows) c.image

module _ {S D : Type 0} (state : S → State) (has : S → Mounted → List Placed → Type 0) (M : Ghosts D) (k : Known) (v : S) (a m : D)
    (wears : (old new : Moment) → AreShort old.windows → Ages old new → Stands state has v k old → Stands state has v k new) (stands : Stands state has v k (M.now a)) (on : OnDisk M k (forced_of k) a) (short : (x : D) → M.honest x → AreShort (M.now x).windows) (timed : (x : D) → M.honest x → IsTimed M x)
    (reads : KeepsSynced M a m) (back : M.honest m) where
  at_a : IsTimed M a
  at_a = timed a (reads.trust.honest back)

  at_m : IsTimed M m
  at_m = timed m back

  worn : Wears (M.now a) (M.now m)
  worn = reads.worn back

  since_a : Ages (M.now a) (M.now m)
  since_a = record { image = worn.image; windows = worn.windows }

  pub stands_synced : Stands state has v k (M.now m)
  stands_synced = wears (M.now a) (M.now m) (short a (reads.trust.honest back)) since_a stands

  stays : (left : Moment) → Wears (M.now a) left → StaysSoundFor k (M.now a) left
  stays left w = mounted_stays k (M.now a) left (wears (M.now a) left (short a (reads.trust.honest back)) (record { image = w.image; windows = w.windows }) stands).disk w.windows w.said

  stays_run : LeavesOnly M.moment M.left_since a m (StaysSoundFor k (M.now a))
  stays_run = leaves_more M.moment M.left_since a m (Wears (M.now a)) (StaysSoundFor k (M.now a)) stays (reads.any_moment back)

  pub first_stops : (turns : List Turn) → StopsOnly M a m (InRun k (forced_of k) turns (M.now a))
  first_stops turns = stays_stops M k (forced_of k) a m at_a at_m (reads.since back) stays_run on turns

  pub held_m : IsHeld M m (λ c. IsSound k.mounted.volume.layout k.windows k.changes (forced_of k) c.image)
  held_m = (stays_held M k (forced_of k) a m at_a at_m (reads.since back) stays_run on).each

  -- of an image as it may have worn since
  aged_to : (i : Image) → IsWorn (open_damage (M.now m).windows) (M.now m).image i → IsMounted k.mounted k.windows k.changes (forced_of k) i
  aged_to i w = (wears (M.now m) (record (M.now m) { image = i }) (short m back) (record { image = w; windows = refl }) stands_synced).disk

  -- ---- what is said behind it

  -- behind a sync the roots are those of the layout
  pub rooted_synced : IsSynced (M.now m) → IsHeld M m (Rooted k)
  rooted_synced synced = held_synced M m (Rooted k) at_m synced stands_synced.disk.over.own.roots

  module _ (roots : IsHeld M m (Rooted k)) (b : D) (honest : M.honest b) (since : Since M m b) (bytes : List ℕ) (run : LeavesOnly M.moment M.left_since m b (Utters bytes (M.now m))) where
    pub rooted_said : IsHeld M b (Rooted k)
    rooted_said = held_behind M m b bytes (λ i. HasOwnRoots k.mounted.volume.layout (weak_of k.windows) i) at_m (timed b honest) since run roots (λ i own w. (aged_to i w).over.own.roots)

  module _ (none : (volume_of k).unforced ≡ 0) (roots : IsHeld M m (Rooted k)) (b : D) (honest : M.honest b) (since : Since M m b) (bytes : List ℕ) (run : LeavesOnly M.moment M.left_since m b (Utters bytes (M.now m))) where
    at_b : IsTimed M b
    at_b = timed b honest

    pub held_said : IsHeld M b (λ c. IsSound k.mounted.volume.layout k.windows k.changes (forced_of k) c.image)
    held_said = held_behind M m b bytes (λ i. IsSound k.mounted.volume.layout k.windows k.changes (forced_of k) i) at_m at_b since run held_m (λ i sound w. mounted_sound k.mounted k.windows k.changes (forced_of k) i (aged_to i w))

    -- they are some first bytes of these turns
    said_stops : (turns : List Turn) → ArePlain turns → (rest : List ℕ) → said_in turns ≡ bytes ++ rest → StopsOnly M m b (InRun k (forced_of k) turns (M.now a))
    said_stops turns plain rest is = stops_saying M m b bytes (λ i. IsSound k.mounted.volume.layout k.windows k.changes (forced_of k) i) at_m at_b since run held_m (λ i sound w. mounted_sound k.mounted k.windows k.changes (forced_of k) i (aged_to i w)) (InRun k (forced_of k) turns (M.now a))
        (λ left sound windows heard said. in_plain k none turns plain (M.now a) left (windows ∙ worn.windows) sound (length (take heard bytes))
        (said ∙ ap (λ (x : List ℕ). x ++ take heard bytes) worn.said ∙ ap (λ (x : List ℕ). (M.now a).said ++ x) (sym (ap (take (length (take heard bytes))) is ∙ begun bytes rest heard))))

    pub plain_stops : (turns : List Turn) → ArePlain turns → (rest : List ℕ) → said_in turns ≡ bytes ++ rest → StopsOnly M a b (InRun k (forced_of k) turns (M.now a))
    plain_stops turns plain rest is = then_on M.moment (stops M) a m b (InRun k (forced_of k) turns (M.now a)) (first_stops turns) (said_stops turns plain rest is)

    -- all of them are said
    pub plain_done : (turns : List Turn) → ArePlain turns → said_in turns ≡ bytes → SaysAll bytes (M.now m) (M.now b) → IsDone M k turns (volume_of k) a b
    plain_done turns plain is all =
        let there = aged_to (M.now b).image all.ages.image in
        record {
          windows = all.ages.windows ∙ worn.windows;
          said = all.said ∙ ap (λ (x : List ℕ). x ++ bytes) worn.said ∙ ap (λ (x : List ℕ). (M.now a).said ++ x) (sym is);
          sound = sound_all k none turns plain (M.now b).image (mounted_sound k.mounted k.windows k.changes (forced_of k) (M.now b).image there);
          held = λ c left. sound_all k none turns plain c.image (held_said c left);
          tells = mounted_tells k.mounted k.windows k.changes (forced_of k) (M.now b).image there none;
          lasts = mounted_lasts k.mounted k.windows k.changes (forced_of k) (M.now b).image there none;
          roots = there.over.own.roots;
          rooted = rooted_said roots b honest since bytes run;
        }
