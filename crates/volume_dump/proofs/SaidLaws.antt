-- Calls that read a volume and say.
use Rattle.std.proofs.Common.{◌≡◌, ℕ, Bool, true, false, List, [], ◌++◌, Option, None, drop, take, refl, sym, ◌∙◌, ap, subst, arith, append_assoc}
use Rattle.std.proofs.lemmas.List.{append-nil, take-append-drop}
use Rattle.sector_disk.specs.declared.machine.Machine.{Ghosts}
use Rattle.sector_disk.specs.Calls.{Counts, OnlyReads}
use Rattle.sector_disk.specs.Image.{AreShort}
use Rattle.std.specs.Prelude.{Ok, Err}
use Rattle.sector_disk.specs.Machine.{Elapses, LeavesOnly, Moment, OutputCause, Says, Trusts, Utters, Wears}
use Rattle.sector_disk.proofs.CallLaws.{faults_then}
use Rattle.sector_disk.proofs.Holding.{trusts_on, utters_none}
use Rattle.sector_disk.proofs.Moments.{goes_on, leaves_more, started, then_on}
use Rattle.fsd_log.specs.Scan.{Placed}
use Rattle.fsd_sound.specs.Mounted.{Mounted}
use Rattle.volume_contract.specs.State.{Ages, Known, Stands, State}
use Rattle.scrub.specs.Reading.{ReadsVolume}
use Rattle.volume_dump.specs.Dump.{IsBegun, ReadsAndSays}
use Rattle.volume_dump.specs.Saying.{SaysVolume}

counts_then : (fails : Bool) (a b c : ℕ) → b ≡ a → Counts fails b c → Counts fails a c
counts_then fails a b c same second = subst (λ (n : ℕ). Counts fails n c) same second

-- ---- what a text begins with

begun_same : (front whole : List ℕ) → whole ≡ front → IsBegun front whole
begun_same front whole same = ([], same ∙ sym (append-nil front))

begun_then : (a b c : List ℕ) → IsBegun a b → IsBegun b c → IsBegun a c
begun_then a b c first then = (first.0 ++ then.0, then.1 ∙ ap (λ (x : List ℕ). x ++ then.0) first.1 ∙ append_assoc a first.0 then.0)

-- of a text that is said whole
begun_part : (bytes : List ℕ) (old left new : Moment) → Says bytes old new → Utters bytes old left → IsBegun left.said new.said
begun_part bytes old left new all u = (
  drop u.heard bytes,
  all.said ∙ ap (λ (x : List ℕ). old.said ++ x) (sym (take-append-drop u.heard bytes)) ∙ sym (append_assoc old.said (take u.heard bytes) (drop u.heard bytes)) ∙ ap (λ (x : List ℕ). x ++ drop u.heard bytes) (sym u.said),
)

-- ---- calls

module _ {D : Type 0} {M : Ghosts D} {a b : D} where
  -- a stop leaves more
  pub says_more : {fault : Option ℕ} {unsaid : Bool} {P R : Moment → Moment → Type 0} → ReadsAndSays M fault unsaid P a b → (M.honest b → (left : Moment) → P (M.now a) left → R (M.now a) left) → ReadsAndSays M fault unsaid R a b
  says_more {P = P} {R = R} s more = record {
    sectors = s.sectors;
    faults = s.faults;
    input = s.input;
    output = s.output;
    trust = s.trust;
    ledger = s.ledger;
    exit = λ h. more h (M.now b) (s.exit h);
    since = s.since;
    any_moment = λ h. leaves_more M.moment M.left_since a b (P (M.now a)) (R (M.now a)) (more h) (s.any_moment h);
    begun = s.begun;
    said_first = s.said_first;
  }

  -- a call that only reads
  pub reads_as_says : {fault : Option ℕ} → OnlyReads M fault a b → ReadsAndSays M fault false Wears a b
  reads_as_says r = record {
    sectors = r.uses.sectors;
    faults = r.faults;
    input = r.uses.input;
    output = r.uses.output;
    trust = r.trust;
    ledger = r.ledger;
    exit = r.worn;
    since = r.since;
    any_moment = r.any_moment;
    begun = λ said h. begun_same (M.now a).said (M.now b).said (r.worn h).said;
    said_first = λ said h. leaves_more M.moment M.left_since a b (Wears (M.now a)) (λ left. IsBegun left.said (M.now b).said) (λ left w. begun_same left.said (M.now b).said ((r.worn h).said ∙ sym w.said)) (r.any_moment h);
  }

module _ {D : Type 0} {M : Ghosts D} {a b c : D} where
  pub says_after : {fault : Option ℕ} {unsaid : Bool} {P Q R : Moment → Moment → Type 0} → ReadsAndSays M None false P a b → ReadsAndSays M fault unsaid Q b c
      → (M.honest b → (left : Moment) → P (M.now a) left → R (M.now a) left) → (M.honest c → (left : Moment) → Q (M.now b) left → R (M.now a) left) → ReadsAndSays M fault unsaid R a c
  says_after {fault = fault} {unsaid = unsaid} {P = P} {Q = Q} {R = R} first second first_so then_so =
      let back = second.trust.honest in
      let later = λ (h : M.honest c). (first.any_moment (back h)).later in record {
        sectors = second.sectors ∙ first.sectors;
        faults = faults_then fault (M.report a) (M.report b) (M.report c) first.faults second.faults;
        input = second.input ∙ first.input;
        output = counts_then unsaid (M.report a).output_faults (M.report b).output_faults (M.report c).output_faults first.output second.output;
        trust = trusts_on first.trust second.trust;
        ledger = λ t. second.ledger t ∙ first.ledger (second.trust.tells t);
        exit = λ h. then_so h (M.now c) (second.exit h);
        since = λ h t left le was. second.since h t left (let le_b = later h in omega (arith, le, le_b)) (first.since (back h) t left le was);
        any_moment = λ h. then_on M.moment M.left_since a b c (R (M.now a))
            (leaves_more M.moment M.left_since a b (P (M.now a)) (R (M.now a)) (first_so (back h)) (first.any_moment (back h)))
            (leaves_more M.moment M.left_since b c (Q (M.now b)) (R (M.now a)) (then_so h) (second.any_moment h));
        begun = λ said h. begun_then (M.now a).said (M.now b).said (M.now c).said (first.begun refl (back h)) (second.begun said h);
        said_first = λ said h. then_on M.moment M.left_since a b c (λ left. IsBegun left.said (M.now c).said)
            (leaves_more M.moment M.left_since a b (λ left. IsBegun left.said (M.now b).said) (λ left. IsBegun left.said (M.now c).said) (λ left so_far. begun_then left.said (M.now b).said (M.now c).said so_far (second.begun said h)) (first.said_first refl (back h)))
            (second.said_first said h);
      }

-- ---- over a volume

module _ {D S : Type 0} {M : Ghosts D} {state : S → State} {has : S → Mounted → List Placed → Type 0} {v x w : S} {a b c : D} where
  pub volume_says_after : {fault : Option ℕ} {unsaid : Bool} {P Q R : Moment → Moment → Type 0} → SaysVolume M state has None false P v x a b → SaysVolume M state has fault unsaid Q x w b c
      → (M.honest b → (left : Moment) → P (M.now a) left → R (M.now a) left) → (M.honest c → (left : Moment) → Q (M.now b) left → R (M.now a) left) → SaysVolume M state has fault unsaid R v w a c
  volume_says_after first second first_so then_so = record {
    disk = says_after first.disk second.disk first_so then_so;
    same = second.same ∙ first.same;
    stands = λ h k stands. second.stands h k (first.stands (second.disk.trust.honest h) k stands);
  }

module _ {D S : Type 0} {M : Ghosts D} {state : S → State} {has : S → Mounted → List Placed → Type 0} {v x : S} {a b : D} where
  pub volume_reads_says : {fault : Option ℕ} → ReadsVolume M state has fault v x a b → SaysVolume M state has fault false Wears v x a b
  volume_reads_says r = record { disk = reads_as_says r.disk; same = r.same; stands = r.stands }

  pub volume_says_more : {fault : Option ℕ} {unsaid : Bool} {P R : Moment → Moment → Type 0} → SaysVolume M state has fault unsaid P v x a b → (M.honest b → (left : Moment) → P (M.now a) left → R (M.now a) left) → SaysVolume M state has fault unsaid R v x a b
  volume_says_more s more = record { disk = says_more s.disk more; same = s.same; stands = s.stands }

module _ {D S : Type 0} {M : Ghosts D} {state : S → State} {has : S → Mounted → List Placed → Type 0} {v : S} {a b : D} where
  -- the volume wears while something is said
  pub volume_spoken : {unsaid : Bool} (text : List ℕ) → ((k : Known) (old new : Moment) → AreShort old.windows → Ages old new → Stands state has v k old → Stands state has v k new) → (M.honest a → AreShort (M.now a).windows)
      → ReadsAndSays M None unsaid (Utters text) a b → SaysVolume M state has None unsaid (Utters text) v v a b
  volume_spoken text wears short s = record {
    disk = s;
    same = refl;
    stands = λ h k stands. wears k (M.now a) (M.now b) (short (s.trust.honest h)) (record { image = (s.exit h).image; windows = (s.exit h).windows }) stands;
  }

-- ---- one call of the output

module _ {D : Type 0} (M : Ghosts D) (a b : D) (bytes : List ℕ) (only : (c : Moment) → M.honest a → M.left_since a (M.moment a) c → c ≡ M.now a) (trust : Trusts (M.tells a) (M.tells b) (M.honest a) (M.honest b)) (ledger : M.tells b → M.ledger b ≡ M.ledger a) (cut : M.honest b → Utters bytes (M.now a) (M.now b))
    (time : M.honest b → Elapses (M.moment a) (M.moment b) (M.left_since a) (M.left_since b) (Utters bytes (M.now a))) where
  uttered : M.honest b → LeavesOnly M.moment M.left_since a b (Utters bytes (M.now a))
  uttered h = goes_on M.moment M.left_since a a b (Utters bytes (M.now a)) (Utters bytes (M.now a)) (started M.moment M.left_since a (M.now a) (Utters bytes (M.now a)) (λ c left. only c (trust.honest h) left) (utters_none bytes (M.now a))) (time h) (λ c now. now)

  pub says_whole : {T E : Type 0} (x : T) → OutputCause {E = E} (M.report a) (M.report b) (Ok x) → (M.honest b → Says bytes (M.now a) (M.now b)) → ReadsAndSays M None false (Utters bytes) a b
  says_whole x cause said = record {
    sectors = cause.sectors;
    faults = (cause.disk, cause.place);
    input = cause.input;
    output = cause.output.stays;
    trust = trust;
    ledger = ledger;
    exit = cut;
    since = λ h. (time h).keeps;
    any_moment = uttered;
    begun = λ is h. (bytes, (said h).said);
    said_first = λ is h. leaves_more M.moment M.left_since a b (Utters bytes (M.now a)) (λ left. IsBegun left.said (M.now b).said) (λ left u. begun_part bytes (M.now a) left (M.now b) (said h) u) (uttered h);
  }

  pub says_cut : {T E : Type 0} (e : E) → OutputCause {T = T} (M.report a) (M.report b) (Err e) → ReadsAndSays M None true (Utters bytes) a b
  says_cut e cause = record {
    sectors = cause.sectors;
    faults = (cause.disk, cause.place);
    input = cause.input;
    output = cause.output.failed;
    trust = trust;
    ledger = ledger;
    exit = cut;
    since = λ h. (time h).keeps;
    any_moment = uttered;
    begun = λ is h. absurd (cc is);
    said_first = λ is h. absurd (cc is);
  }
